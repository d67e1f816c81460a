use Rattle.std.proofs.Common.{◌≡◌, take}
use Rattle.ucon_links.specs.Lists.{hide_all}
use Rattle.ucon_links.proofs.links.Links.hide_all.Given as goal

abbrev pub invariant-loop-node : goal.invariant-loop-node
invariant-loop-node l = l.self ≡ hide_all l.initial.self (take l.node-index l.nodes)
