use Rattle.std.proofs.Common.{subst, sym, ap, ◌∙◌, get_or}
use Rattle.ucon_links.specs.Lists.{hide, IsListed}
use Rattle.ucon_links.proofs.Restoring.{listed_in_turn, hide_all-take-suc}
use Rattle.ucon_links.proofs.links.Links.hide_all.Goals as goal

pub hide-requires : goal.hide-requires
hide-requires c =
    subst (λ v. IsListed v (get_or c.args.nodes.now c.loop-node.node-index 0)) (sym c.loop-node.invariant)
    (listed_in_turn c.args.self.now c.args.nodes.now c.loop-node.node-index c.loop-node-test.true c.requires)

pub loop-node-preserved : goal.loop-node-preserved
loop-node-preserved c =
    c.hide.ensures.hidden ∙ ap (λ v. hide v (get_or c.args.nodes.now c.loop-node.node-index 0)) c.loop-node.invariant
    ∙ sym (hide_all-take-suc c.args.self.now c.args.nodes.now c.loop-node.node-index c.loop-node-test.true)
