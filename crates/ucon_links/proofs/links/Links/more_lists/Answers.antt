use Rattle.std.proofs.Common.{ap, ◌+◌}
use Rattle.ucon_links.proofs.Seen.{opened}
use Rattle.ucon_links.proofs.Growing.{resized}
use Rattle.ucon_links.proofs.Steps.{lists_leave}
use Rattle.ucon_links.proofs.links.Links.more_lists.Goals as goal

pub invariant_of-self-2 : goal.invariant_of-self-2
invariant_of-self-2 c =
    let now = opened _ _ _ _ _ _ _ c.self.invariant c.self.view_is in
    let size = resized c.self.inside.table.firsts.items _ _ c.args.n (ap (λ len. len + c.args.n) c.len-len.ensures) c.self.inside.table.firsts.ok.0 in
    rw (c.in_ok-resize.ensures.items, size) (lists_leave _ _ _ _ _ _ _ now c.args.n c.requires).is_sound

pub returns-clause-ok : goal.returns-clause-ok
returns-clause-ok c =
    let now = opened _ _ _ _ _ _ _ c.self.invariant c.self.view_is in
    let size = resized c.self.inside.table.firsts.items _ _ c.args.n (ap (λ len. len + c.args.n) c.len-len.ensures) c.self.inside.table.firsts.ok.0 in
    rw (c.in_ok-resize.ensures.items, size) (lists_leave _ _ _ _ _ _ _ now c.args.n c.requires).seen_as
