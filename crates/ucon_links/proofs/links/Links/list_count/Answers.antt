use Rattle.std.proofs.Common.{arith, ◌∙◌}
use Rattle.ucon_links.proofs.Seen.{opened}
use Rattle.ucon_links.proofs.Hiding.{length-firsts}
use Rattle.ucon_links.proofs.links.Links.list_count.Goals as goal

pub overflow_cast-result : goal.overflow_cast-result
overflow_cast-result c =
    let now = opened _ _ _ _ _ _ _ c.self.invariant c.self.view_is in
    let same = length-firsts now.holds.listed in
    let fits = now.holds.listed.count_fits in
    let len = c.len.ensures in
    omega (arith, same, fits, len, c.self.inside.table.firsts.ok)

pub returns : goal.returns
returns c =
    let now = opened _ _ _ _ _ _ _ c.self.invariant c.self.view_is in
    c.len.ensures ∙ c.self.inside.table.firsts.ok.0 ∙ length-firsts now.holds.listed
