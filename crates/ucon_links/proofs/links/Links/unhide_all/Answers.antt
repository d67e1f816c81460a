use Rattle.std.proofs.Common.{subst, sym}
use Rattle.ucon_links.specs.Lists.{Lists, AreHidden}
use Rattle.ucon_links.proofs.Restoring.{last_can_unhide, others_hidden}
use Rattle.ucon_links.proofs.links.Links.unhide_all.Goals as goal

pub unhide-requires : goal.unhide-requires
unhide-requires c =
    let before = c.loop-last.invariant.were_hidden in
    last_can_unhide before.0 c.in-Some.earlier.now c.in-Some.last.now c.loop-last.self
    (subst (λ nodes. AreHidden before.0 nodes c.loop-last.self) c.in-Some.ensures.cases.0 before.1)

pub loop-last-preserved : goal.loop-last-preserved
loop-last-preserved c =
    let earlier = λ (v : Lists) (are : AreHidden v c.loop-last.hidden.now c.loop-last.self).
    subst (AreHidden v c.in-Some.earlier.now) (sym c.unhide.ensures.back)
    (others_hidden v c.in-Some.earlier.now c.in-Some.last.now c.loop-last.self (subst (λ nodes. AreHidden v nodes c.loop-last.self) c.in-Some.ensures.cases.0 are) c.unhide.ensures.distinct) in
    let before = c.loop-last.invariant.were_hidden in
    record {
      were_hidden = (before.0, earlier before.0 before.1);
      same = λ v are. earlier v (c.loop-last.invariant.same v are);
    }
