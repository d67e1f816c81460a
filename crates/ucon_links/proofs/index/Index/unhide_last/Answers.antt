use Rattle.std.proofs.Common.{◌∙◌, ap, sym, subst, ◌⊎◌, ◌↔◌, Contains}
use Rattle.ucon_links.specs.Dependents.{Dependents, stands_in, unhide, IsNextBack}
use Rattle.ucon_links.specs.Tables.{sessions_of}
use Rattle.ucon_links.proofs.Returning.{returning_ends, step, same_session, other_session, other_newest, apart_first}
use Rattle.ucon_links.proofs.Stack.{below}
use Rattle.ucon_links.proofs.WhoStands.{unhide-stands}
use Rattle.ucon_links.proofs.index.Index.unhide_last.Goals as goal

pub unhide_newest-requires : goal.unhide_newest-requires
unhide_newest-requires c =
    let newest = sym c.last_hidden-in-loop-self.ensures ∙ same_session c.last_hidden-in-loop-self.result c.in-Some.session (sym c.eq.ensures ∙ c.loop-self-test.true) in
    let first = sym c.last_hidden.ensures ∙ c.in-Some.is in
    let apart = apart_first c.self.inside.places c.in-Some.session c.self.invariant.hidden_once first in
    (step c.in-Some.session _ c.self.inside.places c.self.inside.sessions c.loop-self.self-inside.places c.loop-self.self-inside.sessions apart newest c.loop-self.invariant).places_can

pub loop-self-preserved : goal.loop-self-preserved
loop-self-preserved c =
    let newest = sym c.last_hidden-in-loop-self.ensures ∙ same_session c.last_hidden-in-loop-self.result c.in-Some.session (sym c.eq.ensures ∙ c.loop-self-test.true) in
    let first = sym c.last_hidden.ensures ∙ c.in-Some.is in
    let apart = apart_first c.self.inside.places c.in-Some.session c.self.invariant.hidden_once first in
    let others = below (sessions_of c.self.inside.places.hidden) in
    let one = step c.in-Some.session others c.self.inside.places c.self.inside.sessions c.loop-self.self-inside.places c.loop-self.self-inside.sessions apart newest c.loop-self.invariant in
    rw (c.unhide_newest.ensures.back, c.unhide_newest-in-loop-self.ensures.back) (one.next c.unhide_newest.ensures.distinct)

pub returns-clause-back : goal.returns-clause-back
returns-clause-back c =
    let first = sym c.last_hidden.ensures ∙ c.in-Some.is in
    let other = other_newest _ _ c.last_hidden-in-loop-self.ensures (other_session c.last_hidden-in-loop-self.result c.in-Some.session (sym c.eq.ensures ∙ c.loop-self-test.false)) in
    (returning_ends c.in-Some.session c.self.inside.places c.self.inside.sessions c.loop-self.self-inside.places c.loop-self.self-inside.sessions c.self.invariant first other c.loop-self.invariant).returned
    ∙ ap unhide c.self.view_is

pub returns-clause-stands : goal.returns-clause-stands
returns-clause-stands c place session =
    subst (λ (v : Dependents). Contains (stands_in v place) session ↔ (Contains (stands_in c.args.self.now place) session ⊎ IsNextBack c.args.self.now place session)) (sym (returns-clause-back c))
    (unhide-stands c.args.self.now place session c.requires)
