use Rattle.std.proofs.Common.{◌≡◌, ◌∙◌, ◌∷◌, [], List, map, take, ap, subst, sym}
use Rattle.std.specs.Prelude.{Option, Some}
use Rattle.std.specs.Option.{option_map_or}
use Rattle.std.proofs.lemmas.List.{take_all}
use Rattle.ucon_model.specs.declared.policy.Predicate.{Predicate}
use Rattle.ucon_model.specs.Plain.{PlainRight}
use Rattle.ucon_model.specs.Reach.{Timed, right_timed}
use Rattle.ucon_model.specs.Views.{predicate_of, right_of}
use Rattle.ucon_state.specs.Shown.{shown}
use Rattle.ucon_state.specs.Tables.{readings_in}
use Rattle.ucon_readers.specs.Limits.{GivesWay, IsFirstLimit, timed_parts}
use Rattle.ucon_readers.proofs.First.{first_of_more, no_limit, right_by_row, starts_at}
use Rattle.ucon_readers.proofs.limits.first_limit.Goals as goal

pub loop-p-init : goal.loop-p-init
loop-p-init c = λ row there d limit. (let s = shown c.args.state.now in no_limit (readings_in s.policy s.tables) row d limit)

pub loop-p-preserved : goal.loop-p-preserved
loop-p-preserved c = λ row there.
    let s = shown c.args.state.now in
    let R = readings_in s.policy s.tables in
    let ps = c.slice-p-items.result.now in
    let p = c.p-item.result in
    let starts = starts_at R c.args.n row c.in_ok-start.start there (sym c.in_ok-start.ensures) in
    let gives = λ (q : Predicate). GivesWay R row (timed_parts (predicate_of q ∷ [])) c.loop-p.first c.first_of_predicate-first.result in
    first_of_more R row c.loop-p.first c.first_of_predicate-first.result ps c.loop-p.p-index p c.loop-p-test.true (c.loop-p.invariant row there)
    (subst gives c.p-item.is (c.first_of_predicate-first.ensures row there starts))

pub returns-clause-first : goal.returns-clause-first
returns-clause-first c = λ row there.
    let s = shown c.args.state.now in
    let R = readings_in s.policy s.tables in
    let ps = c.slice-p-items.result.now in
    let whole : take c.loop-p.p-index ps ≡ ps = take_all c.loop-p.p-index ps c.loop-p-test.false in
    let r = right_of c.in_ok-right.right.now in
    let is = right_by_row s c.args.n row (Some r) there c.in_ok-right.ensures in
    subst (λ (parts : List Timed). IsFirstLimit R row parts c.loop-p.first)
    (ap (λ (qs : List Predicate). timed_parts (map predicate_of qs)) (whole ∙ c.slice-p-items.ensures) ∙ sym (ap (λ (r : Option PlainRight). option_map_or right_timed r []) is))
    (c.loop-p.invariant row there)
