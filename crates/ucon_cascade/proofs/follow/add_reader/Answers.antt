use Rattle.std.proofs.Common.{ℕ, List, None, Some, ap, inl, inr, refl, subst, sym}
use Rattle.ucon_model.specs.Views.{right_of}
use Rattle.ucon_state.specs.Shown.{shown}
use Rattle.ucon_readers.specs.Listing.{ComesTo}
use Rattle.ucon_cascade.specs.Grouping.{GetsFirst}
use Rattle.ucon_cascade.specs.Numbering.{HaveNumbers, numbers_of, place_numbers}
use Rattle.ucon_readers.specs.Readers.{first_of, readers_at}
use Rattle.ucon_cascade.proofs.Asking.{no_places_there, right_by_row}
use Rattle.ucon_cascade.proofs.Begun.{joined_comes}
use Rattle.ucon_cascade.proofs.Kindred.{may_lead}
use Rattle.ucon_cascade.proofs.Outcomes.{on_ok, ok_then}
use Rattle.ucon_cascade.proofs.follow.add_reader.Goals as goal

pub returns-in_default-clause-comes : goal.returns-in_default-clause-comes
returns-in_default-clause-comes c =
    let s = shown c.args.state.now in
    let told = rw c.in_default.is at c.right.ensures in
    ok_then c.lead.result
    (λ comes row is. subst (λ (ns : List ℕ). ComesTo (readers_at c.args.readers.now) (readers_at c.lead.new.self) c.args.n ns)
    (sym (ap (numbers_of s row) (no_places_there s.policy row (right_by_row s c.args.n row None is told)))) comes)
    c.lead.ensures.comes

pub returns-in_default-clause-numbered : goal.returns-in_default-clause-numbered
returns-in_default-clause-numbered c =
    let s = shown c.args.state.now in
    let told = rw c.in_default.is at c.right.ensures in
    on_ok c.lead.result (λ row is. subst (HaveNumbers s row) (sym (no_places_there s.policy row (right_by_row s c.args.n row None is told))) tt)

pub lead_list-requires-clause-right : goal.lead_list-requires-clause-right
lead_list-requires-clause-right c = λ row is.
    right_by_row (shown c.args.state.now) c.args.n row (Some (right_of c.in-Some.right.now)) is c.in-Some.ensures

pub returns-in-Some-first_of_kind-clause-comes : goal.returns-in-Some-first_of_kind-clause-comes
returns-in-Some-first_of_kind-clause-comes c =
    let s = shown c.args.state.now in
    let found = c.in-Some-first_of_kind.ensures in
    let its = c.in-Some-kind_of.ensures in
    let may = may_lead c.args.state.now (first_of c.args.readers.now) c.args.n c.in-Some-first_of_kind.first c.in-Some-kind_of.kind (right_of c.in-Some.right.now)
    found.below found.on found.itself found.kind its.kind c.in-Some.ensures its.untimed its.subject its.object in
    ok_then c.join.result
    (λ comes row is. (joined_comes s c.args.readers.now c.join.new.self c.args.n c.in-Some-first_of_kind.first row is may found.stands c.requires.exact comes).0)
    c.join.ensures.comes

pub returns-in-Some-first_of_kind-clause-numbered : goal.returns-in-Some-first_of_kind-clause-numbered
returns-in-Some-first_of_kind-clause-numbered c =
    let s = shown c.args.state.now in
    let found = c.in-Some-first_of_kind.ensures in
    let its = c.in-Some-kind_of.ensures in
    let may = may_lead c.args.state.now (first_of c.args.readers.now) c.args.n c.in-Some-first_of_kind.first c.in-Some-kind_of.kind (right_of c.in-Some.right.now)
    found.below found.on found.itself found.kind its.kind c.in-Some.ensures its.untimed its.subject its.object in
    ok_then c.join.result
    (λ comes row is. (joined_comes s c.args.readers.now c.join.new.self c.args.n c.in-Some-first_of_kind.first row is may found.stands c.requires.exact comes).1)
    c.join.ensures.comes

pub returns-in-Some-first_of_kind-clause-first : goal.returns-in-Some-first_of_kind-clause-first
returns-in-Some-first_of_kind-clause-first c =
    let found = c.in-Some-first_of_kind.ensures in
    let its = c.in-Some-kind_of.ensures in
    let may = may_lead c.args.state.now (first_of c.args.readers.now) c.args.n c.in-Some-first_of_kind.first c.in-Some-kind_of.kind (right_of c.in-Some.right.now)
    found.below found.on found.itself found.kind its.kind c.in-Some.ensures its.untimed its.subject its.object in
    ok_then c.join.result (λ joins. record { first = c.in-Some-first_of_kind.first; joins = joins found.itself found.below; may = inr may }) c.join.ensures.joins

pub returns-clause-comes : goal.returns-clause-comes
returns-clause-comes c =
    on_ok c.remember.result
    (λ row is. subst (λ (standing : ℕ → List ℕ). ComesTo (readers_at c.args.readers.now) standing c.args.n (place_numbers (shown c.args.state.now) row))
    (sym c.remember.ensures.read) (c.in_ok-lead_list.ensures.comes row is))

pub returns-clause-first : goal.returns-clause-first
returns-clause-first c =
    on_ok c.remember.result
    (subst (λ (first : ℕ → ℕ). GetsFirst (shown c.args.state.now) (first_of c.args.readers.now) first c.args.n) (sym c.remember.ensures.firsts)
    (record { first = c.args.n; joins = c.in_ok-lead_list.ensures.alone; may = inl refl }))

pub returns-clause-undo : goal.returns-clause-undo
returns-clause-undo c = c.remember.ensures.undo (readers_at c.args.readers.now) (first_of c.args.readers.now) c.in_ok-lead_list.ensures.undo
