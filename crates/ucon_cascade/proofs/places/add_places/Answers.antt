use Rattle.std.proofs.Common.{◌≡◌, ◌∙◌, ◌∷◌, ◌++◌, ◌+◌, [], ℕ, List, get_or, take, append_assoc, ap, sym, subst}
use Rattle.std.specs.Prelude.{Some}
use Rattle.std.specs.List.{Contains}
use Rattle.std.proofs.lemmas.List.{take_all}
use Rattle.ucon_model.specs.declared.formula.Ref.{Ref}
use Rattle.ucon_model.specs.declared.session.SessionRow.{SessionRow}
use Rattle.ucon_model.specs.Reach.{location_of}
use Rattle.ucon_state.specs.Shown.{shown}
use Rattle.ucon_state.specs.Tables.{session_in}
use Rattle.ucon_cascade.specs.Numbering.{HaveNumbers, numbers_of, place_number}
use Rattle.ucon_cascade.proofs.Numbers.{have_numbers_more, members_more, numbers_more}
use Rattle.ucon_cascade.proofs.places.add_places.Goals as goal

pub loop-place-preserved : goal.loop-place-preserved
loop-place-preserved c =
    let s = shown c.args.state.now in
    let places = c.args.places.now in
    let i = c.loop-place.place-index in
    let d = c.place-item.result in
    let number = c.in-Some.number in
    let first = c.args.numbers.now.items in
    let told : (row : SessionRow) → session_in s.tables c.args.n ≡ Some row → place_number s (location_of row (get_or places i d)) ≡ Some number =
    λ row is. ap (λ (place : Ref). place_number s (location_of row place)) (sym c.place-item.is) ∙ (sym (c.place_of.ensures row is) ∙ c.in-Some.is) in
    let more : (row : SessionRow) → session_in s.tables c.args.n ≡ Some row
    → (first ++ numbers_of s row (take i places)) ++ number ∷ [] ≡ first ++ numbers_of s row (take (i + 1) places) =
    λ row is. append_assoc first (numbers_of s row (take i places)) (number ∷ [])
    ∙ ap (λ (ns : List ℕ). first ++ ns) (sym (numbers_more s row places i d number c.loop-place-test.true (told row is))) in
    record {
      numbers = λ row is m. subst (λ (ns : List ℕ). (Contains c.add_number.new.numbers.items m → Contains ns m) × (Contains ns m → Contains c.add_number.new.numbers.items m)) (more row is)
          (members_more c.loop-place.numbers.items c.add_number.new.numbers.items (first ++ numbers_of s row (take i places)) number (c.loop-place.invariant.numbers row is) c.in_ok-add_number.ensures.members m);
      distinct = c.in_ok-add_number.ensures.distinct;
      all = λ row is. have_numbers_more s row places i d number c.loop-place-test.true (told row is) (c.loop-place.invariant.all row is);
    }

pub returns-clause-numbers : goal.returns-clause-numbers
returns-clause-numbers c = λ row is m.
    let s = shown c.args.state.now in
    let places = c.args.places.now in
    let i = c.loop-place.place-index in
    let first = c.args.numbers.now.items in
    let whole : take i places ≡ places = take_all i places c.loop-place-test.false in
    subst (λ (ps : List Ref). (Contains c.loop-place.numbers.items m → Contains (first ++ numbers_of s row ps) m) × (Contains (first ++ numbers_of s row ps) m → Contains c.loop-place.numbers.items m)) whole
    (c.loop-place.invariant.numbers row is m)

pub returns-clause-all : goal.returns-clause-all
returns-clause-all c = λ row is.
    let places = c.args.places.now in
    let i = c.loop-place.place-index in
    let whole : take i places ≡ places = take_all i places c.loop-place-test.false in
    subst (HaveNumbers (shown c.args.state.now) row) whole (c.loop-place.invariant.all row is)
