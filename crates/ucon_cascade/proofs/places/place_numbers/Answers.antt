use Rattle.std.proofs.Common.{◌≡◌, ◌∙◌, ◌++◌, ◌↔◌, ℕ, List, ap, subst}
use Rattle.std.specs.List.{Contains}
use Rattle.ucon_state.specs.Shown.{shown}
use Rattle.ucon_cascade.specs.Numbering.{HaveNumbers, numbers_of, place_numbers}
use Rattle.ucon_cascade.proofs.places.place_numbers.Goals as goal

pub returns-clause-numbers : goal.returns-clause-numbers
returns-clause-numbers c = λ row is m.
    let s = shown c.args.state.now in
    let all : c.new-numbers.result.items ++ numbers_of s row c.args.places.now ≡ place_numbers s row =
    ap (λ (ns : List ℕ). ns ++ numbers_of s row c.args.places.now) c.new-numbers.ensures ∙ ap (numbers_of s row) (c.requires row is) in
    subst (λ (ns : List ℕ). Contains c.add_places.new.numbers.items m ↔ Contains ns m) all (c.in_ok-add_places.ensures.numbers row is m)

pub returns-clause-all : goal.returns-clause-all
returns-clause-all c = λ row is. subst (HaveNumbers (shown c.args.state.now) row) (c.requires row is) (c.in_ok-add_places.ensures.all row is)
