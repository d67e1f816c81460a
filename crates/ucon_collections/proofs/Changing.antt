-- What undoing does behind one more place, and behind one more change.
use Rattle.std.proofs.Common.{◌≡◌, ◌∙◌, ◌<◌, ℕ, zero, suc, ℤ, List, [], ◌∷◌, ◌++◌, Option, None, length, set, get_or, refl, ap, arith}
use Rattle.std.proofs.lemmas.Bool.Decides.{nat_tests}
use Rattle.std.proofs.lemmas.List.{length-set, set-append_left, set-get_or, set-set}
use Rattle.std.proofs.lemmas.List.Elements.{All-head, All-tail}
use Rattle.std.specs.List.{All}
use Rattle.ucon_collections.specs.Deadlines.{AreAlike, Gives, deadline_of}
use Rattle.ucon_collections.specs.Owned.{undone}
use Rattle.ucon_collections.specs.declared.owned.DeadlineChange.{DeadlineChange}

length-undone : (cs : List DeadlineChange) (ds : List (Option ℤ)) → length (undone cs ds) ≡ length ds
length-undone [] ds = refl
length-undone (c ∷ cs) ds = length-set (undone cs ds) c.session c.before ∙ length-undone cs ds

-- a place behind the changed ones stays as it is
undone-append : (cs : List DeadlineChange) (ds more : List (Option ℤ)) → All (λ c. c.session < length ds) cs → undone cs (ds ++ more) ≡ undone cs ds ++ more
undone-append [] ds more h = refl
undone-append (c ∷ cs) ds more h =
    let P : DeadlineChange → Type 0 = λ c. c.session < length ds in
    let here : c.session < length ds = All-head P c cs h in
    let rest = undone-append cs ds more (All-tail P c cs h) in
    ap (λ xs. set xs c.session c.before) rest ∙ set-append_left (undone cs ds) more c.session c.before (omega (arith, length-undone cs ds))

-- the newest change is undone first
pub undone-push : (cs : List DeadlineChange) (c : DeadlineChange) (ds : List (Option ℤ)) → undone (cs ++ c ∷ []) ds ≡ undone cs (set ds c.session c.before)
undone-push [] c ds = refl
undone-push (b ∷ cs) c ds = ap (λ xs. set xs b.session b.before) (undone-push cs c ds)

-- a change that is undone leaves what was there
pub undone-change : (cs : List DeadlineChange) (ds : List (Option ℤ)) (n : ℕ) (before deadline : Option ℤ) → before ≡ get_or ds n before → undone (cs ++ record { session = n; before = before } ∷ []) (set ds n deadline) ≡ undone cs ds
undone-change cs ds n before deadline is =
    undone-push cs (record { session = n; before = before }) (set ds n deadline) ∙ ap (undone cs) (set-set ds n deadline before ∙ ap (set ds n) is ∙ set-get_or ds n before)

-- one more place has no deadline
alike-place : (ds : List (Option ℤ)) → AreAlike ds (ds ++ None ∷ [])
alike-place [] zero = refl
alike-place [] (suc n) = refl
alike-place (d ∷ ds) zero = refl
alike-place (d ∷ ds) (suc n) = alike-place ds n

pub undone-place : (cs : List DeadlineChange) (ds : List (Option ℤ)) → All (λ c. c.session < length ds) cs → AreAlike (undone cs ds) (undone cs (ds ++ None ∷ []))
undone-place cs ds h n = ap (λ es. deadline_of es n) (undone-append cs ds (None ∷ []) h) ∙ alike-place (undone cs ds) n

-- one place is changed, and no other
pub gives-set : (ds : List (Option ℤ)) (n : ℕ) (deadline : Option ℤ) → n < length ds → Gives ds (set ds n deadline) n deadline
gives-set [] n deadline h m = absurd (omega arith)
gives-set (d ∷ ds) zero deadline h zero = refl
gives-set (d ∷ ds) zero deadline h (suc m) = grind (arith, nat_tests)
gives-set (d ∷ ds) (suc n) deadline h zero = grind (arith, nat_tests)
gives-set (d ∷ ds) (suc n) deadline h (suc m) = let rest = gives-set ds n deadline (omega arith) m in grind (arith, nat_tests)
