-- Of which sides a right's ongoing predicates read.
use Rattle.std.proofs.Common.{◌≡◌, ◌∙◌, Bool, true, false, cond, List, [], ◌∷◌, ◌++◌, filter, map, refl, sym}
use Rattle.std.specs.Prelude.{◌&&◌, ◌||◌, fold}
use Rattle.std.specs.List.{flat_map, list_any}
use Rattle.std.proofs.lemmas.List.Folds.{list_any-append}
use Rattle.ucon_model.specs.declared.formula.Ref.{Ref}
use Rattle.ucon_model.specs.declared.policy.Predicate.{Predicate}
use Rattle.ucon_model.specs.Decision.{ongoing}
use Rattle.ucon_model.specs.Places.{distinct, same_place, test_places, with_place}
use Rattle.ucon_model.specs.Views.{predicate_of}

neither : (a b : Bool) → (a || b) ≡ false → (a ≡ false) × (b ≡ false)
neither true b off = absurd cc
neither false b off = (refl, off)

pub any_of_one : (q : Ref → Bool) (x : Ref) → q x ≡ list_any q (x ∷ [])
any_of_one q x = by (q x)
  where
    by : (b : Bool) → b ≡ (b || false)
    by true = refl
    by false = refl

pub any_of_both : (q : Ref → Bool) (xs ys : List Ref) → (list_any q xs || list_any q ys) ≡ list_any q (xs ++ ys)
any_of_both q xs ys = sym (list_any-append q xs ys)

none_behind : (q : Ref → Bool) (xs : List Ref) (x : Ref) → list_any q xs ≡ false → q x ≡ false → list_any q (xs ++ x ∷ []) ≡ false
none_behind q xs x none off = list_any-append q xs (x ∷ []) ∙ rw none (sym (any_of_one q x) ∙ off)

none_with : (q : Ref → Bool) (before : List Ref) (p : Ref) → list_any q before ≡ false → q p ≡ false → list_any q (with_place before p) ≡ false
none_with q before p none off = by (list_any (same_place p) before)
  where
    by : (b : Bool) → list_any q (cond b before (before ++ p ∷ [])) ≡ false
    by true = none
    by false = none_behind q before p none off

none_from : (q : Ref → Bool) (before places : List Ref) → list_any q before ≡ false → list_any q places ≡ false → list_any q (fold with_place before places) ≡ false
none_from q before [] none off = none
none_from q before (p ∷ places) none off =
    let parts = neither (q p) (list_any q places) off in
    none_from q (with_place before p) places (none_with q before p none parts.0) parts.1

-- of what none is among these, none is among each of them once
pub none_distinct : (q : Ref → Bool) (places : List Ref) → list_any q places ≡ false → list_any q (distinct places) ≡ false
none_distinct q places off = none_from q [] places refl off

-- predicates of which none is ongoing and reads such a place read none while the usage goes on
pub none_read_while : (q : Ref → Bool) (ps : List Predicate) → list_any (λ p. ongoing (predicate_of p) && list_any q (test_places (predicate_of p).test)) ps ≡ false
    → list_any q (flat_map (λ p. test_places p.test) (filter ongoing (map predicate_of ps))) ≡ false
none_read_while q [] off = refl
none_read_while q (p ∷ ps) off =
    let parts = neither (ongoing (predicate_of p) && list_any q (test_places (predicate_of p).test))
    (list_any (λ p. ongoing (predicate_of p) && list_any q (test_places (predicate_of p).test)) ps) off in
    by (ongoing (predicate_of p)) parts.0 (none_read_while q ps parts.1)
  where
    by : (b : Bool) → (b && list_any q (test_places (predicate_of p).test)) ≡ false
        → list_any q (flat_map (λ p. test_places p.test) (filter ongoing (map predicate_of ps))) ≡ false
        → list_any q (flat_map (λ p. test_places p.test) (cond b (predicate_of p ∷ filter ongoing (map predicate_of ps)) (filter ongoing (map predicate_of ps)))) ≡ false
    by true here rest =
        list_any-append q (test_places (predicate_of p).test) (flat_map (λ p. test_places p.test) (filter ongoing (map predicate_of ps))) ∙ rw here rest
    by false here rest = rest
