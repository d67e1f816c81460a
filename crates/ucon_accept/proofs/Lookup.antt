-- What the facts of a test tell is what is read.
use Rattle.std.proofs.Common.{◌≡◌, ◌∙◌, Bool, true, false, List, [], ◌∷◌, ◌++◌, map, refl, sym, ap}
use Rattle.std.specs.Prelude.{◌||◌, fold, Some, None, if◌then◌else◌}
use Rattle.std.specs.List.{list_any}
use Rattle.std.proofs.lemmas.List.Folds.{list_any-append}
use Rattle.ucon_model.specs.declared.formula.Ref.{Ref}
use Rattle.ucon_model.specs.declared.session.SessionRow.{SessionRow}
use Rattle.ucon_model.specs.Places.{distinct, same_place, with_place}
use Rattle.ucon_model.specs.Truth.{Readings, read_or_zero}
use Rattle.ucon_accept.specs.declared.explanation.Fact.{Fact}
use Rattle.ucon_accept.specs.Facts.{tick_fact, value_fact}
use Rattle.ucon_accept.specs.Told.{tick_told, told_else, value_told}
use Rattle.ucon_accept.proofs.Same.{place_same}

-- ---- the distinct places are all places

with_place-has : (p : Ref) (seen : List Ref) (q : Ref) → (list_any (same_place p) seen || same_place p q) ≡ true → list_any (same_place p) (with_place seen q) ≡ true
with_place-has p seen q h = by_test (list_any (same_place q) seen) refl
  where
    by_place : (b c : Bool) → list_any (same_place p) seen ≡ b → same_place p q ≡ c → list_any (same_place q) seen ≡ true → (b || c) ≡ true → list_any (same_place p) seen ≡ true
    by_place true c is same there h = is
    by_place false true is same there h = ap (λ (x : Ref). list_any (same_place x) seen) (place_same p q same) ∙ there
    by_place false false is same there h = absurd cc

    by_test : (b : Bool) → list_any (same_place q) seen ≡ b → list_any (same_place p) (if b then seen else seen ++ q ∷ []) ≡ true
    by_test true there = by_place (list_any (same_place p) seen) (same_place p q) refl refl there h
    by_test false there = list_any-append (same_place p) seen (q ∷ []) ∙ last (list_any (same_place p) seen) (same_place p q) h
      where
        last : (a b : Bool) → (a || b) ≡ true → (a || (b || false)) ≡ true
        last true b h = refl
        last false true h = refl
        last false false h = absurd cc

fold-has : (p : Ref) (seen ps : List Ref) → (list_any (same_place p) seen || list_any (same_place p) ps) ≡ true → list_any (same_place p) (fold with_place seen ps) ≡ true
fold-has p seen [] h = without (list_any (same_place p) seen) h
  where
    without : (a : Bool) → (a || false) ≡ true → a ≡ true
    without true h = refl
    without false h = absurd cc
fold-has p seen (q ∷ ps) h =
    fold-has p (with_place seen q) ps
    (moved (list_any (same_place p) seen) (same_place p q) (list_any (same_place p) ps) (list_any (same_place p) (with_place seen q)) h (with_place-has p seen q))
  where
    moved : (a b c d : Bool) → (a || (b || c)) ≡ true → ((a || b) ≡ true → d ≡ true) → (d || c) ≡ true
    moved true b c d h one = ap (λ (x : Bool). x || c) (one refl)
    moved false true c d h one = ap (λ (x : Bool). x || c) (one refl)
    moved false false true true h one = refl
    moved false false true false h one = refl
    moved false false false d h one = absurd cc

pub distinct-has : (p : Ref) (ps : List Ref) → list_any (same_place p) ps ≡ true → list_any (same_place p) (distinct ps) ≡ true
distinct-has p ps h = fold-has p [] ps h

-- ---- what the facts tell

-- a place that they tell of holds what is read there
pub value_told-facts : (R : Readings) (row : SessionRow) (ps : List Ref) (rest : List Fact) (p : Ref) → list_any (same_place p) ps ≡ true
    → value_told (map (value_fact R row) ps ++ rest) p ≡ Some (read_or_zero (R.at row p))
value_told-facts R row [] rest p h = absurd cc
value_told-facts R row (q ∷ ps) rest p h = by_test (same_place p q) refl h (value_told-facts R row ps rest p)
  where
    by_test : (b : Bool) → same_place p q ≡ b → (b || list_any (same_place p) ps) ≡ true
        → (list_any (same_place p) ps ≡ true → value_told (map (value_fact R row) ps ++ rest) p ≡ Some (read_or_zero (R.at row p)))
        → told_else (if b then Some (read_or_zero (R.at row q)) else None) (value_told (map (value_fact R row) ps ++ rest) p) ≡ Some (read_or_zero (R.at row p))
    by_test true same h on = ap (λ (x : Ref). Some (read_or_zero (R.at row x))) (sym (place_same p q same))
    by_test false same h on = on h

-- the tick behind the places
pub tick_told-facts : (R : Readings) (row : SessionRow) (ps : List Ref) → tick_told (map (value_fact R row) ps ++ tick_fact R true) ≡ R.now
tick_told-facts R row [] = refl
tick_told-facts R row (p ∷ ps) = tick_told-facts R row ps
