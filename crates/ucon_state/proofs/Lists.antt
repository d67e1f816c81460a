-- Lists that are changed and changed back.
use Rattle.std.proofs.Common.{◌≡◌, ◌∙◌, ◌-◌, ◌+◌, IsSome, is_some, cond, if◌then◌else◌, not, true, false, ◌≤◌, Bool, None, unwrap_or, position, ℕ, zero, suc, refl, sym, ap, List, [], ◌∷◌, ◌++◌, length, take, slice_set, get_or, Some, arith}
use Rattle.std.proofs.lemmas.List.{length-append, set-set, set-get_or}
use Rattle.std.proofs.lemmas.Option.{none-some}
use Rattle.std.specs.List.{position_or_len}
use Rattle.std.proofs.Math.Seq.{take-append_seam}
use Rattle.std.specs.Map.{keys_of, lookup}
use Rattle.indexmap.specs.IndexMap.{insert_entry}
use Rattle.indexmap.proofs.MapLemmas.{Missing-position, insert_entry-absent}
use Rattle.indexmap.specs.Layout.{set_value_at}
use Rattle.ucon_state.specs.Undo.{front}
use Rattle.ucon_state.proofs.Following.Names.{not_placed}
use Rattle.ucon_state.proofs.Following.Places.{placed_where_found}

-- without what was added last
pub front_of_push : {X : Type 0} (xs : List X) (x : X) → front (xs ++ x ∷ []) ≡ xs
front_of_push xs x =
    let before : length (xs ++ x ∷ []) - 1 ≡ length xs = omega (arith, length-append xs (x ∷ [])) in
    ap (λ n. take n (xs ++ x ∷ [])) before ∙ take-append_seam xs (x ∷ [])

-- what stood at a place is written back
pub written_back : {X : Type 0} (xs : List X) (i : ℕ) (x d : X) → slice_set (slice_set xs i x) i (get_or xs i d) ≡ xs
written_back xs i x d = set-set xs i x (get_or xs i d) ∙ set-get_or xs i d

-- behind the last row nothing is written
pub written_past : {K X : Type 0} (es : List (K × X)) (i : ℕ) (x : X) → length es ≤ i → set_value_at es i x ≡ es
written_past [] i x past = refl
written_past (e ∷ es) zero x past = absurd (omega (arith, past))
written_past (e ∷ es) (suc i) x past = ap (λ rest. e ∷ rest) (written_past es i x (omega (arith, past)))

-- a row that isn't there comes behind the others
pub inserted_last : {K X : Type 0} (eq : K → K → Bool) (es : List (K × X)) (k : K) (x : X) → position (eq k) (keys_of es) ≡ None → insert_entry eq es k x ≡ es ++ (k, x) ∷ []
inserted_last eq es k x none = insert_entry-absent eq k x es (Missing-position (eq k) es none).absent

pub added_last : {K X : Type 0} (eq : K → K → Bool) (es : List (K × X)) (k : K) (x : X) → lookup (eq k) es ≡ None → insert_entry eq es k x ≡ es ++ (k, x) ∷ []
added_last eq es k x none = inserted_last eq es k x (not_placed (position (eq k) (keys_of es)) (placed_where_found (eq k) es ∙ ap is_some none))

one_more : (n : ℕ) → 1 + n ≡ suc n
one_more n = omega arith

-- the value that was written over is written back
pub value_given_back : {K X : Type 0} (eq : K → K → Bool) (es : List (K × X)) (k : K) (x before : X) → lookup (eq k) es ≡ Some before
    → set_value_at (insert_entry eq es k x) (position_or_len (eq k) (keys_of es)) before ≡ es
value_given_back eq [] k x before was = absurd (none-some before was)
value_given_back eq (e ∷ es) k x before was = by (eq k e.0) (value_given_back eq es k x before) was
  where
    by : (b : Bool)
        → (lookup (eq k) es ≡ Some before → set_value_at (insert_entry eq es k x) (position_or_len (eq k) (keys_of es)) before ≡ es)
        → cond b (Some e.1) (lookup (eq k) es) ≡ Some before
        → set_value_at (if b then (e.0, x) ∷ es else e ∷ insert_entry eq es k x) (if not b then 1 + position_or_len (eq k) (keys_of es) else 0) before ≡ e ∷ es
    by true rest was = ap (λ v. (e.0, v) ∷ es) (sym (ap (λ v. unwrap_or v before) was))
    by false rest was = ap (λ n. set_value_at (e ∷ insert_entry eq es k x) n before) (one_more (position_or_len (eq k) (keys_of es))) ∙ ap (λ es. e ∷ es) (rest was)

-- and without the row that was added behind the others they are as before
pub row_taken_back : {K X : Type 0} (eq : K → K → Bool) (es : List (K × X)) (k : K) (x : X) → lookup (eq k) es ≡ None → front (insert_entry eq es k x) ≡ es
row_taken_back eq es k x none = ap front (added_last eq es k x none) ∙ front_of_push es (k, x)

-- a row that is there keeps its place, and one that isn't is one more
pub inserted_length : {K X : Type 0} (eq : K → K → Bool) (es : List (K × X)) (k : K) (x : X) → length (insert_entry eq es k x) ≤ length es + 1
inserted_length eq [] k x = omega arith
inserted_length eq (e ∷ es) k x = by (eq k e.0) (inserted_length eq es k x)
  where
    by : (b : Bool) → length (insert_entry eq es k x) ≤ length es + 1 → length (if b then (e.0, x) ∷ es else e ∷ insert_entry eq es k x) ≤ suc (length es) + 1
    by true rest = omega arith
    by false rest = omega (arith, rest)

pub kept_length : {K X : Type 0} (eq : K → K → Bool) (es : List (K × X)) (k : K) (x : X) → IsSome (lookup (eq k) es) → length (insert_entry eq es k x) ≡ length es
kept_length eq [] k x there = cc
kept_length eq (e ∷ es) k x there = by (eq k e.0) (kept_length eq es k x) there
  where
    by : (b : Bool) → (IsSome (lookup (eq k) es) → length (insert_entry eq es k x) ≡ length es)
        → IsSome (cond b (Some e.1) (lookup (eq k) es)) → length (if b then (e.0, x) ∷ es else e ∷ insert_entry eq es k x) ≡ suc (length es)
    by true rest there = omega arith
    by false rest there = omega (arith, rest there)
