-- Places in lists: what stands there after a write and after something was added, and where something stands first.
use Rattle.std.proofs.Common.{◌≡◌, ◌∙◌, subst, ◌⊎◌, inl, inr, sym, ap, ℕ, zero, suc, ◌+◌, ◌<◌, ◌≤◌, Bool, true, false, cond, List, [], ◌∷◌, ◌++◌, length, map, refl, arith}
use Rattle.std.specs.Prelude.{◌≢◌, nat_lt, Option, Some, None, option_map, option_and_then, slice_get, slice_set, position, find, IsSomeAnd, is_some}
use Rattle.std.specs.List.{position_or_len}
use Rattle.std.specs.Map.{lookup}
use Rattle.std.proofs.lemmas.Option.{same_Some}
use Rattle.std.proofs.lemmas.Bool.{cases_lt, lt-ltb, le-ltb}

-- one place further, where it is below one more
shifted : (k n : ℕ) → cond (nat_lt (1 + k) (suc n)) (Some (1 + k)) None ≡ option_map suc (cond (nat_lt k n) (Some k) None)
shifted k n = by_order (cases_lt k n)
  where
    by_order : (k < n) ⊎ (n ≤ k) → cond (nat_lt (1 + k) (suc n)) (Some (1 + k)) None ≡ option_map suc (cond (nat_lt k n) (Some k) None)
    by_order (inl lt) = rw (lt-ltb (1 + k) (suc n) (omega arith), lt-ltb k n lt) (ap (λ (m : ℕ). Some m) (omega arith))
    by_order (inr le) = rw (le-ltb (1 + k) (suc n) (omega arith), le-ltb k n le) refl

kept_by : (i : ℕ) (b : Bool) (o o' : Option ℕ) → ((j : ℕ) → o ≡ Some j → o' ≡ Some j)
    → cond b (Some 0) (option_map suc o) ≡ Some i → cond b (Some 0) (option_map suc o') ≡ Some i
kept_by i true o o' rest e = e
kept_by i false None o' rest e = absurd cc
kept_by i false (Some j) o' rest e = ap (option_map suc) (rest j refl) ∙ e

new_by : (b c : Bool) (n : ℕ) (o o' : Option ℕ) → (o ≡ None → o' ≡ cond c (Some n) None)
    → cond b (Some 0) (option_map suc o) ≡ None → cond b (Some 0) (option_map suc o') ≡ cond c (Some (suc n)) None
new_by true c n o o' rest e = absurd cc
new_by false c n (Some j) o' rest e = absurd cc
new_by false true n None o' rest e = ap (option_map suc) (rest refl)
new_by false false n None o' rest e = ap (option_map suc) (rest refl)

module _ {X : Type 0} where
  -- ---- after a write

  pub set_here : (xs : List X) (i : ℕ) (x : X) → i < length xs → slice_get (slice_set xs i x) i ≡ Some x
  set_here [] i x h = absurd (omega arith)
  set_here (y ∷ xs) zero x h = refl
  set_here (y ∷ xs) (suc i) x h = set_here xs i x (omega arith)

  pub set_elsewhere : (xs : List X) (i j : ℕ) (x : X) → i ≢ j → slice_get (slice_set xs i x) j ≡ slice_get xs j
  set_elsewhere [] i j x other = refl
  set_elsewhere (y ∷ xs) zero zero x other = absurd (other refl)
  set_elsewhere (y ∷ xs) zero (suc j) x other = refl
  set_elsewhere (y ∷ xs) (suc i) zero x other = refl
  set_elsewhere (y ∷ xs) (suc i) (suc j) x other = set_elsewhere xs i j x (λ e. other (ap suc e))

  -- ---- after something was added

  pub still_there : (xs ys : List X) (i : ℕ) → i < length xs → slice_get (xs ++ ys) i ≡ slice_get xs i
  still_there [] ys i h = absurd (omega arith)
  still_there (x ∷ xs) ys zero h = refl
  still_there (x ∷ xs) ys (suc i) h = still_there xs ys i (omega arith)

  pub added_there : (xs ys : List X) (i k : ℕ) → i ≡ length xs + k → slice_get (xs ++ ys) i ≡ slice_get ys k
  added_there [] ys i k e = ap (slice_get ys) (omega arith)
  added_there (x ∷ xs) ys zero k e = absurd (omega arith)
  added_there (x ∷ xs) ys (suc i) k e = added_there xs ys i k (omega arith)

  pub is_there : (xs : List X) (i : ℕ) (x : X) → slice_get xs i ≡ Some x → i < length xs
  is_there [] i x e = absurd cc
  is_there (y ∷ xs) zero x e = omega arith
  is_there (y ∷ xs) (suc i) x e = omega (arith, is_there xs i x e)

  pub not_there : (xs : List X) (i : ℕ) → length xs ≤ i → slice_get xs i ≡ None
  not_there [] i h = refl
  not_there (x ∷ xs) zero h = absurd (omega arith)
  not_there (x ∷ xs) (suc i) h = not_there xs i (omega arith)

  -- ---- where something stands first

  first_by : (p : X → Bool) (x : X) (xs : List X) (b : Bool) → p x ≡ b
      → position p (x ∷ xs) ≡ cond b (Some 0) (option_map suc (position p xs))
  first_by p x xs true is = rw is (rw (lt-ltb 0 (suc (length xs)) (omega arith)) refl)
  first_by p x xs false is = rw is (shifted (position_or_len p xs) (length xs))

  pub position-cons : (p : X → Bool) (x : X) (xs : List X) → position p (x ∷ xs) ≡ cond (p x) (Some 0) (option_map suc (position p xs))
  position-cons p x xs = first_by p x xs (p x) refl

  -- what stands at the place is the first that passes
  found_by : (p : X → Bool) (x : X) (xs : List X) (b : Bool) → option_and_then (slice_get xs) (position p xs) ≡ find p xs
      → option_and_then (slice_get (x ∷ xs)) (cond b (Some 0) (option_map suc (position p xs))) ≡ cond b (Some x) (find p xs)
  found_by p x xs true rest = refl
  found_by p x xs false rest = one_less (position p xs) ∙ rest
    where
      one_less : (o : Option ℕ) → option_and_then (slice_get (x ∷ xs)) (option_map suc o) ≡ option_and_then (slice_get xs) o
      one_less None = refl
      one_less (Some i) = refl

  pub found_there : (p : X → Bool) (xs : List X) → option_and_then (slice_get xs) (position p xs) ≡ find p xs
  found_there p [] = refl
  found_there p (x ∷ xs) = ap (option_and_then (slice_get (x ∷ xs))) (position-cons p x xs) ∙ found_by p x xs (p x) (found_there p xs)

  -- what stands at the place passes
  passes_by : (p : X → Bool) (x : X) (xs : List X) (i : ℕ) (b : Bool) (o : Option ℕ) → p x ≡ b
      → ((j : ℕ) → o ≡ Some j → IsSomeAnd (slice_get xs j) (λ y. p y ≡ true))
      → cond b (Some 0) (option_map suc o) ≡ Some i → IsSomeAnd (slice_get (x ∷ xs) i) (λ y. p y ≡ true)
  passes_by p x xs i true o here rest e = subst (λ (k : ℕ). IsSomeAnd (slice_get (x ∷ xs) k) (λ y. p y ≡ true)) (same_Some 0 i e) here
  passes_by p x xs i false None here rest e = absurd cc
  passes_by p x xs i false (Some j) here rest e = subst (λ (k : ℕ). IsSomeAnd (slice_get (x ∷ xs) k) (λ y. p y ≡ true)) (same_Some (suc j) i e) (rest j refl)

  pub passes_there : (p : X → Bool) (xs : List X) (i : ℕ) → position p xs ≡ Some i → IsSomeAnd (slice_get xs i) (λ x. p x ≡ true)
  passes_there p [] i e = absurd cc
  passes_there p (x ∷ xs) i e =
      passes_by p x xs i (p x) (position p xs) refl (λ j is. passes_there p xs j is) (sym (position-cons p x xs) ∙ e)

  -- so it is within the list
  within_by : (Q : X → Type 0) (xs : List X) (i : ℕ) (o : Option X) → slice_get xs i ≡ o → IsSomeAnd o Q → i < length xs
  within_by Q xs i None is h = absurd h
  within_by Q xs i (Some x) is h = is_there xs i x is

  pub place_within : (p : X → Bool) (xs : List X) (i : ℕ) → position p xs ≡ Some i → i < length xs
  place_within p xs i e = within_by (λ x. p x ≡ true) xs i (slice_get xs i) refl (passes_there p xs i e)

  -- two tests that pass at one place pass for one item
  both_by : (p q : X → Bool) (o : Option X) → IsSomeAnd o (λ x. p x ≡ true) → IsSomeAnd o (λ x. q x ≡ true) → (x : X) × (p x ≡ true) × (q x ≡ true)
  both_by p q None h k = absurd h
  both_by p q (Some x) h k = (x, h, k)

  pub both_pass : (p q : X → Bool) (xs : List X) (i : ℕ) → position p xs ≡ Some i → position q xs ≡ Some i → (x : X) × (p x ≡ true) × (q x ≡ true)
  both_pass p q xs i e f = both_by p q (slice_get xs i) (passes_there p xs i e) (passes_there q xs i f)

  -- ---- where something stands first, after one more

  pub place_kept : (p : X → Bool) (xs : List X) (x : X) (i : ℕ) → position p xs ≡ Some i → position p (xs ++ x ∷ []) ≡ Some i
  place_kept p [] x i e = absurd cc
  place_kept p (y ∷ xs) x i e =
      position-cons p y (xs ++ x ∷ []) ∙ kept_by i (p y) (position p xs) (position p (xs ++ x ∷ [])) (λ j is. place_kept p xs x j is) (sym (position-cons p y xs) ∙ e)

  pub place_new : (p : X → Bool) (xs : List X) (x : X) → position p xs ≡ None → position p (xs ++ x ∷ []) ≡ cond (p x) (Some (length xs)) None
  place_new p [] x e = position-cons p x []
  place_new p (y ∷ xs) x e =
      position-cons p y (xs ++ x ∷ []) ∙ new_by (p y) (p x) (length xs) (position p xs) (position p (xs ++ x ∷ [])) (place_new p xs x) (sym (position-cons p y xs) ∙ e)

-- ---- keys with their values, in two lists

-- the value at the place of the first key that passes
abbrev pub value_of_first : {K V : Type 0} → (K → Bool) → List K → List V → Option V
value_of_first p keys values = option_and_then (slice_get values) (position p keys)

leaves_by : {V : Type 0} (values : List V) (i : ℕ) (v : V) (o : Option ℕ) → ((j : ℕ) → o ≡ Some j → i ≢ j) → option_and_then (slice_get (slice_set values i v)) o ≡ option_and_then (slice_get values) o
leaves_by values i v None other = refl
leaves_by values i v (Some j) other = set_elsewhere values i j v (other j refl)

module _ {K V : Type 0} (keys : List K) (values : List V) (aligned : length values ≡ length keys) where
  pub new_key_gives : (p : K → Bool) (key : K) (v : V) → position p keys ≡ None → p key ≡ true → value_of_first p (keys ++ key ∷ []) (values ++ v ∷ []) ≡ Some v
  new_key_gives p key v none passes =
      ap (option_and_then (slice_get (values ++ v ∷ []))) (place_new p keys key none ∙ ap (λ b. cond b (Some (length keys)) None) passes)
      ∙ added_there values (v ∷ []) (length keys) 0 (omega arith)

  other_by : (p : K → Bool) (key : K) (v : V) (o : Option ℕ) → position p keys ≡ o → p key ≡ false
      → value_of_first p (keys ++ key ∷ []) (values ++ v ∷ []) ≡ option_and_then (slice_get values) o
  other_by p key v None is off = ap (option_and_then (slice_get (values ++ v ∷ []))) (place_new p keys key is ∙ ap (λ b. cond b (Some (length keys)) None) off)
  other_by p key v (Some i) is off =
      let within : i < length keys = place_within p keys i is in
      ap (option_and_then (slice_get (values ++ v ∷ []))) (place_kept p keys key i is) ∙ still_there values (v ∷ []) i (omega arith)

  pub new_key_leaves : (p : K → Bool) (key : K) (v : V) → p key ≡ false → value_of_first p (keys ++ key ∷ []) (values ++ v ∷ []) ≡ value_of_first p keys values
  new_key_leaves p key v off = other_by p key v (position p keys) refl off

  pub written_gives : (p : K → Bool) (i : ℕ) (v : V) → position p keys ≡ Some i → value_of_first p keys (slice_set values i v) ≡ Some v
  written_gives p i v is =
      let within : i < length keys = place_within p keys i is in
      ap (option_and_then (slice_get (slice_set values i v))) is ∙ set_here values i v (omega arith)

  -- no key passes both tests
  pub written_leaves : (p q : K → Bool) (i : ℕ) (v : V) → position p keys ≡ Some i → ((key : K) → p key ≡ true → q key ≡ true → ⊥)
      → value_of_first q keys (slice_set values i v) ≡ value_of_first q keys values
  written_leaves p q i v is apart =
      leaves_by values i v (position q keys) (λ j e same. let both = both_pass p q keys j (is ∙ ap (λ (k : ℕ). Some k) same) e in apart both.0 both.1 both.2)

-- ---- keys with their values, in one list

found_still_by : {V : Type 0} (b : Bool) (v w : V) (o o' : Option V) → (o ≡ Some v → o' ≡ Some v) → cond b (Some w) o ≡ Some v → cond b (Some w) o' ≡ Some v
found_still_by true v w o o' rest e = e
found_still_by false v w o o' rest e = rest e

found_new_by : {V : Type 0} (b c : Bool) (v w : V) (o o' : Option V) → (o ≡ None → o' ≡ cond c (Some v) None) → cond b (Some w) o ≡ None → cond b (Some w) o' ≡ cond c (Some v) None
found_new_by true c v w o o' rest e = absurd cc
found_new_by false c v w o o' rest e = rest e

module _ {K V : Type 0} (test : K → Bool) where
  pub found_still : (es : List (K × V)) (e : K × V) (v : V) → lookup test es ≡ Some v → lookup test (es ++ e ∷ []) ≡ Some v
  found_still [] e v is = absurd cc
  found_still (d ∷ es) e v is = found_still_by (test d.0) v d.1 (lookup test es) (lookup test (es ++ e ∷ [])) (found_still es e v) is

  pub found_new : (es : List (K × V)) (e : K × V) → lookup test es ≡ None → lookup test (es ++ e ∷ []) ≡ cond (test e.0) (Some e.1) None
  found_new [] e none = refl
  found_new (d ∷ es) e none = found_new_by (test d.0) (test e.0) e.1 d.1 (lookup test es) (lookup test (es ++ e ∷ [])) (found_new es e) none

  -- what is read by a key's place is read by the key
  read_by : {W : Type 0} (b : Bool) (e : K × V) (es : List (K × V)) (g : V → Option W) (o : Option ℕ) (v : Option V)
      → option_and_then (λ i. option_and_then (λ d. g d.1) (slice_get es i)) o ≡ option_and_then g v
      → option_and_then (λ i. option_and_then (λ d. g d.1) (slice_get (e ∷ es) i)) (cond b (Some 0) (option_map suc o)) ≡ option_and_then g (cond b (Some e.1) v)
  read_by true e es g o v rest = refl
  read_by false e es g None v rest = rest
  read_by false e es g (Some i) v rest = rest

  pub read_by_place : {W : Type 0} (es : List (K × V)) (g : V → Option W)
      → option_and_then (λ i. option_and_then (λ d. g d.1) (slice_get es i)) (position test (map (λ d. d.0) es)) ≡ option_and_then g (lookup test es)
  read_by_place [] g = refl
  read_by_place (e ∷ es) g =
      ap (option_and_then (λ i. option_and_then (λ d. g d.1) (slice_get (e ∷ es) i))) (position-cons test e.0 (map (λ d. d.0) es))
      ∙ read_by (test e.0) e es g (position test (map (λ d. d.0) es)) (lookup test es) (read_by_place es g)

  -- a key has a place where it has a value
  placed_by : (b : Bool) (v : V) (o : Option ℕ) (found : Option V) → is_some o ≡ is_some found → is_some (cond b (Some 0) (option_map suc o)) ≡ is_some (cond b (Some v) found)
  placed_by true v o found rest = refl
  placed_by false v None found rest = rest
  placed_by false v (Some i) found rest = rest

  pub placed_where_found : (es : List (K × V)) → is_some (position test (map (λ d. d.0) es)) ≡ is_some (lookup test es)
  placed_where_found [] = refl
  placed_where_found (e ∷ es) =
      ap is_some (position-cons test e.0 (map (λ d. d.0) es)) ∙ placed_by (test e.0) e.1 (position test (map (λ d. d.0) es)) (lookup test es) (placed_where_found es)

-- what passes first has a place
pub placed_where_first : {X : Type 0} (p : X → Bool) (xs : List X) → is_some (position p xs) ≡ is_some (find p xs)
placed_where_first p [] = refl
placed_where_first p (x ∷ xs) = ap is_some (position-cons p x xs) ∙ placed_by p (p x) x (position p xs) (find p xs) (placed_where_first p xs)
