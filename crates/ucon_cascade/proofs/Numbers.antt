-- The numbers of the places that a session reads, one after the other.
use Rattle.std.proofs.Common.{◌≡◌, ◌≢◌, ◌↔◌, ◌⊎◌, ◌∙◌, ◌+◌, ◌<◌, inl, inr, ℕ, zero, suc, true, false, List, [], ◌∷◌, ◌++◌, length, get_or, take, sym, ap, subst, arith}
use Rattle.std.specs.Prelude.{◌==◌, Option, Some, IsSome, is_some, option_and_then, option_map}
use Rattle.std.specs.List.{Contains, list_any}
use Rattle.std.specs.Option.{option_to_list}
use Rattle.std.proofs.lemmas.Bool.Decides.{eqb_tells}
use Rattle.std.proofs.lemmas.Grind.{flat_map-append}
use Rattle.std.proofs.lemmas.List.{take_more}
use Rattle.std.proofs.lemmas.List.Elements.{Contains-append_left, Contains-append_right, Contains-append_cases}
use Rattle.ucon_base.specs.Elements.{each_append}
use Rattle.ucon_links.specs.Lists.{IsAbsent, IsDistinct}
use Rattle.ucon_model.specs.declared.formula.Ref.{Ref}
use Rattle.ucon_model.specs.declared.session.SessionRow.{SessionRow}
use Rattle.ucon_base.specs.declared.value.Side.{Side}
use Rattle.ucon_model.specs.Plain.{Bytes}
use Rattle.ucon_model.specs.Reach.{attribute_of, location_of}
use Rattle.ucon_model.specs.Updates.{entity_of}
use Rattle.ucon_state.specs.Shown.{Shown}
use Rattle.ucon_state.specs.Tables.{cell_of, session_in}
use Rattle.ucon_cascade.specs.Numbering.{HaveNumbers, numbers_of, place_number, told}

-- ---- by the session

-- the place of an attribute of a session's own entity, by its cell
pub own_place : (s : Shown) (n : ℕ) (side : Side) (attr : Bytes) (row : SessionRow) (cell : Option ℕ) → session_in s.tables n ≡ Some row
    → cell ≡ option_and_then (λ (r : SessionRow). cell_of s.policy s.tables side (entity_of side r) attr) (session_in s.tables n)
    → told (option_map (λ c. length s.policy.envs + c) cell) ≡ place_number s (attribute_of side (entity_of side row) attr)
own_place s n side attr row cell is its =
    ap (λ (o : Option ℕ). told (option_map (λ c. length s.policy.envs + c) o))
    (its ∙ ap (option_and_then (λ (r : SessionRow). cell_of s.policy s.tables side (entity_of side r) attr)) is)

-- ---- one more

pub numbers_more : (s : Shown) (row : SessionRow) (places : List Ref) (i : ℕ) (d : Ref) (number : ℕ) → i < length places
    → place_number s (location_of row (get_or places i d)) ≡ Some number → numbers_of s row (take (i + 1) places) ≡ numbers_of s row (take i places) ++ number ∷ []
numbers_more s row places i d number within is =
    ap (numbers_of s row) (take_more places i d within)
    ∙ flat_map-append (λ place. option_to_list (place_number s (location_of row place))) (take i places) (get_or places i d ∷ [])
    ∙ ap (λ (o : Option ℕ). numbers_of s row (take i places) ++ (option_to_list o ++ [])) is

pub have_numbers_more : (s : Shown) (row : SessionRow) (places : List Ref) (i : ℕ) (d : Ref) (number : ℕ) → i < length places
    → place_number s (location_of row (get_or places i d)) ≡ Some number → HaveNumbers s row (take i places) → HaveNumbers s row (take (i + 1) places)
have_numbers_more s row places i d number within is each =
    subst (HaveNumbers s row) (sym (take_more places i d within))
    (each_append (λ place. IsSome (place_number s (location_of row place))) (take i places) (get_or places i d ∷ []) each (ap is_some is, tt))

only_one : (x n : ℕ) → Contains (x ∷ []) n → n ≡ x
only_one x n (zero, within, is) = sym is
only_one x n (suc k, within, is) = absurd (omega (arith, within))

pub members_more : (old new before : List ℕ) (number : ℕ) → ((n : ℕ) → Contains old n ↔ Contains before n) → ((n : ℕ) → Contains new n ↔ ((n ≡ number) ⊎ Contains old n))
    → (n : ℕ) → Contains new n ↔ Contains (before ++ number ∷ []) n
members_more old new before number same put n = (
  λ has. elim ((put n).0 has) [
    | inl here ↦ Contains-append_right before (number ∷ []) n (0, omega arith, sym here)
    | inr was ↦ Contains-append_left before (number ∷ []) n ((same n).0 was)
  ],
  λ has. elim (Contains-append_cases before (number ∷ []) n has) [
    | inl was ↦ (put n).1 (inr ((same n).1 was))
    | inr here ↦ (put n).1 (inl (only_one number n here))
  ],
)

-- ---- each once

pub not_among : (number : ℕ) (xs : List ℕ) → list_any (λ n. n == number) xs ≡ false → IsAbsent number xs
not_among number [] none = tt
not_among number (x ∷ xs) none = elim (eqb_tells x number) [
  | inl here ↦ absurd (let no : true ≡ false = rw here.0 at none in cc)
  | inr other ↦ (other.1, not_among number xs (let rest : list_any (λ n. n == number) xs ≡ false = rw other.0 at none in rest))
]

pub is_among : (number : ℕ) (xs : List ℕ) → list_any (λ n. n == number) xs ≡ true → Contains xs number
is_among number [] any = absurd cc
is_among number (x ∷ xs) any = elim (eqb_tells x number) [
  | inl here ↦ (0, omega arith, here.1)
  | inr other ↦
      let rest : list_any (λ n. n == number) xs ≡ true = rw other.0 at any in
      let found = is_among number xs rest in
      (suc found.0, omega (arith, found.1), found.2)
]

absent_behind : (n : ℕ) (xs : List ℕ) (last : ℕ) → IsAbsent n xs → last ≢ n → IsAbsent n (xs ++ last ∷ [])
absent_behind n [] last absent apart = (apart, tt)
absent_behind n (x ∷ xs) last absent apart = (absent.0, absent_behind n xs last absent.1 apart)

pub distinct_more : (xs : List ℕ) (last : ℕ) → IsDistinct xs → IsAbsent last xs → IsDistinct (xs ++ last ∷ [])
distinct_more [] last distinct absent = (tt, tt)
distinct_more (x ∷ xs) last distinct absent = (absent_behind x xs last distinct.0 (λ same. absent.0 (sym same)), distinct_more xs last distinct.1 absent.1)

-- whoever is there already needn't be added
pub members_still : (xs : List ℕ) (number : ℕ) → Contains xs number → (n : ℕ) → Contains xs n ↔ ((n ≡ number) ⊎ Contains xs n)
members_still xs number there n = (λ has. inr has, λ either. elim either [ inl here ↦ subst (Contains xs) (sym here) there | inr has ↦ has ])

pub members_added : (xs : List ℕ) (number n : ℕ) → Contains (xs ++ number ∷ []) n ↔ ((n ≡ number) ⊎ Contains xs n)
members_added xs number n = (
  λ has. elim (Contains-append_cases xs (number ∷ []) n has) [ inl was ↦ inr was | inr here ↦ inl (only_one number n here) ],
  λ either. elim either [
    | inl here ↦ Contains-append_right xs (number ∷ []) n (0, omega arith, sym here)
    | inr was ↦ Contains-append_left xs (number ∷ []) n was
  ],
)
