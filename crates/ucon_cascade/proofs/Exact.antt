-- The readers stay exact over a change.
use Rattle.std.proofs.Common.{◌≡◌, ◌≢◌, ◌∙◌, ◌⊎◌, inl, inr, ◌+◌, ℕ, List, [], ◌∷◌, ◌++◌, length, refl, sym, ap, subst}
use Rattle.std.specs.Prelude.{Option, Some, None, IsSome, is_some, option_map}
use Rattle.std.specs.List.{Contains, flat_map}
use Rattle.std.specs.Option.{option_to_list}
use Rattle.std.proofs.lemmas.Bool.Decides.{eqb_tells}
use Rattle.ucon_actions.specs.Leads.{KeepsBase}
use Rattle.ucon_base.specs.Elements.{Each}
use Rattle.ucon_base.specs.declared.value.Side.{Side}
use Rattle.ucon_model.specs.declared.formula.Ref.{Ref}
use Rattle.ucon_model.specs.declared.session.SessionRow.{SessionRow}
use Rattle.ucon_model.specs.Plain.{Bytes, PlainPolicy}
use Rattle.ucon_model.specs.Reach.{Location, attribute_of, variable_of, location_of, places_of}
use Rattle.ucon_model.specs.Readings.{env_position}
use Rattle.ucon_model.specs.Usages.{going_on}
use Rattle.ucon_state.specs.Shown.{Shown}
use Rattle.ucon_state.specs.Tables.{cell_of, session_in}
use Rattle.ucon_cascade.specs.Numbering.{AreNumbered, IsExact, ReadsPlace, place_number, place_numbers, told}

-- ---- the numbers stay

cell_stays : (s s' : Shown) → KeepsBase s s' → (side : Side) (name attr : Bytes) (o : Option ℕ) → cell_of s.policy s.tables side name attr ≡ o
    → IsSome (told (option_map (λ cell. length s.policy.envs + cell) o))
    → place_number s' (attribute_of side name attr) ≡ told (option_map (λ cell. length s.policy.envs + cell) o)
cell_stays s s' base side name attr None is some = absurd cc
cell_stays s s' base side name attr (Some cell) is some =
    ap (λ (o : Option ℕ). told (option_map (λ cell. length s'.policy.envs + cell) o)) (base.cells side name attr cell is)
    ∙ ap (λ (Q : PlainPolicy). told (Some (length Q.envs + cell))) base.policy

pub place_stays : (s s' : Shown) → KeepsBase s s' → (location : Location) → IsSome (place_number s location) → place_number s' location ≡ place_number s location
place_stays s s' base (variable_of name) some = ap (λ (Q : PlainPolicy). told (env_position Q name)) base.policy
place_stays s s' base (attribute_of side name attr) some = cell_stays s s' base side name attr (cell_of s.policy s.tables side name attr) refl some

numbers_among : (s s' : Shown) → KeepsBase s s' → (row : SessionRow) (places : List Ref) → Each (λ place. IsSome (place_number s (location_of row place))) places
    → flat_map (λ place. option_to_list (place_number s' (location_of row place))) places ≡ flat_map (λ place. option_to_list (place_number s (location_of row place))) places
numbers_among s s' base row [] each = refl
numbers_among s s' base row (place ∷ rest) each =
    ap (λ (o : Option ℕ). option_to_list o ++ flat_map (λ place. option_to_list (place_number s' (location_of row place))) rest) (place_stays s s' base (location_of row place) each.0)
    ∙ ap (λ (ns : List ℕ). option_to_list (place_number s (location_of row place)) ++ ns) (numbers_among s s' base row rest each.1)

pub numbers_stay : (s s' : Shown) → KeepsBase s s' → (row : SessionRow) → AreNumbered s row → place_numbers s' row ≡ place_numbers s row
numbers_stay s s' base row each =
    ap (λ (Q : PlainPolicy). flat_map (λ place. option_to_list (place_number s' (location_of row place))) (places_of Q row)) base.policy
    ∙ numbers_among s s' base row (places_of s.policy row) each

numbered_among : (s s' : Shown) → KeepsBase s s' → (row : SessionRow) (places : List Ref) → Each (λ place. IsSome (place_number s (location_of row place))) places
    → Each (λ place. IsSome (place_number s' (location_of row place))) places
numbered_among s s' base row [] each = tt
numbered_among s s' base row (place ∷ rest) each =
    (ap is_some (place_stays s s' base (location_of row place) each.0) ∙ each.0, numbered_among s s' base row rest each.1)

pub numbered_still : (s s' : Shown) → KeepsBase s s' → (row : SessionRow) → AreNumbered s row → AreNumbered s' row
numbered_still s s' base row each =
    subst (λ (Q : PlainPolicy). Each (λ place. IsSome (place_number s' (location_of row place))) (places_of Q row)) (sym base.policy)
    (numbered_among s s' base row (places_of s.policy row) each)

-- ---- one session

-- whoever goes on as before reads the same places
reads_on : (s s' : Shown) (standing : ℕ → List ℕ) → KeepsBase s s' → IsExact s standing → (n place : ℕ) → going_on (session_in s'.tables n) ≡ going_on (session_in s.tables n)
    → ReadsPlace s n place → ReadsPlace s' n place
reads_on s s' standing base exact n place same reads = record {
  row = reads.row;
  is = same ∙ reads.is;
  reads = subst (λ (ns : List ℕ). Contains ns place) (sym (numbers_stay s s' base reads.row (exact.numbered n reads.row reads.is))) reads.reads;
}

read_before : (s s' : Shown) (standing : ℕ → List ℕ) → KeepsBase s s' → IsExact s standing → (n place : ℕ) → going_on (session_in s'.tables n) ≡ going_on (session_in s.tables n)
    → ReadsPlace s' n place → ReadsPlace s n place
read_before s s' standing base exact n place same reads =
    let is : going_on (session_in s.tables n) ≡ Some reads.row = sym same ∙ reads.is in
    record {
      row = reads.row;
      is = is;
      reads = subst (λ (ns : List ℕ). Contains ns place) (numbers_stay s s' base reads.row (exact.numbered n reads.row is)) reads.reads;
    }

-- ---- changes

-- where each usage goes on as before
pub exact_still : (s s' : Shown) (standing : ℕ → List ℕ) → KeepsBase s s' → IsExact s standing
    → ((n : ℕ) → going_on (session_in s'.tables n) ≡ going_on (session_in s.tables n)) → IsExact s' standing
exact_still s s' standing base exact same = record {
  sound = λ n place stands. reads_on s s' standing base exact n place (same n) (exact.sound n place stands);
  complete = λ n place reads. exact.complete n place (read_before s s' standing base exact n place (same n) reads);
  numbered = λ n row is. numbered_still s s' base row (exact.numbered n row (sym (same n) ∙ is));
}

-- where session k's usage begins, which reads these places, and each other goes on as before
pub exact_with : (s s' : Shown) (standing standing' : ℕ → List ℕ) (k : ℕ) (row : SessionRow) → KeepsBase s s' → IsExact s standing → going_on (session_in s.tables k) ≡ None
    → going_on (session_in s'.tables k) ≡ Some row → AreNumbered s' row
    → ((n : ℕ) → n ≢ k → going_on (session_in s'.tables n) ≡ going_on (session_in s.tables n))
    → ((n place : ℕ) → Contains (standing' place) n → ((n ≡ k) × Contains (place_numbers s' row) place) ⊎ Contains (standing place) n)
    → ((place : ℕ) → Contains (place_numbers s' row) place → Contains (standing' place) k)
    → ((n place : ℕ) → Contains (standing place) n → Contains (standing' place) n)
    → IsExact s' standing'
exact_with s s' standing standing' k row base exact new begun numbered same only_those stands_there stands_on = record {
  sound = λ n place stands. elim (only_those n place stands) [
    | inl here ↦ record { row = row; is = ap (λ (m : ℕ). going_on (session_in s'.tables m)) here.0 ∙ begun; reads = here.1 }
    | inr was ↦ reads_on s s' standing base exact n place (same n (other_before n place was)) (exact.sound n place was)
  ];
  complete = λ n place reads. elim (eqb_tells n k) [
    | inl here ↦
        let is : Some reads.row ≡ Some row = sym (subst (λ (m : ℕ). going_on (session_in s'.tables m) ≡ Some reads.row) here.1 reads.is) ∙ begun in
        subst (λ (m : ℕ). Contains (standing' place) m) (sym here.1)
        (stands_there place (subst (λ (r : SessionRow). Contains (place_numbers s' r) place) (let one : reads.row ≡ row = cc in one) reads.reads))
    | inr other ↦ stands_on n place (exact.complete n place (read_before s s' standing base exact n place (same n other.1) reads))
  ];
  numbered = λ n other_row is. elim (eqb_tells n k) [
    | inl here ↦
        let at : Some other_row ≡ Some row = sym (subst (λ (m : ℕ). going_on (session_in s'.tables m) ≡ Some other_row) here.1 is) ∙ begun in
        subst (λ (r : SessionRow). AreNumbered s' r) (let one : row ≡ other_row = cc in one) numbered
    | inr other ↦ numbered_still s s' base other_row (exact.numbered n other_row (sym (same n other.1) ∙ is))
  ];
}
  where
    other_before : (n place : ℕ) → Contains (standing place) n → n ≢ k
    other_before n place stands = λ is.
        let reads = exact.sound n place stands in
        let no : None ≡ Some reads.row = sym new ∙ subst (λ (m : ℕ). going_on (session_in s.tables m) ≡ Some reads.row) is reads.is in
        cc
