-- Who is put into the work, target by target.
use Rattle.std.proofs.Common.{◌≡◌, ◌↔◌, ◌⊎◌, ◌∙◌, ◌+◌, ◌<◌, ℕ, true, false, List, [], ◌∷◌, ◌++◌, length, get_or, take, map, ap, refl, sym, subst}
use Rattle.std.specs.Prelude.{filter, Option, Some, None, option_and_then}
use Rattle.std.specs.Option.{option_map_or}
use Rattle.std.specs.List.{Contains}
use Rattle.std.proofs.lemmas.List.{map-append, map_more}
use Rattle.std.proofs.lemmas.List.Elements.{filter-append}
use Rattle.ucon_model.specs.declared.policy.Update.{Update}
use Rattle.ucon_model.specs.declared.policy.When.{When}
use Rattle.ucon_model.specs.declared.session.SessionRow.{SessionRow}
use Rattle.ucon_model.specs.Decision.{right_named}
use Rattle.ucon_model.specs.Lookup.{right_read}
use Rattle.ucon_model.specs.Plain.{PlainPolicy, PlainRight, PlainUpdate}
use Rattle.ucon_model.specs.Reach.{Location, target, targets}
use Rattle.ucon_model.specs.Updates.{same_when, updates_of}
use Rattle.ucon_model.specs.Views.{update_of}
use Rattle.ucon_state.specs.Shown.{Shown}
use Rattle.ucon_state.specs.Tables.{readings_in, session_in}
use Rattle.ucon_cascade.specs.Numbering.{place_number}
use Rattle.ucon_cascade.specs.Putting.{GainsFirsts, StandsAt, StandsAtOne, targets_in}
use Rattle.ucon_cascade.proofs.Asking.{right_by_row}
use Rattle.ucon_cascade.proofs.Putting.{gains_both, gains_like, stands_at_both, stands_at_only}

-- ---- who stands at a location

pub nobody_at : (s : Shown) (standing : ℕ → List ℕ) (location : Location) → place_number s location ≡ None → (n : ℕ) → StandsAt s standing location n → ⊥
nobody_at s standing location none n at = let no : None ≡ Some at.place = sym none ∙ at.is in cc

at_place : (s : Shown) (standing : ℕ → List ℕ) (location : Location) (place : ℕ) → place_number s location ≡ Some place → (n : ℕ)
    → Contains (standing place) n ↔ StandsAt s standing location n
at_place s standing location place is n = (
  λ has. record { place = place; is = is; stands = has },
  λ at. (let both : Some at.place ≡ Some place = sym at.is ∙ is in let same : at.place ≡ place = cc in subst (λ (p : ℕ). Contains (standing p) n) same at.stands),
)

pub gains_at : (s : Shown) (standing : ℕ → List ℕ) (first : ℕ → ℕ) (old new : List ℕ) (location : Location) (place : ℕ) → place_number s location ≡ Some place
    → GainsFirsts first old new (λ n. Contains (standing place) n) → GainsFirsts first old new (StandsAt s standing location)
gains_at s standing first old new location place is gains =
    gains_like first old new (λ n. Contains (standing place) n) (StandsAt s standing location) (at_place s standing location place is) gains

-- ---- where one update writes

pub no_target : (row : SessionRow) (when : When) (u : PlainUpdate) → same_when when u.when ≡ false → [] ≡ targets row when (u ∷ [])
no_target row when u other = rw other refl

pub one_target : (row : SessionRow) (when : When) (u : PlainUpdate) → same_when when u.when ≡ true → target row u ∷ [] ≡ targets row when (u ∷ [])
one_target row when u same = rw same refl

-- where a session's updates write

pub targets_none : (s : Shown) (n : ℕ) (when : When) → session_in s.tables n ≡ None → targets_in s n when ≡ []
targets_none s n when none = rw none refl

pub targets_at : (s : Shown) (n : ℕ) (when : When) (row : SessionRow) → session_in s.tables n ≡ Some row → targets_in s n when ≡ targets row when (updates_of s.policy row)
targets_at s n when row is = rw is refl

-- ---- one update more

targets_append : (row : SessionRow) (when : When) (us vs : List PlainUpdate) → targets row when (us ++ vs) ≡ targets row when us ++ targets row when vs
targets_append row when us vs =
    ap (map (target row)) (filter-append (λ u. same_when when u.when) us vs)
    ∙ map-append (target row) (filter (λ u. same_when when u.when) us) (filter (λ u. same_when when u.when) vs)

pub targets_more : (row : SessionRow) (when : When) (us : List Update) (i : ℕ) (d : Update) → i < length us
    → targets row when (map update_of (take (i + 1) us))
    ≡ targets row when (map update_of (take i us)) ++ targets row when (update_of (get_or us i d) ∷ [])
targets_more row when us i d within = ap (targets row when) (map_more update_of us i d within) ∙ targets_append row when (map update_of (take i us)) (update_of (get_or us i d) ∷ [])

-- ---- who gains

-- those who stand at these and then at those
pub gains_more : (s : Shown) (standing : ℕ → List ℕ) (first : ℕ → ℕ) (old mid new : List ℕ) (locations more : List Location)
    → GainsFirsts first old mid (StandsAtOne s standing locations) → GainsFirsts first mid new (StandsAtOne s standing more)
    → GainsFirsts first old new (StandsAtOne s standing (locations ++ more))
gains_more s standing first old mid new locations more one two =
    gains_like first old new (λ n. StandsAtOne s standing more n ⊎ StandsAtOne s standing locations n) (StandsAtOne s standing (locations ++ more))
    (λ n. stands_at_both s standing locations more n)
    (gains_both first old mid new (StandsAtOne s standing locations) (StandsAtOne s standing more) one two)

-- those who stand at one
pub gains_one : (s : Shown) (standing : ℕ → List ℕ) (first : ℕ → ℕ) (old new : List ℕ) (location : Location)
    → GainsFirsts first old new (StandsAt s standing location) → GainsFirsts first old new (StandsAtOne s standing (location ∷ []))
gains_one s standing first old new location gains =
    gains_like first old new (StandsAt s standing location) (StandsAtOne s standing (location ∷ [])) (λ n. stands_at_only s standing location n) gains

-- ---- where nothing is written

-- a session whose right isn't there writes nowhere
no_right_writes : (P : PlainPolicy) (when : When) (o : Option SessionRow) → None ≡ option_and_then (λ row. right_named P.rights row.right) o
    → option_map_or (λ row. targets row when (updates_of P row)) o [] ≡ []
no_right_writes P when None none = refl
no_right_writes P when (Some row) none = ap (λ (r : Option PlainRight). targets row when (option_map_or (λ (x : PlainRight). x.updates) r [])) (sym none)

pub targets_without_right : (s : Shown) (n : ℕ) (when : When) → None ≡ right_read s.policy (readings_in s.policy s.tables) n → targets_in s n when ≡ []
targets_without_right s n when none = no_right_writes s.policy when (session_in s.tables n) none

-- a session whose right has no updates writes nowhere
no_updates_write : (P : PlainPolicy) (when : When) (r : PlainRight) (o : Option SessionRow) → r.updates ≡ [] → Some r ≡ option_and_then (λ row. right_named P.rights row.right) o
    → option_map_or (λ row. targets row when (updates_of P row)) o [] ≡ []
no_updates_write P when r None none is = refl
no_updates_write P when r (Some row) none is =
    ap (λ (x : Option PlainRight). targets row when (option_map_or (λ (y : PlainRight). y.updates) x [])) (sym is) ∙ ap (targets row when) none

pub targets_without_updates : (s : Shown) (n : ℕ) (when : When) (r : PlainRight) → r.updates ≡ [] → Some r ≡ right_read s.policy (readings_in s.policy s.tables) n
    → targets_in s n when ≡ []
targets_without_updates s n when r none is = no_updates_write s.policy when r (session_in s.tables n) none is

-- a session's updates are those of its right
pub updates_by_right : (s : Shown) (n : ℕ) (row : SessionRow) (r : PlainRight) → session_in s.tables n ≡ Some row → Some r ≡ right_read s.policy (readings_in s.policy s.tables) n
    → r.updates ≡ updates_of s.policy row
updates_by_right s n row r there is = ap (λ (x : Option PlainRight). option_map_or (λ (y : PlainRight). y.updates) x []) (sym (right_by_row s n row (Some r) there is))

-- what holds of where those updates write that are its right's, for whatever its row, holds of where it writes
pub targets_of_right : (s : Shown) (n : ℕ) (when : When) (r : PlainRight) (us : List PlainUpdate) (Holds : List Location → Type 0)
    → Some r ≡ right_read s.policy (readings_in s.policy s.tables) n → us ≡ r.updates
    → ((row : SessionRow) → session_in s.tables n ≡ Some row → Holds (targets row when us)) → Holds (targets_in s n when)
targets_of_right s n when r us Holds right its holds = by (session_in s.tables n) refl
  where
    by : (o : Option SessionRow) → session_in s.tables n ≡ o → Holds (targets_in s n when)
    by None none =
        let no : Some r ≡ None = right ∙ ap (option_and_then (λ (row : SessionRow). right_named s.policy.rights row.right)) none in
        absurd cc
    by (Some row) there =
        subst Holds (ap (targets row when) (its ∙ updates_by_right s n row r there right) ∙ sym (targets_at s n when row there)) (holds row there)
