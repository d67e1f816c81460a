-- Rights of which nothing is asked while the usage goes on.
use Rattle.std.proofs.Common.{◌≡◌, ◌∙◌, ℕ, Bool, true, false, cond, List, [], ◌∷◌, filter, map, ap, refl, sym}
use Rattle.std.specs.Prelude.{◌||◌, Option, Some, None, option_and_then}
use Rattle.std.specs.List.{flat_map, list_any}
use Rattle.std.specs.Option.{option_map_or}
use Rattle.ucon_model.specs.declared.policy.Predicate.{Predicate}
use Rattle.ucon_model.specs.declared.session.SessionRow.{SessionRow}
use Rattle.ucon_model.specs.Decision.{ongoing, right_named}
use Rattle.ucon_model.specs.Lookup.{right_read}
use Rattle.ucon_model.specs.Places.{distinct, places_read, test_places}
use Rattle.ucon_model.specs.Plain.{PlainPolicy, PlainPredicate, PlainRight}
use Rattle.ucon_model.specs.Reach.{places_of, right_timed, test_timed, timed_of}
use Rattle.ucon_model.specs.Views.{predicate_of}
use Rattle.ucon_state.specs.Shown.{Shown}
use Rattle.ucon_state.specs.Tables.{readings_in, session_in}

-- a session's right, by its row
pub right_by_row : (s : Shown) (n : ℕ) (row : SessionRow) (o : Option PlainRight) → session_in s.tables n ≡ Some row
    → o ≡ right_read s.policy (readings_in s.policy s.tables) n → right_named s.policy.rights row.right ≡ o
right_by_row s n row o is read = sym (ap (option_and_then (λ (x : SessionRow). right_named s.policy.rights x.right)) is) ∙ sym read

dropped : (b c : Bool) (p : PlainPredicate) (ps : List PlainPredicate) → (c ≡ false → filter ongoing ps ≡ []) → (b || c) ≡ false
    → cond b (p ∷ filter ongoing ps) (filter ongoing ps) ≡ []
dropped true c p ps rest h = absurd cc
dropped false c p ps rest h = rest h

pub none_ongoing : (ps : List Predicate) → list_any (λ p. ongoing (predicate_of p)) ps ≡ false → filter ongoing (map predicate_of ps) ≡ []
none_ongoing [] h = refl
none_ongoing (p ∷ ps) h =
    dropped (ongoing (predicate_of p)) (list_any (λ q. ongoing (predicate_of q)) ps) (predicate_of p) (map predicate_of ps) (none_ongoing ps) h

-- no place is read of a right without ongoing predicates
pub no_places : (P : PlainPolicy) (row : SessionRow) (r : PlainRight) → right_named P.rights row.right ≡ Some r → filter ongoing r.preds ≡ [] → places_of P row ≡ []
no_places P row r is none =
    ap (λ (o : Option PlainRight). option_map_or places_read o []) is ∙ ap (λ (ps : List PlainPredicate). distinct (flat_map (λ p. test_places p.test) ps)) none

-- and no part of it is timed
pub no_parts : (P : PlainPolicy) (row : SessionRow) (r : PlainRight) → right_named P.rights row.right ≡ Some r → filter ongoing r.preds ≡ [] → timed_of P row ≡ []
no_parts P row r is none =
    ap (λ (o : Option PlainRight). option_map_or right_timed o []) is ∙ ap (λ (ps : List PlainPredicate). flat_map (λ p. test_timed p.test) ps) none

pub no_places_there : (P : PlainPolicy) (row : SessionRow) → right_named P.rights row.right ≡ None → places_of P row ≡ []
no_places_there P row is = ap (λ (o : Option PlainRight). option_map_or places_read o []) is

pub no_parts_there : (P : PlainPolicy) (row : SessionRow) → right_named P.rights row.right ≡ None → timed_of P row ≡ []
no_parts_there P row is = ap (λ (o : Option PlainRight). option_map_or right_timed o []) is
