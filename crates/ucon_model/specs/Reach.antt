-- What the decision during a usage reads, and what an action may change of it.
use Rattle.std.specs.Prelude.{◌≡◌, ℕ, ℤ, ◌+ℤ◌, int_le, Bool, true, false, ◌&&◌, ◌||◌, nat_eq, map, filter, List, [], ◌∷◌, ◌++◌, Option, unwrap_or}
use Rattle.std.specs.Option.{option_map_or}
use Rattle.std.specs.List.{list_any, flat_map}
use Rattle.std.specs.Str.{bytes_eq}
use Rattle.ucon_base.specs.declared.value.Side.{Side}
use Rattle.ucon_base.specs.declared.value.Side.TheVariants as sides
use Rattle.ucon_base.specs.declared.value.Value.{Value}
use Rattle.ucon_base.specs.Elements.{Each}
use Rattle.ucon_model.specs.declared.formula.Form.{Form}
use Rattle.ucon_model.specs.declared.formula.Form.TheVariants.{Done, Within, Every}
use Rattle.ucon_model.specs.declared.formula.Obligation.{Obligation}
use Rattle.ucon_model.specs.declared.formula.Ref.{Ref}
use Rattle.ucon_model.specs.declared.formula.Ref.TheVariants.{Subject, Object, Env}
use Rattle.ucon_model.specs.declared.policy.When.{When}
use Rattle.ucon_model.specs.declared.session.SessionRow.{SessionRow}
use Rattle.ucon_model.specs.Plain.{Bytes, PlainFormula, both, either, negation, compare, lasts, PlainTest, authorisation, duty, condition}
use Rattle.ucon_model.specs.Plain.{PlainUpdate, PlainRight, PlainPolicy}
use Rattle.ucon_model.specs.Action.{Action, Trace, subject, object, write, env, tick, act, tries, permit, deny, ends, revoke, amend}
use Rattle.ucon_model.specs.Readings.{in_force, same_side, attribute, variable, session}
use Rattle.ucon_model.specs.Truth.{Readings, is_done}
use Rattle.ucon_model.specs.Decision.{right_named, ongoing}
use Rattle.ucon_model.specs.Places.{places_read}
use Rattle.ucon_model.specs.Updates.{same_when, entity_of, updates_of}

-- ---- what a right reads

-- a part of a predicate that time or an act decides: that the session lasts at most n ticks, or an obligation
pub data Timed : Type 0 where
  lasting : (n : ℤ) → Timed
  owed : (o : Obligation) → Timed

-- the timed parts of a formula
abbrev pub formula_timed : PlainFormula → List Timed
formula_timed (both f g) = formula_timed f ++ formula_timed g
formula_timed (either f g) = formula_timed f ++ formula_timed g
formula_timed (negation f) = formula_timed f
formula_timed (compare op a b) = []
formula_timed (lasts n) = lasting n ∷ []

-- the timed parts of a test
abbrev pub test_timed : PlainTest → List Timed
test_timed (authorisation f) = formula_timed f
test_timed (duty o) = owed o ∷ []
test_timed (condition f) = formula_timed f

-- the timed parts of a right's ongoing predicates
abbrev pub right_timed : PlainRight → List Timed
right_timed r = flat_map (λ p. test_timed p.test) (filter ongoing r.preds)

-- whether a timed part holds for a session
abbrev pub timed_truth : Readings → SessionRow → Timed → Bool
timed_truth R row (lasting n) = int_le R.now (row.start +ℤ n)
timed_truth R row (owed o) = is_done R row o

-- the places that a session's right reads during the usage; none if the policy doesn't have the right
abbrev pub places_of : PlainPolicy → SessionRow → List Ref
places_of Q row = option_map_or places_read (right_named Q.rights row.right) []

-- the timed parts of a session's right; none if the policy doesn't have the right
abbrev pub timed_of : PlainPolicy → SessionRow → List Timed
timed_of Q row = option_map_or right_timed (right_named Q.rights row.right) []

-- each of these places holds the same for a session as another place for another
abbrev pub HoldTheSame : Readings → SessionRow → Readings → SessionRow → List Ref → Type 0
HoldTheSame R row S other places = Each (λ place. R.at row place ≡ S.at other place) places

-- Two sessions, or one at two times, read alike during their usages under a policy. Their right is one, and each place and each timed part of it
-- says the same for both.
pub record ReadAlike (Q : PlainPolicy) (R : Readings) (row : SessionRow) (S : Readings) (other : SessionRow) : Type 0 where
  pub right : row.right ≡ other.right
  pub places : HoldTheSame R row S other (places_of Q row)
  pub timed : Each (λ part. timed_truth R row part ≡ timed_truth S other part) (timed_of Q row)

-- ---- where values are kept

-- where a value is kept: an attribute of an entity, or a variable
pub data Location : Type 0 where
  attribute_of : (side : Side) (name attr : Bytes) → Location
  variable_of : (name : Bytes) → Location

-- the value that is kept there after a trace
abbrev pub kept_at : PlainPolicy → Trace → Location → Option Value
kept_at P T (attribute_of side name attr) = attribute P T side name attr
kept_at P T (variable_of name) = variable P T name

-- whether two locations are the same
abbrev pub same_location : Location → Location → Bool
same_location (attribute_of side name attr) (attribute_of s n a) = same_side side s && bytes_eq name n && bytes_eq attr a
same_location (variable_of name) (variable_of n) = bytes_eq name n
same_location k l = false

-- where the value of a place is kept for a session
abbrev pub location_of : SessionRow → Ref → Location
location_of row (Subject attr) = attribute_of sides.Subject row.subject attr
location_of row (Object attr) = attribute_of sides.Object row.object attr
location_of row (Env name) = variable_of name

-- whether a session's right reads during the usage what is kept there
abbrev pub reads_at : PlainPolicy → SessionRow → Location → Bool
reads_at Q row location = list_any (λ place. same_location (location_of row place) location) (places_of Q row)

-- whether session n, as it stands after the trace, reads what is kept at one of these
abbrev pub readers : PlainPolicy → Trace → List Location → ℕ → Bool
readers P T locations n = option_map_or (λ row. list_any (reads_at (in_force P T) row) locations) (session T n) false

-- ---- where updates write

-- where an update of a session's right writes
abbrev pub target : SessionRow → PlainUpdate → Location
target row u = attribute_of u.side (entity_of u.side row) u.attr

-- where the updates of a time write, in written order
abbrev pub targets : SessionRow → When → List PlainUpdate → List Location
targets row when us = map (target row) (filter (λ u. same_when when u.when) us)

-- where session n's right writes at a time
abbrev pub session_targets : PlainPolicy → Trace → ℕ → When → List Location
session_targets P T n when = option_map_or (λ row. targets row when (updates_of (in_force P T) row)) (session T n) []

-- ---- what an action may change

-- whether an action replaces the policy in force
abbrev pub replaces : Action → Bool
replaces (amend text Q) = true
replaces a = false

-- whether an action may change what is kept there: it writes it, or makes its entity, or replaces the policy in force
abbrev pub alters : Action → Location → Bool
alters (write side name attr v) location = same_location location (attribute_of side name attr)
alters (env name v) location = same_location location (variable_of name)
alters (subject n) (attribute_of sides.Subject name attr) = bytes_eq name n
alters (object n) (attribute_of sides.Object name attr) = bytes_eq name n
alters a location = replaces a

-- whether the tick decides over an obligation: not if it is met once and for all
abbrev pub is_ticking : Form → Bool
is_ticking Done = false
is_ticking (Within n) = true
is_ticking (Every n) = true

-- whether the tick decides over a timed part
abbrev pub is_by_tick : Timed → Bool
is_by_tick (lasting n) = true
is_by_tick (owed o) = is_ticking o.form

-- whether an action may change a timed part of a session: the tick that decides over it moves, or the act that is owed is done
abbrev pub moves : SessionRow → Action → Timed → Bool
moves row (tick t) part = is_by_tick part
moves row (act s a o) (owed d) =
    bytes_eq (unwrap_or d.by_subject row.subject) s && bytes_eq d.action a && bytes_eq (unwrap_or d.on_object row.object) o
moves row a part = false

-- whether an action may change something that a session's right reads during the usage
abbrev pub reaches : PlainPolicy → SessionRow → Action → Bool
reaches Q row a =
    replaces a || (list_any (λ place. alters a (location_of row place)) (places_of Q row) || list_any (moves row a) (timed_of Q row))

-- whether one of these actions reaches what session n reads, as it stands after the trace
abbrev pub reached : PlainPolicy → Trace → List Action → ℕ → Bool
reached P T actions n = option_map_or (λ row. list_any (reaches (in_force P T) row) actions) (session T n) false

-- whether an action changes session n itself; a Wait doesn't
abbrev pub names : ℕ → Action → Bool
names n (tries m c s r o) = nat_eq n m
names n (permit m) = nat_eq n m
names n (deny m l) = nat_eq n m
names n (ends m) = nat_eq n m
names n (revoke m l) = nat_eq n m
names n a = false

-- whether an action begins session n's usage
abbrev pub permits : ℕ → Action → Bool
permits n (permit m) = nat_eq n m
permits n a = false
