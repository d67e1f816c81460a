-- What can be read off a trace, by looking back through it. No current state is kept.
use Rattle.std.specs.Prelude.{ℕ, suc, zero, ℤ, pos, ◌+◌, Bool, true, false, ◌&&◌, ◌||◌, nat_eq, ◌++◌, List, [], ◌∷◌, filter, find, position, Option}
use Rattle.std.specs.Prelude.{Some, None, option_map, is_none, is_some, if◌then◌else◌}
use Rattle.std.specs.Str.{bytes_eq}
use Rattle.ucon_base.specs.declared.value.Side.{Side}
use Rattle.ucon_base.specs.declared.value.Side.TheVariants.{Subject, Object}
use Rattle.ucon_base.specs.declared.value.Value.{Value}
use Rattle.ucon_model.specs.declared.policy.AttrDecl.{AttrDecl}
use Rattle.ucon_model.specs.declared.policy.EnvDecl.{EnvDecl}
use Rattle.ucon_model.specs.declared.session.SessionRow.{SessionRow}
use Rattle.ucon_model.specs.declared.session.SessionState.{SessionState}
use Rattle.ucon_model.specs.declared.session.SessionState.TheVariants.{Requesting, Denied, Accessing, Revoked, Ended}
use Rattle.ucon_model.specs.Plain.{Bytes, PlainPolicy}
use Rattle.ucon_model.specs.Action.{Trace, subject, object, write, env, tick, act, tries, permit, deny, ends, revoke, amend}

-- The policy in force: that of the last amendment, else the one that the trace began with. Whatever asks a policy after a trace asks
-- this one.
abbrev pub in_force : PlainPolicy → Trace → PlainPolicy
in_force P [] = P
in_force P (amend text Q ∷ T) = Q
in_force P (a ∷ T) = in_force P T

-- the tick of the last Tick, else 0
abbrev pub tick_of : Trace → ℤ
tick_of [] = pos 0
tick_of (tick t ∷ T) = t
tick_of (a ∷ T) = tick_of T

-- ---- entities

-- whether the entity is there: it was once made
abbrev pub has_entity : Side → Bytes → Trace → Bool
has_entity side e [] = false
has_entity Subject e (subject name ∷ T) = bytes_eq e name || has_entity Subject e T
has_entity Object e (object name ∷ T) = bytes_eq e name || has_entity Object e T
has_entity side e (a ∷ T) = has_entity side e T

-- how many entities a side has
abbrev pub entities : Side → Trace → ℕ
entities side [] = 0
entities Subject (subject name ∷ T) = entities Subject T + 1
entities Object (object name ∷ T) = entities Object T + 1
entities side (a ∷ T) = entities side T

-- a new name behind the others
abbrev pub with_new : Bool → List Bytes → Bytes → List Bytes
with_new there names name = if there then names else names ++ name ∷ []

-- the entities of a side, in the order in which they were first made
abbrev pub entity_names : Side → Trace → List Bytes
entity_names side [] = []
entity_names Subject (subject name ∷ T) = with_new (has_entity Subject name T) (entity_names Subject T) name
entity_names Object (object name ∷ T) = with_new (has_entity Object name T) (entity_names Object T) name
entity_names side (a ∷ T) = entity_names side T

-- ---- attributes and variables

-- whether two sides are the same
abbrev pub same_side : Side → Side → Bool
same_side Subject Subject = true
same_side Object Object = true
same_side s t = false

-- the declaration of an attribute of a side
abbrev pub declared_attr : List AttrDecl → Side → Bytes → Option AttrDecl
declared_attr ds side attr = find (λ d. same_side side d.side && bytes_eq attr d.name) ds

-- the declaration of a variable
abbrev pub declared_env : List EnvDecl → Bytes → Option EnvDecl
declared_env ds name = find (λ d. bytes_eq name d.name) ds

-- the declarations of a side
abbrev pub attrs_of : PlainPolicy → Side → List AttrDecl
attrs_of P side = filter (λ d. same_side side d.side) P.attrs

-- the position of an attribute among those of its side, from 0
abbrev pub attr_position : PlainPolicy → Side → Bytes → Option ℕ
attr_position P side attr = position (λ d. bytes_eq attr d.name) (attrs_of P side)

-- the position of a variable among the declarations, from 0
abbrev pub env_position : PlainPolicy → Bytes → Option ℕ
env_position P name = position (λ d. bytes_eq name d.name) P.envs

-- the default of an attribute, if the policy declares it
abbrev pub attr_default : PlainPolicy → Side → Bytes → Option Value
attr_default P side attr = option_map (λ d. d.start) (declared_attr P.attrs side attr)

-- the default of a variable, if the policy declares it
abbrev pub env_default : PlainPolicy → Bytes → Option Value
env_default P name = option_map (λ d. d.start) (declared_env P.envs name)

-- What the latest of three kinds of action gave an attribute of an entity: a write to it, the written value; the making of the entity, the
-- default in force there; an amendment of a policy that didn't declare the attribute, the new policy's default.
abbrev pub given_attr : PlainPolicy → Side → Bytes → Bytes → Trace → Option Value
given_attr P side e attr [] = None
given_attr P Subject e attr (subject name ∷ T) = if bytes_eq e name then attr_default (in_force P T) Subject attr else given_attr P Subject e attr T
given_attr P Object e attr (object name ∷ T) = if bytes_eq e name then attr_default (in_force P T) Object attr else given_attr P Object e attr T
given_attr P side e attr (write s n a v ∷ T) =
    if same_side side s && bytes_eq e n && bytes_eq attr a then Some v else given_attr P side e attr T
given_attr P side e attr (amend text Q ∷ T) =
    if is_some (declared_attr (in_force P T).attrs side attr) then given_attr P side e attr T else attr_default Q side attr
given_attr P side e attr (a ∷ T) = given_attr P side e attr T

-- an attribute of an entity that is there, if the policy in force declares it
abbrev pub attribute : PlainPolicy → Trace → Side → Bytes → Bytes → Option Value
attribute P T side e attr =
    if has_entity side e T && is_some (declared_attr (in_force P T).attrs side attr) then given_attr P side e attr T else None

-- What the later of two kinds of action gave a variable: an assignment, the assigned value; an amendment of a policy that didn't declare it,
-- the new policy's default. Without both it has the default of the policy that the trace began with.
abbrev pub given_env : PlainPolicy → Bytes → Trace → Option Value
given_env P name [] = env_default P name
given_env P name (env n v ∷ T) = if bytes_eq name n then Some v else given_env P name T
given_env P name (amend text Q ∷ T) =
    if is_some (declared_env (in_force P T).envs name) then given_env P name T else env_default Q name
given_env P name (a ∷ T) = given_env P name T

-- a variable, if the policy in force declares it
abbrev pub variable : PlainPolicy → Trace → Bytes → Option Value
variable P T name = if is_some (declared_env (in_force P T).envs name) then given_env P name T else None

-- ---- acts

-- the moment of an act: the tick at which it was last done
abbrev pub moment : Bytes → Bytes → Bytes → Trace → Option ℤ
moment s a o [] = None
moment s a o (act s' a' o' ∷ T) = if bytes_eq s s' && bytes_eq a a' && bytes_eq o o' then Some (tick_of T) else moment s a o T
moment s a o (b ∷ T) = moment s a o T

-- the distinct acts (subject, action, object), in the order in which they were first done
abbrev pub act_rows : Trace → List (Bytes × Bytes × Bytes)
act_rows [] = []
act_rows (act s a o ∷ T) = if is_none (moment s a o T) then act_rows T ++ (s, a, o) ∷ [] else act_rows T
act_rows (b ∷ T) = act_rows T

-- how many distinct acts were done
abbrev pub acts : Trace → ℕ
acts [] = 0
acts (act s a o ∷ T) = acts T + (if is_none (moment s a o T) then 1 else 0)
acts (b ∷ T) = acts T

-- ---- sessions

-- the row with a change, if the action names its session
abbrev pub changed_if : Bool → (SessionRow → SessionRow) → Option SessionRow → Option SessionRow
changed_if same change row = if same then option_map change row else row

-- A session: its caller, right, subject and object are those of its Try; its state is given by the last Try, Permit, Deny, End or
-- Revoke that names it; its start is the tick at its Permit, and 0 without one. A Wait leaves it requesting.
abbrev pub session : Trace → ℕ → Option SessionRow
session [] n = None
session (tries m c s r o ∷ T) n =
    if nat_eq n m then Some (record { caller = c; right = r; subject = s; object = o; state = Requesting; start = pos 0 }) else session T n
session (permit m ∷ T) n = changed_if (nat_eq n m) (λ row. record row { state = Accessing; start = tick_of T }) (session T n)
session (deny m l ∷ T) n = changed_if (nat_eq n m) (λ row. record row { state = Denied }) (session T n)
session (ends m ∷ T) n = changed_if (nat_eq n m) (λ row. record row { state = Ended }) (session T n)
session (revoke m l ∷ T) n = changed_if (nat_eq n m) (λ row. record row { state = Revoked }) (session T n)
session (a ∷ T) n = session T n

-- how many sessions were tried; they are numbered from 1
abbrev pub sessions : Trace → ℕ
sessions [] = 0
sessions (tries m c s r o ∷ T) = sessions T + 1
sessions (a ∷ T) = sessions T

-- whether a usage goes on
abbrev pub is_accessing_state : SessionState → Bool
is_accessing_state Accessing = true
is_accessing_state s = false

-- whether a session is there and accessing
abbrev pub is_accessing : Option SessionRow → Bool
is_accessing None = false
is_accessing (Some row) = is_accessing_state row.state

-- how many of the sessions 1 to n are accessing
abbrev pub accessing_up_to : Trace → ℕ → ℕ
accessing_up_to T zero = 0
accessing_up_to T (suc n) = accessing_up_to T n + (if is_accessing (session T (suc n)) then 1 else 0)

-- how many sessions are accessing
abbrev pub accessing : Trace → ℕ
accessing T = accessing_up_to T (sessions T)
