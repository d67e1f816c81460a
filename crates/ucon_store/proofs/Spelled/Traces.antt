-- What can be read off a trace of names and values is of names and values.
use Rattle.std.proofs.Common.{ℕ, ◌<◌, Bool, true, false, cond, List, [], ◌∷◌, ◌++◌, arith}
use Rattle.std.specs.Prelude.{◌&&◌, nat_eq, find, Option, Some, None, option_map, is_none, is_some, IfSome, IsTrue, ⊤}
use Rattle.std.specs.Str.{bytes_eq}
use Rattle.std.proofs.lemmas.Int.{ints}
use Rattle.ucon_base.specs.Elements.{Each, each_append}
use Rattle.ucon_base.specs.NameBytes.{is_name}
use Rattle.ucon_base.specs.Numbers.{InRange}
use Rattle.ucon_base.specs.Spelling.{IsValue}
use Rattle.ucon_base.specs.declared.value.Side.{Side}
use Rattle.ucon_base.specs.declared.value.Side.TheVariants.{Subject, Object}
use Rattle.ucon_model.specs.declared.formula.Ref.{Ref}
use Rattle.ucon_model.specs.declared.formula.Ref.TheVariants as refs
use Rattle.ucon_model.specs.declared.policy.AttrDecl.{AttrDecl}
use Rattle.ucon_model.specs.declared.policy.EnvDecl.{EnvDecl}
use Rattle.ucon_model.specs.declared.session.SessionRow.{SessionRow}
use Rattle.ucon_model.specs.Plain.{Bytes, PlainPolicy}
use Rattle.ucon_model.specs.Action.{Action, Trace, subject, object, write, env, tick, act, tries, permit, deny, ends, revoke, amend, extended}
use Rattle.ucon_model.specs.Readings.{in_force, tick_of, has_entity, entity_names, with_new, same_side, declared_attr, declared_env, given_attr, given_env, attribute, variable, moment, act_rows, changed_if, session}
use Rattle.ucon_model.specs.Truth.{place_of}
use Rattle.ucon_store.proofs.Spelled.Policies.{IsAttr, IsEnv, IsOfNames}

-- ---- actions of names and values

abbrev pub AreNames : Bytes → Bytes → Bytes → Type 0
AreNames a b c = IsTrue (is_name a) × IsTrue (is_name b) × IsTrue (is_name c)

abbrev pub IsSpelled : Action → Type 0
IsSpelled (subject name) = IsTrue (is_name name)
IsSpelled (object name) = IsTrue (is_name name)
IsSpelled (write side name attr v) = IsValue v
IsSpelled (env name v) = IsValue v
IsSpelled (tick t) = InRange t
IsSpelled (act s a o) = AreNames s a o
IsSpelled (tries n caller s r o) = (caller.0 < 64) × AreNames r s o
IsSpelled (amend text Q) = IsOfNames Q
IsSpelled a = ⊤

abbrev pub AreSpelled : List Action → Type 0
AreSpelled actions = Each IsSpelled actions

pub more_spelled : (T : Trace) (actions : List Action) → AreSpelled T → AreSpelled actions → AreSpelled (extended T actions)
more_spelled T [] h more = h
more_spelled T (a ∷ actions) h more = more_spelled (a ∷ T) actions (more.0, h) more.1

-- ---- declarations

pub found_each : {X : Type 0} (Q : X → Type 0) (test : X → Bool) (xs : List X) → Each Q xs → IfSome (find test xs) Q
found_each Q test [] h = tt
found_each Q test (x ∷ xs) h = by (test x) (found_each Q test xs h.1)
  where
    by : (b : Bool) → IfSome (find test xs) Q → IfSome (cond b (Some x) (find test xs)) Q
    by true rest = h.0
    by false rest = rest

pub force_spelled : (P : PlainPolicy) (T : Trace) → IsOfNames P → AreSpelled T → IsOfNames (in_force P T)
force_spelled P [] policy h = policy
force_spelled P (amend text Q ∷ T) policy h = h.0
force_spelled P (a ∷ T) policy h = force_spelled P T policy h.1

pub attr_declared : (Q : PlainPolicy) (side : Side) (attr : Bytes) → IsOfNames Q → IfSome (declared_attr Q.attrs side attr) IsAttr
attr_declared Q side attr h = found_each IsAttr (λ d. same_side side d.side && bytes_eq attr d.name) Q.attrs h.attrs

env_declared : (Q : PlainPolicy) (name : Bytes) → IsOfNames Q → IfSome (declared_env Q.envs name) IsEnv
env_declared Q name h = found_each IsEnv (λ d. bytes_eq name d.name) Q.envs h.envs

attr_start : (o : Option AttrDecl) → IfSome o IsAttr → IfSome (option_map (λ d. d.start) o) IsValue
attr_start None h = tt
attr_start (Some d) h = h.start

env_start : (o : Option EnvDecl) → IfSome o IsEnv → IfSome (option_map (λ d. d.start) o) IsValue
env_start None h = tt
env_start (Some d) h = h.start

-- ---- values

either : {X : Type 0} (Q : X → Type 0) (b : Bool) (o p : Option X) → IfSome o Q → IfSome p Q → IfSome (cond b o p) Q
either Q true o p h k = h
either Q false o p h k = k

module _ (P : PlainPolicy) (policy : IsOfNames P) where
  attr_spelled : (T : Trace) → AreSpelled T → (side : Side) (e attr : Bytes) → IfSome (given_attr P side e attr T) IsValue
  attr_spelled [] h side e attr = tt
  attr_spelled (subject name ∷ T) h Subject e attr =
      either IsValue (bytes_eq e name) _ _ (attr_start _ (attr_declared (in_force P T) Subject attr (force_spelled P T policy h.1))) (attr_spelled T h.1 Subject e attr)
  attr_spelled (object name ∷ T) h Object e attr =
      either IsValue (bytes_eq e name) _ _ (attr_start _ (attr_declared (in_force P T) Object attr (force_spelled P T policy h.1))) (attr_spelled T h.1 Object e attr)
  attr_spelled (write s n a v ∷ T) h Subject e attr =
      either IsValue (same_side Subject s && bytes_eq e n && bytes_eq attr a) (Some v) _ h.0 (attr_spelled T h.1 Subject e attr)
  attr_spelled (write s n a v ∷ T) h Object e attr =
      either IsValue (same_side Object s && bytes_eq e n && bytes_eq attr a) (Some v) _ h.0 (attr_spelled T h.1 Object e attr)
  attr_spelled (amend text Q ∷ T) h Subject e attr =
      either IsValue (is_some (declared_attr (in_force P T).attrs Subject attr)) _ _ (attr_spelled T h.1 Subject e attr) (attr_start _ (attr_declared Q Subject attr h.0))
  attr_spelled (amend text Q ∷ T) h Object e attr =
      either IsValue (is_some (declared_attr (in_force P T).attrs Object attr)) _ _ (attr_spelled T h.1 Object e attr) (attr_start _ (attr_declared Q Object attr h.0))
  attr_spelled (a ∷ T) h Subject e attr = attr_spelled T h.1 Subject e attr
  attr_spelled (a ∷ T) h Object e attr = attr_spelled T h.1 Object e attr

  env_spelled : (T : Trace) → AreSpelled T → (name : Bytes) → IfSome (given_env P name T) IsValue
  env_spelled [] h name = env_start _ (env_declared P name policy)
  env_spelled (env n v ∷ T) h name = either IsValue (bytes_eq name n) (Some v) _ h.0 (env_spelled T h.1 name)
  env_spelled (amend text Q ∷ T) h name =
      either IsValue (is_some (declared_env (in_force P T).envs name)) _ _ (env_spelled T h.1 name) (env_start _ (env_declared Q name h.0))
  env_spelled (a ∷ T) h name = env_spelled T h.1 name

  pub attribute_spelled : (T : Trace) → AreSpelled T → (side : Side) (e attr : Bytes) → IfSome (attribute P T side e attr) IsValue
  attribute_spelled T h side e attr = either IsValue _ _ None (attr_spelled T h side e attr) tt

  pub variable_spelled : (T : Trace) → AreSpelled T → (name : Bytes) → IfSome (variable P T name) IsValue
  variable_spelled T h name = either IsValue _ _ None (env_spelled T h name) tt

  pub place_spelled : (T : Trace) → AreSpelled T → (row : SessionRow) (place : Ref) → IfSome (place_of P T row place) IsValue
  place_spelled T h row (refs.Subject attr) = attribute_spelled T h Subject row.subject attr
  place_spelled T h row (refs.Object attr) = attribute_spelled T h Object row.object attr
  place_spelled T h row (refs.Env name) = variable_spelled T h name

-- ---- names, ticks, acts

pub tick_spelled : (T : Trace) → AreSpelled T → InRange (tick_of T)
tick_spelled [] h = record { low = omega (arith, ints); high = omega (arith, ints) }
tick_spelled (tick t ∷ T) h = h.0
tick_spelled (a ∷ T) h = tick_spelled T h.1

new_spelled : (b : Bool) (names : List Bytes) (name : Bytes) → Each (λ n. IsTrue (is_name n)) names → IsTrue (is_name name) → Each (λ n. IsTrue (is_name n)) (with_new b names name)
new_spelled true names name h one = h
new_spelled false names name h one = each_append (λ n. IsTrue (is_name n)) names (name ∷ []) h (one, tt)

pub names_spelled : (side : Side) (T : Trace) → AreSpelled T → Each (λ n. IsTrue (is_name n)) (entity_names side T)
names_spelled side [] h = tt
names_spelled Subject (subject name ∷ T) h = new_spelled (has_entity Subject name T) (entity_names Subject T) name (names_spelled Subject T h.1) h.0
names_spelled Object (object name ∷ T) h = new_spelled (has_entity Object name T) (entity_names Object T) name (names_spelled Object T h.1) h.0
names_spelled Subject (a ∷ T) h = names_spelled Subject T h.1
names_spelled Object (a ∷ T) h = names_spelled Object T h.1

pub moment_spelled : (T : Trace) → AreSpelled T → (s a o : Bytes) → IfSome (moment s a o T) InRange
moment_spelled [] h s a o = tt
moment_spelled (act s' a' o' ∷ T) h s a o =
    either InRange (bytes_eq s s' && bytes_eq a a' && bytes_eq o o') (Some (tick_of T)) _ (tick_spelled T h.1) (moment_spelled T h.1 s a o)
moment_spelled (b ∷ T) h s a o = moment_spelled T h.1 s a o

abbrev pub IsActSpelled : Bytes × Bytes × Bytes → Type 0
IsActSpelled a = AreNames a.0 a.1 a.2

act_spelled : (b : Bool) (rows : List (Bytes × Bytes × Bytes)) (row : Bytes × Bytes × Bytes) → Each IsActSpelled rows → IsActSpelled row
    → Each IsActSpelled (cond b (rows ++ row ∷ []) rows)
act_spelled true rows row h one = each_append IsActSpelled rows (row ∷ []) h (one, tt)
act_spelled false rows row h one = h

pub acts_spelled : (T : Trace) → AreSpelled T → Each IsActSpelled (act_rows T)
acts_spelled [] h = tt
acts_spelled (act s a o ∷ T) h = act_spelled (is_none (moment s a o T)) (act_rows T) (s, a, o) (acts_spelled T h.1) h.0
acts_spelled (b ∷ T) h = acts_spelled T h.1

-- ---- sessions

pub record IsRowSpelled (row : SessionRow) : Type 0 where
  pub client : row.caller.0 < 64
  pub names : AreNames row.right row.subject row.object
  pub start : InRange row.start

changed_spelled : (b : Bool) (change : SessionRow → SessionRow) (o : Option SessionRow) → ((row : SessionRow) → IsRowSpelled row → IsRowSpelled (change row))
    → IfSome o IsRowSpelled → IfSome (changed_if b change o) IsRowSpelled
changed_spelled false change o keeps h = h
changed_spelled true change None keeps h = tt
changed_spelled true change (Some row) keeps h = keeps row h

pub session_spelled : (T : Trace) → AreSpelled T → (n : ℕ) → IfSome (session T n) IsRowSpelled
session_spelled [] h n = tt
session_spelled (tries m c s r o ∷ T) h n =
    either IsRowSpelled (nat_eq n m) (Some _) _ (record { client = h.0.0; names = h.0.1; start = record { low = omega (arith, ints); high = omega (arith, ints) } }) (session_spelled T h.1 n)
session_spelled (permit m ∷ T) h n =
    changed_spelled (nat_eq n m) _ (session T n) (λ row k. record { client = k.client; names = k.names; start = tick_spelled T h.1 }) (session_spelled T h.1 n)
session_spelled (deny m l ∷ T) h n =
    changed_spelled (nat_eq n m) _ (session T n) (λ row k. record { client = k.client; names = k.names; start = k.start }) (session_spelled T h.1 n)
session_spelled (ends m ∷ T) h n =
    changed_spelled (nat_eq n m) _ (session T n) (λ row k. record { client = k.client; names = k.names; start = k.start }) (session_spelled T h.1 n)
session_spelled (revoke m l ∷ T) h n =
    changed_spelled (nat_eq n m) _ (session T n) (λ row k. record { client = k.client; names = k.names; start = k.start }) (session_spelled T h.1 n)
session_spelled (a ∷ T) h n = session_spelled T h.1 n
