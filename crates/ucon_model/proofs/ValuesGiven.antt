-- An attribute that the policy in force declares has a value for each entity that is there, and so has each variable.
use Rattle.std.proofs.Common.{◌≡◌, Bool, true, false, cond, [], ◌∷◌, refl}
use Rattle.std.specs.Prelude.{◌&&◌, ◌||◌, Option, Some, None, is_some, option_map}
use Rattle.std.specs.Str.{bytes_eq}
use Rattle.ucon_base.specs.declared.value.Side.{Side}
use Rattle.ucon_base.specs.declared.value.Side.TheVariants.{Subject, Object}
use Rattle.ucon_base.specs.declared.value.Value.{Value}
use Rattle.ucon_model.specs.declared.policy.AttrDecl.{AttrDecl}
use Rattle.ucon_model.specs.Plain.{Bytes, PlainPolicy}
use Rattle.ucon_model.specs.Action.{Trace, subject, object, write, env, amend}
use Rattle.ucon_model.specs.Readings.{in_force, has_entity, same_side, declared_attr, declared_env, given_attr, given_env}

-- an option is there where another is
default_there : {D : Type 0} (value : D → Value) (o : Option D) → is_some o ≡ true → is_some (option_map value o) ≡ true
default_there value None h = absurd cc
default_there value (Some d) h = refl

by_making : (here there : Bool) (o : Option AttrDecl) (given : Option Value) → (here || there) ≡ true → is_some o ≡ true → (there ≡ true → is_some given ≡ true)
    → is_some (cond here (option_map (λ d. d.start) o) given) ≡ true
by_making true there o given made declared old = default_there (λ d. d.start) o declared
by_making false there o given made declared old = old made

by_write : (that : Bool) (v : Value) (given : Option Value) → is_some given ≡ true → is_some (cond that (Some v) given) ≡ true
by_write true v given old = refl
by_write false v given old = old

by_amendment : {D : Type 0} (before : Option D) (value : D → Value) (o : Option D) (given : Option Value) → is_some o ≡ true
    → (is_some before ≡ true → is_some given ≡ true) → is_some (cond (is_some before) given (option_map value o)) ≡ true
by_amendment None value o given declared old = default_there value o declared
by_amendment (Some d) value o given declared old = old refl

pub attr_given : (P : PlainPolicy) (T : Trace) (side : Side) (e attr : Bytes) → has_entity side e T ≡ true
    → is_some (declared_attr (in_force P T).attrs side attr) ≡ true → is_some (given_attr P side e attr T) ≡ true
attr_given P [] Subject e attr there declared = absurd cc
attr_given P [] Object e attr there declared = absurd cc
attr_given P (subject name ∷ T) Subject e attr there declared =
    by_making (bytes_eq e name) (has_entity Subject e T) (declared_attr (in_force P T).attrs Subject attr) (given_attr P Subject e attr T) there declared
    (λ old. attr_given P T Subject e attr old declared)
attr_given P (object name ∷ T) Object e attr there declared =
    by_making (bytes_eq e name) (has_entity Object e T) (declared_attr (in_force P T).attrs Object attr) (given_attr P Object e attr T) there declared
    (λ old. attr_given P T Object e attr old declared)
attr_given P (write s n a v ∷ T) Subject e attr there declared =
    by_write (same_side Subject s && bytes_eq e n && bytes_eq attr a) v (given_attr P Subject e attr T) (attr_given P T Subject e attr there declared)
attr_given P (write s n a v ∷ T) Object e attr there declared =
    by_write (same_side Object s && bytes_eq e n && bytes_eq attr a) v (given_attr P Object e attr T) (attr_given P T Object e attr there declared)
attr_given P (amend text Q ∷ T) Subject e attr there declared =
    by_amendment (declared_attr (in_force P T).attrs Subject attr) (λ d. d.start) (declared_attr Q.attrs Subject attr) (given_attr P Subject e attr T) declared
    (λ before. attr_given P T Subject e attr there before)
attr_given P (amend text Q ∷ T) Object e attr there declared =
    by_amendment (declared_attr (in_force P T).attrs Object attr) (λ d. d.start) (declared_attr Q.attrs Object attr) (given_attr P Object e attr T) declared
    (λ before. attr_given P T Object e attr there before)
attr_given P (a ∷ T) Subject e attr there declared = attr_given P T Subject e attr there declared
attr_given P (a ∷ T) Object e attr there declared = attr_given P T Object e attr there declared

pub env_given : (P : PlainPolicy) (T : Trace) (name : Bytes) → is_some (declared_env (in_force P T).envs name) ≡ true → is_some (given_env P name T) ≡ true
env_given P [] name declared = default_there (λ d. d.start) (declared_env P.envs name) declared
env_given P (env n v ∷ T) name declared = by_write (bytes_eq name n) v (given_env P name T) (env_given P T name declared)
env_given P (amend text Q ∷ T) name declared =
    by_amendment (declared_env (in_force P T).envs name) (λ d. d.start) (declared_env Q.envs name) (given_env P name T) declared
    (λ before. env_given P T name before)
env_given P (a ∷ T) name declared = env_given P T name declared
