-- When all values are what their declarations admit, as they are under a policy that is well typed.
use Rattle.std.specs.Prelude.{◌≡◌, Option, Some, IsTrue, IsSomeAnd}
use Rattle.ucon_base.specs.declared.value.Side.{Side}
use Rattle.ucon_base.specs.declared.value.Side.TheVariants.{Subject, Object}
use Rattle.ucon_base.specs.declared.value.Value.{Value}
use Rattle.ucon_base.specs.Admits.{admits}
use Rattle.ucon_model.specs.declared.formula.Ref.{Ref}
use Rattle.ucon_model.specs.declared.formula.Sort.{Sort}
use Rattle.ucon_model.specs.declared.session.SessionRow.{SessionRow}
use Rattle.ucon_model.specs.Plain.{Bytes, PlainUpdate, PlainPolicy}
use Rattle.ucon_model.specs.Action.{Trace}
use Rattle.ucon_model.specs.Readings.{in_force, has_entity, declared_attr, attribute, declared_env, variable}
use Rattle.ucon_model.specs.Updates.{updates_of, result}
use Rattle.ucon_base.specs.Elements.{Each}
use Rattle.ucon_model.specs.Typing.{value_sort, place_sort}

-- the attribute is declared, and its declaration admits the value
abbrev pub AttributeAdmits : PlainPolicy → Side → Bytes → Value → Type 0
AttributeAdmits P side attr v = IsSomeAnd (declared_attr P.attrs side attr) (λ d. IsTrue (admits d.kind v))

-- the variable is declared, and its declaration admits the value
abbrev pub VariableAdmits : PlainPolicy → Bytes → Value → Type 0
VariableAdmits P name v = IsSomeAnd (declared_env P.envs name) (λ d. IsTrue (admits d.kind v))

-- after the trace each attribute of an entity and each variable holds a value that its declaration admits
pub record ValuesFit (P : PlainPolicy) (T : Trace) : Type 0 where
  pub attributes : (side : Side) (e attr : Bytes) (v : Value) → attribute P T side e attr ≡ Some v → AttributeAdmits (in_force P T) side attr v
  pub variables : (name : Bytes) (v : Value) → variable P T name ≡ Some v → VariableAdmits (in_force P T) name v

-- an update's result after a trace is a value that the declaration of its attribute admits
abbrev pub ResultFits : PlainPolicy → Trace → SessionRow → PlainUpdate → Type 0
ResultFits P T row u = AttributeAdmits (in_force P T) u.side u.attr (result P T row u)

-- if all values of the trace fit, and a session's subject and object are there, the result of each update of its right fits
abbrev pub UpdatesFit : PlainPolicy → Trace → Type 0
UpdatesFit P T =
    (row : SessionRow) → ValuesFit P T → IsTrue (has_entity Subject row.subject T) → IsTrue (has_entity Object row.object T)
    → Each (ResultFits P T row) (updates_of (in_force P T) row)

-- each place that is declared and holds a value holds one of the declared sort
abbrev pub PlacesFit : PlainPolicy → (Ref → Option Value) → Type 0
PlacesFit P at = (place : Ref) (s : Sort) (v : Value) → place_sort P place ≡ Some s → at place ≡ Some v → value_sort v ≡ s
