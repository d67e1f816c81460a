-- What is there after a trace of names and values has rows that have their texts.
use Rattle.std.proofs.Common.{◌≡◌, ℕ, zero, suc, Bool, true, false, List, [], ◌∷◌, map, Ok, arith, cond}
use Rattle.std.specs.Prelude.{ℤ, pos, Option, Some, None, IfSome, IsTrue, unwrap_or}
use Rattle.std.specs.List.{flat_map}
use Rattle.std.proofs.lemmas.Int.{ints}
use Rattle.ucon_base.specs.Elements.{Each, each_append, each_map}
use Rattle.ucon_base.specs.NameBytes.{is_name}
use Rattle.ucon_base.specs.Numbers.{InRange}
use Rattle.ucon_base.specs.Reading.{value_read}
use Rattle.ucon_base.specs.Spelling.{IsValue, value_spelling}
use Rattle.ucon_base.specs.declared.value.Side.{Side}
use Rattle.ucon_base.specs.declared.value.Side.TheVariants as sides
use Rattle.ucon_base.specs.declared.value.Value.{Value}
use Rattle.ucon_base.specs.declared.value.Value.TheVariants.{Int}
use Rattle.ucon_model.specs.declared.policy.AttrDecl.{AttrDecl}
use Rattle.ucon_model.specs.declared.policy.EnvDecl.{EnvDecl}
use Rattle.ucon_model.specs.declared.session.SessionRow.{SessionRow}
use Rattle.ucon_model.specs.Action.{Trace}
use Rattle.ucon_model.specs.Plain.{Bytes, PlainPolicy}
use Rattle.ucon_model.specs.Readings.{in_force, same_side, entity_names, attribute, variable, moment, act_rows, session, sessions}
use Rattle.ucon_state.specs.Held.{held_after}
use Rattle.ucon_point.specs.declared.row.Row.{Row}
use Rattle.ucon_point.specs.declared.row.Row.TheVariants.{Variable, Attribute}
use Rattle.ucon_point.specs.HeldRows.{given, variable_rows, attribute_rows, entity_rows, act_row, session_rows, session_rows_to, rows_held}
use Rattle.ucon_point.specs.RowText.{IsRow, IsSpelled}
use Rattle.ucon_store.proofs.Spelled.Policies.{IsAttr, IsEnv, IsOfNames}
use Rattle.ucon_store.proofs.Spelled.Traces.{AreSpelled, IsActSpelled, IsRowSpelled, acts_spelled, attribute_spelled, force_spelled, moment_spelled, names_spelled, session_spelled, variable_spelled}

each_flat : {A B : Type 0} (Q : B → Type 0) (f : A → List B) (xs : List A) → Each (λ x. Each Q (f x)) xs → Each Q (flat_map f xs)
each_flat Q f [] h = tt
each_flat Q f (x ∷ xs) h = each_append Q (f x) (flat_map f xs) h.0 (each_flat Q f xs h.1)

each_of_map : {A B : Type 0} (Q : B → Type 0) (f : A → B) (xs : List A) → Each (λ x. Q (f x)) xs → Each Q (map f xs)
each_of_map Q f [] h = tt
each_of_map Q f (x ∷ xs) h = (h.0, each_of_map Q f xs h.1)

module _ (written : (v : Value) → IsValue v → value_read (value_spelling v) ≡ Ok v) (P : PlainPolicy) (policy : IsOfNames P) (T : Trace) (h : AreSpelled T) where
  given_spelled : (row : Value → Row) (o : Option Value) → IfSome o IsValue → ((v : Value) → IsValue v → IsRow (row v)) → Each IsRow (given row o)
  given_spelled row None is each = tt
  given_spelled row (Some v) is each = (each v is, tt)

  variable_spelled_row : (d : EnvDecl) → IsEnv d → Each IsRow (variable_rows (held_after P T) d)
  variable_spelled_row d is = given_spelled (λ v. Variable d.name v) (variable P T d.name) (variable_spelled P policy T h d.name) (λ v value. (is.name, written v value))

  attribute_spelled_rows : (side : Side) (name : Bytes) (d : AttrDecl) → IsAttr d → Each IsRow (attribute_rows (held_after P T) side name d)
  attribute_spelled_rows side name d is = by (same_side side d.side)
    where
      by : (b : Bool) → Each IsRow (cond b (given (λ v. Attribute d.name v) (attribute P T side name d.name)) [])
      by true = given_spelled (λ v. Attribute d.name v) (attribute P T side name d.name) (attribute_spelled P policy T h side name d.name) (λ v value. (is.name, written v value))
      by false = tt

  entity_spelled_rows : (side : Side) (name : Bytes) → IsTrue (is_name name) → Each IsRow (entity_rows (held_after P T) side name)
  entity_spelled_rows side name is = (
    is,
    each_flat IsRow (attribute_rows (held_after P T) side name) (in_force P T).attrs
        (each_map IsAttr (λ d. Each IsRow (attribute_rows (held_after P T) side name d)) (attribute_spelled_rows side name) (in_force P T).attrs (force_spelled P T policy h).attrs),
  )

  integer_spelled : (n : ℤ) → InRange n → IsSpelled (Int n)
  integer_spelled n is = written (Int n) is

  moment_or_zero : (o : Option ℤ) → IfSome o InRange → InRange (unwrap_or o (pos 0))
  moment_or_zero None is = record { low = omega (arith, ints); high = omega (arith, ints) }
  moment_or_zero (Some m) is = is

  act_spelled_row : (a : Bytes × Bytes × Bytes) → IsActSpelled a → IsRow (act_row (held_after P T) a)
  act_spelled_row a is = (is, integer_spelled _ (moment_or_zero (moment a.0 a.1 a.2 T) (moment_spelled T h a.0 a.1 a.2)))

  session_spelled_rows : (n : ℕ) → Each IsRow (session_rows_to (session T) n)
  session_spelled_rows zero = tt
  session_spelled_rows (suc n) =
      each_append IsRow (session_rows_to (session T) n) (session_rows (session T (suc n))) (session_spelled_rows n) (by (session T (suc n)) (session_spelled T h (suc n)))
    where
      by : (o : Option SessionRow) → IfSome o IsRowSpelled → Each IsRow (session_rows o)
      by None is = tt
      by (Some row) is = ((is.client, is.names, integer_spelled row.start is.start), tt)

  side_spelled_rows : (side : Side) → Each IsRow (flat_map (entity_rows (held_after P T) side) (entity_names side T))
  side_spelled_rows side =
      each_flat IsRow (entity_rows (held_after P T) side) (entity_names side T)
      (each_map (λ n. IsTrue (is_name n)) (λ n. Each IsRow (entity_rows (held_after P T) side n)) (entity_spelled_rows side) (entity_names side T) (names_spelled side T h))

  pub rows_spelled : Each IsRow (rows_held (held_after P T))
  rows_spelled =
      each_append IsRow (flat_map (variable_rows (held_after P T)) (in_force P T).envs) _
      (each_flat IsRow (variable_rows (held_after P T)) (in_force P T).envs
      (each_map IsEnv (λ d. Each IsRow (variable_rows (held_after P T) d)) variable_spelled_row (in_force P T).envs (force_spelled P T policy h).envs))
      (each_append IsRow (flat_map (entity_rows (held_after P T) sides.Subject) (entity_names sides.Subject T)) _ (side_spelled_rows sides.Subject)
      (each_append IsRow (flat_map (entity_rows (held_after P T) sides.Object) (entity_names sides.Object T)) _ (side_spelled_rows sides.Object)
      (each_append IsRow (map (act_row (held_after P T)) (act_rows T)) (session_rows_to (session T) (sessions T))
      (each_of_map IsRow (act_row (held_after P T)) (act_rows T) (each_map IsActSpelled (λ a. IsRow (act_row (held_after P T) a)) act_spelled_row (act_rows T) (acts_spelled T h)))
      (session_spelled_rows (sessions T)))))
