-- What is enough for the ongoing predicates of a right to hold.
use Rattle.std.specs.Prelude.{◌≡◌, ℕ, ℤ, ◌+ℤ◌, ◌≤ℤ◌, Bool, true, Some, None, List, slice_get, Option, Vec}
use Rattle.std.specs.List.{All}
use Rattle.std.specs.declared.alloc.Global.{Global}
use Rattle.ucon_base.specs.declared.value.Side.{Side}
use Rattle.ucon_base.specs.declared.value.Value.{Value}
use Rattle.ucon_base.specs.declared.value.Value.TheVariants as values
use Rattle.ucon_model.specs.declared.formula.Ref.{Ref}
use Rattle.ucon_model.specs.declared.session.SessionRow.{SessionRow}
use Rattle.ucon_model.specs.Decision.{first_false, ongoing}
use Rattle.ucon_model.specs.Places.{attr_place}
use Rattle.ucon_model.specs.Plain.{Bytes, PlainPolicy, PlainPredicate, PlainRight}
use Rattle.ucon_model.specs.Readings.{attr_position}
use Rattle.ucon_model.specs.Truth.{Readings}
use Rattle.ucon_state.specs.declared.planned.Check.{Check}
use Rattle.ucon_state.specs.declared.planned.Check.TheVariants.{Between, Lasts}

-- a place is that of the attribute at this position among those of a side
pub record StandsAt (P : PlainPolicy) (place : Ref) (side : Side) (position : ℕ) : Type 0 where
  pub attr : Bytes
  pub is : place ≡ attr_place side attr
  pub at : attr_position P side attr ≡ Some position

-- there is a value, and it is an integer from low to high
pub record IsBetween (low high : ℤ) (v : Option Value) : Type 0 where
  pub number : ℤ
  pub is : v ≡ Some (values.Int number)
  pub from : low ≤ℤ number
  pub to : number ≤ℤ high

-- a check is met for a session
abbrev pub IsMet : PlainPolicy → Readings → SessionRow → Check → Type 0
IsMet P R row (Between side position low high) = (place : Ref) → StandsAt P place side position → IsBetween low high (R.at row place)
IsMet P R row (Lasts n) = R.now ≤ℤ (row.start +ℤ n)

-- what is asked of a session is true wherever the check is met
abbrev pub IsEnough : PlainPolicy → Check → (Readings → SessionRow → Bool) → Type 0
IsEnough P check asked = (R : Readings) (row : SessionRow) → IsMet P R row check → asked R row ≡ true

-- wherever all these checks are met, no ongoing one of these predicates is false
abbrev pub AreEnough : PlainPolicy → List Check → List PlainPredicate → Type 0
AreEnough P checks preds = (R : Readings) (row : SessionRow) → All (IsMet P R row) checks → first_false R row ongoing preds ≡ None

-- if there are checks at the position of a right, they are enough for its predicates
abbrev pub ArePlans : PlainPolicy → List (Option (Vec Check Global)) → Type 0
ArePlans P plans =
    (k : ℕ) (r : PlainRight) (checks : Vec Check Global) → slice_get P.rights k ≡ Some r → slice_get plans k ≡ Some (Some checks)
    → AreEnough P checks.items r.preds
