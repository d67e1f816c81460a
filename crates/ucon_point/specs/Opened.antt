-- What is opened from a checkpoint, against what its text says.
use Rattle.std.specs.Prelude.{◌≡◌, ℕ, List, Some, Result, Ok}
use Rattle.ucon_model.specs.Plain.{PlainPolicy}
use Rattle.ucon_state.specs.declared.state.State.{State}
use Rattle.ucon_state.specs.TakingUp.{HasNothingToUndo}
use Rattle.ucon_state.specs.Shown.{shown}
use Rattle.ucon_point.specs.declared.point.Point.{Point}
use Rattle.ucon_point.specs.declared.row.Row.{Row}
use Rattle.ucon_point.specs.PointRead.{Said}
use Rattle.ucon_point.specs.Standing.{Standing, start, put_all}

-- a row came, and this is what the rows have made with it
abbrev pub IsPut : Result (Row × Standing) ℕ → Standing → Type 0
IsPut read next = (row : Row) × (read ≡ Ok (row, next))

-- rows came, and the tables of the state are what they made
pub record ArePut (Q : PlainPolicy) (before : Standing) (read : Result (List Row) ℕ) (s : State) : Type 0 where
  pub rows : List Row
  pub come : read ≡ Ok rows
  pub end : Standing
  pub made : put_all Q before rows ≡ Some end
  pub tables : (shown s).tables ≡ end.tables

-- a checkpoint was read, and what is opened holds what it says
pub record IsRead (read : Result Said ℕ) (p : Point) : Type 0 where
  pub said : Said
  pub come : read ≡ Ok said
  pub entries : p.entries ≡ said.entries
  pub text : p.policy.items ≡ said.text
  pub policy : (shown p.state).policy ≡ said.policy
  pub end : Standing
  pub made : put_all said.policy (start said.policy said.tick) said.rows ≡ Some end
  pub tables : (shown p.state).tables ≡ end.tables
  pub settled : HasNothingToUndo (shown p.state)
