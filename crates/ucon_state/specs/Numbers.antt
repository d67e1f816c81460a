-- The names that a session's numbers stand for.
use Rattle.ucon_model.specs.declared.session.SessionRow.{SessionRow}
use Rattle.ucon_model.specs.Plain.{Bytes}
use Rattle.ucon_state.specs.declared.numbers.Numbers.{Numbers}
use Rattle.ucon_state.specs.declared.state.State.{State}
use Rattle.ucon_state.specs.Shown.{object_name, right_name, subject_name}

-- the names of a right, a subject and an object
pub record Names : Type 0 where
  pub right : Bytes
  pub subject : Bytes
  pub object : Bytes

-- those of a session
abbrev pub names_of : SessionRow → Names
names_of row = record { right = row.right; subject = row.subject; object = row.object }

-- those with these numbers in a state
abbrev pub names_by : State → Numbers → Names
names_by s numbers = record {
  right = right_name s numbers.right;
  subject = subject_name s numbers.subject;
  object = object_name s numbers.object;
}
