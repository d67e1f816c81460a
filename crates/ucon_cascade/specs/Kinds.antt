-- Kinds of sessions that share a judgement.
use Rattle.std.specs.Prelude.{◌≡◌, ℕ, IfSome, Some}
use Rattle.ucon_model.specs.declared.session.SessionRow.{SessionRow}
use Rattle.ucon_readers.specs.declared.kind.Kind.{Kind}
use Rattle.ucon_state.specs.declared.state.State.{State}
use Rattle.ucon_state.specs.Shown.{object_name, right_name, shown, subject_name}
use Rattle.ucon_state.specs.Tables.{session_in}

-- session n is of a kind: it has the right with the kind's number and, on each side where the kind tells one, the entity with that number
pub record IsOfKind (s : State) (n : ℕ) (kind : Kind) : Type 0 where
  pub row : SessionRow
  pub is : session_in (shown s).tables n ≡ Some row
  pub right : row.right ≡ right_name s kind.right
  pub subject : IfSome kind.subject (λ number. row.subject ≡ subject_name s number)
  pub object : IfSome kind.object (λ number. row.object ≡ object_name s number)
