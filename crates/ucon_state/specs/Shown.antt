-- What a state shows.
use Rattle.std.specs.Prelude.{ℕ, ◌<◌, List, [], ◌∷◌, length}
use Rattle.ucon_model.specs.Checked.{checked_policy}
use Rattle.ucon_model.specs.Action.{Action}
use Rattle.ucon_model.specs.Plain.{Bytes, PlainPolicy}
use Rattle.ucon_model.specs.Readings.{in_force}
use Rattle.ucon_state.specs.declared.change.Undo.{Undo}
use Rattle.ucon_state.specs.declared.state.State.{State}
use Rattle.ucon_state.specs.Applied.{applied}
use Rattle.ucon_state.specs.Stored.{Stored, name_at, named, right_at}
use Rattle.ucon_state.specs.Tables.{Tables}
use Rattle.ucon_state.specs.Undo.{policy_undone, all_undone}
use Rattle.ucon_state.specs.Views.{lists_of}

-- the policy and the tables now, and those that undoing gives: those at the last keep, or at the making
pub record Shown : Type 0 where
  pub policy : PlainPolicy
  pub tables : Tables
  pub opening_policy : PlainPolicy
  pub opening : Tables

-- what these tables show, by the names of rights, with these changes to undo
abbrev pub showing : PlainPolicy → List Bytes → Stored → List Undo → Shown
showing P rights t changes = record {
  policy = P;
  tables = named rights t;
  opening_policy = policy_undone changes P;
  opening = named rights (all_undone changes t);
}

-- the names of the rights that sessions may have; a right's number is its position, from 0
abbrev pub right_names : State → List Bytes
right_names s = s.rights.items

abbrev pub shown : State → Shown
shown s = showing (checked_policy s.planned.checked) (right_names s) (lists_of s.tables) s.changes.items

-- the name of the right, the subject or the object with this number
abbrev pub right_name : State → ℕ → Bytes
right_name s number = right_at (right_names s) number

abbrev pub subject_name : State → ℕ → Bytes
subject_name s number = name_at (shown s).tables.subjects number

abbrev pub object_name : State → ℕ → Bytes
object_name s number = name_at (shown s).tables.objects number

-- there are a right, a subject and an object with these numbers
pub record AreThere (s : State) (right subject object : ℕ) : Type 0 where
  pub right_below : right < length (right_names s)
  pub subject_below : subject < length (shown s).tables.subjects
  pub object_below : object < length (shown s).tables.objects

-- a change: only the tables are others, and undoing gives what it gave before
abbrev pub changed_to : Shown → Tables → Shown
changed_to s tables = record s { tables = tables }

-- a change by an action: the tables are as it makes them, and the policy is the one in force after it
abbrev pub changed_by : Shown → Action → Shown
changed_by s a = record s { policy = in_force s.policy (a ∷ []); tables = applied s.policy a s.tables }

-- the state that undoing gives
abbrev pub given_back : Shown → Shown
given_back s = record s { policy = s.opening_policy; tables = s.opening }

-- from here on undoing gives what is there now
abbrev pub kept : Shown → Shown
kept s = record s { opening_policy = s.policy; opening = s.tables }
