-- Tables whose sessions keep numbers, and the names that these stand for.
use Rattle.std.specs.Prelude.{◌≡◌, ◌<◌, ℕ, zero, suc, ℤ, List, [], ◌∷◌, length, map, position, count_by, Some, unwrap_or, slice_get, if◌then◌else◌}
use Rattle.std.specs.Option.{option_map_or}
use Rattle.std.specs.Str.{bytes_eq}
use Rattle.ucon_model.specs.declared.session.SessionRow.{SessionRow}
use Rattle.ucon_model.specs.declared.session.SessionState.{SessionState}
use Rattle.ucon_model.specs.declared.session.SessionState.TheVariants.{Accessing}
use Rattle.ucon_model.specs.Plain.{Bytes}
use Rattle.ucon_model.specs.Readings.{is_accessing_state}
use Rattle.ucon_state.specs.declared.session.Session.{Session}
use Rattle.ucon_state.specs.Tables.{TablesOf, Tables}

-- the tables whose sessions keep numbers
abbrev pub Stored : Type 0
Stored = TablesOf Session

-- ---- sessions that go into another state

-- with this state and start of the session at a position
abbrev pub moved_at : SessionState → ℤ → ℕ → List Session → List Session
moved_at state start position [] = []
moved_at state start zero (s ∷ ss) = record s { state = state; start = start } ∷ ss
moved_at state start (suc position) (s ∷ ss) = s ∷ moved_at state start position ss

-- the same, in the tables
abbrev pub with_moved : Stored → ℕ → SessionState → ℤ → Stored
with_moved t position state start = record t { sessions = moved_at state start position t.sessions }

-- when a session starts that goes into this state: now if it becomes accessing, else as before
abbrev pub start_in : SessionState → ℤ → ℤ → ℤ
start_in Accessing now before = now
start_in state now before = before

-- 1 for a session that is accessing
abbrev pub accessing_in : Session → ℕ
accessing_in s = if is_accessing_state s.state then 1 else 0

-- how many of these sessions are accessing
abbrev pub accessing_of : List Session → ℕ
accessing_of sessions = count_by (λ s. is_accessing_state s.state) sessions

-- ---- the names that numbers stand for

-- the name of the entity with this number
abbrev pub name_at : List (Bytes × ℕ) → ℕ → Bytes
name_at entities number = option_map_or (λ e. e.0) (slice_get entities number) []

-- the name of the right with this number
abbrev pub right_at : List Bytes → ℕ → Bytes
right_at rights number = unwrap_or (slice_get rights number) []

-- a session with its names
abbrev pub row_of : List Bytes → List (Bytes × ℕ) → List (Bytes × ℕ) → Session → SessionRow
row_of rights subjects objects s = record {
  caller = s.caller;
  right = right_at rights s.right;
  subject = name_at subjects s.subject;
  object = name_at objects s.object;
  state = s.state;
  start = s.start;
}

-- the tables that these stand for: each session with its names
abbrev pub named : List Bytes → Stored → Tables
named rights t = record {
  subjects = t.subjects;
  objects = t.objects;
  cells = t.cells;
  variables = t.variables;
  tick = t.tick;
  acts = t.acts;
  sessions = map (row_of rights t.subjects t.objects) t.sessions;
}

-- ---- what holds of the numbers

-- a session's numbers are below those of so many rights, subjects and objects
pub record NumbersAreBelow (rights subjects objects : ℕ) (s : Session) : Type 0 where
  pub right : s.right < rights
  pub subject : s.subject < subjects
  pub object : s.object < objects

-- each name has one number
abbrev pub AreDistinct : List (Bytes × ℕ) → Type 0
AreDistinct es = (e : Bytes) (i : ℕ) → slice_get (map (λ d. d.0) es) i ≡ Some e → position (bytes_eq e) (map (λ d. d.0) es) ≡ Some i

-- the numbers of each session are there, and each entity has one number
pub record AreNumbered (rights : List Bytes) (subjects objects : List (Bytes × ℕ)) (sessions : List Session) : Type 0 where
  pub numbers : (i : ℕ) (s : Session) → slice_get sessions i ≡ Some s → NumbersAreBelow (length rights) (length subjects) (length objects) s
  pub subjects_differ : AreDistinct subjects
  pub objects_differ : AreDistinct objects
