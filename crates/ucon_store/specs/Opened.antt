-- What opening sees in a journal with checkpoints, of which it runs only what stands behind the last one. It is said by a reading of policies'
-- texts, and then by the program's own.
use Rattle.std.specs.Prelude.{◌≡◌, ◌⊎◌, ℕ, ◌+◌, ◌<◌, ◌^◌, nat_lt, ◌≤ℤ◌, pos, Bool, ◌&&◌, List, [], ◌∷◌, ◌++◌, length, Option, Some, None, option_and_then, Result, Ok, Err, if◌then◌else◌}
use Rattle.std.specs.Result.{result_ok}
use Rattle.std.specs.Str.{bytes_eq}
use Rattle.ucon_base.specs.Elements.{Each}
use Rattle.ucon_base.specs.declared.value.Side.{Side}
use Rattle.ucon_base.specs.declared.value.Value.TheVariants.{Int}
use Rattle.ucon_model.specs.Action.{Trace}
use Rattle.ucon_model.specs.Block.{reply}
use Rattle.ucon_model.specs.Found as model
use Rattle.ucon_model.specs.Found.{Finding, Takes, first_gate, found_behind, gate_behind, next_gate}
use Rattle.ucon_model.specs.History.{History, changes, trace, trace_from}
use Rattle.ucon_model.specs.Payload.{Told, entry_told, most_payload, payload_read}
use Rattle.ucon_model.specs.Plain.{Bytes, PlainPolicy}
use Rattle.ucon_model.specs.Readings.{entities, entity_names, in_force, tick_of}
use Rattle.ucon_model.specs.Spelling.{reply_spelling}
use Rattle.ucon_model.specs.Work.{NobodyFails}
use Rattle.ucon_point.specs.HeldRows.{rows_held}
use Rattle.ucon_point.specs.Orderly.{IsOrderly}
use Rattle.ucon_point.specs.PointRead.{Said, point_read}
use Rattle.ucon_point.specs.PointText.{point_text}
use Rattle.ucon_point.specs.RowText.{IsRow, IsSpelled}
use Rattle.ucon_state.specs.Held.{Held, held_after}
use Rattle.ucon_syntax.specs.Policies.{accepted}
use Rattle.ucon_store.specs.Found.{found_by}
use Rattle.ucon_store.specs.Points.{checkpoint, has_points, text_in_force, PolicyReading}
use Rattle.ucon_journal.specs.Found.{counted}
pub use Rattle.ucon_store.specs.Parted.{Parted, first_long, parted, parted_here, parted_with, preceded_by, steps_among}

-- What opening sees: no record yet; no journal; a record that is wrong, by its number and the place of its gate; or the policy's text, how many
-- entries there are, all that is there after them, and the place of the gate behind the last record.
pub data Seen : Type 0 where
  fresh : Seen
  not_journal : Seen
  damaged : (number place : ℕ) → Seen
  holds : (text : Bytes) (entries : ℕ) (there : Held) (gate : ℕ) → Seen

-- ---- the last checkpoint

-- those of a journal around its last checkpoint, of which the first is record 0's
abbrev pub parted_behind : Bool → List Bytes → Option Parted
parted_behind points [] = None
parted_behind points (text ∷ payloads) = parted_with points payloads

-- a file's payloads around its last checkpoint
abbrev pub last_point : Bytes → Option Parted
last_point file = parted_behind (has_points file) (counted file)

-- ---- from a checkpoint on

-- The payload is the checkpoint after so many entries of what is there after the trace, in the text of the policy in force. No accessing session
-- fails after the trace. What is there has to be such as can be written, and in order: else bytes that no reading takes would be a checkpoint.
pub record IsPointBy (reads : PolicyReading) (entries : ℕ) (P : PlainPolicy) (T : Trace) (payload : Bytes) : Type 0 where
  pub text : Bytes
  pub in_force : reads text ≡ Some (in_force P T)
  pub few : entries < 2 ^ 64
  pub since : pos 0 ≤ℤ tick_of T
  pub tick : IsSpelled (Int (tick_of T))
  pub rows : Each IsRow (rows_held (held_after P T))
  pub orderly : IsOrderly (held_after P T)
  pub written : payload ≡ point_text entries text (held_after P T)
  pub made_once : (side : Side) → entities side T ≡ length (entity_names side T)
  pub settled : NobodyFails P T

-- the step that is told is the next one after a trace and the entries behind it
abbrev pub is_next_after : Trace → PlainPolicy → History → Told → Bool
is_next_after T P H t = changes t.reply && bytes_eq (reply_spelling t.reply) (reply_spelling (reply P (trace_from P T H) t.caller t.command))

abbrev pub with_next : Trace → PlainPolicy → History → Told → Option History
with_next T P H t = if is_next_after T P H t then Some (H ++ entry_told t ∷ []) else None

-- behind a trace each payload has to tell the next step
unfoldable pub steps_by : PolicyReading → Trace → Takes
steps_by reads T text P H payload =
    if nat_lt most_payload (length payload) then None else option_and_then (with_next T P H) (result_ok (payload_read reads payload))

-- what is seen if this is found behind a trace after so many entries
abbrev pub seen_after : ℕ → Trace → Finding → Seen
seen_after entries T model.fresh = fresh
seen_after entries T model.not_journal = not_journal
seen_after entries T (model.damaged number place) = damaged number place
seen_after entries T (model.holds text P H gate) = holds text (entries + length H) (held_after P (trace_from P T H)) gate

-- ---- the whole walk

-- From the last checkpoint: either it is the one of no trace, and wrong; or some trace leads to it, and the records behind it are run after that.
abbrev pub SeesFromBy : PolicyReading → Bytes → Parted → Seen → Type 0
SeesFromBy reads text p seen =
    (((P : PlainPolicy) (T : Trace) → IsPointBy reads (steps_among p.before) P T p.point → ⊥)
    × (seen ≡ damaged (length p.before + 1) (gate_behind (next_gate first_gate text) p.before)))
    ⊎ ((P : PlainPolicy) × (T : Trace) × IsPointBy reads (steps_among p.before) P T p.point
    × (seen ≡ seen_after (steps_among p.before) T (found_behind (steps_by reads T) text P [] (length p.before + 2)
    (next_gate (gate_behind (next_gate first_gate text) p.before) p.point) p.behind)))

-- by the first record that is too long, and by the last checkpoint; this is found from record 0 on
abbrev pub SeesPastBy : PolicyReading → Option (ℕ × ℕ) → Bytes → Option PlainPolicy → Option Parted → Finding → Seen → Type 0
SeesPastBy reads (Some long) text policy p found seen = seen ≡ damaged long.0 long.1
SeesPastBy reads None text None p found seen = seen ≡ damaged 0 first_gate
SeesPastBy reads None text (Some P) None found seen = seen ≡ seen_after 0 [] found
SeesPastBy reads None text (Some P) (Some p) found seen = SeesFromBy reads text p seen

-- by whether there may be checkpoints
abbrev pub SeesInBy : PolicyReading → Bool → List Bytes → Finding → Seen → Type 0
SeesInBy reads points [] found seen = seen ≡ seen_after 0 [] found
SeesInBy reads points (text ∷ payloads) found seen =
    SeesPastBy reads (first_long 0 first_gate (text ∷ payloads)) text (reads text) (parted_with points payloads) found seen

-- what opening sees in a file
abbrev pub SeesBy : PolicyReading → Bytes → Seen → Type 0
SeesBy reads file seen = SeesInBy reads (has_points file) (counted file) (found_by reads file) seen

-- ---- by the program's own reading

abbrev pub IsPointOf : ℕ → PlainPolicy → Trace → Bytes → Type 0
IsPointOf = IsPointBy accepted

abbrev pub steps_after : Trace → Takes
steps_after = steps_by accepted

abbrev pub SeesFrom : Bytes → Parted → Seen → Type 0
SeesFrom = SeesFromBy accepted

abbrev pub SeesPast : Option (ℕ × ℕ) → Bytes → Option PlainPolicy → Option Parted → Finding → Seen → Type 0
SeesPast = SeesPastBy accepted

abbrev pub SeesIn : Bool → List Bytes → Finding → Seen → Type 0
SeesIn = SeesInBy accepted

abbrev pub Sees : Bytes → Seen → Type 0
Sees = SeesBy accepted

-- ---- around the last checkpoint of what is found

-- the text of the policy in force that a checkpoint says, or if it says none this one
abbrev pub text_said : Bytes → Result Said ℕ → Bytes
text_said text (Ok said) = said.text
text_said text (Err place) = text

-- A history that is found stands around the last checkpoint. The entries before it are those whose checkpoint it is. Those behind it are what the
-- records there tell after the trace of those before.
pub record StandsAround (text : Bytes) (P : PlainPolicy) (H : History) (gate : ℕ) (p : Parted) : Type 0 where
  pub before : History
  pub behind : History
  pub all : H ≡ before ++ behind
  pub count : length before ≡ steps_among p.before
  pub is : p.point ≡ checkpoint text P before
  pub in_force : text_said text (point_read p.point) ≡ text_in_force text before
  pub point : IsPointOf (steps_among p.before) P (trace P before) p.point
  pub told : found_behind (steps_after (trace P before)) text P [] (length p.before + 2)
      (next_gate (gate_behind (next_gate first_gate text) p.before) p.point) p.behind ≡ model.holds text P behind gate
