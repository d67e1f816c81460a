-- What opening sees in a journal that is a document's own.
use Rattle.std.specs.Prelude.{◌≡◌, ℕ, ◌+◌, [], length, Option, Some, None, IfSome}
use Rattle.ucon_model.specs.Action.{Trace}
use Rattle.ucon_model.specs.History.{History, trace_from}
use Rattle.ucon_model.specs.Plain.{Bytes, PlainPolicy}
use Rattle.ucon_state.specs.Held.{held_after}
use Rattle.ucon_store.specs.Opened.{IsPointBy, Seen, fresh, not_journal, damaged, holds, last_point, SeesBy}
use Rattle.ucon_point.specs.PointText.{point_text}
use Rattle.ucon_store.specs.Points.{PolicyReading, text_in_force}
use Rattle.ucon_store.specs.Starts.{BeginsAt}

-- a fresh file, without an entry, or a journal under the policy of this text, with so many entries
abbrev pub HasEntries : Seen → Bytes → ℕ → Type 0
HasEntries fresh text n = n ≡ 0
HasEntries not_journal text n = ⊥
HasEntries (damaged number place) text n = ⊥
HasEntries (holds other entries there gate) text n = (other ≡ text) × (entries ≡ n)

-- Opening sees one or the other in a file. It runs only what stands behind the last checkpoint, so the file needs not be found as a history.
pub record IsOwnFileBy (reads : PolicyReading) (text : Bytes) (entries : ℕ) (file : Bytes) : Type 0 where
  pub seen : Seen
  pub sees : SeesBy reads file seen
  pub has : HasEntries seen text entries

-- of a fresh file, no entry and the empty trace; or of a journal under the policy of this text, so many entries, and what is there after the trace
abbrev pub HasState : Seen → Bytes → PlainPolicy → ℕ → Trace → Type 0
HasState fresh text P n T = (n ≡ 0) × (T ≡ [])
HasState not_journal text P n T = ⊥
HasState (damaged number place) text P n T = ⊥
HasState (holds other entries there gate) text P n T = (other ≡ text) × (entries ≡ n) × (there ≡ held_after P T)

-- opening sees in a file of its own what is there after this trace
pub record IsOwnStateBy (reads : PolicyReading) (text : Bytes) (P : PlainPolicy) (entries : ℕ) (T : Trace) (file : Bytes) : Type 0 where
  pub seen : Seen
  pub sees : SeesBy reads file seen
  pub has : HasState seen text P entries T

-- A trace leads to where opening began, where the policy in force has this text. It is the empty one, under the first text; or one that leads to the
-- checkpoint with this payload, which says the text.
abbrev pub LeadsThereBy : PolicyReading → (first : Bytes) → PlainPolicy → Option Bytes → ℕ → Trace → (now : Bytes) → Type 0
LeadsThereBy reads first P None before T now = (before ≡ 0) × (T ≡ []) × (now ≡ first)
LeadsThereBy reads first P (Some payload) before T now = (point : IsPointBy reads before P T payload) × (now ≡ point.text)

-- The payload is the checkpoint after so many entries, which make these actions, of what is there then. Opening began at the file's last checkpoint,
-- if the disk told its file and it has one, and otherwise before all entries. The trace leads there, and the other entries stand behind.
pub record IsCheckpointThereBy (reads : PolicyReading) (text : Bytes) (contents : Option Bytes) (P : PlainPolicy) (entries : ℕ) (actions : Trace)
    (payload : Bytes) : Type 0 where
  pub point : Option Bytes
  pub before : ℕ
  pub begun : Trace
  pub begun_text : Bytes
  pub behind : History
  pub begins : IfSome contents (λ file. BeginsAt (last_point file) point before)
  pub leads : LeadsThereBy reads text P point before begun begun_text
  pub count : entries ≡ before + length behind
  pub all : actions ≡ trace_from P begun behind
  pub is : payload ≡ point_text entries (text_in_force begun_text behind) (held_after P actions)
