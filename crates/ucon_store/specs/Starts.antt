-- Where a store begins: before all entries, or behind the checkpoint that opening used.
use Rattle.std.specs.Prelude.{◌≡◌, ℕ, ◌+◌, [], length, Option, Some, None}
use Rattle.ucon_model.specs.Action.{Trace}
use Rattle.ucon_model.specs.History.{History, trace_from}
use Rattle.ucon_model.specs.Plain.{Bytes, PlainPolicy}
use Rattle.ucon_point.specs.PointRead.{point_read}
use Rattle.ucon_point.specs.PointText.{point_text}
use Rattle.ucon_state.specs.Held.{held_after}
use Rattle.ucon_store.specs.Opened.{IsPointOf, Parted, steps_among, text_said}
use Rattle.ucon_store.specs.Points.{text_in_force}

-- it is before all entries: opening used no checkpoint, and no entries stand before
abbrev pub IsBeforeAll : Option Bytes → ℕ → Type 0
IsBeforeAll point before = (point ≡ None) × (before ≡ 0)

-- a trace that leads there, after so many entries: the empty one, or one that leads to the checkpoint with this payload
abbrev pub IsStart : PlainPolicy → Option Bytes → ℕ → Trace → Type 0
IsStart P None before T = (before ≡ 0) × (T ≡ [])
IsStart P (Some payload) before T = IsPointOf before P T payload

-- it is at the last checkpoint, behind as many entries as stand before it; or before all entries, if there is no checkpoint
abbrev pub BeginsAt : Option Parted → Option Bytes → ℕ → Type 0
BeginsAt None point before = IsBeforeAll point before
BeginsAt (Some p) point before = (point ≡ Some p.point) × (before ≡ steps_among p.before)

-- the text of the policy in force there: the first policy's, or the one that the checkpoint says
abbrev pub text_at_start : Bytes → Option Bytes → Bytes
text_at_start text None = text
text_at_start text (Some payload) = text_said text (point_read payload)

-- the text of a checkpoint behind these entries, from a trace on that leads there after so many others, if this is the text of the policy in force
abbrev pub point_behind : Bytes → ℕ → PlainPolicy → Trace → History → Bytes
point_behind text before P T H = point_text (before + length H) (text_in_force text H) (held_after P (trace_from P T H))

-- the same of a store under the policy of this text that begins here
abbrev pub checkpoint_behind : Bytes → Option Bytes → ℕ → PlainPolicy → Trace → History → Bytes
checkpoint_behind text point before P T H = point_behind (text_at_start text point) before P T H
