-- What a step answers and does.
use Rattle.std.specs.Prelude.{◌≡◌, ◌⊎◌, ◌+◌, List, [], ◌∷◌, ◌++◌, length, take, true, Some, None, if◌then◌else◌}
use Rattle.ucon_model.specs.declared.command.Entry.{Entry}
use Rattle.ucon_model.specs.Action.{Trace}
use Rattle.ucon_model.specs.Block.{reply as reply_to}
use Rattle.ucon_model.specs.History.{History, said, changes, grown, trace_from}
use Rattle.ucon_model.specs.Payload.{told, payload_spelling}
use Rattle.ucon_model.specs.Plain.{Bytes, PlainPolicy}
use Rattle.ucon_model.specs.Views.{reply_of}
use Rattle.ucon_disk.specs.Causes.{raised}
use Rattle.ucon_journal.specs.Found.{counted}
use Rattle.ucon_store.specs.declared.placed.Placed.{Placed}
use Rattle.ucon_store.specs.Kept.{Kept}
use Rattle.ucon_disk.specs.Seen.{DiskSeen}

-- ---- behind a history

-- the reply to an entry is the one after the entries before it; its place is the number of entries then, the entry among them if it changes something
pub record IsPlaced {D : Type 0} (P : PlainPolicy) (old new : Kept D) (e : Entry) (p : Placed) : Type 0 where
  pub reply : reply_of p.reply ≡ said P old.entries e.caller e.command
  pub entries : new.entries ≡ grown P old.entries e
  pub place : p.place ≡ length new.entries
  pub unmarked : new.mark ≡ None

-- the entry's step would have changed something, and met a disk fault: it alone is the mark, and nothing else is other
pub record HasFailed {D : Type 0} (seen : D → DiskSeen) (P : PlainPolicy) (old new : Kept D) (e : Entry) : Type 0 where
  pub would_change : changes (said P old.entries e.caller e.command) ≡ true
  pub rose : (seen new.disk).faults ≡ raised (seen old.disk).faults
  pub mark : new.mark ≡ Some (e ∷ [])
  pub entries : new.entries ≡ old.entries

-- ---- behind a trace

-- entries behind a trace with the entry, if its reply after them changes something
abbrev pub grown_behind : PlainPolicy → Trace → History → Entry → History
grown_behind P T H e = if changes (reply_to P (trace_from P T H) e.caller e.command) then H ++ e ∷ [] else H

-- the reply to an entry is the one after the trace and the store's entries; its place is the number of all entries then, those before the
-- store's among them
pub record IsPlacedBehind {D : Type 0} (P : PlainPolicy) (T : Trace) (old new : Kept D) (e : Entry) (p : Placed) : Type 0 where
  pub reply : reply_of p.reply ≡ reply_to P (trace_from P T old.entries) e.caller e.command
  pub entries : new.entries ≡ grown_behind P T old.entries e
  pub place : p.place ≡ new.before + length new.entries
  pub unmarked : new.mark ≡ None

-- the entry's step would have changed something after the trace and the store's entries, and met a disk fault
pub record HasFailedBehind {D : Type 0} (seen : D → DiskSeen) (P : PlainPolicy) (T : Trace) (old new : Kept D) (e : Entry) : Type 0 where
  pub would_change : changes (reply_to P (trace_from P T old.entries) e.caller e.command) ≡ true
  pub rose : (seen new.disk).faults ≡ raised (seen old.disk).faults
  pub mark : new.mark ≡ Some (e ∷ [])
  pub entries : new.entries ≡ old.entries

-- ---- in the file, whatever it is found as

-- what the record of an entry's step says: the entry, and the reply to it after a trace and the entries behind that
abbrev pub step_payload : PlainPolicy → Trace → History → Entry → Bytes
step_payload P T H e = payload_spelling (told e (reply_to P (trace_from P T H) e.caller e.command))

-- it begins with the file's magic, and what counts in it are the file's payloads, or those and all of these behind them
pub record AddsTogether (added : List Bytes) (file c : Bytes) : Type 0 where
  pub magic : take 8 c ≡ take 8 file
  pub payloads : (counted c ≡ counted file) ⊎ (counted c ≡ counted file ++ added)

-- the same of one more
abbrev pub AddsAtMost : (payload file c : Bytes) → Type 0
AddsAtMost payload = AddsTogether (payload ∷ [])
