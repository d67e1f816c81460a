-- What a journal's records give, from the last checkpoint on.
use Rattle.std.specs.Prelude.{◌≡◌, ◌⊎◌, ℕ, ◌+◌, ◌*◌, ◌<◌, ◌≤◌, List, [], ◌∷◌, length, Option, Some, None, IfSome}
use Rattle.ucon_journal.specs.declared.journal.Journal.{Journal}
use Rattle.ucon_journal.specs.Found.{counted, payloads_from}
use Rattle.ucon_journal.specs.Journal.{disk_of, gate_of}
use Rattle.ucon_model.specs.Action.{Trace}
use Rattle.ucon_model.specs.Found.{Finding, first_gate, found_behind, fresh, gate_behind, holds, next_gate}
use Rattle.ucon_model.specs.History.{History, trace_from}
use Rattle.ucon_model.specs.Plain.{Bytes, PlainPolicy}
use Rattle.ucon_model.specs.Work.{NobodyFails}
use Rattle.ucon_point.specs.PointRead.{point_read}
use Rattle.ucon_store.specs.declared.beginning.Beginning.{Beginning}
use Rattle.ucon_store.specs.declared.loading.Loaded.{Loaded}
use Rattle.ucon_store.specs.Found.{found}
use Rattle.ucon_store.specs.Kept.{RevokesFew, payload_in}
use Rattle.ucon_store.specs.Opened.{IsPointOf, Parted, first_long, parted_with, steps_after, text_said}
use Rattle.ucon_store.specs.Points.{has_points, text_in_force}
use Rattle.ucon_store.specs.Starts.{BeginsAt, IsBeforeAll, IsStart, text_at_start}
use Rattle.ucon_syntax.specs.Policies.{accepted}
use Rattle.ucon_disk.specs.Seen.{DiskSeen}

-- ---- at the last checkpoint

-- Under each policy some trace leads to the checkpoint after so many entries. The engine follows each such trace, behind which no reply will have too
-- many revocations. This is the text of the policy in force there.
pub record TakesUp {E : Type 0} (follows : E → PlainPolicy → Trace → Type 0) (entries : ℕ) (payload : Bytes) (engine : E) (point : Beginning) (now : Bytes) : Type 0 where
  pub payload_is : point.payload.items ≡ payload
  pub in_force : (text : Bytes) → text_said text (point_read payload) ≡ now
  pub leads : (P : PlainPolicy) → (T : Trace) × IsPointOf entries P T payload
  pub stands : (P : PlainPolicy) (T : Trace) → IsPointOf entries P T payload → follows engine P T
  pub revokes : (P : PlainPolicy) (T : Trace) → IsPointOf entries P T payload → RevokesFew P T

-- no trace leads to the checkpoint after so many entries
abbrev pub IsOfNone : ℕ → Bytes → Type 0
IsOfNone entries payload = (P : PlainPolicy) (T : Trace) → IsPointOf entries P T payload → ⊥

-- ---- behind it

-- Some trace leads to where the entries begin. Behind each such trace the engine follows the entries, no accessing session fails, and no reply will
-- have too many revocations. The text that is kept for it is that of the policy in force behind the entries.
pub record IsStanding {E : Type 0} (follows : E → PlainPolicy → Trace → Type 0) (loaded : Loaded E) : Type 0 where
  pub P : PlainPolicy
  pub accepts : accepted loaded.policy.items ≡ Some P
  pub begun : Trace
  pub starts : IsStart P (payload_in loaded.point) loaded.before begun
  pub stands : (T : Trace) → IsStart P (payload_in loaded.point) loaded.before T → follows loaded.engine P (trace_from P T loaded.entries)
  pub settled : (T : Trace) → IsStart P (payload_in loaded.point) loaded.before T → NobodyFails P (trace_from P T loaded.entries)
  pub revokes : (T : Trace) → IsStart P (payload_in loaded.point) loaded.before T → RevokesFew P T
  pub in_force : loaded.in_force.text.items ≡ text_in_force (text_at_start loaded.policy.items (payload_in loaded.point)) loaded.entries

-- Under the policy, behind each trace at which the entries begin, taking the payload in gives these; None if it isn't the next step's.
abbrev pub TakingGives : {E : Type 0} → Loaded E → Bytes → Option History → Type 0
TakingGives loaded payload entries = (P : PlainPolicy) (T : Trace) → accepted loaded.policy.items ≡ Some P
    → IsStart P (payload_in loaded.point) loaded.before T → steps_after T loaded.policy.items P loaded.entries payload ≡ entries

-- what is found behind a trace in the records behind a journal's last checkpoint; if there is none, in those behind record 0
abbrev pub found_from : PlainPolicy → Trace → Bytes → List Bytes → Option Parted → Finding
found_from P T text payloads None = found_behind (steps_after T) text P [] 1 (next_gate first_gate text) payloads
found_from P T text payloads (Some p) =
    found_behind (steps_after T) text P [] (length p.before + 2) (next_gate (gate_behind (next_gate first_gate text) p.before) p.point) p.behind

-- Record 0 of the file has this text, no record is too long, and the entries begin at the last checkpoint. Behind each trace that leads there,
-- this is found.
pub record IsReadAs (text : Bytes) (P : PlainPolicy) (point : Option Bytes) (before : ℕ) (finds : Trace → Finding) (file : Bytes) : Type 0 where
  pub payloads : List Bytes
  pub counts : counted file ≡ text ∷ payloads
  pub short : first_long 0 first_gate (text ∷ payloads) ≡ None
  pub begins : BeginsAt (parted_with (has_points file) payloads) point before
  pub says : (T : Trace) → IsStart P point before T → found_from P T text payloads (parted_with (has_points file) payloads) ≡ finds T

-- what is found is what is found behind these entries in the records from this number and this gate on
abbrev pub IsReadTo : Bytes → PlainPolicy → Option Bytes → ℕ → History → (number gate : ℕ) → Bytes → Type 0
IsReadTo text P point before H number gate file =
    IsReadAs text P point before (λ T. found_behind (steps_after T) text P H number gate (payloads_from file gate)) file

-- what is found is these entries
abbrev pub IsReadWhole : Bytes → PlainPolicy → Option Bytes → ℕ → History → Bytes → Type 0
IsReadWhole text P point before H file = (gate : ℕ) × IsReadAs text P point before (λ T. holds text P H gate) file

-- there is no record, and there are no entries; or what is found is these entries
abbrev pub IsRead : Bytes → PlainPolicy → Option Bytes → ℕ → History → Bytes → Type 0
IsRead text P point before H file = ((counted file ≡ []) × (found file ≡ fresh) × IsBeforeAll point before × (H ≡ [])) ⊎ IsReadWhole text P point before H file

-- If the disk tells, the file is read up to the next gate. So many records were taken in, record 0 and as many more as there are entries among
-- them, of five bytes at least each.
pub record IsLoading {E D : Type 0} (follows : E → PlainPolicy → Trace → Type 0) (seen : D → DiskSeen)
    (loaded : Loaded E) (journal : Journal D) : Type 0 where
  pub standing : IsStanding follows loaded
  pub entries : loaded.before + length loaded.entries < loaded.records
  pub few : 5 * loaded.records ≤ gate_of journal
  pub says : IfSome (seen (disk_of journal)).contents
      (IsReadTo loaded.policy.items standing.P (payload_in loaded.point) loaded.before loaded.entries loaded.records (gate_of journal))

-- if the disk tells, the file is read, and these are its entries
pub record HasLoaded {E D : Type 0} (follows : E → PlainPolicy → Trace → Type 0) (seen : D → DiskSeen)
    (loaded : Loaded E) (journal : Journal D) : Type 0 where
  pub standing : IsStanding follows loaded
  pub few : 5 * (loaded.before + length loaded.entries) ≤ gate_of journal
  pub says : IfSome (seen (disk_of journal)).contents
      (IsReadWhole loaded.policy.items standing.P (payload_in loaded.point) loaded.before loaded.entries)
