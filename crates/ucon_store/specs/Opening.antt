-- What opening tells: what a store has of its file, why none is opened, and what is left in the file.
use Rattle.std.specs.Prelude.{◌≡◌, ◌⊎◌, ⊤, ℕ, ◌+◌, ◌==◌, [], ◌∷◌, length, Option, Some, None, option_map, IfSome, if◌then◌else◌}
use Rattle.ucon_disk.specs.Causes.{raised}
use Rattle.ucon_model.specs.Action.{Trace}
use Rattle.ucon_model.specs.History.{History, trace_from}
use Rattle.ucon_model.specs.Plain.{Bytes, PlainPolicy}
use Rattle.ucon_state.specs.Held.{Held, held_after}
use Rattle.ucon_syntax.specs.Policies.{accepted}
use Rattle.ucon_store.specs.declared.fault.StoreFault.{StoreFault}
use Rattle.ucon_store.specs.declared.fault.StoreFault.TheVariants.{NotJournal, Damaged, OtherPolicy, DiskFault, NoMemory}
use Rattle.ucon_store.specs.Found.{Holds, IsFoundAs, IsFoundBy}
use Rattle.ucon_store.specs.Keeping.{HasSameRecords, IsSameKind}
use Rattle.ucon_store.specs.Opened.{Seen, Sees, SeesBy, fresh, not_journal, damaged, holds}
use Rattle.ucon_store.specs.Starts.{IsBeforeAll, IsStart}
use Rattle.ucon_store.specs.Points.{PolicyReading}

-- ---- a store that is opened

-- Opening sees in the file what a store has that begins here under the policy of this text, with these entries: no record, and no entries; or the
-- text, as many entries, and what is there after each trace that leads to where the store begins, with its entries behind.
abbrev pub IsSeenAs : PlainPolicy → Bytes → Option Bytes → ℕ → History → Bytes → Type 0
IsSeenAs P text point before H file =
    (Sees file fresh × IsBeforeAll point before × (H ≡ []))
    ⊎ ((gate : ℕ) × ((T : Trace) → IsStart P point before T → Sees file (holds text (before + length H) (held_after P (trace_from P T H)) gate)))

-- ---- why none is opened

-- the place of the first byte that differs, or the length of the shorter text if it begins the other; none if they are the same
abbrev pub first_difference : Bytes → Bytes → Option ℕ
first_difference [] [] = None
first_difference [] (b ∷ other) = Some 0
first_difference (a ∷ one) [] = Some 0
first_difference (a ∷ one) (b ∷ other) = if a == b then option_map (λ place. place + 1) (first_difference one other) else Some 0

-- the file's policy has another text, which differs first at this place
pub record HasOtherBy (reads : PolicyReading) (text : Bytes) (place : ℕ) (file : Bytes) : Type 0 where
  pub other : Bytes
  pub entries : ℕ
  pub there : Held
  pub gate : ℕ
  pub is : SeesBy reads file (holds other entries there gate)
  pub differs : first_difference other text ≡ Some place

-- Why a store isn't opened under the policy of this text. It is what opening sees in the bytes as read, if the disk tells. Or it is a disk fault,
-- at which the disk's count of faults is one more; otherwise the count is as it was. Out of memory may come at any moment.
abbrev pub HasReasonBy : PolicyReading → StoreFault → Bytes → Option Bytes → ℕ → ℕ → Type 0
HasReasonBy reads NotJournal text file before now = IfSome file (λ bytes. SeesBy reads bytes not_journal) × (now ≡ before)
HasReasonBy reads (Damaged number place) text file before now = IfSome file (λ bytes. SeesBy reads bytes (damaged number place)) × (now ≡ before)
HasReasonBy reads (OtherPolicy place) text file before now = IfSome file (HasOtherBy reads text place) × (now ≡ before)
HasReasonBy reads DiskFault text file before now = now ≡ raised before
HasReasonBy reads (NoMemory e) text file before now = now ≡ before

-- ---- what is left in the file

-- no journal, a damaged one, or one of another policy than that of this text
abbrev pub IsForeign : Seen → Bytes → Type 0
IsForeign fresh text = ⊥
IsForeign not_journal text = ⊤
IsForeign (damaged number place) text = ⊤
IsForeign (holds other entries there gate) text = ¬ (other ≡ text)

-- What opening under the policy of this text may make of a file. What was found is still found, and if opening sees a foreign file there, it is as
-- it was. Whatever is found, each record that counted counts still and none more, but that a file without a record may get the text; and the version
-- stays.
pub record OpensBy (reads : PolicyReading) (text file c : Bytes) : Type 0 where
  pub same : (H : History) → IsFoundBy reads text file H → IsFoundBy reads text c H
  pub untouched : (seen : Seen) → SeesBy reads file seen → IsForeign seen text → c ≡ file
  pub records : HasSameRecords text file c
  pub kind : IsSameKind file c

-- ---- by the program's own reading

abbrev pub HasOtherPolicy : Bytes → ℕ → Bytes → Type 0
HasOtherPolicy = HasOtherBy accepted

abbrev pub HasReason : StoreFault → Bytes → Option Bytes → ℕ → ℕ → Type 0
HasReason = HasReasonBy accepted

abbrev pub Opens : (text file c : Bytes) → Type 0
Opens = OpensBy accepted

-- what was found in the file is held in it after, if the disk tells before and after
abbrev pub KeepsFound : Bytes → Option Bytes → Option Bytes → Type 0
KeepsFound text None after = ⊤
KeepsFound text (Some before) None = ⊤
KeepsFound text (Some before) (Some after) = (P : PlainPolicy) (H : History) → accepted text ≡ Some P → IsFoundAs text before H → Holds text P H after
