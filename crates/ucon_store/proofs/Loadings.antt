-- What loading leaves of a file.
use Rattle.std.proofs.Common.{◌≡◌, ◌≢◌, inl, inr, ℕ, ◌+◌, ◌<◌, ◌≤◌, ◌^◌, Bool, List, [], ◌∷◌, length, length-append, Option, Some, None, sym, ap, ◌∙◌, subst, arith}
use Rattle.std.specs.Prelude.{IfSome}
use Rattle.ucon_journal.specs.declared.journal.Journal.{Journal}
use Rattle.ucon_journal.specs.Found as journal
use Rattle.ucon_journal.specs.Found.{StandsAt, counted, payloads_from}
use Rattle.ucon_journal.specs.Journal.{disk_of, gate_of, version_of, told_payloads, HasEnded, IsClosed}
use Rattle.ucon_journal.specs.JournalBytes.{record_bytes, records}
use Rattle.ucon_model.specs.Found as model
use Rattle.ucon_model.specs.Found.{Finding, found_in}
use Rattle.ucon_model.specs.History.{History}
use Rattle.ucon_model.specs.Payload.{most_payload}
use Rattle.ucon_model.specs.Plain.{Bytes, PlainPolicy}
use Rattle.ucon_model.specs.Action.{Trace}
use Rattle.ucon_syntax.specs.Policies.{accepted}
use Rattle.ucon_store.specs.Found.{Holds, Tells, found}
use Rattle.ucon_store.specs.Loading.{IsRead, IsReadWhole}
use Rattle.ucon_store.specs.Opened as opened
use Rattle.ucon_store.specs.Opened.{Seen, Sees, first_long}
use Rattle.ucon_store.specs.Opening.{HasOtherPolicy, IsForeign, KeepsFound, first_difference}
use Rattle.ucon_store.specs.Points.{SameKind, SamePlaces, has_points, points_of, takes_with}
use Rattle.ucon_store.specs.Starts.{IsBeforeAll, IsStart}
use Rattle.ucon_store.specs.declared.walking.LastPoint.{LastPoint}
use Rattle.ucon_store.specs.Walking.{IsWalked}
use Rattle.ucon_store.proofs.Fronts.{held_as}
use Rattle.ucon_store.proofs.Openings.{found_counted, found_fresh}
use Rattle.ucon_store.proofs.Reading.{sees_read, some_counted}
use Rattle.ucon_store.proofs.Runs.{IsAtHome}
use Rattle.ucon_store.proofs.SamePlaces.{same_kind, same_told}
use Rattle.ucon_store.proofs.Stepping.{one_policy}
use Rattle.ucon_store.proofs.Taking.{long_here, long_seen}
use Rattle.ucon_store.proofs.Versions.{closed_kind, ended_kind}
use Rattle.ucon_disk.specs.Seen.{DiskSeen}

-- these payloads may stand in the file, where the disk tells
abbrev pub IsOfKind : Bool → Bytes → Type 0
IsOfKind points file = has_points file ≡ points

abbrev pub IsEmptyJournal : Bytes → Type 0
IsEmptyJournal file = (counted file ≡ []) × (journal.found file ≢ journal.NotJournal)

-- ---- a journal without a record

pub fresh_read : (text : Bytes) (P : PlainPolicy) (point : Option Bytes) (before : ℕ) (H : History) (o : Option Bytes) → IfSome o IsEmptyJournal → IsBeforeAll point before → H ≡ []
    → IfSome o (IsRead text P point before H)
fresh_read text P point before H None empty first none = tt
fresh_read text P point before H (Some file) empty first none = inl (empty.0, found_fresh file empty.1 empty.0, first, none)

pub fresh_kept : (text : Bytes) (P : PlainPolicy) (o n : Option Bytes) → IfSome o IsEmptyJournal → accepted text ≡ Some P → IfSome n (Holds text P []) → KeepsFound text o n
fresh_kept text P None n empty accepts holds = tt
fresh_kept text P (Some file) None empty accepts holds = tt
fresh_kept text P (Some file) (Some c) empty accepts holds = λ Q H other found_so.
    let none : Tells model.fresh text H = subst (λ (f : Finding). Tells f text H) (found_fresh file empty.1 empty.0) found_so in
    subst (λ (l : History). Holds text Q l c) (sym none) (subst (λ (R : PlainPolicy). Holds text R [] c) (one_policy text P Q accepts other) holds)

pub fresh_payloads : (o : Option Bytes) → IfSome o IsEmptyJournal → IfSome o (λ file. length (counted file) < 2 ^ 63)
fresh_payloads None empty = tt
fresh_payloads (Some file) empty = let none = ap (λ (l : List Bytes). length l) empty.0 in omega (arith, none)

-- ---- a journal that was read

-- it is a journal, and of no other policy
home_read : (text t : Bytes) (P : PlainPolicy) (point : Option Bytes) (before : ℕ) (H : History) (file : Bytes) → ((file : Bytes) (one other : Seen) → Sees file one → Sees file other → one ≡ other)
    → accepted text ≡ Some P → (T : Trace) → IsStart P point before T → text ≡ t → IsReadWhole text P point before H file → IsAtHome t file
home_read text t P point before H file one accepts T start same whole =
    let sees = sees_read text P point before (λ U. model.holds text P H whole.0) file accepts whole.1 T start in (
      some_counted (journal.found file) text whole.1.payloads whole.1.counts,
      λ seen other foreign.
          let here = one file seen (opened.seen_after before T (model.holds text P H whole.0)) other sees in
          let no : IsForeign (opened.seen_after before T (model.holds text P H whole.0)) t = subst (λ (s : Seen). IsForeign s t) here foreign in
          no same,
    )

pub home_told : (o : Option Bytes) (text t : Bytes) (P : PlainPolicy) (point : Option Bytes) (before : ℕ) (H : History) → ((file : Bytes) (one other : Seen) → Sees file one → Sees file other → one ≡ other)
    → accepted text ≡ Some P → (T : Trace) → IsStart P point before T → text ≡ t → IfSome o (IsReadWhole text P point before H) → IfSome o (IsAtHome t)
home_told None text t P point before H one accepts T start same whole = tt
home_told (Some file) text t P point before H one accepts T start same whole = home_read text t P point before H file one accepts T start same whole

-- or it is of another one
pub other_told : (o : Option Bytes) (text t : Bytes) (P : PlainPolicy) (point : Option Bytes) (before : ℕ) (H : History) (place : ℕ) → accepted text ≡ Some P → (T : Trace) → IsStart P point before T
    → first_difference text t ≡ Some place → IfSome o (IsReadWhole text P point before H) → IfSome o (HasOtherPolicy t place)
other_told None text t P point before H place accepts T start differs whole = tt
other_told (Some file) text t P point before H place accepts T start differs whole = record {
  other = text;
  entries = before + length H;
  there = _;
  gate = whole.0;
  is = sees_read text P point before (λ U. model.holds text P H whole.0) file accepts whole.1 T start;
  differs = differs;
}

-- what is read under the policy's text is read
pub read_told : (o : Option Bytes) (text t : Bytes) (P Q : PlainPolicy) (point : Option Bytes) (before : ℕ) (H : History) → text ≡ t → P ≡ Q → IfSome o (IsReadWhole text P point before H)
    → IfSome o (IsRead t Q point before H)
read_told None text t P Q point before H same one whole = tt
read_told (Some file) text t P Q point before H same one whole = inr (subst (λ (z : Bytes × PlainPolicy). IsReadWhole z.0 z.1 point before H file) (λ i. (same i, one i)) whole)

-- a journal that was mended holds the payloads that it held, in a file of the same kind
pub record IsMended (points : Bool) (o n : Option Bytes) : Type 0 where
  pub same : told_payloads n ≡ told_payloads o
  pub was : IfSome o (IsOfKind points)
  pub now : IfSome n (IsOfKind points)

pub mended_told : {D : Type 0} (seen : D → DiskSeen) (ended mended : Journal D) {o : Option Bytes} → (seen (disk_of ended)).contents ≡ o
    → HasEnded seen ended → IsClosed seen mended → version_of mended ≡ version_of ended
    → told_payloads (seen (disk_of mended)).contents ≡ told_payloads (seen (disk_of ended)).contents
    → IsMended (points_of (version_of ended)) o (seen (disk_of mended)).contents
mended_told seen ended mended told ends closed version same =
    subst (λ (x : Option Bytes). IsMended (points_of (version_of ended)) x (seen (disk_of mended)).contents) told (record {
      same = same;
      was = ended_kind seen ended ends;
      now = subst (λ (v : ℕ). IfSome (seen (disk_of mended)).contents (IsOfKind (points_of v))) version (closed_kind seen mended closed);
    })

-- mending leaves what was found
pub kept_mended : (o n : Option Bytes) (points : Bool) (text t : Bytes) (P : PlainPolicy) (point : Option Bytes) (before : ℕ) (H : History) → IfSome o (IsReadWhole text P point before H)
    → IsMended points o n → KeepsFound t o n
kept_mended None n points text t P point before H whole mended = tt
kept_mended (Some file) None points text t P point before H whole mended = tt
kept_mended (Some file) (Some c) points text t P point before H whole mended = λ Q G accepts found_so.
    let r = whole.1 in
    let counts : counted c ≡ text ∷ r.payloads = mended.same ∙ r.counts in
    let there = found_counted c (some_counted (journal.found c) text r.payloads counts) in
    let here = found_counted file (some_counted (journal.found file) text r.payloads r.counts) in
    let alike : found c ≡ found file =
    there ∙ ((λ i. found_in accepted (takes_with ((mended.now ∙ sym mended.was) i)) (mended.same i)) ∙ sym here) in
    let held = held_as file text r.payloads r.counts t G found_so in
    record { gate = held.gate; is = alike ∙ held.is ∙ ap (λ (R : PlainPolicy). model.holds t R G held.gate) (one_policy t held.Q Q held.accepts accepts) }

-- and the checkpoints where they stood
pub places_mended : {points : Bool} {o n : Option Bytes} → IsMended points o n → SamePlaces o n
places_mended {points} {o} {n} m = same_told o n points m.same m.was m.now

pub kind_mended : {points : Bool} {o n : Option Bytes} → IsMended points o n → SameKind o n
kind_mended {points} {o} {n} m = same_kind o n points m.was m.now

-- ---- how many payloads there are

few_records : (payloads : List Bytes) → length payloads ≤ length (records payloads)
few_records [] = omega arith
few_records (payload ∷ payloads) =
    let all = length-append (record_bytes payload) (records payloads) in
    let rest = few_records payloads in
    omega (arith, all, rest)

few_standing : (file : Bytes) (version gate : ℕ) → StandsAt file version gate (counted file) → gate < 2 ^ 63 → length (counted file) < 2 ^ 63
few_standing file version gate s below = let few = few_records (counted file) in omega (arith, s.place, s.size, below, few)

pub few_payloads : {D : Type 0} (seen : D → DiskSeen) (j : Journal D) (o : Option Bytes) → gate_of j < 2 ^ 63
    → IfSome o (λ file. StandsAt file (version_of j) (gate_of j) (counted file) × (payloads_from file (gate_of j) ≡ [])) → IfSome o (λ file. length (counted file) < 2 ^ 63)
few_payloads seen j None below told = tt
few_payloads seen j (Some file) below told = few_standing file (version_of j) (gate_of j) told.0 below

-- ---- record 0 is too long

pub long_first : (o : Option Bytes) → IfSome o (λ file. payloads_from file 8 ≡ counted file)
    → IfSome o (λ file. (p : Bytes) × (ps : List Bytes) × (payloads_from file 8 ≡ p ∷ ps) × (most_payload < length p)) → IfSome o (λ file. Sees file (opened.damaged 0 8))
long_first None all long = tt
long_first (Some file) all long = long_seen (has_points file) 0 8 (counted file) (found file) 0 8 (ap (first_long 0 8) (sym all) ∙ long_here 0 8 file long.0 long.1 long.2 long.3)

-- record 0 was taken, and a walk has passed all records
pub walked_told : (o : Option Bytes) (text : Bytes) (gate next : ℕ) (last : Option LastPoint) → IfSome o (λ file. (payloads_from file 8 ≡ counted file) × (journal.found file ≢ journal.NotJournal)) → gate ≡ 8
    → IfSome o (λ file. payloads_from file gate ≡ text ∷ payloads_from file next) → IfSome o (λ file. IsWalked (has_points file) (counted file) last)
    → IfSome o (λ file. (counted file ≡ text ∷ payloads_from file next) × IsWalked (has_points file) (counted file) last)
walked_told None text gate next last all is more walked = tt
walked_told (Some file) text gate next last all is more walked = (sym all.0 ∙ ap (payloads_from file) (sym is) ∙ more, walked)

-- all payloads count
pub all_told : (o : Option Bytes) → IfSome o (λ file. (payloads_from file 8 ≡ counted file) × (journal.found file ≢ journal.NotJournal)) → IfSome o (λ file. payloads_from file 8 ≡ counted file)
all_told None all = tt
all_told (Some file) all = all.0
