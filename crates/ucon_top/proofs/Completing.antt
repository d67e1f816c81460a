-- A run that nothing hinders is complete: the causes of all other ends are excluded.
use Rattle.std.proofs.Common.{◌≡◌, false, true, ℕ, ◌+◌, ◌<◌, ◌≤◌, [], ◌∷◌, refl, sym, ap, subst, ◌∙◌, arith}
use Rattle.std.specs.Prelude.{Option, Some, None, IfSome, length, option_map, if◌then◌else◌, ⊤}
use Rattle.std.proofs.lemmas.Bool.{eq-eqb}
use Rattle.ucon_flow.specs.Causes.{Rose}
use Rattle.ucon_disk.specs.Causes.{raised}
use Rattle.ucon_audit.specs.Refusing.{HoldsOther, IsRefused}
use Rattle.ucon_model.specs.Document.{policy_part}
use Rattle.ucon_model.specs.Found as findings
use Rattle.ucon_model.specs.Found.{Finding}
use Rattle.ucon_model.specs.History.{History}
use Rattle.ucon_store.specs.Found.{IsFoundAs, Tells, found}
use Rattle.ucon_model.specs.Plain.{Bytes}
use Rattle.ucon_store.specs.declared.fault.StoreFault.{StoreFault}
use Rattle.ucon_store.specs.declared.fault.StoreFault.TheVariants as stores
use Rattle.ucon_store.specs.Opened.{Seen, not_journal, damaged, holds, Sees}
use Rattle.ucon_store.specs.Opening.{HasOtherPolicy, HasReason, first_difference}
use Rattle.ucon_top.specs.declared.form.Form.{Form}
use Rattle.ucon_top.specs.declared.form.Form.TheVariants as forms
use Rattle.ucon_outcome.specs.declared.outcome.Outcome.{Outcome}
use Rattle.ucon_outcome.specs.declared.outcome.Outcome.TheVariants as outcomes
use Rattle.ucon_top.specs.Complete.{IsComplete}
use Rattle.ucon_top.specs.Ending.{IsCounted, IsOfDocument, IsOfPrinting, IsUnrefused, MayEnd}
use Rattle.ucon_top.specs.Own.{HasEntries}
use Rattle.ucon_top.specs.Printed.{document_of}
use Rattle.ucon_top.specs.Unread.{IsUnread}
use Rattle.ucon_top.specs.Seen.{Seen as AllSeen}
use Rattle.ucon_top.specs.OwnReading.{HasPlayed, HasPointed, HasTold, IsAccepted, IsFoundJournal, IsOwnJournal, IsRefusedBy, IsUnhindered, TellsNothing}

-- ---- no reason not to open holds of one's own journal

no_difference : (one : Bytes) → first_difference one one ≡ None
no_difference [] = refl
no_difference (b ∷ one) =
    ap (λ t. if t then option_map (λ place. place + 1) (first_difference one one) else Some 0) (eq-eqb b b refl)
    ∙ ap (option_map (λ place. place + 1)) (no_difference one)

-- opening sees one thing in a file
abbrev pub SeesOneThing : Type 0
SeesOneThing = (file : Bytes) (one other : Seen) → Sees file one → Sees file other → one ≡ other

module _ (sees_one : SeesOneThing) (text : Bytes) (contents : Option Bytes) (own : IsOwnJournal text contents) where
  told_of : (so : Bytes → Type 0) → IfSome contents so → so own.file
  told_of so h = subst (λ (o : Option Bytes). IfSome o so) own.told h

  has_entries : (seen : Seen) → Sees own.file seen → HasEntries seen text own.entries
  has_entries seen sees = subst (λ (s : Seen). HasEntries s text own.entries) (sees_one own.file own.own.seen seen own.own.sees sees) own.own.has

  pub not_foreign : IfSome contents (λ file. Sees file not_journal) → ⊥
  not_foreign h = has_entries not_journal (told_of (λ file. Sees file not_journal) h)

  pub not_damaged : (number place : ℕ) → IfSome contents (λ file. Sees file (damaged number place)) → ⊥
  not_damaged number place h = has_entries (damaged number place) (told_of (λ file. Sees file (damaged number place)) h)

  pub not_others : (place : ℕ) → IfSome contents (HasOtherPolicy text place) → ⊥
  not_others place h =
      let other = told_of (HasOtherPolicy text place) h in
      let same = has_entries (holds other.other other.entries other.there other.gate) other.is in
      let none : first_difference other.other text ≡ None = subst (λ (t : Bytes). first_difference other.other t ≡ None) same.0 (no_difference other.other) in
      let bad : None ≡ Some place = sym none ∙ other.differs in absurd (cc bad)

-- ---- the input is not too long

pub too_much : (n : ℕ) → n ≤ 4194304 → 4194304 < n → ⊥
too_much n le less = omega (arith, le, less)

not_long : (form : Form) (input : Option Bytes) (bytes : Bytes) → MayEnd form outcomes.TooLong → document_of form input ≡ Some bytes → IsAccepted bytes
    → IfSome input (λ b. 4194304 < length b) → ⊥
not_long (forms.Gen seed size) input bytes may is accepted long = (let bad : false ≡ true = may.0 in cc bad)
not_long form input bytes may is accepted long = too_much (length bytes) accepted.short (subst (λ (o : Option Bytes). IfSome o (λ b. 4194304 < length b)) is long)

-- ---- by how the run ended

pub rose : (before now : ℕ) → now ≡ raised before → Rose before now
rose before now is = subst (λ (n : ℕ). raised before ≤ n) (sym is) (omega arith)

module _ (before after : AllSeen) where
  abbrev Completes : Form → Outcome → Bytes → Type 0
  Completes form outcome bytes = IsUnhindered form bytes before after → IsComplete outcome

  -- the document wasn't read
  pub unread_complete : (form : Form) (outcome : Outcome) (input : Option Bytes) → IsUnread input before.source.faults after.source.faults outcome → MayEnd form outcome
      → IfSome (document_of form input) (Completes form outcome)
  unread_complete form outcome input unread may = over (document_of form input) refl
    where
      by_outcome : (o : Outcome) (bytes : Bytes) → IsUnread input before.source.faults after.source.faults o → MayEnd form o → document_of form input ≡ Some bytes → Completes form o bytes
      by_outcome outcomes.SourceFault bytes h m is u = absurd (u.source_works (rose _ _ h))
      by_outcome outcomes.TooLong bytes h m is u = absurd (not_long form input bytes m is u.accepted h.0)
      by_outcome (outcomes.NoMemory e) bytes h m is u = refl
      by_outcome o bytes h m is u = absurd h

      over : (o : Option Bytes) → document_of form input ≡ o → IfSome o (Completes form outcome)
      over None is = tt
      over (Some bytes) is = by_outcome outcome bytes unread may is

  -- the document was these bytes, where it is told
  pub over_document : (form : Form) (outcome : Outcome) (document : Option Bytes) (bytes : Bytes) → IfSome document (λ d. d ≡ bytes) → Completes form outcome bytes
      → IfSome document (Completes form outcome)
  over_document form outcome None bytes is complete = tt
  over_document form outcome (Some d) bytes is complete = subst (λ (b : Bytes). Completes form outcome b) (sym is) complete

  -- nothing but its document and the sink can end a run without a journal
  pub printed_complete : (form : Form) (outcome : Outcome) (bytes : Bytes) → (IsAccepted bytes → IsRefusedBy outcome bytes → IsUnrefused outcome)
      → IsRefusedBy outcome bytes → IsOfPrinting outcome → IsCounted outcome outcomes.SinkFault before.sink.faults after.sink.faults → Completes form outcome bytes
  printed_complete form outcomes.Done bytes unrefused refused ends sink u = refl
  printed_complete form (outcomes.NoMemory e) bytes unrefused refused ends sink u = refl
  printed_complete form (outcomes.Policy f) bytes unrefused refused ends sink u = absurd (cc (unrefused u.accepted refused))
  printed_complete form (outcomes.Script f) bytes unrefused refused ends sink u = absurd (cc (unrefused u.accepted refused))
  printed_complete form outcomes.SinkFault bytes unrefused refused ends sink u = absurd (u.sink_works (rose _ _ (sink.0 refl)))
  printed_complete form outcome bytes unrefused refused ends sink u = absurd (cc (ends.0, ends.1))

-- nor anything but these and its journal one over a journal
module _ (form : Form) (before after : AllSeen) (bytes : Bytes) (sees_one : SeesOneThing) where
  pub played_complete : (outcome : Outcome) → (IsAccepted bytes → IsRefusedBy outcome bytes → IsUnrefused outcome) → IsRefusedBy outcome bytes → IsOfDocument outcome
      → IsCounted outcome outcomes.SinkFault before.sink.faults after.sink.faults → (outcome ≡ outcomes.DiskFault → after.disk.faults ≡ raised before.disk.faults)
      → HasPlayed form outcome bytes before.disk after.disk before.sink after.sink
      → (IsUnhindered form bytes before after → IsOwnJournal (policy_part bytes) before.disk.contents)
      → Completes before after form outcome bytes
  played_complete outcomes.Done unrefused refused ends sink disk played own u = refl
  played_complete (outcomes.NoMemory e) unrefused refused ends sink disk played own u = refl
  played_complete (outcomes.Policy f) unrefused refused ends sink disk played own u = absurd (cc (unrefused u.accepted refused))
  played_complete (outcomes.Script f) unrefused refused ends sink disk played own u = absurd (cc (unrefused u.accepted refused))
  played_complete outcomes.SinkFault unrefused refused ends sink disk played own u = absurd (u.sink_works (rose _ _ (sink.0 refl)))
  played_complete outcomes.DiskFault unrefused refused ends sink disk played own u = absurd (u.disk_works (rose _ _ (disk refl)))
  played_complete (outcomes.Damaged number place) unrefused refused ends sink disk played own u =
      absurd (not_damaged sees_one (policy_part bytes) before.disk.contents (own u) number place played.reason.0)
  played_complete outcomes.NotJournal unrefused refused ends sink disk played own u = absurd (not_foreign sees_one (policy_part bytes) before.disk.contents (own u) played.reason.0)
  played_complete (outcomes.OtherPolicy place) unrefused refused ends sink disk played own u =
      absurd (not_others sees_one (policy_part bytes) before.disk.contents (own u) place played.reason.0)
  played_complete (outcomes.FullPoint size) unrefused refused ends sink disk played own u = refl
  played_complete outcomes.OldJournal unrefused refused ends sink disk played own u = refl
  played_complete outcome unrefused refused ends sink disk played own u = absurd (cc ends)

  -- the same of a checkpoint
  pub pointed_complete : (outcome : Outcome) → (IsAccepted bytes → IsRefusedBy outcome bytes → IsUnrefused outcome) → IsRefusedBy outcome bytes → IsOfDocument outcome
      → IsCounted outcome outcomes.SinkFault before.sink.faults after.sink.faults → (outcome ≡ outcomes.DiskFault → after.disk.faults ≡ raised before.disk.faults)
      → HasPointed outcome bytes before.disk after.disk before.sink after.sink
      → (IsUnhindered form bytes before after → IsOwnJournal (policy_part bytes) before.disk.contents)
      → Completes before after form outcome bytes
  pointed_complete outcomes.Done unrefused refused ends sink disk pointed own u = refl
  pointed_complete (outcomes.NoMemory e) unrefused refused ends sink disk pointed own u = refl
  pointed_complete (outcomes.FullPoint size) unrefused refused ends sink disk pointed own u = refl
  pointed_complete outcomes.OldJournal unrefused refused ends sink disk pointed own u = refl
  pointed_complete (outcomes.Policy f) unrefused refused ends sink disk pointed own u = absurd (cc (unrefused u.accepted refused))
  pointed_complete (outcomes.Script f) unrefused refused ends sink disk pointed own u = absurd (cc (unrefused u.accepted refused))
  pointed_complete outcomes.SinkFault unrefused refused ends sink disk pointed own u = absurd (u.sink_works (rose _ _ (sink.0 refl)))
  pointed_complete outcomes.DiskFault unrefused refused ends sink disk pointed own u = absurd (u.disk_works (rose _ _ (disk refl)))
  pointed_complete (outcomes.Damaged number place) unrefused refused ends sink disk pointed own u =
      absurd (not_damaged sees_one (policy_part bytes) before.disk.contents (own u) number place pointed.reason.0)
  pointed_complete outcomes.NotJournal unrefused refused ends sink disk pointed own u = absurd (not_foreign sees_one (policy_part bytes) before.disk.contents (own u) pointed.reason.0)
  pointed_complete (outcomes.OtherPolicy place) unrefused refused ends sink disk pointed own u =
      absurd (not_others sees_one (policy_part bytes) before.disk.contents (own u) place pointed.reason.0)
  pointed_complete outcome unrefused refused ends sink disk pointed own u = absurd (cc ends)

-- ---- nor one that tells of a journal

-- opening doesn't meet this where its journal is one's own
abbrev IsOffJournal : StoreFault → Type 0
IsOffJournal stores.NotJournal = ⊥
IsOffJournal (stores.Damaged number place) = ⊥
IsOffJournal (stores.OtherPolicy place) = ⊥
IsOffJournal fault = ⊤

module _ (before after : AllSeen) (bytes : Bytes) (sees_one : SeesOneThing) where
  reason_off : (fault : StoreFault) → HasReason fault (policy_part bytes) before.disk.contents before.disk.faults after.disk.faults
      → IsOwnJournal (policy_part bytes) before.disk.contents → IsOffJournal fault
  reason_off stores.NotJournal reason own = not_foreign sees_one (policy_part bytes) before.disk.contents own reason.0
  reason_off (stores.Damaged number place) reason own = not_damaged sees_one (policy_part bytes) before.disk.contents own number place reason.0
  reason_off (stores.OtherPolicy place) reason own = not_others sees_one (policy_part bytes) before.disk.contents own place reason.0
  reason_off stores.DiskFault reason own = tt
  reason_off (stores.NoMemory e) reason own = tt

  -- nor a full check where the file is found so
  found_told : IsFoundJournal (policy_part bytes) before.disk.contents → (so : Bytes → Type 0) → IfSome before.disk.contents so
      → (file : Bytes) × (H : History) × IsFoundAs (policy_part bytes) file H × so file
  found_told own so h = (own.file, own.history, own.found, subst (λ (o : Option Bytes). IfSome o so) own.told h)

  found_off : (fault : StoreFault) → IsRefused fault (policy_part bytes) before.disk.contents before.disk.faults after.disk.faults
      → IsFoundJournal (policy_part bytes) before.disk.contents → IsOffJournal fault
  found_off stores.NotJournal reason own =
      let f = found_told own (λ file. found file ≡ findings.not_journal) reason.0 in
      subst (λ (x : Finding). Tells x (policy_part bytes) f.1) f.3 f.2
  found_off (stores.Damaged number place) reason own =
      let f = found_told own (λ file. found file ≡ findings.damaged number place) reason.0 in
      subst (λ (x : Finding). Tells x (policy_part bytes) f.1) f.3 f.2
  found_off (stores.OtherPolicy place) reason own =
      let f = found_told own (HoldsOther (policy_part bytes) place) reason.0 in
      let other = f.3 in
      let same = subst (λ (x : Finding). Tells x (policy_part bytes) f.1) other.is f.2 in
      let none : first_difference other.other (policy_part bytes) ≡ None =
      subst (λ (t : Bytes). first_difference other.other t ≡ None) same.0 (no_difference other.other) in
      let bad : None ≡ Some place = sym none ∙ other.differs in absurd (cc bad)
  found_off stores.DiskFault reason own = tt
  found_off (stores.NoMemory e) reason own = tt

  tells_own : (form : Form) (fault : StoreFault) → TellsNothing form fault bytes before.disk after.disk → IsUnhindered form bytes before after → IsOffJournal fault
  tells_own (forms.Explain s r o) fault nothing u = reason_off fault nothing.reason u.journal
  tells_own (forms.Audit kept) fault nothing u = found_off fault nothing.reason u.checked
  tells_own forms.Report fault nothing u = found_off fault nothing.reason u.checked
  tells_own form fault nothing u = absurd nothing

  pub told_complete : (form : Form) (outcome : Outcome) → (IsAccepted bytes → IsRefusedBy outcome bytes → IsUnrefused outcome) → IsRefusedBy outcome bytes
      → IsOfDocument outcome → IsCounted outcome outcomes.SinkFault before.sink.faults after.sink.faults
      → (outcome ≡ outcomes.DiskFault → after.disk.faults ≡ raised before.disk.faults)
      → HasTold form outcome bytes before.disk after.disk before.sink after.sink → Completes before after form outcome bytes
  told_complete form outcomes.Done unrefused refused ends sink disk told u = refl
  told_complete form (outcomes.NoMemory e) unrefused refused ends sink disk told u = refl
  told_complete form (outcomes.FullPoint size) unrefused refused ends sink disk told u = refl
  told_complete form outcomes.OldJournal unrefused refused ends sink disk told u = refl
  told_complete form (outcomes.Policy f) unrefused refused ends sink disk told u = absurd (cc (unrefused u.accepted refused))
  told_complete form (outcomes.Script f) unrefused refused ends sink disk told u = absurd (cc (unrefused u.accepted refused))
  told_complete form outcomes.SinkFault unrefused refused ends sink disk told u = absurd (u.sink_works (rose _ _ (sink.0 refl)))
  told_complete form outcomes.DiskFault unrefused refused ends sink disk told u = absurd (u.disk_works (rose _ _ (disk refl)))
  told_complete form (outcomes.Damaged number place) unrefused refused ends sink disk told u = absurd (tells_own form (stores.Damaged number place) told u)
  told_complete form outcomes.NotJournal unrefused refused ends sink disk told u = absurd (tells_own form stores.NotJournal told u)
  told_complete form (outcomes.OtherPolicy place) unrefused refused ends sink disk told u = absurd (tells_own form (stores.OtherPolicy place) told u)
  told_complete form outcome unrefused refused ends sink disk told u = absurd (cc ends)
