-- From the bytes as they were found to those that opening the journal made.
use Rattle.std.proofs.Common.{◌≡◌, ◌≢◌, ⊎_elim, ℕ, ◌+◌, List, [], length, Option, Some, None, refl, sym, ap, ◌∙◌, subst, false, true}
use Rattle.std.specs.Prelude.{nat_le, is_some, if◌then◌else◌, IfSome}
use Rattle.std.specs.Option.{option_map}
use Rattle.ucon_model.specs.Plain.{Bytes}
use Rattle.ucon_model.specs.Found.{Finding, not_journal}
use Rattle.ucon_disk.specs.Causes.{raised}
use Rattle.ucon_journal.specs.declared.fault.OpenFault.{OpenFault}
use Rattle.ucon_journal.specs.declared.fault.OpenFault.TheVariants as opening
use Rattle.ucon_journal.specs.Found as journal
use Rattle.ucon_journal.specs.JournalBytes.{records}
use Rattle.ucon_journal.specs.Opened.{opened as opened_as}
use Rattle.ucon_store.specs.declared.fault.StoreFault.{StoreFault}
use Rattle.ucon_store.specs.declared.fault.StoreFault.TheVariants.{NotJournal, Damaged, OtherPolicy, DiskFault, NoMemory}
use Rattle.ucon_store.specs.Faults.{of_open}
use Rattle.ucon_store.specs.Found.{finding_of, found, found_by}
use Rattle.ucon_store.specs.Opened.{Seen, Sees, SeesIn, last_point, parted_behind, seen_after}
use Rattle.ucon_store.specs.Opened as opened
use Rattle.ucon_store.specs.Opening.{HasReason, HasOtherPolicy}
use Rattle.ucon_store.proofs.Finding.{takes_of}
use Rattle.ucon_store.specs.Points.{has_points}
use Rattle.ucon_store.proofs.Runs.{true_or_false, opened_short, opened_long, short_counted, found_opened}

pub found_none : (file : Bytes) → journal.found file ≡ journal.NotJournal → found file ≡ not_journal
unfolding found_by
found_none file is = ap (finding_of (takes_of file)) is

opened_is_journal : (file : Bytes) → journal.found file ≢ journal.NotJournal → journal.found (opened_as file) ≢ journal.NotJournal
opened_is_journal file is bad = ⊎_elim
    (λ (short : nat_le (length file) 9 ≡ true).
    let fresh : journal.Fresh ≡ journal.NotJournal = sym (ap journal.found (opened_short file short)) ∙ bad in absurd (cc (fresh)))
    (λ (long : nat_le (length file) 9 ≡ false). is (sym (ap journal.found (opened_long file long)) ∙ bad))
    (true_or_false (nat_le (length file) 9))

-- in a journal that was opened its payloads count
pub journal_opened : (o n : Option Bytes) → n ≡ option_map opened_as o → IfSome o (λ file. journal.found file ≢ journal.NotJournal)
    → IfSome n (λ file. journal.payloads_from file 8 ≡ journal.counted file)
    → IfSome n (λ file. (journal.payloads_from file 8 ≡ journal.counted file) × (journal.found file ≢ journal.NotJournal))
journal_opened o None is told all = tt
journal_opened None (Some c) is told all = absurd (cc is)
journal_opened (Some file) (Some c) is told all =
    let same : opened_as file ≡ c = cc (is) in
    (all, subst (λ (x : Bytes). journal.found x ≢ journal.NotJournal) same (opened_is_journal file told))

-- ---- what is seen in the bytes that opening made is seen in those before

pub seen_before : (file : Bytes) (seen : Seen) → Sees (opened_as file) seen → Sees file seen
seen_before file seen sees = ⊎_elim
    (λ (short : nat_le (length file) 9 ≡ true).
    let here : seen ≡ seen_after 0 [] (found (opened_as file)) =
    subst (λ (l : List Bytes). SeesIn (has_points (opened_as file)) l (found (opened_as file)) seen) (ap journal.counted (opened_short file short)) sees in
    subst (λ (l : List Bytes). SeesIn (has_points file) l (found file) seen) (sym (short_counted file short)) (here ∙ ap (seen_after 0 []) (found_opened file)))
    (λ (long : nat_le (length file) 9 ≡ false). subst (λ (f : Bytes). Sees f seen) (opened_long file long) sees)
    (true_or_false (nat_le (length file) 9))

pub last_before : (file : Bytes) → last_point (opened_as file) ≡ last_point file
last_before file = ⊎_elim
    (λ (short : nat_le (length file) 9 ≡ true). ap last_point (opened_short file short) ∙ sym (ap (parted_behind (has_points file)) (short_counted file short)))
    (λ (long : nat_le (length file) 9 ≡ false). ap last_point (opened_long file long))
    (true_or_false (nat_le (length file) 9))

-- what holds of the bytes that opening made where it holds of those before
module _ (A B : Bytes → Type 0) (back : (file : Bytes) → A (opened_as file) → B file) where
  pub told_before : (o n : Option Bytes) → n ≡ option_map opened_as o → IfSome n A → IfSome o B
  told_before None n is h = tt
  told_before (Some file) None is h = absurd (cc is)
  told_before (Some file) (Some c) is h =
      let same : c ≡ opened_as file = cc is in
      back file (subst A same h)

-- what is said of what is found passes back
module _ (Q : Finding → Type 0) where
  pub found_before : (o n : Option Bytes) → n ≡ option_map opened_as o → IfSome n (λ file. Q (found file)) → IfSome o (λ file. Q (found file))
  found_before o n is h = told_before (λ file. Q (found file)) (λ file. Q (found file)) (λ file. subst Q (found_opened file)) o n is h

other_before : (text : Bytes) (place : ℕ) (file : Bytes) → HasOtherPolicy text place (opened_as file) → HasOtherPolicy text place file
other_before text place file h = record {
  other = h.other;
  entries = h.entries;
  there = h.there;
  gate = h.gate;
  is = seen_before file (opened.holds h.other h.entries h.there h.gate) h.is;
  differs = h.differs;
}

pub reason_before : (fault : StoreFault) (text : Bytes) (o n : Option Bytes) (before mid now : ℕ) → n ≡ option_map opened_as o → mid ≡ before → HasReason fault text n mid now → HasReason fault text o before now
reason_before NotJournal text o n before mid now is same h =
    (told_before (λ file. Sees file opened.not_journal) (λ file. Sees file opened.not_journal) (λ file. seen_before file opened.not_journal) o n is h.0, h.1 ∙ same)
reason_before (Damaged number place) text o n before mid now is same h =
    (told_before (λ file. Sees file (opened.damaged number place)) (λ file. Sees file (opened.damaged number place)) (λ file. seen_before file (opened.damaged number place)) o n is h.0, h.1 ∙ same)
reason_before (OtherPolicy place) text o n before mid now is same h = (told_before (HasOtherPolicy text place) (HasOtherPolicy text place) (other_before text place) o n is h.0, h.1 ∙ same)
reason_before DiskFault text o n before mid now is same h = h ∙ ap raised same
reason_before (NoMemory e) text o n before mid now is same h = h ∙ same

-- ---- no journal

not_journal_counted : (f : journal.Found) → f ≡ journal.NotJournal → journal.payloads_found f ≡ []
not_journal_counted f is = ap journal.payloads_found is

no_journal_told : (A : Bytes → Type 0) (o : Option Bytes) → IfSome o (λ file. (journal.found file ≡ journal.NotJournal) × A file) → IfSome o (λ file. Sees file opened.not_journal)
no_journal_told A None h = tt
no_journal_told A (Some file) h =
    subst (λ (l : List Bytes). SeesIn (has_points file) l (found file) opened.not_journal) (sym (not_journal_counted (journal.found file) h.0)) (ap (seen_after 0 []) (sym (found_none file h.0)))

-- why a journal wasn't opened
pub opening_reason : (A : Bytes → Type 0) (fault : OpenFault) (text : Bytes) (o : Option Bytes) (before now : ℕ)
    → (fault ≡ opening.NotJournal → IfSome o (λ file. (journal.found file ≡ journal.NotJournal) × A file))
    → (fault ≡ opening.DiskFault → now ≡ raised before) → (fault ≢ opening.DiskFault → now ≡ before)
    → HasReason (of_open fault) text o before now
opening_reason A opening.NotJournal text o before now none failed unfailed = (no_journal_told A o (none refl), unfailed (λ e. absurd (cc e)))
opening_reason A opening.DiskFault text o before now none failed unfailed = failed refl

-- ---- the bytes, where none is opened

foreign_opened : (file : Bytes) → journal.found file ≡ journal.NotJournal → opened_as file ≡ file
foreign_opened file is = ⊎_elim
    (λ (short : nat_le (length file) 9 ≡ true).
    let fresh : journal.found file ≡ journal.Fresh =
    ap (λ b. if b then journal.Fresh else if is_some (journal.version_told file) then journal.Holds (journal.payloads_from file 8) (8 + length (records (journal.payloads_from file 8))) else journal.NotJournal) short in
    let no : journal.Fresh ≡ journal.NotJournal = sym fresh ∙ is in absurd (cc no))
    (λ (long : nat_le (length file) 9 ≡ false). opened_long file long)
    (true_or_false (nat_le (length file) 9))

pub opening_bytes : (fault : OpenFault) (o n : Option Bytes)
    → (fault ≡ opening.NotJournal → IfSome o (λ file. (journal.found file ≡ journal.NotJournal) × (n ≡ Some file)))
    → of_open fault ≢ DiskFault → IfSome o (λ file. n ≡ Some (opened_as file))
opening_bytes opening.NotJournal None n told not = tt
opening_bytes opening.NotJournal (Some file) n told not =
    let h = told refl in h.1 ∙ ap Some (sym (foreign_opened file h.0))
opening_bytes opening.DiskFault o n told not = absurd (not refl)

pub same_bytes : (o m n : Option Bytes) → m ≡ option_map opened_as o → n ≡ m → IfSome o (λ file. n ≡ Some (opened_as file))
same_bytes None m n is same = tt
same_bytes (Some file) m n is same = same ∙ is
