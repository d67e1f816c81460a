-- What opening a journal leaves, and what is found in it.
use Rattle.std.proofs.Common.{◌≡◌, ◌≢◌, ◌⊎◌, inl, inr, ⊎_elim, ℕ, ◌≤◌, ◌+◌, [], length, Bool, true, false, Option, Some, None, refl, sym, ap, ◌∙◌, subst, arith}
use Rattle.std.specs.Prelude.{nat_le, is_some, option_map, if◌then◌else◌, IfSome}
use Rattle.ucon_disk.specs.Causes.{raised}
use Rattle.ucon_disk.specs.Disk.{Only}
use Rattle.ucon_disk.specs.Run.{LeavesFrom, LeavesOnly, joined, weaker}
use Rattle.ucon_disk.specs.Seen.{DiskSeen}
use Rattle.ucon_journal.specs.declared.fault.OpenFault.{OpenFault}
use Rattle.ucon_journal.specs.declared.fault.OpenFault.TheVariants as opening
use Rattle.ucon_journal.specs.Found as journal
use Rattle.ucon_journal.specs.JournalBytes.{journal_bytes, newest, records}
use Rattle.ucon_journal.specs.Opened.{Untouched, opened}
use Rattle.ucon_model.specs.Found.{Finding, fresh, not_journal}
use Rattle.ucon_model.specs.Plain.{Bytes}
use Rattle.ucon_store.specs.declared.fault.StoreFault.{StoreFault}
use Rattle.ucon_store.specs.declared.fault.StoreFault.TheVariants as faults
use Rattle.ucon_store.specs.Faults.{of_open}
use Rattle.ucon_store.specs.Found.{finding_by, found, found_by}
use Rattle.ucon_store.specs.Points.{has_points, takes_with}
use Rattle.ucon_syntax.specs.Policies.{accepted}
use Rattle.ucon_audit.specs.Refusing.{HoldsOther, IsRefused}

true_or_false : (b : Bool) → (b ≡ true) ⊎ (b ≡ false)
true_or_false true = inl refl
true_or_false false = inr refl

-- what is found by the length, and by the first bytes
abbrev found_if : Bytes → Bool → journal.Found
found_if file short =
    if short then journal.Fresh
    else if is_some (journal.version_told file) then journal.Holds (journal.payloads_from file 8) (8 + length (records (journal.payloads_from file 8)))
    else journal.NotJournal

-- ---- a file of at most nine bytes

short_fresh : (file : Bytes) → nat_le (length file) 9 ≡ true → found file ≡ fresh
unfolding found_by
short_fresh file short = ap (λ b. finding_by accepted (takes_with (has_points file)) (found_if file b)) short

opened_short : (file : Bytes) → nat_le (length file) 9 ≡ true → opened file ≡ journal_bytes newest []
opened_short file short = ap (λ b. if b then journal_bytes newest [] else file) short

opened_long : (file : Bytes) → nat_le (length file) 9 ≡ false → opened file ≡ file
opened_long file long = ap (λ b. if b then journal_bytes newest [] else file) long

at_most : (n : ℕ) → nat_le n 9 ≡ true → n ≤ 9
at_most n is = grind arith

-- the same is found in it after opening
pub found_opened : (file : Bytes) → found (opened file) ≡ found file
found_opened file = ⊎_elim
    (λ (short : nat_le (length file) 9 ≡ true). ap found (opened_short file short) ∙ (short_fresh (journal_bytes newest []) refl ∙ sym (short_fresh file short)))
    (λ (long : nat_le (length file) 9 ≡ false). ap found (opened_long file long))
    (true_or_false (nat_le (length file) 9))

-- and it is untouched
untouched_opened : (file c : Bytes) → c ≡ opened file → Untouched file c
untouched_opened file c is = ⊎_elim
    (λ (short : nat_le (length file) 9 ≡ true).
    inr (at_most (length file) short, subst (λ (x : Bytes). length x ≤ 9) (sym (is ∙ opened_short file short)) (omega arith)))
    (λ (long : nat_le (length file) 9 ≡ false). inl (is ∙ opened_long file long))
    (true_or_false (nat_le (length file) 9))

-- where no journal is found, the file is left as it was
pub left_as_it_was : (file : Bytes) → journal.found file ≡ journal.NotJournal → opened file ≡ file
left_as_it_was file is = ⊎_elim
    (λ (short : nat_le (length file) 9 ≡ true). absurd (never (sym (ap (found_if file) short) ∙ is)))
    (λ (long : nat_le (length file) 9 ≡ false). opened_long file long)
    (true_or_false (nat_le (length file) 9))
  where
    never : journal.Fresh ≡ journal.NotJournal → ⊥
    never is = cc is

found_none : (takes : _) (f : journal.Found) → f ≡ journal.NotJournal → finding_by accepted takes f ≡ not_journal
found_none takes f is = ap (finding_by accepted takes) is

pub no_journal : (file : Bytes) → journal.found file ≡ journal.NotJournal → found file ≡ not_journal
unfolding found_by
no_journal file is = found_none (takes_with (has_points file)) (journal.found file) is

-- ---- why a journal is refused

by_opening : (fault : OpenFault) (text : Bytes) (o now_told : Option Bytes) (before now : ℕ)
    → (fault ≡ opening.NotJournal → IfSome o (λ file. (journal.found file ≡ journal.NotJournal) × (now_told ≡ Some file)))
    → (fault ≡ opening.DiskFault → now ≡ raised before) → (fault ≢ opening.DiskFault → now ≡ before) → IsRefused (of_open fault) text o before now
by_opening opening.NotJournal text o now_told before now none failed unfailed = (told o (none refl), unfailed (λ e. absurd (cc e)))
  where
    told : (o : Option Bytes) → IfSome o (λ file. (journal.found file ≡ journal.NotJournal) × (now_told ≡ Some file)) → IfSome o (λ file. found file ≡ not_journal)
    told None h = tt
    told (Some file) h = no_journal file h.0
by_opening opening.DiskFault text o now_told before now none failed unfailed = failed refl

-- as the journal isn't opened
pub opening_refused : (stored : StoreFault) (fault : OpenFault) (text : Bytes) (o now_told : Option Bytes) (before now : ℕ) → stored ≡ of_open fault
    → (fault ≡ opening.NotJournal → IfSome o (λ file. (journal.found file ≡ journal.NotJournal) × (now_told ≡ Some file)))
    → (fault ≡ opening.DiskFault → now ≡ raised before) → (fault ≢ opening.DiskFault → now ≡ before) → IsRefused stored text o before now
opening_refused stored fault text o now_told before now is none failed unfailed =
    subst (λ (f : StoreFault). IsRefused f text o before now) (sym is) (by_opening fault text o now_told before now none failed unfailed)

-- and what bytes it leaves then
pub opening_leaves : (stored : StoreFault) (fault : OpenFault) (o now_told : Option Bytes) → stored ≡ of_open fault → stored ≢ faults.DiskFault
    → (fault ≡ opening.NotJournal → IfSome o (λ file. (journal.found file ≡ journal.NotJournal) × (now_told ≡ Some file)))
    → IfSome o (λ file. now_told ≡ Some (opened file))
opening_leaves stored opening.NotJournal o now_told is other none = told o (none refl)
  where
    told : (o : Option Bytes) → IfSome o (λ file. (journal.found file ≡ journal.NotJournal) × (now_told ≡ Some file)) → IfSome o (λ file. now_told ≡ Some (opened file))
    told None h = tt
    told (Some file) h = h.1 ∙ ap Some (sym (left_as_it_was file h.0))
opening_leaves stored opening.DiskFault o now_told is other none = absurd (other is)

found_before : (f : Finding) (o : Option Bytes) → IfSome (option_map opened o) (λ bytes. found bytes ≡ f) → IfSome o (λ bytes. found bytes ≡ f)
found_before f None h = tt
found_before f (Some file) h = sym (found_opened file) ∙ h

other_before : (text : Bytes) (place : ℕ) (o : Option Bytes) → IfSome (option_map opened o) (HoldsOther text place) → IfSome o (HoldsOther text place)
other_before text place None h = tt
other_before text place (Some file) h =
    record { other = h.other; P = h.P; H = h.H; gate = h.gate; is = sym (found_opened file) ∙ h.is; differs = h.differs }

-- what is refused of the opened file is of the file
pub refused_before : (fault : StoreFault) (text : Bytes) (o : Option Bytes) (before now : ℕ) → IsRefused fault text (option_map opened o) before now
    → IsRefused fault text o before now
refused_before faults.NotJournal text o before now h = (found_before not_journal o h.0, h.1)
refused_before (faults.Damaged number place) text o before now h = (found_before (Rattle.ucon_model.specs.Found.damaged number place) o h.0, h.1)
refused_before (faults.OtherPolicy place) text o before now h = (other_before text place o h.0, h.1)
refused_before faults.DiskFault text o before now h = h
refused_before (faults.NoMemory e) text o before now h = h

-- ---- what a crash may leave

module _ {D : Type 0} (seen : D → DiskSeen) (disk mid end : D) where
  -- opened, and then only read
  pub only_read : (seen mid).contents ≡ option_map opened (seen disk).contents → Only (seen mid).contents (seen mid).images
      → LeavesFrom (seen disk) (seen mid) Untouched → LeavesOnly (seen mid) (seen end) (seen mid).images → LeavesFrom (seen disk) (seen end) Untouched
  only_read bytes only first reading = record {
    each = λ file told.
        let is : (seen mid).contents ≡ Some (opened file) = bytes ∙ ap (option_map opened) told in
        let Old : Bytes → Type 0 = λ c. (seen disk).images c ⊎ Untouched file c in
        joined (seen disk) (seen mid) (seen end) Old (first.each file told)
        (weaker (seen mid) (seen end) (seen mid).images Old
        (λ c image. inr (untouched_opened file c (subst (λ (o : Option Bytes). Only o (seen mid).images) is only c image))) reading);
  }
