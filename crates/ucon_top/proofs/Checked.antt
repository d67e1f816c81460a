-- What a full check leaves on the disk: what was found in the file is still found, and its checkpoints stand where they stood.
use Rattle.std.proofs.Common.{◌≡◌, ◌≢◌, ◌⊎◌, ⊎_elim, inl, inr, ℕ, ◌+◌, ◌≤◌, Bool, true, false, List, [], length, Option, Some, None, refl, sym, ap, ◌∙◌, subst, arith}
use Rattle.std.specs.Prelude.{nat_le, is_some, option_map, if◌then◌else◌, IfSome}
use Rattle.ucon_audit.specs.Audited.{IsPrinted}
use Rattle.ucon_audit.specs.Refusing.{IsRefused}
use Rattle.ucon_disk.specs.Disk.{Only}
use Rattle.ucon_disk.specs.Run.{LeavesFrom, then_from, weaker}
use Rattle.ucon_disk.specs.Seen.{DiskSeen}
use Rattle.ucon_journal.specs.Found as journal
use Rattle.ucon_journal.specs.JournalBytes.{journal_bytes, newest, records}
use Rattle.ucon_journal.specs.Opened.{Untouched, opened}
use Rattle.ucon_model.specs.Document.{policy_part}
use Rattle.ucon_model.specs.Found.{Finding, fresh}
use Rattle.ucon_model.specs.History.{History}
use Rattle.ucon_model.specs.Plain.{Bytes, PlainPolicy}
use Rattle.ucon_store.specs.declared.fault.StoreFault.{StoreFault}
use Rattle.ucon_store.specs.declared.fault.StoreFault.TheVariants as stores
use Rattle.ucon_store.specs.Found.{IsFoundAs, Tells, finding_of, found, found_by}
use Rattle.ucon_store.specs.Points.{has_points, places_in, point_places, takes_with}
use Rattle.ucon_top.specs.Accepted.{HasSomePolicy}
use Rattle.ucon_top.specs.OwnReading.{Checks, IsCheckedState, IsStillFound, IsUnchecked}
use Rattle.ucon_top.specs.Pointed.{HasItsPoints}

true_or_false : (b : Bool) → (b ≡ true) ⊎ (b ≡ false)
true_or_false true = inl refl
true_or_false false = inr refl

-- ---- a file of at most nine bytes

-- what is found by the length, and by the first bytes
abbrev found_if : Bytes → Bool → journal.Found
found_if file short =
    if short then journal.Fresh
    else if is_some (journal.version_told file) then journal.Holds (journal.payloads_from file 8) (8 + length (records (journal.payloads_from file 8)))
    else journal.NotJournal

short_fresh : (file : Bytes) → nat_le (length file) 9 ≡ true → found file ≡ fresh
unfolding found_by
short_fresh file short = ap (λ b. finding_of (takes_with (has_points file)) (found_if file b)) short

short_counted : (file : Bytes) → nat_le (length file) 9 ≡ true → journal.counted file ≡ []
short_counted file short = ap (λ b. journal.payloads_found (found_if file b)) short

no_places : (points : Bool) → (if points then places_in [] else []) ≡ []
no_places true = refl
no_places false = refl

short_places : (file : Bytes) → nat_le (length file) 9 ≡ true → point_places file ≡ []
short_places file short =
    ap (λ (payloads : List Bytes). if has_points file then places_in payloads else []) (short_counted file short) ∙ no_places (has_points file)

at_most : (n : ℕ) → n ≤ 9 → nat_le n 9 ≡ true
at_most n le = grind arith

-- ---- behind the opening

opened_short : (file : Bytes) → nat_le (length file) 9 ≡ true → opened file ≡ journal_bytes newest []
opened_short file short = ap (λ b. if b then journal_bytes newest [] else file) short

opened_long : (file : Bytes) → nat_le (length file) 9 ≡ false → opened file ≡ file
opened_long file long = ap (λ b. if b then journal_bytes newest [] else file) long

-- of a file something is the same as of the one that opening makes of it, where it is so of each file of at most nine bytes
same_opened : {A : Type 0} (of : Bytes → A) (short : A) → ((file : Bytes) → nat_le (length file) 9 ≡ true → of file ≡ short)
    → (file : Bytes) → of (opened file) ≡ of file
same_opened of short each file = ⊎_elim
    (λ (few : nat_le (length file) 9 ≡ true). ap of (opened_short file few) ∙ (each (journal_bytes newest []) refl ∙ sym (each file few)))
    (λ (many : nat_le (length file) 9 ≡ false). ap of (opened_long file many))
    (true_or_false (nat_le (length file) 9))

-- ---- what is still found

untouched_checks : (text file c : Bytes) → Untouched file c → Checks text file c
untouched_checks text file c untouched = ⊎_elim
    (λ (is : c ≡ file). record { same = λ H found. subst (λ (b : Bytes). IsFoundAs text b H) (sym is) found; untouched = λ nothing. is })
    (λ (short : (length file ≤ 9) × (length c ≤ 9)).
    let was = short_fresh file (at_most (length file) short.0) in
    let is = short_fresh c (at_most (length c) short.1) in
    record {
      same = λ H found. subst (λ (f : Finding). Tells f text H) (was ∙ sym is) found;
      untouched = λ nothing. absurd (nothing [] (subst (λ (f : Finding). Tells f text []) (sym was) refl));
    })
    untouched

untouched_places : (file c : Bytes) → Untouched file c → HasItsPoints file c
untouched_places file c untouched = ⊎_elim
    (λ (is : c ≡ file). ap point_places is)
    (λ (short : (length file ≤ 9) × (length c ≤ 9)).
    short_places c (at_most (length c) short.1) ∙ sym (short_places file (at_most (length file) short.0)))
    untouched

module _ (text : Bytes) (old new : DiskSeen) (kept : LeavesFrom old new Untouched) where
  still_unchecked : LeavesFrom old new (Checks text)
  still_unchecked = then_from old new Untouched (Checks text) (untouched_checks text) kept

  still_checked : (file : Bytes) (opening : History) → old.contents ≡ Some file → IsFoundAs text file opening
      → new.contents ≡ option_map opened old.contents → Only new.contents new.images → IsStillFound text file opening old new HasItsPoints HasItsPoints
  still_checked file opening told found_there as_it_was at_rest = record {
    since = weaker old new (λ c. old.images c ⊎ Untouched file c) (λ c. old.images c ⊎ (IsFoundAs text c opening × HasItsPoints file c))
        (λ c. ⊎_elim inl (λ u. inr ((untouched_checks text file c u).same opening found_there, untouched_places file c u))) (kept.each file told);
    now = λ c image.
        let there : new.contents ≡ Some (opened file) = as_it_was ∙ ap (option_map opened) told in
        let only : Only (Some (opened file)) new.images = subst (λ (o : Option Bytes). Only o new.images) there at_rest in
        let is : c ≡ opened file = only c image in
        let same : found c ≡ found file = ap found is ∙ same_opened found fresh short_fresh file in
        (subst (λ (f : Finding). Tells f text opening) (sym same) found_there, ap point_places is ∙ same_opened point_places [] short_places file);
  }

-- ---- by what was told

if_so : (o : Option Bytes) {so more : Bytes → Type 0} → ((file : Bytes) → so file → more file) → IfSome o so → IfSome o more
if_so None each h = tt
if_so (Some file) each h = each file h

-- a full check under the policy of a document's part told something, of which this is so
pub checked_state : (bytes part : Bytes) (some : HasSomePolicy bytes) → part ≡ policy_part bytes → (old new : DiskSeen)
    → (so more : PlainPolicy → History → Bytes → Type 0) → ((P : PlainPolicy) (H : History) (file : Bytes) → so P H file → more P H file)
    → IfSome old.contents (IsPrinted part so) → new.contents ≡ option_map opened old.contents → Only new.contents new.images
    → LeavesFrom old new Untouched → IsCheckedState bytes old new more
checked_state bytes part some is old new so more each printed as_it_was at_rest kept = record {
  policy = some.policy;
  has_policy = some.has_policy;
  found = if_so old.contents (λ file p. record { P = p.P; H = p.H; accepts = p.accepts; found = p.found; is = each p.P p.H file p.is })
      (subst (λ (t : Bytes). IfSome old.contents (IsPrinted t so)) is printed);
  as_it_was = as_it_was;
  at_rest = at_rest;
  images_kept = kept;
  still = λ file opening told found. still_checked (policy_part bytes) old new kept file opening told found as_it_was at_rest;
}

-- it refused the journal
pub unchecked_state : (text part : Bytes) → part ≡ text → (fault : StoreFault) (old new : DiskSeen)
    → IsRefused fault part old.contents old.faults new.faults
    → (fault ≢ stores.DiskFault → IfSome old.contents (λ file. new.contents ≡ Some (opened file)))
    → LeavesFrom old new Untouched → IsUnchecked fault text old new
unchecked_state text part is fault old new refused as_it_was kept = record {
  reason = subst (λ (t : Bytes). IsRefused fault t old.contents old.faults new.faults) is refused;
  as_it_was = as_it_was;
  images_kept = kept;
  still = still_unchecked text old new kept;
}
