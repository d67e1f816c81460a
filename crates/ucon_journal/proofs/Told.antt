-- What holds of the bytes as read, where the disk tells.
use Rattle.std.proofs.Common.{◌≡◌, ◌≢◌, ℕ, ◌+◌, ◌≤◌, List, [], ◌∷◌, ◌++◌, length, take, drop, Option, None, Some, IfSome, refl, sym, ◌∙◌, ap, subst}
use Rattle.std.specs.Option.{option_map}
use Rattle.ucon_disk.specs.Disk.{overwritten, Only}
use Rattle.ucon_disk.specs.Run.{IsAtRest}
use Rattle.ucon_disk.specs.Seen.{DiskSeen}
use Rattle.ucon_journal.specs.JournalBytes.{newest, records, batch_bytes, journal_bytes, AreShort}
use Rattle.ucon_journal.specs.Found.{Fresh, NotJournal, found, version_told, counted, payloads_from, StandsAt}
use Rattle.ucon_journal.specs.Opened.{opened, shut_at, with_payloads}
use Rattle.ucon_journal.specs.Journal.{told_payloads}
use Rattle.ucon_journal.proofs.Openings.{opened_stands, stands_first, counted-opened, opened-short, found-short}
use Rattle.ucon_journal.proofs.Files.{counted-stands, shut_file, stands_closed, counted-closed, drop-front}
use Rattle.ucon_journal.proofs.Added.{staged_file, opened_file, added_stands, added_shut, counted-added}

pub told_at : {A : Type 0} {o : Option A} (P : A → Type 0) (x : A) → o ≡ Some x → IfSome o P → P x
told_at P x is told = subst (λ o. IfSome o P) is told

pub if_told : {A : Type 0} (o : Option A) (P : A → Type 0) → ((x : A) → o ≡ Some x → P x) → IfSome o P
if_told None P each = tt
if_told (Some x) P each = each x refl

-- what a call made of the bytes is on the disk
pub rests_after : (old : Option (List ℕ)) (new : DiskSeen) (f : List ℕ → List ℕ) (file : List ℕ) → new.contents ≡ option_map f old → Only new.contents new.images → old ≡ Some file → IsAtRest new (f file)
rests_after old new f file made only is =
    let told : new.contents ≡ Some (f file) = made ∙ ap (option_map f) is in
    record { told = told; only = subst (λ o. Only o new.images) told only }

-- read to the end; its last byte is a closed gate
abbrev pub EndsAt : ℕ → ℕ → List ℕ → Type 0
EndsAt version gate file = StandsAt file version gate (counted file) × (payloads_from file gate ≡ [])

abbrev pub ClosesAt : ℕ → ℕ → List ℕ → Type 0
ClosesAt version gate file = StandsAt file version gate (counted file) × (drop gate file ≡ 0 ∷ [])

pub record Mended (version gate : ℕ) (old new : Option (List ℕ)) : Type 0 where
  pub closed : IfSome new (ClosesAt version gate)
  pub same : told_payloads new ≡ told_payloads old
  pub bytes : new ≡ option_map (shut_at gate) old

mended_file : (file : List ℕ) (version gate : ℕ) → EndsAt version gate file → Mended version gate (Some file) (Some (overwritten gate (0 ∷ []) (take (gate + 1) file)))
mended_file file version gate ends =
    let shut = take gate file ++ 0 ∷ [] in
    let same : counted shut ≡ counted file = counted-closed file version gate (counted file) ends.0 in
    let closed : Mended version gate (Some file) (Some shut) =
    record {
      closed = (subst (λ (ps : List (List ℕ)). StandsAt shut version gate ps) (sym same) (stands_closed file version gate (counted file) ends.0), drop-front file version gate (counted file) ends.0 (0 ∷ []));
      same = same;
      bytes = refl;
    } in
    subst (λ (l : List ℕ). Mended version gate (Some file) (Some l)) (sym (shut_file file version gate (counted file) ends.0 ends.1)) closed

pub mended : (version gate : ℕ) (o cut shut : Option (List ℕ)) → IfSome o (EndsAt version gate) → cut ≡ option_map (take (gate + 1)) o → shut ≡ option_map (overwritten gate (0 ∷ [])) cut → Mended version gate o shut
mended version gate None cut shut ends is_cut is_shut = subst (Mended version gate None) (sym (is_shut ∙ ap (option_map (overwritten gate (0 ∷ []))) is_cut)) (record { closed = tt; same = refl; bytes = refl })
mended version gate (Some file) cut shut ends is_cut is_shut = subst (Mended version gate (Some file)) (sym (is_shut ∙ ap (option_map (overwritten gate (0 ∷ []))) is_cut)) (mended_file file version gate ends)

pub record Appended (version gate : ℕ) (qs : List (List ℕ)) (old new : Option (List ℕ)) : Type 0 where
  pub closed : IfSome new (ClosesAt version (gate + length (records qs)))
  pub bytes : new ≡ option_map (with_payloads gate qs) old
  pub added : IfSome old (λ file. told_payloads new ≡ told_payloads old ++ qs)

appended_file : (file : List ℕ) (version gate : ℕ) (qs : List (List ℕ)) → AreShort qs → qs ≢ [] → ClosesAt version gate file → Appended version gate qs (Some file) (Some (with_payloads gate qs file))
appended_file file version gate qs short some closes =
    let same : counted (with_payloads gate qs file) ≡ counted file ++ qs = counted-added file version gate (counted file) closes.0 closes.1 qs short some in
    record {
      closed = (
        subst (λ (ps : List (List ℕ)). StandsAt (with_payloads gate qs file) version (gate + length (records qs)) ps) (sym same) (added_stands file version gate (counted file) closes.0 closes.1 qs short some),
        added_shut file version gate (counted file) closes.0 closes.1 qs short some,
      );
      bytes = refl;
      added = same;
    }

pub appended : (version gate : ℕ) (qs : List (List ℕ)) (o one two : Option (List ℕ)) → AreShort qs → qs ≢ [] → IfSome o (ClosesAt version gate) → one ≡ option_map (overwritten (gate + 1) (batch_bytes qs)) o → two ≡ option_map (overwritten gate (1 ∷ [])) one → Appended version gate qs o two
appended version gate qs None one two short some closes is_one is_two = subst (Appended version gate qs None) (sym (is_two ∙ ap (option_map (overwritten gate (1 ∷ []))) is_one)) (record { closed = tt; bytes = refl; added = tt })
appended version gate qs (Some file) one two short some closes is_one is_two =
    let written : overwritten gate (1 ∷ []) (overwritten (gate + 1) (batch_bytes qs) file) ≡ with_payloads gate qs file =
    ap (λ (l : List ℕ). overwritten gate (1 ∷ []) l) (staged_file file version gate (counted file) closes.0 closes.1 qs short some) ∙ opened_file file version gate (counted file) closes.0 closes.1 qs short some in
    subst (Appended version gate qs (Some file)) (sym (is_two ∙ ap (option_map (overwritten gate (1 ∷ []))) is_one ∙ ap Some written)) (appended_file file version gate qs short some closes)

-- what is opened can be read from the first gate on
pub opened_told : (version : ℕ) (old new : Option (List ℕ)) → new ≡ option_map opened old → IfSome new (λ file. version_told file ≡ Some version) → IfSome new (λ file. (ps : List (List ℕ)) × StandsAt file version 8 ps)
opened_told version None new is told = subst (λ o. IfSome o (λ file. (ps : List (List ℕ)) × StandsAt file version 8 ps)) (sym is) tt
opened_told version (Some file) new is told = subst (λ o. IfSome o (λ file. (ps : List (List ℕ)) × StandsAt file version 8 ps)) (sym is) ([], opened_stands file version (subst (λ o. IfSome o (λ file. version_told file ≡ Some version)) is told))

-- and all that counts in it is read from there
pub all_read : (version : ℕ) (o : Option (List ℕ)) → IfSome o (λ file. (ps : List (List ℕ)) × StandsAt file version 8 ps) → IfSome o (λ file. payloads_from file 8 ≡ counted file)
all_read version None stands = tt
all_read version (Some file) stands = sym (counted-stands file version 8 [] (stands_first file version 8 stands.0 stands.1))

-- the same payloads are found in it
pub opened_same : (old new : Option (List ℕ)) → new ≡ option_map opened old → told_payloads new ≡ told_payloads old
opened_same None new is = ap told_payloads is
opened_same (Some file) new is = ap told_payloads is ∙ counted-opened file

-- a journal that is being read can be read from the first gate on
pub rewound : (version gate : ℕ) (o : Option (List ℕ)) → IfSome o (λ file. (ps : List (List ℕ)) × StandsAt file version gate ps) → IfSome o (λ file. (ps : List (List ℕ)) × StandsAt file version 8 ps)
rewound version gate None stands = tt
rewound version gate (Some file) stands = ([], stands_first file version gate stands.0 stands.1)

-- a new journal that was written over at most 9 bytes
pub record Begun (old new : Option (List ℕ)) : Type 0 where
  pub bytes : new ≡ option_map opened old
  pub version : IfSome new (λ file. version_told file ≡ Some newest)
  pub journal : IfSome old (λ file. found file ≢ NotJournal)

pub begun : (old new : Option (List ℕ)) → IfSome old (λ file. length file ≤ 9) → new ≡ option_map (overwritten 0 (journal_bytes newest [])) old → Begun old new
begun None new short is = subst (Begun None) (sym is) (record { bytes = refl; version = tt; journal = tt })
begun (Some file) new short is =
    let made : Begun (Some file) (Some (opened file)) =
    record {
      bytes = refl;
      version = subst (λ (l : List ℕ). version_told l ≡ Some newest) (opened-short file short) refl;
      journal = λ e. let none : Fresh ≡ NotJournal = sym (found-short file short) ∙ e in cc none;
    } in
    subst (Begun (Some file)) (sym (is ∙ ap Some (opened-short file short))) made
