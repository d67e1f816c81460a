-- What leaves the checkpoints of a file where they stood.
use Rattle.std.proofs.Common.{◌≡◌, ◌≢◌, ◌⊎◌, ⊎_elim, inl, inr, subst, ℕ, ◌+◌, ◌<◌, Bool, true, false, List, [], ◌∷◌, ◌++◌, length, Option, Some, None, refl, sym, ap, ◌∙◌, arith}
use Rattle.std.specs.Prelude.{◌↔◌, is_some, nat_le, if◌then◌else◌, IfSome}
use Rattle.std.specs.Option.{option_map}
use Rattle.ucon_model.specs.Plain.{Bytes}
use Rattle.ucon_journal.specs.Found as journal
use Rattle.ucon_journal.specs.Journal.{told_payloads}
use Rattle.ucon_journal.specs.JournalBytes.{records}
use Rattle.ucon_journal.specs.Opened.{opened}
use Rattle.ucon_store.specs.Points.{IsOld, SameKind, SamePlaces, has_points, places_in, point_places}
use Rattle.ucon_store.specs.Keeping.{SameRecords}
use Rattle.ucon_store.proofs.Runs.{counted_opened, opened_long, opened_short, true_or_false}

no_places : (b : Bool) (l : List Bytes) → places_in l ≡ [] → (if b then places_in l else []) ≡ []
no_places true l none = none
no_places false l none = refl

pub places_same : (file c : Bytes) → has_points c ≡ has_points file → journal.counted c ≡ journal.counted file → point_places c ≡ point_places file
places_same file c kind same =
    ap (λ (b : Bool). if b then places_in (journal.counted c) else []) kind ∙ ap (λ (l : List Bytes). if has_points file then places_in l else []) same

-- the same payloads in a file of the same kind
pub same_told : (o n : Option Bytes) (points : Bool) → told_payloads n ≡ told_payloads o → IfSome o (λ file. has_points file ≡ points) → IfSome n (λ file. has_points file ≡ points) → SamePlaces o n
same_told None n points same was now = tt
same_told (Some file) None points same was now = tt
same_told (Some file) (Some c) points same was now = places_same file c (now ∙ sym was) same

-- a file of the same kind
pub same_kind : (o n : Option Bytes) (points : Bool) → IfSome o (λ file. has_points file ≡ points) → IfSome n (λ file. has_points file ≡ points) → SameKind o n
same_kind None n points was now = tt
same_kind (Some file) None points was now = tt
same_kind (Some file) (Some c) points was now = now ∙ sym was

-- record 0 alone
pub made_places : (o m n : Option Bytes) (text : Bytes) (shut : Bytes → Bytes) → IfSome o (λ file. (journal.counted file ≡ []) × (journal.found file ≢ journal.NotJournal))
    → m ≡ option_map shut o → told_payloads m ≡ told_payloads o → IfSome m (λ file. told_payloads n ≡ told_payloads m ++ text ∷ []) → SamePlaces o n
made_places None m n text shut empty is same added = tt
made_places (Some file) m None text shut empty is same added = tt
made_places (Some file) None (Some c) text shut empty is same added = absurd (cc is)
made_places (Some file) (Some mended) (Some c) text shut empty is same added =
    let all : journal.counted c ≡ text ∷ [] = added ∙ ap (λ (l : List Bytes). l ++ text ∷ []) (same ∙ empty.0) in
    no_places (has_points c) (journal.counted c) (ap places_in all) ∙ sym (no_places (has_points file) (journal.counted file) (ap places_in empty.0))

-- ---- the records of before

pub same_records : (text : Bytes) (o n : Option Bytes) → told_payloads n ≡ told_payloads o → SameRecords text o n
same_records text None n same = tt
same_records text (Some file) None same = tt
same_records text (Some file) (Some c) same = inl same

pub made_records : (o m n : Option Bytes) (text : Bytes) (shut : Bytes → Bytes) → IfSome o (λ file. (journal.counted file ≡ []) × (journal.found file ≢ journal.NotJournal))
    → m ≡ option_map shut o → told_payloads m ≡ told_payloads o → IfSome m (λ file. told_payloads n ≡ told_payloads m ++ text ∷ []) → SameRecords text o n
made_records None m n text shut empty is same added = tt
made_records (Some file) m None text shut empty is same added = tt
made_records (Some file) None (Some c) text shut empty is same added = absurd (cc is)
made_records (Some file) (Some mended) (Some c) text shut empty is same added =
    inr (empty.0, added ∙ ap (λ (l : List Bytes). l ++ text ∷ []) (same ∙ empty.0))

pub opened_records : (text : Bytes) (o m n : Option Bytes) → m ≡ option_map opened o → SameRecords text m n → SameRecords text o n
opened_records text None m n is h = tt
opened_records text (Some file) m None is h = tt
opened_records text (Some file) None (Some c) is h = absurd (cc is)
opened_records text (Some file) (Some begun) (Some c) is h =
    let same : begun ≡ opened file = cc is in
    subst (λ (l : List Bytes). (journal.counted c ≡ l) ⊎ ((l ≡ []) × (journal.counted c ≡ text ∷ []))) (ap journal.counted same ∙ counted_opened file) h

-- ---- where the checkpoints stand

-- what opening the journal makes of the bytes
short_places : (file : Bytes) → nat_le (length file) 9 ≡ true → point_places file ≡ []
short_places file short =
    no_places (has_points file) (journal.counted file)
    (ap (λ (b : Bool). places_in (journal.payloads_found (if b then journal.Fresh else if is_some (journal.version_told file) then journal.Holds (journal.payloads_from file 8) (8 + length (records (journal.payloads_from file 8))) else journal.NotJournal))) short)

places_opened : (file : Bytes) → point_places (opened file) ≡ point_places file
places_opened file = ⊎_elim
    (λ (short : nat_le (length file) 9 ≡ true). ap point_places (opened_short file short) ∙ sym (short_places file short))
    (λ (long : nat_le (length file) 9 ≡ false). ap point_places (opened_long file long))
    (true_or_false (nat_le (length file) 9))

pub opened_places : (o m n : Option Bytes) → m ≡ option_map opened o → SamePlaces m n → SamePlaces o n
opened_places None m n is h = tt
opened_places (Some file) m None is h = tt
opened_places (Some file) None (Some c) is h = absurd (cc is)
opened_places (Some file) (Some begun) (Some c) is h = let same : begun ≡ opened file = cc is in h ∙ (ap point_places same ∙ places_opened file)

-- a file without checkpoints was one before opening, and not a journal whose making was stopped, which is made of version 2
old_opened : (file : Bytes) → has_points (opened file) ≡ false → IsOld file
old_opened file none = ⊎_elim
    (λ (short : nat_le (length file) 9 ≡ true). let no : true ≡ false = sym (ap has_points (opened_short file short)) ∙ none in absurd (cc no))
    (λ (long : nat_le (length file) 9 ≡ false). (above_nine (length file) long, sym (ap has_points (opened_long file long)) ∙ none))
    (true_or_false (nat_le (length file) 9))
  where
    above_nine : (n : ℕ) → nat_le n 9 ≡ false → 9 < n
    above_nine n long = grind arith

-- and one of version 1 stays
old_stays : (file : Bytes) → IsOld file → has_points (opened file) ≡ false
old_stays file old = ⊎_elim
    (λ (short : nat_le (length file) 9 ≡ true). absurd (not_both (length file) old.0 short))
    (λ (long : nat_le (length file) 9 ≡ false). ap has_points (opened_long file long) ∙ old.1)
    (true_or_false (nat_le (length file) 9))
  where
    not_both : (n : ℕ) → 9 < n → nat_le n 9 ≡ true → ⊥
    not_both n above below = grind arith

pub opened_old : (o m n : Option Bytes) → m ≡ option_map opened o → SameKind m n → (before now : Bytes) → o ≡ Some before → n ≡ Some now → (has_points now ≡ false) ↔ IsOld before
opened_old o m n is h before now was told =
    let same = kept m n h (is ∙ ap (option_map opened) was) told in (
      λ none. old_opened before (sym same ∙ none),
      λ old. same ∙ old_stays before old,
    )
  where
    kept : (m n : Option Bytes) → SameKind m n → m ≡ Some (opened before) → n ≡ Some now → has_points now ≡ has_points (opened before)
    kept None n h begun told = absurd (cc begun)
    kept (Some b) None h begun told = absurd (cc told)
    kept (Some b) (Some c) h begun told =
        let same : b ≡ opened before = cc begun in
        let there : c ≡ now = cc told in sym (ap has_points there) ∙ (h ∙ ap has_points same)
