-- What a crash may leave while a store is opened.
use Rattle.std.proofs.Common.{◌≡◌, ◌≢◌, ◌⊎◌, inl, inr, ⊎_elim, ℕ, ◌+◌, ◌<◌, ◌≤◌, List, [], ◌∷◌, ◌++◌, length, Bool, Option, Some, refl, sym, ap, ◌∙◌, subst, false, true, arith}
use Rattle.std.specs.Prelude.{nat_le, is_some, if◌then◌else◌, IfSome}
use Rattle.std.specs.Option.{option_map}
use Rattle.ucon_model.specs.Plain.{Bytes, PlainPolicy}
use Rattle.ucon_model.specs.Payload.{most_payload}
use Rattle.ucon_model.specs.Found.{Finding, fresh}
use Rattle.ucon_disk.specs.Disk.{Only, SameImages}
use Rattle.ucon_disk.specs.Run.{IsAtRest, LeavesOnly, LeavesAfter, LeavesFrom, from_rest, then_from, weaker, joined}
use Rattle.ucon_journal.specs.Found as journal
use Rattle.ucon_journal.specs.JournalBytes.{journal_bytes, newest, records}
use Rattle.ucon_journal.specs.Journal.{told_payloads}
use Rattle.ucon_journal.specs.Opened.{opened, StillHolds, SamePayloads, PerhapsAdded, Untouched}
use Rattle.ucon_syntax.specs.Policies.{accepted}
use Rattle.ucon_store.specs.Found.{finding_of, found, IsFoundAs, Tells, found_as, found_by}
use Rattle.ucon_store.specs.Opened.{Seen, Sees}
use Rattle.ucon_store.specs.Opening.{IsForeign, Opens}
use Rattle.ucon_store.proofs.Finding.{takes_of}
use Rattle.ucon_store.specs.PointRecords.{has_points}
use Rattle.ucon_store.proofs.Openings.{found_fresh, fresh_found, itself_opens, kind_held, same_opens, mended_opens, made_opens, not_foreign, policy_holds}
use Rattle.ucon_store.proofs.Recorded.{some_told}
use Rattle.ucon_disk.specs.Seen.{DiskSeen}

-- ---- a file of at most nine bytes

pub true_or_false : (b : Bool) → (b ≡ true) ⊎ (b ≡ false)
true_or_false true = inl refl
true_or_false false = inr refl

at_most : (n : ℕ) → n ≤ 9 → nat_le n 9 ≡ true
at_most n le = grind arith

short_fresh : (file : Bytes) → nat_le (length file) 9 ≡ true → found file ≡ fresh
unfolding found_by
short_fresh file short = ap (λ b. finding_of (takes_of file) (if b then journal.Fresh else if is_some (journal.version_told file) then journal.Holds (journal.payloads_from file 8) (8 + length (records (journal.payloads_from file 8))) else journal.NotJournal)) short

pub short_counted : (file : Bytes) → nat_le (length file) 9 ≡ true → journal.counted file ≡ []
short_counted file short =
    ap (λ b. journal.payloads_found (if b then journal.Fresh else if is_some (journal.version_told file) then journal.Holds (journal.payloads_from file 8) (8 + length (records (journal.payloads_from file 8))) else journal.NotJournal)) short

untouched_opens : (text file c : Bytes) → Untouched file c → Opens text file c
untouched_opens text file c h = ⊎_elim
    (itself_opens text file c)
    (λ (short : (length file ≤ 9) × (length c ≤ 9)).
    let few = at_most (length file) short.0 in
    let is = short_fresh file few in
    same_opens text file c (short_fresh c (at_most (length c) short.1) ∙ sym is) (λ seen sees foreign. absurd (not_foreign text file (short_counted file few) is seen sees foreign))
    (short_counted c (at_most (length c) short.1) ∙ sym (short_counted file few)) (λ long. absurd (let less = short.0 in omega (arith, less, long))))
    h

-- what opening the journal makes of the bytes
pub opened_short : (file : Bytes) → nat_le (length file) 9 ≡ true → opened file ≡ journal_bytes newest []
opened_short file short = ap (λ b. if b then journal_bytes newest [] else file) short

pub opened_long : (file : Bytes) → nat_le (length file) 9 ≡ false → opened file ≡ file
opened_long file long = ap (λ b. if b then journal_bytes newest [] else file) long

pub found_opened : (file : Bytes) → found (opened file) ≡ found file
found_opened file = ⊎_elim
    (λ (short : nat_le (length file) 9 ≡ true). ap found (opened_short file short) ∙ (short_fresh (journal_bytes newest []) refl ∙ sym (short_fresh file short)))
    (λ (long : nat_le (length file) 9 ≡ false). ap found (opened_long file long))
    (true_or_false (nat_le (length file) 9))

pub counted_opened : (file : Bytes) → journal.counted (opened file) ≡ journal.counted file
counted_opened file = ⊎_elim
    (λ (short : nat_le (length file) 9 ≡ true).
    ap journal.counted (opened_short file short) ∙ (short_counted (journal_bytes newest []) refl ∙ sym (short_counted file short)))
    (λ (long : nat_le (length file) 9 ≡ false). ap journal.counted (opened_long file long))
    (true_or_false (nat_le (length file) 9))

is_long : (n : ℕ) → 9 < n → nat_le n 9 ≡ false
is_long n long = grind arith

opened_opens : (text file c : Bytes) → Opens text (opened file) c → Opens text file c
opened_opens text file c h = record {
  same = λ H is. h.same H (subst (λ (f : Finding). Tells f text H) (sym (found_opened file)) is);
  untouched = λ seen sees foreign. ⊎_elim
      (λ (short : nat_le (length file) 9 ≡ true). absurd (not_foreign text file (short_counted file short) (short_fresh file short) seen sees foreign))
      (λ (long : nat_le (length file) 9 ≡ false).
      h.untouched seen (subst (λ (f : Bytes). Sees f seen) (sym (opened_long file long)) sees) foreign ∙ opened_long file long)
      (true_or_false (nat_le (length file) 9));
  records = subst (λ (l : List Bytes). (journal.counted c ≡ l) ⊎ ((l ≡ []) × (journal.counted c ≡ text ∷ []))) (counted_opened file) h.records;
  kind = λ long.
      let is : opened file ≡ file = opened_long file (is_long (length file) long) in
      h.kind (subst (λ (f : Bytes). 9 < length f) (sym is) long) ∙ ap has_points is;
}

-- a journal in which nothing foreign is seen
abbrev pub IsAtHome : Bytes → Bytes → Type 0
IsAtHome text file = (journal.found file ≢ journal.NotJournal) × ((seen : Seen) → Sees file seen → IsForeign seen text → ⊥)

module _ {D : Type 0} (seen : D → DiskSeen) (text : Bytes) where
  rest_only : (d : D) (file : Bytes) → (seen d).contents ≡ Some file → Only (seen d).contents (seen d).images → IsAtRest (seen d) file
  rest_only d file told only = record { told = told; only = subst (λ (o : Option Bytes). Only o (seen d).images) told only }

  -- ---- reading

  rest_same : (old new : D) (file : Bytes) → (seen new).contents ≡ (seen old).contents → SameImages (seen old).images (seen new).images → IsAtRest (seen old) file → IsAtRest (seen new) file
  rest_same old new file same images_same rest = record { told = same ∙ rest.told; only = λ c image. rest.only c (images_same.no_more c image) }

  pub read_opens : (old new : D) → LeavesOnly (seen old) (seen new) (seen old).images → LeavesAfter (seen old) (seen new) (Opens text)
  read_opens old new run = record { each = λ file rest. weaker (seen old) (seen new) (seen old).images (Opens text file) (λ c image. itself_opens text file c (rest.only c image)) run }

  pub then_opens : (old mid new : D) → (seen mid).contents ≡ (seen old).contents → SameImages (seen old).images (seen mid).images → LeavesOnly (seen old) (seen mid) (seen old).images
      → LeavesAfter (seen mid) (seen new) (Opens text) → LeavesAfter (seen old) (seen new) (Opens text)
  then_opens old mid new same images_same run next = record {
    each = λ file rest. joined (seen old) (seen mid) (seen new) (Opens text file) ((read_opens old mid run).each file rest) (next.each file (rest_same old mid file same images_same rest));
  }

  -- ---- mending a journal of this policy

  pub mend_opens : (old new : D) → IfSome (seen old).contents (IsAtHome text) → LeavesAfter (seen old) (seen new) SamePayloads → LeavesAfter (seen old) (seen new) (Opens text)
  mend_opens old new home run = record {
    each = λ file rest.
        let h = some_told (IsAtHome text) (seen old).contents file rest.told home in
        weaker (seen old) (seen new) (SamePayloads file) (Opens text file) (λ c. mended_opens text file c h.0 h.1) (run.each file rest);
  }

  -- ---- making a journal of this policy

  IsEmpty : Bytes → Type 0
  IsEmpty file = (journal.counted file ≡ []) × (journal.found file ≢ journal.NotJournal)

  empty_found : (c : Bytes) → journal.counted c ≡ [] → journal.found c ≢ journal.NotJournal → IsFoundAs text c []
  empty_found c none is = fresh_found text c (found_fresh c is none)

  pub mend_fresh_opens : (old new : D) → IfSome (seen old).contents (λ file. (journal.counted file ≡ []) × (journal.found file ≢ journal.NotJournal)) → LeavesAfter (seen old) (seen new) SamePayloads
      → LeavesAfter (seen old) (seen new) (Opens text)
  mend_fresh_opens old new empty run = record {
    each = λ file rest.
        let none = some_told (λ file. (journal.counted file ≡ []) × (journal.found file ≢ journal.NotJournal)) (seen old).contents file rest.told empty in
        weaker (seen old) (seen new) (SamePayloads file) (Opens text file)
        (λ c (still : StillHolds file (journal.counted file) c). made_opens text file c none.0 (found_fresh file none.1 none.0) (empty_found c (still.payloads ∙ none.0) still.journal)
        (inl (still.payloads ∙ none.0)) (kind_held file (journal.counted file) c still)) (run.each file rest);
  }

  pub make_opens : (P : PlainPolicy) (old mid new : D) → length text ≤ most_payload → accepted text ≡ Some P
      → IfSome (seen old).contents (λ file. (journal.counted file ≡ []) × (journal.found file ≢ journal.NotJournal))
      → (shut : List ℕ → List ℕ) → (seen mid).contents ≡ option_map shut (seen old).contents → told_payloads (seen mid).contents ≡ told_payloads (seen old).contents → Only (seen mid).contents (seen mid).images
      → LeavesAfter (seen old) (seen mid) SamePayloads → LeavesAfter (seen mid) (seen new) (PerhapsAdded text)
      → (points : Bool) → IfSome (seen old).contents (λ file. has_points file ≡ points) → IfSome (seen mid).contents (λ file. has_points file ≡ points)
      → LeavesAfter (seen old) (seen new) (Opens text)
  make_opens P old mid new short accepts empty shut bytes same only mended appended points was now = record {
    each = λ file rest.
        let none = some_told (λ file. (journal.counted file ≡ []) × (journal.found file ≢ journal.NotJournal)) (seen old).contents file rest.told empty in
        let is = found_fresh file none.1 none.0 in
        let told : (seen mid).contents ≡ Some (shut file) = bytes ∙ ap (option_map shut) rest.told in
        let nothing : journal.counted (shut file) ≡ [] = sym (ap told_payloads told) ∙ (same ∙ (ap told_payloads rest.told ∙ none.0)) in
        let kind : has_points (shut file) ≡ has_points file =
        some_told (λ f. has_points f ≡ points) (seen mid).contents (shut file) told now
        ∙ sym (some_told (λ f. has_points f ≡ points) (seen old).contents file rest.told was) in
        let opens : (c : Bytes) → PerhapsAdded text (shut file) c → Opens text file c = λ c h. ⊎_elim
        (λ (still : StillHolds (shut file) (journal.counted (shut file)) c). made_opens text file c none.0 is (empty_found c (still.payloads ∙ nothing) still.journal)
        (inl (still.payloads ∙ nothing)) (kind_held (shut file) (journal.counted (shut file)) c still ∙ kind))
        (λ (more : StillHolds (shut file) (journal.counted (shut file) ++ text ∷ []) c).
        let made : journal.counted c ≡ text ∷ [] = more.payloads ∙ ap (λ l. l ++ text ∷ []) nothing in
        made_opens text file c none.0 is (found_as text P [] c (policy_holds text P c short accepts made))
        (inr made) (kind_held (shut file) (journal.counted (shut file) ++ text ∷ []) c more ∙ kind))
        h in
        joined (seen old) (seen mid) (seen new) (Opens text file) ((mend_fresh_opens old mid empty mended).each file rest)
        (weaker (seen mid) (seen new) (PerhapsAdded text (shut file)) (Opens text file) opens (appended.each (shut file) (rest_only mid (shut file) told only)));
  }

  -- ---- from the bytes as they were found

  pub begin_opens : (old mid : D) → LeavesFrom (seen old) (seen mid) Untouched → LeavesFrom (seen old) (seen mid) (Opens text)
  begin_opens old mid run = then_from (seen old) (seen mid) Untouched (Opens text) (untouched_opens text) run

  pub whole_opens : (old mid new : D) → LeavesFrom (seen old) (seen mid) Untouched → (seen mid).contents ≡ option_map opened (seen old).contents → Only (seen mid).contents (seen mid).images
      → LeavesAfter (seen mid) (seen new) (Opens text) → LeavesFrom (seen old) (seen new) (Opens text)
  whole_opens old mid new begun bytes only loaded = record {
    each = λ file was.
        let told : (seen mid).contents ≡ Some (opened file) = bytes ∙ ap (option_map opened) was in
        let Old : Bytes → Type 0 = λ c. (seen old).images c ⊎ Opens text file c in
        joined (seen old) (seen mid) (seen new) Old ((begin_opens old mid begun).each file was)
        (weaker (seen mid) (seen new) (Opens text (opened file)) Old (λ c o. inr (opened_opens text file c o)) (loaded.each (opened file) (rest_only mid (opened file) told only)));
  }

  -- of a disk at rest
  pub rest_opens : (old new : D) → LeavesFrom (seen old) (seen new) (Opens text) → LeavesAfter (seen old) (seen new) (Opens text)
  rest_opens old new = from_rest (seen old) (seen new) (Opens text) (λ file. itself_opens text file file refl)
