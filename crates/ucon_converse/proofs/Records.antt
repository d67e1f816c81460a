-- A journal whose first record is read, and nothing else.
use Rattle.std.proofs.Common.{◌≡◌, ◌⊎◌, inl, inr, ⊎_elim, ℕ, ◌<◌, length, refl, sym, ap, subst, ◌∙◌, arith}
use Rattle.std.proofs.lemmas.Bool.Decides.{leb_tells}
use Rattle.std.specs.Prelude.{List, Option, Some, None, IfSome, option_map, Result, Ok, Err, IfErr}
use Rattle.ucon_disk.specs.Disk.{Elapses, Only, SameImages}
use Rattle.ucon_disk.specs.Run.{LeavesFrom, LeavesOnly, goes_on, joined, started, weaker}
use Rattle.ucon_disk.specs.Seen.{DiskSeen}
use Rattle.ucon_journal.specs.Found.{NextIsLonger, counted, payloads_from}
use Rattle.ucon_journal.specs.Opened.{Untouched, opened}
use Rattle.ucon_model.specs.Plain.{Bytes}
use Rattle.ucon_outcome.specs.declared.outcome.Refused.{Refused}
use Rattle.ucon_outcome.specs.declared.outcome.Refused.TheVariants as refusals
use Rattle.ucon_converse.specs.Ended.{HasBadFirst, IsNoPolicy, IsOfRecord, LeavesSame, record_refused}
use Rattle.ucon_converse.specs.Holding.{HasFirst}
use Rattle.ucon_converse.specs.PolicyFaults.{IsRefusedText}

pub if_err : {T E : Type 0} (r : Result T E) (A B : E → Type 0) → ((e : E) → A e → B e) → IfErr r A → IfErr r B
if_err (Ok v) A B f a = tt
if_err (Err e) A B f a = f e a

abbrev pub IsLong : Bytes → Type 0
IsLong file = 9 < length file

-- opening leaves a file of more than nine bytes
opened_long : (file : Bytes) → IsLong file → opened file ≡ file
opened_long file long = elim (leb_tells (length file) 9) [ inl short ↦ absurd (omega (arith, short, long)) | inr more ↦ rw more.0 refl ]

pub opened_whole : (o : Option Bytes) → IfSome o IsLong → option_map opened o ≡ o
opened_whole None long = refl
opened_whole (Some file) long = ap Some (opened_long file long)

long_told : (o : Option Bytes) (file : Bytes) → o ≡ Some file → IfSome o IsLong → IsLong file
long_told o file is long = let there : IfSome (Some file) IsLong = subst (λ (x : Option Bytes). IfSome x IsLong) is long in there

-- where the first record is refused as a policy that reason is in the file
pub bad_first : (o : Option Bytes) (text : Bytes) → IfSome o (HasFirst text) → IsNoPolicy text → IfSome o HasBadFirst
bad_first None text first refused = tt
bad_first (Some file) text first refused = (text, first, refused)

pub refused_so : (r : Refused) (o : Option Bytes) (text : Bytes) (before now : ℕ) → IsRefusedText r text → IfSome o (HasFirst text) → now ≡ before
    → IsOfRecord (record_refused r) o before now
refused_so (refusals.Policy f) o text before now refused first same = (refl, refl, bad_first o text first (inr (f, refused)), same)
refused_so (refusals.Script f) o text before now refused first same = absurd refused
refused_so (refusals.NoMemory e) o text before now refused first same = same

pub too_long_first : (o : Option Bytes) (place : ℕ) → place ≡ 8 → IfSome o (λ file. payloads_from file 8 ≡ counted file) → IfSome o (λ file. NextIsLonger 16777215 file place)
    → IfSome o HasBadFirst
too_long_first None place is all longer = tt
too_long_first (Some file) place is all longer =
    (longer.0, (longer.1, sym all ∙ (ap (payloads_from file) (sym is) ∙ longer.2)), inl longer.3)

module _ {D : Type 0} (seen : D → DiskSeen) (only : (d : D) (c : List ℕ) → (seen d).images_since (seen d).moment c → (seen d).images c) where
  -- a call that looks
  looked : (old new : D) → SameImages (seen old).images (seen new).images
      → Elapses (seen old).moment (seen new).moment (seen old).images_since (seen new).images_since (seen new).images → LeavesSame (seen old) (seen new)
  looked old new same time = record {
    each = λ file told.
        let P : Bytes → Type 0 = λ c. (seen old).images c ⊎ (c ≡ file) in
        goes_on (seen old) (seen old) (seen new) P (seen new).images
        (started (seen old) P (λ c since. inl (only old c since))) time (λ c image. inl (same.no_more c image));
  }

  -- a look, and then what leaves the file as it was
  pub then_same : (old mid new : D) → (seen mid).contents ≡ (seen old).contents → SameImages (seen old).images (seen mid).images
      → Elapses (seen old).moment (seen mid).moment (seen old).images_since (seen mid).images_since (seen mid).images → LeavesSame (seen mid) (seen new)
      → LeavesSame (seen old) (seen new)
  then_same old mid new contents same time next = record {
    each = λ file told.
        let P : Bytes → Type 0 = λ c. (seen old).images c ⊎ (c ≡ file) in
        joined (seen old) (seen mid) (seen new) P ((looked old mid same time).each file told)
        (weaker (seen mid) (seen new) (λ c. (seen mid).images c ⊎ (c ≡ file)) P (λ c. ⊎_elim (λ image. inl (same.no_more c image)) inr)
        (next.each file (contents ∙ told)));
  }

  -- a journal was opened in a long file, and a record read
  pub opened_same : (old mid new : D) → IfSome (seen old).contents IsLong → (seen mid).contents ≡ option_map opened (seen old).contents
      → Only (seen mid).contents (seen mid).images → LeavesFrom (seen old) (seen mid) Untouched → LeavesOnly (seen mid) (seen new) (seen mid).images
      → LeavesSame (seen old) (seen new)
  opened_same old mid new long contents rests opens run = record {
    each = λ file told.
        let P : Bytes → Type 0 = λ c. (seen old).images c ⊎ (c ≡ file) in
        let big : IsLong file = long_told (seen old).contents file told long in
        let there : (seen mid).contents ≡ Some file = contents ∙ (opened_whole (seen old).contents long ∙ told) in
        let now : Only (Some file) (seen mid).images = subst (λ (o : Option Bytes). Only o (seen mid).images) there rests in
        let kept : (c : Bytes) → Untouched file c → c ≡ file = λ c. ⊎_elim (λ same. same) (λ short. absurd (omega (arith, short.0, big))) in
        joined (seen old) (seen mid) (seen new) P
        (weaker (seen old) (seen mid) (λ c. (seen old).images c ⊎ Untouched file c) P (λ c. ⊎_elim inl (λ u. inr (kept c u))) (opens.each file told))
        (weaker (seen mid) (seen new) (seen mid).images P (λ c image. inr (now c image)) run);
  }
