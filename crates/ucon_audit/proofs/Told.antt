-- What is found in a file, where the disk tells it.
use Rattle.std.proofs.Common.{◌≡◌, ◌≢◌, ℕ, ◌+◌, ◌≤◌, ◌<◌, Bool, true, false, List, [], ◌∷◌, ◌++◌, length, take, Option, Some, None, refl, sym, ap, ◌∙◌, subst, arith}
use Rattle.std.specs.Prelude.{IfSome, IfOk, MatchBool, MatchOption, Result, Ok, Err}
use Rattle.ucon_disk.specs.Seen.{DiskSeen}
use Rattle.ucon_engine.specs.Engine.{IsIdle}
use Rattle.ucon_journal.specs.declared.journal.Journal.{Journal}
use Rattle.ucon_journal.specs.Found.{NotJournal, StandsAt, counted, payloads_from}
use Rattle.ucon_journal.specs.Found as journal
use Rattle.ucon_journal.specs.Journal.{disk_of, gate_of, version_of, IsReading}
use Rattle.ucon_journal.specs.JournalBytes.{magic}
use Rattle.ucon_model.specs.Action.{Trace}
use Rattle.ucon_model.specs.Found.{damaged, next_gate}
use Rattle.ucon_model.specs.History.{History, trace}
use Rattle.ucon_model.specs.Plain.{Bytes, PlainPolicy}
use Rattle.ucon_store.specs.Found.{found}
use Rattle.ucon_store.specs.Opening.{first_difference}
use Rattle.ucon_store.specs.Points.{has_points, points_of, takes_with}
use Rattle.ucon_syntax.specs.Policies.{accepted}
use Rattle.ucon_audit.specs.declared.chain.Chain.{Chain}
use Rattle.ucon_audit.specs.declared.check.Check.{Check}
use Rattle.ucon_audit.specs.declared.head.Kept.{Kept}
use Rattle.ucon_audit.specs.Checking.{IsChecking, IsUpTo, IsWhole}
use Rattle.ucon_audit.specs.Head.{IsChain}
use Rattle.ucon_audit.specs.Keeping.{Keeps}
use Rattle.ucon_audit.specs.Refusing.{HoldsOther}
use Rattle.ucon_audit.proofs.Differences.{no_difference}
use Rattle.ucon_audit.proofs.Finding.{OneByOne, all_found, first_long, first_refused, first_up_to, found_fresh, fresh_found, holds_found, long_wrong, one_more, one_wrong}

-- ---- answers of calls

pub if_true : (A B : Type 0) (b : Bool) → b ≡ true → MatchBool b A B → A
if_true A B true is h = h
if_true A B false is h = absurd (cc is)

pub if_false : (A B : Type 0) (b : Bool) → b ≡ false → MatchBool b A B → B
if_false A B true is h = absurd (cc is)
if_false A B false is h = h

pub if_none : {X : Type 0} (A : Type 0) (B : X → Type 0) (o : Option X) → o ≡ None → MatchOption o A B → A
if_none A B None is h = h
if_none A B (Some x) is h = absurd (cc is)

pub if_some : {X : Type 0} (A : Type 0) (B : X → Type 0) (o : Option X) (x : X) → o ≡ Some x → MatchOption o A B → B x
if_some {X} A B o x is h = subst (λ (p : Option X). MatchOption p A B) is h

pub ok_option : {X F : Type 0} (A A' : Type 0) (B B' : X → Type 0) → (A → A') → ((x : X) → B x → B' x)
    → (r : Result (Option X) F) → IfOk r (λ o. MatchOption o A B) → IfOk r (λ o. MatchOption o A' B')
ok_option A A' B B' none some (Ok None) h = none h
ok_option A A' B B' none some (Ok (Some x)) h = some x h
ok_option A A' B B' none some (Err e) h = tt

module _ (o : Option Bytes) (A B : Bytes → Type 0) where
  pub more_told : (b : Bool) → b ≡ true → IfSome o (λ file. MatchBool b (A file) (B file)) → IfSome o A
  more_told true is h = h
  more_told false is h = absurd (cc is)

  pub none_told : (b : Bool) → b ≡ false → IfSome o (λ file. MatchBool b (A file) (B file)) → IfSome o B
  none_told true is h = absurd (cc is)
  none_told false is h = h

-- ---- a journal's first 8 bytes

module _ {D : Type 0} (seen : D → DiskSeen) (j : Journal D) where
  by_contents : (o : Option (List ℕ)) → IfSome o (λ file. (payloads : List Bytes) × StandsAt file (version_of j) (gate_of j) payloads)
      → IfSome o (λ file. take 8 file ≡ magic (version_of j))
  by_contents None h = tt
  by_contents (Some file) h = ap (take 8) h.1.is

  -- those of its version
  pub reading_magic : IsReading seen j → IfSome (seen (disk_of j)).contents (λ file. take 8 file ≡ magic (version_of j))
  reading_magic r = by_contents (seen (disk_of j)).contents r.told

  kind_of : (o : Option (List ℕ)) → IfSome o (λ file. take 8 file ≡ magic (version_of j)) → IfSome o (λ file. has_points file ≡ points_of (version_of j))
  kind_of None h = tt
  kind_of (Some file) h = ap (λ (front : Bytes). Rattle.std.specs.Str.bytes_eq front (magic 2)) h

  -- by which there may be checkpoints or not
  pub reading_kind : IsReading seen j → IfSome (seen (disk_of j)).contents (λ file. has_points file ≡ points_of (version_of j))
  reading_kind r = kind_of (seen (disk_of j)).contents (reading_magic r)

-- ---- one record more

module _ (one_by_one : OneByOne) (kept : Option Kept) (text : Bytes) (P : PlainPolicy) (H : History) (chain : Chain) (gate : ℕ) where
  pub right_told : (o : Option Bytes) → IfSome o (IsUpTo kept text P H chain gate) → (points : Bool) → IfSome o (λ file. has_points file ≡ points)
      → (payload : Bytes) (G : History) (new : Chain) (next : ℕ) → IfSome o (λ file. payloads_from file gate ≡ payload ∷ payloads_from file next)
      → next ≡ next_gate gate payload → takes_with points text P H payload ≡ Some G
      → ((magic : Bytes) (payloads : List Bytes) → IsChain kept magic payloads chain → IsChain kept magic (payloads ++ payload ∷ []) new)
      → IfSome o (IsUpTo kept text P G new next)
  right_told None h points kind payload G new next are at right added = tt
  right_told (Some file) h points kind payload G new next are at right added =
      one_more one_by_one kept text P H chain gate file h points kind payload G new next are at right added

  pub wrong_told : (o : Option Bytes) → IfSome o (IsUpTo kept text P H chain gate) → (points : Bool) → IfSome o (λ file. has_points file ≡ points)
      → (payload : Bytes) (next : ℕ) → IfSome o (λ file. payloads_from file gate ≡ payload ∷ payloads_from file next)
      → takes_with points text P H payload ≡ None → IfSome o (λ file. found file ≡ damaged chain.records gate)
  wrong_told None h points kind payload next are wrong = tt
  wrong_told (Some file) h points kind payload next are wrong =
      one_wrong one_by_one kept text P H chain gate file h points kind payload (payloads_from file next) are wrong

  pub long_told : (o : Option Bytes) → IfSome o (IsUpTo kept text P H chain gate)
      → IfSome o (λ file. (p : Bytes) × (ps : List Bytes) × (payloads_from file gate ≡ p ∷ ps) × (16777215 < length p))
      → IfSome o (λ file. found file ≡ damaged chain.records gate)
  long_told None h long = tt
  long_told (Some file) h long =
      one_wrong one_by_one kept text P H chain gate file h (has_points file) refl long.0 long.1 long.2 (long_wrong (has_points file) text P H long.0 long.3)

-- ---- record 0

-- a text that is no policy's
pub refused_told : (o : Option Bytes) (text : Bytes) (gate : ℕ) → IfSome o (λ file. counted file ≡ text ∷ payloads_from file gate) → accepted text ≡ None
    → IfSome o (λ file. found file ≡ damaged 0 8)
refused_told None text gate are none = tt
refused_told (Some file) text gate are none = first_refused text (payloads_from file gate) file are none

-- or one that is too long
pub first_long_told : (o : Option Bytes) (gate : ℕ) → gate ≡ 8 → IfSome o (λ file. (payloads_from file 8 ≡ counted file) × (journal.found file ≢ NotJournal))
    → IfSome o (λ file. (p : Bytes) × (ps : List Bytes) × (payloads_from file gate ≡ p ∷ ps) × (16777215 < length p))
    → IfSome o (λ file. found file ≡ damaged 0 gate)
first_long_told None gate first all long = tt
first_long_told (Some file) gate first all long =
    let are : counted file ≡ long.0 ∷ long.1 = sym all.0 ∙ (ap (payloads_from file) (sym first) ∙ long.2) in
    first_long long.0 long.1 file are long.3 ∙ ap (damaged 0) (sym first)

module _ {E : Type 0} (follows : E → PlainPolicy → Trace → Type 0) (kept : Option Kept) (text : Bytes) (P : PlainPolicy) (check : Check E) where
  starts_told : (o : Option Bytes) (chain : Chain) (gate : ℕ) → accepted text ≡ Some P → length text ≤ 16777215 → gate ≡ 13 + length text
      → IfSome o (λ file. counted file ≡ text ∷ payloads_from file gate) → IfSome o (λ file. IsChain kept (take 8 file) (text ∷ []) chain)
      → IfSome o (IsUpTo kept text P [] chain gate)
  starts_told None chain gate accepts short at are chained = tt
  starts_told (Some file) chain gate accepts short at are chained = first_up_to kept text P chain gate file short accepts at are chained

  -- record 0 was taken in
  pub starts : (o : Option Bytes) (chain : Chain) (gate : ℕ) → check.chain ≡ chain → accepted text ≡ Some P → Keeps follows check.keeping text P []
      → chain.records ≡ 1 → length text ≤ 16777215 → gate ≡ 13 + length text → IfSome o (λ file. counted file ≡ text ∷ payloads_from file gate)
      → IfSome o (λ file. IsChain kept (take 8 file) (text ∷ []) chain) → IsChecking follows kept text P check gate o
  starts o chain gate same accepts keeps one short at are chained =
      let count : check.chain.records ≡ 1 = ap (λ (x : Chain). x.records) same ∙ one in
      record {
        H = [];
        accepts = accepts;
        keeps = keeps;
        few = omega (arith, count);
        small = omega (arith, count, at);
        told = subst (λ (x : Chain). IfSome o (IsUpTo kept text P [] x gate)) (sym same) (starts_told o chain gate accepts short at are chained);
      }

  -- ---- all records

  -- the policy is the one of the text that was asked for
  pub whole_told : (o : Option Bytes) (gate : ℕ) (policy : Bytes) → IsChecking follows kept text P check gate o → IfSome o (λ file. payloads_from file gate ≡ [])
      → first_difference text policy ≡ None → IfSome o (IsWhole follows kept policy check)
  whole_told o gate policy checking none same = by_contents o checking.told none
    where
      is : text ≡ policy
      is = no_difference text policy same

      by_contents : (o : Option Bytes) → IfSome o (IsUpTo kept text P checking.H check.chain gate) → IfSome o (λ file. payloads_from file gate ≡ [])
          → IfSome o (IsWhole follows kept policy check)
      by_contents None up_to none = tt
      by_contents (Some file) up_to none =
          let all = all_found kept text P checking.H check.chain gate file up_to none in
          subst (λ (t : Bytes). IsWhole follows kept t check file) is (record {
            P = P;
            H = checking.H;
            accepts = checking.accepts;
            found = holds_found text P checking.H gate file all.0;
            keeps = checking.keeps;
            chained = all.1;
          })

  -- or it is another
  pub other_told : (o : Option Bytes) (gate : ℕ) (policy : Bytes) (place : ℕ) → IsChecking follows kept text P check gate o
      → IfSome o (λ file. payloads_from file gate ≡ []) → first_difference text policy ≡ Some place → IfSome o (HoldsOther policy place)
  other_told o gate policy place checking none differs = by_contents o checking.told none
    where
      by_contents : (o : Option Bytes) → IfSome o (IsUpTo kept text P checking.H check.chain gate) → IfSome o (λ file. payloads_from file gate ≡ [])
          → IfSome o (HoldsOther policy place)
      by_contents None up_to none = tt
      by_contents (Some file) up_to none = record {
        other = text;
        P = P;
        H = checking.H;
        gate = gate;
        is = (all_found kept text P checking.H check.chain gate file up_to none).0;
        differs = differs;
      }

  pub idle_at_end : (o : Option Bytes) (gate : ℕ) → IsChecking follows kept text P check gate o → IsIdle follows check.keeping.engine
  idle_at_end o gate checking = record { policy = P; trace = trace P checking.H; holds = checking.keeps.stands }

  -- ---- no record

  pub fresh_told : (o : Option Bytes) → IfSome o (λ file. (payloads_from file 8 ≡ counted file) × (journal.found file ≢ NotJournal))
      → (gate : ℕ) → gate ≡ 8 → IfSome o (λ file. payloads_from file gate ≡ []) → accepted text ≡ Some P → Keeps follows check.keeping text P []
      → (v : ℕ) → IfSome o (λ file. take 8 file ≡ magic v) → IsChain kept (magic v) [] check.chain → IfSome o (IsWhole follows kept text check)
  fresh_told None all gate first none accepts keeps v begins chained = tt
  fresh_told (Some file) all gate first none accepts keeps v begins chained =
      let empty : counted file ≡ [] = sym all.0 ∙ (ap (payloads_from file) (sym first) ∙ none) in
      record {
        P = P;
        H = [];
        accepts = accepts;
        found = fresh_found text file (found_fresh file all.1 empty);
        keeps = keeps;
        chained = subst (λ (l : List Bytes). IsChain kept (take 8 file) l check.chain) (sym empty) (subst (λ (m : Bytes). IsChain kept m [] check.chain) (sym begins) chained);
      }

-- what was asked of the journal behind record 0

pub counted_told : (o : Option Bytes) (gate next : ℕ) (payload : Bytes) → gate ≡ 8 → IfSome o (λ file. (payloads_from file 8 ≡ counted file) × (journal.found file ≢ NotJournal))
    → IfSome o (λ file. payloads_from file gate ≡ payload ∷ payloads_from file next) → IfSome o (λ file. counted file ≡ payload ∷ payloads_from file next)
counted_told None gate next payload first all are = tt
counted_told (Some file) gate next payload first all are = sym all.0 ∙ (ap (payloads_from file) (sym first) ∙ are)

pub chained_told : (o : Option Bytes) (kept : Option Kept) (chain : Chain) (v : ℕ) → IfSome o (λ file. take 8 file ≡ magic v) → IsChain kept (magic v) [] chain
    → IfSome o (λ file. IsChain chain.kept (take 8 file) [] chain)
chained_told None kept chain v begins h = tt
chained_told (Some file) kept chain v begins h =
    subst (λ (k : Option Kept). IsChain k (take 8 file) [] chain) (sym h.kept_is) (subst (λ (m : Bytes). IsChain kept m [] chain) (sym begins) h)

pub added_told : (o : Option Bytes) (kept : Option Kept) (chain new : Chain) (text : Bytes)
    → ((magic : Bytes) (payloads : List Bytes) → IsChain kept magic payloads chain → IsChain kept magic (payloads ++ text ∷ []) new)
    → IfSome o (λ file. IsChain kept (take 8 file) [] chain) → IfSome o (λ file. IsChain kept (take 8 file) (text ∷ []) new)
added_told None kept chain new text added h = tt
added_told (Some file) kept chain new text added h = added (take 8 file) [] h
