-- What a store that was opened has of its file.
use Rattle.std.proofs.Common.{◌≡◌, inl, inr, ℕ, ◌+◌, ◌<◌, ◌≤◌, ◌^◌, Bool, true, false, cond, List, [], ◌∷◌, ◌++◌, length, Option, Some, None, is_some, refl, sym, ap, ◌∙◌, subst, arith}
use Rattle.std.specs.Prelude.{IfSome}
use Rattle.ucon_disk.specs.Disk.{Only}
use Rattle.ucon_journal.specs.Found as journal
use Rattle.ucon_journal.specs.Opened.{opened as opened_as}
use Rattle.ucon_model.specs.Found as model
use Rattle.ucon_model.specs.Found.{Finding, Takes, found_behind, found_in, next_gate, taken}
use Rattle.ucon_model.specs.History.{History, trace}
use Rattle.ucon_model.specs.Plain.{Bytes, PlainPolicy}
use Rattle.ucon_syntax.specs.Policies.{accepted}
use Rattle.ucon_store.specs.Found.{Holds, IsFoundAs, Tells, found}
use Rattle.ucon_store.specs.Kept.{Kept}
use Rattle.ucon_store.specs.Loading.{IsRead, IsReadAs, found_from}
use Rattle.ucon_store.specs.Opened as opened
use Rattle.ucon_store.specs.Opened.{Parted, Seen, Sees, SeesIn, StandsAround, last_point, parted, parted_behind, parted_with, seen_after}
use Rattle.ucon_store.specs.Opening.{IsSeenAs, KeepsFound}
use Rattle.ucon_store.specs.Points.{has_points, is_point, point_taken, takes_with}
use Rattle.ucon_store.specs.Starts.{BeginsAt, IsBeforeAll, IsStart}
use Rattle.ucon_store.specs.Whole.{GoesOnFrom, IsFounded, IsFront, front_before_all, front_standing}
use Rattle.ucon_store.proofs.Begun.{last_before, seen_before}
use Rattle.ucon_store.proofs.Finding.{takes_of}
use Rattle.ucon_store.proofs.Openings.{found_counted}
use Rattle.ucon_store.proofs.Places.{point_stays, step_longer}
use Rattle.ucon_store.proofs.Reading.{found_first, sees_read, some_counted}
use Rattle.ucon_store.proofs.Runs.{found_opened}
use Rattle.ucon_store.proofs.Seeing.Found.{from_first}
use Rattle.ucon_store.proofs.Seeing.Nothing.{found_untold, is_told}
use Rattle.ucon_store.proofs.Seeing.Walk.{goes_on, same_told}
use Rattle.ucon_store.proofs.Stepping.{one_policy}
use Rattle.ucon_disk.specs.Seen.{DiskSeen}

-- ---- as many entries as payloads at most

one_more : (text : Bytes) (P : PlainPolicy) (H later : History) (payload : Bytes) (b : Bool) → cond b (point_taken text P H payload) (taken accepted P H payload) ≡ Some later
    → length later ≤ length H + 1
one_more text P H later payload true is = let same = ap (λ (l : History). length l) (point_stays text P H later payload is).0 in omega (arith, same)
one_more text P H later payload false is = omega (arith, step_longer P H later payload is)

kind_more : (points : Bool) (text : Bytes) (P : PlainPolicy) (H later : History) (payload : Bytes) → takes_with points text P H payload ≡ Some later → length later ≤ length H + 1
kind_more true text P H later payload is = one_more text P H later payload (is_point payload) is
kind_more false text P H later payload is = omega (arith, step_longer P H later payload is)

found_few : (points : Bool) (text : Bytes) (P : PlainPolicy) (payloads : List Bytes) (H : History) (number gate : ℕ) (t : Bytes) (Q : PlainPolicy) (F : History) (end : ℕ)
    → found_behind (takes_with points) text P H number gate payloads ≡ model.holds t Q F end → length F ≤ length H + length payloads
found_few points text P [] H number gate t Q F end h =
    let e : model.holds text P H gate ≡ model.holds t Q F end = h in
    let same : H ≡ F = cc e in
    let lengths = ap (λ (l : History). length l) same in
    omega (arith, lengths)
found_few points text P (payload ∷ payloads) H number gate t Q F end h =
    let on = goes_on (takes_with points) text P H number gate payload payloads t Q F end h in
    let rest = found_few points text P payloads on.later (number + 1) (next_gate gate payload) t Q F end on.behind in
    let more = kind_more points text P H on.later payload on.takes_it in
    omega (arith, rest, more)

-- ---- a journal with a record

module _ (file text : Bytes) (payloads : List Bytes) (counts : journal.counted file ≡ text ∷ payloads) where
  found_all : found file ≡ found_in accepted (takes_of file) (text ∷ payloads)
  found_all = found_counted file (some_counted (journal.found file) text payloads counts) ∙ ap (found_in accepted (takes_of file)) counts

  -- what is found there is of the text's own policy
  pub record IsHeld (t : Bytes) (H : History) : Type 0 where
    pub Q : PlainPolicy
    pub gate : ℕ
    pub is : found file ≡ model.holds t Q H gate
    pub accepts : accepted t ≡ Some Q
    pub few : length H ≤ length payloads

  pub held_as : (t : Bytes) (H : History) → IsFoundAs t file H → IsHeld t H
  held_as t H is = by (found file) refl is
    where
      whole : (f : Finding) → found file ≡ f → found_in accepted (takes_of file) (text ∷ payloads) ≡ f
      whole f e = sym found_all ∙ e

      by : (f : Finding) → found file ≡ f → Tells f t H → IsHeld t H
      by model.fresh e tells = absurd (let none : text ∷ payloads ≡ [] = sym counts ∙ found_untold file (ap is_told e) in cc none)
      by model.not_journal e tells = absurd tells
      by (model.damaged n g) e tells = absurd tells
      by (model.holds other Q F gate) e tells =
          let first = from_first (takes_of file) text payloads other Q F gate (whole (model.holds other Q F gate) e) in
          let same = same_told (takes_of file) text first.P payloads [] 1 _ other Q F gate first.behind in
          let few = found_few (has_points file) text first.P payloads [] 1 _ other Q F gate first.behind in
          let lengths = ap (λ (l : History). length l) tells.1 in
          record {
            Q = Q;
            gate = gate;
            is = e ∙ (λ i. model.holds (tells.0 i) Q (tells.1 i) gate);
            accepts = ap accepted (sym tells.0 ∙ sym same.0) ∙ first.accepts ∙ ap (λ (R : PlainPolicy). Some R) same.1;
            few = omega (arith, few, lengths);
          }

-- ---- a file that was read

kind_true : (points : Bool) (payloads : List Bytes) (p : Parted) → parted_with points payloads ≡ Some p → (points ≡ true) × (parted payloads ≡ Some p)
kind_true true payloads p is = (refl, is)
kind_true false payloads p is = absurd (let bad : None ≡ Some p = is in cc bad)

-- the law of found histories and their last checkpoint
abbrev pub StandAround : Type 0
StandAround = (file first text : Bytes) (payloads : List Bytes) (P : PlainPolicy) (H : History) (gate : ℕ) (p : Parted) → found file ≡ model.holds text P H gate → length H < 2 ^ 64
    → has_points file ≡ true → journal.counted file ≡ first ∷ payloads → parted payloads ≡ Some p → StandsAround text P H gate p

module _ (text : Bytes) (P : PlainPolicy) (accepts : accepted text ≡ Some P) (point : Option Bytes) (before : ℕ) (H : History) where
  -- where it is read from
  begins_read : (file : Bytes) → IsRead text P point before H file → BeginsAt (last_point file) point before
  begins_read file (inl fresh) = subst (λ (l : List Bytes). BeginsAt (parted_behind (has_points file) l) point before) (sym fresh.0) fresh.2
  begins_read file (inr whole) = subst (λ (l : List Bytes). BeginsAt (parted_behind (has_points file) l) point before) (sym whole.1.counts) whole.1.begins

  pub begins_opened : (file : Bytes) → IsRead text P point before H (opened_as file) → BeginsAt (last_point file) point before
  begins_opened file r = subst (λ (o : Option Parted). BeginsAt o point before) (last_before file) (begins_read (opened_as file) r)

  -- what is seen in it
  seen_read : (file : Bytes) → IsRead text P point before H file → IsSeenAs P text point before H file
  seen_read file (inl fresh) =
      inl (subst (λ (l : List Bytes). SeesIn (has_points file) l (found file) opened.fresh) (sym fresh.0) (ap (seen_after 0 []) (sym fresh.1)), fresh.2, fresh.3)
  seen_read file (inr whole) = inr (whole.0, λ T start. sees_read text P point before (λ T. model.holds text P H whole.0) file accepts whole.1 T start)

  seen_back : (file : Bytes) → IsSeenAs P text point before H (opened_as file) → IsSeenAs P text point before H file
  seen_back file (inl fresh) = inl (seen_before file opened.fresh fresh.0, fresh.1, fresh.2)
  seen_back file (inr held) = inr (held.0, λ T start. seen_before file _ (held.1 T start))

  pub seen_opened : (file : Bytes) → IsRead text P point before H (opened_as file) → IsSeenAs P text point before H file
  seen_opened file r = seen_back file (seen_read (opened_as file) r)

  -- what is found in it, where the store begins before all entries
  module _ (first : IsBeforeAll point before) where
    all_found : (file : Bytes) (payloads : List Bytes) (gate : ℕ) (r : IsReadAs text P point before (λ T. model.holds text P H gate) file) (o : Option Parted)
        → parted_with (has_points file) r.payloads ≡ o → BeginsAt o point before → found file ≡ model.holds text P H gate
    all_found file payloads gate r None none begins =
        let start : IsStart P point before [] = subst (λ (x : Option Bytes). IsStart P x before []) (sym first.0) (first.1, refl) in
        found_first file text P r.payloads r.counts r.short accepts none
        ∙ ap (λ (x : Option Parted). found_from P [] text r.payloads x) (sym none) ∙ r.says [] start
    all_found file payloads gate r (Some p) at begins = absurd (let bad : None ≡ Some p.point = sym first.0 ∙ begins.0 in cc bad)

    first_found : (file : Bytes) → IsRead text P point before H file → IsFoundAs text file H
    first_found file (inl fresh) = subst (λ (f : Finding). Tells f text H) (sym fresh.1) fresh.3
    first_found file (inr whole) =
        let r = whole.1 in
        subst (λ (f : Finding). Tells f text H) (sym (all_found file r.payloads whole.0 r (parted_with (has_points file) r.payloads) refl r.begins)) (refl, refl)

    pub found_first_opened : (file : Bytes) → IsRead text P point before H (opened_as file) → IsFoundAs text file H
    found_first_opened file r = subst (λ (f : Finding). Tells f text H) (found_opened file) (first_found (opened_as file) r)

  -- ---- the entries before it, where a history is found

  -- some first entries of a history lead to where the store begins, and the others are its own
  pub record Parts (s : Kept Bytes) (all : History) : Type 0 where
    pub before_all : History
    pub is : all ≡ before_all ++ H
    pub front : IsFront P s before_all

  module _ (law : StandAround) where
    abbrev store : Kept Bytes
    store = record { policy = text; point = point; before = before; opening = 0; entries = H; mark = None; disk = [] }

    front_first : IsBeforeAll point before → (all : History) → all ≡ H → Parts store all
    front_first first all is = record { before_all = []; is = is; front = front_before_all P store first }

    behind_same : (F : History) (gate end : ℕ) → model.holds text P F end ≡ model.holds text P H gate → F ≡ H
    behind_same F gate end is = cc is

    parts_at : (file : Bytes) (gate : ℕ) (r : IsReadAs text P point before (λ T. model.holds text P H gate) file) (all : History) → IsFoundAs text file all
        → length (journal.counted file) < 2 ^ 63 → (o : Option Parted) → parted_with (has_points file) r.payloads ≡ o → BeginsAt o point before → Parts store all
    parts_at file gate r all found_so few None none begins =
        let is = all_found begins file r.payloads gate r None none begins in
        let told : Tells (model.holds text P H gate) text all = subst (λ (f : Finding). Tells f text all) is found_so in
        front_first begins all (sym told.1)
    parts_at file gate r all found_so few (Some p) at begins =
        let held = held_as file text r.payloads r.counts text all found_so in
        let kind = kind_true (has_points file) r.payloads p at in
        let count = ap (λ (l : List Bytes). length l) r.counts in
        let below : length all < 2 ^ 64 = omega (arith, held.few, few, count) in
        let one : held.Q ≡ P = one_policy text held.Q P held.accepts accepts in
        let is : found file ≡ model.holds text P all held.gate = held.is ∙ ap (λ (Q : PlainPolicy). model.holds text Q all held.gate) one in
        let a = law file text text r.payloads P all held.gate p is below kind.0 r.counts kind.1 in
        let front = front_standing P all held.gate p store a begins.0 begins.1 in
        let says : found_from P (trace P a.before) text r.payloads (Some p) ≡ model.holds text P H gate =
        ap (λ (o : Option Parted). found_from P (trace P a.before) text r.payloads o) (sym at) ∙ r.says (trace P a.before) front.starts in
        record { before_all = a.before; is = a.all ∙ ap (λ (l : History). a.before ++ l) (behind_same a.behind gate held.gate (sym a.told ∙ says)); front = front }

    parts_read : (file : Bytes) → IsRead text P point before H file → length (journal.counted file) < 2 ^ 63 → (all : History) → IsFoundAs text file all → Parts store all
    parts_read file (inl fresh) few all found_so =
        let none : Tells model.fresh text all = subst (λ (f : Finding). Tells f text all) fresh.1 found_so in
        front_first fresh.2 all (none ∙ sym fresh.3)
    parts_read file (inr whole) few all found_so =
        parts_at file whole.0 whole.1 all found_so few (parted_with (has_points file) whole.1.payloads) refl whole.1.begins

    -- the store goes on from it
    module _ {D : Type 0} (seen : D → DiskSeen) (opening : ℕ) (disk : D) where
      abbrev opened_store : Kept D
      opened_store = record { policy = text; point = point; before = before; opening = opening; entries = H; mark = None; disk = disk }

      held_by : (o n : Option Bytes) (file : Bytes) (all : History) → o ≡ Some file → KeepsFound text o n → IsFoundAs text file all → IfSome n (Holds text P all)
      held_by o None file all is keeps found_so = tt
      held_by None (Some c) file all is keeps found_so = absurd (let bad : None ≡ Some file = is in cc bad)
      held_by (Some f) (Some c) file all is keeps found_so =
          let same : f ≡ file = cc is in keeps P all accepts (subst (λ (x : Bytes). IsFoundAs text x all) (sym same) found_so)

      pub goes_on_opened : (m : Option Bytes) (file : Bytes) (all : History) → m ≡ Some (opened_as file) → IfSome m (IsRead text P point before H)
          → IfSome m (λ c. length (journal.counted c) < 2 ^ 63) → KeepsFound text m (seen disk).contents → Only (seen disk).contents (seen disk).images → IsFoundAs text file all
          → GoesOnFrom seen P opened_store all
      goes_on_opened None file all is r few keeps only found_so = absurd (let bad : None ≡ Some (opened_as file) = is in cc bad)
      goes_on_opened (Some c) file all is r few keeps only found_so =
          let same : c ≡ opened_as file = cc is in
          let there : IsFoundAs text c all = subst (λ (x : Bytes). IsFoundAs text x all) (sym same) (subst (λ (f : Finding). Tells f text all) (sym (found_opened file)) found_so) in
          let parts = parts_read c r few all there in record {
            before = parts.before_all;
            all = parts.is;
            founded = record {
              accepts = accepts;
              front = record { starts = parts.front.starts; count = parts.front.count; text = parts.front.text };
              unmarked = refl;
              holds = subst (λ (l : History). IfSome (seen disk).contents (Holds text P l)) parts.is (held_by (Some c) (seen disk).contents c all refl keeps there);
              only = only;
            };
          }

      -- and where it begins before all entries it is founded on none
      holds_first : IsBeforeAll point before → (m n : Option Bytes) → IfSome m (IsRead text P point before H) → KeepsFound text m n → is_some n ≡ is_some m → IfSome n (Holds text P H)
      holds_first first m None r keeps tells = tt
      holds_first first None (Some c) r keeps tells = absurd (let bad : true ≡ false = tells in cc bad)
      holds_first first (Some f) (Some c) r keeps tells = keeps P H accepts (first_found first f r)

      pub founded_first : IsBeforeAll point before → (m : Option Bytes) → IfSome m (IsRead text P point before H) → KeepsFound text m (seen disk).contents → is_some (seen disk).contents ≡ is_some m
          → Only (seen disk).contents (seen disk).images → IsFounded seen P opened_store []
      founded_first first m r keeps tells only =
          let front = front_before_all P opened_store first in record {
            accepts = accepts;
            front = record { starts = front.starts; count = front.count; text = front.text };
            unmarked = refl;
            holds = holds_first first m (seen disk).contents r keeps tells;
            only = only;
          }
