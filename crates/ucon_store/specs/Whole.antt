-- A store that begins behind a checkpoint, seen with a history before it.
use Rattle.std.proofs.Common.{refl, sym, subst, ap, ◌∙◌, ◌+◌, inl, arith}
use Rattle.std.specs.Prelude.{◌≡◌, ℕ, [], ◌++◌, length, Option, Some, None, IsSome, IfSome}
use Rattle.ucon_disk.specs.Disk.{Only}
use Rattle.ucon_model.specs.Action.{Trace}
use Rattle.ucon_model.specs.History.{History, trace, trace_from}
use Rattle.ucon_model.specs.Plain.{Bytes, PlainPolicy}
use Rattle.ucon_point.specs.PointText.{point_text}
use Rattle.ucon_state.specs.Held.{held_after}
use Rattle.ucon_syntax.specs.Policies.{accepted}
use Rattle.ucon_store.specs.Found.{Holds, IsFoundAs, IsFoundMarked, found_as}
use Rattle.ucon_store.specs.Kept.{Kept}
use Rattle.ucon_store.specs.Opened.{Parted, StandsAround, steps_among}
use Rattle.ucon_store.specs.Points.{checkpoint, text_in_force}
use Rattle.ucon_store.specs.Starts.{IsBeforeAll, IsStart, checkpoint_behind, text_at_start}
use Rattle.ucon_disk.specs.Seen.{DiskSeen}

-- the trace that a store's entries make, from a trace on
abbrev pub trace_behind : {D : Type 0} → PlainPolicy → Trace → Kept D → Trace
trace_behind P T s = trace_from P T s.entries

-- a history that leads to where the store begins, of as many entries as stand before, after which the policy in force has the same text
pub record IsFront {D : Type 0} (P : PlainPolicy) (s : Kept D) (G : History) : Type 0 where
  pub starts : IsStart P s.point s.before (trace P G)
  pub count : length G ≡ s.before
  pub text : text_in_force s.policy G ≡ text_at_start s.policy s.point

-- the store with these entries before its own, as if it had begun before all of them
abbrev pub whole : {D : Type 0} → History → Kept D → Kept D
whole G s = record { policy = s.policy; point = None; before = 0; opening = s.opening; entries = G ++ s.entries; mark = s.mark; disk = s.disk }

-- The store's policy is this one, this history leads to where the store begins, and no call has met a disk fault. Where the disk tells, its file
-- holds the policy and this history with the store's entries behind it, and a crash leaves nothing else. Where the file was found when the store was
-- opened there is one such history; where opening alone accepted it there is none.
pub record IsFounded {D : Type 0} (seen : D → DiskSeen) (P : PlainPolicy) (s : Kept D) (G : History) : Type 0 where
  pub accepts : accepted s.policy ≡ Some P
  pub front : IsFront P s G
  pub unmarked : s.mark ≡ None
  pub holds : IfSome (seen s.disk).contents (Holds s.policy P (G ++ s.entries))
  pub only : Only (seen s.disk).contents (seen s.disk).images

-- The store goes on from a history: the first entries of it lead to where the store begins, which is founded on them, and the others are its own.
pub record GoesOnFrom {D : Type 0} (seen : D → DiskSeen) (P : PlainPolicy) (s : Kept D) (H : History) : Type 0 where
  pub before : History
  pub all : H ≡ before ++ s.entries
  pub founded : IsFounded seen P s before

-- a crash leaves what a store is founded on, with its entries behind that
pub found_founded : {D : Type 0} (seen : D → DiskSeen) (P : PlainPolicy) (s : Kept D) (G : History)
    → IsFounded seen P s G → IsSome (seen s.disk).contents → (c : Bytes) → (seen s.disk).images c → IsFoundAs s.policy c (G ++ s.entries)
found_founded seen P s G f told c image = by_contents (seen s.disk).contents f.holds f.only told
  where
    by_contents : (o : Option Bytes) → IfSome o (Holds s.policy P (G ++ s.entries)) → Only o (seen s.disk).images → IsSome o
        → IsFoundAs s.policy c (G ++ s.entries)
    by_contents None holds only some = absurd (cc some)
    by_contents (Some file) holds only some =
        subst (λ (f : Bytes). IsFoundAs s.policy f (G ++ s.entries)) (sym (only c image)) (found_as s.policy P (G ++ s.entries) file holds)

pub left_founded : {D : Type 0} (seen : D → DiskSeen) (P : PlainPolicy) (s : Kept D) (G : History)
    → IsFounded seen P s G → IsSome (seen s.disk).contents → (c : Bytes) → (seen s.disk).images c → IsFoundMarked s.policy (G ++ s.entries) s.mark c
left_founded seen P s G f told c image = inl (found_founded seen P s G f told c image)

-- ---- a store that begins before all entries: the empty history leads there, and with it before its own entries the store is itself

pub start_before_all : (P : PlainPolicy) (point : Option Bytes) (before : ℕ) → IsBeforeAll point before → IsStart P point before []
start_before_all P point before first = subst (λ (o : Option Bytes). IsStart P o before []) (sym first.0) (first.1, refl)

pub front_before_all : {D : Type 0} (P : PlainPolicy) (s : Kept D) → IsBeforeAll s.point s.before → IsFront P s []
front_before_all P s first = record {
  starts = start_before_all P s.point s.before first;
  count = sym first.1;
  text = sym (ap (text_at_start s.policy) first.0);
}

-- a checkpoint behind such a store's entries is that of a history
pub checkpoint_before_all : (text : Bytes) (point : Option Bytes) (before : ℕ) (P : PlainPolicy) (H : History) → IsBeforeAll point before
    → checkpoint_behind text point before P [] H ≡ checkpoint text P H
checkpoint_before_all text point before P H first =
    let none : 0 + length H ≡ length H = omega arith in
    (λ i. checkpoint_behind text (first.0 i) (first.1 i) P [] H) ∙ ap (λ (n : ℕ). point_text n (text_in_force text H) (held_after P (trace P H))) none

pub whole_before_all : {D : Type 0} (s : Kept D) → IsBeforeAll s.point s.before → whole [] s ≡ s
whole_before_all s first = λ i. record {
  policy = s.policy;
  point = sym first.0 i;
  before = sym first.1 i;
  opening = s.opening;
  entries = s.entries;
  mark = s.mark;
  disk = s.disk;
}

-- ---- a store that begins behind the last checkpoint of what is found: the entries before that lead there

pub front_standing : {D : Type 0} (P : PlainPolicy) (H : History) (gate : ℕ) (p : Parted) (s : Kept D) (a : StandsAround s.policy P H gate p)
    → s.point ≡ Some p.point → s.before ≡ steps_among p.before → IsFront P s a.before
front_standing P H gate p s a point before = record {
  starts = subst (λ (z : Option Bytes × ℕ). IsStart P z.0 z.1 (trace P a.before)) (λ i. (sym point i, sym before i)) a.point;
  count = a.count ∙ sym before;
  text = sym a.in_force ∙ ap (text_at_start s.policy) (sym point);
}
