-- What steps that change something put on a store's disk, and what they leave of the store.
use Rattle.std.proofs.Common.{◌≡◌, ℕ, ◌≤◌, List, [], ◌∷◌, ◌++◌, append_assoc, Option, Some, None, true, refl, sym, ap, ◌∙◌, subst}
use Rattle.std.specs.Prelude.{is_some, IsSome, IfSome}
use Rattle.ucon_model.specs.declared.command.Entry.{Entry}
use Rattle.ucon_model.specs.Action.{Trace}
use Rattle.ucon_model.specs.Block.{reply as reply_to}
use Rattle.ucon_model.specs.Batches.{AreTaken}
use Rattle.ucon_model.specs.Found.{only_steps, taken}
use Rattle.ucon_model.specs.History.{History, said, changes, trace, trace_from}
use Rattle.ucon_model.specs.Payload.{told, payload_spelling}
use Rattle.ucon_model.specs.Plain.{Bytes, PlainPolicy, PlainReply}
use Rattle.ucon_disk.specs.Causes.{raised}
use Rattle.ucon_disk.specs.Disk.{Only}
use Rattle.ucon_disk.specs.Run.{IsAtRest, LeavesAfter, LeavesOnly}
use Rattle.ucon_journal.specs.declared.journal.Journal.{Journal}
use Rattle.ucon_journal.specs.Found.{counted}
use Rattle.ucon_journal.specs.Journal.{disk_of, told_payloads, IsClosed}
use Rattle.ucon_journal.specs.Opened.{PerhapsAllAdded}
use Rattle.ucon_syntax.specs.Policies.{accepted}
use Rattle.ucon_store.specs.declared.beginning.Beginning.{Beginning}
use Rattle.ucon_store.specs.Found.{Holds, IsFoundMarked}
use Rattle.ucon_store.specs.Batched.{payloads_after}
use Rattle.ucon_store.specs.Keeping.{GrowsFrom}
use Rattle.ucon_store.specs.Kept.{Kept, IsKept, payload_in}
use Rattle.ucon_store.specs.Points.{has_points}
use Rattle.ucon_store.specs.Starts.{IsStart}
use Rattle.ucon_store.specs.Stays.{Stays}
use Rattle.ucon_store.specs.Whole.{IsFounded}
use Rattle.ucon_store.proofs.Finding.{Together, takes_of}
use Rattle.ucon_store.proofs.Adding.{Adds, adds_payload, added_payload}
use Rattle.ucon_store.proofs.Recorded.{HoldsAtRest, IsAppended, LeavesWith, leaves_grown, rest_with, rests_grown, run_perhaps, stays_marked, stays_more, with_entries, with_mark}
use Rattle.ucon_store.proofs.Stepping.{stands_as, trace_append}
use Rattle.ucon_store.proofs.Versions.{steps_taken}
use Rattle.ucon_disk.specs.Seen.{DiskSeen}

-- a store of these parts
abbrev pub parts : {D : Type 0} → Bytes → Option Beginning → (before opening : ℕ) → History → Option History → D → Kept D
parts text point before opening H mark disk =
    record { policy = text; point = payload_in point; before = before; opening = opening; entries = H; mark = mark; disk = disk }

-- with entries more, and with a mark
module _ {D : Type 0} {text : Bytes} (point : Option Beginning) {before opening : ℕ} {H : History} {mark : Option History} {d : D} {x : Kept D}
    (is : parts text point before opening H mark d ≡ x) (es : History) (new : D) where
  pub more_parts : mark ≡ None → {items : History} → items ≡ H ++ es → parts text point before opening items mark new ≡ with_entries x es new
  more_parts none grown = (λ i. parts text point before opening (grown i) (none i) new) ∙ ap (λ (s : Kept D). with_entries s es new) is

  pub marked_parts : {items : History} → items ≡ H → {failed : History} → failed ≡ es
      → parts text point before opening items (Some failed) new ≡ with_mark x es new
  marked_parts same failed_is = (λ i. parts text point before opening (same i) (Some (failed_is i)) new) ∙ ap (λ (s : Kept D). with_mark s es new) is

-- A store is ready for the records of entries: no call has met a disk fault, its journal is closed over its disk, of which a crash leaves nothing
-- but the file, and the payloads are the entries', behind each trace that leads to the store's beginning, and are taken so.
pub record IsReady {D : Type 0} (seen : D → DiskSeen) (x : Kept D) (k : Journal D) (es : History)
    (payloads : List Bytes) : Type 0 where
  pub unmarked : x.mark ≡ None
  pub closed : IsClosed seen k
  pub same : disk_of k ≡ x.disk
  pub only : Only (seen x.disk).contents (seen x.disk).images
  pub spelled : (P : PlainPolicy) (T : Trace) → accepted x.policy ≡ Some P → IsStart P x.point x.before T
      → payloads ≡ payloads_after P (trace_from P T x.entries) es
  pub takes : (P : PlainPolicy) (G : History) → accepted x.policy ≡ Some P → IsStart P x.point x.before (trace P G)
      → AreTaken (only_steps accepted) x.policy P (G ++ x.entries) payloads ((G ++ x.entries) ++ es)

module _ {E D : Type 0} {follows : E → PlainPolicy → Trace → Type 0} {seen : D → DiskSeen} {engine : E}
    {j : Journal D} {text : Bytes} {point : Option Beginning} {before opening : ℕ} {now : Bytes} {H : History} {mark : Option History}
    (kept : IsKept follows seen engine j text point before now H mark)
    {x : Kept D} (is : parts text point before opening H mark (disk_of j) ≡ x) where
  -- without a mark a crash leaves nothing but the file of a store
  pub only_kept : x.mark ≡ None → Only (seen x.disk).contents (seen x.disk).images
  only_kept = subst (λ (s : Kept D). s.mark ≡ None → Only (seen s.disk).contents (seen s.disk).images) is (λ none. (kept.rests none).only)

  -- a store is ready for the records of entries where their payloads are those behind what the engine follows, and are taken so
  pub ready_with : mark ≡ None → {k : Journal D} → (IsClosed seen j → IsClosed seen k) → disk_of k ≡ disk_of j → {es : History}
      → {payloads : List Bytes}
      → ((P : PlainPolicy) (T : Trace) → follows engine P T → payloads ≡ payloads_after P T es)
      → ((P : PlainPolicy) (G : History) → follows engine P (trace P G) → AreTaken (only_steps accepted) text P G payloads (G ++ es))
      → IsReady seen x k es payloads
  ready_with none {k} closed same {es} {payloads} spelling taking =
      subst (λ (s : Kept D). IsReady seen s k es payloads) is (record {
        unmarked = none;
        closed = closed (kept.rests none).closed;
        same = same;
        only = (kept.rests none).only;
        spelled = λ P T accepts start. spelling P (trace_from P T H) (stands_as kept none P accepts T start);
        takes = λ P G accepts start.
            taking P (G ++ H) (subst (follows engine P) (sym (trace_append P [] G H)) (stands_as kept none P accepts (trace P G) start));
      })

  -- and for a step's where the engine has drafted its reply, and the payload is spelled of it
  pub ready_for : mark ≡ None → {k : Journal D} → (IsClosed seen j → IsClosed seen k) → disk_of k ≡ disk_of j → (e : Entry) (r : PlainReply)
      → changes r ≡ true
      → ((P : PlainPolicy) (T : Trace) → follows engine P T → r ≡ reply_to P T e.caller e.command)
      → {payload spelled : Bytes} → payload ≡ spelled → spelled ≡ payload_spelling (told e r)
      → ((P : PlainPolicy) (G : History) → r ≡ said P G e.caller e.command → changes r ≡ true → taken accepted P G spelled ≡ Some (G ++ e ∷ []))
      → IsReady seen x k (e ∷ []) (payload ∷ [])
  ready_for none closed same e r changing says {payload} is_spelled spelling taking =
      ready_with none closed same
      (λ P T standing. ap (λ (l : Bytes). l ∷ []) (is_spelled ∙ (spelling ∙ ap (λ (a : PlainReply). payload_spelling (told e a)) (says P T standing))))
      (λ P G standing. (G ++ e ∷ [], ap (taken accepted P G) is_spelled ∙ taking P G (says P (trace P G) standing) changing, refl))

-- a journal closed over a store's disk holds what the store is founded on, with its entries behind that
pub holds_founded : {D : Type 0} (seen : D → DiskSeen) (x : Kept D) (k : Journal D) → IsClosed seen k
    → disk_of k ≡ x.disk
    → (P : PlainPolicy) (G : History) → IsFounded seen P x G → HoldsAtRest seen k x.policy P (G ++ x.entries)
holds_founded {D} seen x k closed same P G f = record {
  closed = closed;
  only = subst (λ (d : D). Only (seen d).contents (seen d).images) (sym same) f.only;
  holds = subst (λ (d : D). IfSome (seen d).contents (Holds x.policy P (G ++ x.entries))) (sym same) f.holds;
}

module _ {D : Type 0} {seen : D → DiskSeen} {x : Kept D} {k : Journal D} {es : History} {payloads : List Bytes}
    (ready : IsReady seen x k es payloads) (together : Together) where
  -- what a crash leaves, once the records' making has begun
  pub leaves_ready : {new : D} → LeavesAfter (seen (disk_of k)) (seen new) (PerhapsAllAdded payloads)
      → LeavesWith seen x es new
  leaves_ready {new} run P G f =
      subst (λ (d : D). IsSome (seen d).contents → LeavesOnly (seen d) (seen new) (IsFoundMarked x.policy (G ++ x.entries) (Some es))) ready.same
      (run_perhaps (holds_founded seen x k ready.closed ready.same P G f) together es payloads
      (ready.takes P G f.accepts f.front.starts) new run)

  -- at Ok the store is founded on the same history, with the entries more
  pub founded_ready : {next : Journal D} → IsAppended seen k next payloads → {y : Kept D} → y ≡ with_entries x es (disk_of next)
      → (P : PlainPolicy) (G : History) → IsFounded seen P x G → IsFounded seen P y G
  founded_ready {next} appended is P G f =
      let rest = rest_with (holds_founded seen x k ready.closed ready.same P G f) appended together ((G ++ x.entries) ++ es)
      (λ file _. together.steps (takes_of file) x.policy P (G ++ x.entries) ((G ++ x.entries) ++ es) payloads (steps_taken (has_points file))
      (ready.takes P G f.accepts f.front.starts)) in
      subst (λ (s : Kept D). IsFounded seen P s G) (sym is) (record {
        accepts = f.accepts;
        front = record { starts = f.front.starts; count = f.front.count; text = f.front.text };
        unmarked = refl;
        holds = subst (λ (l : History). IfSome (seen (disk_of next)).contents (Holds x.policy P l)) (append_assoc G x.entries es) rest.holds;
        only = appended.only;
      })

  -- and it stays
  pub stays_ready : {next : Journal D} → LeavesAfter (seen (disk_of k)) (seen (disk_of next)) (PerhapsAllAdded payloads)
      → IsAppended seen k next payloads
      → (seen (disk_of next)).faults ≡ (seen (disk_of k)).faults → {y : Kept D} → y ≡ with_entries x es (disk_of next)
      → Stays seen x y
  stays_ready {next} run appended unfailed is =
      stays_more seen x es (disk_of next) is ready.unmarked (unfailed ∙ ap (λ d. (seen d).faults) ready.same)
      (appended.tells ∙ ap (λ (d : D). is_some (seen d).contents) ready.same) (leaves_ready run) (founded_ready appended refl)
      (subst (λ (d : D). LeavesAfter (seen d) (seen (disk_of next)) GrowsFrom) ready.same (leaves_grown seen payloads (disk_of k) (disk_of next) run))
      (λ file rest. rests_grown seen payloads k next ready.closed appended file (subst (λ (d : D). IsAtRest (seen d) file) (sym ready.same) rest))

  -- as it does at Err, with the entries as its mark
  pub stays_failed : {new : D} → LeavesAfter (seen (disk_of k)) (seen new) (PerhapsAllAdded payloads)
      → is_some (seen new).contents ≡ is_some (seen (disk_of k)).contents
      → (seen new).faults ≡ raised (seen (disk_of k)).faults → ((d : D) (t : ℕ) (c : List ℕ) → t ≤ (seen d).moment → (seen d).images c → (seen d).images_since t c)
      → {y : Kept D} → y ≡ with_mark x es new → Stays seen x y
  stays_failed {new} run tells failed counts is =
      stays_marked seen x es new is ready.unmarked (failed ∙ ap (λ (d : D). raised (seen d).faults) ready.same)
      (tells ∙ ap (λ (d : D). is_some (seen d).contents) ready.same) counts (leaves_ready run)
      (subst (λ (d : D). LeavesAfter (seen d) (seen new) GrowsFrom) ready.same (leaves_grown seen payloads (disk_of k) new run))

module _ {D : Type 0} {seen : D → DiskSeen} {x : Kept D} {k : Journal D} {es : History} {payloads : List Bytes}
    (ready : IsReady seen x k es payloads) where
  -- since their records' making has begun, each image has the payloads more, or none of them, whatever is found in it
  pub adds_ready : {new : D} → LeavesAfter (seen (disk_of k)) (seen new) (PerhapsAllAdded payloads)
      → Adds seen x (λ P T. payloads_after P (trace_from P T x.entries) es) new
  adds_ready = adds_payload seen x (λ P T. payloads_after P (trace_from P T x.entries) es) k ready.same ready.only ready.spelled

  -- once they are there, they stand behind the payloads of before
  pub added_ready : {next : Journal D} → IsAppended seen k next payloads
      → (P : PlainPolicy) (T : Trace) (file : List ℕ) → accepted x.policy ≡ Some P → IsStart P x.point x.before T
      → (seen x.disk).contents ≡ Some file
      → told_payloads (seen (disk_of next)).contents ≡ counted file ++ payloads_after P (trace_from P T x.entries) es
  added_ready = added_payload seen x (λ P T. payloads_after P (trace_from P T x.entries) es) k ready.same ready.only ready.spelled
