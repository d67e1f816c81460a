-- What a batch that was filled behind a store's entries puts on its disk, and what it leaves of the store.
use Rattle.std.proofs.Common.{◌≡◌, ◌≢◌, ◌⊎◌, inl, inr, ⊎_elim, ℕ, ◌+◌, ◌*◌, ◌<◌, ◌≤◌, ◌^◌, List, [], ◌∷◌, ◌++◌, length, length-append, add-zero, take, Option, Some, None, refl, sym, ap, ◌∙◌, subst, arith}
use Rattle.std.proofs.lemmas.List.{append-nil, length-take-le, take-map}
use Rattle.std.specs.Prelude.{IsSome}
use Rattle.std.specs.List.{sum_by}
use Rattle.ucon_model.specs.declared.command.Entry.{Entry}
use Rattle.ucon_model.specs.Action.{Trace}
use Rattle.ucon_model.specs.Batches.{AreTaken, changing}
use Rattle.ucon_model.specs.Found.{only_steps}
use Rattle.ucon_model.specs.History.{History, trace, trace_from}
use Rattle.ucon_model.specs.Plain.{Bytes, PlainPolicy, PlainReply}
use Rattle.ucon_model.specs.Work.{NobodyFails}
use Rattle.ucon_journal.specs.declared.journal.Journal.{Journal}
use Rattle.ucon_journal.specs.Journal.{disk_of, gate_of, told_payloads, IsClosed}
use Rattle.ucon_journal.specs.Found.{counted}
use Rattle.ucon_journal.specs.JournalBytes.{records}
use Rattle.ucon_disk.specs.Disk.{Only}
use Rattle.ucon_disk.specs.Run.{LeavesOnly}
use Rattle.ucon_disk.specs.Seen.{DiskSeen}
use Rattle.ucon_syntax.specs.Policies.{accepted}
use Rattle.ucon_store.specs.declared.batch.BatchEnd.TheVariants.{DiskFault}
use Rattle.ucon_store.specs.declared.batch.Batched.{Batched}
use Rattle.ucon_store.specs.declared.beginning.Beginning.{Beginning}
use Rattle.ucon_store.specs.Batched.{IsBatchedBehind, answer_of, answers, answers_after, batch_behind, changing_after, payloads_after}
use Rattle.ucon_store.specs.Filling.{AreTakenUp, Filled, HasSure, IsSized}
use Rattle.ucon_store.specs.declared.placed.Placed.{Placed}
use Rattle.ucon_store.specs.Found.{IsFoundMarked}
use Rattle.ucon_store.specs.Kept.{IsKept, Kept, payload_in}
use Rattle.ucon_store.specs.Points.{text_in_force}
use Rattle.ucon_store.specs.Starts.{IsStart}
use Rattle.ucon_store.specs.Steps.{AddsTogether}
use Rattle.ucon_store.specs.Whole.{IsFounded}
use Rattle.ucon_store.proofs.Filling.{take_answers, take_take}
use Rattle.ucon_store.proofs.Adding.{Adds}
use Rattle.ucon_store.proofs.Placing.{changing_behind}
use Rattle.ucon_store.proofs.Recorded.{IsAppended, LeavesWith}
use Rattle.ucon_store.proofs.Stepped.{IsReady, parts, ready_with}
use Rattle.ucon_store.proofs.Stepping.{kept_as, kept_more, stands_as}

-- each record has five bytes at least
pub records_many : (ps : List Bytes) → 5 * length ps ≤ length (records ps)
records_many [] = omega arith
records_many (p ∷ ps) = omega (arith, length-append p (records ps), records_many ps)

-- what adds nothing is empty
pub nothing_more : (H es : History) → H ++ es ≡ H → es ≡ []
nothing_more H [] same = refl
nothing_more H (e ∷ es) same = absurd (omega (arith, ap length same, length-append H (e ∷ es)))

-- a batch of no lines
abbrev pub empty : ℕ → Bytes → Filled
empty before text = record { before = before; placed = []; entries = []; payloads = []; text = text }

pub is_empty : (a : Filled) {before : ℕ} {text : Bytes} → a.before ≡ before → a.placed ≡ [] → a.entries ≡ [] → a.payloads ≡ [] → a.text ≡ text
    → a ≡ empty before text
is_empty a before placed entries payloads text =
    λ i. record { before = before i; placed = placed i; entries = entries i; payloads = payloads i; text = text i }

-- lines were taken up into an empty batch, as many as have an answer, behind what one engine followed, and another follows now
pub record Fills {E : Type 0} (follows : E → PlainPolicy → Trace → Type 0) (engine last : E) (lines : List Entry) (begun new : Filled)
    (sure size : ℕ) : Type 0 where
  pub taken : (P : PlainPolicy) (T : Trace) → follows engine P T → AreTakenUp follows P T (take (length new.placed) lines) begun new last
  pub surely : (P : PlainPolicy) (T : Trace) → follows engine P T → HasSure P T lines sure (length new.placed)
  pub sized : IsSized size new.entries new.payloads

module _ {E D : Type 0} {follows : E → PlainPolicy → Trace → Type 0} {seen : D → DiskSeen} {engine last : E}
    {j : Journal D} {text : Bytes} {point : Option Beginning} {before opening : ℕ} {now : Bytes} {H : History} {mark : Option History}
    (kept : IsKept follows seen engine j text point before now H mark)
    {x : Kept D} (is : parts text point before opening H mark (disk_of j) ≡ x) (none : mark ≡ None)
    {lines : List Entry} {new : Filled} {sure size : ℕ} (fills : Fills follows engine last lines (empty (before + length H) now) new sure size) where
  -- the entries of a batch are ready for the disk
  pub ready_batch : {k : Journal D} → (IsClosed seen j → IsClosed seen k) → disk_of k ≡ disk_of j → IsReady seen x k new.entries new.payloads
  ready_batch closed same =
      ready_with kept is none closed same
      (λ P T standing.
      let t = fills.taken P T standing in t.payloads ∙ ap (payloads_after P T) (sym t.entries))
      (λ P G standing.
      let t = fills.taken P (trace P G) standing in
      subst (λ (z : List Bytes × History). AreTaken (only_steps accepted) text P G z.0 (G ++ z.1)) (λ i. (sym t.payloads i, sym t.entries i))
      (t.takes text G refl))

  -- once their records are there the store is kept
  pub kept_batch : {k : Journal D} {prepared : Journal D} → gate_of prepared ≡ gate_of j → IsAppended seen prepared k new.payloads
      → gate_of k < 2 ^ 63 → {later : Bytes} → later ≡ new.text → {items : History} → items ≡ H ++ new.entries
      → IsKept follows seen last k text point before later items mark
  kept_batch {k} same appended small {later} text_is grown =
      let behind : (T : Trace) → IsStart kept.P (payload_in point) before T
      → AreTakenUp follows kept.P (trace_from kept.P T H) (take (length new.placed) lines) (empty (before + length H) now) new last =
      λ T start. fills.taken kept.P (trace_from kept.P T H) (kept.stands none T start) in
      let now_is = (behind kept.begun kept.starts).text in
      kept_more kept new.entries none same appended (omega (arith, fills.sized.each)) small
      (λ T start.
      subst (λ (l : History). follows last kept.P (trace_from kept.P (trace_from kept.P T H) l)) (sym (behind T start).entries) (behind T start).stands)
      (λ T start.
      subst (λ (l : History). NobodyFails kept.P (trace_from kept.P (trace_from kept.P T H) l)) (sym (behind T start).entries)
      ((behind T start).settled (kept.settled none T start)))
      (text_is ∙ (now_is ∙ ap (text_in_force now) (sym (behind kept.begun kept.starts).entries))) grown

  -- and so it is where there are none
  pub kept_idle : new.entries ≡ [] → {k : Journal D} → gate_of k ≡ gate_of j → (IsClosed seen j → IsClosed seen k) → disk_of k ≡ disk_of j
      → {later : Bytes} → later ≡ new.text → IsKept follows seen last k text point before later H mark
  kept_idle nothing {k} gate closed disk {later} text_is =
      let behind : (T : Trace) → IsStart kept.P (payload_in point) before T
      → AreTakenUp follows kept.P (trace_from kept.P T H) (take (length new.placed) lines) (empty (before + length H) now) new last =
      λ T start. fills.taken kept.P (trace_from kept.P T H) (kept.stands none T start) in
      let now_is = (behind kept.begun kept.starts).text in
      let no : (T : Trace) (start : IsStart kept.P (payload_in point) before T)
      → changing_after kept.P (trace_from kept.P T H) (take (length new.placed) lines) ≡ [] =
      λ T start. sym (behind T start).entries ∙ nothing in
      kept_as kept
      (λ _ T start. subst (λ (l : History). follows last kept.P (trace_from kept.P (trace_from kept.P T H) l)) (no T start) (behind T start).stands)
      (λ none T start. kept.settled none T start)
      (λ none. text_is ∙ (now_is ∙ (ap (text_in_force now) (no kept.begun kept.starts) ∙ kept.in_force none))) kept.few
      (λ none.
      let rest = kept.rests none in
      record {
        closed = closed rest.closed;
        few = omega (arith, rest.few, gate);
        only = subst (λ (d : D). Only (seen d).contents (seen d).images) (sym disk) rest.only;
      })

  module _ (P : PlainPolicy) (T : Trace) (accepts : accepted x.policy ≡ Some P) (start : IsStart P x.point x.before T) where
    behind_batch : AreTakenUp follows P (trace_from P T x.entries) (take (length new.placed) lines) (empty (x.before + length x.entries) now) new last
    behind_batch =
        (subst (λ (s : Kept D). accepted s.policy ≡ Some P → IsStart P s.point s.before T
        → AreTakenUp follows P (trace_from P T s.entries) (take (length new.placed) lines) (empty (s.before + length s.entries) now) new last) is
        (λ accepts start. fills.taken P (trace_from P T H) (stands_as kept none P accepts T start))) accepts start

    surely_batch : HasSure P (trace_from P T x.entries) lines sure (length new.placed)
    surely_batch =
        (subst (λ (s : Kept D). accepted s.policy ≡ Some P → IsStart P s.point s.before T
        → HasSure P (trace_from P T s.entries) lines sure (length new.placed)) is
        (λ accepts start. fills.surely P (trace_from P T H) (stands_as kept none P accepts T start))) accepts start

    -- the entries of the lines that were taken up
    pub entries_batch : new.entries ≡ changing_after P (trace_from P T x.entries) (take (length new.placed) lines)
    entries_batch = behind_batch.entries

    few_batch : (b : Batched) → b.taken ≡ length new.placed
        → (sum_by (λ p. 5 + length p) (batch_behind P T x lines b) ≤ 1048576) ⊎ (length (batch_behind P T x lines b) ≤ 1)
    few_batch b taken =
        let here : new.payloads ≡ batch_behind P T x lines b =
        behind_batch.payloads
        ∙ ap (λ (n : ℕ). payloads_after P (trace_from P T x.entries) (changing_after P (trace_from P T x.entries) (take n lines))) (sym taken) in
        subst (λ (ps : List Bytes). (sum_by (λ p. 5 + length p) ps ≤ 1048576) ⊎ (length ps ≤ 1)) here
        (⊎_elim (λ (little : size ≤ 1048576). inl (subst (λ n. n ≤ 1048576) fills.sized.is little)) (λ one. inr one) fills.sized.within)

    -- what was answered, where no disk fault was met
    pub batched_kept : {y : Kept D} (b : Batched) → b.placed.items ≡ new.placed → b.taken ≡ length new.placed → b.end ≢ DiskFault
        → y.entries ≡ x.entries ++ new.entries → IsBatchedBehind P T x y lines b
    batched_kept {y} b placed taken ok grown = record {
      replies = subst (λ l. answers l ≡ answers_after P (trace_from P T x.entries) (x.before + length x.entries) (take (length l) lines)) (sym placed)
          (subst (λ n. answers new.placed ≡ answers_after P (trace_from P T x.entries) n (take (length new.placed) lines))
          (add-zero (x.before + length x.entries)) behind_batch.placed);
      entries = λ _. grown ∙ ap (λ (l : History). x.entries ++ l) (entries_batch
          ∙ ap (λ (n : ℕ). changing_after P (trace_from P T x.entries) (take n lines)) (sym taken));
      mark = λ failed. absurd (ok failed);
      sure = λ failed. absurd (ok failed);
      first = λ failed. absurd (ok failed);
      few = few_batch b taken;
    }

    -- and where one was
    pub batched_failed : {y : Kept D} (b : Batched) → b.placed.items ≡ take sure new.placed → b.taken ≡ length new.placed → b.end ≡ DiskFault
        → new.entries ≢ [] → y.mark ≡ Some new.entries → IsBatchedBehind P T x y lines b
    batched_failed {y} b placed taken failed some marked =
        let S = trace_from P T x.entries in
        let n = x.before + length x.entries in
        let h = surely_batch in
        let something : changing_after P S (take (length new.placed) lines) ≢ [] = λ nothing. some (entries_batch ∙ nothing) in
        let within : sure < length new.placed = h.within something in
        let count : length b.placed.items ≡ sure = ap length placed ∙ length-take-le sure new.placed (omega (arith, within)) in
        let first : take sure (take (length new.placed) lines) ≡ take sure lines = take_take sure (length new.placed) lines (omega (arith, within)) in
        let replies : answers b.placed.items ≡ answers_after P S n (take sure lines) =
        ap answers placed
        ∙ (sym (take-map answer_of sure new.placed)
        ∙ (ap (take sure) behind_batch.placed
        ∙ (take_answers P S (n + 0) sure (take (length new.placed) lines)
        ∙ (λ i. answers_after P S (add-zero n i) (first i))))) in
        record {
          replies = replies ∙ ap (λ (m : ℕ). answers_after P S n (take m lines)) (sym count);
          entries = λ ok. absurd (ok failed);
          mark = λ _. marked ∙ ap (λ (l : History). Some l) (entries_batch ∙ ap (λ (m : ℕ). changing_after P S (take m lines)) (sym taken));
          sure = λ _. ap (λ (m : ℕ). changing_after P S (take m lines)) count ∙ h.before;
          first = λ _. subst (λ (m : ℕ). changing_after P S (take (m + 1) lines) ≢ []) (sym count) (h.first something);
          few = few_batch b taken;
        }

  -- ---- what is left in the file

  module _ {n : ℕ} (taken : n ≡ length new.placed) where
    -- the entries of so many lines
    entries_of : (P : PlainPolicy) (T : Trace) → accepted x.policy ≡ Some P → IsStart P x.point x.before T
        → new.entries ≡ changing_after P (trace_from P T x.entries) (take n lines)
    entries_of P T accepts start =
        entries_batch P T accepts start ∙ ap (λ (m : ℕ). changing_after P (trace_from P T x.entries) (take m lines)) (sym taken)

    -- behind a history the images have all entries of the lines that were taken up, or none
    pub leaves_whole : {disk : D} → LeavesWith seen x new.entries disk → (P : PlainPolicy) (G : History) → IsFounded seen P x G
        → IsSome (seen x.disk).contents → LeavesOnly (seen x.disk) (seen disk)
        (IsFoundMarked x.policy (G ++ x.entries) (Some (changing P (G ++ x.entries) (take n lines))))
    leaves_whole {disk} run P G f told =
        subst (λ (es : History). LeavesOnly (seen x.disk) (seen disk) (IsFoundMarked x.policy (G ++ x.entries) (Some es)))
        (entries_of P (trace P G) f.accepts f.front.starts ∙ changing_behind P G x (take n lines)) (run P G f told)

    -- whatever is found in them, they have all payloads more, or none
    pub adds_whole : {disk : D} → Adds seen x (λ P T. payloads_after P (trace_from P T x.entries) new.entries) disk
        → Adds seen x (λ P T. payloads_after P (trace_from P T x.entries) (changing_after P (trace_from P T x.entries) (take n lines))) disk
    adds_whole {disk} run P T file accepts start unmarked is =
        subst (λ (es : History). LeavesOnly (seen x.disk) (seen disk) (AddsTogether (payloads_after P (trace_from P T x.entries) es) file))
        (entries_of P T accepts start) (run P T file accepts start unmarked is)

    pub added_whole : {later : List Bytes} (P : PlainPolicy) (T : Trace) (file : Bytes) → accepted x.policy ≡ Some P → IsStart P x.point x.before T
        → later ≡ counted file ++ payloads_after P (trace_from P T x.entries) new.entries
        → later ≡ counted file ++ payloads_after P (trace_from P T x.entries) (changing_after P (trace_from P T x.entries) (take n lines))
    added_whole P T file accepts start is =
        is ∙ ap (λ (es : History). counted file ++ payloads_after P (trace_from P T x.entries) es) (entries_of P T accepts start)

    -- if nothing changed, nothing is added
    pub added_nothing : new.entries ≡ [] → {disk : D} → disk ≡ x.disk → (P : PlainPolicy) (T : Trace) (file : Bytes)
        → accepted x.policy ≡ Some P → IsStart P x.point x.before T → (seen x.disk).contents ≡ Some file
        → told_payloads (seen disk).contents
        ≡ counted file ++ payloads_after P (trace_from P T x.entries) (changing_after P (trace_from P T x.entries) (take n lines))
    added_nothing nothing {disk} same P T file accepts start is =
        let whole : told_payloads (seen disk).contents ≡ counted file = ap (λ (d : D). told_payloads (seen d).contents) same ∙ ap told_payloads is in
        added_whole P T file accepts start
        (whole ∙ (sym (append-nil (counted file))
        ∙ ap (λ (es : History). counted file ++ payloads_after P (trace_from P T x.entries) es) (sym nothing)))

-- a stopped store answers nothing
pub batched_none : {D : Type 0} (P : PlainPolicy) (T : Trace) (x : Kept D) (lines : List Entry) (b : Batched) → b.placed.items ≡ [] → b.taken ≡ 0
    → b.end ≢ DiskFault → IsBatchedBehind P T x x lines b
batched_none P T x lines b placed taken ok =
    let S : Trace = trace_from P T x.entries in
    record {
      replies = subst (λ (l : List Placed). answers l ≡ answers_after P S (x.before + length x.entries) (take (length l) lines)) (sym placed) refl;
      entries = λ _. subst (λ (k : ℕ). x.entries ≡ x.entries ++ changing_after P S (take k lines)) (sym taken) (sym (append-nil x.entries));
      mark = λ failed. absurd (ok failed);
      sure = λ failed. absurd (ok failed);
      first = λ failed. absurd (ok failed);
      few = subst (λ (k : ℕ). (sum_by (λ p. 5 + length p) (payloads_after P S (changing_after P S (take k lines))) ≤ 1048576)
          ⊎ (length (payloads_after P S (changing_after P S (take k lines))) ≤ 1)) (sym taken) (inl (omega arith));
    }
