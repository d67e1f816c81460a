-- What steps answer behind a history, by what they answer behind each trace.
use Rattle.std.proofs.Common.{◌≡◌, ◌+◌, Bool, true, false, List, [], ◌∷◌, ◌++◌, append_assoc, length, length-append, Some, refl, sym, ap, ◌∙◌, ℕ, take, arith}
use Rattle.std.specs.Prelude.{if◌then◌else◌}
use Rattle.ucon_model.specs.declared.command.Entry.{Entry}
use Rattle.ucon_model.specs.Action.{Trace}
use Rattle.ucon_model.specs.Batches.{changing}
use Rattle.ucon_model.specs.Block.{after, reply as reply_to}
use Rattle.ucon_model.specs.History.{History, said, changes, serial, trace, trace_from}
use Rattle.ucon_model.specs.Plain.{PlainPolicy, PlainReply}
use Rattle.ucon_syntax.specs.Policies.{accepted}
use Rattle.ucon_store.specs.declared.batch.Batched.{Batched}
use Rattle.ucon_store.specs.declared.placed.Placed.{Placed}
use Rattle.ucon_store.specs.Batched.{IsBatched, IsBatchedBehind, answers_after, changing_after}
use Rattle.ucon_store.specs.Kept.{Kept}
use Rattle.ucon_store.specs.Starts.{IsStart}
use Rattle.ucon_store.specs.Steps.{IsPlaced, IsPlacedBehind, HasFailed, HasFailedBehind}
use Rattle.ucon_store.specs.Whole.{IsFront, whole}
use Rattle.ucon_store.proofs.Stepping.{said_behind, trace_append, trace_longer}
use Rattle.ucon_disk.specs.Seen.{DiskSeen}

grown_by : (b : Bool) (G H : History) (e : Entry) → G ++ (if b then H ++ e ∷ [] else H) ≡ (if b then (G ++ H) ++ e ∷ [] else G ++ H)
grown_by true G H e = sym (append_assoc G H (e ∷ []))
grown_by false G H e = refl

module _ {D : Type 0} (P : PlainPolicy) (G : History) (old new : Kept D) (e : Entry) where
  says : said P (G ++ old.entries) e.caller e.command ≡ reply_to P (trace_from P (trace P G) old.entries) e.caller e.command
  says = said_behind P G old.entries e.caller e.command

  whole_placed : (p : Placed) → length G ≡ old.before → new.before ≡ old.before → IsPlacedBehind P (trace P G) old new e p
      → IsPlaced P (whole G old) (whole G new) e p
  whole_placed p count same h = record {
    reply = h.reply ∙ sym says;
    entries = ap (λ (l : History). G ++ l) h.entries
        ∙ (grown_by (changes (reply_to P (trace_from P (trace P G) old.entries) e.caller e.command)) G old.entries e
        ∙ ap (λ (b : Bool). if b then (G ++ old.entries) ++ e ∷ [] else G ++ old.entries) (ap changes (sym says)));
    place = h.place ∙ (ap (λ (n : ℕ). n + length new.entries) (same ∙ sym count) ∙ sym (length-append G new.entries));
    unmarked = h.unmarked;
  }

module _ {D : Type 0} {old new : Kept D} {e : Entry} where
  -- what is answered behind each trace that leads to a store's beginning is answered behind each history that does
  pub placed_whole : {p : Placed} → new.before ≡ old.before
      → ((P : PlainPolicy) (T : Trace) → accepted old.policy ≡ Some P → IsStart P old.point old.before T → IsPlacedBehind P T old new e p)
      → (P : PlainPolicy) (G : History) → accepted old.policy ≡ Some P → IsFront P old G → IsPlaced P (whole G old) (whole G new) e p
  placed_whole {p} same behind P G accepts front = whole_placed P G old new e p front.count same (behind P (trace P G) accepts front.starts)

  pub failed_whole : {seen : D → DiskSeen}
      → ((P : PlainPolicy) (T : Trace) → accepted old.policy ≡ Some P → IsStart P old.point old.before T → HasFailedBehind seen P T old new e)
      → (P : PlainPolicy) (G : History) → accepted old.policy ≡ Some P → IsFront P old G → HasFailed seen P (whole G old) (whole G new) e
  failed_whole behind P G accepts front =
      let h = behind P (trace P G) accepts front.starts in
      let same = says P G old new e in
      record { would_change = ap changes same ∙ h.would_change; rose = h.rose; mark = h.mark; entries = ap (λ (l : History). G ++ l) h.entries }

-- ---- lines together

answers_serial : (P : PlainPolicy) (W : History) (lines : List Entry) → answers_after P (trace P W) (length W) lines ≡ serial P W lines
answers_serial P W [] = refl
answers_serial P W (e ∷ lines) =
    let r = said P W e.caller e.command in
    let longer : History = W ++ e ∷ [] in
    let count : length W + 1 ≡ length longer = omega (arith, length-append W (e ∷ [])) in
    let traces : after P (trace P W) e.caller e.command ≡ trace P longer = sym (trace_longer P [] W e) in
    elim (changes r) as (λ b.
    (if b then (length W + 1, r) ∷ answers_after P (after P (trace P W) e.caller e.command) (length W + 1) lines
    else (length W, r) ∷ answers_after P (trace P W) (length W) lines)
    ≡ (length (if b then longer else W), r) ∷ serial P (if b then longer else W) lines) [
      | true ↦ (λ i. (count i, r) ∷ answers_after P (traces i) (count i) lines)
          ∙ ap (λ (l : List (ℕ × PlainReply)). (length longer, r) ∷ l) (answers_serial P longer lines)
      | false ↦ ap (λ (l : List (ℕ × PlainReply)). (length W, r) ∷ l) (answers_serial P W lines)
    ]

changing_whole : (P : PlainPolicy) (W : History) (lines : List Entry) → changing_after P (trace P W) lines ≡ changing P W lines
changing_whole P W [] = refl
changing_whole P W (e ∷ lines) =
    let r = said P W e.caller e.command in
    let longer : History = W ++ e ∷ [] in
    let traces : after P (trace P W) e.caller e.command ≡ trace P longer = sym (trace_longer P [] W e) in
    elim (changes r) as (λ b.
    (if b then e ∷ changing_after P (after P (trace P W) e.caller e.command) lines else changing_after P (trace P W) lines)
    ≡ (if b then e ∷ changing P longer lines else changing P W lines)) [
      | true ↦ ap (λ (T : Trace). e ∷ changing_after P T lines) traces ∙ ap (λ (l : History). e ∷ l) (changing_whole P longer lines)
      | false ↦ changing_whole P W lines
    ]

module _ {D : Type 0} (P : PlainPolicy) (G : History) (old : Kept D) where
  traces_whole : trace_from P (trace P G) old.entries ≡ trace P (G ++ old.entries)
  traces_whole = sym (trace_append P [] G old.entries)

  -- the lines that change something behind a history's trace do behind the history
  pub changing_behind : (lines : List Entry) → changing_after P (trace_from P (trace P G) old.entries) lines ≡ changing P (G ++ old.entries) lines
  changing_behind lines = ap (λ (T : Trace). changing_after P T lines) traces_whole ∙ changing_whole P (G ++ old.entries) lines

  pub batched_whole : {new : Kept D} {lines : List Entry} {b : Batched} → length G ≡ old.before → IsBatchedBehind P (trace P G) old new lines b
      → IsBatched P (whole G old) (whole G new) lines b
  batched_whole {new} {lines} {b} count h =
      let all : old.before + length old.entries ≡ length (G ++ old.entries) = omega (arith, count, length-append G old.entries) in
      let first = take (length b.placed.items) lines in
      let n = length b.placed.items in
      record {
        replies = h.replies ∙ ((λ i. answers_after P (traces_whole i) (all i) first) ∙ answers_serial P (G ++ old.entries) first);
        entries = λ ok. ap (λ (l : History). G ++ l) (h.entries ok)
            ∙ (sym (append_assoc G old.entries (changing_after P (trace_from P (trace P G) old.entries) (take b.taken lines)))
            ∙ ap (λ (l : History). (G ++ old.entries) ++ l) (changing_behind (take b.taken lines)));
        mark = λ failed. h.mark failed ∙ ap (λ (l : History). Some l) (changing_behind (take b.taken lines));
        sure = λ failed. sym (changing_behind first) ∙ h.sure failed;
        first = λ failed none. h.first failed (changing_behind (take (n + 1) lines) ∙ none);
      }
