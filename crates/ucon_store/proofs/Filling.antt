-- How a batch grows, line by line.
use Rattle.std.proofs.Common.{◌≡◌, ◌≢◌, ◌⊎◌, inl, inr, ⊎_elim, ℕ, zero, suc, ◌+◌, ◌*◌, ◌≤◌, ◌<◌, Bool, true, false, List, [], ◌∷◌, ◌++◌, append_assoc, length, length-append, add-zero, refl, sym, ap, ◌∙◌, subst, Some, take, arith}
use Rattle.std.proofs.lemmas.List.{append-nil, map-append}
use Rattle.std.proofs.lemmas.List.Sums.{sum_by-append}
use Rattle.std.proofs.Math.Seq.{take-suc}
use Rattle.std.specs.Prelude.{if◌then◌else◌}
use Rattle.std.specs.List.{sum_by}
use Rattle.ucon_model.specs.declared.command.Entry.{Entry}
use Rattle.ucon_model.specs.declared.reply.Reply.{Reply}
use Rattle.ucon_model.specs.Action.{Trace}
use Rattle.ucon_model.specs.Batches.{AreTaken}
use Rattle.ucon_model.specs.Block.{after, reply as reply_to}
use Rattle.ucon_model.specs.Found.{Takes, only_steps}
use Rattle.ucon_model.specs.History.{History, changes, trace, trace_from}
use Rattle.ucon_model.specs.Payload.{told, payload_spelling}
use Rattle.ucon_model.specs.Plain.{Bytes, PlainPolicy, PlainReply}
use Rattle.ucon_model.specs.Views.{reply_of}
use Rattle.ucon_model.specs.Work.{NobodyFails}
use Rattle.ucon_syntax.specs.Policies.{accepted}
use Rattle.ucon_store.specs.declared.placed.Placed.{Placed}
use Rattle.ucon_store.specs.Batched.{answer_of, answers, answers_after, changing_after, payloads_after}
use Rattle.ucon_store.specs.Filling.{AreTakenUp, Filled, HasSure, IsSized}
use Rattle.ucon_store.specs.Points.{text_in_force}
use Rattle.ucon_store.proofs.Stepping.{text_append, trace_append}

-- ---- lines in two parts

pub changing_append : (P : PlainPolicy) (T : Trace) (xs ys : List Entry)
    → changing_after P T (xs ++ ys) ≡ changing_after P T xs ++ changing_after P (trace_from P T (changing_after P T xs)) ys
changing_append P T [] ys = refl
changing_append P T (e ∷ xs) ys =
    let next = after P T e.caller e.command in
    elim (changes (reply_to P T e.caller e.command)) as (λ b.
    (if b then e ∷ changing_after P next (xs ++ ys) else changing_after P T (xs ++ ys))
    ≡ (if b then e ∷ changing_after P next xs else changing_after P T xs)
    ++ changing_after P (trace_from P T (if b then e ∷ changing_after P next xs else changing_after P T xs)) ys) [
      | true ↦ ap (λ (l : History). e ∷ l) (changing_append P next xs ys)
      | false ↦ changing_append P T xs ys
    ]

pub answers_append : (P : PlainPolicy) (T : Trace) (n : ℕ) (xs ys : List Entry)
    → answers_after P T n (xs ++ ys)
    ≡ answers_after P T n xs ++ answers_after P (trace_from P T (changing_after P T xs)) (n + length (changing_after P T xs)) ys
answers_append P T n [] ys = ap (λ (m : ℕ). answers_after P T m ys) (sym (add-zero n))
answers_append P T n (e ∷ xs) ys =
    let next = after P T e.caller e.command in
    let r = reply_to P T e.caller e.command in
    let count : n + 1 + length (changing_after P next xs) ≡ n + length (e ∷ changing_after P next xs) = omega arith in
    elim (changes r) as (λ b.
    (if b then (n + 1, r) ∷ answers_after P next (n + 1) (xs ++ ys) else (n, r) ∷ answers_after P T n (xs ++ ys))
    ≡ (if b then (n + 1, r) ∷ answers_after P next (n + 1) xs else (n, r) ∷ answers_after P T n xs)
    ++ answers_after P (trace_from P T (if b then e ∷ changing_after P next xs else changing_after P T xs))
    (n + length (if b then e ∷ changing_after P next xs else changing_after P T xs)) ys) [
      | true ↦ ap (λ (l : List (ℕ × PlainReply)). (n + 1, r) ∷ l)
          (answers_append P next (n + 1) xs ys
          ∙ ap (λ (m : ℕ). answers_after P next (n + 1) xs ++ answers_after P (trace_from P next (changing_after P next xs)) m ys) count)
      | false ↦ ap (λ (l : List (ℕ × PlainReply)). (n, r) ∷ l) (answers_append P T n xs ys)
    ]

pub payloads_append : (P : PlainPolicy) (T : Trace) (xs ys : History)
    → payloads_after P T (xs ++ ys) ≡ payloads_after P T xs ++ payloads_after P (trace_from P T xs) ys
payloads_append P T [] ys = refl
payloads_append P T (e ∷ xs) ys =
    ap (λ (l : List Bytes). payload_spelling (told e (reply_to P T e.caller e.command)) ∷ l) (payloads_append P (after P T e.caller e.command) xs ys)

pub payloads_many : (P : PlainPolicy) (T : Trace) (es : History) → length (payloads_after P T es) ≡ length es
payloads_many P T [] = refl
payloads_many P T (e ∷ es) = omega (arith, payloads_many P (after P T e.caller e.command) es)

taken_append : (takes : Takes) (text : Bytes) (P : PlainPolicy) (H mid later : History) (ps qs : List Bytes)
    → AreTaken takes text P H ps mid → AreTaken takes text P mid qs later → AreTaken takes text P H (ps ++ qs) later
taken_append takes text P H mid later [] qs first second = subst (λ (G : History). AreTaken takes text P G qs later) (sym first) second
taken_append takes text P H mid later (p ∷ ps) qs first second = (first.0, first.1, taken_append takes text P first.0 mid later ps qs first.2 second)

pub take_take : {X : Type 0} (i n : ℕ) (l : List X) → i ≤ n → take i (take n l) ≡ take i l
take_take zero n l le = refl
take_take (suc i) zero l le = absurd (omega (arith, le))
take_take (suc i) (suc n) [] le = refl
take_take (suc i) (suc n) (x ∷ l) le = ap (λ m. x ∷ m) (take_take i n l (omega (arith, le)))

-- the first of some answers are those to the first lines
pub take_answers : (P : PlainPolicy) (T : Trace) (n i : ℕ) (lines : List Entry) → take i (answers_after P T n lines) ≡ answers_after P T n (take i lines)
take_answers P T n zero lines = refl
take_answers P T n (suc i) [] = refl
take_answers P T n (suc i) (e ∷ lines) =
    let next = after P T e.caller e.command in
    let r = reply_to P T e.caller e.command in
    elim (changes r) as (λ b.
    take (suc i) (if b then (n + 1, r) ∷ answers_after P next (n + 1) lines else (n, r) ∷ answers_after P T n lines)
    ≡ (if b then (n + 1, r) ∷ answers_after P next (n + 1) (take i lines) else (n, r) ∷ answers_after P T n (take i lines))) [
      | true ↦ ap (λ (l : List (ℕ × PlainReply)). (n + 1, r) ∷ l) (take_answers P next (n + 1) i lines)
      | false ↦ ap (λ (l : List (ℕ × PlainReply)). (n, r) ∷ l) (take_answers P T n i lines)
    ]

-- ---- what is taken up

module _ {E : Type 0} {follows : E → PlainPolicy → Trace → Type 0} {P : PlainPolicy} {T : Trace} where
  -- no lines
  pub none_taken : {engine : E} → follows engine P T → (a : Filled) → AreTakenUp follows P T [] a a engine
  none_taken stands a = record {
    before = refl;
    placed = sym (append-nil (answers a.placed));
    entries = sym (append-nil a.entries);
    payloads = sym (append-nil a.payloads);
    text = refl;
    stands = stands;
    settled = λ nobody. nobody;
    takes = λ text H is. sym (append-nil H);
  }

  -- lines, and lines behind them
  pub more_taken : {xs ys : List Entry} {a b c : Filled} {middle last : E} → AreTakenUp follows P T xs a b middle
      → AreTakenUp follows P (trace_from P T (changing_after P T xs)) ys b c last → AreTakenUp follows P T (xs ++ ys) a c last
  more_taken {xs} {ys} {a} {b} {c} {middle} {last} p q =
      let A : History = changing_after P T xs in
      let U : Trace = trace_from P T A in
      let B : History = changing_after P U ys in
      let n : ℕ = a.before + length a.entries in
      let all : changing_after P T (xs ++ ys) ≡ A ++ B = changing_append P T xs ys in
      let count : b.before + length b.entries ≡ n + length A = omega (arith, p.before, ap length p.entries, length-append a.entries A) in
      let traces : trace_from P T (changing_after P T (xs ++ ys)) ≡ trace_from P U B =
      ap (trace_from P T) all ∙ trace_append P T A B in
      record {
        before = q.before ∙ p.before;
        placed = q.placed
            ∙ (ap (λ (m : ℕ). answers b.placed ++ answers_after P U m ys) count
            ∙ (ap (λ (l : List (ℕ × PlainReply)). l ++ answers_after P U (n + length A) ys) p.placed
            ∙ (append_assoc (answers a.placed) (answers_after P T n xs) (answers_after P U (n + length A) ys)
            ∙ ap (λ (l : List (ℕ × PlainReply)). answers a.placed ++ l) (sym (answers_append P T n xs ys)))));
        entries = q.entries
            ∙ (ap (λ (l : History). l ++ B) p.entries
            ∙ (append_assoc a.entries A B ∙ ap (λ (l : History). a.entries ++ l) (sym all)));
        payloads = q.payloads
            ∙ (ap (λ (l : List Bytes). l ++ payloads_after P U B) p.payloads
            ∙ (append_assoc a.payloads (payloads_after P T A) (payloads_after P U B)
            ∙ ap (λ (l : List Bytes). a.payloads ++ l) (sym (payloads_append P T A B) ∙ ap (payloads_after P T) (sym all))));
        text = q.text
            ∙ (ap (λ (t : Bytes). text_in_force t B) p.text
            ∙ (sym (text_append a.text A B) ∙ ap (text_in_force a.text) (sym all)));
        stands = subst (follows last P) (sym traces) q.stands;
        settled = λ nobody. subst (NobodyFails P) (sym traces) (q.settled (p.settled nobody));
        takes = λ text H is.
            let here : U ≡ trace P (H ++ A) = ap (λ (S : Trace). trace_from P S A) is ∙ sym (trace_append P [] H A) in
            subst (λ (z : List Bytes × History). AreTaken (only_steps accepted) text P H z.0 z.1)
            (λ i. (
              (sym (payloads_append P T A B) ∙ ap (payloads_after P T) (sym all)) i,
              (append_assoc H A B ∙ ap (λ (l : History). H ++ l) (sym all)) i,
            ))
            (taken_append (only_steps accepted) text P H (H ++ A) ((H ++ A) ++ B) (payloads_after P T A) (payloads_after P U B)
            (p.takes text H is) (q.takes text (H ++ A) here));
      }

  -- one line, with the entries that it adds
  pub one_taken : {e : Entry} (es : History) → changing_after P T (e ∷ []) ≡ es → {a b : Filled} {engine : E} → b.before ≡ a.before
      → answers b.placed ≡ answers a.placed ++ answers_after P T (a.before + length a.entries) (e ∷ []) → b.entries ≡ a.entries ++ es
      → b.payloads ≡ a.payloads ++ payloads_after P T es → b.text ≡ text_in_force a.text es → follows engine P (trace_from P T es)
      → (NobodyFails P T → NobodyFails P (trace_from P T es))
      → ((text : Bytes) (H : History) → T ≡ trace P H → AreTaken (only_steps accepted) text P H (payloads_after P T es) (H ++ es))
      → AreTakenUp follows P T (e ∷ []) a b engine
  one_taken {e} es is {a} {b} {engine} before placed entries payloads text stands settled takes = record {
    before = before;
    placed = placed;
    entries = entries ∙ ap (λ (l : History). a.entries ++ l) (sym is);
    payloads = payloads ∙ ap (λ (l : History). a.payloads ++ payloads_after P T l) (sym is);
    text = text ∙ ap (text_in_force a.text) (sym is);
    stands = subst (λ (l : History). follows engine P (trace_from P T l)) (sym is) stands;
    settled = λ nobody. subst (λ (l : History). NobodyFails P (trace_from P T l)) (sym is) (settled nobody);
    takes = λ text H same. subst (λ (l : History). AreTaken (only_steps accepted) text P H (payloads_after P T l) (H ++ l)) (sym is) (takes text H same);
  }

-- ---- one line

module _ (P : PlainPolicy) (T : Trace) (e : Entry) (n : ℕ) where
  pub asks_nothing : changes (reply_to P T e.caller e.command) ≡ false → changing_after P T (e ∷ []) ≡ []
  asks_nothing is = ap (λ (b : Bool). if b then e ∷ [] else []) is

  pub answered_there : changes (reply_to P T e.caller e.command) ≡ false → answers_after P T n (e ∷ []) ≡ (n, reply_to P T e.caller e.command) ∷ []
  answered_there is =
      ap (λ (b : Bool). if b then (n + 1, reply_to P T e.caller e.command) ∷ [] else (n, reply_to P T e.caller e.command) ∷ []) is

  pub changes_one : changes (reply_to P T e.caller e.command) ≡ true → changing_after P T (e ∷ []) ≡ e ∷ []
  changes_one is = ap (λ (b : Bool). if b then e ∷ [] else []) is

  pub answered_behind : changes (reply_to P T e.caller e.command) ≡ true
      → answers_after P T n (e ∷ []) ≡ (n + 1, reply_to P T e.caller e.command) ∷ []
  answered_behind is =
      ap (λ (b : Bool). if b then (n + 1, reply_to P T e.caller e.command) ∷ [] else (n, reply_to P T e.caller e.command) ∷ []) is

-- ---- the bytes of a batch

pub none_sized : (size : ℕ) (entries : History) (payloads : List Bytes) → size ≡ 0 → entries ≡ [] → payloads ≡ [] → IsSized size entries payloads
none_sized size entries payloads nothing no_entries no_payloads =
    subst (λ (z : ℕ × History × List Bytes). IsSized z.0 z.1 z.2) (λ i. (sym nothing i, sym no_entries i, sym no_payloads i))
    (record { is = refl; each = refl; within = inl (omega arith); few = omega arith; small = omega arith })

-- with one more, if it isn't too much, or there was none
pub more_sized : (size : ℕ) (entries : History) (payloads : List Bytes) (payload : Bytes) (e : Entry) → IsSized size entries payloads
    → length payload ≤ 16777215 → (size + 5 + length payload ≤ 1048576) ⊎ (length entries ≡ 0)
    → IsSized (size + 5 + length payload) (entries ++ e ∷ []) (payloads ++ payload ∷ [])
more_sized size entries payloads payload e h short fits = record {
  is = sum;
  each = omega (arith, h.each, length-append entries (e ∷ []), length-append payloads (payload ∷ []));
  within = ⊎_elim (λ (little : size + 5 + length payload ≤ 1048576). inl little)
      (λ (none : length entries ≡ 0). inr (omega (arith, none, h.each, length-append payloads (payload ∷ [])))) fits;
  few = omega (arith, h.few, length-append entries (e ∷ []));
  small = ⊎_elim (λ (little : size + 5 + length payload ≤ 1048576).
      let small : size + 5 + length payload ≤ 16777220 = omega (arith, little) in small)
      (λ (none : length entries ≡ 0).
      let nothing : size ≡ 0 = h.is ∙ ap (sum_by (λ p. 5 + length p)) (empty payloads (h.each ∙ none)) in
      let small : size + 5 + length payload ≤ 16777220 = omega (arith, nothing, short) in small) fits;
}
  where
    sum : size + 5 + length payload ≡ sum_by (λ p. 5 + length p) (payloads ++ payload ∷ [])
    sum =
        let last : sum_by (λ p. 5 + length p) (payload ∷ []) ≡ 5 + length payload = omega arith in
        omega (arith, h.is, last, sum_by-append (λ (p : Bytes). 5 + length p) payloads (payload ∷ []))

    empty : (ps : List Bytes) → length ps ≡ 0 → ps ≡ []
    empty [] none = refl
    empty (p ∷ ps) none = absurd (omega (arith, none))

-- ---- the lines before the first that changes something

module _ (P : PlainPolicy) (T : Trace) (lines : List Entry) where
  pub none_sure : HasSure P T lines 0 0
  none_sure = record { none = λ _. refl; within = λ some. absurd (some refl); before = refl; first = λ some. absurd (some refl) }

  -- once one more is taken up
  pub more_sure : (sure later n : ℕ) → HasSure P T lines sure n
      → (changing_after P T (take (n + 1) lines) ≡ [] → later ≡ n + 1) → (changing_after P T (take (n + 1) lines) ≢ [] → later ≡ sure)
      → HasSure P T lines later (n + 1)
  more_sure sure later n h none some =
      by_now (changing_after P T (take n lines)) (changing_after P T (take (n + 1) lines)) refl refl
    where
      by_now : (before now : History) → changing_after P T (take n lines) ≡ before → changing_after P T (take (n + 1) lines) ≡ now
          → HasSure P T lines later (n + 1)
      by_now before [] was is =
          let all : later ≡ n + 1 = none is in
          subst (λ (k : ℕ). HasSure P T lines k (n + 1)) (sym all)
          (record { none = λ _. refl; within = λ some. absurd (some is); before = is; first = λ some. absurd (some is) })
      by_now [] (e ∷ now) was is =
          let something : changing_after P T (take (n + 1) lines) ≢ [] = λ nothing. let bad : e ∷ now ≡ [] = sym is ∙ nothing in cc bad in
          let all : later ≡ n = some something ∙ h.none was in
          subst (λ (k : ℕ). HasSure P T lines k (n + 1)) (sym all)
          (record { none = λ nothing. absurd (something nothing); within = λ _. omega arith; before = was; first = λ _. something })
      by_now (d ∷ before) (e ∷ now) was is =
          let something : changing_after P T (take (n + 1) lines) ≢ [] = λ nothing. let bad : e ∷ now ≡ [] = sym is ∙ nothing in cc bad in
          let sooner : changing_after P T (take n lines) ≢ [] = λ nothing. let bad : d ∷ before ≡ [] = sym was ∙ nothing in cc bad in
          let all : later ≡ sure = some something in
          subst (λ (k : ℕ). HasSure P T lines k (n + 1)) (sym all)
          (record {
            none = λ nothing. absurd (something nothing);
            within = λ _. omega (arith, h.within sooner);
            before = h.before;
            first = λ _. h.first sooner;
          })

-- ---- an answer more

-- one to a line that changes something
pub placed_behind : (P : PlainPolicy) (T : Trace) (e : Entry) (n : ℕ) (r : Reply) {old middle new : List Placed} {place : ℕ}
    → new ≡ middle ++ record { place = place; reply = r } ∷ [] → middle ≡ old → place ≡ n + 1 → reply_of r ≡ reply_to P T e.caller e.command
    → changes (reply_to P T e.caller e.command) ≡ true → answers new ≡ answers old ++ answers_after P T n (e ∷ [])
placed_behind P T e n r {old} {middle} {new} {place} is same place_is said_is changing =
    ap answers is
    ∙ (map-append answer_of middle (record { place = place; reply = r } ∷ [])
    ∙ ((λ i. answers (same i) ++ (place_is i, said_is i) ∷ [])
    ∙ ap (λ (l : List (ℕ × PlainReply)). answers old ++ l) (sym (answered_behind P T e n changing))))
