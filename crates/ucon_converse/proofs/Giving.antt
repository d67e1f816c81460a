-- Replies that were given together, behind each history that leads to where a store begins.
use Rattle.std.proofs.Common.{zero, suc, ◌≡◌, ◌⊎◌, inl, inr, ⊎_elim, ℕ, ◌+◌, ◌≤◌, ◌<◌, List, [], ◌∷◌, ◌++◌, length, take, drop, append_assoc, refl, sym, ap, subst, ◌∙◌, arith}
use Rattle.std.proofs.Math.Seq.{drop-append_seam}
use Rattle.std.specs.Prelude.{Some, ⊤}
use Rattle.ucon_base.specs.Elements.{Each, each_both, each_map}
use Rattle.ucon_disk.specs.Seen.{DiskSeen}
use Rattle.ucon_flow.specs.Lines.{IsBare, IsLine}
use Rattle.ucon_model.specs.declared.command.Entry.{Entry}
use Rattle.ucon_model.specs.Action.{Trace}
use Rattle.ucon_model.specs.History.{History}
use Rattle.ucon_model.specs.LegalRun.{Answered}
use Rattle.ucon_model.specs.Output.{answer_line, output}
use Rattle.ucon_model.specs.Plain.{Bytes, PlainPolicy}
use Rattle.ucon_store.specs.declared.batch.BatchEnd.{BatchEnd}
use Rattle.ucon_store.specs.declared.batch.BatchEnd.TheVariants as ends
use Rattle.ucon_store.specs.declared.placed.Placed.{Placed}
use Rattle.ucon_store.specs.Starts.{IsStart}
use Rattle.ucon_store.specs.Whole.{IsFront}
use Rattle.ucon_syntax.specs.Policies.{accepted}
use Rattle.ucon_tell.specs.Told.{AreAnsweredUntold, AreReplied, IsFrontOf, IsReplied, IsWithin, Told, lines_of, replies_of}
use Rattle.ucon_converse.specs.Answering.{Answering}
use Rattle.ucon_converse.specs.Fronts.{StandsInFront}
use Rattle.ucon_converse.specs.Holding.{standing}
use Rattle.ucon_converse.specs.Keeping.{GivesReplies, GivesReply, IsDated, Keeps}
use Rattle.ucon_converse.specs.Reached.{AreGivenAtBy, Reached, StepEachAt, reached_by}
use Rattle.ucon_converse.specs.Replies.{AreGivenBy, Standing}
use Rattle.ucon_converse.specs.Requests.{IsRequestBy}
use Rattle.ucon_converse.specs.Together.{AreInFront, ArePut, IsInFront, StepEach, all_stopped, answered_so, broken_off, replied, unheard_first}
use Rattle.ucon_converse.proofs.InFront.{one_replied}

-- ---- requests in front of what came

-- one more behind them
pub one_more_in_front : (limit : ℕ) (es : List Entry) (e : Entry) (len : ℕ) (came rest : Bytes) → AreInFront limit es came rest → IsInFront limit e len rest
    → AreInFront limit (es ++ e ∷ []) came (drop len rest)
one_more_in_front limit [] e len came rest is one = (len, subst (λ (c : Bytes). IsInFront limit e len c) is one, ap (λ (c : Bytes). drop len c) is)
one_more_in_front limit (x ∷ es) e len came rest is one = (is.0, is.1, one_more_in_front limit es e len (drop is.0 came) rest is.2 one)

-- ---- what is told

-- the answers to the first of these, in their order
abbrev AreOf : List Answered → List Entry → Type 0
AreOf [] es = ⊤
AreOf (t ∷ told) [] = ⊥
AreOf (t ∷ told) (e ∷ es) = (t.line ≡ e) × AreOf told es

replied_of : (es : List Entry) (ps : List Placed) → AreOf (replied es ps) es
replied_of es [] = tt
replied_of [] (p ∷ ps) = tt
replied_of (e ∷ es) (p ∷ ps) = (refl, replied_of es ps)

stopped_of : (n : ℕ) (es : List Entry) → AreOf (all_stopped (take n es)) es
stopped_of zero es = tt
stopped_of (suc n) [] = tt
stopped_of (suc n) (e ∷ es) = (refl, stopped_of n es)

failed_of : (taken : ℕ) (es : List Entry) (ps : List Placed) → length ps ≤ taken → AreOf (replied es ps ++ broken_off (drop (length ps) (take taken es))) es
failed_of zero [] [] le = tt
failed_of (suc taken) [] [] le = tt
failed_of zero [] (p ∷ ps) le = tt
failed_of (suc taken) [] (p ∷ ps) le = tt
failed_of zero (e ∷ es) [] le = tt
failed_of (suc taken) (e ∷ es) [] le = (refl, stopped_of taken es)
failed_of zero (e ∷ es) (p ∷ ps) le = absurd (let no : ⊥ = omega arith in no)
failed_of (suc taken) (e ∷ es) (p ∷ ps) le = (refl, failed_of taken es ps (omega arith))

unheard_of : (es : List Entry) → AreOf (unheard_first es) es
unheard_of [] = tt
unheard_of (e ∷ es) = (refl, tt)

pub answered_of : (end : BatchEnd) (es : List Entry) (ps : List Placed) (taken : ℕ) → length ps ≤ taken → AreOf (answered_so end es ps taken) es
answered_of ends.All es ps taken le = replied_of es ps
answered_of ends.Full es ps taken le = replied_of es ps
answered_of (ends.NoMemory m) es [] taken le = unheard_of es
answered_of (ends.NoMemory m) es (p ∷ ps) taken le = replied_of es (p ∷ ps)
answered_of ends.DiskFault es ps taken le = failed_of taken es ps le
answered_of ends.Stopped es ps taken le = tt

-- the answers to lines in front, each as its line
pub record FrontTold (limit : ℕ) (told : List Answered) (came : Bytes) : Type 1 where
  pub all : List Told
  pub count : length told ≡ length all
  pub fits : Each (λ t. IsBare t.line × (length t.line < limit)) all
  pub lines : Each (λ t. IsLine (answer_line t)) told → Each (λ t. IsLine t.reply) all
  pub rest : Bytes
  pub front : came ≡ lines_of all ++ rest
  pub replies : replies_of all ≡ output told
  pub given : (old : Type 0) (P : PlainPolicy) (text : Bytes) (first last : Standing) → StepEach old P text first told last → AreGivenBy accepted P text old first last all
  pub given_at : (P : PlainPolicy) (first last : Reached) → StepEachAt P first told last → AreGivenAtBy accepted P first last all

pub front_told : (limit : ℕ) (es : List Entry) (told : List Answered) (came rest : Bytes) → AreInFront limit es came rest → AreOf told es → FrontTold limit told came
front_told limit es [] came rest is of = record {
  all = [];
  count = refl;
  fits = tt;
  lines = λ each. tt;
  rest = came;
  front = refl;
  replies = refl;
  given = λ old P text first last steps. steps;
  given_at = λ P first last steps. steps;
}
front_told limit [] (t ∷ told) came rest is of = absurd of
front_told limit (e ∷ es) (t ∷ told) came rest is of =
    let one = is.1 in
    let r = front_told limit es told (drop is.0 came) rest is.2 of.1 in
    let behind : drop (length one.line + 1) came ≡ lines_of r.all ++ r.rest = ap (λ (n : ℕ). drop n came) (sym one.len_is) ∙ r.front in
    record {
      all = record { line = one.line; reply = answer_line t } ∷ r.all;
      count = ap (λ (n : ℕ). suc n) r.count;
      fits = ((one.stands.bare, one.stands.fits), r.fits);
      lines = λ each. (each.0, r.lines each.1);
      rest = r.rest;
      front = one.stands.all ∙ (ap (λ (l : Bytes). one.line ++ 10 ∷ l) behind ∙ sym (append_assoc one.line (10 ∷ lines_of r.all) r.rest));
      replies = ap (λ (l : Bytes). answer_line t ++ l) r.replies;
      given = λ old P text first last steps. (
        steps.0,
        inl (record {
          told = t;
          request = subst (λ (x : Entry). IsRequestBy accepted one.line x) (sym of.0) one.request;
          steps = steps.1;
          reply_is = refl;
        }),
        r.given old P text steps.0 last steps.2,
      );
      given_at = λ P first last steps. (
        steps.0,
        inl (record { told = t; request = subst (λ (x : Entry). IsRequestBy accepted one.line x) (sym of.0) one.request; step = steps.1; reply_is = refl }),
        r.given_at P steps.0 last steps.2,
      );
    }

bare_each : (limit : ℕ) (told : List Told) → Each (λ t. IsBare t.line × (length t.line < limit)) told → Each (λ t. IsBare t.line) told
bare_each limit told each = each_map (λ t. IsBare t.line × (length t.line < limit)) (λ t. IsBare t.line) (λ t is. is.0) told each

module _ {D : Type 0} (seen : D → DiskSeen) (x y : Answering D) (keeps : Keeps seen x y) (limit : ℕ) (es : List Entry) (came : Bytes)
    (front : (rest : Bytes) × AreInFront limit es came rest) where
  abbrev Steps : List Answered → Type 0
  Steps told = (P : PlainPolicy) (G : History) (places : List ℕ) → accepted x.store.policy ≡ Some P → IsFront P x.store G
      → StepEach (IsDated (seen x.store.disk).contents) P x.store.policy (standing G places x) told (standing G places y)

  abbrev StepsAt : List Answered → Type 0
  StepsAt told = (P : PlainPolicy) (T : Trace) → accepted x.store.policy ≡ Some P → IsStart P x.store.point x.store.before T
      → StepEachAt P (reached_by P T x.store) told (reached_by P T y.store)

  given_so : (told : List Answered) (f : FrontTold limit told came) → Steps told → StepsAt told → GivesReplies seen x y f.all
  given_so told f steps steps_at = record {
    keeps = keeps;
    said = λ P G places accepts front'.
        f.given (IsDated (seen x.store.disk).contents) P x.store.policy (standing G places x) (standing G places y) (steps P G places accepts front');
    said_at = λ P T accepts starts. f.given_at P (reached_by P T x.store) (reached_by P T y.store) (steps_at P T accepts starts);
  }

  -- they were answered so, and nobody is told
  pub together_untold : (told : List Answered) → AreOf told es → Steps told → StepsAt told → AreAnsweredUntold limit (GivesReplies seen) (λ lines. IsFrontOf lines came) x y
  together_untold told of steps steps_at =
      let f = front_told limit es told came front.0 front.1 of in
      record { told = f.all; each = f.fits; came = (f.rest, f.front); answer = given_so told f steps steps_at }

  -- the lines of these answers were put
  pub together_replied : (told : List Answered) (old new : Bytes) (count len : ℕ) → 0 < length told → AreOf told es → ArePut told old new → count ≡ length told
      → Steps told → StepsAt told
      → ((all : List Told) (rest : Bytes) → Each (λ t. IsBare t.line) all → came ≡ lines_of all ++ rest → count ≡ length all → len ≡ length (lines_of all))
      → AreReplied limit (GivesReplies seen x y) came len old new
  together_replied told old new count len some of put counted steps steps_at lens =
      let f = front_told limit es told came front.0 front.1 of in
      let is : len ≡ length (lines_of f.all) = lens f.all f.rest (bare_each limit f.all f.fits) f.front (counted ∙ f.count) in
      let rest : drop len came ≡ f.rest = (λ i. drop (is i) (f.front i)) ∙ drop-append_seam (lines_of f.all) f.rest in
      record {
        told = f.all;
        some = let c = f.count in omega arith;
        each =
            each_both (λ t. IsBare t.line × (length t.line < limit)) (λ t. IsLine t.reply) (IsWithin limit)
            (λ t h l. record { line = h.0; fits = h.1; reply = l }) f.all f.fits (f.lines put.0);
        answered = given_so told f steps steps_at;
        front = f.front ∙ ap (λ (l : Bytes). lines_of f.all ++ l) (sym rest);
        len = is;
        text = put.1 ∙ ap (λ (l : Bytes). old ++ l) (sym f.replies);
      }

-- ---- one line

all_of_one : {D : Type 0} (seen : D → DiskSeen) (x y : Answering D) (line reply : Bytes) → GivesReply seen x y line reply
    → GivesReplies seen x y (record { line = line; reply = reply } ∷ [])
all_of_one seen x y line reply is = record {
  keeps = is.keeps;
  said = λ P G places accepts front. (standing G places y, is.said P G places accepts front, refl);
  said_at = λ P T accepts starts. (reached_by P T y.store, is.said_at P T accepts starts, refl);
}

-- the first line had its reply
pub first_replied : {D : Type 0} (seen : D → DiskSeen) (x y : Answering D) (limit : ℕ) (line came old new : Bytes) → StandsInFront limit line came
    → IsReplied (GivesReply seen x y line) old new → AreReplied limit (GivesReplies seen x y) came (length line + 1) old new
first_replied seen x y limit line came old new stands is =
    one_replied limit (GivesReplies seen x y) line came old new stands
    (is.0, is.1, all_of_one seen x y line is.0 is.2, is.3)

-- nothing was done, or the first line was answered, and nobody is told
pub first_untold : {D : Type 0} (seen : D → DiskSeen) (x y : Answering D) (limit : ℕ) (line came : Bytes) → StandsInFront limit line came
    → (y ≡ x) ⊎ ((reply : Bytes) × GivesReply seen x y line reply)
    → (x ≡ y) ⊎ AreAnsweredUntold limit (GivesReplies seen) (λ lines. IsFrontOf lines came) x y
first_untold seen x y limit line came stands is = ⊎_elim
    (λ (same : y ≡ x). inl (sym same))
    (λ (one : (reply : Bytes) × GivesReply seen x y line reply). inr (record {
      told = record { line = line; reply = one.0 } ∷ [];
      each = ((stands.bare, stands.fits), tt);
      came = (drop (length line + 1) came, stands.all ∙ sym (append_assoc line (10 ∷ []) (drop (length line + 1) came)));
      answer = all_of_one seen x y line one.0 one.1;
    })) is
