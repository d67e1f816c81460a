-- A run, line by line.
use Rattle.std.proofs.Common.{◌≡◌, ℕ, ◌+◌, ◌-◌, ◌^◌, ◌<◌, ◌≤◌, min, Bool, true, false, cond, List, [], ◌∷◌, ◌++◌, length, map, get_or, take, refl, sym, ap, subst, ◌∙◌, append_assoc, arith, length-append, inl, inr}
use Rattle.std.specs.Prelude.{Option, Some, None}
use Rattle.std.proofs.lemmas.List.{append-nil, take_more, map-append, take_all}
use Rattle.ucon_model.specs.declared.command.Entry.{Entry}
use Rattle.ucon_model.specs.Plain.{PlainPolicy, PlainReply}
use Rattle.ucon_model.specs.History.{History, said, changes, grown}
use Rattle.ucon_model.specs.Summary.{LineReply, IsReplyRun, IsReplyNext, history_behind}
use Rattle.ucon_trial.specs.Hearing.{HasHeard, line_of, replied}
use Rattle.ucon_trial.specs.OneAnswer.{Answers, Replies}

-- ---- the lines so far

-- The first i lines have been answered, the answers were heard, and the engine stands for the history that they led to.
pub record Along (P : PlainPolicy) (stands_for : History → Type 0) (hears : List LineReply → Type 0) (lines : List Entry) (i : ℕ) (place : ℕ) : Type 0 where
  pub told : List LineReply
  pub history : History
  pub stands : stands_for history
  pub lines_are : map line_of told ≡ take i lines
  pub heard : hears told
  pub place_is : place ≡ length history
  pub few : length history ≤ i
  pub goes_on : (others : List LineReply) → IsReplyRun P history others → IsReplyRun P [] (told ++ others)

pub begun : (P : PlainPolicy) (stands_for : History → Type 0) (hears : List LineReply → Type 0) (lines : List Entry) → stands_for [] → hears [] → Along P stands_for hears lines 0 0
begun P stands_for hears lines stands heard = record {
  told = [];
  history = [];
  stands = stands;
  lines_are = refl;
  heard = heard;
  place_is = refl;
  few = omega arith;
  goes_on = λ others run. run;
}

-- one line answered more, where the history is what the answer makes of it
with_answer : (P : PlainPolicy) (stood stands_for : History → Type 0) (heard hears : List LineReply → Type 0) (lines : List Entry) (i : ℕ) (place place' : ℕ) (e : Entry) (reply : Option (ℕ × PlainReply))
    (so_far : Along P stood heard lines i place) → i < length lines → e ≡ get_or lines i e → ((told : List LineReply) → heard told → hears (told ++ replied e reply ∷ []))
    → IsReplyNext P so_far.history e reply → stands_for (history_behind P so_far.history e reply)
    → place' ≡ length (history_behind P so_far.history e reply) → length (history_behind P so_far.history e reply) ≤ i + 1
    → Along P stands_for hears lines (i + 1) place'
with_answer P stood stands_for heard hears lines i place place' e reply so_far lt is more next stands place_is few =
    let t = replied e reply in
    record {
      told = so_far.told ++ t ∷ [];
      history = history_behind P so_far.history e reply;
      stands = stands;
      lines_are = map-append line_of so_far.told (t ∷ []) ∙ ap (λ (es : List Entry). es ++ e ∷ []) so_far.lines_are
          ∙ ap (λ (x : Entry). take i lines ++ x ∷ []) is ∙ sym (take_more lines i e lt);
      heard = more so_far.told so_far.heard;
      place_is = place_is;
      few = few;
      goes_on = λ others run. rw append_assoc (so_far.goes_on (t ∷ others) (next, run));
    }

-- ---- the history after a reply

length_after : (H : History) (e : Entry) (b : Bool) → length (cond b (H ++ e ∷ []) H) ≡ cond b (length H + 1) (length H)
length_after H e true = length-append H (e ∷ [])
length_after H e false = refl

at_most : (H : History) (b : Bool) (i : ℕ) → length H ≤ i → cond b (length H + 1) (length H) ≤ i + 1
at_most H true i le = omega arith
at_most H false i le = omega arith

with_reply : (P : PlainPolicy) (stood stands_for : History → Type 0) (heard hears : List LineReply → Type 0) (lines : List Entry) (i : ℕ) (place place' : ℕ) (e : Entry)
    → i < length lines → length lines < 2 ^ 64 → e ≡ get_or lines i e → (so_far : Along P stood heard lines i place)
    → Replies P stands_for (λ reply. (told : List LineReply) → heard told → hears (told ++ replied e reply ∷ [])) so_far.history place place' e
    → Along P stands_for hears lines (i + 1) place'
with_reply P stood stands_for heard hears lines i place place' e lt small is so_far some =
    let H = so_far.history in
    let r = said P H e.caller e.command in
    let b = changes r in
    let len : length (grown P H e) ≡ cond b (length H + 1) (length H) = length_after H e b in
    let le : cond b (length H + 1) (length H) ≤ i + 1 = at_most H b i so_far.few in
    let plain : place' ≡ cond b (length H + 1) (length H) = some.place_is ∙ ap (λ (n : ℕ). min (cond b (n + 1) n) (2 ^ 64 - 1)) so_far.place_is ∙ omega arith in
    let place_so : place' ≡ length (grown P H e) = plain ∙ sym len in
    let few : length (grown P H e) ≤ i + 1 = rw len le in
    with_answer P stood stands_for heard hears lines i place place' e (Some (place', r)) so_far lt is some.heard (place_so, refl) some.stands place_so few

-- one line more
pub one_more : (P : PlainPolicy) (stood stands_for : History → Type 0) (heard hears : List LineReply → Type 0) (lines : List Entry) (i : ℕ) (place place' : ℕ) (e : Entry)
    → i < length lines → length lines < 2 ^ 64 → e ≡ get_or lines i e → (so_far : Along P stood heard lines i place)
    → Answers P stands_for (λ reply. (told : List LineReply) → heard told → hears (told ++ replied e reply ∷ [])) so_far.history place place' e
    → Along P stands_for hears lines (i + 1) place'
one_more P stood stands_for heard hears lines i place place' e lt small is so_far (inl none) =
    with_answer P stood stands_for heard hears lines i place place' e None so_far lt is none.heard tt none.stands (none.place_is ∙ so_far.place_is) (omega (arith, so_far.few))
one_more P stood stands_for heard hears lines i place place' e lt small is so_far (inr some) =
    with_reply P stood stands_for heard hears lines i place place' e lt small is so_far some

-- ---- all lines

-- all lines have been answered
pub finished : (P : PlainPolicy) (stands_for : History → Type 0) (hears : List LineReply → Type 0) (lines : List Entry) (i : ℕ) (place : ℕ) → length lines ≤ i
    → Along P stands_for hears lines i place → HasHeard P hears lines
finished P stands_for hears lines i place le so_far = record {
  told = so_far.told;
  lines_are = so_far.lines_are ∙ take_all i lines le;
  heard = so_far.heard;
  run = subst (IsReplyRun P []) (append-nil so_far.told) (so_far.goes_on [] tt);
}
