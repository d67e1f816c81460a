-- After a tick has passed all deadlines below it.
use Rattle.std.proofs.Common.{◌≡◌, ◌≢◌, ◌∙◌, ◌≤◌, inl, inr, ℕ, ℤ, Bool, true, false, cond, List, [], ◌∷◌, refl, sym, subst, arith}
use Rattle.std.specs.Prelude.{◌≤ℤ◌, ◌<ℤ◌, Option, int_lt, not}
use Rattle.std.specs.List.{Contains}
use Rattle.std.proofs.lemmas.Int.{ints}
use Rattle.ucon_model.specs.declared.command.Caller.{Caller}
use Rattle.ucon_actions.specs.Gives.{is_amendment}
use Rattle.ucon_model.specs.declared.command.Command.{Command}
use Rattle.ucon_model.specs.declared.command.Command.TheVariants.{Subject, Object, Set, Env, Tick, Act, Try, Again, Beat, End, Look, Value as Value', Amend}
use Rattle.ucon_model.specs.declared.reply.Head.{Head}
use Rattle.ucon_model.specs.declared.reply.Refusal.{Refusal}
use Rattle.ucon_model.specs.Action.{Action, Trace, extended, tick}
use Rattle.ucon_model.specs.Deadlines.{is_due}
use Rattle.ucon_model.specs.OwnActions.{Own, is_admin, make, own, refuse}
use Rattle.ucon_model.specs.Plain.{Amendment, PlainPolicy}
use Rattle.ucon_model.specs.Readings.{is_accessing, session, tick_of}
use Rattle.ucon_model.specs.Touches.{touches, touches_by}
use Rattle.ucon_state.specs.Following.{Follows}
use Rattle.ucon_state.specs.Shown.{Shown}
use Rattle.ucon_cascade.specs.Passing.{IsPassing, MayPass, PassesAll, WereMade, is_tick}
use Rattle.ucon_cascade.specs.Timely.{AreTimely}
use Rattle.ucon_cascade.proofs.Making.{tick_or_not, ticks_move}
use Rattle.ucon_cascade.proofs.OwnTime.{Makes, made_so, unless}
use Rattle.ucon_cascade.proofs.Ticking.{begins_to_pass, between}

unless_so : (Q : Head → List Action → Type 0) (b : Bool) (r : Refusal) (o : Own) → (b ≡ false → Makes Q o) → Makes Q (cond b (refuse r) o)
unless_so Q true r o h = tt
unless_so Q false r o h = h refl

not_back : (t now : ℤ) → int_lt t now ≡ false → now ≤ℤ t
not_back t now e = omega (arith, ints)

-- a tick that is made doesn't go back
pub ticks_go_on : (P : PlainPolicy) (T : Trace) (caller : Caller) (head : Head) (t : ℤ) (actions : List Action) → own P T caller (Tick t) ≡ make head actions → tick_of T ≤ℤ t
ticks_go_on P T caller head t actions is =
    made_so (λ head actions. tick_of T ≤ℤ t) (own P T caller (Tick t)) head actions is
    (unless (λ head actions. tick_of T ≤ℤ t) (not (is_admin caller)) _ _ (unless_so (λ head actions. tick_of T ≤ℤ t) (int_lt t (tick_of T)) _ _ (λ later. not_back t (tick_of T) later)))

not_below : (t d : ℤ) → t ≤ℤ d → d <ℤ t → ⊥
not_below t d le lt = omega (arith, ints, le, lt)

-- so it may pass deadlines
pub may_pass : (s : Shown) (ds : List (Option ℤ)) (members : List ℕ) (P : PlainPolicy) (T : Trace) (caller : Caller) (head : Head) (t : ℤ) (actions : List Action)
    → WereMade s ds P T caller (Tick t) head actions → members ≡ [] → MayPass s ds members
may_pass s ds members P T caller head t actions were none = record {
  policy = P;
  trace = T;
  next = t;
  follows = subst (λ (all : List Action). Follows s P (extended T all)) (ticks_move P T caller head t actions were.made) were.follows;
  passing = subst (λ (ms : List ℕ). IsPassing ds ms P T t) (sym none) (begins_to_pass ds P T t (ticks_go_on P T caller head t actions were.made) were.timely);
}

-- all that has to be passed is: the deadlines are timely, and of whom the tick passed a limit is in the work, who was touched
pub record HasTicked (es : List (Option ℤ)) (members : List ℕ) (P : PlainPolicy) (T : Trace) (t : ℤ) : Type 0 where
  pub timely : AreTimely es P (tick t ∷ T)
  pub due : (n : ℕ) → is_accessing (session T n) ≡ true → is_due P T t n ≡ true → Contains members n
  pub touched : (n : ℕ) → Contains members n → 1 ≤ touches P T (tick t) n

pub has_ticked : (s : Shown) (ds es : List (Option ℤ)) (members : List ℕ) (P : PlainPolicy) (T : Trace) (caller : Caller) (head : Head) (t : ℤ) (actions : List Action)
    → WereMade s ds P T caller (Tick t) head actions → PassesAll s ds es [] members → HasTicked es members P T t
has_ticked s ds es members P T caller head t actions were passes =
    let is : actions ≡ tick t ∷ [] = ticks_move P T caller head t actions were.made in
    let first = begins_to_pass ds P T t (ticks_go_on P T caller head t actions were.made) were.timely in
    let done = passes P T t (subst (λ (all : List Action). Follows s P (extended T all)) is were.follows) first in
    record {
      timely = record { timed = done.0.timed; ahead = done.1 };
      due = λ n on is_due. elim (done.0.due n on is_due) [
        | inl there ↦ there
        | inr passed ↦ absurd (not_below t passed.deadline (done.1 n passed.deadline passed.there) (between (tick_of T) t passed.deadline passed.passed).1)
      ];
      touched = done.0.touched;
    }

pub touched_by_tick : (P : PlainPolicy) (T : Trace) (t : ℤ) (n : ℕ) → 1 ≤ touches P T (tick t) n → 1 ≤ touches_by P T (tick t ∷ []) n
touched_by_tick P T t n h = omega (arith, h)

-- ---- by the command

module _ (s : Shown) (ds es : List (Option ℤ)) (old members : List ℕ) (P : PlainPolicy) (T : Trace) (caller : Caller) (c : Command) (head : Head) (t : ℤ) (actions : List Action) (is : c ≡ Tick t)
    (none : old ≡ []) (were : WereMade s ds P T caller c head actions) (passes : PassesAll s ds es old members) where
  ticking : WereMade s ds P T caller (Tick t) head actions
  ticking = subst (λ (d : Command). WereMade s ds P T caller d head actions) is were

  done : HasTicked es members P T t
  done = has_ticked s ds es members P T caller head t actions ticking (subst (λ (ms : List ℕ). PassesAll s ds es ms members) none passes)

  moved : actions ≡ tick t ∷ []
  moved = ticks_move P T caller head t actions ticking.made

  pub timely_ticked : AreTimely es P (extended T actions)
  timely_ticked = subst (λ (all : List Action). AreTimely es P (extended T all)) (sym moved) done.timely

  pub due_ticked : (next : ℤ) → c ≡ Tick next → (n : ℕ) → is_accessing (session T n) ≡ true → is_due P T next n ≡ true → Contains members n
  due_ticked next told n on due =
      let both : Tick next ≡ Tick t = sym told ∙ is in
      let same : next ≡ t = cc in
      done.due n on (subst (λ (u : ℤ). is_due P T u n ≡ true) same due)

  pub touched_ticked : (n : ℕ) → Contains members n → 1 ≤ touches_by P T actions n
  touched_ticked n has = subst (λ (all : List Action). 1 ≤ touches_by P T all n) (sym moved) (touched_by_tick P T t n (done.touched n has))

-- ---- other commands

pub not_amendment : (c : Command) → ((a : Amendment) → c ≢ Amend a) → is_amendment c ≡ false
not_amendment (Subject name) other = refl
not_amendment (Object name) other = refl
not_amendment (Set side name attr v) other = refl
not_amendment (Env name v) other = refl
not_amendment (Tick t) other = refl
not_amendment (Act s a o) other = refl
not_amendment (Try s r o) other = refl
not_amendment (Again n) other = refl
not_amendment (Beat n) other = refl
not_amendment (End n) other = refl
not_amendment (Look n) other = refl
not_amendment (Value' side name attr) other = refl
not_amendment (Amend a) other = absurd (other a refl)

pub not_tick : (c : Command) → ((t : ℤ) → c ≢ Tick t) → is_tick c ≡ false
not_tick c other = elim (tick_or_not c) [ inl ticks ↦ absurd (other ticks.0 ticks.1) | inr quiet ↦ quiet ]

pub nobody_in : (members : List ℕ) → members ≡ [] → (n : ℕ) → Contains members n → ⊥
nobody_in members none n has = nothing (subst (λ (ms : List ℕ). Contains ms n) none has)
  where
    nothing : Contains [] n → ⊥
    nothing (i, within, is) = omega (arith, within)
