-- The monitor within a step: what its own actions are, and what undoing gives.
use Rattle.std.proofs.Common.{◌≡◌, ◌∙◌, ◌↔◌, ◌≤◌, inl, inr, ℕ, ℤ, List, ◌++◌, refl, sym, ap, subst}
use Rattle.std.specs.List.{Contains}
use Rattle.std.specs.Prelude.{Option, option_map}
use Rattle.ucon_actions.specs.Gives.{Makes}
use Rattle.ucon_actions.specs.Leads.{KeepsBase, KeepsOpening}
use Rattle.ucon_model.specs.declared.command.Caller.{Caller}
use Rattle.ucon_model.specs.declared.command.Command.{Command}
use Rattle.ucon_model.specs.declared.reply.Head.{Head}
use Rattle.ucon_model.specs.declared.reply.Revoked.{Revoked}
use Rattle.ucon_model.specs.declared.session.SessionRow.{SessionRow}
use Rattle.ucon_model.specs.Action.{Action, Trace, extended}
use Rattle.ucon_model.specs.Block.{after, own_block, own_reply, reply}
use Rattle.ucon_model.specs.OwnActions.{Own, refuse, tell, make, own}
use Rattle.ucon_model.specs.Plain.{PlainPolicy, made}
use Rattle.ucon_model.specs.Readings.{session}
use Rattle.ucon_model.specs.Settle.{settle, revoked_in}
use Rattle.ucon_model.specs.Sound.{IsNumbered}
use Rattle.ucon_model.specs.Usages.{IsUsageTold}
use Rattle.ucon_engine.specs.Engine.{state_of}
use Rattle.ucon_state.specs.Following.{Follows}
use Rattle.ucon_state.specs.Shown.{Shown, given_back, kept}
use Rattle.ucon_state.specs.Tables.{Tables, session_in}
use Rattle.ucon_cascade.specs.Cascading.{WereExact}
use Rattle.ucon_cascade.specs.Monitor.{IsSettled, Stands}
use Rattle.ucon_cascade.specs.Grouping.{AreAlike, AreGrouped}
use Rattle.ucon_cascade.specs.Numbering.{IsExact}
use Rattle.ucon_cascade.specs.Putting.{GoesOn}
use Rattle.ucon_collections.specs.Deadlines.{AreAlike as AlikeDeadlines}
use Rattle.ucon_cascade.proofs.Timing.{no_time, timely_still}
pub use Rattle.ucon_cascade.proofs.Outcomes.{ok_both, ok_then, on_err, on_ok}

-- ---- own actions

-- the actions that were made
pub made_actions : (head : Head) (s : Shown) (P : PlainPolicy) (T : Trace) (d : Own) → Makes head s P T d
    → (actions : List Action) × (d ≡ make head actions) × Follows s P (extended T actions)
made_actions head s P T (make h actions) m = (actions, ap (λ (h : Head). make h actions) m.0, m.1)
made_actions head s P T (refuse r) m = absurd m
made_actions head s P T (tell r) m = absurd m

pub made_reply : (P : PlainPolicy) (T : Trace) (caller : Caller) (c : Command) (head : Head) (actions : List Action) (revoked : List Revoked) → own P T caller c ≡ make head actions
    → revoked ≡ revoked_in (settle P (extended T actions)) → made head revoked ≡ reply P T caller c
made_reply P T caller c head actions revoked is told = ap (λ (rs : List Revoked). made head rs) told ∙ sym (ap (own_reply P T) is)

-- actions are done in their order
abbrev pub DoneInOrder : Type 0
DoneInOrder = (T : Trace) (first later : List Action) → extended T (first ++ later) ≡ extended (extended T first) later

pub made_after : DoneInOrder → (P : PlainPolicy) (T : Trace) (caller : Caller) (c : Command) (head : Head) (actions : List Action)
    → own P T caller c ≡ make head actions → extended (extended T actions) (settle P (extended T actions)) ≡ after P T caller c
made_after in_order P T caller c head actions is =
    sym (in_order T actions (settle P (extended T actions))) ∙ sym (ap (λ (o : Own). extended T (own_block P T o)) is)

-- a head tells whose usage begins or ends
abbrev pub HeadsTell : Type 0
HeadsTell = (P : PlainPolicy) (T : Trace) (caller : Caller) (c : Command) (head : Head) (actions : List Action) (n : ℕ) → IsNumbered T
    → own P T caller c ≡ make head actions → IsUsageTold head n (session T n) (session (extended T actions) n)

-- so between two states that follow what was before and after
pub told_between : HeadsTell → (s s' : Shown) (P : PlainPolicy) (T : Trace) (caller : Caller) (c : Command) (head : Head) (actions : List Action)
    → Follows s P T → Follows s' P (extended T actions) → own P T caller c ≡ make head actions → (n : ℕ)
    → IsUsageTold head n (session_in s.tables n) (session_in s'.tables n)
told_between tell_it s s' P T caller c head actions h h' is n =
    subst (λ (o : Option SessionRow). IsUsageTold head n o (session_in s'.tables n)) (sym (h.tables.sessions.rows n))
    (subst (λ (o : Option SessionRow). IsUsageTold head n (session T n) o) (sym (h'.tables.sessions.rows n)) (tell_it P T caller c head actions n h.sound.numbered is))

pub were_exact : HeadsTell → (s s' : Shown) (standing : ℕ → List ℕ) (first : ℕ → ℕ) (P : PlainPolicy) (T : Trace) (caller : Caller) (c : Command) (head : Head)
    (actions : List Action) → Follows s P T → Follows s' P (extended T actions) → own P T caller c ≡ make head actions → KeepsBase s s' → IsExact s standing → AreGrouped s first
    → WereExact s' standing first head
were_exact tell_it s s' standing first P T caller c head actions h h' is base exact grouped = record {
  before = s;
  base = base;
  exact = exact;
  grouped = grouped;
  told = told_between tell_it s s' P T caller c head actions h h' is;
}

-- ---- undoing and keeping

-- one change after the other
pub base_on : (s s1 s2 : Shown) → KeepsBase s s1 → KeepsBase s1 s2 → KeepsBase s s2
base_on s s1 s2 first then = record {
  policy = then.policy ∙ first.policy;
  opening_policy = then.opening_policy ∙ first.opening_policy;
  opening = then.opening ∙ first.opening;
  cells = λ side name attr cell here. then.cells side name attr cell (first.cells side name attr cell here);
}

pub opening_on : (s s1 s2 : Shown) → KeepsOpening s s1 → KeepsBase s1 s2 → KeepsOpening s s2
opening_on s s1 s2 first then = record { opening_policy = then.opening_policy ∙ first.opening_policy; opening = then.opening ∙ first.opening }

-- once all is undone that was done since the last keep
pub given_back_is : (s s' : Shown) → KeepsOpening s s' → IsSettled s → given_back s' ≡ s
given_back_is s s' keeps settled =
    ap (λ (Q : PlainPolicy). (let x : Shown = record { policy = Q; tables = s'.opening; opening_policy = Q; opening = s'.opening } in x)) keeps.opening_policy
    ∙ ap (λ (t : Tables). (let x : Shown = record { policy = s.opening_policy; tables = t; opening_policy = s.opening_policy; opening = t } in x)) keeps.opening
    ∙ ap (λ (Q : PlainPolicy). (let x : Shown = record { policy = Q; tables = s.opening; opening_policy = s.opening_policy; opening = s.opening } in x)) settled.policy
    ∙ ap (λ (t : Tables). (let x : Shown = record { policy = s.policy; tables = t; opening_policy = s.opening_policy; opening = s.opening } in x)) settled.tables

-- the same who stand, told by their numbers
pub exact_same : (s : Shown) (standing standing' : ℕ → List ℕ) → ((n place : ℕ) → Contains (standing' place) n ↔ Contains (standing place) n) → IsExact s standing
    → IsExact s standing'
exact_same s standing standing' same exact = record {
  sound = λ n place stands. exact.sound n place ((same n place).0 stands);
  complete = λ n place reads. (same n place).1 (exact.complete n place reads);
  numbered = exact.numbered;
}

-- the same firsts
pub grouped_like : (s : Shown) (first first' : ℕ → ℕ) → ((n : ℕ) → first' n ≡ first n) → AreGrouped s first → AreGrouped s first'
grouped_like s first first' same grouped = record {
  low = λ n goes. subst (λ (m : ℕ). m ≤ n) (sym (same n)) (grouped.low n goes);
  on = λ n goes. subst (GoesOn s) (sym (same n)) (grouped.on n goes);
  itself = λ n goes. ap first' (same n) ∙ same (first n) ∙ grouped.itself n goes ∙ sym (same n);
  like = λ n goes. elim (grouped.like n goes) [
    | inl itself ↦ inl (same n ∙ itself)
    | inr alike ↦ inr (subst (λ (m : ℕ). AreAlike s m n) (sym (same n)) alike)
  ];
}

pub stands_like : (s : Shown) (standing standing' : ℕ → List ℕ) (first first' : ℕ → ℕ) (ds es : List (Option ℤ)) (P : PlainPolicy) (T : Trace)
    → ((n place : ℕ) → Contains (standing' place) n ↔ Contains (standing place) n) → ((n : ℕ) → first' n ≡ first n)
    → AlikeDeadlines ds es → Stands s standing first ds P T → Stands s standing' first' es P T
stands_like s standing standing' first first' ds es P T same same_firsts alike stands = record {
  follows = stands.follows;
  nobody = stands.nobody;
  exact = exact_same s standing standing' same stands.exact;
  grouped = grouped_like s first first' same_firsts stands.grouped;
  timely = timely_still ds es P T T (no_time P T) (λ n. refl) alike stands.timely;
}

pub same_lists : (standing standing' : ℕ → List ℕ) → ((place : ℕ) → standing' place ≡ standing place) → (n place : ℕ) → Contains (standing' place) n ↔ Contains (standing place) n
same_lists standing standing' same n place = (
  λ has. subst (λ (xs : List ℕ). Contains xs n) (same place) has,
  λ has. subst (λ (xs : List ℕ). Contains xs n) (sym (same place)) has,
)

-- what undoing would give matters to nobody who reads
pub stands_kept : (s : Shown) (standing : ℕ → List ℕ) (first : ℕ → ℕ) (ds : List (Option ℤ)) (P : PlainPolicy) (T : Trace) → Stands s standing first ds P T
    → Stands (kept s) standing first ds P T
stands_kept s standing first ds P T stands = record {
  follows = record {
    policy = stands.follows.policy;
    typed = stands.follows.typed;
    tables = stands.follows.tables;
    sound = stands.follows.sound;
  };
  nobody = stands.nobody;
  exact = record {
    sound = λ n place there. (let reads = stands.exact.sound n place there in record { row = reads.row; is = reads.is; reads = reads.reads });
    complete = λ n place reads. stands.exact.complete n place (record { row = reads.row; is = reads.is; reads = reads.reads });
    numbered = stands.exact.numbered;
  };
  grouped = record {
    low = stands.grouped.low;
    on = stands.grouped.on;
    itself = stands.grouped.itself;
    like = λ n goes. elim (stands.grouped.like n goes) [
      | inl itself ↦ inl itself
      | inr alike ↦ inr (record { row = alike.row; other = alike.other; is = alike.is; other_is = alike.other_is; alike = alike.alike })
    ];
  };
  timely = stands.timely;
}

-- ---- the state of a session

pub status_is : (s : Shown) (P : PlainPolicy) (T : Trace) → Follows s P T → (n : ℕ) → option_map (λ (row : SessionRow). row.state) (session_in s.tables n) ≡ state_of T n
status_is s P T h n = ap (option_map (λ (row : SessionRow). row.state)) (h.tables.sessions.rows n)

-- undoing a change gives what stood before it
pub stands_before : (s s' : Shown) (standing : ℕ → List ℕ) (first : ℕ → ℕ) (ds : List (Option ℤ)) (P : PlainPolicy) (T : Trace) → KeepsOpening s s' → IsSettled s
    → Stands s standing first ds P T → Stands (given_back s') standing first ds P T
stands_before s s' standing first ds P T keeps settled stands = subst (λ (x : Shown). Stands x standing first ds P T) (sym (given_back_is s s' keeps settled)) stands
