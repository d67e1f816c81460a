-- Whom own actions concern with the first of its list, they concern itself; and whom a tick concerns is the first of its list.
use Rattle.std.proofs.Common.{◌≡◌, ◌∙◌, ◌⊎◌, ◌≤◌, inl, inr, ℕ, ℤ, Bool, true, false, List, [], ◌∷◌, refl, sym, ap, subst, arith}
use Rattle.std.specs.Prelude.{Option, Some, cond, filter, length}
use Rattle.std.specs.List.{Contains}
use Rattle.std.specs.Option.{option_map_or}
use Rattle.ucon_actions.specs.Gives.{is_amendment}
use Rattle.ucon_model.specs.declared.command.Caller.{Caller}
use Rattle.ucon_model.specs.declared.command.Command.{Command}
use Rattle.ucon_model.specs.declared.command.Command.TheVariants.{Subject, Object, Set, Env, Tick, Act, Try, Again, Beat, End, Look, Value as Value', Amend}
use Rattle.ucon_model.specs.declared.policy.When.TheVariants.{Before, During, AfterEnd}
use Rattle.ucon_model.specs.declared.reply.Head.{Head}
use Rattle.ucon_model.specs.declared.reply.Head.TheVariants as heads
use Rattle.ucon_model.specs.declared.session.SessionRow.{SessionRow}
use Rattle.ucon_model.specs.Action.{Action, Trace, extended, tick}
use Rattle.ucon_model.specs.Deadlines.{deadlines, has_between}
use Rattle.ucon_model.specs.OwnActions.{make, own}
use Rattle.ucon_model.specs.Plain.{PlainPolicy}
use Rattle.ucon_model.specs.Reach.{Location, Timed, attribute_of, timed_of, variable_of}
use Rattle.ucon_model.specs.Readings.{in_force, is_accessing, session, tick_of}
use Rattle.ucon_model.specs.Touches.{touches, touches_by, touches_row}
use Rattle.ucon_model.specs.Usages.{going_on}
use Rattle.ucon_state.specs.Following.{Follows}
use Rattle.ucon_state.specs.Shown.{Shown}
use Rattle.ucon_state.specs.Tables.{session_in}
use Rattle.ucon_cascade.specs.Grouping.{AreGrouped}
use Rattle.ucon_cascade.specs.Numbering.{IsExact}
use Rattle.ucon_cascade.specs.Passing.{is_tick}
use Rattle.ucon_cascade.specs.Putting.{GoesOn, IsCommandWork, IsOwnWork, IsPermitWork, StandsAt, StandsAtOne, targets_in}
use Rattle.ucon_cascade.proofs.Covering.{stands_at_one}
use Rattle.ucon_cascade.proofs.Firsts.{LikeReadAlike, accessing_after, goes_after, going_row, reads_as_first}
use Rattle.ucon_cascade.proofs.Leaving.{same_timed}
use Rattle.ucon_cascade.proofs.Making.{tick_or_not, ticks_move}
use Rattle.ucon_cascade.proofs.Thrifty.{CellsAreOfOne, reads_at_one}

amend_or_not : (c : Command) → (is_amendment c ≡ true) ⊎ (is_amendment c ≡ false)
amend_or_not c = by (is_amendment c) refl
  where
    by : (b : Bool) → is_amendment c ≡ b → (is_amendment c ≡ true) ⊎ (is_amendment c ≡ false)
    by true is = inl is
    by false is = inr is

-- ---- who shares a first

module _ (alike : LikeReadAlike) (whose : CellsAreOfOne) (s : Shown) (standing : ℕ → List ℕ) (first : ℕ → ℕ) (P : PlainPolicy) (U : Trace) (h : Follows s P U)
    (exact : IsExact s standing) (grouped : AreGrouped s first) (n : ℕ) (on : is_accessing (session U n) ≡ true) where
  stands_too : (locations : List Location) → StandsAtOne s standing locations (first n) → StandsAtOne s standing locations n
  stands_too locations stands =
      let row = going_row (session U n) on in
      let first_row = going_row (session U (first n)) (accessing_after s P U h (first n) (grouped.on n (goes_after s P U h n on))) in
      let is : going_on (session_in s.tables n) ≡ Some row.0 = ap going_on (h.tables.sessions.rows n) ∙ row.2 in
      let first_is : going_on (session_in s.tables (first n)) ≡ Some first_row.0 = ap going_on (h.tables.sessions.rows (first n)) ∙ first_row.2 in
      stands_at_one s standing exact n row.0 is locations
      (sym (reads_as_first alike s first grouped n row.0 first_row.0 is first_is locations) ∙ reads_at_one whose s standing P U h exact (first n) first_row.0 first_is locations stands)

  stands_there_too : (location : Location) → StandsAt s standing location (first n) → StandsAt s standing location n
  stands_there_too location stands = elim (stands_too (location ∷ []) (inl stands)) [ inl here ↦ here | inr none ↦ absurd none ]

  permit_too : (head : Head) → ((k : ℕ) → head ≡ heads.Permitted k → first n ≡ k → n ≡ k) → IsPermitWork s standing head (first n) → IsPermitWork s standing head n
  permit_too heads.Ok alone work = absurd work
  permit_too (heads.Permitted k) alone (inl is) = inl (alone k refl is)
  permit_too (heads.Permitted k) alone (inr stands) = inr (stands_too (targets_in s k Before) stands)
  permit_too (heads.Denied k label) alone work = absurd work
  permit_too (heads.Waiting k label) alone work = absurd work
  permit_too (heads.Ended k) alone work = absurd work

  command_too : (c : Command) → IsCommandWork s standing c (first n) → IsCommandWork s standing c n
  command_too (Subject name) work = absurd work
  command_too (Object name) work = absurd work
  command_too (Set side name attr v) stands = stands_there_too (attribute_of side name attr) stands
  command_too (Env name v) stands = stands_there_too (variable_of name) stands
  command_too (Tick t) work = absurd work
  command_too (Act u a o) work = absurd work
  command_too (Try u r o) work = absurd work
  command_too (Again k) work = absurd work
  command_too (Beat k) stands = stands_too (targets_in s k During) stands
  command_too (End k) stands = stands_too (targets_in s k AfterEnd) stands
  command_too (Look k) work = absurd work
  command_too (Value' side name attr) work = absurd work
  command_too (Amend a) goes = goes_after s P U h n on

  all_amended : (c : Command) → is_amendment c ≡ true → IsCommandWork s standing c n
  all_amended (Subject name) is = absurd cc
  all_amended (Object name) is = absurd cc
  all_amended (Set side name attr v) is = absurd cc
  all_amended (Env name v) is = absurd cc
  all_amended (Tick t) is = absurd cc
  all_amended (Act u a o) is = absurd cc
  all_amended (Try u r o) is = absurd cc
  all_amended (Again k) is = absurd cc
  all_amended (Beat k) is = absurd cc
  all_amended (End k) is = absurd cc
  all_amended (Look k) is = absurd cc
  all_amended (Value' side name attr) is = absurd cc
  all_amended (Amend a) is = goes_after s P U h n on

  -- whom own actions concern with its first, they concern
  pub own_too : (c : Command) (head : Head) → ((k : ℕ) → is_amendment c ≡ false → head ≡ heads.Permitted k → first n ≡ k → n ≡ k) → IsOwnWork s standing c head (first n)
      → IsOwnWork s standing c head n
  own_too c head alone work = elim (amend_or_not c) [
    | inl amends ↦ inr (all_amended c amends)
    | inr other ↦ elim work [
      | inl permits ↦ inl (permit_too head (λ k is its. alone k other is its) permits)
      | inr commands ↦ inr (command_too c commands)
    ]
  ]

-- ---- whom a tick touches

no_parts : (test : Timed → Bool) (parts : List Timed) → parts ≡ [] → length (filter test parts) ≡ 0
no_parts test parts none = ap (λ (ps : List Timed). length (filter test ps)) none

-- a session without timed parts isn't touched
untimed_not_touched : (s : Shown) (P : PlainPolicy) (T : Trace) (t : ℤ) → Follows s P (tick t ∷ T) → (n : ℕ) (row : SessionRow) → session_in s.tables n ≡ Some row
    → timed_of s.policy row ≡ [] → touches_by P T (tick t ∷ []) n ≡ 0
untimed_not_touched s P T t h n row is none =
    let at : session T n ≡ Some row = sym (h.tables.sessions.rows n) ∙ is in
    let untimed : timed_of (in_force P T) row ≡ [] = ap (λ (Q : PlainPolicy). timed_of Q row) (sym h.policy) ∙ none in
    let zero_parts : touches_row P T (tick t) row ≡ 0 = no_parts (λ part. has_between (tick_of T) t (deadlines T row part)) (timed_of (in_force P T) row) untimed in
    let told : touches P T (tick t) n ≡ cond (is_accessing (session T n)) (touches_row P T (tick t) row) 0 =
    ap (λ (o : Option SessionRow). cond (is_accessing (session T n)) (option_map_or (touches_row P T (tick t)) o 0) 0) at in
    let none_at_all : touches P T (tick t) n ≡ 0 = told ∙ by (is_accessing (session T n)) (touches_row P T (tick t) row) zero_parts in
    omega (arith, none_at_all)
  where
    by : (b : Bool) (k : ℕ) → k ≡ 0 → cond b k 0 ≡ 0
    by true k is = is
    by false k is = refl

-- whom a tick touches is judged alone: it is the first of its list, and of no other
pub touched_is_first : (s : Shown) (first : ℕ → ℕ) (P : PlainPolicy) (T : Trace) (t : ℤ) → Follows s P (tick t ∷ T) → AreGrouped s first → (n : ℕ) → GoesOn s n
    → 1 ≤ touches_by P T (tick t ∷ []) n → first n ≡ n
touched_is_first s first P T t h grouped n goes touched = elim (grouped.like n goes) [
  | inl itself ↦ itself
  | inr alike ↦
      let none = untimed_not_touched s P T t h n alike.other alike.other_is (sym (same_timed s.policy alike.row alike.other alike.alike.right) ∙ alike.alike.untimed) in
      absurd (omega (arith, none, touched))
]

pub touched_leads_itself : (s : Shown) (first : ℕ → ℕ) (P : PlainPolicy) (T : Trace) (t : ℤ) → Follows s P (tick t ∷ T) → AreGrouped s first → (n : ℕ) → GoesOn s n
    → 1 ≤ touches_by P T (tick t ∷ []) (first n) → first n ≡ n
touched_leads_itself s first P T t h grouped n goes touched = elim (grouped.like n goes) [
  | inl itself ↦ itself
  | inr alike ↦
      let none = untimed_not_touched s P T t h (first n) alike.row alike.is alike.alike.untimed in
      absurd (omega (arith, none, touched))
]

-- ---- whom the deadlines put into the work

nothing_in : (n : ℕ) → Contains [] n → ⊥
nothing_in n (i, within, is) = omega (arith, within)

module _ (s : Shown) (first : ℕ → ℕ) (P : PlainPolicy) (T : Trace) (caller : Caller) (c : Command) (head : Head) (actions : List Action) (members : List ℕ)
    (h : Follows s P (extended T actions)) (grouped : AreGrouped s first) (made : own P T caller c ≡ make head actions) (quiet : is_tick c ≡ false → members ≡ [])
    (touched : (n : ℕ) → Contains members n → 1 ≤ touches_by P T actions n) where
  ticked : (t : ℤ) → c ≡ Tick t → actions ≡ tick t ∷ []
  ticked t is = ticks_move P T caller head t actions (subst (λ (d : Command). own P T caller d ≡ make head actions) is made)

  -- they are the firsts of their lists
  pub due_are_first : (n : ℕ) → Contains members n → GoesOn s n → first n ≡ n
  due_are_first n has goes = elim (tick_or_not c) [
    | inl moves ↦
        let one = ticked moves.0 moves.1 in
        touched_is_first s first P T moves.0 (subst (λ (all : List Action). Follows s P (extended T all)) one h) grouped n goes
        (subst (λ (all : List Action). 1 ≤ touches_by P T all n) one (touched n has))
    | inr no_tick ↦ absurd (nothing_in n (subst (λ (ms : List ℕ). Contains ms n) (quiet no_tick) has))
  ]

  -- and of no others, so that each whose first is among them was touched
  pub due_were_touched : (n : ℕ) → Contains members (first n) → GoesOn s n → 1 ≤ touches_by P T actions n
  due_were_touched n has goes = elim (tick_or_not c) [
    | inl moves ↦
        let one = ticked moves.0 moves.1 in
        let itself : first n ≡ n =
        touched_leads_itself s first P T moves.0 (subst (λ (all : List Action). Follows s P (extended T all)) one h) grouped n goes
        (subst (λ (all : List Action). 1 ≤ touches_by P T all (first n)) one (touched (first n) has)) in
        touched n (subst (λ (m : ℕ). Contains members m) itself has)
    | inr no_tick ↦ absurd (nothing_in (first n) (subst (λ (ms : List ℕ). Contains ms (first n)) (quiet no_tick) has))
  ]
