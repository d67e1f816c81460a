-- Who has to be asked after a command's own actions is in the work.
use Rattle.std.proofs.Common.{◌≡◌, ◌⊎◌, inl, inr, ℕ, ℤ, true, false, List, [], ◌∷◌, refl, subst}
use Rattle.std.specs.Prelude.{int_lt, not}
use Rattle.std.specs.List.{Contains}
use Rattle.ucon_model.specs.declared.command.Caller.{Caller}
use Rattle.ucon_model.specs.declared.command.Command.{Command}
use Rattle.ucon_model.specs.declared.command.Command.TheVariants.{Subject, Object, Set, Env, Tick, Act, Try, Again, Beat, End, Look, Value as Value', Amend}
use Rattle.ucon_model.specs.declared.reply.Head.{Head}
use Rattle.ucon_model.specs.Action.{Action, Trace, extended, tick}
use Rattle.ucon_model.specs.Afterwards.{work_afterwards}
use Rattle.ucon_model.specs.Deadlines.{is_due}
use Rattle.ucon_model.specs.Groups.{FirstsCover, IsLed}
use Rattle.ucon_model.specs.OwnActions.{is_admin, make, own}
use Rattle.ucon_model.specs.Plain.{PlainPolicy}
use Rattle.ucon_model.specs.Readings.{is_accessing, session, tick_of}
use Rattle.ucon_model.specs.Work.{Covers, own_work}
use Rattle.ucon_state.specs.Following.{Follows}
use Rattle.ucon_state.specs.Shown.{Shown}
use Rattle.ucon_cascade.specs.Cascading.{work_of}
use Rattle.ucon_cascade.specs.Grouping.{AreGrouped}
use Rattle.ucon_cascade.specs.Numbering.{IsExact}
use Rattle.ucon_cascade.specs.Passing.{is_tick}
use Rattle.ucon_cascade.specs.Putting.{IsOwnWork}
use Rattle.ucon_cascade.proofs.Covering.{concerned_is_own, member}
use Rattle.ucon_cascade.proofs.Firsts.{FirstsBegin, goes_after, led}
use Rattle.ucon_cascade.proofs.OwnTime.{made_so, unless}

pub tick_or_not : (c : Command) → ((t : ℤ) × (c ≡ Tick t)) ⊎ (is_tick c ≡ false)
tick_or_not (Subject name) = inr refl
tick_or_not (Object name) = inr refl
tick_or_not (Set side name attr v) = inr refl
tick_or_not (Env name v) = inr refl
tick_or_not (Tick t) = inl (t, refl)
tick_or_not (Act s a o) = inr refl
tick_or_not (Try s r o) = inr refl
tick_or_not (Again n) = inr refl
tick_or_not (Beat n) = inr refl
tick_or_not (End n) = inr refl
tick_or_not (Look n) = inr refl
tick_or_not (Value' side name attr) = inr refl
tick_or_not (Amend a) = inr refl

-- a Tick moves the tick, and does nothing else
pub ticks_move : (P : PlainPolicy) (T : Trace) (caller : Caller) (head : Head) (t : ℤ) (actions : List Action) → own P T caller (Tick t) ≡ make head actions → actions ≡ tick t ∷ []
ticks_move P T caller head t actions is =
    made_so (λ head actions. actions ≡ tick t ∷ []) (own P T caller (Tick t)) head actions is
    (unless (λ head actions. actions ≡ tick t ∷ []) (not (is_admin caller)) _ _ (unless (λ head actions. actions ≡ tick t ∷ []) (int_lt t (tick_of T)) _ _ refl))

-- the firsts of those of whom a tick passed a limit, who are permitted, who stand where own actions wrote, and of all where the policy was
-- replaced, cover after them
pub covers_made : FirstsBegin → (s : Shown) (standing : ℕ → List ℕ) (first : ℕ → ℕ) (P : PlainPolicy) (T : Trace) (caller : Caller) (c : Command) (head : Head)
    (actions : List Action) (members : List ℕ) → Follows s P (extended T actions) → IsExact s standing → AreGrouped s first → own P T caller c ≡ make head actions
    → Covers P (extended T actions) (work_afterwards P (extended T actions) c head) → Covers P (extended T actions) (own_work P T caller c head)
    → ((n : ℕ) → IsOwnWork s standing c head n → first n ≡ n → Contains members n)
    → ((t : ℤ) → c ≡ Tick t → (n : ℕ) → is_accessing (session T n) ≡ true → is_due P T t n ≡ true → Contains members n)
    → FirstsCover P (extended T actions) first (work_of members)
covers_made begins s standing first P T caller c head actions members h exact grouped made covers covers_at_once put put_due = by (tick_or_not c)
  where
    U : Trace
    U = extended T actions

    leads : IsLed P U first
    leads = led s first P U h grouped

    at_tick : (t : ℤ) → c ≡ Tick t → FirstsCover P U first (work_of members)
    at_tick t is =
        let one : actions ≡ tick t ∷ [] = ticks_move P T caller head t actions (subst (λ (d : Command). own P T caller d ≡ make head actions) is made) in
        begins P U first (own_work P T caller (Tick t) head) (work_of members) (subst (λ (d : Command). Covers P U (own_work P T caller d head)) is covers_at_once) leads
        (λ n on due. member (first n) members
        (put_due t is (first n) (subst (λ (all : List Action). is_accessing (session (extended T all) (first n)) ≡ true) one (leads.on n on)) due))

    by : ((t : ℤ) × (c ≡ Tick t)) ⊎ (is_tick c ≡ false) → FirstsCover P U first (work_of members)
    by (inl ticks) = at_tick ticks.0 ticks.1
    by (inr no_tick) =
        begins P U first (work_afterwards P U c head) (work_of members) covers leads
        (λ n on concerned. member (first n) members
        (put (first n) (concerned_is_own s standing P U c head h h.tables.sessions.rows exact no_tick (first n) (leads.on n on) concerned)
        (grouped.itself n (goes_after s P U h n on))))
