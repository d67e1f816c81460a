-- The deadlines stay timely after a head is followed.
use Rattle.std.proofs.Common.{◌≡◌, ◌≢◌, ◌⊎◌, inl, inr, ℕ, ℤ, Bool, true, false, cond, List, [], ◌∷◌, refl, sym, subst}
use Rattle.std.specs.Prelude.{Option, Some, None, IsSome}
use Rattle.ucon_actions.specs.Gives.{is_amendment}
use Rattle.ucon_model.specs.declared.command.Caller.{Caller}
use Rattle.ucon_model.specs.declared.command.Command.{Command}
use Rattle.ucon_model.specs.declared.command.Command.TheVariants.{Act}
use Rattle.ucon_model.specs.declared.reply.Head.{Head}
use Rattle.ucon_model.specs.declared.reply.Head.TheVariants as heads
use Rattle.ucon_model.specs.declared.session.SessionRow.{SessionRow}
use Rattle.ucon_model.specs.Action.{Action, Trace, act, extended}
use Rattle.ucon_model.specs.OwnActions.{make, own}
use Rattle.ucon_model.specs.Plain.{Bytes, PlainPolicy}
use Rattle.ucon_model.specs.Readings.{is_accessing_state, session}
use Rattle.ucon_model.specs.Usages.{IsUsageTold, going_on}
use Rattle.ucon_state.specs.Shown.{Shown}
use Rattle.ucon_collections.specs.Deadlines.{Gives}
use Rattle.ucon_cascade.specs.Passing.{WereMade, is_tick}
use Rattle.ucon_cascade.specs.Timely.{AreTimely, GivesFirst}
use Rattle.ucon_cascade.proofs.Alike.{AreOne, KeepsAll}
use Rattle.ucon_cascade.proofs.Giving.{first_after}
use Rattle.ucon_cascade.proofs.Monitored.{HeadsTell}
use Rattle.ucon_cascade.proofs.Owing.{obligations_are_met}
use Rattle.ucon_cascade.proofs.OwnTime.{act_or_not, acts_are_done, is_act, own_actions_take_no_time}
use Rattle.ucon_cascade.proofs.Timing.{SameTime, timely_act, timely_still, timely_with, timely_without}

-- the actions of an act, or actions that take no time
pub data IsActOrNot (P : PlainPolicy) (T : Trace) (head : Head) (actions : List Action) : Type 0 where
  by_act : (s a o : Bytes) → head ≡ heads.Ok → actions ≡ act s a o ∷ [] → IsActOrNot P T head actions
  by_others : SameTime P T (extended T actions) → IsActOrNot P T head actions

pub acted : (P : PlainPolicy) (T : Trace) (caller : Caller) (c : Command) (head : Head) (actions : List Action) → is_amendment c ≡ false → is_tick c ≡ false
    → own P T caller c ≡ make head actions → IsActOrNot P T head actions
acted P T caller c head actions no_amend no_tick made = by (act_or_not c)
  where
    by : ((s : Bytes) × (a : Bytes) × (o : Bytes) × (c ≡ Act s a o)) ⊎ (is_act c ≡ false) → IsActOrNot P T head actions
    by (inl one) =
        let done = acts_are_done P T caller one.0 one.1 one.2 head actions (subst (λ (d : Command). own P T caller d ≡ make head actions) one.3 made) in
        by_act one.0 one.1 one.2 done.0 done.1
    by (inr no_act) = by_others (own_actions_take_no_time P T caller c head actions no_amend no_tick no_act made)

-- a head that permits and ends nobody
pub timely_quiet : HeadsTell → (s : Shown) (ds : List (Option ℤ)) (P : PlainPolicy) (T : Trace) (caller : Caller) (c : Command) (head : Head) (actions : List Action)
    → is_amendment c ≡ false → is_tick c ≡ false → WereMade s ds P T caller c head actions → ((n : ℕ) → head ≢ heads.Permitted n) → ((n : ℕ) → head ≢ heads.Ended n)
    → AreTimely ds P (extended T actions)
timely_quiet tell_it s ds P T caller c head actions no_amend no_tick were no_permit no_end = by (acted P T caller c head actions no_amend no_tick were.made)
  where
    by : IsActOrNot P T head actions → AreTimely ds P (extended T actions)
    by (by_act s a o ok is) = subst (λ (all : List Action). AreTimely ds P (extended T all)) (sym is) (timely_act obligations_are_met ds P T s a o were.sound.timely were.nobody were.timely)
    by (by_others time) =
        timely_still ds ds P T (extended T actions) time (λ m. (tell_it P T caller c head actions m were.sound.numbered were.made).same (no_permit m) (no_end m)) (λ m. refl) were.timely

-- one that ends session n, which loses its deadline
pub timely_ended : HeadsTell → (s : Shown) (ds es : List (Option ℤ)) (P : PlainPolicy) (T : Trace) (caller : Caller) (c : Command) (n : ℕ) (actions : List Action)
    → is_amendment c ≡ false → is_tick c ≡ false → WereMade s ds P T caller c (heads.Ended n) actions → Gives ds es n None → AreTimely es P (extended T actions)
timely_ended tell_it s ds es P T caller c n actions no_amend no_tick were gives = by (acted P T caller c (heads.Ended n) actions no_amend no_tick were.made)
  where
    told : (m : ℕ) → IsUsageTold (heads.Ended n) m (session T m) (session (extended T actions) m)
    told m = tell_it P T caller c (heads.Ended n) actions m were.sound.numbered were.made

    by : IsActOrNot P T (heads.Ended n) actions → AreTimely es P (extended T actions)
    by (by_act s a o ok is) = absurd (let no : heads.Ended n ≡ heads.Ok = ok in cc)
    by (by_others time) =
        timely_without ds es P T (extended T actions) time n gives ((told n).over refl)
        (λ m other. (told m).same (λ h. cc) (λ h. (let back : n ≡ m = cc in other (sym back)))) were.timely

-- the row of a usage that goes on
pub begun_row : (o : Option SessionRow) → IsSome (going_on o) → (row : SessionRow) × (o ≡ Some row) × (going_on o ≡ Some row)
begun_row None some = absurd (let no : false ≡ true = some in cc)
begun_row (Some row) some = (row, refl, by (is_accessing_state row.state) some)
  where
    by : (b : Bool) → IsSome (cond b (Some row) None) → cond b (Some row) None ≡ Some row
    by true some = refl
    by false some = absurd (let no : false ≡ true = some in cc)

-- one that permits session n, which gets the first limit of what holds
pub timely_permitted : HeadsTell → KeepsAll → AreOne → (s : Shown) (ds es : List (Option ℤ)) (P : PlainPolicy) (T : Trace) (caller : Caller) (c : Command) (n : ℕ)
    (actions : List Action) → is_amendment c ≡ false → is_tick c ≡ false → WereMade s ds P T caller c (heads.Permitted n) actions
    → GivesFirst s ds es n → AreTimely es P (extended T actions)
timely_permitted tell_it keeps one s ds es P T caller c n actions no_amend no_tick were gives = by (acted P T caller c (heads.Permitted n) actions no_amend no_tick were.made)
  where
    U : Trace
    U = extended T actions

    told : (m : ℕ) → IsUsageTold (heads.Permitted n) m (session T m) (session U m)
    told m = tell_it P T caller c (heads.Permitted n) actions m were.sound.numbered were.made

    there : (row : SessionRow) × (session U n ≡ Some row) × (going_on (session U n) ≡ Some row)
    there = begun_row (session U n) ((told n).begun refl).1

    by : IsActOrNot P T (heads.Permitted n) actions → AreTimely es P U
    by (by_act s a o ok is) = absurd (let no : heads.Permitted n ≡ heads.Ok = ok in cc)
    by (by_others time) =
        timely_with ds es P T U time n there.0 gives.first (first_after keeps one s P U were.follows n there.0 there.1 gives.first gives.is) gives.gives there.2
        (λ m other. (told m).same (λ h. (let back : n ≡ m = cc in other (sym back))) (λ h. cc)) were.timely
