-- Frames: what an action leaves as it is, and who fails as before.
use Rattle.std.proofs.Common.{◌≡◌, ℕ, ℤ, Bool, true, false, cond, List, [], ◌∷◌, refl, sym, ap, subst, ◌∙◌}
use Rattle.std.specs.Prelude.{◌||◌, nat_eq, Option, Some, None, option_and_then}
use Rattle.std.specs.List.{list_any}
use Rattle.std.proofs.lemmas.Bool.{or_parts}
use Rattle.ucon_base.specs.declared.value.Side.TheVariants as sides
use Rattle.ucon_base.specs.Elements.{Each, each_map}
use Rattle.ucon_model.specs.declared.formula.Form.{Form}
use Rattle.ucon_model.specs.declared.formula.Form.TheVariants.{Done, Within, Every}
use Rattle.ucon_model.specs.declared.formula.Ref.{Ref}
use Rattle.ucon_model.specs.declared.formula.Ref.TheVariants.{Subject, Object, Env}
use Rattle.ucon_model.specs.declared.session.SessionRow.{SessionRow}
use Rattle.ucon_model.specs.Plain.{Bytes, PlainPolicy}
use Rattle.ucon_model.specs.Action.{Action, Trace, subject, object, write, env, tick, act, tries, permit, deny, ends, revoke, amend, extended}
use Rattle.ucon_model.specs.Readings.{in_force, tick_of, session, changed_if, is_accessing}
use Rattle.ucon_model.specs.Truth.{readings, place_of, in_time}
use Rattle.ucon_model.specs.Decision.{failing_of, failing}
use Rattle.ucon_model.specs.Settle.{fails_at}
use Rattle.ucon_model.specs.Reach.{Timed, lasting, owed, timed_truth, places_of, timed_of, ReadAlike, Location, attribute_of, variable_of, kept_at, location_of, replaces, alters, is_ticking, moves, reaches, reached, names, permits}
use Rattle.ucon_model.proofs.Alike.{alike_fails}

-- ---- one action

-- an action that doesn't replace the policy in force leaves it
pub in_force-step : (P : PlainPolicy) (T : Trace) (a : Action) → replaces a ≡ false → in_force P (a ∷ T) ≡ in_force P T
in_force-step P T (amend text Q) h = absurd cc
in_force-step P T a h = refl

-- an action leaves the value that is kept where it alters nothing
pub kept-step : (P : PlainPolicy) (T : Trace) (a : Action) (location : Location) → alters a location ≡ false → kept_at P (a ∷ T) location ≡ kept_at P T location
kept-step P T (write s n x v) (attribute_of sides.Subject name attr) h = rw h refl
kept-step P T (write s n x v) (attribute_of sides.Object name attr) h = rw h refl
kept-step P T (subject n) (attribute_of sides.Subject name attr) h = rw h refl
kept-step P T (object n) (attribute_of sides.Object name attr) h = rw h refl
kept-step P T (env n v) (variable_of name) h = rw h refl
kept-step P T (amend text Q) (attribute_of side name attr) h = absurd cc
kept-step P T (amend text Q) (variable_of name) h = absurd cc
kept-step P T a (attribute_of sides.Subject name attr) h = refl
kept-step P T a (attribute_of sides.Object name attr) h = refl
kept-step P T a (variable_of name) h = refl

-- what a session reads at a place is what is kept there
place_kept : (P : PlainPolicy) (T : Trace) (row : SessionRow) (place : Ref) → place_of P T row place ≡ kept_at P T (location_of row place)
place_kept P T row (Subject attr) = refl
place_kept P T row (Object attr) = refl
place_kept P T row (Env name) = refl

pub place-step : (P : PlainPolicy) (T : Trace) (a : Action) (row : SessionRow) (place : Ref) → alters a (location_of row place) ≡ false
    → place_of P (a ∷ T) row place ≡ place_of P T row place
place-step P T a row place h = place_kept P (a ∷ T) row place ∙ kept-step P T a (location_of row place) h ∙ sym (place_kept P T row place)

once : (form : Form) (t now start : ℤ) (last : Option ℤ) → is_ticking form ≡ false → in_time t start form last ≡ in_time now start form last
once Done t now start last h = refl
once (Within n) t now start last h = absurd cc
once (Every n) t now start last h = absurd cc

-- an action leaves a timed part that it doesn't move
pub timed-step : (P : PlainPolicy) (T : Trace) (a : Action) (row : SessionRow) (part : Timed) → moves row a part ≡ false
    → timed_truth (readings P (a ∷ T)) row part ≡ timed_truth (readings P T) row part
timed-step P T (tick t) row (lasting n) h = absurd cc
timed-step P T (tick t) row (owed d) h = once d.form t (tick_of T) row.start _ h
timed-step P T (act s x o) row (owed d) h = rw h refl
timed-step P T a row (lasting n) h = refl
timed-step P T a row (owed d) h = refl

-- an action leaves each session that it doesn't name
pub session-step : (T : Trace) (a : Action) (n : ℕ) → names n a ≡ false → session (a ∷ T) n ≡ session T n
session-step T (tries m c s r o) n h = rw h refl
session-step T (permit m) n h = rw h refl
session-step T (deny m l) n h = rw h refl
session-step T (ends m) n h = rw h refl
session-step T (revoke m l) n h = rw h refl
session-step T a n h = refl

-- ---- what one action doesn't reach

pub none_of : {T : Type 0} (p : T → Bool) (xs : List T) → list_any p xs ≡ false → Each (λ x. p x ≡ false) xs
none_of p [] h = tt
none_of p (x ∷ xs) h = let parts = or_parts (p x) (list_any p xs) h in (parts.0, none_of p xs parts.1)

-- what it takes that an action doesn't reach a session
record IsUnreached (Q : PlainPolicy) (row : SessionRow) (a : Action) : Type 0 where
  policy : replaces a ≡ false
  places : Each (λ place. alters a (location_of row place) ≡ false) (places_of Q row)
  timed : Each (λ part. moves row a part ≡ false) (timed_of Q row)

unreached_parts : (Q : PlainPolicy) (row : SessionRow) (a : Action) → reaches Q row a ≡ false → IsUnreached Q row a
unreached_parts Q row a h =
    let altered : Bool = list_any (λ place. alters a (location_of row place)) (places_of Q row) in
    let moved : Bool = list_any (moves row a) (timed_of Q row) in
    let parts = or_parts (replaces a) (altered || moved) h in
    let rest = or_parts altered moved parts.1 in
    record {
      policy = parts.0;
      places = none_of (λ place. alters a (location_of row place)) (places_of Q row) rest.0;
      timed = none_of (moves row a) (timed_of Q row) rest.1;
    }

-- a session that an action doesn't reach reads alike before and after it
alike-step : (P : PlainPolicy) (T : Trace) (a : Action) (row : SessionRow) (Q : PlainPolicy) → IsUnreached Q row a
    → ReadAlike Q (readings P (a ∷ T)) row (readings P T) row
alike-step P T a row Q h = record {
  right = refl;
  places = each_map (λ place. alters a (location_of row place) ≡ false) (λ place. place_of P (a ∷ T) row place ≡ place_of P T row place)
      (place-step P T a row) (places_of Q row) h.places;
  timed = each_map (λ part. moves row a part ≡ false) (λ part. timed_truth (readings P (a ∷ T)) row part ≡ timed_truth (readings P T) row part)
      (timed-step P T a row) (timed_of Q row) h.timed;
}

-- ---- many actions

-- what a session's right says after a trace
abbrev pub said_of : PlainPolicy → Trace → SessionRow → Option Bytes
said_of P T row = failing_of (in_force P T) (readings P T) row

-- under one policy, a session that reads alike before and after an action is said the same of
pub said_alike : (P : PlainPolicy) (T : Trace) (a : Action) (row : SessionRow) → replaces a ≡ false
    → ReadAlike (in_force P T) (readings P (a ∷ T)) row (readings P T) row → said_of P (a ∷ T) row ≡ said_of P T row
said_alike P T a row stays h =
    ap (λ (Q : PlainPolicy). failing_of Q (readings P (a ∷ T)) row) (in_force-step P T a stays)
    ∙ alike_fails (in_force P T) (readings P (a ∷ T)) row (readings P T) row h

-- what a session's right says is as before, where no action reaches it
pub unreached : (P : PlainPolicy) (T : Trace) (actions : List Action) (row : SessionRow) → list_any (reaches (in_force P T) row) actions ≡ false
    → said_of P (extended T actions) row ≡ said_of P T row
unreached P T [] row h = refl
unreached P T (a ∷ actions) row h =
    let parts = or_parts (reaches (in_force P T) row a) (list_any (reaches (in_force P T) row) actions) h in
    let here = unreached_parts (in_force P T) row a parts.0 in
    let later : list_any (reaches (in_force P (a ∷ T)) row) actions ≡ false =
    subst (λ (Q : PlainPolicy). list_any (reaches Q row) actions ≡ false) (sym (in_force-step P T a here.policy)) parts.1 in
    unreached P (a ∷ T) actions row later ∙ said_alike P T a row here.policy (alike-step P T a row (in_force P T) here)

unnamed : (T : Trace) (actions : List Action) (n : ℕ) → list_any (names n) actions ≡ false → session (extended T actions) n ≡ session T n
unnamed T [] n h = refl
unnamed T (a ∷ actions) n h =
    let parts = or_parts (names n a) (list_any (names n) actions) h in
    unnamed (a ∷ T) actions n parts.1 ∙ session-step T a n parts.0

-- who has one row at both times, of which the same is said, fails alike
pub fails_alike : (P : PlainPolicy) (T U : Trace) (n : ℕ) → session U n ≡ session T n → ((row : SessionRow) → session T n ≡ Some row → said_of P U row ≡ said_of P T row)
    → fails_at P U n ≡ fails_at P T n
fails_alike P T U n same said = rw same (by_row (session T n) (is_accessing (session T n)) said)
  where
    by_row : (o : Option SessionRow) (b : Bool) → ((row : SessionRow) → o ≡ Some row → said_of P U row ≡ said_of P T row)
        → cond b (option_and_then (said_of P U) o) None ≡ cond b (option_and_then (said_of P T) o) None
    by_row None b said = refl
    by_row (Some row) true said = said row refl
    by_row (Some row) false said = refl

fails_same : (P : PlainPolicy) (T : Trace) (actions : List Action) (n : ℕ) → session (extended T actions) n ≡ session T n → reached P T actions n ≡ false
    → fails_at P (extended T actions) n ≡ fails_at P T n
fails_same P T actions n same h = fails_alike P T (extended T actions) n same (λ row is. unreached P T actions row (rw is at h))

-- a session that no action names or reaches fails as before
pub fails_as_before : (P : PlainPolicy) (T : Trace) (actions : List Action) (n : ℕ) → list_any (names n) actions ≡ false → reached P T actions n ≡ false
    → fails_at P (extended T actions) n ≡ fails_at P T n
fails_as_before P T actions n unnamed_one h = fails_same P T actions n (unnamed T actions n unnamed_one) h

-- ---- who is accessing afterwards

new_or_same : (b : Bool) (new : SessionRow) (o : Option SessionRow) → is_accessing (Some new) ≡ false → is_accessing (cond b (Some new) o) ≡ true
    → cond b (Some new) o ≡ o
new_or_same true new o off on = absurd cc
new_or_same false new o off on = refl

off_or_same : (b : Bool) (change : SessionRow → SessionRow) (o : Option SessionRow) → ((row : SessionRow) → is_accessing (Some (change row)) ≡ false)
    → is_accessing (changed_if b change o) ≡ true → changed_if b change o ≡ o
off_or_same true change None off on = refl
off_or_same true change (Some row) off on = absurd (let o = off row in cc)
off_or_same false change o off on = refl

-- who is accessing after an action that doesn't permit it stands as before
on-step : (T : Trace) (a : Action) (n : ℕ) → permits n a ≡ false → is_accessing (session (a ∷ T) n) ≡ true → session (a ∷ T) n ≡ session T n
on-step T (tries m c s r o) n h on = new_or_same (nat_eq n m) _ (session T n) refl on
on-step T (permit m) n h on = rw h refl
on-step T (deny m l) n h on = off_or_same (nat_eq n m) _ (session T n) (λ row. refl) on
on-step T (ends m) n h on = off_or_same (nat_eq n m) _ (session T n) (λ row. refl) on
on-step T (revoke m l) n h on = off_or_same (nat_eq n m) _ (session T n) (λ row. refl) on
on-step T a n h on = refl

pub still_on : (T : Trace) (actions : List Action) (n : ℕ) → list_any (permits n) actions ≡ false → is_accessing (session (extended T actions) n) ≡ true
    → session (extended T actions) n ≡ session T n
still_on T [] n h on = refl
still_on T (a ∷ actions) n h on =
    let parts = or_parts (permits n a) (list_any (permits n) actions) h in
    let later : session (extended (a ∷ T) actions) n ≡ session (a ∷ T) n = still_on (a ∷ T) actions n parts.1 on in
    later ∙ on-step T a n parts.0 (ap is_accessing (sym later) ∙ on)

on_by_test : (b : Bool) (o : Option Bytes) (label : Bytes) → cond b o None ≡ Some label → b ≡ true
on_by_test true o label h = refl
on_by_test false o label h = absurd cc

-- who fails is accessing
pub fails_on : (P : PlainPolicy) (T : Trace) (n : ℕ) (label : Bytes) → fails_at P T n ≡ Some label → is_accessing (session T n) ≡ true
fails_on P T n label h = on_by_test (is_accessing (session T n)) (failing (in_force P T) (readings P T) n) label h

-- who fails after actions that neither permit nor reach it failed before them
pub failed_before : (P : PlainPolicy) (T : Trace) (actions : List Action) (n : ℕ) (label : Bytes) → list_any (permits n) actions ≡ false
    → reached P T actions n ≡ false → fails_at P (extended T actions) n ≡ Some label → fails_at P T n ≡ Some label
failed_before P T actions n label h unreached_one e =
    sym (fails_same P T actions n (still_on T actions n h (fails_on P (extended T actions) n label e)) unreached_one) ∙ e
