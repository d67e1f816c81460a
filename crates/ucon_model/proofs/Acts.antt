-- An act makes nobody fail.
use Rattle.std.proofs.Common.{◌≡◌, ℕ, ℤ, Bool, true, false, cond, List, [], ◌∷◌, refl, ap, ◌∙◌, arith}
use Rattle.std.specs.Prelude.{◌≤ℤ◌, ◌+ℤ◌, ◌&&◌, not, Option, Some, None, option_and_then, unwrap_or}
use Rattle.std.specs.Int.{int_max}
use Rattle.std.specs.Option.{option_map_or}
use Rattle.std.specs.Str.{bytes_eq}
use Rattle.std.proofs.lemmas.Int.{ints, clamps}
use Rattle.ucon_model.specs.declared.formula.Form.{Form}
use Rattle.ucon_model.specs.declared.formula.Form.TheVariants.{Done, Within, Every}
use Rattle.ucon_model.specs.declared.formula.Obligation.{Obligation}
use Rattle.ucon_model.specs.declared.session.SessionRow.{SessionRow}
use Rattle.ucon_model.specs.Plain.{Bytes, PlainExpr, PlainFormula, both, either, negation, compare, lasts, PlainTest, authorisation, duty, condition, PlainPredicate, PlainRight, PlainPolicy}
use Rattle.ucon_model.specs.Action.{Trace, act}
use Rattle.ucon_model.specs.Readings.{in_force, tick_of, moment, session, is_accessing}
use Rattle.ucon_model.specs.Truth.{readings, place_of, value_of, holds, in_time, is_done, truth}
use Rattle.ucon_model.specs.Decision.{right_named, ongoing, first_false, no_right, failing_of}
use Rattle.ucon_model.specs.Places.{expr_places}
use Rattle.ucon_model.specs.Settle.{fails_at}
use Rattle.ucon_base.specs.Elements.{each_always}
use Rattle.ucon_model.specs.History.{History, trace}
use Rattle.ucon_model.specs.Sound.{IsTimely}
use Rattle.ucon_model.proofs.SortsOfValues.{at_most, is_at_most}
use Rattle.ucon_model.proofs.Histories.{sound_anyway}
use Rattle.ucon_model.proofs.Alike.{value_alike}
use Rattle.ucon_model.proofs.Frames.{in_force-step, place-step, said_of}

-- ---- an act changes no value

act_value : (P : PlainPolicy) (T : Trace) (s a o : Bytes) (row : SessionRow) (e : PlainExpr)
    → value_of (place_of P (act s a o ∷ T) row) e ≡ value_of (place_of P T row) e
act_value P T s a o row e =
    value_alike (place_of P (act s a o ∷ T) row) (place_of P T row) e
    (each_always (λ place. place_of P (act s a o ∷ T) row place ≡ place_of P T row place) (λ place. place-step P T (act s a o) row place refl) (expr_places e))

act_holds : (P : PlainPolicy) (T : Trace) (s a o : Bytes) (row : SessionRow) (f : PlainFormula)
    → holds (readings P (act s a o ∷ T)) row f ≡ holds (readings P T) row f
act_holds P T s a o row (both f g) = rw (act_holds P T s a o row f, act_holds P T s a o row g) refl
act_holds P T s a o row (either f g) = rw (act_holds P T s a o row f, act_holds P T s a o row g) refl
act_holds P T s a o row (negation f) = ap not (act_holds P T s a o row f)
act_holds P T s a o row (compare op x y) = rw (act_value P T s a o row x, act_value P T s a o row y) refl
act_holds P T s a o row (lasts n) = refl

-- ---- what was in time stays so

still_in_time : (now start : ℤ) (form : Form) (last : Option ℤ) → ((m : ℤ) → last ≡ Some m → m ≤ℤ now) → in_time now start form last ≡ true
    → in_time now start form (Some now) ≡ true
still_in_time now start Done last before h = refl
still_in_time now start (Within n) None before h = absurd cc
still_in_time now start (Within n) (Some m) before h =
    at_most now (now +ℤ n) (omega (arith, ints, before m refl, is_at_most now (m +ℤ n) h))
still_in_time now start (Every n) None before h =
    at_most now (int_max start now +ℤ n) (omega (arith, ints, clamps, is_at_most now (int_max start start +ℤ n) h))
still_in_time now start (Every n) (Some m) before h =
    at_most now (int_max start now +ℤ n) (omega (arith, ints, clamps, before m refl, is_at_most now (int_max start m +ℤ n) h))

done_or_not : (now start : ℤ) (form : Form) (last : Option ℤ) (b : Bool) → ((m : ℤ) → last ≡ Some m → m ≤ℤ now) → in_time now start form last ≡ true
    → in_time now start form (cond b (Some now) last) ≡ true
done_or_not now start form last true before h = still_in_time now start form last before h
done_or_not now start form last false before h = h

act_done : (P : PlainPolicy) (T : Trace) (s a o : Bytes) (row : SessionRow) (d : Obligation) → IsTimely T → is_done (readings P T) row d ≡ true
    → is_done (readings P (act s a o ∷ T)) row d ≡ true
act_done P T s a o row d timely h =
    let who : Bytes = unwrap_or d.by_subject row.subject in
    let on : Bytes = unwrap_or d.on_object row.object in
    done_or_not (tick_of T) row.start d.form (moment who d.action on T) (bytes_eq who s && bytes_eq d.action a && bytes_eq on o) (timely who d.action on) h

act_truth : (P : PlainPolicy) (T : Trace) (s a o : Bytes) (row : SessionRow) (t : PlainTest) → IsTimely T → truth (readings P T) row t ≡ true
    → truth (readings P (act s a o ∷ T)) row t ≡ true
act_truth P T s a o row (authorisation f) timely h = act_holds P T s a o row f ∙ h
act_truth P T s a o row (duty d) timely h = act_done P T s a o row d timely h
act_truth P T s a o row (condition f) timely h = act_holds P T s a o row f ∙ h

-- ---- who didn't fail doesn't

none_false : (b x y : Bool) (label : Bytes) (rest more : Option Bytes) → (x ≡ true → y ≡ true) → (rest ≡ None → more ≡ None)
    → cond (b && not x) (Some label) rest ≡ None → cond (b && not y) (Some label) more ≡ None
none_false false x y label rest more better later h = later h
none_false true true y label rest more better later h = rw (better refl) (later h)
none_false true false y label rest more better later h = absurd cc

act_first : (P : PlainPolicy) (T : Trace) (s a o : Bytes) (row : SessionRow) (ps : List PlainPredicate) → IsTimely T
    → first_false (readings P T) row ongoing ps ≡ None → first_false (readings P (act s a o ∷ T)) row ongoing ps ≡ None
act_first P T s a o row [] timely h = refl
act_first P T s a o row (p ∷ ps) timely h =
    none_false (ongoing p) (truth (readings P T) row p.test) (truth (readings P (act s a o ∷ T)) row p.test) p.label
    (first_false (readings P T) row ongoing ps) (first_false (readings P (act s a o ∷ T)) row ongoing ps)
    (act_truth P T s a o row p.test timely) (act_first P T s a o row ps timely) h

act_right : (P : PlainPolicy) (T : Trace) (s a o : Bytes) (row : SessionRow) (r : Option PlainRight) → IsTimely T
    → option_map_or (λ right. first_false (readings P T) row ongoing right.preds) r (Some no_right) ≡ None
    → option_map_or (λ right. first_false (readings P (act s a o ∷ T)) row ongoing right.preds) r (Some no_right) ≡ None
act_right P T s a o row None timely h = h
act_right P T s a o row (Some right) timely h = act_first P T s a o row right.preds timely h

act_said : (P : PlainPolicy) (T : Trace) (s a o : Bytes) (row : SessionRow) → IsTimely T → said_of P T row ≡ None → said_of P (act s a o ∷ T) row ≡ None
act_said P T s a o row timely h =
    ap (λ (Q : PlainPolicy). failing_of Q (readings P (act s a o ∷ T)) row) (in_force-step P T (act s a o) refl)
    ∙ act_right P T s a o row (right_named (in_force P T).rights row.right) timely h

act_by : (P : PlainPolicy) (T : Trace) (s a o : Bytes) (b : Bool) (row : Option SessionRow) → IsTimely T
    → cond b (option_and_then (said_of P T) row) None ≡ None → cond b (option_and_then (said_of P (act s a o ∷ T)) row) None ≡ None
act_by P T s a o false row timely h = refl
act_by P T s a o true None timely h = refl
act_by P T s a o true (Some row) timely h = act_said P T s a o row timely h

pub act_fails_none : (P : PlainPolicy) (T : Trace) (s a o : Bytes) (n : ℕ) → IsTimely T → fails_at P T n ≡ None → fails_at P (act s a o ∷ T) n ≡ None
act_fails_none P T s a o n timely h = act_by P T s a o (is_accessing (session T n)) (session T n) timely h

-- ---- no act was done after the tick

pub timely_after : (P : PlainPolicy) (H : History) → IsTimely (trace P H)
timely_after P H = (sound_anyway P H).timely
