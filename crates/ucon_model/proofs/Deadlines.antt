-- What a tick changes: only where it passes a limit.
use Rattle.std.proofs.Common.{◌≡◌, ◌⊎◌, inl, inr, ℕ, ℤ, true, false, ◌∷◌, refl, sym, ◌∙◌, arith}
use Rattle.std.specs.Prelude.{◌≤ℤ◌, ◌+ℤ◌, ◌&&◌, int_le, int_lt, Option, Some, None, unwrap_or}
use Rattle.std.specs.Int.{int_max}
use Rattle.std.specs.List.{list_any}
use Rattle.std.proofs.lemmas.Bool.{cases_Bool}
use Rattle.std.proofs.lemmas.Int.{ints}
use Rattle.ucon_base.specs.Elements.{each_map, each_always}
use Rattle.ucon_model.specs.declared.formula.Form.{Form}
use Rattle.ucon_model.specs.declared.formula.Form.TheVariants.{Done, Within, Every}
use Rattle.ucon_model.specs.declared.session.SessionRow.{SessionRow}
use Rattle.ucon_model.specs.Plain.{PlainPolicy}
use Rattle.ucon_model.specs.Action.{Trace, tick}
use Rattle.ucon_model.specs.Readings.{in_force, tick_of}
use Rattle.ucon_model.specs.Truth.{readings, place_of, in_time}
use Rattle.ucon_model.specs.Settle.{fails_at}
use Rattle.ucon_model.specs.Reach.{Timed, lasting, owed, timed_truth, places_of, timed_of, ReadAlike}
use Rattle.ucon_model.specs.Deadlines.{form_limit, limit_of, passes, is_due}
use Rattle.ucon_model.specs.Work.{Covers}
use Rattle.ucon_model.proofs.Frames.{place-step, none_of, said_alike, fails_alike}

same_side_of : (now t limit : ℤ) → now ≤ℤ t → (int_le now limit && int_lt limit t) ≡ false → int_le t limit ≡ int_le now limit
same_side_of now t limit le h = grind (arith, ints)

same_in_time : (now t start : ℤ) (form : Form) (last : Option ℤ) → now ≤ℤ t → passes now t (form_limit start form last) ≡ false
    → in_time t start form last ≡ in_time now start form last
same_in_time now t start Done last le h = refl
same_in_time now t start (Within n) None le h = refl
same_in_time now t start (Within n) (Some m) le h = same_side_of now t (m +ℤ n) le h
same_in_time now t start (Every n) last le h = same_side_of now t (int_max start (unwrap_or last start) +ℤ n) le h

-- a tick leaves a timed part whose limit it doesn't pass
pub limit-step : (P : PlainPolicy) (T : Trace) (t : ℤ) (row : SessionRow) (part : Timed) → tick_of T ≤ℤ t
    → passes (tick_of T) t (limit_of (readings P T) row part) ≡ false → timed_truth (readings P (tick t ∷ T)) row part ≡ timed_truth (readings P T) row part
limit-step P T t row (lasting n) le h = same_side_of (tick_of T) t (row.start +ℤ n) le h
limit-step P T t row (owed d) le h = same_in_time (tick_of T) t row.start d.form _ le h

alike-tick : (P : PlainPolicy) (T : Trace) (t : ℤ) (Q : PlainPolicy) (row : SessionRow) → tick_of T ≤ℤ t
    → list_any (λ part. passes (tick_of T) t (limit_of (readings P T) row part)) (timed_of Q row) ≡ false
    → ReadAlike Q (readings P (tick t ∷ T)) row (readings P T) row
alike-tick P T t Q row le h = record {
  right = refl;
  places = each_always (λ place. place_of P (tick t ∷ T) row place ≡ place_of P T row place) (λ place. place-step P T (tick t) row place refl) (places_of Q row);
  timed = each_map (λ part. passes (tick_of T) t (limit_of (readings P T) row part) ≡ false)
      (λ part. timed_truth (readings P (tick t ∷ T)) row part ≡ timed_truth (readings P T) row part)
      (λ part is. limit-step P T t row part le is) (timed_of Q row)
      (none_of (λ part. passes (tick_of T) t (limit_of (readings P T) row part)) (timed_of Q row) h);
}

-- a tick leaves whether a session fails, where it passes none of its limits
pub tick_fails_as_before : (P : PlainPolicy) (T : Trace) (t : ℤ) (n : ℕ) → tick_of T ≤ℤ t → is_due P T t n ≡ false → fails_at P (tick t ∷ T) n ≡ fails_at P T n
tick_fails_as_before P T t n le h =
    fails_alike P T (tick t ∷ T) n refl
    (λ row is. said_alike P T (tick t) row refl (alike-tick P T t (in_force P T) row le (rw is at h)))

-- where nobody failed, those are enough of whom the tick passes a limit
pub covers-tick : (P : PlainPolicy) (T : Trace) (t : ℤ) → tick_of T ≤ℤ t → ((n : ℕ) → fails_at P T n ≡ None) → Covers P (tick t ∷ T) (is_due P T t)
covers-tick P T t le none n label e = by_test (cases_Bool (is_due P T t n))
  where
    by_test : (is_due P T t n ≡ true) ⊎ (is_due P T t n ≡ false) → is_due P T t n ≡ true
    by_test (inl due) = due
    by_test (inr not_due) = absurd (let before = sym (tick_fails_as_before P T t n le not_due) ∙ e in let nothing : fails_at P T n ≡ None = none n in cc)
