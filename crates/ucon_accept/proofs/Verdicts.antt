-- The verdict that the right lines lead to is the one of the definitions.
use Rattle.std.proofs.Common.{◌≡◌, ◌∙◌, ℕ, ◌+◌, Bool, true, false, List, [], ◌∷◌, refl, sym, ap}
use Rattle.std.specs.Prelude.{◌&&◌, not, Option, Some, None, option_and_then, if◌then◌else◌}
use Rattle.std.specs.Option.{option_map_or}
use Rattle.ucon_model.specs.declared.session.SessionRow.{SessionRow}
use Rattle.ucon_model.specs.Decision.{first_false, first_false_of, is_duty, ongoing, pre_check, pre_duty, right_named, verdict}
use Rattle.ucon_model.specs.Plain.{PlainTest, authorisation, duty, condition, PlainPredicate, PlainRight, PlainPolicy}
use Rattle.ucon_model.specs.Truth.{Readings, truth}
use Rattle.ucon_accept.specs.Checking.{first_untrue, is_on_duty, verdict_told}
use Rattle.ucon_accept.specs.Explanation.{factor_of, line, lines, lines_from}

on_duty : (t : PlainTest) → is_on_duty (factor_of t) ≡ is_duty t
on_duty (authorisation f) = refl
on_duty (duty o) = refl
on_duty (condition f) = refl

-- the predicates before the usage that are obligations, or the others
abbrev sort_by : Bool → PlainPredicate → Bool
sort_by true = pre_duty
sort_by false = pre_check

first_label : (R : Readings) (row : SessionRow) (duties : Bool) (i : ℕ) (ps : List PlainPredicate)
    → first_untrue duties (lines_from R row i ps) ≡ first_false R row (sort_by duties) ps
first_label R row duties i [] = refl
first_label R row duties i (p ∷ ps) = by_phase duties (ongoing p) refl (first_label R row duties (i + 1) ps)
  where
    by_phase : (duties b : Bool) → ongoing p ≡ b → first_untrue duties (lines_from R row (i + 1) ps) ≡ first_false R row (sort_by duties) ps
        → first_untrue duties (if b then lines_from R row (i + 1) ps else line R row i p ∷ lines_from R row (i + 1) ps)
        ≡ (if sort_by duties p && not (truth R row p.test) then Some p.label else first_false R row (sort_by duties) ps)
    by_phase true true is on = rw is on
    by_phase false true is on = rw is on
    by_phase true false is on = rw (is, on_duty p.test, on) refl
    by_phase false false is on = rw (is, on_duty p.test, on) refl

first_label_of : (P : PlainPolicy) (R : Readings) (row : SessionRow) (duties : Bool) → first_untrue duties (lines P R row) ≡ first_false_of P R (sort_by duties) row
first_label_of P R row duties = by_right (right_named P.rights row.right)
  where
    by_right : (o : Option PlainRight) → first_untrue duties (option_map_or (λ right. lines_from R row 0 right.preds) o [])
        ≡ option_and_then (λ right. first_false R row (sort_by duties) right.preds) o
    by_right None = refl
    by_right (Some right) = first_label R row duties 0 right.preds

pub verdict_of_lines : (P : PlainPolicy) (R : Readings) (n : ℕ) (row : SessionRow) → R.row n ≡ Some row → verdict_told (lines P R row) ≡ verdict P R n
verdict_of_lines P R n row there =
    let none : option_and_then (first_false_of P R pre_check) (R.row n) ≡ first_untrue false (lines P R row) =
    ap (option_and_then (first_false_of P R pre_check)) there ∙ sym (first_label_of P R row false) in
    let duty : option_and_then (first_false_of P R pre_duty) (R.row n) ≡ first_untrue true (lines P R row) =
    ap (option_and_then (first_false_of P R pre_duty)) there ∙ sym (first_label_of P R row true) in
    rw (none, duty) refl
