use Rattle.std.proofs.Common.{◌≡◌, ◌∙◌, ◌<◌, ◌≤◌, ℕ, ◌+◌, true, false, List, [], ◌∷◌, ◌++◌, drop, length, map, take, sym, ap, subst, arith, rules}
use Rattle.std.specs.Prelude.{Some}
use Rattle.std.specs.List.{slice_get}
use Rattle.std.proofs.lemmas.Grind.{common_steps}
use Rattle.std.proofs.lemmas.List.{append-nil, length-map}
use Rattle.std.proofs.lemmas.Option.{slice_get-map, slice_get_within}
use Rattle.ucon_model.specs.Decision.{ongoing}
use Rattle.ucon_model.specs.Plain.{PlainPredicate}
use Rattle.ucon_model.specs.Views.{predicate_of}
use Rattle.ucon_accept.specs.Explanation.{PlainWhy, line, lines_from, why_of}
use Rattle.ucon_accept.proofs.Lines.{lines_from-before, lines_from-ongoing, no_set_in_rest, one_right, wrong_end, wrong_here}
use Rattle.ucon_accept.proofs.checker.check_lines.Goals as goal
use Rattle.ucon_accept.proofs.checker.check_lines.Goals.{then-not-is_ongoing+else-not-has_line, else-not-is_ongoing}

pub returns-then-not-has_line-clause-err : goal.returns-then-not-has_line-clause-err
returns-then-not-has_line-clause-err g c =
    let R = g.V.View.readings c.args.view.now in
    let row = c.args.row.now in
    let i = c.loop-i.i in
    let n = c.loop-i.number in
    let given : List PlainWhy = map why_of c.args.whys.now in
    let right : List PlainWhy = lines_from R row 0 (map predicate_of c.args.preds.now) in
    let p : PlainPredicate = predicate_of c.index-preds-i.result in
    let left : List PlainPredicate = map predicate_of (drop i c.args.preds.now) in
    let rest : List PlainPredicate = map predicate_of (drop (i + 1) c.args.preds.now) in
    let here : left ≡ p ∷ rest = grind (arith, common_steps) in
    let before : ongoing p ≡ false = search rules in
    let fails : c.has_line.result ≡ false = search rules in
    let all : right ≡ take n given ++ (line R row i p ∷ lines_from R row (i + 1) rest) =
    c.loop-i.invariant.right ∙ ap (λ (x : List PlainWhy). take n given ++ x) (lines_from-before R row i left rest p here before) in
    let within : n ≤ length given = omega (arith, length-map c.args.whys.now why_of, c.loop-i.invariant.within) in
    wrong_here given right (lines_from R row (i + 1) rest) n (line R row i p) within all
    (λ at. absurd (cc (fails, c.has_line.ensures.1 (sym (slice_get-map why_of c.args.whys.now n) ∙ at))))

pub loop-i-preserved : goal.loop-i-preserved
loop-i-preserved g c =
    let R = g.V.View.readings c.args.view.now in
    let row = c.args.row.now in
    let i = c.loop-i.i in
    let n = c.loop-i.number in
    let given : List PlainWhy = map why_of c.args.whys.now in
    let right : List PlainWhy = lines_from R row 0 (map predicate_of c.args.preds.now) in
    let p : PlainPredicate = predicate_of c.index-preds-i.result in
    let left : List PlainPredicate = map predicate_of (drop i c.args.preds.now) in
    let rest : List PlainPredicate = map predicate_of (drop (i + 1) c.args.preds.now) in
    let here : left ≡ p ∷ rest = grind (arith, common_steps) in
    elim c.if-not-is_ongoing.branch [
      | then-not-is_ongoing+else-not-has_line w ↦
          let before : ongoing p ≡ false = search rules in
          let passes : w.has_line.result ≡ true = search rules in
          let at : slice_get given n ≡ Some (line R row i p) = slice_get-map why_of c.args.whys.now n ∙ w.has_line.ensures.0 passes in
          let all : right ≡ take n given ++ (line R row i p ∷ lines_from R row (i + 1) rest) =
          c.loop-i.invariant.right ∙ ap (λ (x : List PlainWhy). take n given ++ x) (lines_from-before R row i left rest p here before) in
          let more : right ≡ take (n + 1) given ++ lines_from R row (i + 1) rest = one_right given right (lines_from R row (i + 1) rest) n (line R row i p) all at in
          let next : c.if-not-is_ongoing.number ≡ n + 1 = omega arith in
          record {
            right = subst (λ (m : ℕ). right ≡ take m given ++ lines_from R row (i + 1) rest) (sym next) more;
            within = omega (arith, next, slice_get_within given n (line R row i p) at, length-map c.args.whys.now why_of);
            no_set = no_set_in_rest R row left rest p here c.loop-i.invariant.no_set;
          }
      | else-not-is_ongoing w ↦
          let during : ongoing p ≡ true = search rules in
          let same : c.if-not-is_ongoing.number ≡ n = omega arith in
          let all : right ≡ take n given ++ lines_from R row (i + 1) rest =
          c.loop-i.invariant.right ∙ ap (λ (x : List PlainWhy). take n given ++ x) (lines_from-ongoing R row i left rest p here during) in
          record {
            right = subst (λ (m : ℕ). right ≡ take m given ++ lines_from R row (i + 1) rest) (sym same) all;
            within = omega (arith, same, c.loop-i.invariant.within);
            no_set = no_set_in_rest R row left rest p here c.loop-i.invariant.no_set;
          }
    ]

pub returns-then-number-whys-clause-err : goal.returns-then-number-whys-clause-err
returns-then-number-whys-clause-err g c =
    let R = g.V.View.readings c.args.view.now in
    let row = c.args.row.now in
    let n = c.loop-i.number in
    let given : List PlainWhy = map why_of c.args.whys.now in
    let right : List PlainWhy = lines_from R row 0 (map predicate_of c.args.preds.now) in
    let none : map predicate_of (drop c.loop-i.i c.args.preds.now) ≡ [] = grind (arith, common_steps) in
    let all : right ≡ take n given =
    c.loop-i.invariant.right
    ∙ ap (λ (x : List PlainPredicate). take n given ++ lines_from R row c.loop-i.i x) none
    ∙ append-nil (take n given) in
    let more : n < length given = omega (arith, length-map c.args.whys.now why_of) in
    wrong_end given right n more all
