use Rattle.std.proofs.Common.{◌≡◌, ◌++◌, drop, map}
use Rattle.ucon_model.specs.Views.{predicate_of}
use Rattle.ucon_accept.specs.Explanation.{lines_from, why_of}
use Rattle.ucon_explain.proofs.explainer.lines_of_right.Given as goal

-- the lines so far, and those on the predicates that are left
abbrev pub invariant-loop-i : goal.invariant-loop-i
invariant-loop-i g l =
    let R = g.V.View.readings l.view in
    map why_of l.whys.items ++ lines_from R l.row l.i (map predicate_of (drop l.i l.preds)) ≡ lines_from R l.row 0 (map predicate_of l.preds)
