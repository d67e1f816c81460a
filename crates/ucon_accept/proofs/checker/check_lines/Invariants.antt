use Rattle.std.proofs.Common.{◌≡◌, ◌≤◌, ◌++◌, true, drop, length, map, take}
use Rattle.ucon_model.specs.Views.{predicate_of}
use Rattle.ucon_model.specs.Sums.{preds_make_no_set}
use Rattle.ucon_accept.specs.Explanation.{lines_from, why_of}
use Rattle.ucon_accept.proofs.checker.check_lines.Given as goal

-- so many lines are right, and those on the predicates that are left come behind them
abbrev pub invariant-loop-i : goal.invariant-loop-i
invariant-loop-i g l =
    let R = g.V.View.readings l.view in
    let left = map predicate_of (drop l.i l.preds) in record {
      right : lines_from R l.row 0 (map predicate_of l.preds) ≡ take l.number (map why_of l.whys) ++ lines_from R l.row l.i left;
      within : l.number ≤ length l.whys;
      no_set : preds_make_no_set R l.row left ≡ true;
    }
