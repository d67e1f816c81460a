use Rattle.std.proofs.Common.{◌≡◌, true, map, drop}
use Rattle.ucon_model.specs.Decision.{first_false}
use Rattle.ucon_model.specs.Views.{predicate_of}
use Rattle.ucon_model.specs.Asked.{row_at}
use Rattle.ucon_model.specs.Sums.{preds_make_no_set}
use Rattle.ucon_eval.specs.Sort.{sort_of}
use Rattle.ucon_eval.proofs.decide.first_false.Given as goal

abbrev pub invariant-loop-p : goal.invariant-loop-p
invariant-loop-p g l =
    let R = g.V.View.readings l.view in
    let row = row_at R l.session in
    let rest = map predicate_of (drop l.p-index l.preds) in
    (first_false R row (sort_of l.sort) rest ≡ first_false R row (sort_of l.sort) (map predicate_of l.preds)) × (preds_make_no_set R row rest ≡ true)
