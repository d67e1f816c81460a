use Rattle.std.proofs.Common.{◌+◌, [], map, take, drop}
use Rattle.std.specs.Prelude.{option_map}
use Rattle.std.proofs.lemmas.Result.{err_from_is_err_and}
use Rattle.ucon_model.specs.Views.{predicate_of, policy_of}
use Rattle.ucon_model.specs.Typing.{predicate_fault, first_fault_of, one_item}
use Rattle.ucon_check.specs.Told.{told}
use Rattle.ucon_check.proofs.Telling.{goes_on, stops, rest_is, before_is}
use Rattle.ucon_check.proofs.Alike.{predicate_alike}
use Rattle.ucon_check.proofs.typing.check_predicates.Goals as goal

pub returns-in_err-check_predicate : goal.returns-in_err-check_predicate
returns-in_err-check_predicate c =
    let P = policy_of c.args.policy.now in
    let preds = c.args.preds.now in
    let i = c.loop-i.i in
    let x = c.index-preds-i.result in
    let whole = option_map told (first_fault_of one_item (predicate_fault P) [] c.args.first (map predicate_of preds)) in
    let p = err_from_is_err_and c.from_residual.result c.from_residual.ensures.1 in
    rw (p.1, p.2)
    (stops one_item (predicate_fault P) (map predicate_of (take i preds)) (map predicate_of (drop i preds)) (map predicate_of (drop (i + 1) preds))
    c.loop-i.item (predicate_of x) whole c.in_err-check_predicate.field-0.0 (rest_is predicate_of preds i x c.loop-i-test.true c.index-preds-i.is)
    c.loop-i.invariant c.in_err-check_predicate.ensures)

pub loop-i-preserved : goal.loop-i-preserved
loop-i-preserved c =
    let P = policy_of c.args.policy.now in
    let preds = c.args.preds.now in
    let i = c.loop-i.i in
    let x = c.index-preds-i.result in
    let whole = option_map told (first_fault_of one_item (predicate_fault P) [] c.args.first (map predicate_of preds)) in
    rw c.after-item.ensures
    (goes_on one_item (predicate_fault P) (predicate_alike P) (map predicate_of (take i preds)) (map predicate_of (drop i preds))
    (map predicate_of (take (i + 1) preds)) (map predicate_of (drop (i + 1) preds)) c.loop-i.item (predicate_of x) whole
    (rest_is predicate_of preds i x c.loop-i-test.true c.index-preds-i.is) (before_is predicate_of preds i x c.loop-i-test.true c.index-preds-i.is)
    c.loop-i.invariant c.in_ok-check_predicate.ensures)
