use Rattle.std.proofs.Common.{◌+◌, [], map, take, drop}
use Rattle.std.specs.Prelude.{option_map}
use Rattle.std.proofs.lemmas.Result.{err_from_is_err_and}
use Rattle.ucon_model.specs.Views.{update_of, policy_of}
use Rattle.ucon_model.specs.Typing.{update_fault, first_fault_of, one_item}
use Rattle.ucon_check.specs.Told.{told}
use Rattle.ucon_check.proofs.Telling.{goes_on, stops, rest_is, before_is}
use Rattle.ucon_check.proofs.Alike.{update_alike}
use Rattle.ucon_check.proofs.typing.check_updates.Goals as goal

pub returns-in_err-check_update : goal.returns-in_err-check_update
returns-in_err-check_update c =
    let P = policy_of c.args.policy.now in
    let updates = c.args.updates.now in
    let i = c.loop-u.u-index in
    let x = c.u-item.result in
    let whole = option_map told (first_fault_of one_item (update_fault P) [] c.args.first (map update_of updates)) in
    let p = err_from_is_err_and c.from_residual.result c.from_residual.ensures.1 in
    rw (p.1, p.2)
    (stops one_item (update_fault P) (map update_of (take i updates)) (map update_of (drop i updates)) (map update_of (drop (i + 1) updates))
    c.loop-u.item (update_of x) whole c.in_err-check_update.field-0.0 (rest_is update_of updates i x c.loop-u-test.true c.u-item.is)
    c.loop-u.invariant c.in_err-check_update.ensures)

pub loop-u-preserved : goal.loop-u-preserved
loop-u-preserved c =
    let P = policy_of c.args.policy.now in
    let updates = c.args.updates.now in
    let i = c.loop-u.u-index in
    let x = c.u-item.result in
    let whole = option_map told (first_fault_of one_item (update_fault P) [] c.args.first (map update_of updates)) in
    rw c.after-item.ensures
    (goes_on one_item (update_fault P) (update_alike P) (map update_of (take i updates)) (map update_of (drop i updates))
    (map update_of (take (i + 1) updates)) (map update_of (drop (i + 1) updates)) c.loop-u.item (update_of x) whole
    (rest_is update_of updates i x c.loop-u-test.true c.u-item.is) (before_is update_of updates i x c.loop-u-test.true c.u-item.is)
    c.loop-u.invariant c.in_ok-check_update.ensures)
