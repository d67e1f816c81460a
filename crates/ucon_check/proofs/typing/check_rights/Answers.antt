use Rattle.std.proofs.Common.{◌+◌, [], map, take, drop}
use Rattle.std.specs.Prelude.{option_map}
use Rattle.std.proofs.lemmas.Result.{err_from_is_err_and}
use Rattle.ucon_model.specs.Views.{right_of, policy_of}
use Rattle.ucon_model.specs.Typing.{right_fault, first_fault_of, items_of}
use Rattle.ucon_check.specs.Told.{told}
use Rattle.ucon_check.proofs.Telling.{goes_on, stops, rest_is, before_is}
use Rattle.ucon_check.proofs.Alike.{right_alike}
use Rattle.ucon_check.proofs.typing.check_rights.Goals as goal

pub returns-in_err-check_right : goal.returns-in_err-check_right
returns-in_err-check_right c =
    let P = policy_of c.args.policy.now in
    let rights = c.args.rights.now in
    let i = c.loop-i.i in
    let x = c.index-rights-i.result in
    let whole = option_map told (first_fault_of items_of (right_fault P) [] c.args.first (map right_of rights)) in
    let p = err_from_is_err_and c.from_residual.result c.from_residual.ensures.1 in
    rw (p.1, p.2)
    (stops items_of (right_fault P) (map right_of (take i rights)) (map right_of (drop i rights)) (map right_of (drop (i + 1) rights))
    c.loop-i.item (right_of x) whole c.in_err-check_right.field-0.0 (rest_is right_of rights i x c.loop-i-test.true c.index-rights-i.is)
    c.loop-i.invariant c.in_err-check_right.ensures)

pub loop-i-preserved : goal.loop-i-preserved
loop-i-preserved c =
    let P = policy_of c.args.policy.now in
    let rights = c.args.rights.now in
    let i = c.loop-i.i in
    let x = c.index-rights-i.result in
    let whole = option_map told (first_fault_of items_of (right_fault P) [] c.args.first (map right_of rights)) in
    rw c.after_right-item.ensures
    (goes_on items_of (right_fault P) (right_alike P) (map right_of (take i rights)) (map right_of (drop i rights))
    (map right_of (take (i + 1) rights)) (map right_of (drop (i + 1) rights)) c.loop-i.item (right_of x) whole
    (rest_is right_of rights i x c.loop-i-test.true c.index-rights-i.is) (before_is right_of rights i x c.loop-i-test.true c.index-rights-i.is)
    c.loop-i.invariant c.in_ok-check_right.ensures)
