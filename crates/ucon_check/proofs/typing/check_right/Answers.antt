use Rattle.std.proofs.Common.{[], map, ap}
use Rattle.std.proofs.lemmas.List.{length-map}
use Rattle.std.proofs.lemmas.Result.{err_from_is_err_and}
use Rattle.ucon_model.specs.Views.{predicate_of, update_of, right_of, policy_of}
use Rattle.ucon_model.specs.Typing.{whole_fault, right_fault}
use Rattle.ucon_check.proofs.Declared.{preds_known}
use Rattle.ucon_check.proofs.Parts.{answers_alike, preds_of_right, updates_of_right, whole_of_right}
use Rattle.ucon_check.proofs.typing.check_right.Goals as goal

pub returns-in_err-check_predicates : goal.returns-in_err-check_predicates
returns-in_err-check_predicates c =
    let exit = c.from_residual-in_err-check_predicates in
    let p = err_from_is_err_and exit.result exit.ensures.1 in
    rw (p.1, p.2)
    (preds_of_right (policy_of c.args.policy.now) (map right_of c.args.before.now) c.args.item (right_of c.args.right.now) c.after-first_pred.result
    (map predicate_of c.slice-preds.result.now) c.in_err-check_predicates.field-0.0 c.after-first_pred.ensures (ap (map predicate_of) c.slice-preds.ensures)
    c.in_ok-check_heading.ensures c.in_err-check_predicates.ensures)

pub returns-in_err-check_updates : goal.returns-in_err-check_updates
returns-in_err-check_updates c =
    let exit = c.from_residual-in_err-check_updates in
    let p = err_from_is_err_and exit.result exit.ensures.1 in
    let preds = c.slice-preds.result.now in
    rw (p.1, p.2)
    (updates_of_right (policy_of c.args.policy.now) (map right_of c.args.before.now) c.args.item (right_of c.args.right.now) c.after-first_pred.result
    c.after-first_update.result (map predicate_of preds) (map update_of c.slice.result.now) c.in_err-check_updates.field-0.0 c.after-first_pred.ensures
    (rw (length-map preds predicate_of) c.after-first_update.ensures) (ap (map predicate_of) c.slice-preds.ensures) (ap (map update_of) c.slice.ensures)
    c.in_ok-check_heading.ensures c.in_ok-check_predicates.ensures c.in_err-check_updates.ensures)

pub check_whole-requires : goal.check_whole-requires
check_whole-requires c = record {
  once = c.requires;
  declared =
      preds_known (policy_of c.args.policy.now) [] c.after-first_pred.result (right_of c.args.right.now).preds
      (rw c.slice-preds.ensures at c.in_ok-check_predicates.ensures);
}

pub returns : goal.returns
returns c =
    let P = policy_of c.args.policy.now in
    let r = right_of c.args.right.now in
    let before = map right_of c.args.before.now in
    let preds = c.slice-preds.result.now in
    answers_alike (whole_fault r) (right_fault P before c.args.item r) c.check_whole.result
    (whole_of_right P before c.args.item r c.after-first_pred.result c.after-first_update.result (map predicate_of preds) (map update_of c.slice.result.now)
    c.after-first_pred.ensures (rw (length-map preds predicate_of) c.after-first_update.ensures) (ap (map predicate_of) c.slice-preds.ensures)
    (ap (map update_of) c.slice.ensures) c.in_ok-check_heading.ensures c.in_ok-check_predicates.ensures c.in_ok-check_updates.ensures)
    c.check_whole.ensures
