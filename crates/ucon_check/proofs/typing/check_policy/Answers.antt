use Rattle.std.proofs.Common.{[], map, ap}
use Rattle.std.proofs.lemmas.Result.{err_from_is_err_and}
use Rattle.ucon_model.specs.Views.{right_of, policy_of}
use Rattle.ucon_model.specs.Typing.{first_fault_of, items_of, right_fault, type_fault}
use Rattle.ucon_check.proofs.Declared.{attrs_once, envs_once}
use Rattle.ucon_check.proofs.Parts.{answers_alike, attrs_of_policy, envs_of_policy, rights_of_policy}
use Rattle.ucon_check.proofs.typing.check_policy.Goals as goal

pub returns-in_err-check_attrs : goal.returns-in_err-check_attrs
returns-in_err-check_attrs c =
    let p = err_from_is_err_and c.from_residual.result c.from_residual.ensures.1 in
    rw (p.1, p.2)
    (attrs_of_policy (policy_of c.args.policy.now) c.slice-attrs.result.now c.in_err-check_attrs.field-0.0 c.slice-attrs.ensures c.in_err-check_attrs.ensures)

pub returns-in_err-check_envs : goal.returns-in_err-check_envs
returns-in_err-check_envs c =
    let exit = c.from_residual-in_err-check_envs in
    let p = err_from_is_err_and exit.result exit.ensures.1 in
    rw (p.1, p.2)
    (envs_of_policy (policy_of c.args.policy.now) c.after-first_env.result c.slice-attrs.result.now c.slice-envs.result.now c.in_err-check_envs.field-0.0
    c.slice-attrs.ensures c.slice-envs.ensures c.after-first_env.ensures c.in_ok-check_attrs.ensures c.in_err-check_envs.ensures)

pub check_rights-requires : goal.check_rights-requires
check_rights-requires c = (
  attrs_once [] 1 (policy_of c.args.policy.now).attrs (rw c.slice-attrs.ensures at c.in_ok-check_attrs.ensures),
  envs_once [] c.after-first_env.result (policy_of c.args.policy.now).envs (rw c.slice-envs.ensures at c.in_ok-check_envs.ensures),
)

pub returns : goal.returns
returns c =
    let P = policy_of c.args.policy.now in
    let rights = map right_of c.slice.result.now in
    answers_alike (first_fault_of items_of (right_fault P) [] c.after-first_right.result rights) (type_fault P) c.check_rights.result
    (rights_of_policy P c.after-first_env.result c.after-first_right.result c.slice-attrs.result.now c.slice-envs.result.now rights c.slice-attrs.ensures
    c.slice-envs.ensures (ap (map right_of) c.slice.ensures) c.after-first_env.ensures c.after-first_right.ensures c.in_ok-check_attrs.ensures c.in_ok-check_envs.ensures)
    c.check_rights.ensures
