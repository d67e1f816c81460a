use Rattle.std.proofs.Common.{◌+◌, [], take, drop}
use Rattle.std.specs.Prelude.{option_map}
use Rattle.std.proofs.lemmas.Result.{err_from_is_err_and}
use Rattle.ucon_model.specs.Typing.{env_fault, first_fault_of, one_item}
use Rattle.ucon_check.specs.Told.{told}
use Rattle.ucon_check.proofs.Telling.{goes_on, stops, rest_as_is, before_as_is}
use Rattle.ucon_check.proofs.Alike.{env_alike}
use Rattle.ucon_check.proofs.typing.check_envs.Goals as goal

pub returns-in_err-check_env : goal.returns-in_err-check_env
returns-in_err-check_env c =
    let envs = c.args.envs.now in
    let i = c.loop-i.i in
    let x = c.index-envs-i.result in
    let whole = option_map told (first_fault_of one_item env_fault [] c.args.first envs) in
    let p = err_from_is_err_and c.from_residual.result c.from_residual.ensures.1 in
    rw (p.1, p.2)
    (stops one_item env_fault (take i envs) (drop i envs) (drop (i + 1) envs)
    c.loop-i.item x whole c.in_err-check_env.field-0.0 (rest_as_is envs i x c.loop-i-test.true c.index-envs-i.is)
    c.loop-i.invariant c.in_err-check_env.ensures)

pub loop-i-preserved : goal.loop-i-preserved
loop-i-preserved c =
    let envs = c.args.envs.now in
    let i = c.loop-i.i in
    let x = c.index-envs-i.result in
    let whole = option_map told (first_fault_of one_item env_fault [] c.args.first envs) in
    rw c.after-item.ensures
    (goes_on one_item env_fault env_alike (take i envs) (drop i envs)
    (take (i + 1) envs) (drop (i + 1) envs) c.loop-i.item x whole
    (rest_as_is envs i x c.loop-i-test.true c.index-envs-i.is) (before_as_is envs i x c.loop-i-test.true c.index-envs-i.is)
    c.loop-i.invariant c.in_ok-check_env.ensures)
