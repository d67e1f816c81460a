use Rattle.std.proofs.Common.{◌+◌, [], take, drop}
use Rattle.std.specs.Prelude.{option_map}
use Rattle.std.proofs.lemmas.Result.{err_from_is_err_and}
use Rattle.ucon_model.specs.Typing.{attr_fault, first_fault_of, one_item}
use Rattle.ucon_check.specs.Told.{told}
use Rattle.ucon_check.proofs.Telling.{goes_on, stops, rest_as_is, before_as_is}
use Rattle.ucon_check.proofs.Alike.{attr_alike}
use Rattle.ucon_check.proofs.typing.check_attrs.Goals as goal

pub returns-in_err-check_attr : goal.returns-in_err-check_attr
returns-in_err-check_attr c =
    let attrs = c.args.attrs.now in
    let i = c.loop-i.i in
    let x = c.index-attrs-i.result in
    let whole = option_map told (first_fault_of one_item attr_fault [] c.args.first attrs) in
    let p = err_from_is_err_and c.from_residual.result c.from_residual.ensures.1 in
    rw (p.1, p.2)
    (stops one_item attr_fault (take i attrs) (drop i attrs) (drop (i + 1) attrs)
    c.loop-i.item x whole c.in_err-check_attr.field-0.0 (rest_as_is attrs i x c.loop-i-test.true c.index-attrs-i.is)
    c.loop-i.invariant c.in_err-check_attr.ensures)

pub loop-i-preserved : goal.loop-i-preserved
loop-i-preserved c =
    let attrs = c.args.attrs.now in
    let i = c.loop-i.i in
    let x = c.index-attrs-i.result in
    let whole = option_map told (first_fault_of one_item attr_fault [] c.args.first attrs) in
    rw c.after-item.ensures
    (goes_on one_item attr_fault attr_alike (take i attrs) (drop i attrs)
    (take (i + 1) attrs) (drop (i + 1) attrs) c.loop-i.item x whole
    (rest_as_is attrs i x c.loop-i-test.true c.index-attrs-i.is) (before_as_is attrs i x c.loop-i-test.true c.index-attrs-i.is)
    c.loop-i.invariant c.in_ok-check_attr.ensures)
