use Rattle.std.proofs.Common.{◌≡◌, ◌<◌, true, false, length, arith}
use Rattle.ucon_model.specs.Document.{is_divider}
use Rattle.ucon_script.proofs.Cuts.{first_line}
use Rattle.ucon_script.proofs.Divided.{IsFound, found, next_read}
use Rattle.ucon_script.proofs.part.find_divider.Goals as goal

pub returns-then-is_divider-clause-script : goal.returns-then-is_divider-clause-script
returns-then-is_divider-clause-script c =
    let some : 0 < length c.loop-rest.rest.now = grind arith in
    let here : is_divider (first_line c.loop-rest.rest.now) ≡ true = cc in
    let f : IsFound c.args.bytes.now c.loop-rest.rest.now c.loop-rest.above = found _ _ _ c.loop-rest.invariant here some in
    (f.number, rw c.cut.ensures.back f.script)

pub loop-rest-preserved : goal.loop-rest-preserved
loop-rest-preserved c =
    let some : 0 < length c.loop-rest.rest.now = grind arith in
    let other : is_divider (first_line c.loop-rest.rest.now) ≡ false = cc in
    rw c.cut.ensures.back (next_read _ _ _ c.loop-rest.invariant other some)
