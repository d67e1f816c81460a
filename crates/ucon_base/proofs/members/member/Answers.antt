use Rattle.std.proofs.Common.{sym}
use Rattle.std.specs.Prelude.{option_copied}
use Rattle.ucon_base.proofs.Runs.{fallen}
use Rattle.ucon_base.proofs.members.member.Goals as goal

pub returns-in-Some-clause-read : goal.returns-in-Some-clause-read
returns-in-Some-clause-read c =
    let front = rw c.text_len.ensures.len at c.split_at.ensures.front in
    let back = rw c.text_len.ensures.len at c.split_at.ensures.back in
    fallen (option_copied c.args.last) c.args.at c.args.bytes.now c.split_at.result.0.now c.split_at.result.1.now _ front back
    (sym c.if-not-can_rise.ensures) (sym c.in-Some.ensures.read) (sym c.if-not-rises.ensures)
