use Rattle.ucon_reply.proofs.InLine.{value_in_line}
use Rattle.ucon_reply.proofs.Lengths.{length-value}
use Rattle.ucon_reply.proofs.LowerLaws.{TextsLack}
use Rattle.ucon_reply.proofs.laws.values_fit_lines.Goals as goal

pub returns : goal.returns
returns c =
    let texts = c.texts_lack_bytes.ensures in
    let lack : TextsLack = record { joined = texts.joined; tested = texts.tested; numbers = texts.numbers; names = texts.names } in
    record { short = length-value; one_line = value_in_line lack }
