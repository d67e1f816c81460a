use Rattle.ucon_reply.proofs.InLine.{reply_in_line}
use Rattle.ucon_reply.proofs.Lengths.{reply_short}
use Rattle.ucon_reply.proofs.LowerLaws.{TextsLack}
use Rattle.ucon_reply.proofs.ReadReplies.{reply_back}
use Rattle.ucon_reply.proofs.SpelledReplies.{reply_is}
use Rattle.ucon_reply.proofs.laws.replies_are_read_back.Goals as goal

pub returns : goal.returns
returns c =
    let texts = c.texts_lack_bytes.ensures in
    let lack : TextsLack = record { joined = texts.joined; tested = texts.tested; numbers = texts.numbers; names = texts.names } in
    let values = c.values_are_read_back.ensures in
    record { written = reply_back values.written lack; read = reply_is values.read; short = reply_short; one_line = reply_in_line lack }
