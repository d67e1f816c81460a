use Rattle.std.proofs.Common.{◌<◌, arith}
use Rattle.ucon_flow.specs.Lines.{IsLine}
use Rattle.ucon_model.specs.LegalRun.{placed}
use Rattle.ucon_model.specs.Output.{Lacks}
use Rattle.ucon_model.specs.Spelling.{reply_spelling}
use Rattle.ucon_model.specs.Views.{reply_of}
use Rattle.ucon_converse.specs.Replies.{client_line}
use Rattle.ucon_converse.proofs.OneLine.{on_ok_both, placed_line_is}
use Rattle.ucon_converse.proofs.lines.put_placed.Goals as goal

pub returns-clause-line : goal.returns-clause-line
returns-clause-line c =
    let p = c.args.placed.now in
    on_ok_both c.put_reply.result (Lacks 10 (reply_spelling (reply_of p.reply))) (c.args.caller.0 < 256) (IsLine (client_line c.args.caller (placed p.place (reply_of p.reply))))
    (λ lacks few. placed_line_is c.texts_lack_bytes.ensures.numbers c.args.caller p.place (reply_of p.reply) few (omega arith) lacks)
    c.put_reply.ensures.one_line c.put_reply.ensures.client
