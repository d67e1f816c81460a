use Rattle.std.proofs.lemmas.Result.{on_ok_weaker}
use Rattle.ucon_model.specs.Views.{reply_of}
use Rattle.ucon_reply.proofs.replies.put_reply.Goals as goal

pub returns-clause-read_back : goal.returns-clause-read_back
returns-clause-read_back c = on_ok_weaker c.put_spelling.result (c.replies_are_read_back.ensures.written (reply_of c.args.reply.now)) c.put_spelling.ensures.in_form

pub returns-clause-one_line : goal.returns-clause-one_line
returns-clause-one_line c = on_ok_weaker c.put_spelling.result (c.replies_are_read_back.ensures.one_line (reply_of c.args.reply.now)) c.put_spelling.ensures.in_form

pub returns-clause-short : goal.returns-clause-short
returns-clause-short c = on_ok_weaker c.put_spelling.result (c.replies_are_read_back.ensures.short (reply_of c.args.reply.now)) c.put_spelling.ensures.in_form
