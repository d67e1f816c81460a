use Rattle.std.proofs.Common.{◌∙◌}
use Rattle.std.proofs.lemmas.Result.{IfOk-weaker}
use Rattle.ucon_model.specs.Views.{reply_of}
use Rattle.ucon_syntax.specs.Policies.{accepted}
use Rattle.ucon_command.proofs.Payloads.{reply_behind, reply_told}
use Rattle.ucon_command.proofs.payload.tells_reply.Goals as goal

pub returns-clause-same : goal.returns-clause-same
returns-clause-same c =
    IfOk-weaker c.is_text_of.result _ _
    (λ b is bytes e read. is ∙ reply_told accepted c.commands_are_read_back.ensures.read bytes e c.args.rest.now (reply_of c.args.reply.now) read)
    c.is_text_of.ensures.same

pub returns-clause-read : goal.returns-clause-read
returns-clause-read c =
    IfOk-weaker c.is_text_of.result _ _
    (λ b is yes bytes e read. reply_behind accepted bytes e c.args.rest.now (reply_of c.args.reply.now) read (is yes))
    c.is_text_of.ensures.read
