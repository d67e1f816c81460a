use Rattle.std.proofs.Common.{sym}
use Rattle.ucon_command.proofs.Requests.{asked_is, none_cut, none_read}
use Rattle.ucon_command.proofs.request.asker.Goals as goal

pub returns-in-Some-caller_in : goal.returns-in-Some-caller_in
returns-in-Some-caller_in c = asked_is c.args.line.now c.in-Some.client.now c.in-Some.text.now c.in-Some-caller_in.caller c.in-Some.ensures.cut (sym c.in-Some-caller_in.ensures)

pub returns-in-None-caller_in : goal.returns-in-None-caller_in
returns-in-None-caller_in c = none_read c.texts_lack_bytes.ensures.numbers c.args.line.now c.in-Some.client.now c.in-Some.text.now c.in-Some.ensures.cut (sym c.in-None-caller_in.ensures)

pub returns-in-None : goal.returns-in-None
returns-in-None c = none_cut c.texts_lack_bytes.ensures.numbers c.args.line.now c.in-None.ensures.cut
