use Rattle.std.proofs.Common.{◌≡◌, ◌++◌, List, ℕ}
use Rattle.ucon_flow.specs.Lines.{IsLine}
use Rattle.ucon_tell.specs.Told.{IsReplied}
use Rattle.ucon_converse.specs.Answering.{answering}
use Rattle.ucon_converse.specs.Keeping.{GivesReply}
use Rattle.ucon_converse.specs.Replies.{client_line}
use Rattle.ucon_converse.specs.Said.{answer_said}
use Rattle.ucon_converse.proofs.Answered.{request_given}
use Rattle.ucon_converse.proofs.OneLine.{on_ok_both}
use Rattle.ucon_converse.proofs.Stepping.{always_err}
use Rattle.ucon_converse.proofs.answering.answer_request.Goals as goal

pub returns-clause-reply : goal.returns-clause-reply
returns-clause-reply g c =
    let seen = g.D.Disk.seen in
    let was = answering c.args.store.now c.args.points.now in
    let now = answering c.take_and_rest-said.new.store c.take_and_rest-said.new.points in
    let line = c.args.line.now in
    let request = c.args.request.now in
    let answer = answer_said c.take_and_rest-said.result in
    let reply = client_line request.caller answer in
    let text = c.args.out.now.items in
    let gives : GivesReply seen was now line reply =
    request_given seen was now c.take_and_rest-said.ensures.keeps line request.caller request.command.text.now answer c.requires.by c.requires.says c.take_and_rest-said.ensures.step
    c.take_and_rest-said.ensures.step_at in
    on_ok_both c.put_answer.result (c.put_answer.new.out.items ≡ text ++ reply) (IsLine reply)
    (IsReplied (λ r. GivesReply seen was now line r) text c.put_answer.new.out.items)
    (λ written one. (reply, one, gives, written)) c.put_answer.ensures.text c.put_answer.ensures.line

pub returns-clause-failed : goal.returns-clause-failed
returns-clause-failed g c =
    let seen = g.D.Disk.seen in
    let was = answering c.args.store.now c.args.points.now in
    let now = answering c.take_and_rest-said.new.store c.take_and_rest-said.new.points in
    let line = c.args.line.now in
    let request = c.args.request.now in
    let answer = answer_said c.take_and_rest-said.result in
    let reply = client_line request.caller answer in
    let gives : GivesReply seen was now line reply =
    request_given seen was now c.take_and_rest-said.ensures.keeps line request.caller request.command.text.now answer c.requires.by c.requires.says c.take_and_rest-said.ensures.step
    c.take_and_rest-said.ensures.step_at in
    always_err c.put_answer.result ((r : List ℕ) × GivesReply seen was now line r) (reply, gives)
