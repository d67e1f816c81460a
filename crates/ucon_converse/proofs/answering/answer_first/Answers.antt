use Rattle.std.proofs.Common.{◌≡◌, ◌⊎◌}
use Rattle.ucon_tell.specs.Told.{AreAnsweredUntold, IsFrontOf}
use Rattle.ucon_converse.specs.Answering.{answering}
use Rattle.ucon_converse.specs.Keeping.{GivesReplies}
use Rattle.ucon_converse.proofs.Giving.{first_replied, first_untold}
use Rattle.ucon_converse.proofs.Stepping.{always_err}
use Rattle.ucon_converse.proofs.answering.answer_first.Goals as goal

pub returns-in_err-answer_line-in-Some-clause-failed : goal.returns-in_err-answer_line-in-Some-clause-failed
returns-in_err-answer_line-in-Some-clause-failed g c =
    let seen = g.D.Disk.seen in
    let was = answering c.args.store.now c.args.points.now in
    let now = answering c.answer_line.new.store c.answer_line.new.points in
    let came = c.args.came.now in
    always_err c.from_residual.result ((was ≡ now) ⊎ AreAnsweredUntold c.args.limit (GivesReplies seen) (λ lines. IsFrontOf lines came) was now)
    (first_untold seen was now c.args.limit c.in-Some.line.now came c.in-Some.ensures.line c.in_err-answer_line-in-Some.ensures.failed)

pub returns-clause-reply : goal.returns-clause-reply
returns-clause-reply g c =
    let was = answering c.args.store.now c.args.points.now in
    let now = answering c.answer_line.new.store c.answer_line.new.points in
    first_replied g.D.Disk.seen was now c.args.limit c.in-Some.line.now c.args.came.now c.args.out.now.items c.answer_line.new.out.items
    c.in-Some.ensures.line c.in_ok-answer_line-in-Some.ensures.reply
