use Rattle.ucon_tell.specs.Told.{AreAnsweredUntold, IsFrontOf}
use Rattle.ucon_converse.specs.Answering.{answering}
use Rattle.ucon_converse.specs.Keeping.{GivesReplies}
use Rattle.ucon_converse.specs.Together.{answered_in}
use Rattle.ucon_converse.proofs.Giving.{answered_of, together_replied, together_untold}
use Rattle.ucon_converse.proofs.Stepping.{always_err}
use Rattle.ucon_converse.proofs.answering.answer_together.Goals as goal

pub returns-clause-reply : goal.returns-clause-reply
returns-clause-reply g c =
    let seen = g.D.Disk.seen in
    let was = answering c.args.store.now c.args.points.now in
    let now = answering c.take_together-told.new.store c.take_together-told.new.points in
    let lines = c.args.lines.now in
    let b = c.take_together-told.result in
    let t = c.take_together-told.ensures in
    together_replied seen was now t.keeps c.args.limit lines c.args.came.now c.requires.front (answered_in lines b) c.args.out.now.items c.put_answers.new.out.items
    c.in_ok-count.count c.len_of_lines.result t.some (answered_of b.end lines b.placed.items b.taken t.within) c.in_ok-count.ensures.text c.in_ok-count.ensures.count t.steps t.steps_at c.len_of_lines.ensures

pub returns-in_err-count-clause-failed : goal.returns-in_err-count-clause-failed
returns-in_err-count-clause-failed g c =
    let seen = g.D.Disk.seen in
    let was = answering c.args.store.now c.args.points.now in
    let now = answering c.take_together-told.new.store c.take_together-told.new.points in
    let lines = c.args.lines.now in
    let b = c.take_together-told.result in
    let t = c.take_together-told.ensures in
    always_err c.from_residual.result (AreAnsweredUntold c.args.limit (GivesReplies seen) (λ ls. IsFrontOf ls c.args.came.now) was now)
    (together_untold seen was now t.keeps c.args.limit lines c.args.came.now c.requires.front (answered_in lines b) (answered_of b.end lines b.placed.items b.taken t.within) t.steps t.steps_at)
