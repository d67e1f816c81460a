use Rattle.std.proofs.Common.{◌≡◌, true, false, sym, ◌∙◌}
use Rattle.ucon_converse.specs.Answering.{answering}
use Rattle.ucon_converse.specs.KeeperLaws.{keeps_same}
use Rattle.ucon_converse.specs.Reached.{reached_by}
use Rattle.ucon_converse.proofs.Reaching.{may_same}
use Rattle.ucon_converse.proofs.pointing.rest.Goals as goal

pub returns-then-is_due_after-clause-goes_on : goal.returns-then-is_due_after-clause-goes_on
returns-then-is_due_after-clause-goes_on g c = λ P G places accepts front. record {
  due = λ due. (c.try_point-told.result, c.try_point-told.ensures.pointed P G places accepts front);
  not_due = λ not.
      let no : true ≡ false = sym c.if-is_due_after.true ∙ (c.is_due_after.ensures P G accepts front ∙ not) in
      absurd (cc no);
}

pub returns-else-is_due_after-clause-still : goal.returns-else-is_due_after-clause-still
returns-else-is_due_after-clause-still g c = λ P T. may_same (reached_by P T c.args.store.now)

pub returns-else-is_due_after-clause-keeps : goal.returns-else-is_due_after-clause-keeps
returns-else-is_due_after-clause-keeps g c = keeps_same g.D.Disk.seen g.met.D.Disk.only_now (answering c.args.store.now c.args.points.now)
