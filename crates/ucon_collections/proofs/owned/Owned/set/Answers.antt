use Rattle.std.proofs.Common.{◌∙◌, ◌+◌, ap}
use Rattle.std.proofs.lemmas.Result.{on_ok_weaker}
use Rattle.ucon_collections.specs.Deadlines.{passed}
use Rattle.ucon_collections.proofs.owned.Owned.set.Goals as goal

pub returns-clause-count : goal.returns-clause-count
returns-clause-count c =
    rw (← c.in_ok-lengthen.ensures.now c.args.session) (on_ok_weaker c.change.result (λ counted tick. counted tick ∙ ap (λ n. n + passed tick c.args.deadline) (c.in_ok-lengthen.ensures.count tick)) c.change.ensures.count)
