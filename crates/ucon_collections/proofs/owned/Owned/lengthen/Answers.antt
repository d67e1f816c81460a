use Rattle.std.proofs.Common.{◌∙◌}
use Rattle.ucon_collections.proofs.owned.Owned.lengthen.Goals as goal

pub loop-self-preserved : goal.loop-self-preserved
loop-self-preserved c = record {
  now = λ n. c.add_place.ensures.now n ∙ c.loop-self.invariant.now n;
  count = λ tick. c.add_place.ensures.count tick ∙ c.loop-self.invariant.count tick;
  opening = λ n. c.add_place.ensures.opening n ∙ c.loop-self.invariant.opening n;
}
