use Rattle.std.proofs.Common.{inl, inr, arith}
use Rattle.ucon_collections.proofs.Taking.{given_back}
use Rattle.ucon_collections.proofs.queue.Queue.undo.Goals as goal

pub loop-entry-preserved : goal.loop-entry-preserved
loop-entry-preserved c = record {
  back = λ e h. given_back _ _ _ _ c.in-Some.entry c.in-Some.ensures.items c.give_back.ensures.entered e (c.loop-entry.invariant.back e h);
  in_order = record { order = c.give_back.ensures.order; room = omega (arith, c.in-Some.ensures.len) };
}

pub returns-clause-back : goal.returns-clause-back
returns-clause-back c = λ e h. elim (c.loop-entry.invariant.back e h) [ inl found ↦ found | inr none ↦ absurd (omega (arith, none.1, c.in_default.ensures.cases)) ]
