use Rattle.std.proofs.Common.{[], map}
use Rattle.ucon_model.specs.Plain.{PlainPolicy}
use Rattle.ucon_engine.specs.Engine.{IsIdle, StandsFor}
use Rattle.ucon_trial.specs.OneAnswer.{entry_of}
use Rattle.ucon_trial.proofs.Along.{Along}
use Rattle.ucon_trial.proofs.answers.answer_each.Given as goal

abbrev pub invariant-loop-line : goal.invariant-loop-line
invariant-loop-line g l = record {
  idle : IsIdle g.E.Engine.follows l.engine;
  along : (P : PlainPolicy) → StandsFor g.E.Engine.follows l.fn.engine P [] → Along P (StandsFor g.E.Engine.follows l.engine P) (g.R.Hearer.hears l.hearer) (map entry_of l.lines) l.line-index l.place;
}
