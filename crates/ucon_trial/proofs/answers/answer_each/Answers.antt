use Rattle.std.proofs.Common.{◌≡◌, map, get_or, sym, ◌∙◌, ap, arith}
use Rattle.std.proofs.lemmas.List.{length-map}
use Rattle.std.proofs.Math.ListN.{get_or-map}
use Rattle.ucon_engine.specs.Engine.{StandsFor}
use Rattle.ucon_trial.specs.OneAnswer.{entry_of}
use Rattle.ucon_trial.proofs.Along.{begun, one_more, finished}
use Rattle.ucon_trial.proofs.answers.answer_each.Goals as goal

pub loop-line-init : goal.loop-line-init
loop-line-init g c = record {
  idle = c.requires.idle;
  along = λ P stands. begun P (StandsFor g.E.Engine.follows c.args.engine.now P) (g.R.Hearer.hears c.args.hearer.now) (map entry_of c.args.lines.now) stands c.requires.nothing_heard;
}

pub loop-line-preserved : goal.loop-line-preserved
loop-line-preserved g c = record {
  idle = c.answer_one.ensures.idle;
  along = λ P stands.
      let lines = map entry_of c.args.lines.now in
      let line = entry_of c.line-item.result in
      let len = length-map c.args.lines.now entry_of in
      let is : line ≡ get_or lines c.loop-line.line-index line = ap entry_of c.line-item.is ∙ sym (get_or-map entry_of c.args.lines.now c.loop-line.line-index c.line-item.result) in
      let so_far = c.loop-line.invariant.along P stands in
      one_more P (StandsFor g.E.Engine.follows c.loop-line.engine P) (StandsFor g.E.Engine.follows c.answer_one.new.engine P) (g.R.Hearer.hears c.loop-line.hearer) (g.R.Hearer.hears c.answer_one.new.hearer)
      lines c.loop-line.line-index c.loop-line.place c.in_ok-place.place
      line (omega (arith, len, c.loop-line-test.true)) (omega (arith, len)) is so_far
      (c.in_ok-place.ensures.answers P so_far.history so_far.stands);
}

pub returns-clause-heard : goal.returns-clause-heard
returns-clause-heard g c = λ P stands.
    finished P (StandsFor g.E.Engine.follows c.loop-line.engine P) (g.R.Hearer.hears c.loop-line.hearer) (map entry_of c.args.lines.now) c.loop-line.line-index c.loop-line.place
    (omega (arith, length-map c.args.lines.now entry_of, c.loop-line-test.false)) (c.loop-line.invariant.along P stands)
