use Rattle.std.proofs.Common.{◌∙◌, sym}
use Rattle.ucon_point.proofs.Cuts.{cut_here, cut_nowhere}
use Rattle.ucon_point.proofs.words.cut_at.Goals as goal

pub returns-in-Some-clause-cut : goal.returns-in-Some-clause-cut
returns-in-Some-clause-cut c = cut_here c.args.byte c.args.bytes.now c.in-Some.at (sym c.first_place.ensures.place ∙ c.in-Some.is)

pub returns-in-None-clause-cut : goal.returns-in-None-clause-cut
returns-in-None-clause-cut c = cut_nowhere c.args.byte c.args.bytes.now (sym c.first_place.ensures.place ∙ c.in-None.is)
