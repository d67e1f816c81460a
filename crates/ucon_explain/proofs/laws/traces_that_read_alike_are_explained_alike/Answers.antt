use Rattle.ucon_explain.proofs.Alike.{explained_alike}
use Rattle.ucon_explain.proofs.laws.traces_that_read_alike_are_explained_alike.Goals as goal

pub returns : goal.returns
returns c = explained_alike c.readings_that_agree_are_one.ensures c.lines_lead_to_the_verdict.ensures
