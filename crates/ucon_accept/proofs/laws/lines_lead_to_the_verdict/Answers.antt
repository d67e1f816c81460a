use Rattle.ucon_accept.proofs.Verdicts.{verdict_of_lines}
use Rattle.ucon_accept.proofs.laws.lines_lead_to_the_verdict.Goals as goal

pub returns : goal.returns
returns c = verdict_of_lines
