use Rattle.ucon_model.proofs.Batched.{serial_more, grown_more, grown_changing, spelled_more}
use Rattle.ucon_model.proofs.finding.runs_are_serial_line_by_line.Goals as goal

pub returns-clause-replies : goal.returns-clause-replies
returns-clause-replies c = serial_more

pub returns-clause-history : goal.returns-clause-history
returns-clause-history c = grown_more

pub returns-clause-changing : goal.returns-clause-changing
returns-clause-changing c = grown_changing

pub returns-clause-payloads : goal.returns-clause-payloads
returns-clause-payloads c = spelled_more
