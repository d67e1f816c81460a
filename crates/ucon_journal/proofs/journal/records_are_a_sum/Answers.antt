use Rattle.ucon_journal.proofs.Records.{length-records}
use Rattle.ucon_journal.proofs.journal.records_are_a_sum.Goals as goal

pub returns : goal.returns
returns c = length-records
