use Rattle.ucon_journal.proofs.Openings.{counted-journal_bytes, found-journal_bytes, version_told-journal_bytes}
use Rattle.ucon_journal.proofs.journal.reads_back.Goals as goal

pub returns-clause-payloads : goal.returns-clause-payloads
returns-clause-payloads c = counted-journal_bytes

pub returns-clause-gate : goal.returns-clause-gate
returns-clause-gate c = found-journal_bytes

pub returns-clause-version : goal.returns-clause-version
returns-clause-version c = version_told-journal_bytes
