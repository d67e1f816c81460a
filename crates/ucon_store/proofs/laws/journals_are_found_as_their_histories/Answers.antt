use Rattle.ucon_journal.specs.JournalBytes.{journal_bytes}
use Rattle.ucon_model.specs.Found.{payloads_of}
use Rattle.ucon_store.specs.Points.{has_points}
use Rattle.ucon_store.proofs.Finding.{takes_of}
use Rattle.ucon_store.proofs.Journals.{journal_found}
use Rattle.ucon_store.proofs.Versions.{steps_taken}
use Rattle.ucon_store.proofs.laws.journals_are_found_as_their_histories.Goals as goal

pub returns : goal.returns
returns c = λ version text P H is accepts clients proper.
    journal_found c.reads_back.ensures.gate version text P H is (c.proper_histories_are_found.ensures.fits text P H accepts clients proper)
    (let file = journal_bytes version (payloads_of text P H) in
    c.proper_histories_are_found.ensures.found (takes_of file) text P H (steps_taken (has_points file)) accepts clients proper)
