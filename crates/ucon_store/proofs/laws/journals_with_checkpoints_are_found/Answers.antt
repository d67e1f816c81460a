use Rattle.ucon_model.specs.Found.{only_steps}
use Rattle.ucon_syntax.specs.Policies.{accepted}
use Rattle.ucon_store.proofs.Made.{journal_with_points_found}
use Rattle.ucon_store.proofs.laws.journals_with_checkpoints_are_found.Goals as goal

pub returns : goal.returns
returns c = λ text P H places accepts clients proper are fit.
    let proper_found = c.proper_histories_are_found.ensures in
    journal_with_points_found c.reads_back.ensures.gate c.reads_back.ensures.payloads (c.payloads_are_found_one_by_one.ensures accepted (only_steps accepted)) text P H accepts
    (λ G of_clients is_proper. proper_found.found (only_steps accepted) text P G (λ _ _ _ _ _ takes. takes) accepts of_clients is_proper)
    (proper_found.fits text P H accepts clients proper) clients proper places are fit
