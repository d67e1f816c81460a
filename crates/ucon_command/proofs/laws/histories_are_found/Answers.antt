use Rattle.ucon_syntax.specs.Policies.{accepted}
use Rattle.ucon_command.proofs.Histories.{found_history, history_found}
use Rattle.ucon_command.proofs.laws.histories_are_found.Goals as goal

pub returns : goal.returns
returns c =
    let tells = c.texts_tell_changes.ensures in
    let payloads = c.payloads_are_read_back.ensures in
    record { written = history_found accepted tells payloads.read payloads.fits payloads.written; read = found_history accepted tells payloads.read }
