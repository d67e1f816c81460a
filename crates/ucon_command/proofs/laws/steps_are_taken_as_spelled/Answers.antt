use Rattle.ucon_syntax.specs.Policies.{accepted}
use Rattle.ucon_command.proofs.Histories.{taken_as_spelled, taken_next, untaken, untaken_long}
use Rattle.ucon_command.proofs.laws.steps_are_taken_as_spelled.Goals as goal

pub returns : goal.returns
returns c =
    let tells = c.texts_tell_changes.ensures in
    let payloads = c.payloads_are_read_back.ensures in
    record {
      taken = taken_as_spelled accepted tells payloads.read;
      unread = untaken accepted;
      long = untaken_long accepted;
      next = taken_next accepted tells payloads.read payloads.fits payloads.written;
    }
