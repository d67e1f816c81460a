use Rattle.ucon_syntax.specs.Policies.{accepted}
use Rattle.ucon_command.proofs.Histories.{step_fits, step_short}
use Rattle.ucon_command.proofs.Payloads.{CommandsAreRead, payload_back, payload_from}
use Rattle.ucon_command.proofs.laws.payloads_are_read_back.Goals as goal

pub returns : goal.returns
returns c =
    let commands : CommandsAreRead accepted = record { written = c.commands_are_read_back.ensures.written; one_line = c.commands_are_read_back.ensures.one_line } in
    let back = payload_back c.texts_lack_bytes.ensures.numbers accepted commands c.replies_are_read_back.ensures.written in
    record {
      written = λ t is. back t is.client is.command is.reply;
      read = payload_from accepted c.commands_are_read_back.ensures.read c.replies_are_read_back.ensures.read;
      short = step_short c.commands_are_read_back.ensures.short c.replies_are_read_back.ensures.short;
      fits = step_fits c.commands_are_read_back.ensures.short c.replies_are_read_back.ensures.short;
    }
