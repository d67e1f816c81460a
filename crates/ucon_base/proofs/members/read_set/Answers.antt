use Rattle.std.proofs.Common.{ap, ◌∙◌}
use Rattle.ucon_base.specs.Members.{texts_seen}
use Rattle.ucon_base.specs.Value.{is_set}
use Rattle.ucon_base.proofs.SetsRead.{set_holds}
use Rattle.ucon_base.proofs.members.read_set.Goals as goal

pub texts_of-requires : goal.texts_of-requires
texts_of-requires c = (set_holds c.args.bytes.now (texts_seen c.in_ok-found.found) c.in_ok-found.ensures.read).1

pub of_rising-requires : goal.of_rising-requires
of_rising-requires c = ap is_set c.in_ok-texts.ensures ∙ (set_holds c.args.bytes.now (texts_seen c.in_ok-found.found) c.in_ok-found.ensures.read).0
