use Rattle.std.proofs.Common.{◌≡◌}
use Rattle.crossbeam_channel.specs.Claims.{view, IsSeatAt}
use Rattle.crossbeam_channel.specs.Ends.{sends_on}
use Rattle.ucon_client.proofs.ends.Feeder.put.Given as goal

abbrev pub invariant-loop : goal.invariant-loop
invariant-loop g l =
    IsSeatAt (sends_on l.self-inside.sender) l.self-inside.pass × (l.self-inside.sender ≡ l.initial.self-inside.sender) × (view l.self-inside.pass ≡ view l.initial.self-inside.pass) × (l.item ≡ l.fn.item)
