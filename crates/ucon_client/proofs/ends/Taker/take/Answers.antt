use Rattle.std.proofs.Common.{ap, ◌∙◌}
use Rattle.ucon_client.proofs.Moves.{takes}
use Rattle.ucon_client.proofs.ends.Taker.take.Goals as goal

pub recv_as-requires-clause-rule : goal.recv_as-requires-clause-rule
recv_as-requires-clause-rule g c =
    let same = c.loop.invariant.2 in
    (takes _ _ (ap (λ v. v.takes) same ∙ c.self.invariant.1) (cc (ap (λ v. v.taken.ended) same, ap (λ v. v.taken.ended) c.self.view_is, c.requires)), λ items views h at. tt)
