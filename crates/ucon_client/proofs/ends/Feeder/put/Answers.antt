use Rattle.std.proofs.Common.{ap, ◌∙◌}
use Rattle.ucon_client.proofs.Moves.{feeds}
use Rattle.ucon_client.proofs.ends.Feeder.put.Goals as goal

pub send_as-requires-clause-rule : goal.send_as-requires-clause-rule
send_as-requires-clause-rule g c =
    let same = c.loop.invariant.2 in
    (feeds _ _ _ _ (ap (λ v. v.feeds) same ∙ c.self.invariant.1) (cc (ap (λ v. v.fed.ended) same, ap (λ v. v.fed.ended) c.self.view_is, c.requires)), λ items views h at. tt)
