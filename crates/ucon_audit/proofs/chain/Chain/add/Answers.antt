use Rattle.std.proofs.Common.{◌≡◌, ◌+◌, ◌++◌, refl, ap, ◌∙◌}
use Rattle.std.specs.Prelude.{◌||◌}
use Rattle.sha2.specs.Sha256.{sha256}
use Rattle.ucon_audit.specs.Head.{is_kept}
use Rattle.ucon_audit.proofs.Chained.{already, chained, not_yet}
use Rattle.ucon_audit.proofs.chain.Chain.add.Goals as goal
use Rattle.ucon_audit.proofs.chain.Chain.add.Goals.{then-self, else-self}

pub returns-clause-chain : goal.returns-clause-chain
returns-clause-chain c = λ kept magic payloads h.
    let old = c.args.self.now in
    let extending : c.if-self.extends ≡ (old.extends || is_kept old.kept (old.records + 1) (sha256 (old.head ++ c.args.payload.now))) =
    elim c.if-self.branch [
      | then-self w ↦ w.extends-is ∙ already old.extends _ w.if-self.true
      | else-self w ↦ w.extends-is ∙ (w.is_kept-extends.ensures ∙ (ap (is_kept old.kept (old.records + 1)) c.next_head-head.ensures ∙ not_yet old.extends _ w.if-self.false))
    ] in
    chained kept magic payloads c.args.payload.now old _ h refl refl c.next_head-head.ensures extending
