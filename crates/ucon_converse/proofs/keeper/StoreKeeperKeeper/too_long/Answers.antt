use Rattle.std.proofs.Common.{◌≡◌, ◌++◌, List, ℕ, refl}
use Rattle.std.specs.Prelude.{codes}
use Rattle.ucon_flow.specs.Lines.{IsLine}
use Rattle.ucon_converse.specs.Keeping.{Refuses}
use Rattle.ucon_converse.specs.Replies.{refusal_line}
use Rattle.ucon_converse.proofs.OneLine.{on_ok, too_long_line}
use Rattle.ucon_converse.proofs.keeper.StoreKeeperKeeper.too_long.Goals as goal

pub returns : goal.returns
returns g c = record {
  reply =
      on_ok c.put_refusal.result (c.put_refusal.new.out.items ≡ c.args.text.now.items ++ refusal_line (codes "too long"))
      ((x : List ℕ) × IsLine x × Refuses c.args.self.now x × (c.put_refusal.new.out.items ≡ c.args.text.now.items ++ x))
      (λ written. (refusal_line (codes "too long"), too_long_line, refl, written)) c.put_refusal.ensures;
}
