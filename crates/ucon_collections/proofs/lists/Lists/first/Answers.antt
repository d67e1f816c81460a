use Rattle.std.proofs.Common.{None, sym, subst}
use Rattle.ucon_collections.specs.Lists.{IsLed, IsNext}
use Rattle.ucon_collections.specs.Table.{seen}
use Rattle.ucon_collections.specs.Undoing.{Listed}
use Rattle.ucon_collections.proofs.lists.Lists.first.Goals as goal

pub returns : goal.returns
returns c =
    subst (λ (l : Listed). IsNext (IsLed l.members c.args.leader) None c.first.result) c.self.view_is
    (subst (IsNext (IsLed (seen c.self.inside.table) c.args.leader) None) (sym c.first.ensures) (c.self.invariant.next c.args.leader None tt))
