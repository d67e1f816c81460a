use Rattle.std.proofs.Common.{Some, sym, subst}
use Rattle.ucon_collections.specs.Lists.{IsLed, IsNext}
use Rattle.ucon_collections.specs.Table.{seen}
use Rattle.ucon_collections.specs.Undoing.{Listed}
use Rattle.ucon_collections.proofs.lists.Lists.next.Goals as goal

pub returns : goal.returns
returns c =
    let led = subst (λ (l : Listed). IsLed l.members c.args.leader c.args.session) (sym c.self.view_is) c.requires in
    subst (λ (l : Listed). IsNext (IsLed l.members c.args.leader) (Some c.args.session) c.after.result) c.self.view_is
    (subst (IsNext (IsLed (seen c.self.inside.table) c.args.leader) (Some c.args.session)) (sym c.after.ensures)
    (c.self.invariant.next c.args.leader (Some c.args.session) led))
