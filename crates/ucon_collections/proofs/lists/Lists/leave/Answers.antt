use Rattle.std.proofs.Common.{◌∙◌, ◌∷◌, ◌++◌, [], List, ap, subst, sym}
use Rattle.ucon_collections.specs.Lists.{IsLed, Leaves, Members}
use Rattle.ucon_collections.specs.Table.{IsSound, seen}
use Rattle.ucon_collections.specs.Undoing.{Listed, UndoGives}
use Rattle.ucon_collections.specs.declared.lists.Change.{Change}
use Rattle.ucon_collections.specs.declared.lists.Change.TheVariants.{Left}
use Rattle.ucon_collections.proofs.Leaving.{CanLeave, can_leave, left_gives, left_sound, leaves}
use Rattle.ucon_collections.proofs.lists.Lists.leave.Goals as goal

mine : (c : goal.After-unlink-arg-1) → CanLeave (seen c.self.inside.table) c.args.leader c.args.session
mine c = can_leave (seen c.self.inside.table) c.args.leader c.args.session c.self.invariant
    (subst (λ (l : Listed). IsLed l.members c.args.leader c.args.session) (sym c.self.view_is) c.requires)

pub unlink-gap-requires-clause-list : goal.unlink-gap-requires-clause-list
unlink-gap-requires-clause-list c = (mine c).list

pub unlink-gap-requires-clause-session : goal.unlink-gap-requires-clause-session
unlink-gap-requires-clause-session c = (mine c).row

pub unlink-gap-requires-clause-previous : goal.unlink-gap-requires-clause-previous
unlink-gap-requires-clause-previous c = (mine c).previous

pub unlink-gap-requires-clause-next : goal.unlink-gap-requires-clause-next
unlink-gap-requires-clause-next c = (mine c).next

led : (c : goal.After-push_reserved) → IsLed (seen c.self.inside.table) c.args.leader c.args.session
led c = subst (λ (l : Listed). IsLed l.members c.args.leader c.args.session) (sym c.self.view_is) c.requires

pub invariant_of-self-2 : goal.invariant_of-self-2
invariant_of-self-2 c =
    subst IsSound (sym c.unlink-gap.ensures.out) (left_sound (seen c.self.inside.table) c.args.leader c.args.session c.self.invariant (led c))

pub returns-clause-leaves : goal.returns-clause-leaves
returns-clause-leaves c =
    subst (λ (l : Listed). Leaves l.members (seen c.unlink-gap.new.self) c.args.session) c.self.view_is
    (subst (λ (w : Members). Leaves (seen c.self.inside.table) w c.args.session) (sym c.unlink-gap.ensures.out)
    (leaves (seen c.self.inside.table) c.args.leader c.args.session c.self.invariant (led c)))

pub returns-clause-undo : goal.returns-clause-undo
returns-clause-undo c = λ before gives.
    left_gives (record { members = seen c.self.inside.table; changes = c.self.inside.changes.items })
    (record { members = seen c.unlink-gap.new.self; changes = c.push_reserved.new.self.items }) c.args.leader c.args.session c.unlink-gap.result before c.self.invariant
    (led c) c.unlink-gap.ensures.out c.unlink-gap.ensures.gap
    (c.push_reserved.ensures.items ∙ ap (λ (cs : List Change). cs ++ Left c.args.leader c.args.session c.unlink-gap.result ∷ []) c.reserve.ensures.items)
    (subst (λ (l : Listed). UndoGives l before) (sym c.self.view_is) gives)
