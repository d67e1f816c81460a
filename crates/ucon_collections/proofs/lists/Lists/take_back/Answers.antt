use Rattle.std.proofs.Common.{◌∙◌, ◌<◌, Some, ap, subst, sym, length}
use Rattle.ucon_collections.specs.Lists.{IsLed}
use Rattle.ucon_collections.specs.Table.{IsSound, seen}
use Rattle.ucon_collections.specs.Undoing.{CanUndo, Listed, undone, who_in}
use Rattle.ucon_collections.specs.declared.lists.Change.{Change}
use Rattle.ucon_collections.specs.declared.lists.Change.TheVariants.{Founded, Left}
use Rattle.ucon_collections.proofs.Leaving.{CanLeave, back_in, back_out, back_shut, can_leave, left_sound}
use Rattle.ucon_collections.proofs.Standing.{first_led, in_within, joined_within, linked_sound, shut_sound}
use Rattle.ucon_collections.proofs.lists.Lists.take_back.Goals as goal

-- what can be undone, by the fields
founded : (c : goal.After-shut) → CanUndo (Founded c.in-Founded.leader) (who_in (seen c.self.inside.table)) (length c.self.inside.table.rows.items)
founded c = subst (λ (change : Change). CanUndo change (who_in (seen c.self.inside.table)) (length c.self.inside.table.rows.items)) c.in-Founded.is
    (subst (λ (l : Listed). CanUndo c.args.change (who_in l.members) (length l.members.rows)) (sym c.self.view_is) c.requires)

joined_before : (c : goal.After-unlink-arg-1) → IsLed (seen c.self.inside.table) c.in-Joined.leader c.in-Joined.session
joined_before c = subst (λ (change : Change). CanUndo change (who_in (seen c.self.inside.table)) (length c.self.inside.table.rows.items)) c.in-Joined.is
    (subst (λ (l : Listed). CanUndo c.args.change (who_in l.members) (length l.members.rows)) (sym c.self.view_is) c.requires)

joined : (c : goal.After-unlink) → IsLed (seen c.self.inside.table) c.in-Joined.leader c.in-Joined.session
joined c = subst (λ (change : Change). CanUndo change (who_in (seen c.self.inside.table)) (length c.self.inside.table.rows.items)) c.in-Joined.is
    (subst (λ (l : Listed). CanUndo c.args.change (who_in l.members) (length l.members.rows)) (sym c.self.view_is) c.requires)

left_before : (c : goal.After-link-arg-1)
    → CanUndo (Left c.in-Left.leader c.in-Left.session c.in-Left.gap) (who_in (seen c.self.inside.table)) (length c.self.inside.table.rows.items)
left_before c = subst (λ (change : Change). CanUndo change (who_in (seen c.self.inside.table)) (length c.self.inside.table.rows.items)) c.in-Left.is
    (subst (λ (l : Listed). CanUndo c.args.change (who_in l.members) (length l.members.rows)) (sym c.self.view_is) c.requires)

left : (c : goal.After-link) → CanUndo (Left c.in-Left.leader c.in-Left.session c.in-Left.gap) (who_in (seen c.self.inside.table)) (length c.self.inside.table.rows.items)
left c = subst (λ (change : Change). CanUndo change (who_in (seen c.self.inside.table)) (length c.self.inside.table.rows.items)) c.in-Left.is
    (subst (λ (l : Listed). CanUndo c.args.change (who_in l.members) (length l.members.rows)) (sym c.self.view_is) c.requires)

-- ---- a list was joined

pub invariant_of-self : goal.invariant_of-self
invariant_of-self c = subst IsSound (sym c.shut.ensures) (shut_sound (seen c.self.inside.table) c.in-Founded.leader c.self.invariant (founded c).1)

pub returns-in-Founded-clause-who : goal.returns-in-Founded-clause-who
returns-in-Founded-clause-who c =
    ap who_in c.shut.ensures ∙ back_shut (seen c.self.inside.table) c.in-Founded.leader (founded c).0
    ∙ ap (λ (change : Change). undone change (who_in (seen c.self.inside.table))) (sym c.in-Founded.is)
    ∙ ap (λ (l : Listed). undone c.args.change (who_in l.members)) c.self.view_is

-- ---- a session came

mine : (c : goal.After-unlink-arg-1) → CanLeave (seen c.self.inside.table) c.in-Joined.leader c.in-Joined.session
mine c = can_leave (seen c.self.inside.table) c.in-Joined.leader c.in-Joined.session c.self.invariant (joined_before c)

pub unlink-requires-clause-list : goal.unlink-requires-clause-list
unlink-requires-clause-list c = (mine c).list

pub unlink-requires-clause-session : goal.unlink-requires-clause-session
unlink-requires-clause-session c = (mine c).row

pub unlink-requires-clause-previous : goal.unlink-requires-clause-previous
unlink-requires-clause-previous c = (mine c).previous

pub unlink-requires-clause-next : goal.unlink-requires-clause-next
unlink-requires-clause-next c = (mine c).next

pub invariant_of-self-in-Joined : goal.invariant_of-self-in-Joined
invariant_of-self-in-Joined c =
    subst IsSound (sym c.unlink.ensures.out) (left_sound (seen c.self.inside.table) c.in-Joined.leader c.in-Joined.session c.self.invariant (joined c))

pub returns-in-Joined-clause-who : goal.returns-in-Joined-clause-who
returns-in-Joined-clause-who c =
    ap who_in c.unlink.ensures.out ∙ back_out (seen c.self.inside.table) c.in-Joined.leader c.in-Joined.session c.self.invariant (joined c)
    ∙ ap (λ (change : Change). undone change (who_in (seen c.self.inside.table))) (sym c.in-Joined.is)
    ∙ ap (λ (l : Listed). undone c.args.change (who_in l.members)) c.self.view_is

-- ---- a session left

pub link-requires-clause-list : goal.link-requires-clause-list
link-requires-clause-list c = joined_within (seen c.self.inside.table) c.in-Left.leader (left_before c).1

pub link-requires-clause-next : goal.link-requires-clause-next
link-requires-clause-next c =
    let v = seen c.self.inside.table in
    in_within v c.in-Left.leader c.in-Left.gap.next
    (first_led (λ n m. n < m) v c.in-Left.leader (Some c.in-Left.session) c.in-Left.gap.next (left_before c).4)

pub invariant_of-self-in-Left : goal.invariant_of-self-in-Left
invariant_of-self-in-Left c =
    subst IsSound (sym c.link.ensures)
    (linked_sound (seen c.self.inside.table) c.in-Left.leader c.in-Left.session c.in-Left.gap c.self.invariant (left c).1 (left c).2 (left c).3 (left c).4 (left c).0)

pub returns-in-Left-clause-who : goal.returns-in-Left-clause-who
returns-in-Left-clause-who c =
    ap who_in c.link.ensures
    ∙ back_in (seen c.self.inside.table) c.in-Left.leader c.in-Left.session c.in-Left.gap c.self.invariant (left c).1 (left c).2 (left c).3 (left c).4
    ∙ ap (λ (change : Change). undone change (who_in (seen c.self.inside.table))) (sym c.in-Left.is)
    ∙ ap (λ (l : Listed). undone c.args.change (who_in l.members)) c.self.view_is
