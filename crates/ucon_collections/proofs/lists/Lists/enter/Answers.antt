use Rattle.std.proofs.Common.{◌≡◌, ◌∙◌, ◌∷◌, ◌++◌, ◌≤◌, [], List, None, Some, true, ap, arith, length, subst, sym}
use Rattle.ucon_collections.specs.Lists.{Below, Enters, Members, ends_at, is_joined, leader_in}
use Rattle.ucon_collections.specs.Table.{IsSound, linked, seen}
use Rattle.ucon_collections.specs.Undoing.{Listed, UndoGives}
use Rattle.ucon_collections.specs.declared.lists.Change.{Change}
use Rattle.ucon_collections.specs.declared.lists.Change.TheVariants.{Joined}
use Rattle.ucon_collections.proofs.Leaving.{came_gives, enters, linked_count}
use Rattle.ucon_collections.proofs.Standing.{IsLike, enters_like, first_led, in_within, joined_within, like_same, like_sound, linked_sound}
use Rattle.ucon_collections.proofs.Undoing.{gives_still, same_who}
use Rattle.ucon_collections.proofs.lists.Lists.enter.Goals as goal

-- ---- no memory for the row

like_err : (c : goal.After-from_residual-in_err-reach_session) → IsLike (seen c.self.inside.table) (seen c.reach_session.new.self)
like_err c = record { rows = c.reach_session.ensures.rows; ends = λ l. ap (λ ends. ends_at ends.items l) c.reach_session.ensures.ends }

pub invariant_of-self-in_err-reach_session : goal.invariant_of-self-in_err-reach_session
invariant_of-self-in_err-reach_session c = like_sound (seen c.self.inside.table) (seen c.reach_session.new.self) (like_err c) c.self.invariant

pub returns-in_err-reach_session-clause-undo : goal.returns-in_err-reach_session-clause-undo
returns-in_err-reach_session-clause-undo c = λ before gives.
    gives_still (record { members = seen c.self.inside.table; changes = c.self.inside.changes.items })
    (record { members = seen c.reach_session.new.self; changes = c.reserve.new.self.items }) before c.reserve.ensures.items c.reach_session.ensures.count
    (same_who (seen c.self.inside.table) (seen c.reach_session.new.self) (like_same (seen c.self.inside.table) (seen c.reach_session.new.self) (like_err c)))
    (subst (λ (l : Listed). UndoGives l before) (sym c.self.view_is) gives)

-- ---- with its row

pub gap_for-gap-requires-clause-sound : goal.gap_for-gap-requires-clause-sound
gap_for-gap-requires-clause-sound c =
    like_sound (seen c.self.inside.table) (seen c.reach_session.new.self)
    (record { rows = c.reach_session.ensures.rows; ends = λ l. ap (λ ends. ends_at ends.items l) c.reach_session.ensures.ends }) c.self.invariant

pub link-requires-clause-list : goal.link-requires-clause-list
link-requires-clause-list c =
    joined_within (seen c.reach_session.new.self) c.args.leader
    (ap (λ ends. (ends_at ends.items c.args.leader).is_joined) c.reach_session.ensures.ends
    ∙ subst (λ (l : Listed). is_joined l.members c.args.leader ≡ true) (sym c.self.view_is) c.requires.joined)

pub link-requires-clause-next : goal.link-requires-clause-next
link-requires-clause-next c =
    in_within (seen c.reach_session.new.self) c.args.leader c.gap_for-gap.result.next
    (first_led Below (seen c.reach_session.new.self) c.args.leader (Some c.args.session) c.gap_for-gap.result.next c.gap_for-gap.ensures.next)

like : (c : goal.After-push_reserved) → IsLike (seen c.self.inside.table) (seen c.reach_session.new.self)
like c = record { rows = c.reach_session.ensures.rows; ends = λ l. ap (λ ends. ends_at ends.items l) c.reach_session.ensures.ends }

sound : (c : goal.After-push_reserved) → IsSound (seen c.reach_session.new.self)
sound c = like_sound (seen c.self.inside.table) (seen c.reach_session.new.self) (like c) c.self.invariant

joined : (c : goal.After-push_reserved) → is_joined (seen c.reach_session.new.self) c.args.leader ≡ true
joined c =
    (like_same (seen c.self.inside.table) (seen c.reach_session.new.self) (like c)).joined c.args.leader
    ∙ subst (λ (l : Listed). is_joined l.members c.args.leader ≡ true) (sym c.self.view_is) c.requires.joined

alone : (c : goal.After-push_reserved) → leader_in (seen c.self.inside.table) c.args.session ≡ None
alone c = subst (λ (l : Listed). leader_in l.members c.args.session ≡ None) (sym c.self.view_is) c.requires.alone

pub invariant_of-self-2 : goal.invariant_of-self-2
invariant_of-self-2 c =
    subst IsSound (sym c.link.ensures)
    (linked_sound (seen c.reach_session.new.self) c.args.leader c.args.session c.gap_for-gap.result (sound c) (joined c) c.in_ok-reach_session.ensures.reached
    c.gap_for-gap.ensures.previous c.gap_for-gap.ensures.next
    ((like_same (seen c.self.inside.table) (seen c.reach_session.new.self) (like c)).leaders c.args.session ∙ alone c))

enters_it : (c : goal.After-push_reserved) → Enters (seen c.self.inside.table) (seen c.link.new.self) c.args.leader c.args.session
enters_it c =
    subst (λ (w : Members). Enters (seen c.self.inside.table) w c.args.leader c.args.session) (sym c.link.ensures)
    (enters_like (seen c.self.inside.table) (seen c.reach_session.new.self) (linked (seen c.reach_session.new.self) c.args.leader c.args.session c.gap_for-gap.result)
    c.args.leader c.args.session (like c)
    (enters (seen c.reach_session.new.self) c.args.leader c.args.session c.gap_for-gap.result (sound c) (joined c) c.in_ok-reach_session.ensures.reached
    c.gap_for-gap.ensures.previous c.gap_for-gap.ensures.next))

pub returns-clause-enters : goal.returns-clause-enters
returns-clause-enters c = subst (λ (l : Listed). Enters l.members (seen c.link.new.self) c.args.leader c.args.session) c.self.view_is (enters_it c)

pub returns-clause-undo : goal.returns-clause-undo
returns-clause-undo c = λ before gives.
    let count : length (seen c.link.new.self).rows ≡ length c.reach_session.new.self.rows.items =
    ap (λ (w : Members). length w.rows) c.link.ensures
    ∙ linked_count (seen c.reach_session.new.self) c.args.leader c.args.session c.gap_for-gap.result (sound c) (joined c) c.in_ok-reach_session.ensures.reached
    c.gap_for-gap.ensures.previous c.gap_for-gap.ensures.next in
    let up : length c.self.inside.table.rows.items ≤ length c.reach_session.new.self.rows.items = c.reach_session.ensures.count in
    came_gives (record { members = seen c.self.inside.table; changes = c.self.inside.changes.items })
    (record { members = seen c.link.new.self; changes = c.push_reserved.new.self.items }) c.args.leader c.args.session before (alone c) (enters_it c)
    (omega (arith, count, up))
    (c.push_reserved.ensures.items ∙ ap (λ (cs : List Change). cs ++ Joined c.args.leader c.args.session ∷ []) c.reserve.ensures.items)
    (subst (λ (l : Listed). UndoGives l before) (sym c.self.view_is) gives)
