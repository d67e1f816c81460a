use Rattle.std.proofs.Common.{◌≡◌, ◌∙◌, ◌∷◌, ◌++◌, [], List, ap, arith, length, subst, sym}
use Rattle.std.specs.Prelude.{false}
use Rattle.ucon_collections.specs.Lists.{Members, Opens, is_joined, member_at}
use Rattle.ucon_collections.specs.Table.{IsSound, seen}
use Rattle.ucon_collections.specs.Undoing.{Listed, UndoGives}
use Rattle.ucon_collections.specs.declared.lists.Change.{Change}
use Rattle.ucon_collections.specs.declared.lists.Change.TheVariants.{Founded}
use Rattle.ucon_collections.proofs.Leaving.{opened_gives, opens}
use Rattle.ucon_collections.proofs.Standing.{IsLike, like_sound, open_sound}
use Rattle.ucon_collections.proofs.lists.Lists.open.Goals as goal

pub invariant_of-self-in_err-reach_leader : goal.invariant_of-self-in_err-reach_leader
invariant_of-self-in_err-reach_leader c =
    like_sound (seen c.self.inside.table) (seen c.reach_leader.new.self)
    (record {
      rows = λ n. ap (λ rows. member_at rows.items n) c.reach_leader.ensures.rows;
      ends = c.reach_leader.ensures.ends;
    }) c.self.invariant

like : (c : goal.After-push_reserved) → IsLike (seen c.self.inside.table) (seen c.reach_leader.new.self)
like c = record { rows = λ n. ap (λ rows. member_at rows.items n) c.reach_leader.ensures.rows; ends = c.reach_leader.ensures.ends }

pub invariant_of-self-2 : goal.invariant_of-self-2
invariant_of-self-2 c =
    subst IsSound (sym c.open.ensures)
    (open_sound (seen c.reach_leader.new.self) c.args.leader c.in_ok-reach_leader.ensures.reached
    (like_sound (seen c.self.inside.table) (seen c.reach_leader.new.self) (like c) c.self.invariant))

opens_it : (c : goal.After-push_reserved) → Opens (seen c.self.inside.table) (seen c.open.new.self) c.args.leader
opens_it c = subst (λ (w : Members). Opens (seen c.self.inside.table) w c.args.leader) (sym c.open.ensures)
    (opens (seen c.self.inside.table) (seen c.reach_leader.new.self) c.args.leader (like c) c.in_ok-reach_leader.ensures.reached)

pub returns-clause-opens : goal.returns-clause-opens
returns-clause-opens c = subst (λ (l : Listed). Opens l.members (seen c.open.new.self) c.args.leader) c.self.view_is (opens_it c)

pub returns-clause-undo : goal.returns-clause-undo
returns-clause-undo c = λ before gives.
    let count : length (seen c.open.new.self).rows ≡ length c.self.inside.table.rows.items =
    ap (λ (w : Members). length w.rows) c.open.ensures ∙ ap (λ rows. length rows.items) c.reach_leader.ensures.rows in
    opened_gives (record { members = seen c.self.inside.table; changes = c.self.inside.changes.items })
    (record { members = seen c.open.new.self; changes = c.push_reserved.new.self.items }) c.args.leader before c.self.invariant
    (subst (λ (l : Listed). is_joined l.members c.args.leader ≡ false) (sym c.self.view_is) c.requires) (opens_it c) (omega (arith, count))
    (c.push_reserved.ensures.items ∙ ap (λ (cs : List Change). cs ++ Founded c.args.leader ∷ []) c.reserve.ensures.items)
    (subst (λ (l : Listed). UndoGives l before) (sym c.self.view_is) gives)
