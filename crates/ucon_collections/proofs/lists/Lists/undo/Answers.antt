use Rattle.std.proofs.Common.{◌≡◌, ◌∙◌, ◌++◌, ◌∷◌, [], List, ℕ, ap, length, subst, sym}
use Rattle.ucon_collections.specs.Lists.{Members}
use Rattle.ucon_collections.specs.Undoing.{CanUndo, CanUndoAll, Who, all_undone, undone, who_in}
use Rattle.ucon_collections.specs.declared.lists.Change.{Change}
use Rattle.ucon_collections.proofs.Undoing.{can_newest, newest_first}
use Rattle.ucon_collections.proofs.lists.Lists.undo.Goals as goal

pub take_back-requires : goal.take_back-requires
take_back-requires c =
    let some = c.loop-change.invariant.some in
    let gives = c.loop-change.invariant.gives some.0 some.1 in
    let v = c.loop-change.self.members in
    let is : c.loop-change.self.changes ≡ c.newest.new.self.changes ++ c.in-Some.change ∷ [] = c.in-Some.ensures.some in
    subst (λ (w : Members). CanUndo c.in-Some.change (who_in w) (length w.rows)) (sym c.newest.ensures.members)
    (can_newest c.newest.new.self.changes c.in-Some.change (who_in v) (length v.rows)
    (subst (λ (cs : List Change). CanUndoAll cs (who_in v) (length v.rows)) is gives.can)).0

pub loop-change-preserved : goal.loop-change-preserved
loop-change-preserved c =
    let v = c.loop-change.self.members in
    let rest = c.newest.new.self.changes in
    let change = c.in-Some.change in
    let is : c.loop-change.self.changes ≡ rest ++ change ∷ [] = c.in-Some.ensures.some in
    let w = c.take_back.new.self in
    let who = c.take_back.ensures.who ∙ ap (λ (m : Members). undone change (who_in m)) c.newest.ensures.members in
    let count : length w.members.rows ≡ length v.rows = c.take_back.ensures.count ∙ ap (λ (m : Members). length m.rows) c.newest.ensures.members in
    record {
      gives = λ before given.
          let was = c.loop-change.invariant.gives before given in
          let newest = can_newest rest change (who_in v) (length v.rows) (subst (λ (cs : List Change). CanUndoAll cs (who_in v) (length v.rows)) is was.can) in
          record {
            can = subst (λ (cs : List Change). CanUndoAll cs (who_in w.members) (length w.members.rows)) (sym c.take_back.ensures.changes)
                (subst (λ (n : ℕ). CanUndoAll rest (who_in w.members) n) (sym count)
                (subst (λ (x : Who). CanUndoAll rest x (length v.rows)) (sym who) newest.1));
            back = ap (λ (cs : List Change). all_undone cs (who_in w.members)) c.take_back.ensures.changes
                ∙ ap (all_undone rest) who ∙ sym (newest_first rest change (who_in v)) ∙ ap (λ (cs : List Change). all_undone cs (who_in v)) (sym is) ∙ was.back;
          };
      some = c.loop-change.invariant.some;
    }
