use Rattle.std.proofs.Common.{◌∙◌, ◌<◌, List, Some, length, sym, ap}
use Rattle.std.proofs.lemmas.List.{length-set}
use Rattle.std.proofs.lemmas.List.Elements.{All-pop}
use Rattle.ucon_collections.specs.Owned.{undone}
use Rattle.ucon_collections.specs.declared.owned.DeadlineChange.{DeadlineChange}
use Rattle.ucon_collections.proofs.Changing.{undone-push}
use Rattle.ucon_collections.proofs.owned.Owned.undo.Goals as goal

pub loop-change-preserved : goal.loop-change-preserved
loop-change-preserved c =
    let before = c.loop-change.self-inside in
    let change = c.in-Some.change in
    let newest = undone-push c.pop.new.self.items change before.deadlines.items in
    let split = ap (λ (cs : List DeadlineChange). undone cs before.deadlines.items) c.in-Some.ensures.items in
    let P : DeadlineChange → Type 0 = λ c. c.session < length before.deadlines.items in
    let left = All-pop P before.changes.items c.pop.new.self.items (Some change) c.in-Some.ensures.items c.loop-change.invariant.in_place in
    record { undone_is = sym newest ∙ sym split ∙ c.loop-change.invariant.undone_is; in_place = λ k d h. rw length-set (left.0 k d h) }
