use Rattle.std.proofs.Common.{◌≡◌, vec_len}
use Rattle.ucon_collections.specs.Owned.{AreInPlace, undone}
use Rattle.ucon_collections.proofs.owned.Owned.undo.Given as goal

abbrev pub invariant-loop-change : goal.invariant-loop-change
invariant-loop-change l = record {
  undone_is : undone l.self-inside.changes.items l.self-inside.deadlines.items ≡ l.fn.self.opening;
  in_place : AreInPlace l.self-inside;
}

abbrev pub decreases-loop-change : goal.decreases-loop-change
decreases-loop-change l = vec_len l.self-inside.changes
