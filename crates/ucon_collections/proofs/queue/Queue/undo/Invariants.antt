use Rattle.std.proofs.Common.{◌⊎◌, vec_len}
use Rattle.std.specs.BinaryHeap.{heap_items}
use Rattle.std.specs.List.{Contains}
use Rattle.ucon_collections.specs.Entries.{Entry}
use Rattle.ucon_collections.specs.Queue.{IsInOrder}
use Rattle.ucon_collections.proofs.queue.Queue.undo.Given as goal

abbrev pub invariant-loop-entry : goal.invariant-loop-entry
invariant-loop-entry l = record {
  back : (e : Entry) → Contains l.fn.self.waiting e ⊎ Contains l.fn.self.taken e → Contains (heap_items l.self-inside.entries) e ⊎ Contains l.self-inside.taken.items e;
  in_order : IsInOrder l.self-inside;
}

abbrev pub decreases-loop-entry : goal.decreases-loop-entry
decreases-loop-entry l = vec_len l.self-inside.taken
