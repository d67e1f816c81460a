-- How a queue keeps its entries. No public clause of the heap cites this module.
use Rattle.std.specs.Prelude.{◌+◌, ◌-◌, ◌≤◌, vec_capacity, vec_len}
use Rattle.std.specs.BinaryHeap.{IsHeap, heap_capacity, heap_items, heap_len}
use Rattle.ucon_collections.specs.Entries.{Queued, entry_cmp}
use Rattle.ucon_collections.specs.declared.queue.Queue.TheInside.{Inside}

abbrev pub queued : Inside → Queued
queued q = record { waiting = heap_items q.entries; taken = q.taken.items; room = vec_capacity q.taken - vec_len q.taken }

-- the earliest deadline is on top, and there is room for what was taken off
pub record IsInOrder (q : Inside) : Type 0 where
  pub order : IsHeap entry_cmp (heap_items q.entries)
  pub room : heap_len q.entries + vec_len q.taken ≤ heap_capacity q.entries
