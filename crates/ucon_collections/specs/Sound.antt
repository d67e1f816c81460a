-- What ties the queue to the deadlines. No public clause cites this module.
use Rattle.std.specs.Prelude.{◌≡◌, ◌⊎◌, ℕ, ℤ, Some}
use Rattle.std.specs.List.{Contains}
use Rattle.ucon_collections.specs.Deadlines.{Deadlines, deadline_of}
use Rattle.ucon_collections.specs.Entries.{Queued, entry}

-- each deadline now is in the queue, and each at the last keep is in it or was taken off
pub record IsSound (owned : Deadlines) (queue : Queued) : Type 0 where
  pub now : (n : ℕ) (d : ℤ) → deadline_of owned.now n ≡ Some d → Contains queue.waiting (entry d n)
  pub opening : (n : ℕ) (d : ℤ) → deadline_of owned.opening n ≡ Some d → Contains queue.waiting (entry d n) ⊎ Contains queue.taken (entry d n)
