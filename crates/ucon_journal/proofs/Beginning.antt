-- What a crash may leave while a journal is opened: one of the files from before, or what a step makes of the bytes as read.
use Rattle.std.proofs.Common.{◌⊎◌, inl, ℕ, List}
use Rattle.ucon_disk.specs.Disk.{Elapses}
use Rattle.ucon_disk.specs.Run.{LeavesOnly, goes_on, started}
use Rattle.ucon_disk.specs.Seen.{DiskSeen}

module _ {D : Type 0} (seen : D → DiskSeen) (step : List ℕ → List ℕ → Type 0) where
  abbrev pub IsOldOr : D → List ℕ → List ℕ → Type 0
  IsOldOr old file c = (seen old).images c ⊎ step file c

  -- before the first call
  pub untried : ((d : D) (c : List ℕ) → (seen d).images_since (seen d).moment c → (seen d).images c) → (old : D) (file : List ℕ)
      → LeavesOnly (seen old) (seen old) (IsOldOr old file)
  untried only old file = started (seen old) (IsOldOr old file) (λ c since. inl (only old c since))

  -- a call after which a crash leaves nothing that it couldn't leave at first
  pub none_new : (old mid new : D) (file : List ℕ) → LeavesOnly (seen old) (seen mid) (IsOldOr old file)
      → Elapses (seen mid).moment (seen new).moment (seen mid).images_since (seen new).images_since (seen new).images
      → ((c : List ℕ) → (seen new).images c → (seen old).images c) → LeavesOnly (seen old) (seen new) (IsOldOr old file)
  none_new old mid new file run time same = goes_on (seen old) (seen mid) (seen new) (IsOldOr old file) (seen new).images run time (λ c image. inl (same c image))
