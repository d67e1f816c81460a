-- What a run over a journal keeps of its records, whatever the file is found as.
use Rattle.std.specs.Prelude.{◌≡◌, Some}
use Rattle.ucon_disk.specs.Run.{LeavesFrom}
use Rattle.ucon_disk.specs.Seen.{DiskSeen}
use Rattle.ucon_model.specs.Plain.{Bytes}
use Rattle.ucon_store.specs.Keeping.{KeepsRecords}

-- What counted in the file counts in each image, before all else, and the version stays. That is so after a crash now, and after one at any moment
-- since; the latter may also leave what a crash could leave before.
pub record KeepsFile (old new : DiskSeen) : Type 0 where
  pub since : LeavesFrom old new KeepsRecords
  pub now : (file : Bytes) → old.contents ≡ Some file → (c : Bytes) → new.images c → KeepsRecords file c
