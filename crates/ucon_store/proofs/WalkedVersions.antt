-- The version of a file tells whether there may be checkpoints in it.
use Rattle.std.proofs.Common.{◌≡◌, ℕ, zero, suc, ◌≤◌, List, Option, Some, None, refl, ap, arith}
use Rattle.std.specs.Prelude.{◌==◌, IfSome}
use Rattle.ucon_journal.specs.declared.journal.Journal.{Journal}
use Rattle.ucon_journal.specs.Found.{StandsAt}
use Rattle.ucon_journal.specs.Journal.{disk_of, gate_of, version_of, IsReading}
use Rattle.ucon_journal.specs.JournalBytes.{IsVersion}
use Rattle.ucon_model.specs.Plain.{Bytes}
use Rattle.ucon_store.specs.PointRecords.{has_points, points_of}
use Rattle.ucon_disk.specs.Seen.{DiskSeen}

pub of_version : (version : ℕ) → IsVersion version → (version == 2) ≡ points_of version
of_version zero is = absurd (let no : 1 ≤ 0 = is.0 in omega (arith, no))
of_version (suc zero) is = refl
of_version (suc (suc zero)) is = refl
of_version (suc (suc (suc n))) is = absurd (let no : suc (suc (suc n)) ≤ 2 = is.1 in omega (arith, no))

module _ {D : Type 0} (seen : D → DiskSeen) (j : Journal D) where
  some_kind : (o : Option (List ℕ)) → IfSome o (λ file. (payloads : List Bytes) × StandsAt file (version_of j) (gate_of j) payloads)
      → IfSome o (λ file. has_points file ≡ points_of (version_of j))
  some_kind None h = tt
  some_kind (Some file) h = ap has_points h.1.is

  -- the file of a journal that is read is of its version
  pub reading_kind : IsReading seen j → IfSome (seen (disk_of j)).contents (λ file. has_points file ≡ points_of (version_of j))
  reading_kind r = some_kind (seen (disk_of j)).contents r.told
