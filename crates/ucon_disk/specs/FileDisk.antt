-- A disk over a real file.
use Rattle.std.specs.Prelude.{ℕ}
use Rattle.ucon_disk.specs.declared.file.FileDisk.{FileDisk}

-- how often a call failed
abbrev pub file_faults : {R : Type 0} → FileDisk R → ℕ
file_faults d = d.faults
