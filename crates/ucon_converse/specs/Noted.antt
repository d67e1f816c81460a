-- What is noted of a checkpoint that was tried.
use Rattle.std.specs.Prelude.{ℕ, [], ◌∷◌, ◌++◌, Result, Ok, Err}
use Rattle.ucon_store.specs.declared.fault.PointFault.{PointFault}
use Rattle.ucon_store.specs.declared.fault.PointFault.TheVariants as faults
use Rattle.ucon_converse.specs.declared.points.Points.{Points}

-- behind so many steps; where the disk had failed before none was tried
abbrev pub noted : Result ℕ PointFault → ℕ → Points → Points
noted (Ok n) steps p = record { made = p.made ++ n ∷ []; tried = n }
noted (Err faults.DiskFault) steps p = record { made = p.made; tried = steps }
noted (Err faults.Stopped) steps p = p
noted (Err faults.OldJournal) steps p = record { made = p.made; tried = steps }
noted (Err (faults.TooLarge size)) steps p = record { made = p.made; tried = steps }
noted (Err (faults.NoMemory e)) steps p = record { made = p.made; tried = steps }
