-- Which fault of a record a journal's fault is.
use Rattle.std.specs.Prelude.{ℕ}
use Rattle.ucon_journal.specs.declared.fault.TakeFault.{TakeFault}
use Rattle.ucon_journal.specs.declared.fault.TakeFault.TheVariants as taking
use Rattle.ucon_store.specs.declared.record_fault.RecordFault.{RecordFault}
use Rattle.ucon_store.specs.declared.record_fault.RecordFault.TheVariants.{Damaged, DiskFault, NoMemory}

-- a record that is too long is a damaged one
abbrev pub of_take : ℕ → TakeFault → RecordFault
of_take number (taking.TooLong place) = Damaged number place
of_take number taking.DiskFault = DiskFault
of_take number (taking.NoMemory e) = NoMemory e
