-- Which fault of a store a journal's fault is, and a record's.
use Rattle.std.specs.Prelude.{ℕ}
use Rattle.ucon_journal.specs.declared.fault.OpenFault.{OpenFault}
use Rattle.ucon_journal.specs.declared.fault.OpenFault.TheVariants as opening
use Rattle.ucon_journal.specs.declared.fault.TakeFault.{TakeFault}
use Rattle.ucon_store.specs.declared.record_fault.RecordFault.{RecordFault}
use Rattle.ucon_store.specs.declared.record_fault.RecordFault.TheVariants as records
use Rattle.ucon_store.specs.RecordFaults as walk
use Rattle.ucon_store.specs.declared.fault.StoreFault.{StoreFault}
use Rattle.ucon_store.specs.declared.fault.StoreFault.TheVariants.{NotJournal, Damaged, DiskFault, NoMemory}

abbrev pub of_open : OpenFault → StoreFault
of_open opening.NotJournal = NotJournal
of_open opening.DiskFault = DiskFault

abbrev pub of_record : RecordFault → StoreFault
of_record (records.Damaged number place) = Damaged number place
of_record records.DiskFault = DiskFault
of_record (records.NoMemory e) = NoMemory e

-- a record that is too long is a damaged one
abbrev pub of_take : ℕ → TakeFault → StoreFault
of_take number fault = of_record (walk.of_take number fault)
