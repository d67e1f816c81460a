-- Why a journal isn't right.
use Rattle.std.proofs.Common.{◌≡◌, ◌≢◌, ℕ, Option, refl, sym, ap, ◌∙◌, subst}
use Rattle.std.specs.Prelude.{IfSome}
use Rattle.ucon_disk.specs.Causes.{raised}
use Rattle.ucon_journal.specs.declared.fault.TakeFault.{TakeFault}
use Rattle.ucon_journal.specs.declared.fault.TakeFault.TheVariants as taking
use Rattle.ucon_model.specs.Found.{damaged}
use Rattle.ucon_model.specs.Plain.{Bytes}
use Rattle.ucon_store.specs.declared.fault.StoreFault.{StoreFault}
use Rattle.ucon_store.specs.Faults.{of_record}
use Rattle.ucon_store.specs.Found.{found}
use Rattle.ucon_store.specs.RecordFaults.{of_take}
use Rattle.ucon_store.specs.declared.record_fault.RecordFault.{RecordFault}
use Rattle.ucon_audit.specs.Refusing.{IsRefused}

by_take : (fault : TakeFault) (text : Bytes) (o : Option Bytes) (number gate before now : ℕ)
    → ((place : ℕ) → fault ≡ taking.TooLong place → (place ≡ gate) × IfSome o (λ file. found file ≡ damaged number gate))
    → (fault ≡ taking.DiskFault → now ≡ raised before) → (fault ≢ taking.DiskFault → now ≡ before)
    → IsRefused (of_record (of_take number fault)) text o before now
by_take (taking.TooLong place) text o number gate before now long failed unfailed =
    let l = long place refl in
    (subst (λ (at : ℕ). IfSome o (λ file. found file ≡ damaged number at)) (sym l.0) l.1, unfailed (λ e. absurd (cc e)))
by_take taking.DiskFault text o number gate before now long failed unfailed = failed refl
by_take (taking.NoMemory m) text o number gate before now long failed unfailed = unfailed (λ e. absurd (cc e))

-- a record could not be taken
pub take_refused : (stored : StoreFault) (record_fault : RecordFault) (fault : TakeFault) (text : Bytes) (o : Option Bytes) (number gate before now : ℕ)
    → stored ≡ of_record record_fault → record_fault ≡ of_take number fault
    → ((place : ℕ) → fault ≡ taking.TooLong place → (place ≡ gate) × IfSome o (λ file. found file ≡ damaged number gate))
    → (fault ≡ taking.DiskFault → now ≡ raised before) → (fault ≢ taking.DiskFault → now ≡ before) → IsRefused stored text o before now
take_refused stored record_fault fault text o number gate before now is at long failed unfailed =
    subst (λ (f : StoreFault). IsRefused f text o before now) (sym (is ∙ ap of_record at)) (by_take fault text o number gate before now long failed unfailed)
