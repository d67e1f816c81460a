-- A disk in memory, and what each of its calls does.
use Rattle.std.specs.Prelude.{◌≡◌, ◌⊎◌, ℕ, Bool, false, not, if◌then◌else◌, List, Option}
use Rattle.ucon_disk.specs.declared.memory.MemDisk.{MemDisk}
use Rattle.ucon_disk.specs.Causes.{raised}
use Rattle.ucon_disk.specs.Image.{State, Change}
use Rattle.ucon_disk.specs.History.{History, recorded, state_now}
use Rattle.ucon_disk.specs.Recorded.{is_failing}

-- the bytes at first and each call since
abbrev pub history_of : MemDisk → History
history_of d = d.log

-- the bytes as read
abbrev pub bytes_of : MemDisk → List ℕ
bytes_of d = (state_now d.log).file

-- the state of the disk model
abbrev pub model_of : MemDisk → State
model_of d = state_now d.log

-- how often a call found no memory
abbrev pub short_of : MemDisk → ℕ
short_of d = d.plan.short

-- no call was made, and these will fail
pub record IsFresh (d : MemDisk) (numbers : List ℕ) (limit : Option ℕ) : Type 0 where
  pub failing : d.plan.failing.items ≡ numbers
  pub stop_after : d.plan.stop_after ≡ limit
  pub number : d.plan.number ≡ 0
  pub faults : d.plan.faults ≡ 0
  pub short : d.plan.short ≡ 0

-- the call that comes next is one that fails
abbrev pub fails_next : MemDisk → Bool
fails_next d = is_failing d.plan d.plan.number

-- the call was recorded, with its outcome, which is as planned
pub record IsRecorded (old new : MemDisk) (done : Bool) (call : Bool → Change) : Type 0 where
  pub planned : done ≡ not (fails_next old)
  pub history : history_of new ≡ recorded (history_of old) (call done)
  pub short : short_of new ≡ short_of old
  pub faults : new.plan.faults ≡ (if done then old.plan.faults else raised old.plan.faults)

-- the call found no memory, which is counted apart, and left all as it was
pub record IsShort (old new : MemDisk) (done : Bool) : Type 0 where
  pub failed : done ≡ false
  pub history : history_of new ≡ history_of old
  pub short : short_of new ≡ raised (short_of old)
  pub faults : new.plan.faults ≡ raised old.plan.faults

-- a call that succeeds or fails as planned, or finds no memory; the next call has the next number
pub record Makes (old new : MemDisk) (done : Bool) (call : Bool → Change) : Type 0 where
  pub outcome : IsRecorded old new done call ⊎ IsShort old new done
  pub number : new.plan.number ≡ raised old.plan.number
  pub failing : new.plan.failing ≡ old.plan.failing
  pub stop_after : new.plan.stop_after ≡ old.plan.stop_after
