-- What writing a checkpoint answers and does.
use Rattle.std.specs.Prelude.{◌≡◌, ◌⊎◌, ℕ, ◌<◌, ◌≤◌, Bool, true, false, List, [], ◌∷◌, ◌++◌, length, Some, None, IsSome, IfSome, ⊤}
use Rattle.ucon_disk.specs.Causes.{raised}
use Rattle.ucon_model.specs.Action.{Trace}
use Rattle.ucon_model.specs.History.{History}
use Rattle.ucon_model.specs.Payload.{most_payload}
use Rattle.ucon_model.specs.Plain.{Bytes, PlainPolicy}
use Rattle.ucon_store.specs.declared.fault.PointFault.{PointFault}
use Rattle.ucon_store.specs.declared.fault.PointFault.TheVariants.{DiskFault, Stopped, OldJournal, TooLarge, NoMemory}
use Rattle.ucon_store.specs.Found.{IsFoundAs}
use Rattle.ucon_store.specs.Kept.{Kept}
use Rattle.ucon_store.specs.Points.{has_points, point_places}
use Rattle.ucon_store.specs.Starts.{checkpoint_behind}
use Rattle.ucon_disk.specs.Seen.{DiskSeen}

-- Why a checkpoint isn't prepared: there may be none; or there may, and it has more bytes than a payload may have, and so many; or memory is
-- wanting.
abbrev pub IsUnprepared : Bool → Bytes → PointFault → Type 0
IsUnprepared points text DiskFault = ⊥
IsUnprepared points text Stopped = ⊥
IsUnprepared points text OldJournal = points ≡ false
IsUnprepared points text (TooLarge size) = (points ≡ true) × (size ≡ length text) × (most_payload < size)
IsUnprepared points text (NoMemory e) = ⊤

-- Why a store of the policy P, to whose beginning the trace T leads, was given no checkpoint more: it was stopped; the file may have none; it may,
-- but this one is too long, and how long; memory is wanting; or the disk failed, where none of these was so.
abbrev pub IsUnpointed : {D : Type 0} → (D → DiskSeen) → PlainPolicy → Trace → Kept D → PointFault → Type 0
IsUnpointed seen P T store DiskFault =
    (store.mark ≡ None) × IfSome (seen store.disk).contents (λ file. has_points file ≡ true)
    × (length (checkpoint_behind store.policy store.point store.before P T store.entries) ≤ most_payload)
IsUnpointed seen P T store Stopped = IsSome store.mark
IsUnpointed seen P T store OldJournal = IfSome (seen store.disk).contents (λ file. has_points file ≡ false)
IsUnpointed seen P T store (TooLarge size) =
    IfSome (seen store.disk).contents (λ file. has_points file ≡ true)
    × (size ≡ length (checkpoint_behind store.policy store.point store.before P T store.entries)) × (most_payload < size)
IsUnpointed seen P T store (NoMemory e) = ⊤

-- it is found as the history, with checkpoints at these places, or with one more, behind all entries
abbrev pub IsFoundPointed : Bytes → History → List ℕ → Bytes → Type 0
IsFoundPointed text H places file =
    IsFoundAs text file H × ((point_places file ≡ places) ⊎ (point_places file ≡ places ++ length H ∷ []))

-- nothing but the disk is other
pub record IsSameStore {D : Type 0} (old new : Kept D) : Type 0 where
  pub policy : new.policy ≡ old.policy
  pub point : new.point ≡ old.point
  pub before : new.before ≡ old.before
  pub opening : new.opening ≡ old.opening
  pub entries : new.entries ≡ old.entries
  pub mark : new.mark ≡ old.mark

-- A checkpoint met a disk fault: the store is stopped with none of its entries in doubt, and nothing else is other.
pub record HasFailedPoint {D : Type 0} (seen : D → DiskSeen) (old new : Kept D) : Type 0 where
  pub unmarked : old.mark ≡ None
  pub rose : (seen new.disk).faults ≡ raised (seen old.disk).faults
  pub mark : new.mark ≡ Some []
  pub entries : new.entries ≡ old.entries
