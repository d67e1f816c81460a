-- What a run leaves as it was.
use Rattle.std.proofs.Common.{◌≡◌, ◌⊎◌, ⊎_elim, inl, inr, sym, subst}
use Rattle.std.specs.Prelude.{Option, Some, None, IfSome}
use Rattle.ucon_disk.specs.Seen.{DiskSeen}
use Rattle.ucon_model.specs.Plain.{Bytes}
use Rattle.ucon_top.specs.Seen.{IsAsBefore, same_disk}
use Rattle.ucon_top.specs.OwnReading.{IsAccepted}

-- the disk is as it was, or the document is accepted, where it is told
pub unless_accepted : {D : Type 0} (seen : D → DiskSeen) (document : Option Bytes) (bytes : Bytes) (old new : D) → IfSome document (λ d. d ≡ bytes)
    → (new ≡ old) ⊎ IsAccepted bytes → IfSome document (λ d. IsAsBefore (seen old) (seen new) ⊎ IsAccepted d)
unless_accepted seen None bytes old new is so = tt
unless_accepted seen (Some d) bytes old new is so =
    ⊎_elim (λ same. inl (same_disk seen old new same)) (λ accepted. inr (subst IsAccepted (sym is) accepted)) so
