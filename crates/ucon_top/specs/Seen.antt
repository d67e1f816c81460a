-- What can be said of a source, a sink and a disk at one moment.
use Rattle.std.proofs.Common.{◌≡◌, ℕ, refl, subst}
use Rattle.ucon_disk.specs.Disk.{SameImages}
use Rattle.ucon_disk.specs.Seen.{DiskSeen}
use Rattle.ucon_flow.specs.Seen.{SinkSeen, SourceSeen}

pub record Seen : Type 1 where
  pub source : SourceSeen
  pub sink : SinkSeen
  pub disk : DiskSeen

abbrev pub all_seen : SourceSeen → SinkSeen → DiskSeen → Seen
all_seen source sink disk = record { source = source; sink = sink; disk = disk }

-- nothing that can be said of the disk is otherwise
pub record IsAsBefore (old new : DiskSeen) : Type 0 where
  pub contents : new.contents ≡ old.contents
  pub images : SameImages old.images new.images
  pub moment : new.moment ≡ old.moment
  pub images_since : (t : ℕ) → SameImages (old.images_since t) (new.images_since t)
  pub faults : new.faults ≡ old.faults

pub as_it_was : (disk : DiskSeen) → IsAsBefore disk disk
as_it_was disk = record {
  contents = refl;
  images = record { no_more = λ c image. image; no_fewer = λ c image. image };
  moment = refl;
  images_since = λ t. record { no_more = λ c since. since; no_fewer = λ c since. since };
  faults = refl;
}

-- of one and the same disk all that can be said stays
pub same_disk : {D : Type 0} (seen : D → DiskSeen) (old new : D) → new ≡ old → IsAsBefore (seen old) (seen new)
same_disk {D} seen old new same = subst (λ (d : D). IsAsBefore (seen d) (seen new)) same (as_it_was (seen new))
