-- Which payloads begin as checkpoints, and where there may be any.
use Rattle.std.specs.Prelude.{ℕ, nat_eq, Bool, codes, take}
use Rattle.std.specs.List.{starts_with}
use Rattle.std.specs.Str.{bytes_eq}
use Rattle.ucon_model.specs.Plain.{Bytes}
use Rattle.ucon_journal.specs.JournalBytes.{magic}

-- the payload begins as a checkpoint does, and as no step's does
abbrev pub is_point : Bytes → Bool
is_point payload = starts_with nat_eq payload (codes "point ")

-- only version 2 may have checkpoints
abbrev pub points_of : ℕ → Bool
points_of version = bytes_eq (magic version) (magic 2)

-- by the first 8 bytes of a file
abbrev pub has_points : Bytes → Bool
has_points file = bytes_eq (take 8 file) (magic 2)
