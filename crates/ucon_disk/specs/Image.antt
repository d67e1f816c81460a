-- The disk model: which bytes a crash may leave.
use Rattle.std.specs.Prelude.{◌≡◌, ℕ, zero, suc, ◌+◌, ◌<◌, ◌≤◌, min, max, nat_lt, nat_le, Bool, true, not, ◌&&◌, if◌then◌else◌, List, [], ◌∷◌, ◌++◌}
use Rattle.std.specs.Prelude.{length, take, drop, slice_index, Option, None, Some}
use Rattle.std.specs.List.{list_any}
use Rattle.ucon_disk.specs.Disk.{overwritten}

-- the bytes as read, the bytes at the last sync that succeeded, the least and the greatest length since, and the ranges that writes touched since
pub record State : Type 0 where
  pub file : List ℕ
  pub synced : List ℕ
  pub least : ℕ
  pub greatest : ℕ
  pub touched : List (ℕ × ℕ)

-- all that is read is on the disk
abbrev pub at_rest : List ℕ → State
at_rest file = record { file = file; synced = file; least = length file; greatest = length file; touched = [] }

-- the place lies in this range, which is a place and a number of bytes
abbrev pub covers : ℕ → ℕ × ℕ → Bool
covers k range = nat_le range.0 k && nat_lt k (range.0 + range.1)

abbrev pub is_touched : List (ℕ × ℕ) → ℕ → Bool
is_touched ranges k = list_any (λ range. covers k range) ranges

-- the place lay in the file at the last sync, and no write has touched it since
abbrev pub is_settled : State → ℕ → Bool
is_settled s k = nat_lt k (length s.synced) && not (is_touched s.touched k)

-- a crash may leave these bytes: a length that the file had or would have had, and each settled place as synced
pub record IsImage (s : State) (image : List ℕ) : Type 0 where
  pub least : s.least ≤ length image
  pub greatest : length image ≤ s.greatest
  pub settled : (k : ℕ) → k < length image → is_settled s k ≡ true → slice_index image k ≡ slice_index s.synced k

-- a call, and whether it succeeded
pub data Change : Type 0 where
  looked : Change
  wrote : ℕ → List ℕ → Bool → Change
  cut_to : ℕ → Bool → Change
  synced_all : Bool → Change

-- A write that fails counts as touching its range, and a length that a call would have given counts as one that the file had.
abbrev pub step : State → Change → State
step s looked = s
step s (wrote at bytes done) =
    record {
      file = if done then overwritten at bytes s.file else s.file;
      synced = s.synced;
      least = s.least;
      greatest = max s.greatest (at + length bytes);
      touched = s.touched ++ (at, length bytes) ∷ [];
    }
step s (cut_to len done) =
    record { file = if done then take len s.file else s.file; synced = s.synced; least = min s.least len; greatest = s.greatest; touched = s.touched }
step s (synced_all done) = if done then at_rest s.file else s

abbrev pub after : State → List Change → State
after s [] = s
after s (change ∷ changes) = after (step s change) changes

-- n bytes from place k on: settled places as synced, the others from these bytes in order, and 0 past their end
abbrev pub filled : State → ℕ → ℕ → List ℕ → List ℕ
filled s k zero fill = []
filled s k (suc n) fill =
    if is_settled s k then slice_index s.synced k ∷ filled s (k + 1) n fill else slice_index fill 0 ∷ filled s (k + 1) n (drop 1 fill)

-- the image of this length that these bytes fill, if the length is allowed
abbrev pub image_of : State → ℕ → List ℕ → Option (List ℕ)
image_of s len fill = if nat_le s.least len && nat_le len s.greatest then Some (filled s 0 len fill) else None
