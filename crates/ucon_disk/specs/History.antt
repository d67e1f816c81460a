-- The history of a disk in memory.
use Rattle.std.specs.Prelude.{ℕ, ◌≤◌, List, [], ◌∷◌, ◌++◌, length, take}
use Rattle.ucon_disk.specs.Image.{State, IsImage, Change, at_rest, after}

-- the bytes at first, and each call since
pub record History : Type 0 where
  pub start : List ℕ
  pub changes : List Change

-- the history with one call more
abbrev pub recorded : History → Change → History
recorded h change = record { start = h.start; changes = h.changes ++ change ∷ [] }

-- the model at a moment, and now
abbrev pub state_at : History → ℕ → State
state_at h k = after (at_rest h.start) (take k h.changes)

abbrev pub state_now : History → State
state_now h = after (at_rest h.start) h.changes

-- a crash at some moment from t on may have left these bytes
abbrev pub IsImageSince : History → ℕ → List ℕ → Type 0
IsImageSince h t image = (k : ℕ) × (t ≤ k) × (k ≤ length h.changes) × IsImage (state_at h k) image
