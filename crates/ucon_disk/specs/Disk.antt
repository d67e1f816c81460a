-- What calls do to what a disk's reads give, and to what a crash may leave.
use Rattle.std.specs.Prelude.{◌≡◌, ◌⊎◌, ⊤, ℕ, ◌+◌, ◌-◌, ◌^◌, ◌<◌, ◌≤◌, min, max, List, ◌++◌, length, take, drop, Option, None, Some}

-- the bytes with these written over them at a place
abbrev pub overwritten : ℕ → List ℕ → List ℕ → List ℕ
overwritten at bytes file = take at file ++ bytes ++ drop (at + length bytes) file

-- if the disk tells: the place lies in the file or at its end, and the range ends where a u64 can say it
abbrev pub HasPlace : Option (List ℕ) → ℕ → ℕ → Type 0
HasPlace None at n = ⊤
HasPlace (Some file) at n = (at ≤ length file) × (at + n < 2 ^ 64)

-- n bytes of a buffer are those of the file at a place, and fewer than the buffer holds only at its end
pub record Reads (file : List ℕ) (at n : ℕ) (buf : List ℕ) : Type 0 where
  pub count : n ≡ min (length buf) (length file - at)
  pub bytes : take n buf ≡ take n (drop at file)

-- the first n bytes of a buffer are those of the file at a place: at least one if the buffer has room and the file more bytes
pub record ReadsPart (file : List ℕ) (at n : ℕ) (buf : List ℕ) : Type 0 where
  pub within : n ≤ length file - at
  pub some : 0 < length buf → at < length file → 0 < n
  pub bytes : take n buf ≡ take n (drop at file)

-- after a write of n bytes that a crash cuts short: any bytes in the range, the same elsewhere, any length up to its end
pub record Torn (at n : ℕ) (old new : List ℕ) : Type 0 where
  pub before : take at new ≡ take at old
  pub after : drop (at + n) new ≡ drop (at + n) old
  pub no_shorter : length old ≤ length new
  pub no_longer : length new ≤ max (length old) (at + n)

-- after a cut to n bytes that a crash may undo: any length between, the same bytes
pub record Shortened (n : ℕ) (old new : List ℕ) : Type 0 where
  pub no_shorter : min n (length old) ≤ length new
  pub front : take (length new) old ≡ new

-- each new image is an old one after a step
abbrev pub Follows : (List ℕ → List ℕ → Type 0) → (List ℕ → Type 0) → (List ℕ → Type 0) → Type 0
Follows step old new = (c : List ℕ) → new c → (d : List ℕ) × old d × step d c

-- each old image after the step is a new one
abbrev pub Reaches : (List ℕ → List ℕ → Type 0) → (List ℕ → Type 0) → (List ℕ → Type 0) → Type 0
Reaches step old new = (d c : List ℕ) → old d → step d c → new c

-- the images are the same
pub record SameImages (old new : List ℕ → Type 0) : Type 0 where
  pub no_more : (c : List ℕ) → new c → old c
  pub no_fewer : (c : List ℕ) → old c → new c

-- no image is new
abbrev pub NoneNew : (List ℕ → Type 0) → (List ℕ → Type 0) → Type 0
NoneNew old new = (c : List ℕ) → new c → old c

-- if the disk tells, a crash leaves the bytes as read and nothing else
abbrev pub Only : Option (List ℕ) → (List ℕ → Type 0) → Type 0
Only None images = ⊤
Only (Some file) images = (c : List ℕ) → images c → c ≡ file

-- Time goes on: what a crash since a moment may have left it may have left before the call, or may leave now.
pub record Elapses (before now : ℕ) (past since : ℕ → List ℕ → Type 0) (images : List ℕ → Type 0) : Type 0 where
  pub later : before ≤ now
  pub nothing_else : (t : ℕ) (c : List ℕ) → t ≤ before → since t c → past t c ⊎ images c
  pub keeps : (t : ℕ) (c : List ℕ) → t ≤ before → past t c → since t c
