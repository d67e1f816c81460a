-- What a step of a write or a cut is.
use Rattle.std.proofs.Common.{ℕ, List, length, refl, arith}
use Rattle.std.proofs.lemmas.List.{take_all}
use Rattle.ucon_disk.specs.Disk.{Torn, Shortened}

pub torn_same : (at n : ℕ) (file : List ℕ) → Torn at n file file
torn_same at n file = record { before = refl; after = refl; no_shorter = omega arith; no_longer = omega arith }

pub shortened_same : (n : ℕ) (file : List ℕ) → Shortened n file file
shortened_same n file = record { no_shorter = omega arith; front = take_all (length file) file (omega arith) }
