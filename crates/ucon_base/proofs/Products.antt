-- Integers in range and their products, as words of 64 and 128 bits.
use Rattle.std.proofs.Common.{ℤ, ◌*ℤ◌, ◌≤◌, FitsSigned, w64, arith, lit<, unsigned_abs}
use Rattle.std.specs.Int.{w128}
use Rattle.std.proofs.lemmas.Int.{ints, fits_signed_mul, fits_signed_from_abs}
use Rattle.ucon_base.specs.Numbers.{InRange}

pub unsigned_abs_in_range : (a : ℤ) → InRange a → unsigned_abs a ≤ 1000000000000000
unsigned_abs_in_range a p = omega (arith, ints)

pub fits_64 : (a : ℤ) → InRange a → FitsSigned w64 a
fits_64 a p = fits_signed_from_abs w64 a (omega (arith, unsigned_abs_in_range a p))

pub fits_128 : (a : ℤ) → InRange a → FitsSigned w128 a
fits_128 a p = fits_signed_from_abs w128 a (omega (arith, unsigned_abs_in_range a p))

pub product_fits : (a b : ℤ) → InRange a → InRange b → FitsSigned w128 (a *ℤ b)
product_fits a b p q = fits_signed_mul w128 a b 1000000000000000 1000000000000000 (unsigned_abs_in_range a p) (unsigned_abs_in_range b q) (lit< tt)
