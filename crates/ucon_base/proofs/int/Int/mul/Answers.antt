use Rattle.std.proofs.Common.{ℤ, ◌≡◌, ◌*ℤ◌}
use Rattle.std.proofs.lemmas.Int.{to_z-of_z}
use Rattle.ucon_base.specs.Numbers.{InRange, clamped}
use Rattle.ucon_base.proofs.Products.{fits_64, fits_128, product_fits}
use Rattle.ucon_base.proofs.int.Int.mul.Goals as goal

pub returns : goal.returns
returns c =
    let a : ℤ = c.self.inside.value in
    let b : ℤ = c.other.inside.value in
    let a_64 = fits_64 a c.self.invariant in
    let b_64 = fits_64 b c.other.invariant in
    let a_128 = fits_128 a c.self.invariant in
    let b_128 = fits_128 b c.other.invariant in
    let fits = product_fits a b c.self.invariant c.other.invariant in
    let value : c.clamp.result ≡ clamped (a *ℤ b) = simp to_z-of_z at c.clamp.ensures.value in
    let kept : InRange c.clamp.result = record { low = c.clamp.ensures.lower_bound; high = c.clamp.ensures.upper_bound } in
    let r_64 = fits_64 _ kept in
    let r_128 = fits_128 _ kept in
    rw (← c.self.view_is, ← c.other.view_is) (simp to_z-of_z value)
