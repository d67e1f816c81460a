use Rattle.std.proofs.Common.{◌≡◌, drop, length}
use Rattle.ucon_base.specs.Arithmetic.{same_texts}
use Rattle.ucon_accept.proofs.worth.are_same_texts.Given as goal

abbrev pub invariant-loop-i : goal.invariant-loop-i
invariant-loop-i l = (same_texts (drop l.i l.a) (drop l.i l.b) ≡ same_texts l.a l.b) × (length l.a ≡ length l.b)
