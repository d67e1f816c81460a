use Rattle.std.proofs.Common.{◌≡◌, Bool, true, false, eqb, length, take, refl, sym, ap, ◌∙◌, arith, w8}
use Rattle.std.specs.Prelude.{not, ◌==◌}
use Rattle.std.specs.List.{position_or_len}
use Rattle.std.proofs.lemmas.Bool.{eqb-true}
use Rattle.std.proofs.lemmas.List.{take_all}
use Rattle.std.proofs.lemmas.Simd.{bitmask_splat, leading_from_mask_l}
use Rattle.ucon_command.proofs.payload.lacks.Goals as goal

twice : (b : Bool) → not (not b) ≡ true → b ≡ true
twice true is = refl
twice false is = is

pub returns : goal.returns
returns c = λ yes.
    let chunk = c.args.chunk.now in
    let byte = c.args.byte in
    let whole : take 16 chunk ≡ chunk = take_all 16 chunk (omega (arith, c.requires)) in
    let long : length (take 16 chunk) ≡ 16 = ap length whole ∙ c.requires in
    let empty = sym (bitmask_splat w8 eqb (take 16 chunk) 16 byte long (omega arith)) ∙ eqb-true _ _ (twice _ yes) in
    let none = leading_from_mask_l (λ b. b == byte) (take 16 chunk) empty in
    ap (position_or_len (λ b. b == byte)) (sym whole) ∙ none ∙ long
