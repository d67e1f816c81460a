-- A line that begins otherwise than `client` is no heading.
use Rattle.std.proofs.Common.{◌≡◌, ℕ, zero, suc, Bool, true, false, ◌&&◌, [], ◌∷◌, take, inl, inr, refl, sym, ap, ◌∙◌}
use Rattle.std.specs.Prelude.{codes, nat_eq}
use Rattle.std.specs.List.{starts_with}
use Rattle.std.specs.Str.{bytes_eq}
use Rattle.std.proofs.lemmas.Bool.{and_parts, and_from, cases_Bool, true≢false, false≢true}
use Rattle.std.proofs.lemmas.Cmp.{nat_eq_equiv}
use Rattle.ucon_model.specs.Document.{is_heading}
use Rattle.ucon_model.specs.Plain.{Bytes}

-- a line begins with what stands first in it
begins : (n : ℕ) (line word : Bytes) → bytes_eq (take n line) word ≡ true → starts_with nat_eq line word ≡ true
begins n line [] same = refl
begins zero line (c ∷ word) same = absurd (false≢true same)
begins (suc n) [] (c ∷ word) same = absurd (false≢true same)
begins (suc n) (b ∷ line) (c ∷ word) same =
    let parts = and_parts (nat_eq b c) (bytes_eq (take n line) word) same in
    and_from (nat_eq c b) (starts_with nat_eq line word) (nat_eq_equiv.symm c b ∙ parts.0) (begins n line word parts.1)

pub begins_otherwise : (line : Bytes) → starts_with nat_eq line (codes "client") ≡ false → is_heading line ≡ false
begins_otherwise line other =
    elim (cases_Bool (is_heading line)) [
      | inl is ↦ absurd (true≢false (sym (begins _ line (codes "client") is) ∙ other))
      | inr isnt ↦ isnt
    ]

pub other_byte : (line : Bytes) → starts_with nat_eq line (codes "c") ≡ false → is_heading line ≡ false
other_byte [] other = refl
other_byte (b ∷ rest) other =
    elim (cases_Bool (nat_eq 99 b)) [
      | inl is ↦ absurd (false≢true (sym other ∙ ap (λ (c : Bool). c && true) is))
      | inr isnt ↦ begins_otherwise (b ∷ rest) (ap (λ (c : Bool). c && starts_with nat_eq rest (codes "lient")) isnt)
    ]
