-- The bytes of a text at the front of bytes.
use Rattle.std.proofs.Common.{◌≡◌, ℕ, suc, ◌+◌, Bool, true, false, List, [], ◌∷◌, length, take, Some, None, is_some, is_none, inl, inr, refl, sym, ap, ◌∙◌, arith, length-take}
use Rattle.std.specs.Prelude.{nat_lt, nat_le}
use Rattle.std.specs.List.{list_all}
use Rattle.std.proofs.lemmas.Bool.{and_parts, and_from, cases_Bool, le-ltb, leb-true, false≢true}
use Rattle.std.proofs.lemmas.List.Sums.{prefix_len-le-length}
use Rattle.ucon_base.proofs.Passing.{position_none, all_pass, none_from}
use Rattle.ucon_base.specs.declared.text.TextFault.{TextFault}
use Rattle.ucon_base.specs.Text.{first_text_fault}
use Rattle.ucon_base.specs.TextBytes.{is_text, is_text_byte, bad_text_place}
use Rattle.ucon_base.specs.Reading.{text_len}

-- each byte may stand in a text
abbrev pub texty : List ℕ → Bool
texty t = list_all is_text_byte t

pub clean : (t : List ℕ) → texty t ≡ true → bad_text_place t ≡ None
clean t h = position_none is_text_byte t h

pub texty-front : (bs : List ℕ) → texty (take (text_len bs) bs) ≡ true
texty-front [] = refl
texty-front (b ∷ bs) =
    elim (cases_Bool (is_text_byte b)) [
      | inl is ↦ let e : 1 + text_len bs ≡ suc (text_len bs) = omega arith in rw (is, e) (and_from _ _ is (texty-front bs))
      | inr isnt ↦ rw isnt refl
    ]

pub length-front : (bs : List ℕ) → length (take (text_len bs) bs) ≡ text_len bs
length-front bs = omega (arith, length-take (text_len bs) bs, prefix_len-le-length is_text_byte bs)

pub texty_fault : (t : List ℕ) → texty t ≡ true → nat_lt 64 (length t) ≡ false → first_text_fault t ≡ None
texty_fault t h short = rw (short, clean t h) refl

-- where the bytes at the front are no text, they are too many
pub long_front : (bs t : List ℕ) (f : TextFault) → t ≡ take (text_len bs) bs → first_text_fault t ≡ Some f → nat_lt 64 (text_len bs) ≡ true
long_front bs t f is fault =
    elim (cases_Bool (nat_lt 64 (text_len bs))) [
      | inl long ↦ long
      | inr short ↦
          let front = take (text_len bs) bs in
          let none : first_text_fault front ≡ None = texty_fault front (texty-front bs) (ap (nat_lt 64) (length-front bs) ∙ short) in
          absurd (false≢true (ap is_some (sym none ∙ ap first_text_fault (sym is) ∙ fault)))
    ]

pub no_fault : (t : List ℕ) → is_text t ≡ true → first_text_fault t ≡ None
no_fault t h =
    let parts = and_parts (nat_le (length t) 64) (is_none (bad_text_place t)) h in
    rw (le-ltb 64 (length t) (leb-true (length t) 64 parts.0), none_from (bad_text_place t) parts.1) refl

-- the bytes of a text may stand in one
pub texty_is : (t : List ℕ) → is_text t ≡ true → texty t ≡ true
texty_is t h =
    let parts = and_parts (nat_le (length t) 64) (is_none (bad_text_place t)) h in
    all_pass is_text_byte t (none_from (bad_text_place t) parts.1)
