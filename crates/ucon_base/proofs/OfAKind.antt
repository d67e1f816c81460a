-- What spellings that begin with a byte are.
use Rattle.std.proofs.Common.{◌≡◌, ℕ, true, ◌&&◌, List, [], ◌∷◌, ◌++◌, length, None, refl, sym, ap, ◌∙◌, arith}
use Rattle.std.specs.Prelude.{nat_le}
use Rattle.std.specs.List.{list_all}
use Rattle.std.proofs.lemmas.Bool.{and_parts, false≢true}
use Rattle.ucon_base.specs.Reading.{opened}
use Rattle.ucon_base.specs.Spelling.{set_spelling}
use Rattle.ucon_base.specs.Spellings.{IsSpelling, zero, positive, negative, text, set, is_number, is_plain}
use Rattle.ucon_base.proofs.RisingSets.{chain_from_rising, rising_from_chain}
use Rattle.ucon_base.proofs.Sets.{Rest, head, tail}

set_head : (ts : List (List ℕ)) → head (set_spelling ts) ≡ 123
set_head [] = refl
set_head (t ∷ ts) = refl

set_length : (ts : List (List ℕ)) → length (set_spelling ts) ≡ 0 → ⊥
set_length [] h = omega (arith, h)
set_length (t ∷ ts) h = omega (arith, h)

pub empty_is_none : IsSpelling [] → ⊥
empty_is_none (zero e) = omega (arith, ap length e)
empty_is_none (positive h) = false≢true h
empty_is_none (negative number h e) = omega (arith, ap length e)
empty_is_none (text t h e) = omega (arith, ap length e)
empty_is_none (set ts up plain e) = set_length ts (sym (ap length e))

number_head : (b : ℕ) (l : List ℕ) → is_number (b ∷ l) ≡ true → (nat_le 49 b ≡ true) × (nat_le b 57 ≡ true)
number_head b l h = and_parts (nat_le 49 b) (nat_le b 57) (and_parts (nat_le 49 b && nat_le b 57) (list_all (λ d. nat_le 48 d && nat_le d 57) l) h).0

pub minus_only : (l : List ℕ) → IsSpelling (45 ∷ l) → is_number l ≡ true
minus_only l (zero e) = let h : 45 ≡ 48 = ap head e in absurd (omega (arith, h))
minus_only l (positive h) = absurd (false≢true (number_head 45 l h).0)
minus_only l (negative number h e) = ap is_number (ap tail e) ∙ h
minus_only l (text t h e) = let h : 45 ≡ 34 = ap head e in absurd (omega (arith, h))
minus_only l (set ts up plain e) = let h : 45 ≡ 123 = ap head e ∙ set_head ts in absurd (omega (arith, h))

pub zero_only : (l : List ℕ) → IsSpelling (48 ∷ l) → l ≡ []
zero_only l (zero e) = ap tail e
zero_only l (positive h) = absurd (false≢true (number_head 48 l h).0)
zero_only l (negative number h e) = let h : 48 ≡ 45 = ap head e in absurd (omega (arith, h))
zero_only l (text t h e) = let h : 48 ≡ 34 = ap head e in absurd (omega (arith, h))
zero_only l (set ts up plain e) = let h : 48 ≡ 123 = ap head e ∙ set_head ts in absurd (omega (arith, h))

-- the first byte is none of those that tell another kind
pub record Other (b : ℕ) : Type 0 where
  pub no_quote : b ≡ 34 → ⊥
  pub no_bracket : b ≡ 123 → ⊥
  pub no_minus : b ≡ 45 → ⊥
  pub no_zero : b ≡ 48 → ⊥

pub number_only : (b : ℕ) (l : List ℕ) → Other b → IsSpelling (b ∷ l) → is_number (b ∷ l) ≡ true
number_only b l other (zero e) = absurd (other.no_zero (ap head e))
number_only b l other (positive h) = h
number_only b l other (negative number h e) = absurd (other.no_minus (ap head e))
number_only b l other (text t h e) = absurd (other.no_quote (ap head e))
number_only b l other (set ts up plain e) = absurd (other.no_bracket (ap head e ∙ set_head ts))

-- bytes behind the opening `"` of a text
abbrev pub EndsText : List ℕ → Type 0
EndsText l = (t : List ℕ) × (is_plain t ≡ true) × (l ≡ t ++ 34 ∷ [])

pub text_only : (l : List ℕ) → IsSpelling (34 ∷ l) → EndsText l
text_only l (zero e) = let h : 34 ≡ 48 = ap head e in absurd (omega (arith, h))
text_only l (positive h) = absurd (false≢true (number_head 34 l h).0)
text_only l (negative number h e) = let h : 34 ≡ 45 = ap head e in absurd (omega (arith, h))
text_only l (text t h e) = (t, h, ap tail e)
text_only l (set ts up plain e) = let h : 34 ≡ 123 = ap head e ∙ set_head ts in absurd (omega (arith, h))

pub text_if : (l : List ℕ) → EndsText l → IsSpelling (34 ∷ l)
text_if l h = text h.0 h.1 (ap (λ x. 34 ∷ x) h.2)

pub set_only : (l : List ℕ) → IsSpelling (123 ∷ l) → Rest None opened l
set_only l (zero e) = let h : 123 ≡ 48 = ap head e in absurd (omega (arith, h))
set_only l (positive h) = absurd (false≢true (number_head 123 l h).1)
set_only l (negative number h e) = let h : 123 ≡ 45 = ap head e in absurd (omega (arith, h))
set_only l (text t h e) = let h : 123 ≡ 34 = ap head e in absurd (omega (arith, h))
set_only l (set ts up plain e) = (ts, record { rising = chain_from_rising ts up; plain = plain }, e)

pub set_if : (l : List ℕ) → Rest None opened l → IsSpelling (123 ∷ l)
set_if l h = set h.0 (rising_from_chain h.0 h.1.rising) h.1.plain h.2
