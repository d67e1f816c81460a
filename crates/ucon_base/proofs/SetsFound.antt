-- What the reader of a set keeps, one member more.
use Rattle.std.proofs.Common.{◌≡◌, ℕ, ◌+◌, List, [], ◌∷◌, ◌++◌, length, map, Option, inl, inr, refl, sym, ap, ◌∙◌, arith}
use Rattle.std.specs.Prelude.{nat_lt}
use Rattle.std.specs.Option.{option_or}
use Rattle.std.proofs.lemmas.Bool.{cases_Bool}
use Rattle.std.proofs.lemmas.List.{map-append, length-append}
use Rattle.ucon_base.specs.Members.{long_at}
use Rattle.ucon_base.specs.Reading.{Member, first_long}

pub first_long_more : (ms : List Member) (m : Member) → first_long (ms ++ m ∷ []) ≡ option_or (first_long ms) (long_at m.at m.text)
first_long_more [] m = refl
first_long_more (n ∷ ms) m =
    elim (cases_Bool (nat_lt 64 (length n.text))) [
      | inl long ↦ rw long refl
      | inr short ↦ rw short (first_long_more ms m)
    ]

pub count_more : (n : ℕ) (ms : List Member) (m : Member) → n ≡ length ms → n + 1 ≡ length (ms ++ m ∷ [])
count_more n ms m is = omega (arith, is, length-append ms (m ∷ []))

pub long_more : (ms : List Member) (m : Member) (was now : Option ℕ) → was ≡ first_long ms → now ≡ option_or was (long_at m.at m.text) → now ≡ first_long (ms ++ m ∷ [])
long_more ms m was now h is = is ∙ ap (λ o. option_or o (long_at m.at m.text)) h ∙ sym (first_long_more ms m)

pub texts_more : (ms : List Member) (m : Member) (kept : List (List ℕ)) → kept ≡ map (λ m. m.text) ms → kept ++ m.text ∷ [] ≡ map (λ m. m.text) (ms ++ m ∷ [])
texts_more ms m kept h = ap (λ ts. ts ++ m.text ∷ []) h ∙ sym (map-append (λ (m : Member). m.text) ms (m ∷ []))
