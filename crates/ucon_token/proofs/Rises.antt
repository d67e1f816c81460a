-- Rising lists of texts that one more text ends.
use Rattle.std.proofs.Common.{◌≡◌, ℕ, suc, ◌-◌, ◌<◌, Bool, true, false, ◌&&◌, List, [], ◌∷◌, ◌++◌, length, Some, None, refl, sym, ap, ◌∙◌, arith, nat_lt}
use Rattle.std.proofs.lemmas.Bool.{and_parts}
use Rattle.std.proofs.lemmas.Bool.Decides.{nat_tests}
use Rattle.std.proofs.lemmas.Cmp.{nat_list_cmp_total}
use Rattle.std.proofs.lemmas.Map.Text.{is_eq-slice_cmp}
use Rattle.std.specs.Prelude.{slice_get}
use Rattle.std.specs.Ordering.{nat_cmp, is_lt, is_eq, ordering_reverse}
use Rattle.std.specs.declared.cmp.Ordering.{Ordering}
use Rattle.std.specs.declared.cmp.Ordering.TheVariants.{Less, Equal, Greater}
use Rattle.std.specs.Cmp.Lexicographic.{slice_cmp}
use Rattle.std.specs.List.{list_any}
use Rattle.std.specs.Str.{bytes_eq}
use Rattle.ucon_base.specs.Value.{is_rising}
use Rattle.ucon_base.specs.Arithmetic.{in_place, with_text}

abbrev pub below : List ℕ → List ℕ → Bool
below t u = is_lt (slice_cmp nat_cmp t u)

is_less : (o : Ordering) → is_lt o ≡ true → o ≡ Less
is_less Less h = refl
is_less Equal h = absurd cc
is_less Greater h = absurd cc

below-trans : (t u v : List ℕ) → below t u ≡ true → below u v ≡ true → below t v ≡ true
below-trans t u v h k = ap is_lt (nat_list_cmp_total.trans t u v (is_less _ h) (is_less _ k))

-- what is above a text is not below it, and is another
not_below : (t u : List ℕ) → below u t ≡ true → below t u ≡ false
not_below t u h = ap is_lt (nat_list_cmp_total.antisymm t u ∙ ap ordering_reverse (is_less _ h))

apart : (t u : List ℕ) → below u t ≡ true → bytes_eq t u ≡ false
apart t u h = sym (is_eq-slice_cmp t u) ∙ ap is_eq (nat_list_cmp_total.antisymm t u ∙ ap ordering_reverse (is_less _ h))

rest_rises : (u : List ℕ) (us : List (List ℕ)) → is_rising (u ∷ us) ≡ true → is_rising us ≡ true
rest_rises u [] h = refl
rest_rises u (v ∷ vs) h = (and_parts _ _ h).1

last_above : (u : List ℕ) (us : List (List ℕ)) (t : List ℕ) → is_rising (u ∷ (us ++ t ∷ [])) ≡ true → below u t ≡ true
last_above u [] t h = (and_parts _ _ h).0
last_above u (v ∷ vs) t h = let parts = and_parts _ _ h in below-trans u v t parts.0 (last_above v vs t parts.1)

in_place-last : (us : List (List ℕ)) (t : List ℕ) → is_rising (us ++ t ∷ []) ≡ true → in_place us t ≡ us ++ t ∷ []
in_place-last [] t h = refl
in_place-last (u ∷ us) t h = rw (not_below t u (last_above u us t h)) (ap (λ (xs : List (List ℕ)). u ∷ xs) (in_place-last us t (rest_rises u (us ++ t ∷ []) h)))

not_among : (us : List (List ℕ)) (t : List ℕ) → is_rising (us ++ t ∷ []) ≡ true → list_any (bytes_eq t) us ≡ false
not_among [] t h = refl
not_among (u ∷ us) t h = rw (apart t u (last_above u us t h)) (not_among us t (rest_rises u (us ++ t ∷ []) h))

has_room : (n : ℕ) → n < 64 → nat_lt n 64 ≡ true
has_room n lt = grind (arith, nat_tests)

-- a set with a text above all of it ends with that text
pub with_text_last : (us : List (List ℕ)) (t : List ℕ) → is_rising (us ++ t ∷ []) ≡ true → length us < 64 → with_text us t ≡ us ++ t ∷ []
with_text_last us t h lt = rw (not_among us t h, has_room (length us) lt) (in_place-last us t h)

last_there : (u : List ℕ) (us : List (List ℕ)) → slice_get (u ∷ us) (length (u ∷ us) - 1) ≡ None → ⊥
last_there u [] e = cc
last_there u (v ∷ vs) e = let k : length (u ∷ v ∷ vs) - 1 ≡ suc (length (v ∷ vs) - 1) = omega arith in last_there v vs (rw k at e)

-- whether one more text rises above the last of a rising list
pub rises_first : (us : List (List ℕ)) (t : List ℕ) → slice_get us (length us - 1) ≡ None → is_rising (us ++ t ∷ []) ≡ true
rises_first [] t e = refl
rises_first (u ∷ us) t e = absurd (last_there u us e)

lone : (b : Bool) → (b && true) ≡ b
lone true = refl
lone false = refl

pub rises_last : (us : List (List ℕ)) (t u : List ℕ) → is_rising us ≡ true → slice_get us (length us - 1) ≡ Some u → is_rising (us ++ t ∷ []) ≡ below u t
rises_last [] t u h e = absurd cc
rises_last (v ∷ []) t u h e = let same : v ≡ u = cc in rw same (lone (below u t))
rises_last (v ∷ w ∷ ws) t u h e =
    let k : length (v ∷ w ∷ ws) - 1 ≡ suc (length (w ∷ ws) - 1) = omega arith in
    let parts = and_parts (below v w) (is_rising (w ∷ ws)) h in
    rw parts.0 (rises_last (w ∷ ws) t u parts.1 (rw k at e))
