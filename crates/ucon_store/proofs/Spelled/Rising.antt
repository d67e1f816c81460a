-- What keeps a list of texts a set.
use Rattle.std.proofs.Common.{◌≡◌, ℕ, ◌+◌, ◌<◌, ◌≤◌, Bool, true, false, List, [], ◌∷◌, length, inl, inr, refl, sym, ap, ◌∙◌, arith, le-leb}
use Rattle.std.proofs.lemmas.Bool.{and_parts, and_from, or_parts, leb-true, cases_Bool}
use Rattle.std.proofs.lemmas.Cmp.{nat_list_cmp_total}
use Rattle.std.proofs.lemmas.Map.Text.{is_eq-slice_cmp}
use Rattle.std.specs.Ordering.{nat_cmp, is_lt, is_eq, ordering_reverse}
use Rattle.std.specs.declared.cmp.Ordering.{Ordering}
use Rattle.std.specs.declared.cmp.Ordering.TheVariants.{Less, Equal, Greater}
use Rattle.std.specs.Cmp.Lexicographic.{slice_cmp}
use Rattle.std.specs.List.{list_any, filter}
use Rattle.std.specs.Str.{bytes_eq}
use Rattle.ucon_base.specs.Value.{is_rising, is_set}
use Rattle.ucon_base.specs.Arithmetic.{in_place}

abbrev pub below : List ℕ → List ℕ → Bool
below t u = is_lt (slice_cmp nat_cmp t u)

less : (o : Ordering) → is_lt o ≡ true → o ≡ Less
less Less h = refl
less Equal h = grind arith
less Greater h = grind arith

pub below-trans : (t u v : List ℕ) → below t u ≡ true → below u v ≡ true → below t v ≡ true
below-trans t u v h k = ap is_lt (nat_list_cmp_total.trans t u v (less _ h) (less _ k))

turned : (o : Ordering) → is_lt (ordering_reverse o) ≡ false → is_eq (ordering_reverse o) ≡ false → is_lt o ≡ true
turned Less h k = refl
turned Equal h k = sym k
turned Greater h k = sym h

-- of two different texts one is below the other
pub below-other : (t u : List ℕ) → bytes_eq t u ≡ false → below t u ≡ false → below u t ≡ true
below-other t u apart h =
    let back = nat_list_cmp_total.antisymm t u in
    turned (slice_cmp nat_cmp u t) (ap is_lt (sym back) ∙ h) (ap is_eq (sym back) ∙ is_eq-slice_cmp t u ∙ apart)

-- a text in its place above a first text
in_place_rises : (u : List ℕ) (us : List (List ℕ)) (t : List ℕ) → below u t ≡ true → is_rising (u ∷ us) ≡ true → list_any (bytes_eq t) us ≡ false → is_rising (u ∷ in_place us t) ≡ true
in_place_rises u [] t h k other = and_from _ _ h refl
in_place_rises u (v ∷ vs) t h k other =
    let parts = and_parts _ _ k in
    let apart = or_parts _ _ other in
    elim (cases_Bool (below t v)) [
      | inl is ↦ rw is (and_from _ _ h (and_from _ _ is parts.1))
      | inr isnt ↦ rw isnt (and_from _ _ parts.0 (in_place_rises v vs t (below-other t v apart.0 isnt) parts.1 apart.1))
    ]

is_rising-in_place : (us : List (List ℕ)) (t : List ℕ) → is_rising us ≡ true → list_any (bytes_eq t) us ≡ false → is_rising (in_place us t) ≡ true
is_rising-in_place [] t k other = refl
is_rising-in_place (v ∷ vs) t k other =
    let apart = or_parts _ _ other in
    elim (cases_Bool (below t v)) [
      | inl is ↦ rw is (and_from _ _ is k)
      | inr isnt ↦ rw isnt (in_place_rises v vs t (below-other t v apart.0 isnt) k apart.1)
    ]

length-in_place : (us : List (List ℕ)) (t : List ℕ) → length (in_place us t) ≡ length us + 1
length-in_place [] t = refl
length-in_place (v ∷ vs) t =
    elim (cases_Bool (below t v)) [
      | inl is ↦ rw is (omega arith)
      | inr isnt ↦ rw isnt (omega (arith, length-in_place vs t))
    ]

pub is_set-in_place : (us : List (List ℕ)) (t : List ℕ) → is_set us ≡ true → length us < 64 → list_any (bytes_eq t) us ≡ false → is_set (in_place us t) ≡ true
is_set-in_place us t h room other =
    and_from _ _ (le-leb _ _ (omega (arith, length-in_place us t))) (is_rising-in_place us t (and_parts _ _ h).1 other)

-- a rising list rises without its second
skipped : (u v : List ℕ) (us : List (List ℕ)) → is_rising (u ∷ v ∷ us) ≡ true → is_rising (u ∷ us) ≡ true
skipped u v [] h = refl
skipped u v (w ∷ ws) h =
    let front = and_parts _ _ h in
    let behind = and_parts _ _ front.1 in
    and_from _ _ (below-trans u v w front.0 behind.0) behind.1

kept_above : (p : List ℕ → Bool) (u : List ℕ) (us : List (List ℕ)) → is_rising (u ∷ us) ≡ true → is_rising (u ∷ filter p us) ≡ true
kept_above p u [] h = refl
kept_above p u (v ∷ vs) h =
    elim (cases_Bool (p v)) [
      | inl is ↦ rw is (and_from _ _ (and_parts _ _ h).0 (kept_above p v vs (and_parts _ _ h).1))
      | inr isnt ↦ rw isnt (kept_above p u vs (skipped u v vs h))
    ]

is_rising-tail : (u : List ℕ) (us : List (List ℕ)) → is_rising (u ∷ us) ≡ true → is_rising us ≡ true
is_rising-tail u [] h = refl
is_rising-tail u (v ∷ vs) h = (and_parts _ _ h).1

is_rising-filter : (p : List ℕ → Bool) (us : List (List ℕ)) → is_rising us ≡ true → is_rising (filter p us) ≡ true
is_rising-filter p [] h = refl
is_rising-filter p (u ∷ us) h =
    elim (cases_Bool (p u)) [
      | inl is ↦ rw is (kept_above p u us h)
      | inr isnt ↦ rw isnt (is_rising-filter p us (is_rising-tail u us h))
    ]

length-filter-le : (p : List ℕ → Bool) (us : List (List ℕ)) → length (filter p us) ≤ length us
length-filter-le p [] = omega arith
length-filter-le p (u ∷ us) =
    elim (cases_Bool (p u)) [
      | inl is ↦ rw is (omega (arith, length-filter-le p us))
      | inr isnt ↦ rw isnt (omega (arith, length-filter-le p us))
    ]

pub is_set-filter : (p : List ℕ → Bool) (us : List (List ℕ)) → is_set us ≡ true → is_set (filter p us) ≡ true
is_set-filter p us h =
    let short : length us ≤ 64 = leb-true _ _ (and_parts _ _ h).0 in
    and_from _ _ (le-leb _ _ (omega (arith, short, length-filter-le p us))) (is_rising-filter p us (and_parts _ _ h).1)
