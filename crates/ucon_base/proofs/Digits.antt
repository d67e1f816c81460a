-- Where digits stop being the beginning of a number.
use Rattle.std.proofs.Common.{◌≡◌, ℕ, ◌+◌, Bool, true, false, ◌&&◌, List, [], ◌∷◌, ◌++◌, length, Option, None, Some, inl, inr, refl, sym, ap, ◌∙◌, arith, append-nil, length-append, subst}
use Rattle.std.specs.Prelude.{nat_le, nat_lt, option_map, if◌then◌else◌}
use Rattle.std.specs.List.{list_all}
use Rattle.std.proofs.lemmas.Bool.{and_parts, and_from, cases_Bool, lt-ltb, le-ltb, true≢false, false≢true}
use Rattle.ucon_base.specs.Reading.{is_digit, bad_number_place}
use Rattle.ucon_base.specs.Spellings.{is_number}
use Rattle.ucon_base.proofs.Fronts.{Found, Refused, EndsAt, Run, run, all_at}

abbrev pub IsNumber : List ℕ → Type 0
IsNumber l = is_number l ≡ true

-- bytes that stop behind a front of this length
pub record Short (P : List ℕ → Type 0) (bs : List ℕ) (p : ℕ) : Type 0 where
  pub front : List ℕ
  pub rest : List ℕ
  pub split : bs ≡ front ++ rest
  pub begun : (more : List ℕ) × P (front ++ more)
  pub refused : Refused P front rest
  pub len : p ≡ length front

pub found_short : (P : List ℕ → Type 0) (W : List ℕ → ℕ → Type 0) (at : ℕ) (bs : List ℕ) (p n : ℕ) → n ≡ at + p → Short P bs p → Found P W at bs n
found_short P W at bs p n e h = record {
  front = h.front;
  rest = h.rest;
  split = h.split;
  begun = h.begun;
  refused = h.refused;
  why = inl (omega (arith, e, h.len));
}

-- whether a byte is 1 to 9
abbrev leads : ℕ → Bool
leads b = nat_le 49 b && nat_le b 57

not_leading : (b : ℕ) (bs : List ℕ) → leads b ≡ false → Short IsNumber (b ∷ bs) 0
not_leading b bs h = record {
  front = [];
  rest = b ∷ bs;
  split = refl;
  begun = (49 ∷ [], refl);
  refused = λ more k. true≢false (sym (and_parts (leads b) (list_all is_digit more) k).0 ∙ h);
  len = refl;
}

-- digits that a byte stops
stopped_by : (b : ℕ) (ds : List ℕ) (c : ℕ) (r : List ℕ) → leads b ≡ true → list_all is_digit ds ≡ true → is_digit c ≡ false → Short IsNumber (b ∷ ds ++ c ∷ r) (length ds + 1)
stopped_by b ds c r lead h isnt = record {
  front = b ∷ ds;
  rest = c ∷ r;
  split = refl;
  begun = ([], ap is_number (append-nil (b ∷ ds)) ∙ and_from (leads b) (list_all is_digit ds) lead h);
  refused = λ more k. true≢false (sym (all_at is_digit ds c more (and_parts (leads b) (list_all is_digit (ds ++ c ∷ more)) k).1) ∙ isnt);
  len = omega arith;
}

abbrev pub Numbered : List ℕ → Option ℕ → Type 0
Numbered bs None = IsNumber bs
Numbered bs (Some p) = Short IsNumber bs p

-- a place, if it lies within bytes of this length
abbrev if_place : ℕ → ℕ → Option ℕ
if_place n len = if nat_lt n len then Some n else None

place_from : (b : ℕ) (ds rest : List ℕ) → leads b ≡ true → list_all is_digit ds ≡ true → EndsAt is_digit rest
    → Numbered (b ∷ ds ++ rest) (option_map (λ i. i + 1) (if_place (length ds) (length (ds ++ rest))))
place_from b ds [] lead h ends =
    rw (append-nil ds, le-ltb (length ds) (length ds) (omega arith)) (and_from (leads b) (list_all is_digit ds) lead h)
place_from b ds (c ∷ r) lead h ends =
    rw (lt-ltb (length ds) (length (ds ++ c ∷ r)) (omega (arith, length-append ds (c ∷ r)))) (stopped_by b ds c r lead h ends)

pub numbered : (bs : List ℕ) → Numbered bs (bad_number_place bs)
numbered [] = record { front = []; rest = []; split = refl; begun = (49 ∷ [], refl); refused = false≢true; len = refl }
numbered (b ∷ bs) =
    elim (cases_Bool (leads b)) [
      | inl lead ↦
          let r : Run is_digit bs = run is_digit bs in
          let told : Numbered (b ∷ bs) (option_map (λ i. i + 1) (if_place (length r.front) (length bs))) =
          subst (λ l. Numbered (b ∷ l) (option_map (λ i. i + 1) (if_place (length r.front) (length l)))) (sym r.split) (place_from b r.front r.rest lead r.all r.ends) in
          rw (lead, r.same) told
      | inr isnt ↦ rw isnt (not_leading b bs isnt)
    ]
