-- Bytes are a spelling, or stop being the beginning of one where the reader says.
use Rattle.std.proofs.Common.{◌≡◌, ℕ, suc, ◌+◌, ◌≤◌, ◌⊎◌, false, List, [], ◌∷◌, ◌++◌, length, take, drop, Option, None, Some, Ok, Err, inl, inr, refl, sym, ap, ◌∙◌, arith, append_assoc, append-nil, length-append, subst}
use Rattle.std.specs.Prelude.{Result, ◌==◌, nat_le, nat_lt, option_map, ℤ, pos, neg_ℤ, if◌then◌else◌}
use Rattle.std.proofs.lemmas.Bool.{cases_Bool, eqb-true, eqb-false, ne_eqb}
use Rattle.std.proofs.lemmas.List.{take_at, take_all}
use Rattle.ucon_base.specs.declared.value.Value.{Value}
use Rattle.ucon_base.specs.declared.value.Value.TheVariants.{Text}
use Rattle.ucon_base.specs.declared.value_fault.ValueFault.{ValueFault}
use Rattle.ucon_base.specs.declared.value_fault.ValueFault.TheVariants.{BadSpelling, TooLong, TooMany, OutOfRange, NoMemory}
use Rattle.ucon_base.specs.Reading.{Member, bad_number_place, bad_integer_place, number_of, sized, spelled_integer, unless_bad, integer_read, text_len, bad_close, text_read, first_long, unless_long, set_of, opened, members, value_read}
use Rattle.ucon_base.specs.Spellings.{IsSpelling, zero, positive, negative, Begins, Stops, up_to_text, IsStuck, FallsAt, StopsAt, IsBadPlace}
use Rattle.ucon_base.proofs.Fronts.{Never, Told, Found, Refused, told_behind, stops_here}
use Rattle.ucon_base.proofs.OfAKind.{EndsText, Other, empty_is_none, minus_only, zero_only, number_only, text_only, text_if, set_only, set_if}
use Rattle.ucon_base.proofs.Digits.{IsNumber, found_short, Numbered, numbered}
use Rattle.ucon_base.proofs.Sets.{Rest, Fall, bad, head, tail, told_members}
use Rattle.ucon_base.proofs.Falls.{set_falls, text_begins}
use Rattle.ucon_base.proofs.ReadFalls.{fall_read}
use Rattle.ucon_base.proofs.Texts.{told_text}

-- ---- what the parts of the reading find bad

bad_sized : (sign : ℕ → ℤ) (n : ℕ) → bad (sized sign n) ≡ None
bad_sized sign n =
    elim (cases_Bool (nat_le n 1000000000000000)) [
      | inl is ↦ rw is refl
      | inr isnt ↦ rw isnt refl
    ]

bad_spelled : (bs : List ℕ) → bad (spelled_integer bs) ≡ None
bad_spelled [] = refl
bad_spelled (b ∷ bs) =
    elim (cases_Bool (b == 45)) [
      | inl is ↦ rw is (bad_sized (λ n. neg_ℤ (pos n)) (number_of bs))
      | inr isnt ↦ rw isnt (bad_sized pos (number_of (b ∷ bs)))
    ]

bad_unless : (o : Option ℕ) (r : Result Value ValueFault) → bad r ≡ None → bad (unless_bad o r) ≡ o
bad_unless None r h = h
bad_unless (Some p) r h = refl

bad_integer : (bs : List ℕ) → bad (integer_read bs) ≡ bad_integer_place bs
bad_integer bs = bad_unless (bad_integer_place bs) (spelled_integer bs) (bad_spelled bs)

-- the text, if it is not too long
abbrev limited : ℕ → List ℕ → Result Value ValueFault
limited n bs = if nat_lt 64 n then Err (TooLong 0) else Ok (Text (take n bs))

bad_limited : (n : ℕ) (bs : List ℕ) → bad (limited n bs) ≡ None
bad_limited n bs =
    elim (cases_Bool (nat_lt 64 n)) [
      | inl is ↦ rw is refl
      | inr isnt ↦ rw isnt refl
    ]

bad_text : (bs : List ℕ) → bad (text_read bs) ≡ bad_close (text_len bs + 1) (drop (text_len bs) bs)
bad_text bs = bad_unless (bad_close (text_len bs + 1) (drop (text_len bs) bs)) (limited (text_len bs) bs) (bad_limited (text_len bs) bs)

bad_unless_long : (o : Option ℕ) (ms : List Member) → bad (unless_long o ms) ≡ None
bad_unless_long (Some p) ms = refl
bad_unless_long None ms =
    elim (cases_Bool (nat_lt 64 (length ms))) [
      | inl is ↦ rw is refl
      | inr isnt ↦ rw isnt refl
    ]

bad_set_of : (r : Result (List Member) ValueFault) → bad (set_of r) ≡ bad r
bad_set_of (Ok ms) = bad_unless_long (first_long ms) ms
bad_set_of (Err (BadSpelling p)) = refl
bad_set_of (Err (TooLong p)) = refl
bad_set_of (Err (TooMany n)) = refl
bad_set_of (Err OutOfRange) = refl
bad_set_of (Err (NoMemory e)) = refl

-- ---- integers

told_minus : (bs : List ℕ) (o : Option ℕ) → Numbered bs o → Told IsNumber Never 1 bs (option_map (λ i. i + 1) o)
told_minus bs None h = h
told_minus bs (Some p) h = found_short IsNumber Never 1 bs p (p + 1) (omega arith) h

refused_as : (b : ℕ) (bs front rest : List ℕ) → Other b → b ∷ bs ≡ front ++ rest → Refused IsNumber front rest → Refused IsSpelling front rest
refused_as b bs [] [] other e h = absurd (omega (arith, ap length e))
refused_as b bs [] (c ∷ rest) other e h = λ more s.
    let same : b ≡ c = ap head e in
    h more (number_only c more (subst Other same other) s)
refused_as b bs (c ∷ front) [] other e h = λ s.
    let same : b ≡ c = ap head e in
    h (number_only c front (subst Other same other) s)
refused_as b bs (c ∷ front) (d ∷ rest) other e h = λ more s.
    let same : b ≡ c = ap head e in
    h more (number_only c (front ++ d ∷ more) (subst Other same other) s)

told_number : (b : ℕ) (bs : List ℕ) (o : Option ℕ) → Other b → Numbered (b ∷ bs) o → Told IsSpelling FallsAt 0 (b ∷ bs) o
told_number b bs None other h = positive h
told_number b bs (Some p) other h = found_short IsSpelling FallsAt 0 (b ∷ bs) p p (omega arith) (record {
  front = h.front;
  rest = h.rest;
  split = h.split;
  begun = (h.begun.0, positive h.begun.1);
  refused = refused_as b bs h.front h.rest other h.split h.refused;
  len = h.len;
})

told_zero : (bs : List ℕ) → Told IsSpelling FallsAt 0 (48 ∷ bs) (bad_integer_place (48 ∷ bs))
told_zero [] = zero refl
told_zero (c ∷ r) =
    let more_there : (suc (length r) == 0) ≡ false = ne_eqb (suc (length r)) 0 (λ e. omega (arith, e)) in
    rw more_there (record {
      front = 48 ∷ [];
      rest = c ∷ r;
      split = refl;
      begun = ([], zero refl);
      refused = λ more s. omega (arith, ap length (zero_only (c ∷ more) s));
      why = inl refl;
    })

told_integer : (b : ℕ) (bs : List ℕ) → (b == 34) ≡ false → (b == 123) ≡ false → Told IsSpelling FallsAt 0 (b ∷ bs) (bad_integer_place (b ∷ bs))
told_integer b bs no_quote no_bracket =
    elim (cases_Bool (b == 45)) [
      | inl minus ↦
          let e : b ≡ 45 = eqb-true b 45 minus in
          rw e (told_behind IsNumber IsSpelling Never FallsAt 0 45 bs (option_map (λ i. i + 1) (bad_number_place bs)) (λ l h. negative l h refl) minus_only (λ p h. absurd h) (told_minus bs (bad_number_place bs) (numbered bs)))
      | inr no_minus ↦
          elim (cases_Bool (b == 48)) [
            | inl nought ↦ rw (eqb-true b 48 nought) (told_zero bs)
            | inr no_zero ↦
                let other : Other b = record {
                  no_quote = eqb-false b 34 no_quote;
                  no_bracket = eqb-false b 123 no_bracket;
                  no_minus = eqb-false b 45 no_minus;
                  no_zero = eqb-false b 48 no_zero;
                } in
                rw (no_minus, no_zero) (told_number b bs (bad_number_place (b ∷ bs)) other (numbered (b ∷ bs)))
          ]
    ]

-- ---- values

pub told : (bs : List ℕ) → Told IsSpelling FallsAt 0 bs (bad (value_read bs))
told [] = stops_here IsSpelling FallsAt 0 [] 0 (48 ∷ []) (zero refl) empty_is_none (inl refl)
told (b ∷ bs) =
    elim (cases_Bool (b == 34)) [
      | inl quote ↦
          rw (eqb-true b 34 quote, bad_text bs) (told_behind EndsText IsSpelling Never FallsAt 0 34 bs (bad_close (text_len bs + 1) (drop (text_len bs) bs)) text_if text_only (λ p h. absurd h) (told_text bs))
      | inr no_quote ↦
          elim (cases_Bool (b == 123)) [
            | inl bracket ↦
                rw (eqb-true b 123 bracket, bad_set_of (members None opened 1 bs)) (told_behind (Rest None opened) IsSpelling (Fall None opened 1) FallsAt 0 123 bs (bad (members None opened 1 bs)) set_if set_only (set_falls bs) (told_members None opened 1 bs tt tt))
            | inr no_bracket ↦ rw (no_quote, no_bracket, bad_integer (b ∷ bs)) (told_integer b bs no_quote no_bracket)
          ]
    ]

-- ---- the places

stops_from : (front rest : List ℕ) → Refused IsSpelling front rest → Stops front rest
stops_from front [] h = h
stops_from front (b ∷ rest) h = λ d. h d.0 (subst IsSpelling (append_assoc front (b ∷ []) d.0) d.1)

stops_none : (front rest : List ℕ) → Stops front rest → IsSpelling (front ++ rest) → ⊥
stops_none front [] h s = h (subst IsSpelling (append-nil front) s)
stops_none front (b ∷ rest) h s = h (rest, subst IsSpelling (sym (append_assoc front (b ∷ []) rest)) s)

-- of two fronts of the same bytes one begins the other
abbrev Fronts : List ℕ → List ℕ → List ℕ → List ℕ → Type 0
Fronts f r g s =
    ((f ≡ g) × (r ≡ s))
    ⊎ (((c : ℕ) × (w : List ℕ) × (v : List ℕ) × ((r ≡ c ∷ v) × (g ≡ f ++ c ∷ w)))
    ⊎ ((c : ℕ) × (w : List ℕ) × (v : List ℕ) × ((s ≡ c ∷ v) × (f ≡ g ++ c ∷ w))))

fronts_more : (a : ℕ) (f r g s : List ℕ) → Fronts f r g s → Fronts (a ∷ f) r (a ∷ g) s
fronts_more a f r g s (inl h) = inl (ap (λ l. a ∷ l) h.0, h.1)
fronts_more a f r g s (inr (inl h)) = inr (inl (h.0, h.1, h.2, (h.3.0, ap (λ l. a ∷ l) h.3.1)))
fronts_more a f r g s (inr (inr h)) = inr (inr (h.0, h.1, h.2, (h.3.0, ap (λ l. a ∷ l) h.3.1)))

fronts : (f r g s : List ℕ) → f ++ r ≡ g ++ s → Fronts f r g s
fronts [] r [] s e = inl (refl, e)
fronts [] r (c ∷ g) s e = inr (inl (c, g, g ++ s, (e, refl)))
fronts (c ∷ f) r [] s e = inr (inr (c, f, f ++ r, (sym e, refl)))
fronts (a ∷ f) r (c ∷ g) s e =
    let same : a ≡ c = ap head e in
    subst (λ x. Fronts (a ∷ f) r (x ∷ g) s) same (fronts_more a f r g s (fronts f r g s (ap tail e)))

-- no front that begins a spelling goes past the one that the bytes stop behind
none_past : (f r g : List ℕ) (c : ℕ) (w v : List ℕ) → Stops f r → r ≡ c ∷ v → g ≡ f ++ c ∷ w → Begins g → ⊥
none_past f r g c w v h e is begun =
    let stopped : Stops f (c ∷ v) = subst (Stops f) e h in
    let all : g ++ begun.0 ≡ (f ++ c ∷ []) ++ (w ++ begun.0) =
    ap (λ l. l ++ begun.0) is ∙ append_assoc f (c ∷ w) begun.0 ∙ sym (append_assoc f (c ∷ []) (w ++ begun.0)) in
    stopped (w ++ begun.0, subst IsSpelling all begun.1)

one_stop : (bs : List ℕ) (p q : ℕ) → StopsAt bs p → StopsAt bs q → p ≡ q
one_stop bs p q h k =
    elim (fronts h.front h.rest k.front k.rest (sym h.split ∙ k.split)) [
      | inl e ↦ h.place ∙ ap length e.0 ∙ sym k.place
      | inr far ↦
          elim far [
            | inl e ↦ absurd (none_past h.front h.rest k.front e.0 e.1 e.2 h.stopped e.3.0 e.3.1 k.begun)
            | inr e ↦ absurd (none_past k.front k.rest h.front e.0 e.1 e.2 k.stopped e.3.0 e.3.1 h.begun)
          ]
    ]

-- a text begins at its `"`, even if it falls
not_both : (bs : List ℕ) (p : ℕ) → StopsAt bs p → FallsAt bs p → ⊥
not_both bs p h k =
    let up : List ℕ = up_to_text k.others in
    let z : List ℕ = 34 ∷ (k.text ++ k.rest) in
    elim (fronts h.front h.rest up z (sym h.split ∙ k.split)) [
      | inl e ↦
          let here : Stops up h.rest = subst (λ f. Stops f h.rest) e.0 h.stopped in
          let there : Stops up z = subst (Stops up) e.1 here in
          there (text_begins k.others k.risen k.plain)
      | inr far ↦
          elim far [
            | inl e ↦ omega (arith, h.place, k.place, ap length e.3.1, length-append h.front (e.0 ∷ e.1))
            | inr e ↦ omega (arith, h.place, k.place, ap length e.3.1, length-append up (e.0 ∷ e.1))
          ]
    ]

found_at : (bs : List ℕ) (p : ℕ) → value_read bs ≡ Err (BadSpelling p) → Found IsSpelling FallsAt 0 bs p
found_at bs p h =
    let e : bad (value_read bs) ≡ Some p = ap bad h in
    subst (Told IsSpelling FallsAt 0 bs) e (told bs)

stops_or_falls : (bs : List ℕ) (p : ℕ) → (h : Found IsSpelling FallsAt 0 bs p) → StopsAt bs p ⊎ FallsAt bs p
stops_or_falls bs p h =
    elim h.why [
      | inl e ↦ inl (record {
        front = h.front;
        rest = h.rest;
        split = h.split;
        begun = h.begun;
        stopped = stops_from h.front h.rest h.refused;
        place = omega (arith, e);
      })
      | inr falls ↦ inr falls
    ]

abbrev place_or : Option ℕ → ℕ
place_or None = 0
place_or (Some p) = p

pub placed : (bs : List ℕ) (p : ℕ) → value_read bs ≡ Err (BadSpelling p) → IsBadPlace bs p
placed bs p h =
    elim (stops_or_falls bs p (found_at bs p h)) [
      | inl stop ↦ inr (
        stop,
        λ q k.
            let same : q ≡ p = ap (λ r. place_or (bad r)) (sym (fall_read bs q k) ∙ h) in
            not_both bs p stop (subst (FallsAt bs) same k),
      )
      | inr falls ↦ inl falls
    ]

pub not_refused : (bs : List ℕ) (p : ℕ) → IsSpelling bs → value_read bs ≡ Err (BadSpelling p) → ⊥
not_refused bs p s h =
    let f = found_at bs p h in
    stops_none f.front f.rest (stops_from f.front f.rest f.refused) (subst IsSpelling f.split s)

read_so : (bs : List ℕ) (r : Result Value ValueFault) → Told IsSpelling FallsAt 0 bs (bad r) → (IsSpelling bs → ⊥) → (q : ℕ) × ((r ≡ Err (BadSpelling q)) × Found IsSpelling FallsAt 0 bs q)
read_so bs (Ok v) h none = absurd (none h)
read_so bs (Err (BadSpelling q)) h none = (q, (refl, h))
read_so bs (Err (TooLong q)) h none = absurd (none h)
read_so bs (Err (TooMany q)) h none = absurd (none h)
read_so bs (Err OutOfRange) h none = absurd (none h)
read_so bs (Err (NoMemory e)) h none = absurd (none h)

pub refused_somewhere : (bs : List ℕ) → (IsSpelling bs → ⊥) → (p : ℕ) × (value_read bs ≡ Err (BadSpelling p))
refused_somewhere bs none = let r = read_so bs (value_read bs) (told bs) none in (r.0, r.1.0)

stop_read : (bs : List ℕ) (p : ℕ) → StopsAt bs p → ((q : ℕ) → FallsAt bs q → ⊥) → value_read bs ≡ Err (BadSpelling p)
stop_read bs p stop none =
    let r = read_so bs (value_read bs) (told bs) (λ s. stops_none stop.front stop.rest stop.stopped (subst IsSpelling stop.split s)) in
    elim (stops_or_falls bs r.0 r.1.1) [
      | inl there ↦ r.1.0 ∙ ap (λ n. Err (BadSpelling n)) (one_stop bs r.0 p there stop)
      | inr falls ↦ absurd (none r.0 falls)
    ]

pub refused_there : (bs : List ℕ) (p : ℕ) → IsBadPlace bs p → value_read bs ≡ Err (BadSpelling p)
refused_there bs p (inl falls) = fall_read bs p falls
refused_there bs p (inr stop) = stop_read bs p stop.0 stop.1

-- ---- what follows for the bytes before the place

pub within_bytes : (bs : List ℕ) (p : ℕ) → IsBadPlace bs p → p ≤ length bs
within_bytes bs p (inl h) =
    let z : List ℕ = 34 ∷ (h.text ++ h.rest) in
    let all : length bs ≡ length (up_to_text h.others) + length z = ap length h.split ∙ length-append (up_to_text h.others) z in
    omega (arith, h.place, all)
within_bytes bs p (inr h) =
    let all : length bs ≡ length h.0.front + length h.0.rest = ap length h.0.split ∙ length-append h.0.front h.0.rest in
    omega (arith, h.0.place, all)

begins_before : (front rest : List ℕ) → Begins (front ++ rest) → Begins front
begins_before front rest h = (rest ++ h.0, subst IsSpelling (append_assoc front rest h.0) h.1)

pub begun_before : (bs : List ℕ) (p : ℕ) → IsBadPlace bs p → Begins (take p bs)
begun_before bs p (inl h) =
    let up : List ℕ = up_to_text h.others in
    let front : take p bs ≡ up = ap (take p) h.split ∙ take_at up (34 ∷ (h.text ++ h.rest)) p (sym h.place) in
    subst Begins (sym front) (begins_before up (34 ∷ []) (text_begins h.others h.risen h.plain))
begun_before bs p (inr h) =
    let front : take p bs ≡ h.0.front = ap (take p) h.0.split ∙ take_at h.0.front h.0.rest p (sym h.0.place) in
    subst Begins (sym front) h.0.begun

stuck_more : (ts : List (List ℕ)) (t rest more : List ℕ) → IsStuck ts t rest → IsStuck ts t (rest ++ more)
stuck_more ts t rest more (inl h) = inl h
stuck_more ts t rest more (inr h) = inr (h.0 ++ more, ap (λ l. l ++ more) h.1, h.2)

falls_more : (bs more : List ℕ) (p : ℕ) → FallsAt bs p → FallsAt (bs ++ more) p
falls_more bs more p h = record {
  others = h.others;
  text = h.text;
  rest = h.rest ++ more;
  split =
      ap (λ l. l ++ more) h.split ∙ append_assoc (up_to_text h.others) (34 ∷ (h.text ++ h.rest)) more
      ∙ ap (λ l. up_to_text h.others ++ 34 ∷ l) (append_assoc h.text h.rest more);
  risen = h.risen;
  plain = h.plain;
  plain_text = h.plain_text;
  stuck = stuck_more h.others h.text h.rest more h.stuck;
  place = h.place;
}

pub falls_for_good : (bs : List ℕ) (p : ℕ) → FallsAt bs p → Begins bs → ⊥
falls_for_good bs p h begun = not_refused (bs ++ begun.0) p begun.1 (fall_read (bs ++ begun.0) p (falls_more bs begun.0 p h))

pub ends_too_soon : (bs : List ℕ) → Begins bs → (IsSpelling bs → ⊥) → value_read bs ≡ Err (BadSpelling (length bs))
ends_too_soon bs begun none =
    stop_read bs (length bs) (record { front = bs; rest = []; split = sym (append-nil bs); begun = begun; stopped = none; place = refl }) (λ q h. falls_for_good bs q h begun)

pub begun_whole : (bs : List ℕ) → value_read bs ≡ Err (BadSpelling (length bs)) → Begins bs
begun_whole bs h = subst Begins (take_all (length bs) bs (omega arith)) (begun_before bs (length bs) (placed bs (length bs) h))

pub read_is_spelled : (bs : List ℕ) (v : Value) → value_read bs ≡ Ok v → IsSpelling bs
read_is_spelled bs v h =
    let e : bad (value_read bs) ≡ None = ap bad h in
    subst (Told IsSpelling FallsAt 0 bs) e (told bs)
