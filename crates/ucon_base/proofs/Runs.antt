-- How the reading of a set goes over the bytes of one text.
use Rattle.std.proofs.Common.{◌≡◌, ℕ, suc, ◌+◌, true, false, List, [], ◌∷◌, ◌++◌, length, take, drop, Option, Some, None, Ok, Err, is_some, inl, inr, refl, sym, ap, ◌∙◌, arith, append_assoc, append-nil}
use Rattle.std.specs.Prelude.{Result, MatchResult, unwrap_or, ◌==◌, nat_lt, if◌then◌else◌}
use Rattle.std.proofs.lemmas.Bool.{or_parts, or_from, or_right, cases_Bool, true≢false, false≢true}
use Rattle.ucon_base.specs.declared.value_fault.ValueFault.{ValueFault}
use Rattle.ucon_base.specs.declared.value_fault.ValueFault.TheVariants.{BadSpelling, TooLong, TooMany, OutOfRange, NoMemory}
use Rattle.ucon_base.specs.Members.{after_quote}
use Rattle.ucon_base.specs.TextBytes.{is_text_byte}
use Rattle.ucon_base.specs.Reading.{Member, text_len, rises, can_rise, begins_with, inside, opened, behind, awaiting, before, members, IsCause}
use Rattle.std.specs.Prelude.{nat_eq}
use Rattle.std.specs.List.{starts_with}
use Rattle.std.proofs.lemmas.Cmp.{nat_eq_equiv}
use Rattle.ucon_base.proofs.Rising.{below}
use Rattle.ucon_base.proofs.TextFront.{length-front}

-- what is not above and no beginning stays so, whatever follows
stuck : (u t w : List ℕ) → below u t ≡ false → begins_with u t ≡ false → (below u (t ++ w) ≡ false) × (begins_with u (t ++ w) ≡ false)
stuck [] [] w h b = absurd (true≢false b)
stuck (a ∷ u) [] w h b = absurd (true≢false b)
stuck [] (c ∷ t) w h b = absurd (true≢false h)
stuck (a ∷ u) (c ∷ t) w h b =
    elim (cases_Bool (nat_lt a c)) [
      | inl lower ↦ absurd (true≢false (rw lower at h))
      | inr not_lower ↦
          elim (cases_Bool (a == c)) [
            | inl same ↦ rw (not_lower, same) (stuck u t w (rw (not_lower, same) at h) (rw same at b))
            | inr apart ↦ rw (not_lower, apart) (refl, refl)
          ]
    ]

pub can_rise_more : (last : Option (List ℕ)) (t w : List ℕ) → can_rise last t ≡ false → can_rise last (t ++ w) ≡ false
can_rise_more None t w h = absurd (true≢false h)
can_rise_more (Some u) t w h =
    let parts = or_parts (below u t) (begins_with u t) h in
    let more = stuck u t w parts.0 parts.1 in
    or_from (below u (t ++ w)) (begins_with u (t ++ w)) more.0 more.1

pub can_rise_first : (last : Option (List ℕ)) → can_rise last [] ≡ true
can_rise_first None = refl
can_rise_first (Some []) = refl
can_rise_first (Some (a ∷ u)) = or_right (below (a ∷ u) []) true refl

-- what is said behind the bytes of a text
abbrev pub closing : Option (List ℕ) → ℕ → List ℕ → ℕ → List ℕ → Result (List Member) ValueFault
closing last q t at [] = Err (BadSpelling at)
closing last q t at (b ∷ bs) =
    if b == 34 then (if rises last t then before (record { at = q; text = t }) (members (Some t) behind (at + 1) bs) else Err (BadSpelling q)) else
    Err (BadSpelling at)

abbrev pub ran : Option (List ℕ) → ℕ → List ℕ → ℕ → List ℕ → Result (List Member) ValueFault
ran last q t at bs = if can_rise last t then closing last q t at bs else Err (BadSpelling q)

ran_over : (last : Option (List ℕ)) (q : ℕ) (t : List ℕ) (at : ℕ) (bs : List ℕ) → can_rise last t ≡ true
    → members last (inside q t) at bs ≡ ran last q (t ++ take (text_len bs) bs) (at + text_len bs) (drop (text_len bs) bs)
ran_over last q t at [] alive = let here : at + 0 ≡ at = omega arith in rw (append-nil t, here, alive) refl
ran_over last q t at (b ∷ bs) alive =
    let n : ℕ = text_len bs in
    let e : 1 + n ≡ suc n = omega arith in
    let all : (t ++ b ∷ []) ++ take n bs ≡ t ++ b ∷ take n bs = append_assoc t (b ∷ []) (take n bs) in
    elim (cases_Bool (is_text_byte b)) [
      | inl is ↦
          elim (cases_Bool (can_rise last (t ++ b ∷ []))) [
            | inl rising ↦
                let far : at + 1 + n ≡ at + suc n = omega arith in
                rw (is, e, rising) (ran_over last q (t ++ b ∷ []) (at + 1) bs rising ∙ ap (λ w. ran last q w (at + 1 + n) (drop n bs)) all ∙ ap (λ k. ran last q (t ++ b ∷ take n bs) k (drop n bs)) far)
            | inr stopped ↦
                let dead : can_rise last (t ++ b ∷ take n bs) ≡ false = ap (can_rise last) (sym all) ∙ can_rise_more last (t ++ b ∷ []) (take n bs) stopped in
                rw (is, e, stopped, dead) refl
          ]
      | inr isnt ↦ let here : at + 0 ≡ at = omega arith in rw (isnt, append-nil t, here, alive) refl
    ]

-- a text of a set is read to what stands behind its bytes
pub member_is : (last : Option (List ℕ)) (at : ℕ) (bs : List ℕ)
    → members last (inside at []) (at + 1) bs ≡ ran last at (take (text_len bs) bs) (at + 1 + text_len bs) (drop (text_len bs) bs)
member_is last at bs = ran_over last at [] (at + 1) bs (can_rise_first last)

said : (last : Option (List ℕ)) (at : ℕ) (bs text rest : List ℕ) → text ≡ take (text_len bs) bs → rest ≡ drop (text_len bs) bs
    → members last (inside at []) (at + 1) bs ≡ ran last at text (at + 1 + length text) rest
said last at bs text rest front back =
    let len : text_len bs ≡ length text = sym (ap length front ∙ length-front bs) in
    member_is last at bs ∙ ap (λ k. ran last at (take (text_len bs) bs) (at + 1 + k) (drop (text_len bs) bs)) len
    ∙ ap (λ t. ran last at t (at + 1 + length text) (drop (text_len bs) bs)) (sym front) ∙ ap (ran last at text (at + 1 + length text)) (sym back)

pub stopped : (last : Option (List ℕ)) (at : ℕ) (bs text rest : List ℕ) → text ≡ take (text_len bs) bs → rest ≡ drop (text_len bs) bs
    → can_rise last text ≡ false → members last (inside at []) (at + 1) bs ≡ Err (BadSpelling at)
stopped last at bs text rest front back dead = said last at bs text rest front back ∙ rw dead refl

closing_none : (last : Option (List ℕ)) (q : ℕ) (t : List ℕ) (at : ℕ) (bs : List ℕ) → after_quote bs ≡ None → closing last q t at bs ≡ Err (BadSpelling at)
closing_none last q t at [] h = refl
closing_none last q t at (b ∷ bs) h =
    elim (cases_Bool (b == 34)) [
      | inl is ↦ absurd (true≢false (ap is_some (rw is at h)))
      | inr isnt ↦ rw isnt refl
    ]

closing_some : (last : Option (List ℕ)) (q : ℕ) (t : List ℕ) (at : ℕ) (bs after : List ℕ) → after_quote bs ≡ Some after
    → closing last q t at bs ≡ (if rises last t then before (record { at = q; text = t }) (members (Some t) behind (at + 1) after) else Err (BadSpelling q))
closing_some last q t at [] after h = absurd (false≢true (ap is_some h))
closing_some last q t at (b ∷ bs) after h =
    elim (cases_Bool (b == 34)) [
      | inl is ↦ let same : bs ≡ after = ap (λ o. unwrap_or o []) (rw is at h) in rw (is, same) refl
      | inr isnt ↦ absurd (false≢true (ap is_some (rw isnt at h)))
    ]

pub risen : (last : Option (List ℕ)) (at : ℕ) (bs text rest after : List ℕ) → text ≡ take (text_len bs) bs → rest ≡ drop (text_len bs) bs
    → can_rise last text ≡ true → after_quote rest ≡ Some after → rises last text ≡ true
    → members last (inside at []) (at + 1) bs ≡ before (record { at = at; text = text }) (members (Some text) behind (at + (length text + 2)) after)
risen last at bs text rest after front back alive is up =
    let far : at + 1 + length text + 1 ≡ at + (length text + 2) = omega arith in
    said last at bs text rest front back ∙ rw (alive, closing_some last at text (at + 1 + length text) rest after is, up, far) refl

pub fallen : (last : Option (List ℕ)) (at : ℕ) (bs text rest after : List ℕ) → text ≡ take (text_len bs) bs → rest ≡ drop (text_len bs) bs
    → can_rise last text ≡ true → after_quote rest ≡ Some after → rises last text ≡ false
    → members last (inside at []) (at + 1) bs ≡ Err (BadSpelling at)
fallen last at bs text rest after front back alive is down =
    said last at bs text rest front back ∙ rw (alive, closing_some last at text (at + 1 + length text) rest after is, down) refl

pub broken : (last : Option (List ℕ)) (at : ℕ) (bs text rest : List ℕ) → text ≡ take (text_len bs) bs → rest ≡ drop (text_len bs) bs
    → can_rise last text ≡ true → after_quote rest ≡ None → members last (inside at []) (at + 1) bs ≡ Err (BadSpelling (at + 1 + length text))
broken last at bs text rest front back alive none =
    said last at bs text rest front back ∙ rw alive (closing_none last at text (at + 1 + length text) rest none)

-- `starts_with` by recursion
pub starts_is : (u t : List ℕ) → starts_with nat_eq u t ≡ begins_with u t
starts_is [] [] = refl
starts_is (a ∷ u) [] = refl
starts_is [] (c ∷ t) = refl
starts_is (a ∷ u) (c ∷ t) = rw (nat_eq_equiv.symm c a, starts_is u t) refl

-- members before all others
abbrev pub joined : List Member → Result (List Member) ValueFault → Result (List Member) ValueFault
joined front (Ok ms) = Ok (front ++ ms)
joined front (Err f) = Err f

pub joined_nothing : (r : Result (List Member) ValueFault) → joined [] r ≡ r
joined_nothing (Ok ms) = refl
joined_nothing (Err f) = refl

pub joined_before : (front : List Member) (m : Member) (r : Result (List Member) ValueFault) → joined front (before m r) ≡ joined (front ++ m ∷ []) r
joined_before front m (Ok ms) = ap Ok (sym (append_assoc front (m ∷ []) ms))
joined_before front m (Err f) = refl

-- where no `}` closes the set at once, texts are awaited
pub opened_is : (b : ℕ) (bs : List ℕ) → (b == 125) ≡ false → members None opened 1 (b ∷ bs) ≡ members None awaiting 1 (b ∷ bs)
opened_is b bs h = rw h refl

awaiting_some : (last : Option (List ℕ)) (at : ℕ) (bs after : List ℕ) → after_quote bs ≡ Some after → members last awaiting at bs ≡ members last (inside at []) (at + 1) after
awaiting_some last at [] after h = absurd (false≢true (ap is_some h))
awaiting_some last at (b ∷ bs) after h =
    elim (cases_Bool (b == 34)) [
      | inl is ↦ let same : bs ≡ after = ap (λ o. unwrap_or o []) (rw is at h) in rw (is, same) refl
      | inr isnt ↦ absurd (false≢true (ap is_some (rw isnt at h)))
    ]

awaiting_none : (last : Option (List ℕ)) (at : ℕ) (bs : List ℕ) → after_quote bs ≡ None → members last awaiting at bs ≡ Err (BadSpelling at)
awaiting_none last at [] h = refl
awaiting_none last at (b ∷ bs) h =
    elim (cases_Bool (b == 34)) [
      | inl is ↦ absurd (true≢false (ap is_some (rw is at h)))
      | inr isnt ↦ rw isnt refl
    ]

-- the loop over the texts of a set: one more text
pub went_on : (front : List Member) (last : Option (List ℕ)) (at : ℕ) (rest quoted text after : List ℕ) (told : Result (List Member) ValueFault)
    → joined front (members last awaiting at rest) ≡ told → after_quote rest ≡ Some quoted
    → members last (inside at []) (at + 1) quoted ≡ before (record { at = at; text = text }) (members (Some text) behind (at + (length text + 2)) after)
    → joined (front ++ record { at = at; text = text } ∷ []) (members (Some text) behind (at + (length text + 2)) after) ≡ told
went_on front last at rest quoted text after told h is read =
    let m : Member = record { at = at; text = text } in
    sym (joined_before front m (members (Some text) behind (at + (length text + 2)) after))
    ∙ ap (joined front) (sym (awaiting_some last at rest quoted is ∙ read)) ∙ h

-- where no text opens
pub stopped_there : (front : List Member) (last : Option (List ℕ)) (at : ℕ) (rest : List ℕ) (told : Result (List Member) ValueFault)
    → joined front (members last awaiting at rest) ≡ told → after_quote rest ≡ None → told ≡ Err (BadSpelling at)
stopped_there front last at rest told h none = sym h ∙ ap (joined front) (awaiting_none last at rest none)

-- where a text goes wrong
pub stopped_inside : (front : List Member) (last : Option (List ℕ)) (at : ℕ) (rest quoted : List ℕ) (told : Result (List Member) ValueFault) (f : ValueFault)
    → joined front (members last awaiting at rest) ≡ told → after_quote rest ≡ Some quoted → members last (inside at []) (at + 1) quoted ≡ Err f → told ≡ Err f
stopped_inside front last at rest quoted told f h is fault = sym h ∙ ap (joined front) (awaiting_some last at rest quoted is ∙ fault)

pub cause : {A : Type 0} (told : Result A ValueFault) (f : ValueFault) → told ≡ Err f → IsCause told f
cause told (BadSpelling p) h = h
cause told (TooLong p) h = h
cause told (TooMany n) h = h
cause told OutOfRange h = h
cause told (NoMemory e) h = tt

pub told_is : {A : Type 0} (r told : Result A ValueFault) → r ≡ told → MatchResult r (λ v. told ≡ Ok v) (IsCause told)
told_is (Ok v) told h = sym h
told_is (Err f) told h = cause told f (sym h)
