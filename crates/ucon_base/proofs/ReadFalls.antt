-- A text that doesn't rise is refused at its opening `"`.
use Rattle.std.proofs.Common.{◌≡◌, ℕ, ◌+◌, true, List, [], ◌∷◌, ◌++◌, length, Option, Some, None, Err, inl, inr, refl, sym, ap, ◌∙◌, arith, append_assoc, append-nil, length-append, subst}
use Rattle.std.proofs.lemmas.Bool.{and_parts, cases_Bool, true≢false}
use Rattle.ucon_base.specs.declared.value_fault.ValueFault.TheVariants.{BadSpelling}
use Rattle.ucon_base.specs.Reading.{Member, rises, can_rise, inside, opened, behind, before, members, set_of, value_read}
use Rattle.ucon_base.specs.Spelling.{more_texts}
use Rattle.ucon_base.specs.TextBytes.{is_text_byte}
use Rattle.ucon_base.specs.Spellings.{is_plain, FallsAt}
use Rattle.ucon_base.proofs.Falls.{fall_from}
use Rattle.ucon_base.proofs.RisingSets.{Fine, can_rise_first, can_rise_front}
use Rattle.ucon_base.proofs.Sets.{Plain, FallIn, NoRise, last_of, tail, risen, fine_parts}

text_ran : (last : Option (List ℕ)) (q : ℕ) (t w : List ℕ) (at : ℕ) (rest : List ℕ) → is_plain w ≡ true → rises last (t ++ w) ≡ true
    → members last (inside q t) at (w ++ 34 ∷ rest) ≡ before (record { at = q; text = t ++ w }) (members (Some (t ++ w)) behind (at + length w + 1) rest)
text_ran last q t [] at rest plain up =
    let up_here : rises last t ≡ true = ap (rises last) (sym (append-nil t)) ∙ up in
    let here : at + 0 + 1 ≡ at + 1 = omega arith in
    rw (append-nil t, up_here, here) refl
text_ran last q t (b ∷ w) at rest plain up =
    let parts = and_parts (is_text_byte b) (is_plain w) plain in
    let all : (t ++ b ∷ []) ++ w ≡ t ++ b ∷ w = append_assoc t (b ∷ []) w in
    let up_all : rises last ((t ++ b ∷ []) ++ w) ≡ true = ap (rises last) all ∙ up in
    let alive : can_rise last (t ++ b ∷ []) ≡ true = can_rise_front last (t ++ b ∷ []) w up_all in
    let far : at + 1 + length w + 1 ≡ at + length (b ∷ w) + 1 = omega arith in
    rw (parts.0, alive)
    (text_ran last q (t ++ b ∷ []) w (at + 1) rest parts.1 up_all
    ∙ ap (λ s. before (record { at = q; text = s }) (members (Some s) behind (at + 1 + length w + 1) rest)) all
    ∙ ap (λ k. before (record { at = q; text = t ++ b ∷ w }) (members (Some (t ++ b ∷ w)) behind k rest)) far)

fall_here : (last : Option (List ℕ)) (q : ℕ) (t : List ℕ) (at : ℕ) (rest : List ℕ) → Plain last → can_rise last t ≡ true → NoRise last t rest → members last (inside q t) at rest ≡ Err (BadSpelling q)
fall_here last q t at rest plain alive (inl h) =
    let r = risen last t plain alive in
    absurd (true≢false (sym r.1.1 ∙ h r.0))
fall_here last q t at rest plain alive (inr h) =
    let down : members last (inside q t) at (34 ∷ h.0) ≡ Err (BadSpelling q) = rw h.2 refl in
    ap (members last (inside q t) at) h.1 ∙ down

fall_inside : (last : Option (List ℕ)) (q : ℕ) (t w : List ℕ) (at : ℕ) (rest : List ℕ) → Plain last → is_plain w ≡ true → can_rise last t ≡ true → NoRise last (t ++ w) rest
    → members last (inside q t) at (w ++ rest) ≡ Err (BadSpelling q)
fall_inside last q t [] at rest plain each alive h = fall_here last q t at rest plain alive (subst (λ u. NoRise last u rest) (append-nil t) h)
fall_inside last q t (b ∷ w) at rest plain each alive h =
    let parts = and_parts (is_text_byte b) (is_plain w) each in
    elim (cases_Bool (can_rise last (t ++ b ∷ []))) [
      | inl rising ↦
          rw (parts.0, rising) (fall_inside last q (t ++ b ∷ []) w (at + 1) rest plain parts.1 rising (subst (λ u. NoRise last u rest) (sym (append_assoc t (b ∷ []) w)) h))
      | inr stopped ↦ rw (parts.0, stopped) refl
    ]

fall_behind : (last : Option (List ℕ)) (at : ℕ) (ts : List (List ℕ)) (t rest : List ℕ) → Plain last → Fine last ts → is_plain t ≡ true → NoRise (last_of last ts) t rest
    → members last behind at (more_texts ts ++ 44 ∷ 34 ∷ (t ++ rest)) ≡ Err (BadSpelling (at + 1 + length (more_texts ts)))
fall_behind last at [] t rest plain fine each h =
    let here : at + 1 ≡ at + 1 + 0 = omega arith in
    fall_inside last (at + 1) [] t (at + 1 + 1) rest plain each (can_rise_first last) h ∙ ap (λ n. Err (BadSpelling n)) here
fall_behind last at (u ∷ us) t rest plain fine each h =
    let parts = fine_parts last u us fine in
    let more : List ℕ = more_texts us in
    let z : List ℕ = 44 ∷ 34 ∷ (t ++ rest) in
    let m : Member = record { at = at + 1; text = u } in
    let next : ℕ = at + 1 + 1 + length u + 1 in
    let grouped : ((u ++ 34 ∷ []) ++ more) ++ z ≡ u ++ 34 ∷ (more ++ z) = append_assoc (u ++ 34 ∷ []) more z ∙ append_assoc u (34 ∷ []) (more ++ z) in
    let far : next + 1 + length more ≡ at + 1 + length (more_texts (u ∷ us)) = omega (arith, length-append (u ++ 34 ∷ []) more, length-append u (34 ∷ [])) in
    ap (members last (inside (at + 1) []) (at + 1 + 1)) grouped
    ∙ text_ran last (at + 1) [] u (at + 1 + 1) (more ++ z) parts.plain parts.up
    ∙ ap (before m) (fall_behind (Some u) next us t rest parts.plain parts.others each h)
    ∙ ap (λ n. Err (BadSpelling n)) far

first_quote : (ts : List (List ℕ)) (l : List ℕ) → (x : List ℕ) × (more_texts ts ++ 44 ∷ 34 ∷ l ≡ 44 ∷ 34 ∷ x)
first_quote [] l = (l, refl)
first_quote (t ∷ ts) l = (((t ++ 34 ∷ []) ++ more_texts ts) ++ 44 ∷ 34 ∷ l, refl)

fall_opened : (bs : List ℕ) (p : ℕ) → FallIn None (44 ∷ bs) 1 p → members None opened 1 bs ≡ Err (BadSpelling p)
fall_opened bs p h =
    let first = first_quote h.others (h.text ++ h.rest) in
    let quote : bs ≡ 34 ∷ first.0 = ap tail (h.split ∙ first.1) in
    let there : 0 + 1 + length (more_texts h.others) ≡ p = omega (arith, h.place) in
    ap (members None opened 1) quote ∙ ap (members None behind 0) (sym first.1)
    ∙ fall_behind None 0 h.others h.text h.rest tt h.fine h.plain h.stuck ∙ ap (λ n. Err (BadSpelling n)) there

pub fall_read : (bytes : List ℕ) (p : ℕ) → FallsAt bytes p → value_read bytes ≡ Err (BadSpelling p)
fall_read bytes p h =
    let r = fall_from bytes p h in
    ap value_read r.1.0 ∙ ap set_of (fall_opened r.0 p r.1.1)
