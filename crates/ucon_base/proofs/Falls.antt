-- Texts of a set that don't rise.
use Rattle.std.proofs.Common.{◌≡◌, ℕ, suc, Bool, true, false, ◌&&◌, List, [], ◌∷◌, ◌++◌, length, Option, Some, None, inl, inr, refl, sym, ap, ◌∙◌, arith, append_assoc, length-append}
use Rattle.std.specs.List.{list_all, flat_map}
use Rattle.std.proofs.lemmas.Bool.{and_parts, and_from}
use Rattle.ucon_base.specs.Reading.{rises}
use Rattle.ucon_base.specs.Spelling.{quoted, more_texts, set_spelling}
use Rattle.ucon_base.specs.Value.{is_rising}
use Rattle.ucon_base.specs.Spellings.{is_plain, set, Begins, up_to_text, IsStuck, FallsAt}
use Rattle.ucon_base.proofs.RisingSets.{chain_from_rising, rising_from_chain, can_rise_first, ending}
use Rattle.ucon_base.proofs.Sets.{Plain, FallIn, NoRise, last_of, tail, risen, text_then}

and_true : (x : Bool) → (x && true) ≡ x
and_true true = refl
and_true false = refl

rises_last : (u : List ℕ) (ts : List (List ℕ)) (v : List ℕ) → is_rising (u ∷ ts) ≡ true → is_rising (u ∷ (ts ++ v ∷ [])) ≡ rises (last_of (Some u) ts) v
rises_last u [] v h = and_true (rises (Some u) v)
rises_last u (t ∷ ts) v h =
    let parts = and_parts (rises (Some u) t) (is_rising (t ∷ ts)) h in
    rw parts.0 (rises_last t ts v parts.1)

-- a text behind rising ones rises where it is above the last
rising_more : (ts : List (List ℕ)) (v : List ℕ) → is_rising ts ≡ true → is_rising (ts ++ v ∷ []) ≡ rises (last_of None ts) v
rising_more [] v h = refl
rising_more (t ∷ ts) v h = rises_last t ts v h

abbrev texts_before : List (List ℕ) → List ℕ
texts_before ts = flat_map (λ t. quoted t ++ 44 ∷ []) ts

-- texts behind a `,` each, and a `,` behind them, are texts before a `,` each, and a `,` before them
commas : (ts : List (List ℕ)) (l : List ℕ) → more_texts ts ++ 44 ∷ l ≡ 44 ∷ (texts_before ts ++ l)
commas [] l = refl
commas (t ∷ ts) l =
    let x : List ℕ = t ++ 34 ∷ [] in
    let left : (x ++ more_texts ts) ++ 44 ∷ l ≡ x ++ 44 ∷ (texts_before ts ++ l) = append_assoc x (more_texts ts) (44 ∷ l) ∙ ap (λ r. x ++ r) (commas ts l) in
    let right : ((x ++ 44 ∷ []) ++ texts_before ts) ++ l ≡ x ++ 44 ∷ (texts_before ts ++ l) =
    append_assoc (x ++ 44 ∷ []) (texts_before ts) l ∙ append_assoc x (44 ∷ []) (texts_before ts ++ l) in
    ap (λ r. 44 ∷ 34 ∷ r) (left ∙ sym right)

commas_length : (ts : List (List ℕ)) → length (more_texts ts) ≡ length (texts_before ts)
commas_length ts =
    let e : length (more_texts ts ++ 44 ∷ []) ≡ suc (length (texts_before ts ++ [])) = ap length (commas ts []) in
    omega (arith, e, length-append (more_texts ts) (44 ∷ []), length-append (texts_before ts) [])

stuck_is : (ts : List (List ℕ)) (t rest : List ℕ) → is_rising ts ≡ true → NoRise (last_of None ts) t rest → IsStuck ts t rest
stuck_is ts t rest up (inl h) = inl (λ w. rising_more ts (t ++ w) up ∙ h w)
stuck_is ts t rest up (inr h) = inr (h.0, h.1, rising_more ts t up ∙ h.2)

stuck_from : (ts : List (List ℕ)) (t rest : List ℕ) → is_rising ts ≡ true → IsStuck ts t rest → NoRise (last_of None ts) t rest
stuck_from ts t rest up (inl h) = inl (λ w. sym (rising_more ts (t ++ w) up) ∙ h w)
stuck_from ts t rest up (inr h) = inr (h.0, h.1, sym (rising_more ts t up) ∙ h.2)

pub set_falls : (bs : List ℕ) (p : ℕ) → FallIn None (44 ∷ bs) 1 p → FallsAt (123 ∷ bs) p
set_falls bs p h =
    let up : is_rising h.others ≡ true = rising_from_chain h.others h.fine.rising in
    record {
      others = h.others;
      text = h.text;
      rest = h.rest;
      split = ap (λ l. 123 ∷ tail l) (h.split ∙ commas h.others (34 ∷ (h.text ++ h.rest)));
      risen = up;
      plain = h.fine.plain;
      plain_text = h.plain;
      stuck = stuck_is h.others h.text h.rest up h.stuck;
      place = omega (arith, h.place, commas_length h.others);
    }

-- what falls in a set, behind its `{`
pub fall_from : (bytes : List ℕ) (p : ℕ) → FallsAt bytes p → (bs : List ℕ) × ((bytes ≡ 123 ∷ bs) × FallIn None (44 ∷ bs) 1 p)
fall_from bytes p h =
    let z : List ℕ = 34 ∷ (h.text ++ h.rest) in (
      texts_before h.others ++ z,
      (
        h.split,
        record {
          others = h.others;
          text = h.text;
          rest = h.rest;
          split = sym (commas h.others z);
          fine = record { rising = chain_from_rising h.others h.risen; plain = h.plain };
          plain = h.plain_text;
          stuck = stuck_from h.others h.text h.rest h.risen h.stuck;
          place = omega (arith, h.place, commas_length h.others);
        },
      ),
    )

-- ---- a `"` behind texts begins one more

all_more : (ts : List (List ℕ)) (w : List ℕ) → list_all is_plain ts ≡ true → is_plain w ≡ true → list_all is_plain (ts ++ w ∷ []) ≡ true
all_more [] w h k = and_from (is_plain w) true k refl
all_more (t ∷ ts) w h k =
    let parts = and_parts (is_plain t) (list_all is_plain ts) h in
    and_from (is_plain t) (list_all is_plain (ts ++ w ∷ [])) parts.0 (all_more ts w parts.1 k)

plain_last : (last : Option (List ℕ)) (ts : List (List ℕ)) → Plain last → list_all is_plain ts ≡ true → Plain (last_of last ts)
plain_last last [] plain h = plain
plain_last last (t ∷ ts) plain h =
    let parts = and_parts (is_plain t) (list_all is_plain ts) h in
    plain_last (Some t) ts parts.0 parts.1

ending_more : (ts : List (List ℕ)) (w : List ℕ) → ending (ts ++ w ∷ []) ≡ 44 ∷ (texts_before ts ++ 34 ∷ (w ++ 34 ∷ 125 ∷ []))
ending_more [] w = text_then w []
ending_more (t ∷ ts) w =
    let l : List ℕ = 34 ∷ (w ++ 34 ∷ 125 ∷ []) in
    let x : List ℕ = t ++ 34 ∷ [] in
    let right : ((x ++ 44 ∷ []) ++ texts_before ts) ++ l ≡ t ++ 34 ∷ 44 ∷ (texts_before ts ++ l) =
    append_assoc (x ++ 44 ∷ []) (texts_before ts) l ∙ append_assoc x (44 ∷ []) (texts_before ts ++ l) ∙ append_assoc t (34 ∷ []) (44 ∷ (texts_before ts ++ l)) in
    text_then t (ts ++ w ∷ []) ∙ ap (λ r. 44 ∷ 34 ∷ (t ++ 34 ∷ r)) (ending_more ts w) ∙ ap (λ r. 44 ∷ 34 ∷ r) (sym right)

set_ending : (ts : List (List ℕ)) (w : List ℕ) → set_spelling (ts ++ w ∷ []) ≡ 123 ∷ tail (ending (ts ++ w ∷ []))
set_ending [] w = refl
set_ending (t ∷ ts) w = refl

pub text_begins : (ts : List (List ℕ)) → is_rising ts ≡ true → list_all is_plain ts ≡ true → Begins (up_to_text ts ++ 34 ∷ [])
text_begins ts up plain =
    let last : Option (List ℕ) = last_of None ts in
    let r = risen last [] (plain_last None ts tt plain) (can_rise_first last) in
    let l : List ℕ = r.0 ++ 34 ∷ 125 ∷ [] in
    let bytes : (up_to_text ts ++ 34 ∷ []) ++ l ≡ set_spelling (ts ++ r.0 ∷ []) =
    ap (λ x. 123 ∷ x) (append_assoc (texts_before ts) (34 ∷ []) l) ∙ ap (λ x. 123 ∷ tail x) (sym (ending_more ts r.0)) ∙ sym (set_ending ts r.0) in
    (l, set (ts ++ r.0 ∷ []) (rising_more ts r.0 up ∙ r.1.1) (all_more ts r.0 plain r.1.0) bytes)
