-- Where the bytes of a text stop being the beginning of one.
use Rattle.std.proofs.Common.{◌≡◌, ℕ, suc, ◌+◌, true, false, List, [], ◌∷◌, ◌++◌, length, drop, inl, inr, refl, sym, ap, ◌∙◌, arith, append_assoc, append-nil, length-append, subst}
use Rattle.std.specs.Prelude.{◌==◌}
use Rattle.std.proofs.lemmas.Bool.{cases_Bool, eqb-true, eqb-false, ne_eqb, true≢false, false≢true}
use Rattle.std.proofs.lemmas.List.{drop_at}
use Rattle.ucon_base.specs.TextBytes.{is_text_byte}
use Rattle.ucon_base.specs.Reading.{text_len, bad_close}
use Rattle.ucon_base.specs.Spellings.{is_plain}
use Rattle.ucon_base.proofs.Fronts.{Never, Told, EndsAt, run, all_at}
use Rattle.ucon_base.proofs.OfAKind.{EndsText}
use Rattle.ucon_base.proofs.Sets.{goes}

unfinished : (t : List ℕ) → is_plain t ≡ true → EndsText t → ⊥
unfinished t plain h =
    let all : is_plain (h.0 ++ 34 ∷ []) ≡ true = ap is_plain (sym h.2) ∙ plain in
    false≢true (all_at is_text_byte h.0 34 [] all)

broken : (t : List ℕ) (b : ℕ) (more : List ℕ) → is_plain t ≡ true → is_text_byte b ≡ false → EndsText (t ++ b ∷ more) → (b ≡ 34) × (more ≡ [])
broken t b more plain isnt h =
    elim (goes t b more h.0 [] plain h.1 h.2) [
      | inl e ↦ (e.0, e.2)
      | inr w ↦ absurd (true≢false (sym w.0 ∙ isnt))
    ]

told_end : (t rest : List ℕ) → is_plain t ≡ true → EndsAt is_text_byte rest → Told EndsText Never 1 (t ++ rest) (bad_close (length t + 1) rest)
told_end t [] plain ends = record {
  front = t;
  rest = [];
  split = refl;
  begun = (34 ∷ [], (t, plain, refl));
  refused = unfinished t plain;
  why = inl (omega arith);
}
told_end t (b ∷ []) plain ends =
    elim (cases_Bool (b == 34)) [
      | inl is ↦ rw is (t, plain, ap (λ c. t ++ c ∷ []) (eqb-true b 34 is))
      | inr isnt ↦ rw isnt (record {
        front = t;
        rest = b ∷ [];
        split = refl;
        begun = (34 ∷ [], (t, plain, refl));
        refused = λ more h. eqb-false b 34 isnt (broken t b more plain ends h).0;
        why = inl (omega arith);
      })
    ]
told_end t (b ∷ c ∷ r) plain ends =
    let more_there : (suc (length r) == 0) ≡ false = ne_eqb (suc (length r)) 0 (λ e. omega (arith, e)) in
    elim (cases_Bool (b == 34)) [
      | inl is ↦ rw (is, more_there) (record {
        front = t ++ b ∷ [];
        rest = c ∷ r;
        split = sym (append_assoc t (b ∷ []) (c ∷ r));
        begun = ([], (t, plain, append-nil (t ++ b ∷ []) ∙ ap (λ x. t ++ x ∷ []) (eqb-true b 34 is)));
        refused = λ more h. omega (arith, ap length (broken t b (c ∷ more) plain ends (subst EndsText (append_assoc t (b ∷ []) (c ∷ more)) h)).1);
        why = inl (omega (arith, length-append t (b ∷ [])));
      })
      | inr isnt ↦ rw isnt (record {
        front = t;
        rest = b ∷ c ∷ r;
        split = refl;
        begun = (34 ∷ [], (t, plain, refl));
        refused = λ more h. eqb-false b 34 isnt (broken t b more plain ends h).0;
        why = inl (omega arith);
      })
    ]

pub told_text : (bs : List ℕ) → Told EndsText Never 1 bs (bad_close (text_len bs + 1) (drop (text_len bs) bs))
told_text bs =
    let r = run is_text_byte bs in
    let behind : drop (text_len bs) bs ≡ r.rest = ap (drop (text_len bs)) r.split ∙ drop_at r.front r.rest (text_len bs) (sym r.len) in
    let place : bad_close (text_len bs + 1) (drop (text_len bs) bs) ≡ bad_close (length r.front + 1) r.rest = ap (bad_close (text_len bs + 1)) behind ∙ ap (λ n. bad_close (n + 1) r.rest) r.len in
    let told : Told EndsText Never 1 bs (bad_close (length r.front + 1) r.rest) =
    subst (λ l. Told EndsText Never 1 l (bad_close (length r.front + 1) r.rest)) (sym r.split) (told_end r.front r.rest r.all r.ends) in
    subst (Told EndsText Never 1 bs) (sym place) told
