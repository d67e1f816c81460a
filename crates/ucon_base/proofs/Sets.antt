-- Where the bytes of a set stop being the beginning of one.
use Rattle.std.proofs.Common.{◌≡◌, ℕ, ◌+◌, ◌⊎◌, true, false, List, [], ◌∷◌, ◌++◌, length, Option, Some, None, Ok, Err, inl, inr, refl, sym, ap, ◌∙◌, arith, append_assoc, append-nil, length-append, subst}
use Rattle.std.specs.Prelude.{Result, ◌==◌, ⊤}
use Rattle.std.specs.List.{list_all}
use Rattle.std.proofs.lemmas.Bool.{and_parts, and_from, or_cases, cases_Bool, eqb-true, eqb-false, eq-eqb, le-ltb, true≢false, false≢true, false_from_ne_true}
use Rattle.ucon_base.specs.declared.value_fault.ValueFault.{ValueFault}
use Rattle.ucon_base.specs.declared.value_fault.ValueFault.TheVariants.{BadSpelling, TooLong, TooMany, OutOfRange, NoMemory}
use Rattle.ucon_base.specs.Reading.{Member, Stage, rises, can_rise, begins_with, inside, opened, behind, awaiting, closed, before, members}
use Rattle.ucon_base.specs.Spelling.{more_texts, set_spelling}
use Rattle.ucon_base.specs.TextBytes.{is_text_byte}
use Rattle.ucon_base.specs.Spellings.{is_plain}
use Rattle.ucon_base.proofs.RisingSets.{chain, Fine, ending, regrouped, can_rise_first, can_rise_front}
use Rattle.ucon_base.proofs.Fronts.{Refused, Told, told_behind, stops_here, all_at}

-- the place where a reading found a bad spelling
abbrev pub bad : {A : Type 0} → Result A ValueFault → Option ℕ
bad (Ok v) = None
bad (Err (BadSpelling p)) = Some p
bad (Err (TooLong p)) = None
bad (Err (TooMany n)) = None
bad (Err OutOfRange) = None
bad (Err (NoMemory e)) = None

abbrev pub tail : List ℕ → List ℕ
tail [] = []
tail (b ∷ bs) = bs

abbrev pub head : List ℕ → ℕ
head [] = 0
head (b ∷ bs) = b

-- bytes that end what was read up to a stage, behind the last text
abbrev pub Rest : Option (List ℕ) → Stage → List ℕ → Type 0
Rest last closed l = l ≡ []
Rest last behind l = (ts : List (List ℕ)) × Fine last ts × (l ≡ ending ts)
Rest last awaiting l = (ts : List (List ℕ)) × Fine last ts × (44 ∷ l ≡ ending ts)
Rest last (inside q t) l = (ts : List (List ℕ)) × Fine last ts × (44 ∷ 34 ∷ (t ++ l) ≡ ending ts)
Rest last opened l = (ts : List (List ℕ)) × Fine last ts × (123 ∷ l ≡ set_spelling ts)

-- the last text of some behind another
abbrev pub last_of : Option (List ℕ) → List (List ℕ) → Option (List ℕ)
last_of last [] = last
last_of last (t ∷ ts) = last_of (Some t) ts

-- no text that begins so rises, or a `"` closes it and it doesn't
abbrev pub NoRise : Option (List ℕ) → List ℕ → List ℕ → Type 0
NoRise last t rest = ((w : List ℕ) → rises last (t ++ w) ≡ false) ⊎ ((more : List ℕ) × (rest ≡ 34 ∷ more) × (rises last t ≡ false))

-- a text behind others that doesn't rise, in bytes that begin with the `,` before the first, behind whose `,` this place lies
pub record FallIn (last : Option (List ℕ)) (bs : List ℕ) (at p : ℕ) : Type 0 where
  pub others : List (List ℕ)
  pub text : List ℕ
  pub rest : List ℕ
  pub split : bs ≡ more_texts others ++ 44 ∷ 34 ∷ (text ++ rest)
  pub fine : Fine last others
  pub plain : is_plain text ≡ true
  pub stuck : NoRise (last_of last others) text rest
  pub place : p ≡ at + length (more_texts others)

abbrev pub Fall : Option (List ℕ) → Stage → ℕ → List ℕ → ℕ → Type 0
Fall last closed at l p = ⊥
Fall last behind at l p = FallIn last l (at + 1) p
Fall last awaiting at l p = FallIn last (44 ∷ l) at p
Fall last (inside q t) at l p = FallIn last (44 ∷ 34 ∷ (t ++ l)) q p
Fall last opened at l p = FallIn last (44 ∷ l) at p

-- the last text is a text, and the open one can rise
abbrev pub Plain : Option (List ℕ) → Type 0
Plain None = ⊤
Plain (Some u) = is_plain u ≡ true

-- the open text can rise, and this is the place behind it
abbrev pub Alive : Option (List ℕ) → Stage → ℕ → Type 0
Alive last (inside q t) at = (is_plain t ≡ true) × (can_rise last t ≡ true) × (at ≡ q + 1 + length t)
Alive last opened at = ⊤
Alive last behind at = ⊤
Alive last awaiting at = ⊤
Alive last closed at = ⊤

-- ---- texts that rise

above_itself : (u : List ℕ) → rises (Some u) (u ++ 32 ∷ []) ≡ true
above_itself [] = refl
above_itself (a ∷ u) = rw (le-ltb a a (omega arith), eq-eqb a a refl) (above_itself u)

plain_more : (t : List ℕ) (b : ℕ) → is_plain t ≡ true → is_text_byte b ≡ true → is_plain (t ++ b ∷ []) ≡ true
plain_more [] b h is = and_from (is_text_byte b) true is refl
plain_more (c ∷ t) b h is =
    let parts = and_parts (is_text_byte c) (is_plain t) h in
    and_from (is_text_byte c) (is_plain (t ++ b ∷ [])) parts.0 (plain_more t b parts.1 is)

plain_both : (t w : List ℕ) → is_plain t ≡ true → is_plain w ≡ true → is_plain (t ++ w) ≡ true
plain_both [] w h k = k
plain_both (c ∷ t) w h k =
    let parts = and_parts (is_text_byte c) (is_plain t) h in
    and_from (is_text_byte c) (is_plain (t ++ w)) parts.0 (plain_both t w parts.1 k)

below_both : (a c : ℕ) (u v : List ℕ) → (a == c) ≡ true → rises (Some u) v ≡ true → rises (Some (a ∷ u)) (c ∷ v) ≡ true
below_both a c u v same h = let e : a ≡ c = eqb-true a c same in rw (le-ltb a c (omega (arith, e)), same) h

past : (u t : List ℕ) → begins_with u t ≡ true → is_plain u ≡ true → (w : List ℕ) × ((is_plain w ≡ true) × (rises (Some u) (t ++ w) ≡ true))
past u [] h plain = (u ++ 32 ∷ [], (plain_more u 32 plain refl, above_itself u))
past [] (c ∷ t) h plain = absurd (false≢true h)
past (a ∷ u) (c ∷ t) h plain =
    let parts = and_parts (a == c) (begins_with u t) h in
    let r = past u t parts.1 (and_parts (is_text_byte a) (is_plain u) plain).1 in
    (r.0, (r.1.0, below_both a c u (t ++ r.0) parts.0 r.1.1))

-- a text that can rise does with some more bytes
pub risen : (last : Option (List ℕ)) (t : List ℕ) → Plain last → can_rise last t ≡ true → (w : List ℕ) × ((is_plain w ≡ true) × (rises last (t ++ w) ≡ true))
risen None t plain h = ([], (refl, refl))
risen (Some u) t plain h =
    elim (or_cases (rises (Some u) t) (begins_with u t) h) [
      | inl is ↦ ([], (refl, ap (rises (Some u)) (append-nil t) ∙ is))
      | inr begins ↦ past u t begins plain
    ]

-- ---- a text and what stands behind it

fine_none : (last : Option (List ℕ)) → Fine last []
fine_none last = record { rising = refl; plain = refl }

fine_more : (last : Option (List ℕ)) (t : List ℕ) (ts : List (List ℕ)) → is_plain t ≡ true → rises last t ≡ true → Fine (Some t) ts → Fine last (t ∷ ts)
fine_more last t ts plain up h = record {
  rising = and_from (rises last t) (chain (Some t) ts) up h.rising;
  plain = and_from (is_plain t) (list_all is_plain ts) plain h.plain;
}

pub record Parts (last : Option (List ℕ)) (t : List ℕ) (ts : List (List ℕ)) : Type 0 where
  pub plain : is_plain t ≡ true
  pub up : rises last t ≡ true
  pub others : Fine (Some t) ts

pub fine_parts : (last : Option (List ℕ)) (t : List ℕ) (ts : List (List ℕ)) → Fine last (t ∷ ts) → Parts last t ts
fine_parts last t ts h =
    let rising = and_parts (rises last t) (chain (Some t) ts) h.rising in
    let each = and_parts (is_plain t) (list_all is_plain ts) h.plain in
    record { plain = each.0; up = rising.0; others = record { rising = rising.1; plain = each.1 } }

pub text_then : (t : List ℕ) (ts : List (List ℕ)) → ending (t ∷ ts) ≡ 44 ∷ 34 ∷ (t ++ 34 ∷ ending ts)
text_then t ts = ap (λ l. 44 ∷ 34 ∷ l) (sym (regrouped t (more_texts ts)))

-- what stands in an open text: it has a text whose bytes begin so, and what stands behind
pub record Opened (last : Option (List ℕ)) (l : List ℕ) : Type 0 where
  pub text : List ℕ
  pub others : List (List ℕ)
  pub fine : Parts last text others
  pub bytes : l ≡ text ++ 34 ∷ ending others

text_opened : (last : Option (List ℕ)) (l : List ℕ) (ts : List (List ℕ)) → Fine last ts → 44 ∷ l ≡ ending ts → (rest : List ℕ) × ((l ≡ 34 ∷ rest) × Opened last rest)
text_opened last l [] fine h = let e : 44 ≡ 125 = ap head h in absurd (omega (arith, e))
text_opened last l (t ∷ ts) fine h =
    let e : 44 ∷ l ≡ 44 ∷ 34 ∷ (t ++ 34 ∷ ending ts) = h ∙ text_then t ts in
    (t ++ 34 ∷ ending ts, (ap tail e, record { text = t; others = ts; fine = fine_parts last t ts fine; bytes = refl }))

in_text : (last : Option (List ℕ)) (q : ℕ) (t l : List ℕ) → Rest last (inside q t) l → Opened last (t ++ l)
in_text last q t l h =
    let r = text_opened last (34 ∷ (t ++ l)) h.0 h.1 h.2 in
    let same : t ++ l ≡ r.0 = ap tail r.1.0 in
    record { text = r.1.1.text; others = r.1.1.others; fine = r.1.1.fine; bytes = same ∙ r.1.1.bytes }

from_text : (last : Option (List ℕ)) (q : ℕ) (t l : List ℕ) → Opened last (t ++ l) → Rest last (inside q t) l
from_text last q t l h = (
  h.text ∷ h.others,
  fine_more last h.text h.others h.fine.plain h.fine.up h.fine.others,
  ap (λ s. 44 ∷ 34 ∷ s) h.bytes ∙ sym (text_then h.text h.others),
)

-- a byte behind the bytes of a text ends it or stands in it
abbrev pub Goes : List ℕ → ℕ → List ℕ → List ℕ → List ℕ → Type 0
Goes t b more u rest = ((b ≡ 34) × (t ≡ u) × (more ≡ rest)) ⊎ ((is_text_byte b ≡ true) × ((w : List ℕ) × (u ≡ t ++ b ∷ w)))

goes_more : (a : ℕ) (t : List ℕ) (b : ℕ) (more u rest : List ℕ) → Goes t b more u rest → Goes (a ∷ t) b more (a ∷ u) rest
goes_more a t b more u rest (inl h) = inl (h.0, ap (λ l. a ∷ l) h.1, h.2)
goes_more a t b more u rest (inr h) = inr (h.0, (h.1.0, ap (λ l. a ∷ l) h.1.1))

pub goes : (t : List ℕ) (b : ℕ) (more u rest : List ℕ) → is_plain t ≡ true → is_plain u ≡ true → t ++ b ∷ more ≡ u ++ 34 ∷ rest → Goes t b more u rest
goes [] b more [] rest h k e = inl (ap head e, refl, ap tail e)
goes [] b more (c ∷ u) rest h k e =
    let same : b ≡ c = ap head e in
    inr (ap is_text_byte same ∙ (and_parts (is_text_byte c) (is_plain u) k).0, (u, ap (λ x. x ∷ u) (sym same)))
goes (a ∷ t) b more [] rest h k e =
    let quote : a ≡ 34 = ap head e in
    absurd (false≢true (sym (ap is_text_byte quote) ∙ (and_parts (is_text_byte a) (is_plain t) h).0))
goes (a ∷ t) b more (c ∷ u) rest h k e =
    let same : a ≡ c = ap head e in
    let further : Goes t b more u rest = goes t b more u rest (and_parts (is_text_byte a) (is_plain t) h).1 (and_parts (is_text_byte c) (is_plain u) k).1 (ap tail e) in
    subst (λ x. Goes (a ∷ t) b more (x ∷ u) rest) same (goes_more a t b more u rest further)

-- an open text that can rise can be ended
completed : (last : Option (List ℕ)) (q : ℕ) (t : List ℕ) → Plain last → (is_plain t ≡ true) × (can_rise last t ≡ true) → (more : List ℕ) × Rest last (inside q t) more
completed last q t plain alive =
    let r = risen last t plain alive.1 in (
      r.0 ++ 34 ∷ 125 ∷ [],
      from_text last q t (r.0 ++ 34 ∷ 125 ∷ []) (record {
        text = t ++ r.0;
        others = [];
        fine = record { plain = plain_both t r.0 alive.0 r.1.0; up = r.1.1; others = fine_none (Some (t ++ r.0)) };
        bytes = sym (append_assoc t r.0 (34 ∷ 125 ∷ []));
      }),
    )

-- ---- the steps of the reading

-- what is known of the bytes behind the first
abbrev pub Next : (ℕ → List ℕ → Type 0) → List ℕ → Type 0
Next F [] = ⊤
Next F (b ∷ bs) = F b bs

told_closed : (last : Option (List ℕ)) (at : ℕ) (bs : List ℕ) → Told (Rest last closed) (Fall last closed at) at bs (bad (members last closed at bs))
told_closed last at [] = refl
told_closed last at (b ∷ bs) = stops_here (Rest last closed) (Fall last closed at) at (b ∷ bs) at [] refl (λ more e. omega (arith, ap length e)) (inl refl)

set_opens : (ts : List (List ℕ)) (l : List ℕ) → 123 ∷ l ≡ set_spelling ts → (44 ∷ l ≡ ending ts) ⊎ ((l ≡ 125 ∷ []) × (ts ≡ []))
set_opens [] l h = inr (ap tail h, refl)
set_opens (t ∷ ts) l h = inl (ap (λ x. 44 ∷ tail x) h)

set_from : (ts : List (List ℕ)) (l : List ℕ) → 44 ∷ 34 ∷ l ≡ ending ts → 123 ∷ 34 ∷ l ≡ set_spelling ts
set_from [] l h = let e : 44 ≡ 125 = ap head h in absurd (omega (arith, e))
set_from (t ∷ ts) l h = ap (λ x. 123 ∷ tail x) h

-- a set goes on with a text or ends
opened_goes : (last : Option (List ℕ)) (b : ℕ) (l : List ℕ) → Rest last opened (b ∷ l) → (b ≡ 34) ⊎ (b ≡ 125)
opened_goes last b l h =
    elim (set_opens h.0 (b ∷ l) h.2) [
      | inl more ↦ inl (ap head (text_opened last (b ∷ l) h.0 h.1 more).1.0)
      | inr none ↦ inr (ap head none.0)
    ]

opened_some : (last : Option (List ℕ)) (l : List ℕ) → Rest last opened l → l ≡ [] → ⊥
opened_some last l h none =
    elim (set_opens h.0 l h.2) [
      | inl more ↦ omega (arith, ap length (sym none ∙ (text_opened last l h.0 h.1 more).1.0))
      | inr nothing ↦ omega (arith, ap length (sym none ∙ nothing.0))
    ]

opened_text : (last : Option (List ℕ)) (at : ℕ) (l : List ℕ) → Rest last opened (34 ∷ l) → Rest last (inside at []) l
opened_text last at l h =
    elim (set_opens h.0 (34 ∷ l) h.2) [
      | inl more ↦ (h.0, h.1, more)
      | inr none ↦ let e : 34 ≡ 125 = ap head none.0 in absurd (omega (arith, e))
    ]

opened_end : (last : Option (List ℕ)) (l : List ℕ) → Rest last opened (125 ∷ l) → l ≡ []
opened_end last l h =
    elim (set_opens h.0 (125 ∷ l) h.2) [
      | inl more ↦ let e : 125 ≡ 34 = ap head (text_opened last (125 ∷ l) h.0 h.1 more).1.0 in absurd (omega (arith, e))
      | inr none ↦ ap tail none.0
    ]

opened_refused : (last : Option (List ℕ)) (b : ℕ) (bs : List ℕ) → (b == 34) ≡ false → (b == 125) ≡ false → Refused (Rest last opened) [] (b ∷ bs)
opened_refused last b bs isnt other = λ more h.
    elim (opened_goes last b more h) [
      | inl quote ↦ eqb-false b 34 isnt quote
      | inr ends ↦ eqb-false b 125 other ends
    ]

told_opened : (last : Option (List ℕ)) (at : ℕ) (bs : List ℕ)
    → Next (λ c l. Told (Rest last (inside at [])) (Fall last (inside at []) (at + 1)) (at + 1) l (bad (members last (inside at []) (at + 1) l))) bs
    → Told (Rest last opened) (Fall last opened at) at bs (bad (members last opened at bs))
told_opened last at [] h = stops_here (Rest last opened) (Fall last opened at) at [] at (125 ∷ []) ([], fine_none last, refl) (λ r. opened_some last [] r refl) (inl refl)
told_opened last at (b ∷ bs) h =
    elim (cases_Bool (b == 34)) [
      | inl is ↦
          let e : b ≡ 34 = eqb-true b 34 is in
          rw e (told_behind (Rest last (inside at [])) (Rest last opened) (Fall last (inside at []) (at + 1)) (Fall last opened at) at 34 bs (bad (members last (inside at []) (at + 1) bs))
          (λ l r. (r.0, r.1, set_from r.0 l r.2)) (opened_text last at) (λ p w. w) h)
      | inr isnt ↦
          elim (cases_Bool (b == 125)) [
            | inl ends ↦
                let e : b ≡ 125 = eqb-true b 125 ends in
                rw e (told_behind (Rest last closed) (Rest last opened) (Fall last closed (at + 1)) (Fall last opened at) at 125 bs (bad (members last closed (at + 1) bs))
                (λ l none. ([], fine_none last, ap (λ x. 123 ∷ 125 ∷ x) none)) (opened_end last) (λ p w. absurd w) (told_closed last (at + 1) bs))
            | inr other ↦ rw (isnt, other) (stops_here (Rest last opened) (Fall last opened at) at (b ∷ bs) at (125 ∷ []) ([], fine_none last, refl) (opened_refused last b bs isnt other) (inl refl))
          ]
    ]

behind_goes : (ts : List (List ℕ)) (b : ℕ) (l : List ℕ) → b ∷ l ≡ ending ts → (b ≡ 44) ⊎ ((b ≡ 125) × (l ≡ []))
behind_goes [] b l h = inr (ap head h, ap tail h)
behind_goes (t ∷ ts) b l h = inl (ap head h)

behind_some : (ts : List (List ℕ)) → [] ≡ ending ts → ⊥
behind_some [] h = omega (arith, ap length h)
behind_some (t ∷ ts) h = omega (arith, ap length h)

behind_end : (last : Option (List ℕ)) (l : List ℕ) → Rest last behind (125 ∷ l) → l ≡ []
behind_end last l h =
    elim (behind_goes h.0 125 l h.2) [
      | inl comma ↦ absurd (omega (arith, comma))
      | inr ends ↦ ends.1
    ]

behind_refused : (last : Option (List ℕ)) (b : ℕ) (bs : List ℕ) → (b == 44) ≡ false → (b == 125) ≡ false → Refused (Rest last behind) [] (b ∷ bs)
behind_refused last b bs isnt other = λ more h.
    elim (behind_goes h.0 b more h.2) [
      | inl comma ↦ eqb-false b 44 isnt comma
      | inr ends ↦ eqb-false b 125 other ends.0
    ]

told_behind_text : (last : Option (List ℕ)) (at : ℕ) (bs : List ℕ)
    → Next (λ c l. Told (Rest last awaiting) (Fall last awaiting (at + 1)) (at + 1) l (bad (members last awaiting (at + 1) l))) bs
    → Told (Rest last behind) (Fall last behind at) at bs (bad (members last behind at bs))
told_behind_text last at [] h = stops_here (Rest last behind) (Fall last behind at) at [] at (125 ∷ []) ([], fine_none last, refl) (λ r. behind_some r.0 r.2) (inl refl)
told_behind_text last at (b ∷ bs) h =
    elim (cases_Bool (b == 44)) [
      | inl is ↦
          let e : b ≡ 44 = eqb-true b 44 is in
          rw e (told_behind (Rest last awaiting) (Rest last behind) (Fall last awaiting (at + 1)) (Fall last behind at) at 44 bs (bad (members last awaiting (at + 1) bs)) (λ l r. r) (λ l r. r) (λ p w. w) h)
      | inr isnt ↦
          elim (cases_Bool (b == 125)) [
            | inl ends ↦
                let e : b ≡ 125 = eqb-true b 125 ends in
                rw e (told_behind (Rest last closed) (Rest last behind) (Fall last closed (at + 1)) (Fall last behind at) at 125 bs (bad (members last closed (at + 1) bs))
                (λ l none. ([], fine_none last, ap (λ x. 125 ∷ x) none)) (behind_end last) (λ p w. absurd w) (told_closed last (at + 1) bs))
            | inr other ↦ rw (isnt, other) (stops_here (Rest last behind) (Fall last behind at) at (b ∷ bs) at (125 ∷ []) ([], fine_none last, refl) (behind_refused last b bs isnt other) (inl refl))
          ]
    ]

awaiting_refused : (last : Option (List ℕ)) (bs : List ℕ) → ((c : ℕ) (l : List ℕ) → bs ≡ c ∷ l → (c == 34) ≡ false) → Refused (Rest last awaiting) [] bs
awaiting_refused last [] h = λ r. omega (arith, ap length (text_opened last [] r.0 r.1 r.2).1.0)
awaiting_refused last (b ∷ bs) h = λ more r. eqb-false b 34 (h b bs refl) (ap head (text_opened last (b ∷ more) r.0 r.1 r.2).1.0)

told_awaiting : (last : Option (List ℕ)) (at : ℕ) (bs : List ℕ) → Plain last
    → Next (λ c l. Told (Rest last (inside at [])) (Fall last (inside at []) (at + 1)) (at + 1) l (bad (members last (inside at []) (at + 1) l))) bs
    → Told (Rest last awaiting) (Fall last awaiting at) at bs (bad (members last awaiting at bs))
told_awaiting last at [] plain h =
    let done = completed last at [] plain (refl, can_rise_first last) in
    stops_here (Rest last awaiting) (Fall last awaiting at) at [] at (34 ∷ done.0) done.1 (awaiting_refused last [] (λ c l e. absurd (omega (arith, ap length e)))) (inl refl)
told_awaiting last at (b ∷ bs) plain h =
    let done = completed last at [] plain (refl, can_rise_first last) in
    elim (cases_Bool (b == 34)) [
      | inl is ↦
          let e : b ≡ 34 = eqb-true b 34 is in
          rw e (told_behind (Rest last (inside at [])) (Rest last awaiting) (Fall last (inside at []) (at + 1)) (Fall last awaiting at) at 34 bs (bad (members last (inside at []) (at + 1) bs)) (λ l r. r) (λ l r. r) (λ p w. w) h)
      | inr isnt ↦
          rw isnt (stops_here (Rest last awaiting) (Fall last awaiting at) at (b ∷ bs) at (34 ∷ done.0) done.1
          (awaiting_refused last (b ∷ bs) (λ c l e. ap (λ x. head x == 34) (sym e) ∙ isnt)) (inl refl))
    ]

-- ---- in a text

inside_more : (last : Option (List ℕ)) (q : ℕ) (t : List ℕ) (b : ℕ) (l : List ℕ) → Rest last (inside q (t ++ b ∷ [])) l → Rest last (inside q t) (b ∷ l)
inside_more last q t b l h = (h.0, h.1, ap (λ x. 44 ∷ 34 ∷ x) (sym (append_assoc t (b ∷ []) l)) ∙ h.2)

inside_less : (last : Option (List ℕ)) (q : ℕ) (t : List ℕ) (b : ℕ) (l : List ℕ) → Rest last (inside q t) (b ∷ l) → Rest last (inside q (t ++ b ∷ [])) l
inside_less last q t b l h = (h.0, h.1, ap (λ x. 44 ∷ 34 ∷ x) (append_assoc t (b ∷ []) l) ∙ h.2)

inside_goes : (last : Option (List ℕ)) (q : ℕ) (t : List ℕ) (b : ℕ) (l : List ℕ) → is_plain t ≡ true → Rest last (inside q t) (b ∷ l)
    → ((b ≡ 34) × ((rises last t ≡ true) × Rest (Some t) behind l)) ⊎ ((is_text_byte b ≡ true) × (can_rise last (t ++ b ∷ []) ≡ true))
inside_goes last q t b l plain h =
    let r = in_text last q t (b ∷ l) h in
    elim (goes t b l r.text (ending r.others) plain r.fine.plain r.bytes) [
      | inl e ↦ inl (e.0, (ap (rises last) e.1 ∙ r.fine.up, (r.others, subst (λ u. Fine (Some u) r.others) (sym e.1) r.fine.others, e.2)))
      | inr w ↦ inr (w.0, can_rise_front last (t ++ b ∷ []) w.1.0 (ap (rises last) (append_assoc t (b ∷ []) w.1.0 ∙ sym w.1.1) ∙ r.fine.up))
    ]

inside_some : (last : Option (List ℕ)) (q : ℕ) (t : List ℕ) → is_plain t ≡ true → Rest last (inside q t) [] → ⊥
inside_some last q t plain h =
    let r = in_text last q t [] h in
    let all : is_plain (r.text ++ 34 ∷ ending r.others) ≡ true = ap is_plain (sym r.bytes ∙ append-nil t) ∙ plain in
    false≢true (all_at is_text_byte r.text 34 (ending r.others) all)

bad_before : (m : Member) (r : Result (List Member) ValueFault) → bad (before m r) ≡ bad r
bad_before m (Ok ms) = refl
bad_before m (Err (BadSpelling p)) = refl
bad_before m (Err (TooLong p)) = refl
bad_before m (Err (TooMany n)) = refl
bad_before m (Err OutOfRange) = refl
bad_before m (Err (NoMemory e)) = refl

over_there : (last : Option (List ℕ)) (q : ℕ) (t : List ℕ) (b : ℕ) (l : List ℕ) → is_plain t ≡ true → b ≡ 34 → rises last t ≡ true → Rest (Some t) behind l → Rest last (inside q t) (b ∷ l)
over_there last q t b l plain e up h = from_text last q t (b ∷ l) (record {
  text = t;
  others = h.0;
  fine = record { plain = plain; up = up; others = h.1 };
  bytes = ap (λ c. t ++ c ∷ l) e ∙ ap (λ x. t ++ 34 ∷ x) h.2;
})

over_back : (last : Option (List ℕ)) (q : ℕ) (t : List ℕ) (b : ℕ) (l : List ℕ) → is_plain t ≡ true → is_text_byte b ≡ false → Rest last (inside q t) (b ∷ l) → Rest (Some t) behind l
over_back last q t b l plain isnt h =
    elim (inside_goes last q t b l plain h) [
      | inl e ↦ e.1.1
      | inr w ↦ absurd (true≢false (sym w.0 ∙ isnt))
    ]

stopped_refused : (last : Option (List ℕ)) (q : ℕ) (t : List ℕ) (b : ℕ) (bs : List ℕ) → is_plain t ≡ true → is_text_byte b ≡ true → can_rise last (t ++ b ∷ []) ≡ false → Refused (Rest last (inside q t)) [] (b ∷ bs)
stopped_refused last q t b bs plain is stopped = λ more h.
    elim (inside_goes last q t b more plain h) [
      | inl e ↦ false≢true (sym (ap is_text_byte e.0) ∙ is)
      | inr w ↦ true≢false (sym w.1 ∙ stopped)
    ]

down_refused : (last : Option (List ℕ)) (q : ℕ) (t : List ℕ) (b : ℕ) (bs : List ℕ) → is_plain t ≡ true → is_text_byte b ≡ false → rises last t ≡ false → Refused (Rest last (inside q t)) [] (b ∷ bs)
down_refused last q t b bs plain isnt down = λ more h.
    elim (inside_goes last q t b more plain h) [
      | inl e ↦ true≢false (sym e.1.0 ∙ down)
      | inr w ↦ true≢false (sym w.0 ∙ isnt)
    ]

other_refused : (last : Option (List ℕ)) (q : ℕ) (t : List ℕ) (b : ℕ) (bs : List ℕ) → is_plain t ≡ true → is_text_byte b ≡ false → (b == 34) ≡ false → Refused (Rest last (inside q t)) [] (b ∷ bs)
other_refused last q t b bs plain isnt other = λ more h.
    elim (inside_goes last q t b more plain h) [
      | inl e ↦ eqb-false b 34 other e.0
      | inr w ↦ true≢false (sym w.0 ∙ isnt)
    ]

fall_more : (last : Option (List ℕ)) (q : ℕ) (t : List ℕ) (b : ℕ) (bs : List ℕ) (p : ℕ) → FallIn last (44 ∷ 34 ∷ ((t ++ b ∷ []) ++ bs)) q p → FallIn last (44 ∷ 34 ∷ (t ++ b ∷ bs)) q p
fall_more last q t b bs p h = subst (λ l. FallIn last (44 ∷ 34 ∷ l) q p) (append_assoc t (b ∷ []) bs) h

fall_over : (last : Option (List ℕ)) (q at : ℕ) (t : List ℕ) (b : ℕ) (bs : List ℕ) → is_plain t ≡ true → b ≡ 34 → rises last t ≡ true → at ≡ q + 1 + length t
    → (p : ℕ) → FallIn (Some t) bs (at + 1 + 1) p → FallIn last (44 ∷ 34 ∷ (t ++ b ∷ bs)) q p
fall_over last q at t b bs plain e up here p h =
    let more : List ℕ = more_texts h.others in
    let z : List ℕ = 44 ∷ 34 ∷ (h.text ++ h.rest) in
    record {
      others = t ∷ h.others;
      text = h.text;
      rest = h.rest;
      split =
          ap (λ c. 44 ∷ 34 ∷ (t ++ c ∷ bs)) e ∙ ap (λ l. 44 ∷ 34 ∷ (t ++ 34 ∷ l)) h.split
          ∙ ap (λ l. 44 ∷ 34 ∷ l) (sym (append_assoc (t ++ 34 ∷ []) more z ∙ append_assoc t (34 ∷ []) (more ++ z)));
      fine = fine_more last t h.others plain up h.fine;
      plain = h.plain;
      stuck = h.stuck;
      place = omega (arith, h.place, here, length-append (t ++ 34 ∷ []) more, length-append t (34 ∷ []));
    }

fall_stopped : (last : Option (List ℕ)) (q : ℕ) (t : List ℕ) (b : ℕ) (bs : List ℕ) → is_plain t ≡ true → is_text_byte b ≡ true → can_rise last (t ++ b ∷ []) ≡ false → FallIn last (44 ∷ 34 ∷ (t ++ b ∷ bs)) q q
fall_stopped last q t b bs plain is stopped = record {
  others = [];
  text = t ++ b ∷ [];
  rest = bs;
  split = ap (λ l. 44 ∷ 34 ∷ l) (sym (append_assoc t (b ∷ []) bs));
  fine = fine_none last;
  plain = plain_more t b plain is;
  stuck = inl (λ w. false_from_ne_true (rises last ((t ++ b ∷ []) ++ w)) (λ up. true≢false (sym (can_rise_front last (t ++ b ∷ []) w up) ∙ stopped)));
  place = omega arith;
}

fall_down : (last : Option (List ℕ)) (q : ℕ) (t : List ℕ) (b : ℕ) (bs : List ℕ) → is_plain t ≡ true → b ≡ 34 → rises last t ≡ false → FallIn last (44 ∷ 34 ∷ (t ++ b ∷ bs)) q q
fall_down last q t b bs plain e down = record {
  others = [];
  text = t;
  rest = b ∷ bs;
  split = refl;
  fine = fine_none last;
  plain = plain;
  stuck = inr (bs, ap (λ c. c ∷ bs) e, down);
  place = omega arith;
}

told_inside : (last : Option (List ℕ)) (q : ℕ) (t : List ℕ) (at : ℕ) (bs : List ℕ) → Plain last → Alive last (inside q t) at
    → Next (λ c l. is_text_byte c ≡ true → can_rise last (t ++ c ∷ []) ≡ true
    → Told (Rest last (inside q (t ++ c ∷ []))) (Fall last (inside q (t ++ c ∷ [])) (at + 1)) (at + 1) l (bad (members last (inside q (t ++ c ∷ [])) (at + 1) l))) bs
    → Next (λ c l. Told (Rest (Some t) behind) (Fall (Some t) behind (at + 1)) (at + 1) l (bad (members (Some t) behind (at + 1) l))) bs
    → Told (Rest last (inside q t)) (Fall last (inside q t) at) at bs (bad (members last (inside q t) at bs))
told_inside last q t at [] plain alive within over =
    let done = completed last q t plain (alive.0, alive.1) in
    stops_here (Rest last (inside q t)) (Fall last (inside q t) at) at [] at done.0 done.1 (inside_some last q t alive.0) (inl refl)
told_inside last q t at (b ∷ bs) plain alive within over =
    let done = completed last q t plain (alive.0, alive.1) in
    let P : List ℕ → Type 0 = Rest last (inside q t) in
    let V : List ℕ → ℕ → Type 0 = Fall last (inside q t) at in
    elim (cases_Bool (is_text_byte b)) [
      | inl is ↦
          elim (cases_Bool (can_rise last (t ++ b ∷ []))) [
            | inl rising ↦
                rw (is, rising) (told_behind (Rest last (inside q (t ++ b ∷ []))) P (Fall last (inside q (t ++ b ∷ [])) (at + 1)) V at b bs (bad (members last (inside q (t ++ b ∷ [])) (at + 1) bs))
                (inside_more last q t b) (inside_less last q t b) (fall_more last q t b bs) (within is rising))
            | inr stopped ↦
                rw (is, stopped) (stops_here P V at (b ∷ bs) q done.0 done.1 (stopped_refused last q t b bs alive.0 is stopped)
                (inr (fall_stopped last q t b bs alive.0 is stopped)))
          ]
      | inr isnt ↦
          elim (cases_Bool (b == 34)) [
            | inl ends ↦
                elim (cases_Bool (rises last t)) [
                  | inl up ↦
                      let r : Result (List Member) ValueFault = members (Some t) behind (at + 1) bs in
                      rw (isnt, ends, up, bad_before (record { at = q; text = t }) r) (told_behind (Rest (Some t) behind) P (Fall (Some t) behind (at + 1)) V at b bs (bad r)
                      (λ l. over_there last q t b l alive.0 (eqb-true b 34 ends) up) (λ l. over_back last q t b l alive.0 isnt) (fall_over last q at t b bs alive.0 (eqb-true b 34 ends) up alive.2) over)
                  | inr down ↦
                      rw (isnt, ends, down) (stops_here P V at (b ∷ bs) q done.0 done.1 (down_refused last q t b bs alive.0 isnt down)
                      (inr (fall_down last q t b bs alive.0 (eqb-true b 34 ends) down)))
                ]
            | inr other ↦
                rw (isnt, other) (stops_here P V at (b ∷ bs) at done.0 done.1 (other_refused last q t b bs alive.0 isnt other)
                (inl refl))
          ]
    ]

-- ---- the reading

pub told_members : (last : Option (List ℕ)) (stage : Stage) (at : ℕ) (bs : List ℕ) → Plain last → Alive last stage at → Told (Rest last stage) (Fall last stage at) at bs (bad (members last stage at bs))
told_members last closed at bs plain alive = told_closed last at bs
told_members last opened at [] plain alive = told_opened last at [] tt
told_members last opened at (b ∷ bs) plain alive = told_opened last at (b ∷ bs) (told_members last (inside at []) (at + 1) bs plain (refl, can_rise_first last, omega arith))
told_members last behind at [] plain alive = told_behind_text last at [] tt
told_members last behind at (b ∷ bs) plain alive = told_behind_text last at (b ∷ bs) (told_members last awaiting (at + 1) bs plain tt)
told_members last awaiting at [] plain alive = told_awaiting last at [] plain tt
told_members last awaiting at (b ∷ bs) plain alive = told_awaiting last at (b ∷ bs) plain (told_members last (inside at []) (at + 1) bs plain (refl, can_rise_first last, omega arith))
told_members last (inside q t) at [] plain alive = told_inside last q t at [] plain alive tt tt
told_members last (inside q t) at (b ∷ bs) plain alive =
    told_inside last q t at (b ∷ bs) plain alive
    (λ is rising. told_members last (inside q (t ++ b ∷ [])) (at + 1) bs plain (plain_more t b alive.0 is, rising, omega (arith, alive.2, length-append t (b ∷ []))))
    (told_members (Some t) behind (at + 1) bs alive.0 tt)
