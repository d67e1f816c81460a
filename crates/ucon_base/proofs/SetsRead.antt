-- A set that was read has rising texts, and its spelling is what was read.
use Rattle.std.proofs.Common.{◌≡◌, ℕ, ◌+◌, ◌≤◌, ◌<◌, Bool, true, ◌&&◌, List, [], ◌∷◌, ◌++◌, length, map, Option, Some, None, Ok, Err, is_ok, is_some, inl, inr, refl, sym, ap, ◌∙◌, arith, append_assoc}
use Rattle.std.specs.Prelude.{Result, ◌==◌, nat_lt, nat_le}
use Rattle.std.specs.List.{list_all}
use Rattle.std.proofs.lemmas.Bool.{and_parts, and_from, cases_Bool, true≢false, false≢true, eqb-true, ltb-false, le-leb, le-ltb, lt-ltb}
use Rattle.std.proofs.lemmas.List.{length-map}
use Rattle.ucon_base.specs.declared.value.Value.TheVariants.{Set}
use Rattle.ucon_base.specs.declared.members.Found.{Found}
use Rattle.ucon_base.specs.declared.value.Value.{Value}
use Rattle.ucon_base.specs.declared.value_fault.ValueFault.{ValueFault}
use Rattle.ucon_base.specs.declared.value_fault.ValueFault.TheVariants.{TooLong, TooMany}
use Rattle.ucon_base.specs.Members.{texts_seen, IsFound, EachIsText}
use Rattle.ucon_base.specs.Reading.{Member, Stage, rises, can_rise, inside, opened, behind, awaiting, closed, before, members, first_long, unless_long, set_of, set_read}
use Rattle.ucon_base.specs.Spelling.{more_texts, set_spelling}
use Rattle.ucon_base.specs.TextBytes.{is_text_byte}
use Rattle.ucon_base.specs.Value.{is_rising, is_set}
use Rattle.ucon_base.proofs.TextFront.{texty, clean}

abbrev pub texts : List Member → List (List ℕ)
texts ms = map (λ m. m.text) ms

-- each stands above the one before it
abbrev pub chain : Option (List ℕ) → List (List ℕ) → Bool
chain last [] = true
chain last (t ∷ ts) = rises last t && chain (Some t) ts

pub record Fine (last : Option (List ℕ)) (ts : List (List ℕ)) : Type 0 where
  pub rising : chain last ts ≡ true
  pub plain : list_all texty ts ≡ true

-- the bytes behind a text, with texts behind it
abbrev pub ending : List (List ℕ) → List ℕ
ending ts = more_texts ts ++ 125 ∷ []

-- what the bytes from a stage on and the members that they add have to do with each other
abbrev pub Read : Option (List ℕ) → Stage → List ℕ → List Member → Type 0
Read last opened bs ms = (123 ∷ bs ≡ set_spelling (texts ms)) × Fine last (texts ms)
Read last (inside q t) bs ms = texty t ≡ true → (44 ∷ 34 ∷ (t ++ bs) ≡ ending (texts ms)) × Fine last (texts ms)
Read last behind bs ms = (bs ≡ ending (texts ms)) × Fine last (texts ms)
Read last awaiting bs ms = (44 ∷ bs ≡ ending (texts ms)) × Fine last (texts ms)
Read last closed bs ms = (bs ≡ []) × (ms ≡ [])

abbrev got : Result (List Member) ValueFault → List Member
got (Ok ms) = ms
got (Err f) = []

refused : {A : Type 0} {f : ValueFault} {v : A} → Err f ≡ Ok v → ⊥
refused h = false≢true (ap is_ok h)

before_parts : (m : Member) (r : Result (List Member) ValueFault) (ms : List Member) → before m r ≡ Ok ms → (rest : List Member) × ((r ≡ Ok rest) × (ms ≡ m ∷ rest))
before_parts m (Ok rest) ms h = (rest, (refl, sym (ap got h)))
before_parts m (Err f) ms h = absurd (refused h)

abbrev tail : List ℕ → List ℕ
tail [] = []
tail (b ∷ bs) = bs

abbrev head : List ℕ → ℕ
head [] = 0
head (b ∷ bs) = b

as_set : (ts : List (List ℕ)) (bs : List ℕ) → 44 ∷ 34 ∷ bs ≡ ending ts → 123 ∷ 34 ∷ bs ≡ set_spelling ts
as_set [] bs h = let e : 44 ≡ 125 = ap head h in absurd (omega (arith, e))
as_set (t ∷ ts) bs h = ap (λ l. 123 ∷ tail l) h

texty_more : (t : List ℕ) (b : ℕ) → texty t ≡ true → is_text_byte b ≡ true → texty (t ++ b ∷ []) ≡ true
texty_more [] b h is = and_from (is_text_byte b) true is refl
texty_more (c ∷ t) b h is =
    let parts = and_parts (is_text_byte c) (texty t) h in
    and_from (is_text_byte c) (texty (t ++ b ∷ [])) parts.0 (texty_more t b parts.1 is)

pub regrouped : (t more : List ℕ) → t ++ 34 ∷ (more ++ 125 ∷ []) ≡ ((t ++ 34 ∷ []) ++ more) ++ 125 ∷ []
regrouped t more = sym (append_assoc (t ++ 34 ∷ []) more (125 ∷ []) ∙ append_assoc t (34 ∷ []) (more ++ 125 ∷ []))

-- a text behind the last, with those behind it
closed_text : (last : Option (List ℕ)) (t bs : List ℕ) (ts : List (List ℕ)) → texty t ≡ true → rises last t ≡ true → (bs ≡ ending ts) × Fine (Some t) ts
    → (44 ∷ 34 ∷ (t ++ 34 ∷ bs) ≡ ending (t ∷ ts)) × Fine last (t ∷ ts)
closed_text last t bs ts plain up h = (
  ap (λ l. 44 ∷ 34 ∷ (t ++ 34 ∷ l)) h.0 ∙ ap (λ l. 44 ∷ 34 ∷ l) (regrouped t (more_texts ts)),
  record { rising = and_from (rises last t) (chain (Some t) ts) up h.1.rising; plain = and_from (texty t) (list_all texty ts) plain h.1.plain },
)

at_end : (last : Option (List ℕ)) → Fine last []
at_end last = record { rising = refl; plain = refl }

pub sound : (last : Option (List ℕ)) (stage : Stage) (at : ℕ) (bs : List ℕ) (ms : List Member) → members last stage at bs ≡ Ok ms → Read last stage bs ms
sound last closed at [] ms h = (refl, sym (ap got h))
sound last opened at [] ms h = absurd (refused h)
sound last (inside q t) at [] ms h = absurd (refused h)
sound last behind at [] ms h = absurd (refused h)
sound last awaiting at [] ms h = absurd (refused h)
sound last closed at (b ∷ bs) ms h = absurd (refused h)
sound last opened at (b ∷ bs) ms h =
    elim (cases_Bool (b == 34)) [
      | inl is ↦
          let g : members last (inside at []) (at + 1) bs ≡ Ok ms = rw is at h in
          let r = sound last (inside at []) (at + 1) bs ms g refl in
          rw (eqb-true b 34 is) (as_set (texts ms) bs r.0, r.1)
      | inr isnt ↦
          elim (cases_Bool (b == 125)) [
            | inl ends ↦
                let g : members last closed (at + 1) bs ≡ Ok ms = rw (isnt, ends) at h in
                let r = sound last closed (at + 1) bs ms g in
                rw (eqb-true b 125 ends, r.0, r.1) (refl, at_end last)
            | inr other ↦ absurd (refused (rw (isnt, other) at h))
          ]
    ]
sound last (inside q t) at (b ∷ bs) ms h =
    elim (cases_Bool (is_text_byte b)) [
      | inl is ↦
          elim (cases_Bool (can_rise last (t ++ b ∷ []))) [
            | inl rising ↦ λ plain.
                let g : members last (inside q (t ++ b ∷ [])) (at + 1) bs ≡ Ok ms = rw (is, rising) at h in
                let r = sound last (inside q (t ++ b ∷ [])) (at + 1) bs ms g (texty_more t b plain is) in
                (ap (λ l. 44 ∷ 34 ∷ l) (sym (append_assoc t (b ∷ []) bs)) ∙ r.0, r.1)
            | inr stopped ↦ absurd (refused (rw (is, stopped) at h))
          ]
      | inr isnt ↦
          elim (cases_Bool (b == 34)) [
            | inl ends ↦
                elim (cases_Bool (rises last t)) [
                  | inl up ↦ λ plain.
                      let m : Member = record { at = q; text = t } in
                      let g : before m (members (Some t) behind (at + 1) bs) ≡ Ok ms = rw (isnt, ends, up) at h in
                      let parts = before_parts m (members (Some t) behind (at + 1) bs) ms g in
                      let r = sound (Some t) behind (at + 1) bs parts.0 parts.1.0 in
                      rw (eqb-true b 34 ends, parts.1.1) (closed_text last t bs (texts parts.0) plain up r)
                  | inr down ↦ absurd (refused (rw (isnt, ends, down) at h))
                ]
            | inr other ↦ absurd (refused (rw (isnt, other) at h))
          ]
    ]
sound last behind at (b ∷ bs) ms h =
    elim (cases_Bool (b == 44)) [
      | inl is ↦
          let g : members last awaiting (at + 1) bs ≡ Ok ms = rw is at h in
          rw (eqb-true b 44 is) (sound last awaiting (at + 1) bs ms g)
      | inr isnt ↦
          elim (cases_Bool (b == 125)) [
            | inl ends ↦
                let g : members last closed (at + 1) bs ≡ Ok ms = rw (isnt, ends) at h in
                let r = sound last closed (at + 1) bs ms g in
                rw (eqb-true b 125 ends, r.0, r.1) (refl, at_end last)
            | inr other ↦ absurd (refused (rw (isnt, other) at h))
          ]
    ]
sound last awaiting at (b ∷ bs) ms h =
    elim (cases_Bool (b == 34)) [
      | inl is ↦
          let g : members last (inside at []) (at + 1) bs ≡ Ok ms = rw is at h in
          rw (eqb-true b 34 is) (sound last (inside at []) (at + 1) bs ms g refl)
      | inr isnt ↦ absurd (refused (rw isnt at h))
    ]

above : (u : List ℕ) (ts : List (List ℕ)) → chain (Some u) ts ≡ true → is_rising (u ∷ ts) ≡ true
above u [] h = refl
above u (t ∷ ts) h =
    let parts = and_parts (rises (Some u) t) (chain (Some t) ts) h in
    and_from (rises (Some u) t) (is_rising (t ∷ ts)) parts.0 (above t ts parts.1)

pub rising_from_chain : (ts : List (List ℕ)) → chain None ts ≡ true → is_rising ts ≡ true
rising_from_chain [] h = refl
rising_from_chain (t ∷ ts) h = above t ts h

pub each_is_text : (ms : List Member) → first_long ms ≡ None → list_all texty (texts ms) ≡ true → EachIsText (texts ms)
each_is_text [] h plain = tt
each_is_text (m ∷ ms) h plain =
    let t : List ℕ = m.text in
    let parts = and_parts (texty t) (list_all texty (texts ms)) plain in
    elim (cases_Bool (nat_lt 64 (length t))) [
      | inl long ↦ absurd (true≢false (ap is_some (rw long at h)))
      | inr short ↦ (
        and_from _ _ (le-leb (length t) 64 (ltb-false 64 (length t) short)) (rw (clean t parts.0) refl),
        each_is_text ms (rw short at h) parts.1,
      )
    ]

abbrev set_texts : Value → List (List ℕ)
set_texts (Set ts) = ts
set_texts v = []

abbrev got_texts : Result Value ValueFault → List (List ℕ)
got_texts (Ok v) = set_texts v
got_texts (Err f) = []

kept : (long : Option ℕ) (ms : List Member) (ts : List (List ℕ)) → first_long ms ≡ long → Fine None (texts ms) → unless_long long ms ≡ Ok (Set ts)
    → (is_set ts ≡ true) × EachIsText ts
kept (Some p) ms ts is fine h = absurd (refused h)
kept None ms ts none fine h =
    elim (cases_Bool (nat_lt 64 (length ms))) [
      | inl many ↦ absurd (refused (rw many at h))
      | inr few ↦
          let same : texts ms ≡ ts = ap got_texts (rw few at h) in
          let short : length (texts ms) ≤ 64 = omega (arith, ltb-false 64 (length ms) few, length-map ms (λ (m : Member). m.text)) in
          rw (← same) (
            and_from (nat_le (length (texts ms)) 64) (is_rising (texts ms)) (le-leb (length (texts ms)) 64 short) (rising_from_chain (texts ms) fine.rising),
            each_is_text ms none fine.plain,
          )
    ]

kept_of : (said : Result (List Member) ValueFault) (ts : List (List ℕ)) → ((ms : List Member) → said ≡ Ok ms → Fine None (texts ms)) → set_of said ≡ Ok (Set ts)
    → (is_set ts ≡ true) × EachIsText ts
kept_of (Ok ms) ts fine h = kept (first_long ms) ms ts refl (fine ms refl) h
kept_of (Err f) ts fine h = absurd (refused h)

-- a set that was read keeps its limits
pub set_holds : (bs : List ℕ) (ts : List (List ℕ)) → set_read bs ≡ Ok (Set ts) → (is_set ts ≡ true) × EachIsText ts
set_holds bs ts h = kept_of (members None opened 1 bs) ts (λ ms is. (sound None opened 1 bs ms is).1) h

-- ---- what is told of what was found

pub told_long : (said : Result (List Member) ValueFault) (found : Found) (at : ℕ) → IsFound said found → found.long ≡ Some at → set_of said ≡ Err (TooLong at)
told_long (Ok ms) found at h is = let long : first_long ms ≡ Some at = sym h.long ∙ is in rw long refl
told_long (Err f) found at h is = absurd h

pub told_many : (said : Result (List Member) ValueFault) (found : Found) → IsFound said found → found.long ≡ None → 64 < found.count → set_of said ≡ Err (TooMany found.count)
told_many (Ok ms) found h none many =
    let long : first_long ms ≡ None = sym h.long ∙ none in
    rw (long, lt-ltb 64 (length ms) (omega (arith, many, h.count))) (ap (λ n. Err (TooMany n)) (sym h.count))
told_many (Err f) found h none many = absurd h

pub told_found : (said : Result (List Member) ValueFault) (found : Found) → IsFound said found → found.long ≡ None → found.count ≤ 64 → set_of said ≡ Ok (Set (texts_seen found))
told_found (Ok ms) found h none few =
    let long : first_long ms ≡ None = sym h.long ∙ none in
    let short : length ms ≤ 64 = omega (arith, few, h.count) in
    rw (long, le-ltb 64 (length ms) short) (ap (λ ts. Ok (Set ts)) (sym (h.texts short)))
told_found (Err f) found h none few = absurd h
