-- Texts of a set that rise one behind the other, and the bytes that end them.
use Rattle.std.proofs.Common.{◌≡◌, ℕ, Bool, true, List, [], ◌∷◌, ◌++◌, Option, Some, None, inl, inr, refl, sym, ◌∙◌, append_assoc}
use Rattle.std.specs.Prelude.{◌&&◌, ◌==◌, nat_lt}
use Rattle.std.specs.List.{list_all}
use Rattle.std.proofs.lemmas.Bool.{and_parts, and_from, or_right, cases_Bool, false≢true}
use Rattle.ucon_base.specs.Reading.{rises, can_rise}
use Rattle.ucon_base.specs.Spelling.{more_texts}
use Rattle.ucon_base.specs.Value.{is_rising}
use Rattle.ucon_base.specs.Spellings.{is_plain}

-- ---- whole texts

-- each stands above the one before it
abbrev pub chain : Option (List ℕ) → List (List ℕ) → Bool
chain last [] = true
chain last (t ∷ ts) = rises last t && chain (Some t) ts

-- texts that may stand behind the last
pub record Fine (last : Option (List ℕ)) (ts : List (List ℕ)) : Type 0 where
  pub rising : chain last ts ≡ true
  pub plain : list_all is_plain ts ≡ true

above : (u : List ℕ) (ts : List (List ℕ)) → chain (Some u) ts ≡ true → is_rising (u ∷ ts) ≡ true
above u [] h = refl
above u (t ∷ ts) h =
    let parts = and_parts (rises (Some u) t) (chain (Some t) ts) h in
    and_from (rises (Some u) t) (is_rising (t ∷ ts)) parts.0 (above t ts parts.1)

pub rising_from_chain : (ts : List (List ℕ)) → chain None ts ≡ true → is_rising ts ≡ true
rising_from_chain [] h = refl
rising_from_chain (t ∷ ts) h = above t ts h

chain_above : (u : List ℕ) (ts : List (List ℕ)) → is_rising (u ∷ ts) ≡ true → chain (Some u) ts ≡ true
chain_above u [] h = refl
chain_above u (t ∷ ts) h =
    let parts = and_parts (rises (Some u) t) (is_rising (t ∷ ts)) h in
    and_from (rises (Some u) t) (chain (Some t) ts) parts.0 (chain_above t ts parts.1)

pub chain_from_rising : (ts : List (List ℕ)) → is_rising ts ≡ true → chain None ts ≡ true
chain_from_rising [] h = refl
chain_from_rising (t ∷ ts) h = chain_above t ts h

-- ---- texts that are open

pub can_rise_first : (last : Option (List ℕ)) → can_rise last [] ≡ true
can_rise_first None = refl
can_rise_first (Some []) = refl
can_rise_first (Some (a ∷ u)) = or_right (rises (Some (a ∷ u)) []) true refl

front_rises : (u t w : List ℕ) → rises (Some u) (t ++ w) ≡ true → can_rise (Some u) t ≡ true
front_rises u [] w h = can_rise_first (Some u)
front_rises [] (c ∷ t) w h = refl
front_rises (a ∷ u) (c ∷ t) w h =
    elim (cases_Bool (nat_lt a c)) [
      | inl lower ↦ rw lower refl
      | inr not_lower ↦
          elim (cases_Bool (a == c)) [
            | inl same ↦ rw (not_lower, same) (front_rises u t w (rw (not_lower, same) at h))
            | inr apart ↦ absurd (false≢true (rw (not_lower, apart) at h))
          ]
    ]

-- the front of a text that rises can rise
pub can_rise_front : (last : Option (List ℕ)) (t w : List ℕ) → rises last (t ++ w) ≡ true → can_rise last t ≡ true
can_rise_front None t w h = refl
can_rise_front (Some u) t w h = front_rises u t w h

-- ---- bytes

-- the bytes behind a text, with texts behind it
abbrev pub ending : List (List ℕ) → List ℕ
ending ts = more_texts ts ++ 125 ∷ []

pub regrouped : (t more : List ℕ) → t ++ 34 ∷ (more ++ 125 ∷ []) ≡ ((t ++ 34 ∷ []) ++ more) ++ 125 ∷ []
regrouped t more = sym (append_assoc (t ++ 34 ∷ []) more (125 ∷ []) ∙ append_assoc t (34 ∷ []) (more ++ 125 ∷ []))
