-- Bytes that all pass a test, by the place of the first that doesn't.
use Rattle.std.proofs.Common.{◌≡◌, ℕ, suc, ◌+◌, ◌≤◌, Bool, true, not, List, [], ◌∷◌, length, Option, Some, None, is_some, is_none, inl, inr, refl, arith, ap}
use Rattle.std.specs.Prelude.{nat_lt, position}
use Rattle.std.specs.List.{list_all, prefix_len}
use Rattle.std.proofs.lemmas.Bool.{and_parts, and_from, cases_Bool, le-ltb, ltb-false, true≢false, false≢true}

passing_len : (p : ℕ → Bool) (t : List ℕ) → list_all p t ≡ true → prefix_len (λ b. not (not (p b))) t ≡ length t
passing_len p [] h = refl
passing_len p (b ∷ bs) h = let parts = and_parts (p b) (list_all p bs) h in rw parts.0 (omega (arith, passing_len p bs parts.1))

pub position_none : (p : ℕ → Bool) (t : List ℕ) → list_all p t ≡ true → position (λ b. not (p b)) t ≡ None
position_none p t h = rw (passing_len p t h, le-ltb (length t) (length t) (omega arith)) refl

passing_from : (p : ℕ → Bool) (t : List ℕ) → length t ≤ prefix_len (λ b. not (not (p b))) t → list_all p t ≡ true
passing_from p [] h = refl
passing_from p (b ∷ bs) h =
    elim (cases_Bool (p b)) [
      | inl is ↦
          let more : suc (length bs) ≤ 1 + prefix_len (λ c. not (not (p c))) bs = rw is at h in
          and_from (p b) (list_all p bs) is (passing_from p bs (omega (arith, more)))
      | inr isnt ↦ let none : suc (length bs) ≤ 0 = rw isnt at h in absurd (omega (arith, none))
    ]

pub all_pass : (p : ℕ → Bool) (t : List ℕ) → position (λ b. not (p b)) t ≡ None → list_all p t ≡ true
all_pass p t none =
    let n : ℕ = prefix_len (λ b. not (not (p b))) t in
    elim (cases_Bool (nat_lt n (length t))) [
      | inl before ↦ absurd (true≢false (ap is_some (rw before at none)))
      | inr behind ↦ passing_from p t (ltb-false n (length t) behind)
    ]

pub none_from : {A : Type 0} (o : Option A) → is_none o ≡ true → o ≡ None
none_from None h = refl
none_from (Some x) h = absurd (false≢true h)
