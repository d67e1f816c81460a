-- The lines of a policy that are refused are refused whatever follows.
use Rattle.std.proofs.Common.{◌≡◌, ℕ, ◌-◌, ◌<◌, ◌≤◌, Bool, true, false, cond, [], ◌∷◌, ◌++◌, length, take, drop, Some, None, Ok, Err, is_ok, refl, sym, ap, ◌∙◌, inl, inr, arith, append_assoc, length-append, length-drop}
use Rattle.std.specs.Prelude.{◌⊎◌, Option, Result, ok_or, codes, nat_le, nat_lt, ◌==◌}
use Rattle.std.proofs.lemmas.Bool.{lt-leb, le-ltb, leb-false, ltb-false, cases_Bool, false≢true}
use Rattle.std.proofs.lemmas.List.{length-take-le, take-append-drop}
use Rattle.std.proofs.Math.Seq.{take-append_seam, drop-append_seam}
use Rattle.ucon_model.specs.Output.{Lacks}
use Rattle.ucon_model.specs.Payload.{◌>>=◌}
use Rattle.ucon_model.specs.Plain.{Bytes, PlainPolicy}
use Rattle.ucon_syntax.specs.Policies.{accepted}
use Rattle.ucon_point.specs.PointRead.{counted, line_at, policy_told, text_at, policy_at}
use Rattle.ucon_point.proofs.PointsRead.{line_back, line_first, text_back}
use Rattle.ucon_point.proofs.PointsSpelled.{bind_is, text_at_is}
use Rattle.ucon_point.proofs.Refusals.{IsLocal, IsSafe, IsStopped, line_is, line_safe, pair, same_err, same_place}

abbrev word : Bytes
word = codes "policy"

-- what is read of a policy's line
abbrev Line : Bytes → ℕ → Bytes → Bytes → Type 0
Line bytes n w rest = (counted word w ≡ Some n) × ((w ++ 10 ∷ rest ≡ bytes) × Lacks 10 w)

-- a line that is read, and then what follows
policy_line : (whole : ℕ) (w rest : Bytes) (n : ℕ) → counted word w ≡ Some n → Lacks 10 w
    → (place : ℕ) × (policy_at whole (w ++ 10 ∷ rest) ≡ text_at whole place n rest)
unfolding policy_at
policy_line whole w rest n is lacks = (whole - length (w ++ 10 ∷ rest), rw (line_back (counted word) whole w rest n is lacks) refl)

pub policy_local : IsLocal policy_at
unfolding policy_at
policy_local total bytes p h =
    let first = bind_is (line_at (counted word) total bytes) _ p h in
    let n : ℕ = first.0.0 in
    let k = line_is (counted word) total bytes first.0 first.1.0 in
    let t = text_at_is total (total - length bytes) n first.0.1 p first.1.1 in
    let text : Bytes = p.0.0 in
    let shape : (tail : Bytes) → ((k.0 ++ 10 ∷ []) ++ (text ++ 10 ∷ [])) ++ tail ≡ k.0 ++ 10 ∷ (text ++ 10 ∷ tail) =
    λ tail. append_assoc (k.0 ++ 10 ∷ []) (text ++ 10 ∷ []) tail ∙ line_first k.0 ((text ++ 10 ∷ []) ++ tail) ∙ ap (λ (r : Bytes). k.0 ++ 10 ∷ r) (line_first text tail) in
    record {
      front = (k.0 ++ 10 ∷ []) ++ (text ++ 10 ∷ []);
      is = shape p.1 ∙ ap (λ (r : Bytes). k.0 ++ 10 ∷ r) t.2 ∙ k.1.1.0;
      again = λ whole tail.
          let l = policy_line whole k.0 (text ++ 10 ∷ tail) n k.1.0 k.1.1.1 in
          ap (policy_at whole) (shape tail) ∙ l.1 ∙ ap (λ (m : ℕ). text_at whole l.0 m (text ++ 10 ∷ tail)) (sym t.0) ∙ text_back whole l.0 text tail p.0.1 t.1;
    }

-- ---- what is refused

told_same : (b : Bool) (o : Option PlainPolicy) (m n : ℕ) (text r s : Bytes)
    → is_ok (ok_or (cond b (Some r) None) m >>= (λ rest. ok_or o m >>= (λ Q. Ok (pair (pair text Q) rest)))) ≡ is_ok (ok_or (cond b (Some s) None) n >>= (λ rest. ok_or o n >>= (λ Q. Ok (pair (pair text Q) rest))))
told_same true (Some Q) m n text r s = refl
told_same true None m n text r s = refl
told_same false o m n text r s = refl

-- whether a text is taken doesn't depend on what is behind the byte behind it
told_again : (m n : ℕ) (text r s : Bytes) (b : ℕ) → is_ok (policy_told m text (b ∷ r)) ≡ is_ok (policy_told n text (b ∷ s))
unfolding policy_told
told_again m n text r s b = told_same (b == 10) (accepted text) m n text r s

told_at : (b : Bool) (o : Option PlainPolicy) (m place : ℕ) (text r : Bytes) → (ok_or (cond b (Some r) None) m >>= (λ rest. ok_or o m >>= (λ Q. Ok (pair (pair text Q) rest)))) ≡ Err place → m ≡ place
told_at true (Some Q) m place text r h = absurd (same_place ((text, Q), r) place h)
told_at true None m place text r h = same_err {A = (Bytes × PlainPolicy) × Bytes} m place h
told_at false o m place text r h = same_err {A = (Bytes × PlainPolicy) × Bytes} m place h

told_place : (m place : ℕ) (text r : Bytes) (b : ℕ) → policy_told m text (b ∷ r) ≡ Err place → m ≡ place
unfolding policy_told
told_place m place text r b h = told_at (b == 10) (accepted text) m place text r h

text_split : (whole place n : ℕ) (text rest : Bytes) (b : ℕ) → length text ≡ n → n ≤ 65536 → text_at whole place n (text ++ b ∷ rest) ≡ policy_told place text (b ∷ rest)
unfolding text_at
text_split whole place n text rest b is few =
    let longer : n < length (text ++ b ∷ rest) = omega (arith, is, length-append text (b ∷ rest)) in
    let front : take n (text ++ b ∷ rest) ≡ text = ap (λ (m : ℕ). take m (text ++ b ∷ rest)) (sym is) ∙ take-append_seam text (b ∷ rest) in
    let behind : drop n (text ++ b ∷ rest) ≡ b ∷ rest = ap (λ (m : ℕ). drop m (text ++ b ∷ rest)) (sym is) ∙ drop-append_seam text (b ∷ rest) in
    rw (le-ltb 65536 n few, lt-leb (length (text ++ b ∷ rest)) n longer, front, behind) refl

text_long : (whole place n : ℕ) (rest : Bytes) → nat_lt 65536 n ≡ true → is_ok (text_at whole place n rest) ≡ false
unfolding text_at
text_long whole place n rest long = rw long refl

module _ (total : ℕ) (bytes : Bytes) (place : ℕ) where
  abbrev Outcome : Type 0
  Outcome = IsStopped policy_at total bytes place ⊎ (place ≡ total)

  -- a number too large for a text
  stopped_long : (w rest : Bytes) (n : ℕ) → Line bytes n w rest → nat_lt 65536 n ≡ true → total - length bytes ≡ place → Outcome
  stopped_long w rest n l long here =
      inl (record {
        front = [];
        line = w ++ 10 ∷ [];
        rest = rest;
        is = line_first w rest ∙ l.1.0;
        begins = omega (arith, here);
        one = inl (record { word = w; one_line = l.1.1; is = refl });
        again = λ whole tail.
            let k = policy_line whole w tail n l.0 l.1.1 in
            ap (λ (r : Bytes). is_ok (policy_at whole r)) (line_first w tail) ∙ ap is_ok k.1 ∙ text_long whole k.0 n tail long;
      })

  -- a text that is none
  stopped_told : (w rest behind : Bytes) (n : ℕ) → Line bytes n w rest → n ≤ 65536 → n < length rest → drop n rest ≡ behind
      → policy_told (total - length bytes) (take n rest) behind ≡ Err place → Outcome
  stopped_told w rest [] n l few enough is h =
      let none : length (drop n rest) ≡ 0 = ap length is in
      absurd (omega (arith, none, enough, length-drop n rest))
  stopped_told w rest (b ∷ more) n l few enough is h =
      let text : Bytes = take n rest in
      let long : length text ≡ n = length-take-le n rest (omega (arith, enough)) in
      let parts : text ++ b ∷ more ≡ rest = ap (λ (r : Bytes). text ++ r) (sym is) ∙ take-append-drop n rest in
      let shape : (tail : Bytes) → (w ++ 10 ∷ (text ++ b ∷ [])) ++ tail ≡ w ++ 10 ∷ (text ++ b ∷ tail) =
      λ tail. append_assoc w (10 ∷ (text ++ b ∷ [])) tail ∙ ap (λ (r : Bytes). w ++ 10 ∷ r) (append_assoc text (b ∷ []) tail) in
      inl (record {
        front = [];
        line = w ++ 10 ∷ (text ++ b ∷ []);
        rest = more;
        is = shape more ∙ ap (λ (r : Bytes). w ++ 10 ∷ r) parts ∙ l.1.0;
        begins = let here : total - length bytes ≡ place = told_place (total - length bytes) place text more b h in omega (arith, here);
        one = inr (record { word = w; number = n; text = text ++ b ∷ []; one_line = l.1.1; told = l.0; long = omega (arith, long, length-append text (b ∷ [])); is = refl });
        again = λ whole tail.
            let k = policy_line whole w (text ++ b ∷ tail) n l.0 l.1.1 in
            ap (λ (r : Bytes). is_ok (policy_at whole r)) (shape tail) ∙ ap is_ok (k.1 ∙ text_split whole k.0 n text tail b long few)
            ∙ told_again k.0 (total - length bytes) text tail more b ∙ ap is_ok h;
      })

  stopped_text : (w rest : Bytes) (n : ℕ) → Line bytes n w rest → text_at total (total - length bytes) n rest ≡ Err place → Outcome
  unfolding text_at
  stopped_text w rest n l h =
      elim (cases_Bool (nat_lt 65536 n)) [
        | inl long ↦ stopped_long w rest n l long (same_err {A = (Bytes × PlainPolicy) × Bytes} (total - length bytes) place (rw long at h))
        | inr few ↦
            let behind : cond (nat_le (length rest) n) (Err total) (policy_told (total - length bytes) (take n rest) (drop n rest)) ≡ Err place = rw few at h in
            elim (cases_Bool (nat_le (length rest) n)) [
              | inl short ↦ inr (sym (same_err {A = (Bytes × PlainPolicy) × Bytes} total place (rw short at behind)))
              | inr enough ↦
                  let told : policy_told (total - length bytes) (take n rest) (drop n rest) ≡ Err place = rw enough at behind in
                  stopped_told w rest (drop n rest) n l (ltb-false 65536 n few) (leb-false (length rest) n enough) refl told
            ]
      ]

  stopped_line : IsStopped (line_at (counted word)) total bytes place ⊎ (place ≡ total) → Outcome
  unfolding policy_at
  stopped_line (inr end) = inr end
  stopped_line (inl s) =
      inl (record { front = s.front; line = s.line; rest = s.rest; is = s.is; begins = s.begins; one = s.one; again = λ whole tail. bad whole (s.front ++ (s.line ++ tail)) (line_at (counted word) whole (s.front ++ (s.line ++ tail))) (s.again whole tail) })
    where
      bad : (whole : ℕ) (bs : Bytes) (r : Result (ℕ × Bytes) ℕ) → is_ok r ≡ false → is_ok (r >>= (λ n. text_at whole (whole - length bs) n.0 n.1)) ≡ false
      bad whole bs (Ok p) h = absurd (false≢true (sym h))
      bad whole bs (Err e) h = refl

  stopped_from : length bytes ≤ total → (r : Result (ℕ × Bytes) ℕ) → line_at (counted word) total bytes ≡ r → (r >>= (λ n. text_at total (total - length bytes) n.0 n.1)) ≡ Err place → Outcome
  stopped_from le (Err e) is h = stopped_line (line_safe (counted word) total bytes le place (is ∙ ap (λ (n : ℕ). Err n) (same_err {A = (Bytes × PlainPolicy) × Bytes} e place h)))
  stopped_from le (Ok p) is h =
      let k = line_is (counted word) total bytes p is in
      stopped_text k.0 p.1 p.0 (k.1.0, (k.1.1.0, k.1.1.1)) h

pub policy_safe : IsSafe policy_at
unfolding policy_at
policy_safe total bytes le place h = stopped_from total bytes place le (line_at (counted word) total bytes) refl h
