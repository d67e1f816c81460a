-- What is refused is refused by the bytes up to the end of one line, whatever follows.
use Rattle.std.proofs.Common.{◌≡◌, ℕ, ◌+◌, ◌-◌, ◌≤◌, false, [], ◌∷◌, ◌++◌, length, Some, None, Ok, Err, is_ok, refl, sym, ap, ◌∙◌, inl, inr, arith, append_assoc, length-append}
use Rattle.std.specs.Prelude.{◌⊎◌, Option, Result, ok_or, unwrap_or}
use Rattle.std.specs.Result.{result_err}
use Rattle.std.proofs.lemmas.Bool.{false≢true}
use Rattle.ucon_model.specs.Output.{Lacks, cut_at}
use Rattle.ucon_model.specs.Payload.{◌>>=◌}
use Rattle.ucon_model.specs.Plain.{Bytes}
use Rattle.ucon_point.specs.Faults.{IsPlainLine, IsPolicyLine}
use Rattle.ucon_point.specs.PointRead.{line_at}
use Rattle.ucon_point.specs.Cutting.{cut_at-append, cut_is, cut_lacks}
use Rattle.ucon_point.proofs.PointsRead.{line_back, line_first}
use Rattle.ucon_point.proofs.PointsSpelled.{bind_is, said_is, done}

abbrev pub pair : {A B : Type 0} → A → B → A × B
pair x y = (x, y)

-- ---- readers that go from line to line

-- one line as a place names it
abbrev pub IsOneLine : Bytes → Type 0
IsOneLine line = IsPlainLine line ⊎ IsPolicyLine line

-- a reader of the last bytes of so many
abbrev pub Reads : Type 0 → Type 0
Reads A = ℕ → Bytes → Result A ℕ

-- it read a front, and reads it so whatever follows
pub record IsAhead {A : Type 0} (f : Reads (A × Bytes)) (bytes : Bytes) (p : A × Bytes) : Type 0 where
  pub front : Bytes
  pub is : front ++ p.1 ≡ bytes
  pub again : (total : ℕ) (tail : Bytes) → f total (front ++ tail) ≡ Ok (p.0, tail)

-- it refused a line, and refuses it so whatever follows
pub record IsStopped {A : Type 0} (f : Reads A) (total : ℕ) (bytes : Bytes) (place : ℕ) : Type 0 where
  pub front : Bytes
  pub line : Bytes
  pub rest : Bytes
  pub is : front ++ (line ++ rest) ≡ bytes
  pub begins : place ≡ total - length bytes + length front
  pub one : IsOneLine line
  pub again : (whole : ℕ) (tail : Bytes) → is_ok (f whole (front ++ (line ++ tail))) ≡ false

abbrev pub IsSafe : {A : Type 0} → Reads A → Type 0
IsSafe {A} f = (total : ℕ) (bytes : Bytes) → length bytes ≤ total → (place : ℕ) → f total bytes ≡ Err place → IsStopped f total bytes place ⊎ (place ≡ total)

abbrev pub IsLocal : {A : Type 0} → Reads (A × Bytes) → Type 0
IsLocal {A} f = (total : ℕ) (bytes : Bytes) (p : A × Bytes) → f total bytes ≡ Ok p → IsAhead f bytes p

not_ok : {A : Type 0} (r : Result A ℕ) (place : ℕ) → r ≡ Err place → is_ok r ≡ false
not_ok r place h = ap is_ok h

pub same_err : {A : Type 0} (m n : ℕ) → ◌≡◌ {A = Result A ℕ} (Err m) (Err n) → m ≡ n
same_err m n h = ap (λ r. unwrap_or (result_err r) m) h

pub same_place : {A : Type 0} (x : A) (n : ℕ) → ◌≡◌ {A = Result A ℕ} (Ok x) (Err n) → ⊥
same_place x n h = false≢true (sym (ap is_ok h))

-- one after another
module _ {A B : Type 0} (f : Reads (A × Bytes)) (g : A → Reads B) (f_local : IsLocal f) (f_safe : IsSafe f) (g_safe : (x : A) → IsSafe (g x)) where
  abbrev both : Reads B
  both total bytes = f total bytes >>= (λ p. g p.0 total p.1)

  both_first : (total : ℕ) (bytes : Bytes) (place : ℕ) → IsStopped f total bytes place ⊎ (place ≡ total) → IsStopped both total bytes place ⊎ (place ≡ total)
  both_first total bytes place (inr end) = inr end
  both_first total bytes place (inl s) =
      inl (record { front = s.front; line = s.line; rest = s.rest; is = s.is; begins = s.begins; one = s.one; again = λ whole tail. bad (f whole (s.front ++ (s.line ++ tail))) whole (s.again whole tail) })
    where
      bad : (r : Result (A × Bytes) ℕ) (whole : ℕ) → is_ok r ≡ false → is_ok (r >>= (λ p. g p.0 whole p.1)) ≡ false
      bad (Ok p) whole h = absurd (false≢true (sym h))
      bad (Err place) whole h = refl

  both_second : (total : ℕ) (bytes : Bytes) (place : ℕ) (p : A × Bytes) → length bytes ≤ total → IsAhead f bytes p
      → IsStopped (g p.0) total p.1 place ⊎ (place ≡ total) → IsStopped both total bytes place ⊎ (place ≡ total)
  both_second total bytes place p le a (inr end) = inr end
  both_second total bytes place p le a (inl s) =
      let long : length bytes ≡ length a.front + length p.1 = ap length (sym a.is) ∙ length-append a.front p.1 in
      inl (record {
        front = a.front ++ s.front;
        line = s.line;
        rest = s.rest;
        is = append_assoc a.front s.front (s.line ++ s.rest) ∙ ap (λ (r : Bytes). a.front ++ r) s.is ∙ a.is;
        begins = omega (arith, s.begins, long, le, length-append a.front s.front);
        one = s.one;
        again = λ whole tail.
            ap is_ok (ap (both whole) (append_assoc a.front s.front (s.line ++ tail)) ∙ ap (λ r. r >>= (λ q. g q.0 whole q.1)) (a.again whole (s.front ++ (s.line ++ tail)))) ∙ s.again whole tail;
      })

  both_from : (total : ℕ) (bytes : Bytes) (place : ℕ) (r : Result (A × Bytes) ℕ) → length bytes ≤ total → f total bytes ≡ r → (r >>= (λ p. g p.0 total p.1)) ≡ Err place
      → IsStopped both total bytes place ⊎ (place ≡ total)
  both_from total bytes place (Err e) le is h = both_first total bytes place (f_safe total bytes le place (is ∙ ap (λ (n : ℕ). Err n) (same_err {A = B} e place h)))
  both_from total bytes place (Ok p) le is h =
      let a = f_local total bytes p is in
      let long : length bytes ≡ length a.front + length p.1 = ap length (sym a.is) ∙ length-append a.front p.1 in
      both_second total bytes place p le a (g_safe p.0 total p.1 (omega (arith, le, long)) place h)

  pub both_safe : IsSafe both
  both_safe total bytes le place h = both_from total bytes place (f total bytes) le refl h

-- ---- lines

module _ {A : Type 0} (reads : Bytes → Option A) where
  pub line_is : (total : ℕ) (bytes : Bytes) (p : A × Bytes) → line_at reads total bytes ≡ Ok p → (w : Bytes) × ((reads w ≡ Some p.0) × ((w ++ 10 ∷ p.1 ≡ bytes) × Lacks 10 w))
  unfolding line_at
  line_is total bytes p h =
      let cut = bind_is (ok_or (cut_at 10 bytes) total) _ p h in
      let x = bind_is (ok_or (reads cut.0.0) (total - length bytes)) _ p cut.1.1 in
      let is : (x.0, cut.0.1) ≡ p = done _ p x.1.1 in
      let here : cut_at 10 bytes ≡ Some cut.0 = said_is (cut_at 10 bytes) total cut.0 cut.1.0 in (
        cut.0.0,
        (
          said_is (reads cut.0.0) (total - length bytes) x.0 x.1.0 ∙ ap (λ q. Some q.0) is,
          (ap (λ q. cut.0.0 ++ 10 ∷ q.1) (sym is) ∙ cut_is 10 bytes cut.0 here, cut_lacks 10 bytes cut.0 here),
        ),
      )

  pub line_local : IsLocal (line_at reads)
  line_local total bytes p h =
      let k = line_is total bytes p h in
      record {
        front = k.0 ++ 10 ∷ [];
        is = line_first k.0 p.1 ∙ k.1.1.0;
        again = λ whole tail. ap (line_at reads whole) (line_first k.0 tail) ∙ line_back reads whole k.0 tail p.0 k.1.0 k.1.1.1;
      }

  line_none : (whole : ℕ) (w tail : Bytes) → Lacks 10 w → reads w ≡ None → is_ok (line_at reads whole (w ++ 10 ∷ tail)) ≡ false
  unfolding line_at
  line_none whole w tail lacks none = rw (cut_at-append 10 w tail lacks, none) refl

  line_unread : (total : ℕ) (bytes : Bytes) (place : ℕ) (p : Bytes × Bytes) (o : Option A) → cut_at 10 bytes ≡ Some p → reads p.0 ≡ o
      → (ok_or o (total - length bytes) >>= (λ x. Ok (pair x p.1))) ≡ Err place → IsStopped (line_at reads) total bytes place ⊎ (place ≡ total)
  line_unread total bytes place p (Some x) cut is h = absurd (same_place (x, p.1) place h)
  line_unread total bytes place p None cut is h =
      let lacks = cut_lacks 10 bytes p cut in
      inl (record {
        front = [];
        line = p.0 ++ 10 ∷ [];
        rest = p.1;
        is = line_first p.0 p.1 ∙ cut_is 10 bytes p cut;
        begins = let here : total - length bytes ≡ place = same_err {A = A × Bytes} (total - length bytes) place h in omega (arith, here);
        one = inl (record { word = p.0; one_line = lacks; is = refl });
        again = λ whole tail. ap (λ (r : Bytes). is_ok (line_at reads whole r)) (line_first p.0 tail) ∙ line_none whole p.0 tail lacks is;
      })

  line_uncut : (total : ℕ) (bytes : Bytes) (place : ℕ) (o : Option (Bytes × Bytes)) → cut_at 10 bytes ≡ o
      → (ok_or o total >>= (λ p. ok_or (reads p.0) (total - length bytes) >>= (λ x. Ok (pair x p.1)))) ≡ Err place → IsStopped (line_at reads) total bytes place ⊎ (place ≡ total)
  line_uncut total bytes place None cut h = inr (sym (same_err {A = A × Bytes} total place h))
  line_uncut total bytes place (Some p) cut h = line_unread total bytes place p (reads p.0) cut refl h

  pub line_safe : IsSafe (line_at reads)
  unfolding line_at
  line_safe total bytes le place h = line_uncut total bytes place (cut_at 10 bytes) refl h
