-- A row's line that is refused is refused whatever follows.
use Rattle.std.proofs.Common.{◌≡◌, ℕ, ◌+◌, ◌-◌, Bool, true, false, cond, List, [], ◌∷◌, ◌++◌, length, Some, None, Ok, Err, is_ok, refl, sym, ap, ◌∙◌, subst, inl, inr, arith, append_assoc, length-append}
use Rattle.std.specs.Prelude.{◌⊎◌, Option, Result, ok_or, is_none, ◌==◌, ◌&&◌}
use Rattle.std.specs.List.{flat_map}
use Rattle.std.proofs.lemmas.Bool.{false≢true}
use Rattle.ucon_base.specs.Elements.{Each, each_parts}
use Rattle.ucon_model.specs.Output.{Lacks}
use Rattle.ucon_model.specs.Payload.{◌>>=◌}
use Rattle.ucon_model.specs.Plain.{Bytes, PlainPolicy}
use Rattle.ucon_point.specs.declared.row.Row.{Row}
use Rattle.ucon_point.specs.Order.{awaited}
use Rattle.ucon_point.specs.Standing.{Standing, put}
use Rattle.ucon_point.specs.PointRead.{before, lines_of, row_at, rows_at, rows_from, with_byte}
use Rattle.ucon_point.specs.RowText.{row_read}
use Rattle.ucon_point.specs.Cutting.{cut_at-append}
use Rattle.ucon_point.proofs.LineWalk.{lines_of-some}
use Rattle.ucon_point.proofs.PointsRead.{line_first}
use Rattle.ucon_point.proofs.PointsSpelled.{joined, joined_lines}
use Rattle.ucon_point.proofs.Refusals.{IsSafe, IsStopped, pair, same_err, same_place}

-- ---- lines

abbrev Lines : Type 0
Lines = List Bytes × Bytes

with_byte_lacks : (b : ℕ) (l : Lines) → (b == 10) ≡ false → Each (Lacks 10) l.0 → Each (Lacks 10) (with_byte b l).0
with_byte_lacks b ([], last) other h = tt
with_byte_lacks b (w ∷ ws, last) other h = ((other, h.0), h.1)

lines_lack_more : (b : ℕ) (bs : Bytes) (newline : Bool) → (b == 10) ≡ newline → Each (Lacks 10) (lines_of bs).0
    → Each (Lacks 10) (cond {A = Lines} newline ([] ∷ (lines_of bs).0, (lines_of bs).1) (with_byte b (lines_of bs))).0
lines_lack_more b bs true is h = (tt, h)
lines_lack_more b bs false is h = with_byte_lacks b (lines_of bs) is h

lines_lack : (bs : Bytes) → Each (Lacks 10) (lines_of bs).0
lines_lack [] = tt
lines_lack (b ∷ bs) = lines_lack_more b bs (b == 10) refl (lines_lack bs)

-- these lines, each with its newline
abbrev text_of : List Bytes → Bytes
text_of ws = flat_map (λ w. w ++ 10 ∷ []) ws

lines_again : (ws : List Bytes) (tail : Bytes) → Each (Lacks 10) ws → lines_of (text_of ws ++ tail) ≡ (ws ++ (lines_of tail).0, (lines_of tail).1)
lines_again [] tail h = refl
lines_again (w ∷ ws) tail h =
    let rest : Bytes = text_of ws ++ tail in
    ap lines_of (append_assoc (w ++ 10 ∷ []) (text_of ws) tail ∙ line_first w rest)
    ∙ lines_of-some (w ++ 10 ∷ rest) w rest (cut_at-append 10 w rest h.0)
    ∙ ap (λ (l : Lines). (w ∷ l.0, l.1)) (lines_again ws tail h.1)

text_parts : (fs : List Bytes) (w : Bytes) (ws : List Bytes) (last : Bytes) → text_of (fs ++ w ∷ ws) ++ last ≡ text_of fs ++ ((w ++ 10 ∷ []) ++ (text_of ws ++ last))
text_parts [] w ws last = append_assoc (w ++ 10 ∷ []) (text_of ws) last
text_parts (f ∷ fs) w ws last =
    append_assoc (f ++ 10 ∷ []) (text_of (fs ++ w ∷ ws)) last ∙ ap (λ (r : Bytes). (f ++ 10 ∷ []) ++ r) (text_parts fs w ws last)
    ∙ sym (append_assoc (f ++ 10 ∷ []) (text_of fs) ((w ++ 10 ∷ []) ++ (text_of ws ++ last)))

-- ---- rows

row_same : (o : Option Row) (Q : PlainPolicy) (r : Standing) (m n : ℕ) (p : Row × Standing)
    → (ok_or o m >>= (λ row. ok_or (put Q r row) m >>= (λ next. Ok (pair row next)))) ≡ Ok p → (ok_or o n >>= (λ row. ok_or (put Q r row) n >>= (λ next. Ok (pair row next)))) ≡ Ok p
row_same None Q r m n p h = absurd (false≢true (ap is_ok h))
row_same (Some row) Q r m n p h = next (put Q r row) h
  where
    next : (o : Option Standing) → (ok_or o m >>= (λ next. Ok (pair row next))) ≡ Ok p → (ok_or o n >>= (λ next. Ok (pair row next))) ≡ Ok p
    next None k = absurd (false≢true (ap is_ok k))
    next (Some x) k = k

row_bad : (o : Option Row) (Q : PlainPolicy) (r : Standing) (m n place : ℕ) → (ok_or o m >>= (λ row. ok_or (put Q r row) m >>= (λ next. Ok (pair row next)))) ≡ Err place
    → (m ≡ place) × ((ok_or o n >>= (λ row. ok_or (put Q r row) n >>= (λ next. Ok (pair row next)))) ≡ Err n)
row_bad None Q r m n place h = (same_err {A = Row × Standing} m place h, refl)
row_bad (Some row) Q r m n place h = next (put Q r row) h
  where
    next : (o : Option Standing) → (ok_or o m >>= (λ next. Ok (pair row next))) ≡ Err place → (m ≡ place) × ((ok_or o n >>= (λ next. Ok (pair row next))) ≡ Err n)
    next None k = (same_err {A = Row × Standing} m place k, refl)
    next (Some x) k = absurd (same_place (row, x) place k)

row_at_same : (m n : ℕ) (Q : PlainPolicy) (r : Standing) (w : Bytes) (p : Row × Standing) → row_at m Q r w ≡ Ok p → row_at n Q r w ≡ Ok p
unfolding row_at
row_at_same m n Q r w p h = row_same (row_read w) Q r m n p h

row_at_bad : (m n : ℕ) (Q : PlainPolicy) (r : Standing) (w : Bytes) (place : ℕ) → row_at m Q r w ≡ Err place → (m ≡ place) × (row_at n Q r w ≡ Err n)
unfolding row_at
row_at_bad m n Q r w place h = row_bad (row_read w) Q r m n place h

-- a line among lines that is refused, whatever follows
record AreStopped (at : ℕ) (Q : PlainPolicy) (r : Standing) (lines : List Bytes) (place : ℕ) : Type 0 where
  front : List Bytes
  line : Bytes
  rest : List Bytes
  is : lines ≡ front ++ line ∷ rest
  begins : place ≡ at + length (text_of front)
  again : (m : ℕ) (last : Bytes) (more : List Bytes) → is_ok (rows_at m Q r last (front ++ line ∷ more)) ≡ false

before_err : (row : Row) (r : Result (List Row) ℕ) (place : ℕ) → before row r ≡ Err place → r ≡ Err place
before_err row (Ok rows) place h = absurd (same_place (row ∷ rows) place h)
before_err row (Err e) place h = ap (λ (n : ℕ). Err n) (same_err {A = List Row} e place h)

before_bad : (row : Row) (r : Result (List Row) ℕ) → is_ok r ≡ false → is_ok (before row r) ≡ false
before_bad row (Ok rows) h = absurd (false≢true (sym h))
before_bad row (Err e) h = refl

end_bad : (b : Bool) (n place : ℕ) → cond {A = Result (List Row) ℕ} b (Ok []) (Err n) ≡ Err place → place ≡ n
end_bad true n place h = absurd (same_place [] place h)
end_bad false n place h = sym (same_err {A = List Row} n place h)

module _ (Q : PlainPolicy) (last : Bytes) where
  rows_more : (at : ℕ) (r : Standing) (w : Bytes) (ws : List Bytes) (place : ℕ) (o : Result (Row × Standing) ℕ) → row_at at Q r w ≡ o
      → ((next : Standing) → rows_at (at + length w + 1) Q next last ws ≡ Err place → AreStopped (at + length w + 1) Q next ws place ⊎ (place ≡ at + length w + 1 + length (text_of ws ++ last)))
      → (o >>= (λ p. before p.0 (rows_at (at + length w + 1) Q p.1 last ws))) ≡ Err place → AreStopped at Q r (w ∷ ws) place ⊎ (place ≡ at + length (text_of (w ∷ ws) ++ last))
  rows_more at r w ws place (Err e) is rest h =
      let err : row_at at Q r w ≡ Err place = is ∙ ap (λ (n : ℕ). Err n) (same_err {A = List Row} e place h) in
      let here = row_at_bad at at Q r w place err in
      inl (record {
        front = [];
        line = w;
        rest = ws;
        is = refl;
        begins = omega (arith, here.0);
        again = λ m l more. ap (λ x. is_ok (x >>= (λ p. before p.0 (rows_at (m + length w + 1) Q p.1 l more)))) (row_at_bad at m Q r w place err).1;
      })
  rows_more at r w ws place (Ok p) is rest h = behind (rest p.1 (before_err p.0 (rows_at (at + length w + 1) Q p.1 last ws) place h))
    where
      behind : AreStopped (at + length w + 1) Q p.1 ws place ⊎ (place ≡ at + length w + 1 + length (text_of ws ++ last))
          → AreStopped at Q r (w ∷ ws) place ⊎ (place ≡ at + length (text_of (w ∷ ws) ++ last))
      behind (inr end) =
          inr (omega (arith, end, ap length (append_assoc (w ++ 10 ∷ []) (text_of ws) last), length-append (w ++ 10 ∷ []) (text_of ws ++ last), length-append w (10 ∷ [])))
      behind (inl s) =
          inl (record {
            front = w ∷ s.front;
            line = s.line;
            rest = s.rest;
            is = ap (λ (l : List Bytes). w ∷ l) s.is;
            begins = omega (arith, s.begins, length-append (w ++ 10 ∷ []) (text_of s.front), length-append w (10 ∷ []));
            again = λ m l more.
                ap (λ x. is_ok (x >>= (λ q. before q.0 (rows_at (m + length w + 1) Q q.1 l (s.front ++ s.line ∷ more))))) (row_at_same at m Q r w p is)
                ∙ before_bad p.0 (rows_at (m + length w + 1) Q p.1 l (s.front ++ s.line ∷ more)) (s.again (m + length w + 1) l more);
          })

  rows_bad : (at : ℕ) (r : Standing) (lines : List Bytes) (place : ℕ) → rows_at at Q r last lines ≡ Err place
      → AreStopped at Q r lines place ⊎ (place ≡ at + length (text_of lines ++ last))
  rows_bad at r [] place h = inr (end_bad (length last == 0 && is_none (awaited Q r.reached)) (at + length last) place h)
  rows_bad at r (w ∷ ws) place h = rows_more at r w ws place (row_at at Q r w) refl (λ next. rows_bad (at + length w + 1) next ws place) h

pub rows_safe : (Q : PlainPolicy) (r : Standing) → IsSafe (λ total bytes. rows_from total Q r bytes)
rows_safe Q r total bytes le place h = told (rows_bad Q (lines_of bytes).1 (total - length bytes) r (lines_of bytes).0 place h)
  where
    told : AreStopped (total - length bytes) Q r (lines_of bytes).0 place ⊎ (place ≡ total - length bytes + length (text_of (lines_of bytes).0 ++ (lines_of bytes).1))
        → IsStopped (λ total bytes. rows_from total Q r bytes) total bytes place ⊎ (place ≡ total)
    told (inr end) = let all : length (joined (lines_of bytes)) ≡ length bytes = ap length (joined_lines bytes) in inr (omega (arith, end, all, le))
    told (inl s) =
        let lack : Each (Lacks 10) (s.front ++ s.line ∷ s.rest) = subst (Each (Lacks 10)) s.is (lines_lack bytes) in
        let both = each_parts (Lacks 10) s.front (s.line ∷ s.rest) lack in
        inl (record {
          front = text_of s.front;
          line = s.line ++ 10 ∷ [];
          rest = text_of s.rest ++ (lines_of bytes).1;
          is = sym (text_parts s.front s.line s.rest (lines_of bytes).1) ∙ ap (λ (ls : List Bytes). text_of ls ++ (lines_of bytes).1) (sym s.is) ∙ joined_lines bytes;
          begins = s.begins;
          one = inl (record { word = s.line; one_line = both.1.0; is = refl });
          again = λ whole tail.
              let bs : Bytes = text_of s.front ++ ((s.line ++ 10 ∷ []) ++ tail) in
              let ls : lines_of bs ≡ (s.front ++ s.line ∷ (lines_of tail).0, (lines_of tail).1) =
              lines_again s.front ((s.line ++ 10 ∷ []) ++ tail) both.0
              ∙ ap (λ (l : Lines). (s.front ++ l.0, l.1)) (ap lines_of (line_first s.line tail) ∙ lines_of-some (s.line ++ 10 ∷ tail) s.line tail (cut_at-append 10 s.line tail both.1.0)) in
              ap (λ (l : Lines). is_ok (rows_at (whole - length bs) Q r l.1 l.0)) ls ∙ s.again (whole - length bs) (lines_of tail).1 (lines_of tail).0;
        })
