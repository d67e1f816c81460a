-- The text of a checkpoint is read as the checkpoint.
use Rattle.std.proofs.Common.{◌≡◌, ℕ, ◌+◌, ◌<◌, ◌≤◌, ◌^◌, true, List, [], ◌∷◌, ◌++◌, length, map, Some, None, Ok, refl, ap, ◌∙◌, inl, inr, arith, append_assoc, length-append}
use Rattle.std.specs.Prelude.{ℤ, Option, IsSomeAnd, codes, nat_lt}
use Rattle.std.specs.Fmt.{decimal, signed_decimal}
use Rattle.std.specs.List.{flat_map}
use Rattle.std.specs.Str.{bytes_eq}
use Rattle.std.proofs.lemmas.Bool.{le-ltb, lt-leb, ltb-false, cases_Bool}
use Rattle.std.proofs.lemmas.Slice.Eq.{bytes_eq-Decides}
use Rattle.std.proofs.Math.Seq.{take-append_seam, drop-append_seam}
use Rattle.ucon_base.specs.declared.value.Value.TheVariants.{Int}
use Rattle.ucon_base.specs.Elements.{Each}
use Rattle.ucon_model.specs.Output.{Lacks}
use Rattle.ucon_model.specs.Plain.{Bytes, PlainPolicy}
use Rattle.ucon_syntax.specs.Policies.{accepted, reading_of}
use Rattle.ucon_point.specs.declared.row.Row.{Row}
use Rattle.ucon_point.specs.Cutting.{cut_at-append}
use Rattle.ucon_point.specs.Order.{awaited}
use Rattle.ucon_point.specs.Standing.{Standing, start, put, put_all}
use Rattle.ucon_point.specs.PointRead.{Said, IsPoint, point_spelling, row_line, counted, tick_read, is_whole, line_at, policy_told, text_at, policy_at, lines_of, row_at, rows_at, rows_from, point_behind, point_read}
use Rattle.ucon_point.specs.PointText.{entries_line, policy_lines, tick_line}
use Rattle.ucon_point.specs.RowText.{row_spelling, IsRow, IsSpelled}
use Rattle.ucon_point.proofs.LineWalk.{lines_of-some}
use Rattle.ucon_point.proofs.LowerLaws.{RowsAreRead, TextsLack}
use Rattle.ucon_point.proofs.Results.{and_then_is, nothing, same}

-- ---- lines

pub line_back : {A : Type 0} (reads : Bytes → Option A) (total : ℕ) (w rest : Bytes) (x : A) → reads w ≡ Some x → Lacks 10 w → line_at reads total (w ++ 10 ∷ rest) ≡ Ok (x, rest)
unfolding line_at
line_back reads total w rest x is lacks = rw (cut_at-append 10 w rest lacks, is) refl

-- a line and then the rest
pub line_first : (w rest : Bytes) → (w ++ 10 ∷ []) ++ rest ≡ w ++ 10 ∷ rest
line_first w rest = append_assoc w (10 ∷ []) rest

pub bytes_same : (bs : Bytes) → bytes_eq bs bs ≡ true
bytes_same bs = (bytes_eq-Decides bs bs).1 refl

tick_back : (t : ℤ) → IsSpelled (Int t) → is_whole t ≡ true → tick_read (codes "tick" ++ 32 ∷ signed_decimal t) ≡ Some t
tick_back t spelled whole = rw (spelled, whole) refl

pub some_and : {A : Type 0} (o : Option A) (P : A → Type 0) → IsSomeAnd o P → (x : A) × ((o ≡ Some x) × P x)
some_and None P h = absurd h
some_and (Some x) P h = (x, (refl, h))

-- a text that is accepted has at most 65,536 bytes
accepted_short : (text : Bytes) (Q : PlainPolicy) → accepted text ≡ Some Q → length text ≤ 65536
unfolding reading_of
accepted_short text Q h =
    elim (cases_Bool (nat_lt 65536 (length text))) [
      | inl long ↦ absurd (nothing (rw long at h))
      | inr short ↦ ltb-false 65536 (length text) short
    ]

policy_told_back : (place : ℕ) (text rest : Bytes) (Q : PlainPolicy) → accepted text ≡ Some Q → policy_told place text (10 ∷ rest) ≡ Ok ((text, Q), rest)
unfolding policy_told
policy_told_back place text rest Q is = rw is refl

pub text_back : (total place : ℕ) (text rest : Bytes) (Q : PlainPolicy) → accepted text ≡ Some Q → text_at total place (length text) (text ++ 10 ∷ rest) ≡ Ok ((text, Q), rest)
unfolding text_at
text_back total place text rest Q is =
    let longer : length text < length (text ++ 10 ∷ rest) = omega (arith, length-append text (10 ∷ rest)) in
    rw (le-ltb 65536 (length text) (accepted_short text Q is), lt-leb (length (text ++ 10 ∷ rest)) (length text) longer, take-append_seam text (10 ∷ rest), drop-append_seam text (10 ∷ rest)) (policy_told_back place text rest Q is)

module _ (lack : TextsLack) (read : RowsAreRead) where
  counted_back : (word : Bytes) (n : ℕ) → Lacks 32 word → n < 2 ^ 64 → counted word (word ++ 32 ∷ decimal n) ≡ Some n
  counted_back word n lacks lt = rw (cut_at-append 32 word (decimal n) lacks, bytes_same word, read.counts n lt) refl

  spaced : (a b : Bytes) → Lacks 10 a → Lacks 10 b → Lacks 10 (a ++ 32 ∷ b)
  spaced a b h k = lack.joined 10 a (32 ∷ b) h (refl, k)

  number_one_line : (n : ℕ) → n < 2 ^ 64 → Lacks 10 (decimal n)
  number_one_line n lt = lack.numbers 10 n (omega arith) lt

  -- ---- rows

  pub lines_back : (rows : List Row) → Each IsRow rows → lines_of (flat_map row_line rows) ≡ (map row_spelling rows, [])
  lines_back [] h = refl
  lines_back (row ∷ rows) h =
      let rest : Bytes = flat_map row_line rows in
      ap lines_of (line_first (row_spelling row) rest)
      ∙ lines_of-some (row_spelling row ++ 10 ∷ rest) (row_spelling row) rest (cut_at-append 10 (row_spelling row) rest (read.lines row h.0))
      ∙ ap (λ (l : List Bytes × Bytes). (row_spelling row ∷ l.0, l.1)) (lines_back rows h.1)

  row_at_back : (place : ℕ) (Q : PlainPolicy) (r next : Standing) (row : Row) → IsRow row → put Q r row ≡ Some next → row_at place Q r (row_spelling row) ≡ Ok (row, next)
  unfolding row_at
  row_at_back place Q r next row h is = rw (read.rows row h, is) refl

  pub rows_back : (place : ℕ) (Q : PlainPolicy) (r end : Standing) (rows : List Row) → Each IsRow rows → put_all Q r rows ≡ Some end → awaited Q end.reached ≡ None
      → rows_at place Q r [] (map row_spelling rows) ≡ Ok rows
  rows_back place Q r end [] h order none =
      let here : awaited Q r.reached ≡ None = ap (λ (s : Standing). awaited Q s.reached) (same r end order) ∙ none in
      rw here refl
  rows_back place Q r end (row ∷ rows) h order none =
      let k = and_then_is (put Q r row) (λ next. put_all Q next rows) end order in
      let next : Standing = k.0 in
      let is : put Q r row ≡ Some next = k.1.0 in
      rw (row_at_back place Q r next row h.0 is, rows_back (place + length (row_spelling row) + 1) Q next end rows h.1 k.1.1 none) refl

  rows_from_back : (total : ℕ) (Q : PlainPolicy) (r end : Standing) (rows : List Row) → Each IsRow rows → put_all Q r rows ≡ Some end → awaited Q end.reached ≡ None
      → rows_from total Q r (flat_map row_line rows) ≡ Ok rows
  rows_from_back total Q r end rows h order none =
      rw (lines_back rows h) (rows_back _ Q r end rows h order none)

  -- ---- policies

  policy_back : (total : ℕ) (text rest : Bytes) (Q : PlainPolicy) → accepted text ≡ Some Q → policy_at total (policy_lines text ++ rest) ≡ Ok ((text, Q), rest)
  unfolding policy_at
  policy_back total text rest Q is =
      let w : Bytes = codes "policy" ++ 32 ∷ decimal (length text) in
      let fits : length text < 2 ^ 64 = omega (arith, accepted_short text Q is) in
      let shape : policy_lines text ++ rest ≡ w ++ 10 ∷ (text ++ 10 ∷ rest) =
      append_assoc (w ++ 10 ∷ []) (text ++ 10 ∷ []) rest ∙ line_first w ((text ++ 10 ∷ []) ++ rest) ∙ ap (λ (r : Bytes). w ++ 10 ∷ r) (line_first text rest) in
      rw (
        shape,
        line_back (counted (codes "policy")) total w (text ++ 10 ∷ rest) (length text) (counted_back (codes "policy") (length text) (lack.tested 32 (codes "policy") refl) fits)
            (spaced (codes "policy") (decimal (length text)) (lack.tested 10 (codes "policy") refl) (number_one_line (length text) fits)),
      ) (text_back total _ text rest Q is)

  -- ---- checkpoints

  entries_back : (total n : ℕ) (rest : Bytes) → n < 2 ^ 64 → line_at (counted (codes "point")) total (entries_line n ++ rest) ≡ Ok (n, rest)
  entries_back total n rest lt =
      let w : Bytes = codes "point" ++ 32 ∷ decimal n in
      ap (line_at (counted (codes "point")) total) (line_first w rest)
      ∙ line_back (counted (codes "point")) total w rest n (counted_back (codes "point") n (lack.tested 32 (codes "point") refl) lt)
      (spaced (codes "point") (decimal n) (lack.tested 10 (codes "point") refl) (number_one_line n lt))

  ticks_back : (total : ℕ) (t : ℤ) (rest : Bytes) → IsSpelled (Int t) → is_whole t ≡ true → line_at tick_read total (tick_line t ++ rest) ≡ Ok (t, rest)
  ticks_back total t rest spelled whole =
      let w : Bytes = codes "tick" ++ 32 ∷ signed_decimal t in
      ap (line_at tick_read total) (line_first w rest)
      ∙ line_back tick_read total w rest t (tick_back t spelled whole) (spaced (codes "tick") (signed_decimal t) (lack.tested 10 (codes "tick") refl) (read.integers t spelled))

  pub point_back : (p : Said) → IsPoint p → point_read (point_spelling p) ≡ Ok p
  unfolding point_read point_behind
  point_back p h =
      let total : ℕ = length (point_spelling p) in
      let rows : Bytes = flat_map row_line p.rows in
      let order = some_and (put_all p.policy (start p.policy p.tick) p.rows) (λ s. awaited p.policy s.reached ≡ None) h.order in
      rw (
        entries_back total p.entries (policy_lines p.text ++ (tick_line p.tick ++ rows)) h.entries,
        policy_back total p.text (tick_line p.tick ++ rows) p.policy h.policy,
        ticks_back total p.tick rows h.tick h.from_zero,
        rows_from_back total p.policy (start p.policy p.tick) order.0 p.rows h.rows order.1.0 order.1.1,
      ) refl
