-- Bytes that are read as a checkpoint are its text.
use Rattle.std.proofs.Common.{◌≡◌, ℕ, ◌+◌, ◌-◌, ◌<◌, ◌^◌, Bool, true, false, cond, List, [], ◌∷◌, ◌++◌, length, take, drop, map, Some, None, Ok, Err, is_ok, refl, sym, ap, ◌∙◌, subst, inl, inr, arith, append_assoc, append-nil}
use Rattle.std.specs.Prelude.{ℤ, Option, Result, IsSomeAnd, option_and_then, ok_or, unwrap_or, codes, nat_le, nat_lt, is_none, ◌==◌, ◌&&◌}
use Rattle.std.specs.Fmt.{decimal, signed_decimal}
use Rattle.std.specs.List.{flat_map}
use Rattle.std.specs.Result.{result_ok}
use Rattle.std.specs.Str.{bytes_eq}
use Rattle.std.proofs.lemmas.Bool.{and_parts, leb-false, cases_Bool, eqb-true, false≢true}
use Rattle.std.proofs.lemmas.List.{length-take-le, take-append-drop}
use Rattle.std.proofs.lemmas.Slice.Eq.{bytes_eq-Decides}
use Rattle.ucon_base.specs.declared.value.Value.TheVariants.{Int}
use Rattle.ucon_base.specs.Elements.{Each}
use Rattle.ucon_model.specs.CommandLine.{integer_in}
use Rattle.ucon_model.specs.Output.{cut_at}
use Rattle.ucon_model.specs.Payload.{◌>>=◌}
use Rattle.ucon_model.specs.Plain.{Bytes, PlainPolicy}
use Rattle.ucon_syntax.specs.Policies.{accepted}
use Rattle.ucon_point.specs.declared.row.Row.{Row}
use Rattle.ucon_point.specs.Cutting.{cut_is}
use Rattle.ucon_point.specs.Lines.{line}
use Rattle.ucon_point.specs.Numbers.{count_read}
use Rattle.ucon_point.specs.Order.{awaited}
use Rattle.ucon_point.specs.Standing.{Standing, start, put, put_all}
use Rattle.ucon_point.specs.PointRead.{Said, IsPoint, point_spelling, row_line, behind_if, behind, counted, from_zero, is_whole, tick_read, line_at, behind_newline, policy_told, text_at, policy_at, with_byte, lines_of, before, row_at, rows_at, rows_from, point_behind, point_read}
use Rattle.ucon_point.specs.PointText.{entries_line, policy_lines, tick_line}
use Rattle.ucon_point.specs.RowText.{row_spelling, row_read, IsRow, IsSpelled}
use Rattle.ucon_point.proofs.LowerLaws.{RowsAreSpelled}
use Rattle.ucon_point.proofs.PointsRead.{line_first}
use Rattle.ucon_point.proofs.Results.{and_then_is, kept, nothing}

-- ---- what is made of what

pub refused : {A : Type 0} {place : ℕ} {x : A} → Err place ≡ Ok x → ⊥
refused h = false≢true (ap is_ok h)

pub bind_is : {A B : Type 0} (r : Result A ℕ) (f : A → Result B ℕ) (y : B) → (r >>= f) ≡ Ok y → (x : A) × ((r ≡ Ok x) × (f x ≡ Ok y))
bind_is (Ok x) f y h = (x, (refl, h))
bind_is (Err place) f y h = absurd (refused h)

pub said_is : {A : Type 0} (o : Option A) (place : ℕ) (x : A) → ok_or o place ≡ Ok x → o ≡ Some x
said_is None place x h = absurd (refused h)
said_is (Some y) place x h = ap result_ok h

pub done : {A : Type 0} (x y : A) → ◌≡◌ {A = Result A ℕ} (Ok x) (Ok y) → x ≡ y
done x y h = ap (λ o. unwrap_or o x) (ap result_ok h)

-- ---- lines

line_at_is : {A : Type 0} (reads : Bytes → Option A) (total : ℕ) (bytes : Bytes) (p : A × Bytes) → line_at reads total bytes ≡ Ok p
    → (w : Bytes) × ((reads w ≡ Some p.0) × (w ++ 10 ∷ p.1 ≡ bytes))
unfolding line_at
line_at_is reads total bytes p h =
    let cut = bind_is (ok_or (cut_at 10 bytes) total) _ p h in
    let x = bind_is (ok_or (reads cut.0.0) (total - length bytes)) _ p cut.1.1 in
    let is : (x.0, cut.0.1) ≡ p = done _ p x.1.1 in (
      cut.0.0,
      (
        said_is (reads cut.0.0) (total - length bytes) x.0 x.1.0 ∙ ap (λ q. Some q.0) is,
        ap (λ q. cut.0.0 ++ 10 ∷ q.1) (sym is) ∙ cut_is 10 bytes cut.0 (said_is (cut_at 10 bytes) total cut.0 cut.1.0),
      ),
    )

behind_is : (word line rest : Bytes) → behind word line ≡ Some rest → word ++ 32 ∷ rest ≡ line
behind_is word line rest h =
    let cut = and_then_is (cut_at 32 line) (behind_if word) rest h in
    let is = kept (bytes_eq cut.0.0 word) cut.0.1 rest cut.1.1 in
    ap (λ w. w ++ 32 ∷ rest) (sym ((bytes_eq-Decides cut.0.0 word).0 is.0)) ∙ ap (λ r. cut.0.0 ++ 32 ∷ r) (sym is.1) ∙ cut_is 32 line cut.0 cut.1.0

counted_is : RowsAreSpelled → (word line : Bytes) (n : ℕ) → counted word line ≡ Some n → (word ++ 32 ∷ decimal n ≡ line) × (n < 2 ^ 64)
counted_is spelled word line n h =
    let rest = and_then_is (behind word line) count_read n h in
    let is = spelled.counts rest.0 n rest.1.1 in
    (ap (λ r. word ++ 32 ∷ r) is.0 ∙ behind_is word line rest.0 rest.1.0, is.1)

-- ---- policies

newline_is : (bytes rest : Bytes) → behind_newline bytes ≡ Some rest → 10 ∷ rest ≡ bytes
newline_is [] rest h = absurd (nothing h)
newline_is (b ∷ bs) rest h =
    let k = kept (b == 10) bs rest h in
    ap (λ (c : ℕ). c ∷ rest) (sym (eqb-true b 10 k.0)) ∙ ap (λ (r : Bytes). b ∷ r) (sym k.1)

policy_told_is : (place : ℕ) (text bytes : Bytes) (p : (Bytes × PlainPolicy) × Bytes) → policy_told place text bytes ≡ Ok p
    → (p.0.0 ≡ text) × (accepted p.0.0 ≡ Some p.0.1) × (10 ∷ p.1 ≡ bytes)
unfolding policy_told
policy_told_is place text bytes p h =
    let rest = bind_is (ok_or (behind_newline bytes) place) _ p h in
    let Q = bind_is (ok_or (accepted text) place) _ p rest.1.1 in
    let is : ((text, Q.0), rest.0) ≡ p = done _ p Q.1.1 in
    let P : (Bytes × PlainPolicy) × Bytes → Type 0 = λ q. (q.0.0 ≡ text) × (accepted q.0.0 ≡ Some q.0.1) × (10 ∷ q.1 ≡ bytes) in
    subst P is (refl, said_is (accepted text) place Q.0 Q.1.0, newline_is bytes rest.0 (said_is (behind_newline bytes) place rest.0 rest.1.0))

pub text_at_is : (total place n : ℕ) (bytes : Bytes) (p : (Bytes × PlainPolicy) × Bytes) → text_at total place n bytes ≡ Ok p
    → (length p.0.0 ≡ n) × (accepted p.0.0 ≡ Some p.0.1) × (p.0.0 ++ 10 ∷ p.1 ≡ bytes)
unfolding text_at
text_at_is total place n bytes p h =
    elim (cases_Bool (nat_lt 65536 n)) [
      | inl long ↦ absurd (refused (rw long at h))
      | inr few ↦
          let behind : cond (nat_le (length bytes) n) (Err total) (policy_told place (take n bytes) (drop n bytes)) ≡ Ok p = rw few at h in
          elim (cases_Bool (nat_le (length bytes) n)) [
            | inl short ↦ absurd (refused (rw short at behind))
            | inr enough ↦
                let longer : n < length bytes = leb-false (length bytes) n enough in
                let told : policy_told place (take n bytes) (drop n bytes) ≡ Ok p = rw enough at behind in
                let is = policy_told_is place (take n bytes) (drop n bytes) p told in (
                  ap length is.0 ∙ length-take-le n bytes (omega (arith, longer)),
                  is.1,
                  ap (λ (t : Bytes). t ++ 10 ∷ p.1) is.0 ∙ ap (λ (r : Bytes). take n bytes ++ r) is.2 ∙ take-append-drop n bytes,
                )
          ]
    ]

policy_at_is : RowsAreSpelled → (total : ℕ) (bytes : Bytes) (p : (Bytes × PlainPolicy) × Bytes) → policy_at total bytes ≡ Ok p → (policy_lines p.0.0 ++ p.1 ≡ bytes) × (accepted p.0.0 ≡ Some p.0.1)
unfolding policy_at
policy_at_is spelled total bytes p h =
    let first = bind_is (line_at (counted (codes "policy")) total bytes) _ p h in
    let n : ℕ = first.0.0 in
    let line_is = line_at_is (counted (codes "policy")) total bytes first.0 first.1.0 in
    let told = counted_is spelled (codes "policy") line_is.0 n line_is.1.0 in
    let is = text_at_is total (total - length bytes) n first.0.1 p first.1.1 in
    let w : Bytes = codes "policy" ++ 32 ∷ decimal (length p.0.0) in (
      append_assoc (w ++ 10 ∷ []) (p.0.0 ++ 10 ∷ []) p.1 ∙ line_first w ((p.0.0 ++ 10 ∷ []) ++ p.1) ∙ ap (λ (r : Bytes). w ++ 10 ∷ r) (line_first p.0.0 p.1 ∙ is.2)
          ∙ ap (λ (m : ℕ). (codes "policy" ++ 32 ∷ decimal m) ++ 10 ∷ first.0.1) is.0
          ∙ ap (λ (u : Bytes). u ++ 10 ∷ first.0.1) told.0 ∙ line_is.1.1,
      is.1,
    )

-- ---- rows

-- what stands behind lines, each with its newline
abbrev pub joined : List Bytes × Bytes → Bytes
joined l = flat_map (λ w. w ++ 10 ∷ []) l.0 ++ l.1

joined_byte : (b : ℕ) (l : List Bytes × Bytes) → joined (with_byte b l) ≡ b ∷ joined l
joined_byte b ([], last) = refl
joined_byte b (w ∷ ws, last) = refl

joined_more : (b : ℕ) (bs : Bytes) (newline : Bool) → (b == 10) ≡ newline → joined (lines_of bs) ≡ bs
    → joined (cond {A = List Bytes × Bytes} newline ([] ∷ (lines_of bs).0, (lines_of bs).1) (with_byte b (lines_of bs))) ≡ b ∷ bs
joined_more b bs true is h = ap (λ (r : Bytes). 10 ∷ r) h ∙ ap (λ (c : ℕ). c ∷ bs) (sym (eqb-true b 10 is))
joined_more b bs false is h = joined_byte b (lines_of bs) ∙ ap (λ (r : Bytes). b ∷ r) h

pub joined_lines : (bs : Bytes) → joined (lines_of bs) ≡ bs
joined_lines [] = refl
joined_lines (b ∷ bs) = joined_more b bs (b == 10) refl (joined_lines bs)

before_is : (row : Row) (r : Result (List Row) ℕ) (rows : List Row) → before row r ≡ Ok rows → (rest : List Row) × ((r ≡ Ok rest) × (row ∷ rest ≡ rows))
before_is row (Ok rest) rows h = (rest, (refl, done _ rows h))
before_is row (Err place) rows h = absurd (refused h)

pub none_is : {A : Type 0} (o : Option A) → is_none o ≡ true → o ≡ None
none_is None h = refl
none_is (Some x) h = absurd (false≢true h)

ended : (b : Bool) (n : ℕ) (rows : List Row) → cond {A = Result (List Row) ℕ} b (Ok []) (Err n) ≡ Ok rows → (b ≡ true) × ([] ≡ rows)
ended true n rows h = (refl, done [] rows h)
ended false n rows h = absurd (refused h)

nothing_left : (bs : Bytes) → (length bs == 0) ≡ true → bs ≡ []
nothing_left [] h = refl
nothing_left (b ∷ bs) h = let none : length (b ∷ bs) ≡ 0 = eqb-true (length (b ∷ bs)) 0 h in absurd (omega (arith, none))

-- what the rows and the lines that they were read from have to do with each other
pub record AreRead (Q : PlainPolicy) (r : Standing) (last : Bytes) (lines : List Bytes) (rows : List Row) : Type 0 where
  pub none_left : last ≡ []
  pub spelled : map row_spelling rows ≡ lines
  pub in_form : Each IsRow rows
  pub end : Standing
  pub order : put_all Q r rows ≡ Some end
  pub complete : awaited Q end.reached ≡ None

module _ (spelled : RowsAreSpelled) where
  row_at_is : (place : ℕ) (Q : PlainPolicy) (r : Standing) (w : Bytes) (p : Row × Standing) → row_at place Q r w ≡ Ok p → (row_spelling p.0 ≡ w) × IsRow p.0 × (put Q r p.0 ≡ Some p.1)
  unfolding row_at
  row_at_is place Q r w p h =
      let row = bind_is (ok_or (row_read w) place) _ p h in
      let next = bind_is (ok_or (put Q r row.0) place) _ p row.1.1 in
      let is : (row.0, next.0) ≡ p = done _ p next.1.1 in
      let told = spelled.rows w row.0 (said_is (row_read w) place row.0 row.1.0) in
      let P : Row × Standing → Type 0 = λ q. (row_spelling q.0 ≡ w) × IsRow q.0 × (put Q r q.0 ≡ Some q.1) in
      subst P is (told.0, told.1, said_is (put Q r row.0) place next.0 next.1.0)

  rows_at_is : (place : ℕ) (Q : PlainPolicy) (r : Standing) (last : Bytes) (lines : List Bytes) (rows : List Row) → rows_at place Q r last lines ≡ Ok rows → AreRead Q r last lines rows
  rows_at_is place Q r last [] rows h =
      let k = ended (length last == 0 && is_none (awaited Q r.reached)) (place + length last) rows h in
      let parts = and_parts (length last == 0) (is_none (awaited Q r.reached)) k.0 in
      subst (AreRead Q r last []) k.1 (record {
        none_left = nothing_left last parts.0;
        spelled = refl;
        in_form = tt;
        end = r;
        order = refl;
        complete = none_is (awaited Q r.reached) parts.1;
      })
  rows_at_is place Q r last (w ∷ ws) rows h =
      let first = bind_is (row_at place Q r w) _ rows h in
      let row : Row = first.0.0 in
      let next : Standing = first.0.1 in
      let one = row_at_is place Q r w first.0 first.1.0 in
      let more = before_is row (rows_at (place + length w + 1) Q next last ws) rows first.1.1 in
      let rest = rows_at_is (place + length w + 1) Q next last ws more.0 more.1.0 in
      subst (AreRead Q r last (w ∷ ws)) more.1.1 (record {
        none_left = rest.none_left;
        spelled = ap (λ (u : Bytes). u ∷ map row_spelling more.0) one.0 ∙ ap (λ (us : List Bytes). w ∷ us) rest.spelled;
        in_form = (one.1, rest.in_form);
        end = rest.end;
        order = ap (λ o. option_and_then (λ n. put_all Q n more.0) o) one.2 ∙ rest.order;
        complete = rest.complete;
      })

  spelled_lines : (rows : List Row) → flat_map row_line rows ≡ flat_map (λ w. w ++ 10 ∷ []) (map row_spelling rows)
  spelled_lines [] = refl
  spelled_lines (row ∷ rows) = ap (λ (r : Bytes). row_line row ++ r) (spelled_lines rows)

  and_some : {A : Type 0} (o : Option A) (P : A → Type 0) (x : A) → o ≡ Some x → P x → IsSomeAnd o P
  and_some o P x is h = subst (λ q. IsSomeAnd q P) (sym is) h

  rows_from_is : (total : ℕ) (Q : PlainPolicy) (r : Standing) (bytes : Bytes) (rows : List Row) → rows_from total Q r bytes ≡ Ok rows
      → (flat_map row_line rows ≡ bytes) × Each IsRow rows × IsSomeAnd (put_all Q r rows) (λ s. awaited Q s.reached ≡ None)
  rows_from_is total Q r bytes rows h =
      let is = rows_at_is (total - length bytes) Q r (lines_of bytes).1 (lines_of bytes).0 rows h in
      let text : Bytes = flat_map (λ w. w ++ 10 ∷ []) (lines_of bytes).0 in (
        spelled_lines rows ∙ ap (flat_map (λ w. w ++ 10 ∷ [])) is.spelled ∙ none_behind text (lines_of bytes).1 is.none_left ∙ joined_lines bytes,
        is.in_form,
        and_some (put_all Q r rows) (λ s. awaited Q s.reached ≡ None) is.end is.order is.complete,
      )
    where
      none_behind : (text last : Bytes) → last ≡ [] → text ≡ text ++ last
      none_behind text last none = sym (ap (λ (l : Bytes). text ++ l) none ∙ append-nil text)

  -- ---- checkpoints

  whole_is : (t u : ℤ) → from_zero t ≡ Some u → (t ≡ u) × (is_whole u ≡ true)
  whole_is t u h = let k = kept (is_whole t) t u h in (k.1, ap is_whole (sym k.1) ∙ k.0)

  tick_is : (w : Bytes) (t : ℤ) → tick_read w ≡ Some t → (codes "tick" ++ 32 ∷ signed_decimal t ≡ w) × IsSpelled (Int t) × (is_whole t ≡ true)
  tick_is w t h =
      let n = and_then_is (option_and_then integer_in (behind (codes "tick") w)) from_zero t h in
      let rest = and_then_is (behind (codes "tick") w) integer_in n.0 n.1.0 in
      let is = spelled.integers rest.0 n.0 rest.1.1 in
      let whole = whole_is n.0 t n.1.1 in
      let P : ℤ → Type 0 = λ u. (codes "tick" ++ 32 ∷ signed_decimal u ≡ w) × IsSpelled (Int u) in
      let told = subst P whole.0 (ap (λ (r : Bytes). codes "tick" ++ 32 ∷ r) is.0 ∙ behind_is (codes "tick") w rest.0 rest.1.0, is.1) in
      (told.0, told.1, whole.1)

  pub point_is : (bytes : Bytes) (p : Said) → point_read bytes ≡ Ok p → IsPoint p × (point_spelling p ≡ bytes)
  unfolding point_read point_behind
  point_is bytes p h =
      let total : ℕ = length bytes in
      let entries = bind_is (line_at (counted (codes "point")) total bytes) _ p h in
      let policy = bind_is (policy_at total entries.0.1) _ p entries.1.1 in
      let tick = bind_is (line_at tick_read total policy.0.1) _ p policy.1.1 in
      let rows = bind_is (rows_from total policy.0.0.1 (start policy.0.0.1 tick.0.0) tick.0.1) _ p tick.1.1 in
      let n = line_at_is (counted (codes "point")) total bytes entries.0 entries.1.0 in
      let n_is = counted_is spelled (codes "point") n.0 entries.0.0 n.1.0 in
      let Q_is = policy_at_is spelled total entries.0.1 policy.0 policy.1.0 in
      let t = line_at_is tick_read total policy.0.1 tick.0 tick.1.0 in
      let t_is = tick_is t.0 tick.0.0 t.1.0 in
      let rows_are = rows_from_is total policy.0.0.1 (start policy.0.0.1 tick.0.0) tick.0.1 rows.0 rows.1.0 in
      let e : Bytes = entries_line entries.0.0 in
      let q : Bytes = policy_lines policy.0.0.0 in
      subst (λ (x : Said). IsPoint x × (point_spelling x ≡ bytes)) (done _ p rows.1.1) (
        record { entries = n_is.1; policy = Q_is.1; tick = t_is.1; from_zero = t_is.2; rows = rows_are.1; order = rows_are.2 },
        ap (λ (r : Bytes). e ++ (q ++ (tick_line tick.0.0 ++ r))) rows_are.0
            ∙ ap (λ (r : Bytes). e ++ (q ++ r)) (line_first (codes "tick" ++ 32 ∷ signed_decimal tick.0.0) tick.0.1 ∙ ap (λ (w : Bytes). w ++ 10 ∷ tick.0.1) t_is.0 ∙ t.1.1)
            ∙ ap (λ (r : Bytes). e ++ r) Q_is.0
            ∙ line_first (codes "point" ++ 32 ∷ decimal entries.0.0) entries.0.1 ∙ ap (λ (w : Bytes). w ++ 10 ∷ entries.0.1) n_is.0 ∙ n.1.1,
      )
