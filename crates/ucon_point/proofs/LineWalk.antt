-- Rows that are read line by line.
use Rattle.std.proofs.Common.{◌≡◌, ℕ, ◌+◌, ◌-◌, ◌≤◌, Bool, true, false, cond, List, [], ◌∷◌, ◌++◌, length, Some, None, Ok, Err, refl, sym, ap, ◌∙◌, arith}
use Rattle.std.specs.Prelude.{Option, Result, option_map, ◌==◌, ◌&&◌, is_none}
use Rattle.ucon_model.specs.Output.{cut_at}
use Rattle.ucon_model.specs.Payload.{◌>>=◌}
use Rattle.ucon_model.specs.Plain.{Bytes, PlainPolicy}
use Rattle.ucon_point.specs.declared.fault.PointFault.{PointFault}
use Rattle.ucon_point.specs.declared.fault.PointFault.TheVariants.{BadPlace, NoMemory}
use Rattle.ucon_point.specs.declared.row.Row.{Row}
use Rattle.ucon_point.specs.Faults.{IsBadAt}
use Rattle.ucon_point.specs.Order.{awaited}
use Rattle.ucon_point.specs.Standing.{Standing}
use Rattle.ucon_point.specs.PointRead.{before, lines_of, row_at, rows_at, rows_from, with_byte}

-- ---- lines

abbrev pub Lines : Type 0
Lines = List Bytes × Bytes

-- what is cut, with a byte before it
with_cut : Option (Bytes × Bytes) → Bytes → Lines
with_cut None bs = ([], bs)
with_cut (Some p) bs = (p.0 ∷ (lines_of p.1).0, (lines_of p.1).1)

with_cut_more : (b : ℕ) (bs : Bytes) (o : Option (Bytes × Bytes)) → with_byte b (with_cut o bs) ≡ with_cut (option_map (λ q. (b ∷ q.0, q.1)) o) (b ∷ bs)
unfolding with_cut
with_cut_more b bs None = refl
with_cut_more b bs (Some p) = refl

lines_more : (b : ℕ) (bs : Bytes) (same : Bool) → (b == 10) ≡ same → lines_of bs ≡ with_cut (cut_at 10 bs) bs
    → cond {A = Lines} same ([] ∷ (lines_of bs).0, (lines_of bs).1) (with_byte b (lines_of bs))
    ≡ with_cut (cond {A = Option (Bytes × Bytes)} same (Some ([], bs)) (option_map (λ q. (b ∷ q.0, q.1)) (cut_at 10 bs))) (b ∷ bs)
unfolding with_cut
lines_more b bs true is h = refl
lines_more b bs false is h = ap (with_byte b) h ∙ with_cut_more b bs (cut_at 10 bs)

lines_of_is : (bs : Bytes) → lines_of bs ≡ with_cut (cut_at 10 bs) bs
unfolding with_cut
lines_of_is [] = refl
lines_of_is (b ∷ bs) = lines_more b bs (b == 10) refl (lines_of_is bs)

-- without a newline all bytes stand behind the last
pub lines_of-none : (bs : Bytes) → cut_at 10 bs ≡ None → lines_of bs ≡ ([], bs)
unfolding with_cut
lines_of-none bs h = lines_of_is bs ∙ ap (λ o. with_cut o bs) h

pub lines_of-some : (bs line rest : Bytes) → cut_at 10 bs ≡ Some (line, rest) → lines_of bs ≡ (line ∷ (lines_of rest).0, (lines_of rest).1)
unfolding with_cut
lines_of-some bs line rest h = lines_of_is bs ∙ ap (λ o. with_cut o bs) h

-- ---- rows

-- rows before others
abbrev pub before_all : List Row → Result (List Row) ℕ → Result (List Row) ℕ
before_all [] r = r
before_all (row ∷ rows) r = before row (before_all rows r)

pub before_all-more : (rows : List Row) (row : Row) (r : Result (List Row) ℕ) → before_all (rows ++ row ∷ []) r ≡ before_all rows (before row r)
before_all-more [] row r = refl
before_all-more (x ∷ rows) row r = ap (before x) (before_all-more rows row r)

pub before_all-err : (rows : List Row) (place : ℕ) → before_all rows (Err place) ≡ Err place
before_all-err [] place = refl
before_all-err (x ∷ rows) place = ap (before x) (before_all-err rows place)

pub before_all-ok : (rows : List Row) → before_all rows (Ok []) ≡ Ok rows
before_all-ok [] = refl
before_all-ok (x ∷ rows) = ap (before x) (before_all-ok rows)

-- the rows behind a line, whose place is where the bytes begin
abbrev pub rows_behind : ℕ → PlainPolicy → Bytes → Row × Standing → Result (List Row) ℕ
rows_behind total Q rest p = before p.0 (rows_from total Q p.1 rest)

-- a line's row, and then those of the rest
pub rows_from-some : (total : ℕ) (Q : PlainPolicy) (r : Standing) (bs line rest : Bytes) → length bs ≤ total → length line + 1 + length rest ≡ length bs
    → cut_at 10 bs ≡ Some (line, rest) → rows_from total Q r bs ≡ (row_at (total - length bs) Q r line >>= rows_behind total Q rest)
rows_from-some total Q r bs line rest le within h =
    let place : total - length bs + length line + 1 ≡ total - length rest = omega (arith, le, within) in
    ap (λ (l : Lines). rows_at (total - length bs) Q r l.1 l.0) (lines_of-some bs line rest h)
    ∙ ap (λ (n : ℕ). row_at (total - length bs) Q r line >>= (λ p. before p.0 (rows_at n Q p.1 (lines_of rest).1 (lines_of rest).0))) place

pub rows_from-none : (total : ℕ) (Q : PlainPolicy) (r : Standing) (bs : Bytes) → length bs ≤ total → cut_at 10 bs ≡ None
    → rows_from total Q r bs ≡ cond (length bs == 0 && is_none (awaited Q r.reached)) (Ok []) (Err total)
rows_from-none total Q r bs le h =
    let place : total - length bs + length bs ≡ total = omega (arith, le) in
    ap (λ (l : Lines). rows_at (total - length bs) Q r l.1 l.0) (lines_of-none bs h)
    ∙ ap (λ (n : ℕ). cond (length bs == 0 && is_none (awaited Q r.reached)) (Ok []) (Err n)) place

-- ---- as the code goes

-- the rows so far, and those of the rest
abbrev pub IsSoFar : ℕ → PlainPolicy → Result (List Row) ℕ → List Row → Standing → Bytes → Type 0
IsSoFar total Q all rows r rest = before_all rows (rows_from total Q r rest) ≡ all

-- with one more row
pub so_far_next : (total : ℕ) (Q : PlainPolicy) (all : Result (List Row) ℕ) (rows : List Row) (r next : Standing) (row : Row) (bs line rest : Bytes) → length bs ≤ total
    → length line + 1 + length rest ≡ length bs → cut_at 10 bs ≡ Some (line, rest) → row_at (total - length bs) Q r line ≡ Ok (row, next)
    → IsSoFar total Q all rows r bs → IsSoFar total Q all (rows ++ row ∷ []) next rest
so_far_next total Q all rows r next row bs line rest le within cut is h =
    before_all-more rows row (rows_from total Q next rest)
    ∙ ap (before_all rows) (ap (λ p. p >>= rows_behind total Q rest) (sym is) ∙ sym (rows_from-some total Q r bs line rest le within cut))
    ∙ h

-- a line that is refused
pub so_far_bad : (total : ℕ) (Q : PlainPolicy) (all : Result (List Row) ℕ) (rows : List Row) (r : Standing) (bs line rest : Bytes) (fault : PointFault) → length bs ≤ total
    → length line + 1 + length rest ≡ length bs → cut_at 10 bs ≡ Some (line, rest) → IsBadAt (row_at (total - length bs) Q r line) fault
    → IsSoFar total Q all rows r bs → IsBadAt all fault
so_far_bad total Q all rows r bs line rest (NoMemory e) le within cut bad h = tt
so_far_bad total Q all rows r bs line rest (BadPlace place) le within cut bad h =
    sym h ∙ ap (before_all rows) (rows_from-some total Q r bs line rest le within cut ∙ ap (λ p. p >>= rows_behind total Q rest) bad) ∙ before_all-err rows place

-- the end
pub so_far_end : (total : ℕ) (Q : PlainPolicy) (all : Result (List Row) ℕ) (rows : List Row) (r : Standing) (bs : Bytes) → length bs ≤ total → cut_at 10 bs ≡ None
    → (length bs == 0 && is_none (awaited Q r.reached)) ≡ true → IsSoFar total Q all rows r bs → all ≡ Ok rows
so_far_end total Q all rows r bs le cut is h =
    sym h ∙ ap (before_all rows) (rows_from-none total Q r bs le cut ∙ ap (λ (b : Bool). cond b (Ok []) (Err total)) is) ∙ before_all-ok rows

pub so_far_short : (total : ℕ) (Q : PlainPolicy) (all : Result (List Row) ℕ) (rows : List Row) (r : Standing) (bs : Bytes) → length bs ≤ total → cut_at 10 bs ≡ None
    → (length bs == 0 && is_none (awaited Q r.reached)) ≡ false → IsSoFar total Q all rows r bs → all ≡ Err total
so_far_short total Q all rows r bs le cut is h =
    sym h ∙ ap (before_all rows) (rows_from-none total Q r bs le cut ∙ ap (λ (b : Bool). cond b (Ok []) (Err total)) is) ∙ before_all-err rows total
