-- Rows that are put as they are read.
use Rattle.std.proofs.Common.{◌≡◌, ◌∙◌, ℕ, ◌+◌, ◌-◌, ◌≤◌, List, [], ◌∷◌, ◌++◌, length, Some, None, Ok, ap, subst}
use Rattle.std.specs.Prelude.{Option, Result, ok_or, option_and_then}
use Rattle.ucon_model.specs.Output.{cut_at}
use Rattle.ucon_model.specs.Plain.{Bytes, PlainPolicy}
use Rattle.ucon_point.specs.declared.row.Row.{Row}
use Rattle.ucon_point.specs.PointRead.{row_at}
use Rattle.ucon_point.specs.RowText.{row_read}
use Rattle.ucon_point.specs.Standing.{Standing, put, put_all}
use Rattle.ucon_point.proofs.LineWalk.{IsSoFar, so_far_next}
use Rattle.ucon_point.proofs.PointsSpelled.{bind_is, done, said_is}
use Rattle.ucon_point.proofs.Results.{nothing}

-- these rows were read and put, and what is left is the rest
pub record ArePutSoFar (total : ℕ) (Q : PlainPolicy) (before : Standing) (all : Result (List Row) ℕ) (now : Standing) (rest : Bytes) : Type 0 where
  pub rows : List Row
  pub left : IsSoFar total Q all rows now rest
  pub made : put_all Q before rows ≡ Some now

put_more : (Q : PlainPolicy) (before now next : Standing) (rows : List Row) (row : Row) → put_all Q before rows ≡ Some now → put Q now row ≡ Some next
    → put_all Q before (rows ++ row ∷ []) ≡ Some next
put_more Q before now next [] row made is = by made
  where
    by : Some before ≡ Some now → option_and_then (λ s. put_all Q s []) (put Q before row) ≡ Some next
    by made = ap (λ o. option_and_then (λ s. option_and_then (λ n. Some n) (put Q s row)) o) made ∙ ap (option_and_then (λ n. Some n)) is
put_more Q before now next (x ∷ rows) row made is = by (λ s k. put_more Q s now next rows row k is) (put Q before x) made
  where
    by : ((s : Standing) → put_all Q s rows ≡ Some now → put_all Q s (rows ++ row ∷ []) ≡ Some next) → (o : Option Standing) → option_and_then (λ s. put_all Q s rows) o ≡ Some now → option_and_then (λ s. put_all Q s (rows ++ row ∷ [])) o ≡ Some next
    by rest None k = absurd (nothing k)
    by rest (Some s) k = rest s k

row_put : (place : ℕ) (Q : PlainPolicy) (now : Standing) (line : Bytes) (p : Row × Standing) → row_at place Q now line ≡ Ok p → put Q now p.0 ≡ Some p.1
unfolding row_at
row_put place Q now line p h =
    let row = bind_is (ok_or (row_read line) place) _ p h in
    let next = bind_is (ok_or (put Q now row.0) place) _ p row.1.1 in
    let is : (row.0, next.0) ≡ p = done _ p next.1.1 in
    let P : Row × Standing → Type 0 = λ q. put Q now q.0 ≡ Some q.1 in
    subst P is (said_is (put Q now row.0) place next.0 next.1.0)

-- one more
pub so_far_put : (total : ℕ) (Q : PlainPolicy) (before : Standing) (all : Result (List Row) ℕ) (now next : Standing) (row : Row) (bs line rest : Bytes) → length bs ≤ total
    → length line + 1 + length rest ≡ length bs → cut_at 10 bs ≡ Some (line, rest) → row_at (total - length bs) Q now line ≡ Ok (row, next)
    → ArePutSoFar total Q before all now bs → ArePutSoFar total Q before all next rest
so_far_put total Q before all now next row bs line rest le within cut is a = record {
  rows = a.rows ++ row ∷ [];
  left = so_far_next total Q all a.rows now next row bs line rest le within cut is a.left;
  made = put_more Q before now next a.rows row a.made (row_put (total - length bs) Q now line (row, next) is);
}
