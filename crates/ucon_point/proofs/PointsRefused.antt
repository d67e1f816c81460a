-- Where bytes are refused, no text of a checkpoint begins with them up to the end of the line there.
use Rattle.std.proofs.Common.{◌≡◌, ℕ, false, ◌++◌, length, Ok, Err, is_ok, refl, sym, ap, ◌∙◌, inl, inr, arith, append_assoc}
use Rattle.std.specs.Prelude.{◌⊎◌, Result, codes, IfErr}
use Rattle.std.proofs.lemmas.Bool.{false≢true}
use Rattle.ucon_model.specs.Payload.{◌>>=◌}
use Rattle.ucon_model.specs.Plain.{Bytes, PlainPolicy}
use Rattle.ucon_point.specs.declared.fault.PointFault.{PointFault}
use Rattle.ucon_point.specs.declared.fault.PointFault.TheVariants.{BadPlace, NoMemory}
use Rattle.ucon_point.specs.declared.point.Point.{Point}
use Rattle.ucon_point.specs.Faults.{IsBadLine, IsRefusedAt}
use Rattle.ucon_point.specs.Standing.{start}
use Rattle.ucon_point.specs.PointRead.{Said, counted, tick_read, line_at, policy_at, rows_from, point_behind, point_read}
use Rattle.ucon_point.proofs.PoliciesRefused.{policy_local, policy_safe}
use Rattle.ucon_point.proofs.Refusals.{Reads, IsSafe, IsStopped, both_safe, line_local, line_safe, same_err, same_place}
use Rattle.ucon_point.proofs.RowsRefused.{rows_safe}
use Rattle.ucon_point.proofs.Told.{AreWritten, IsAnswer}

module _ {A B : Type 0} (f : Reads A) (k : A → B) (safe : IsSafe f) where
  abbrev made : Reads B
  made total bytes = f total bytes >>= (λ x. Ok (k x))

  made_err : (r : Result A ℕ) (place : ℕ) → (r >>= (λ x. Ok (k x))) ≡ Err place → r ≡ Err place
  made_err (Ok x) place h = absurd (same_place (k x) place h)
  made_err (Err e) place h = ap (λ (n : ℕ). Err n) (same_err {A = B} e place h)

  made_bad : (r : Result A ℕ) → is_ok r ≡ false → is_ok (r >>= (λ x. Ok (k x))) ≡ false
  made_bad (Ok x) h = absurd (false≢true (sym h))
  made_bad (Err e) h = refl

  made_safe : IsSafe made
  made_safe total bytes le place h = told (safe total bytes le place (made_err (f total bytes) place h))
    where
      told : IsStopped f total bytes place ⊎ (place ≡ total) → IsStopped made total bytes place ⊎ (place ≡ total)
      told (inr end) = inr end
      told (inl s) =
          inl (record { front = s.front; line = s.line; rest = s.rest; is = s.is; begins = s.begins; one = s.one; again = λ whole tail. made_bad (f whole (s.front ++ (s.line ++ tail))) (s.again whole tail) })

behind_safe : (entries : ℕ) (text : Bytes) (Q : PlainPolicy) → IsSafe (λ total bytes. point_behind total entries text Q bytes)
unfolding point_behind
behind_safe entries text Q =
    both_safe (line_at tick_read) (λ tick total bytes. rows_from total Q (start Q tick) bytes >>= (λ rows. Ok (record { entries = entries; text = text; policy = Q; tick = tick; rows = rows })))
    (line_local tick_read) (line_safe tick_read)
    (λ tick. made_safe (λ total bytes. rows_from total Q (start Q tick) bytes) (λ rows. record { entries = entries; text = text; policy = Q; tick = tick; rows = rows }) (rows_safe Q (start Q tick)))

policies_safe : (entries : ℕ) → IsSafe (λ total bytes. policy_at total bytes >>= (λ p. point_behind total entries p.0.0 p.0.1 p.1))
policies_safe entries = both_safe policy_at (λ q total bytes. point_behind total entries q.0 q.1 bytes) policy_local policy_safe (λ q. behind_safe entries q.0 q.1)

-- the reader of a checkpoint among more bytes
abbrev whole_read : Reads Said
whole_read total bytes = line_at (counted (codes "point")) total bytes >>= (λ n. policy_at total n.1 >>= (λ p. point_behind total n.0 p.0.0 p.0.1 p.1))

point_safe : IsSafe whole_read
point_safe =
    both_safe (line_at (counted (codes "point"))) (λ n total bytes. policy_at total bytes >>= (λ p. point_behind total n p.0.0 p.0.1 p.1))
    (line_local (counted (codes "point"))) (line_safe (counted (codes "point"))) policies_safe

read_whole : (bytes : Bytes) → point_read bytes ≡ whole_read (length bytes) bytes
unfolding point_read
read_whole bytes = refl

point_bad : AreWritten → (bytes : Bytes) (place : ℕ) → point_read bytes ≡ Err place → IsBadLine bytes place ⊎ (place ≡ length bytes)
point_bad written bytes place h = told (point_safe (length bytes) bytes (omega arith) place (sym (read_whole bytes) ∙ h))
  where
    told : IsStopped whole_read (length bytes) bytes place ⊎ (place ≡ length bytes) → IsBadLine bytes place ⊎ (place ≡ length bytes)
    told (inr end) = inr end
    told (inl s) =
        inl (record {
          front = s.front;
          line = s.line;
          rest = s.rest;
          is = s.is;
          begins = omega (arith, s.begins);
          one = s.one;
          none = λ p is rest same.
              let bs : Bytes = s.front ++ (s.line ++ rest) in
              let read : point_read bs ≡ Ok p = sym (ap point_read (same ∙ append_assoc s.front s.line rest)) ∙ written p is in
              false≢true (sym (s.again (length bs) rest) ∙ sym (ap is_ok (read_whole bs)) ∙ ap is_ok read);
        })

pub place_told : AreWritten → (bytes : Bytes) (r : Result Point PointFault) → IsAnswer bytes r → IfErr r (IsRefusedAt bytes)
place_told written bytes (Ok p) h = tt
place_told written bytes (Err (NoMemory e)) h = tt
place_told written bytes (Err (BadPlace place)) h = point_bad written bytes place h
