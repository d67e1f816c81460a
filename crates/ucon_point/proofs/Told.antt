-- What is told of bytes, by the laws of texts and rows.
use Rattle.std.proofs.Common.{◌≡◌, ℕ, Ok, Err, Some, is_ok, sym, ap, ap₂, ◌∙◌}
use Rattle.std.specs.Prelude.{IfErr, IfOk, MatchResult, Result}
use Rattle.std.proofs.lemmas.Bool.{false≢true}
use Rattle.ucon_model.specs.Plain.{Bytes}
use Rattle.ucon_state.specs.TakingUp.{CanBeTakenUp}
use Rattle.ucon_state.specs.Following.{IsFollowing}
use Rattle.ucon_state.specs.Held.{Held, held, held_in}
use Rattle.ucon_state.specs.Shown.{Shown, shown}
use Rattle.ucon_point.specs.declared.fault.PointFault.{PointFault}
use Rattle.ucon_point.specs.declared.point.Point.{Point}
use Rattle.ucon_point.specs.declared.fault.PointFault.TheVariants.{BadPlace, NoMemory}
use Rattle.ucon_point.specs.Faults.{IsBadAt, IsTextOfNothing}
use Rattle.ucon_point.specs.HeldRows.{point_held}
use Rattle.ucon_point.specs.Opened.{IsRead}
use Rattle.ucon_point.specs.PointRead.{Said, IsPoint, point_read, point_spelling}
use Rattle.ucon_point.specs.PointText.{point_text}
use Rattle.ucon_point.specs.Standing.{Standing, put_all, start}

abbrev pub AreWritten : Type 0
AreWritten = (p : Said) → IsPoint p → point_read (point_spelling p) ≡ Ok p

abbrev pub AreSpelled : Type 0
AreSpelled = (bytes : Bytes) (p : Said) → point_read bytes ≡ Ok p → IsPoint p × (point_spelling p ≡ bytes)

abbrev pub AreOfRows : Type 0
AreOfRows = (entries : ℕ) (text : Bytes) (h : Held) → point_text entries text h ≡ point_spelling (point_held entries text h)

abbrev pub AreHeld : Type 0
AreHeld = (p : Said) (end : Standing) → IsPoint p → put_all p.policy (start p.policy p.tick) p.rows ≡ Some end → point_held p.entries p.text (held_in p.policy end.tables) ≡ p

abbrev pub AreFollowing : Type 0
AreFollowing = (p : Said) (end : Standing) → IsPoint p → put_all p.policy (start p.policy p.tick) p.rows ≡ Some end
    → (s : Shown) → s.policy ≡ p.policy → s.tables ≡ end.tables → IsFollowing s

-- what the reader answers
abbrev pub IsAnswer : Bytes → Result Point PointFault → Type 0
IsAnswer bytes r = MatchResult r (IsRead (point_read bytes)) (IsBadAt (point_read bytes))

pub text_told : AreSpelled → AreOfRows → AreHeld → (bytes : Bytes) (r : Result Point PointFault) → IsAnswer bytes r
    → IfOk r (λ p. point_text p.entries p.policy.items (held p.state) ≡ bytes)
text_told spelled of_rows are_held bytes (Err f) i = tt
text_told spelled of_rows are_held bytes (Ok p) i =
    let said = i.said in
    let is = spelled bytes said i.come in
    let h : Held = held_in said.policy i.end.tables in
    let same : held p.state ≡ h = ap₂ held_in i.policy i.tables in
    ap₂ (λ (n : ℕ) (text : Bytes). point_text n text (held p.state)) i.entries i.text
    ∙ ap (point_text said.entries said.text) same
    ∙ of_rows said.entries said.text h
    ∙ ap point_spelling (are_held said i.end is.0 i.made)
    ∙ is.1

pub nothing_told : AreWritten → AreOfRows → (bytes : Bytes) (r : Result Point PointFault) → IsAnswer bytes r → IfErr r (IsTextOfNothing bytes)
nothing_told written of_rows bytes (Ok p) i = tt
nothing_told written of_rows bytes (Err (NoMemory e)) i = tt
nothing_told written of_rows bytes (Err (BadPlace place)) i = λ entries text h is same.
    let read : point_read bytes ≡ Ok (point_held entries text h) = ap point_read (sym same ∙ of_rows entries text h) ∙ written (point_held entries text h) is in
    false≢true (ap is_ok (sym i ∙ read))

pub state_told : AreSpelled → AreFollowing → (bytes : Bytes) (r : Result Point PointFault) → IsAnswer bytes r → IfOk r (λ p. CanBeTakenUp (shown p.state))
state_told spelled following bytes (Err f) i = tt
state_told spelled following bytes (Ok p) i = record {
  following = following i.said i.end (spelled bytes i.said i.come).0 i.made (shown p.state) i.policy i.tables;
  settled = i.settled;
}
