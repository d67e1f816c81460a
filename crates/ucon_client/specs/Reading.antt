-- What a client's looks become.
use Rattle.std.specs.Prelude.{◌≡◌, ℕ, ◌≤◌, [], ◌∷◌, ◌++◌, Option, Some, None, ⊤}
use Rattle.ucon_model.specs.LegalRun.{Answer as Told, placed}
use Rattle.ucon_board.specs.Board.{place_of, state_in}
use Rattle.ucon_board.specs.States.{look_reply}
use Rattle.ucon_client.specs.declared.answer.Answer.{Answer}
use Rattle.ucon_client.specs.declared.looks.Looks.{Looks}
use Rattle.ucon_client.specs.declared.part.Part.{Part}
use Rattle.ucon_client.specs.Answers.{AreHeld, answer_of}
use Rattle.ucon_client.specs.Looks.{IsUpTo}

-- one answer more is held: what the board shows of the session, at a place that isn't below those before
pub record HasRead (old new : Looks) (session : ℕ) : Type 0 where
  pub answer : Answer
  pub held : new.held.items ≡ old.held.items ++ answer ∷ []
  pub is : answer_of answer ≡ placed new.last (look_reply session (state_in new.reader.board session))
  pub place : new.last ≡ place_of new.reader.board
  pub rises : old.last ≤ new.last

-- the same reader, behind one answer more, which stops nobody
pub record ReadsOn (old new : Looks) (answer : Told) : Type 0 where
  pub reader : new.reader ≡ old.reader
  pub held : new.held.items ≡ old.held.items
  pub above : old.last ≤ new.last
  pub up_to : IsUpTo new.last answer

-- so it is, or the client reads no more
abbrev pub GoesOnReading : Looks → Option Looks → Told → Type 0
GoesOnReading old None answer = ⊤
GoesOnReading old (Some new) answer = ReadsOn old new answer

-- the same reader, and nothing is held for the part any more; or the client reads no more
abbrev pub HoldsOn : Part → Looks → Option Looks → Type 0
HoldsOn p old None = ⊤
HoldsOn p old (Some new) = (new.reader ≡ old.reader) × (new.held.items ≡ []) × AreHeld p new
