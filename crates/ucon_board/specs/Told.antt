-- The history of a board as the book keeps it, its rule, and what its step tells.
use Rattle.std.specs.Prelude.{◌≡◌, ℕ, ◌+◌, ◌==◌, true, List, [], ◌∷◌, ◌++◌, map, length, MatchBool, ⊤}
use Rattle.logbook.specs.Pages.{Cell, Step, View, Book, Named}
use Rattle.ucon_model.specs.declared.session.SessionState.{SessionState}
use Rattle.ucon_model.specs.Plain.{PlainReply, made}
use Rattle.ucon_board.specs.declared.history.Published.{Published}
use Rattle.ucon_board.specs.declared.history.Event.{Event}
use Rattle.ucon_board.specs.declared.history.Event.TheVariants.{Opened, Replied}
use Rattle.ucon_board.specs.declared.shown.Mark.{Mark}
use Rattle.ucon_board.specs.Board.{Board}

-- how the board was opened, and then its replies
abbrev pub events : ℕ → List SessionState → List Published → List Event
events place sessions replies = Opened place sessions ∷ map Replied replies

-- the reply as it is said
abbrev pub reply_in : Published → PlainReply
reply_in p = made p.head p.revoked

-- the replies among these events
abbrev pub replies_in : List Event → List PlainReply
replies_in [] = []
replies_in (Opened place sessions ∷ rest) = replies_in rest
replies_in (Replied p ∷ rest) = reply_in p ∷ replies_in rest

-- the board of a history
abbrev pub board_of : List Event → Board
board_of [] = record { opened_at = 0; sessions = []; replies = [] }
board_of (Opened place sessions ∷ rest) = record { opened_at = place; sessions = sessions; replies = replies_in rest }
board_of (Replied p ∷ rest) = record { opened_at = 0; sessions = []; replies = replies_in rest }

-- a history begins with an opening, and has replies behind it
abbrev pub IsOpened : List Event → Type 0
IsOpened log = (place : ℕ) × (sessions : List SessionState) × (replies : List Published) × (log ≡ events place sessions replies)

-- the book's one word counts the replies
pub record IsCounted (cells : List Cell) (log : List Event) : Type 0 where
  pub opened : IsOpened log
  pub count : ℕ
  pub words : cells ≡ (count, true) ∷ []
  pub counted : count + 1 ≡ length log

-- the word of a book
abbrev pub word_of : Book → Named
word_of b = record { tracked = true; key = 0; book = b }

-- the event was added to all that had been seen, if the word was as expected
abbrev pub Adds : Step Event → View Event ℕ → ℕ → View Event ℕ → Type 0
Adds s v found w = MatchBool (found == s.old) (w.0 ≡ v.0 ++ s.ask ∷ []) ⊤

-- what a mark adds
abbrev pub replied : Mark → Event
replied mark = Replied (record { head = mark.head; revoked = mark.revoked.items })
