-- Looks that were read off a board, and wait to be confirmed.
use Rattle.std.specs.Prelude.{◌≡◌, ℕ, ◌≤◌, List, [], ◌∷◌, length, take, Option, ⊤}
use Rattle.ucon_base.specs.Elements.{Each}
use Rattle.ucon_model.specs.declared.command.Caller.{Caller}
use Rattle.ucon_model.specs.declared.command.Command.TheVariants as commands
use Rattle.ucon_model.specs.declared.session.SessionState.{SessionState}
use Rattle.ucon_model.specs.History.{History}
use Rattle.ucon_model.specs.LegalRun.{Answer as Told, Answered, placed, no_memory, disk_fault, stopped}
use Rattle.ucon_board.specs.Board.{Board, GoesOn, place_of, state_in}
use Rattle.ucon_board.specs.States.{look_reply}
use Rattle.ucon_store.specs.declared.event.Event.{Event}
use Rattle.ucon_client.specs.Clients.{Replies}
use Rattle.ucon_client.specs.Events.{EndsAtMark, entries_in}

-- a look that was read off a board: who looks, at which session, and the place and the state that were read
pub record Look : Type 0 where
  pub caller : Caller
  pub session : ℕ
  pub place : ℕ
  pub state : Option SessionState

-- its line, with the answer
abbrev pub answered_look : Look → Answered
answered_look l = record {
  line = record { caller = l.caller; command = commands.Look l.session };
  answer = placed l.place (look_reply l.session l.state);
}

-- it was read off what this board goes on from
abbrev pub IsRead : Board → Look → Type 0
IsRead board l = (b : Board) × GoesOn b board × (l.place ≡ place_of b) × (l.state ≡ state_in b l.session)

-- it is true of the list that a seat has seen: the state is what is said after so many of its entries, among which the opening ones are
abbrev pub IsTrueIn : Replies → History → List Event → Look → Type 0
IsTrueIn says G log l =
    (length G ≤ l.place) × (l.place ≤ length (entries_in log))
    × (look_reply l.session l.state ≡ says (take l.place (entries_in log)) l.caller (commands.Look l.session))

-- the places don't fall, from this one on
abbrev pub Rise : ℕ → List Look → Type 0
Rise from [] = ⊤
Rise from (l ∷ looks) = (from ≤ l.place) × Rise l.place looks

-- the last of these places, or this one
abbrev pub last_place : ℕ → List Look → ℕ
last_place from [] = from
last_place from (l ∷ looks) = last_place l.place looks

-- an answer that tells no more than this place, and stops nobody
abbrev pub IsUpTo : ℕ → Told → Type 0
IsUpTo from (placed place reply) = place ≤ from
IsUpTo from no_memory = ⊤
IsUpTo from disk_fault = ⊥
IsUpTo from stopped = ⊥

-- the answers tell no more than this place, and the client isn't stopped
abbrev pub HasReached : ℕ → List Answered → Type 0
HasReached from told = Each (λ t. IsUpTo from t.answer) told

-- all that was ever read off this board is true of this list, which ends with its mark, if it has one
pub record IsConfirmed (says : Replies) (log : List Event) (board : Board) : Type 0 where
  pub ends : EndsAtMark log
  pub within : (b : Board) → GoesOn b board → place_of b ≤ length (entries_in log)
  pub states : (b : Board) → GoesOn b board → (caller : Caller) (n : ℕ)
      → look_reply n (state_in b n) ≡ says (take (place_of b) (entries_in log)) caller (commands.Look n)
