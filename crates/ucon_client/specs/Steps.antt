-- What a client does in its turn.
use Rattle.std.specs.Prelude.{◌≡◌, ◌++◌, Bool, true, List, map, Option, Some, None, IfSome, option_map}
use Rattle.ucon_model.specs.History.{History}
use Rattle.ucon_board.specs.Board.{GoesOn}
use Rattle.ucon_script.specs.declared.document.Line.{Line}
use Rattle.ucon_store.specs.declared.event.Event.{Event}
use Rattle.ucon_store.specs.declared.event.Event.TheVariants.{Done}
use Rattle.ucon_client.specs.declared.answer.Answer.{Answer}
use Rattle.ucon_client.specs.declared.boarded.SharedBase.{SharedBase}
use Rattle.ucon_client.specs.declared.looks.Looks.{Looks}
use Rattle.ucon_client.specs.Answers.{SaysFromBase, answer_of, entry_of}
use Rattle.ucon_client.specs.Boarded.{Sharing, identity}
use Rattle.ucon_client.specs.Clients.{Replies, Steps}
use Rattle.ucon_client.specs.Events.{EndsAtMark}
use Rattle.ucon_client.specs.Looks.{IsConfirmed}

-- what a run doesn't change, of a store and its board
abbrev pub base_of : {D : Type 0} → Sharing D → SharedBase
base_of s = record {
  store = record { policy = s.store.policy; point = s.store.point; before = s.store.before; opening = s.store.opening };
  board = option_map identity s.board;
}

-- the reader is of the board in the base
abbrev pub IsOfBase : SharedBase → Looks → Type 0
IsOfBase b l = IfSome b.board (λ k. l.reader.which ≡ k.which)

-- The reader is of the same board, and what it reads goes on from what it has read. If it is confirmed, all that it ever read is true of the list,
-- by each way to say what is replied as the store would. What is held is kept. Confirmed or not, nothing follows a mark in the list.
pub record HasConfirmed (b : SharedBase) (old new : Looks) (before : List Event) (confirmed : Bool) : Type 0 where
  pub which : new.reader.which ≡ old.reader.which
  pub later : GoesOn old.reader.board new.reader.board
  pub held : new.held.items ≡ old.held.items
  pub last : new.last ≡ old.last
  pub ends : (G : History) → EndsAtMark (map Done G ++ before)
  pub true_of : confirmed ≡ true → (says : Replies) (G : History) → SaysFromBase b.store says G
      → IsConfirmed says (map Done G ++ before) new.reader.board

-- the line's step, by each way to say what is replied as the store would
abbrev pub HasAnswered : SharedBase → Line → (before after : List Event) → Answer → Type 0
HasAnswered b line before after a = (says : Replies) (G : History) → SaysFromBase b.store says G
    → Steps says (entry_of line) (map Done G ++ before) (map Done G ++ after) (answer_of a)

-- The line's step is made, once what was read is confirmed; or nothing is done. Then nothing follows a mark in the list.
abbrev pub HasStepped : SharedBase → Line → (old new : Looks) → (before after : List Event) → Option Answer → Type 0
HasStepped b line old new before after (Some a) = HasConfirmed b old new before true × HasAnswered b line before after a
HasStepped b line old new before after None = (after ≡ before) × ((G : History) → EndsAtMark (map Done G ++ before))
