-- What clients share: a store in which nothing but steps is made, and the board that shows it.
use Rattle.std.specs.Prelude.{◌≡◌, ◌+◌, true, false, List, [], ◌∷◌, ◌++◌, length, Option, Some, None, Result, Ok, Err, refl, ⊤}
use Rattle.std.specs.Coded.{Coded, code_by, coded×, coded_option}
use Rattle.std.specs.Option.{option_to_list}
use Rattle.ucon_model.specs.declared.command.Entry.{Entry}
use Rattle.ucon_model.specs.Action.{Trace}
use Rattle.ucon_model.specs.Block.{reply}
use Rattle.ucon_model.specs.History.{History, changes, trace_from}
use Rattle.ucon_model.specs.Plain.{PlainPolicy}
use Rattle.ucon_model.specs.Views.{reply_of}
use Rattle.ucon_board.specs.contracts.reader.BoardReader as reader_row
use Rattle.ucon_board.specs.Board.{Board, Known, Written}
use Rattle.ucon_board.specs.States.{ShowsFirst}
use Rattle.ucon_syntax.specs.Policies.{accepted}
use Rattle.ucon_store.specs.declared.placed.Placed.{Placed}
use Rattle.ucon_store.specs.declared.fault.StepFault.{StepFault}
use Rattle.ucon_store.specs.Kept.{Kept, kept_code}
use Rattle.ucon_store.specs.Marks.{marked}
use Rattle.ucon_store.specs.Starts.{IsStart}

-- ---- the mark

-- there is none, or it is that of one step
pub record IsOfSteps (mark : Option History) : Type 0 where
  pub failed : Option Entry
  pub is : mark ≡ marked failed

-- it is that of the one line among these that met a disk fault, if one did
pub record IsMarkOf (mark : Option History) (faulted : List Entry) : Type 0 where
  pub failed : Option Entry
  pub is : mark ≡ marked failed
  pub lines_are : faulted ≡ option_to_list failed

-- ---- the board

-- a store, and the board that shows it, if there is one
pub record Sharing (D : Type 0) : Type 0 where
  pub store : Kept D
  pub board : Option Known

-- it is kept by the logic as its two parts, one after the other
abbrev pub sharing_code : {D : Type 0} → Coded D → Coded (Sharing D)
sharing_code {D} code =
    code_by (Kept D × Option Known) (coded× (kept_code code) (coded_option (reader_row.the_row).coded))
    (λ s. (s.store, s.board)) (λ p. record { store = p.0; board = p.1 }) (λ _. refl)

-- a board as it was opened
abbrev pub bare : Board → Board
bare b = record b { replies = [] }

-- which board it is, and how it was opened
abbrev pub identity : Known → Known
identity k = record { which = k.which; board = bare k.board }

-- which board a writer has, and what it shows
abbrev pub known_by : Written → Known
known_by w = record { which = w.which; board = w.board }

-- What publishing a reply does to a writer. If the reply is the one behind the entries that its board shows, the board goes on showing the first ones.
pub record Publishes (p : Placed) (old new : Written) : Type 0 where
  pub which : new.which ≡ old.which
  pub opened : bare new.board ≡ bare old.board
  pub told : changes (reply_of p.reply) ≡ false → new ≡ old
  pub follows : (P : PlainPolicy) (T : Trace) (H : History) (e : Entry) → ShowsFirst P T H old.board true
      → changes (reply_of p.reply) ≡ true → reply_of p.reply ≡ reply P (trace_from P T H) e.caller e.command
      → p.place ≡ old.board.opened_at + length H + 1 → ShowsFirst P T (H ++ e ∷ []) new.board true

-- so it is with an answer that has a reply, if there is a writer; else nothing is published
abbrev pub Publish : Result Placed StepFault → Option Written → Option Written → Type 0
Publish (Ok p) (Some old) (Some new) = Publishes p old new
Publish (Ok p) (Some old) None = ⊥
Publish (Ok p) None new = new ≡ None
Publish (Err e) old new = new ≡ old

-- The board was opened behind the first entries of a store that begins behind this trace, and shows the first of the others.
pub record ShowsBehind {D : Type 0} (P : PlainPolicy) (T : Trace) (s : Kept D) (b : Board) : Type 0 where
  pub opened : History
  pub since : History
  pub entries : s.entries ≡ opened ++ since
  pub opened_at : b.opened_at ≡ s.before + length opened
  pub shows : ShowsFirst P (trace_from P T opened) since b true

-- so it does behind each trace that leads to where the store begins
abbrev pub ShowsStore : {D : Type 0} → Kept D → Board → Type 0
ShowsStore s b = (P : PlainPolicy) (T : Trace) → accepted s.policy ≡ Some P → IsStart P s.point s.before T → ShowsBehind P T s b

-- the writer's board, where there is one, shows this store
abbrev pub IsShownBy : {D : Type 0} → Kept D → Option Written → Type 0
IsShownBy s None = ⊤
IsShownBy s (Some w) = ShowsStore s w.board
