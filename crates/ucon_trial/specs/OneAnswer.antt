-- One line answered.
use Rattle.std.specs.Prelude.{◌≡◌, ◌⊎◌, ℕ, ◌+◌, ◌-◌, ◌^◌, min, Option, Some, None, if◌then◌else◌}
use Rattle.ucon_model.specs.declared.command.Entry.{Entry}
use Rattle.ucon_model.specs.Plain.{PlainPolicy, PlainReply}
use Rattle.ucon_model.specs.History.{History, said, changes, grown}
use Rattle.ucon_model.specs.Document.{entry_of as said_entry}
use Rattle.ucon_script.specs.declared.line_text.LineText.{LineText}
use Rattle.ucon_script.specs.Document.{spelled_line}

-- what a line asks, and by whom
abbrev pub entry_of : LineText → Entry
entry_of line = said_entry (spelled_line line)

-- there was no memory, and nothing changed: the engine still stands for the history
pub record WantsMemory (stands_for : History → Type 0) (hears : Option (ℕ × PlainReply) → Type 0) (H : History) (place place' : ℕ) : Type 0 where
  pub stands : stands_for H
  pub place_is : place' ≡ place
  pub heard : hears None

-- the reply is the one said after the history, at its place, and the engine stands for the history that it grows to
pub record Replies (P : PlainPolicy) (stands_for : History → Type 0) (hears : Option (ℕ × PlainReply) → Type 0)
    (H : History) (place place' : ℕ) (e : Entry) : Type 0 where
  pub stands : stands_for (grown P H e)
  pub place_is : place' ≡ min (if changes (said P H e.caller e.command) then place + 1 else place) (2 ^ 64 - 1)
  pub heard : hears (Some (place', said P H e.caller e.command))

-- the line was answered so, and its answer was heard
abbrev pub Answers : PlainPolicy → (History → Type 0) → (Option (ℕ × PlainReply) → Type 0) → History → ℕ → ℕ → Entry → Type 0
Answers P stands_for hears H place place' e = WantsMemory stands_for hears H place place' ⊎ Replies P stands_for hears H place place' e
