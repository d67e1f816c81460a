-- Histories: what was done, by whom, and what it led to.
use Rattle.std.specs.Prelude.{◌≡◌, ℕ, Bool, true, false, IsTrue, ◌++◌, List, [], ◌∷◌, length, if◌then◌else◌, ⊤}
use Rattle.ucon_model.specs.declared.command.Caller.{Caller}
use Rattle.ucon_model.specs.declared.command.Command.{Command}
use Rattle.ucon_model.specs.declared.command.Entry.{Entry}
use Rattle.ucon_model.specs.declared.formula.Ref.{Ref}
use Rattle.ucon_model.specs.declared.session.SessionRow.{SessionRow}
use Rattle.ucon_base.specs.Elements.{Each}
use Rattle.ucon_model.specs.CommandLine.{IsCommand}
use Rattle.ucon_model.specs.Plain.{Bytes, PlainPolicy, PlainReply, made}
use Rattle.ucon_model.specs.Action.{Trace}
use Rattle.ucon_model.specs.Readings.{in_force}
use Rattle.ucon_model.specs.Truth.{Readings, readings}
use Rattle.ucon_model.specs.Block.{after, reply}

-- a caller's commands in the order in which they took place, the oldest first
abbrev pub History : Type 0
History = List Entry

-- each entry's command is one that a line may give
abbrev pub AreCommands : History → Type 0
AreCommands H = Each (λ e. IsCommand e.command) H

-- the trace after these entries, from a trace on
abbrev pub trace_from : PlainPolicy → Trace → History → Trace
trace_from P T [] = T
trace_from P T (e ∷ H) = trace_from P (after P T e.caller e.command) H

-- the trace of a history: the blocks of its entries, each after the trace before it
abbrev pub trace : PlainPolicy → History → Trace
trace P H = trace_from P [] H

-- the reply after a history
abbrev pub said : PlainPolicy → History → Caller → Command → PlainReply
said P H caller c = reply P (trace P H) caller c

-- whether a reply changes something
abbrev pub changes : PlainReply → Bool
changes (made head revoked) = true
changes r = false

-- the history with the entry, if its reply changes something
abbrev pub grown : PlainPolicy → History → Entry → History
grown P H e = if changes (said P H e.caller e.command) then H ++ e ∷ [] else H

-- One run over these lines, from a history on: each reply with its place. That is its record's number if it changes something, and the number of
-- records so far if it doesn't.
abbrev pub serial : PlainPolicy → History → List Entry → List (ℕ × PlainReply)
serial P H [] = []
serial P H (e ∷ lines) = (length (grown P H e), said P H e.caller e.command) ∷ serial P (grown P H e) lines

-- from a history on, each entry's reply changes something
abbrev pub IsProperFrom : PlainPolicy → History → History → Type 0
IsProperFrom P H [] = ⊤
IsProperFrom P H (e ∷ rest) = IsTrue (changes (said P H e.caller e.command)) × IsProperFrom P (H ++ e ∷ []) rest

-- each entry's reply, after the entries before it, changes something
abbrev pub IsProper : PlainPolicy → History → Type 0
IsProper P H = IsProperFrom P [] H

-- two ways to read agree, point by point
pub record Agree (R S : Readings) : Type 0 where
  pub now : R.now ≡ S.now
  pub row : (n : ℕ) → R.row n ≡ S.row n
  pub at : (row : SessionRow) (place : Ref) → R.at row place ≡ S.at row place
  pub done_at : (s a o : Bytes) → R.done_at s a o ≡ S.done_at s a o

-- A keeper of state stands for a history. Its policy is the one in force after the history, and what it gives to read is that of the history's
-- trace.
pub record StandsFor (policy : PlainPolicy) (given : Readings) (P : PlainPolicy) (H : History) : Type 0 where
  pub policy_is : policy ≡ in_force P (trace P H)
  pub readings_are : Agree given (readings P (trace P H))
