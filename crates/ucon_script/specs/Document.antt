-- What a document that was read says, and what its fault says.
use Rattle.std.specs.Prelude.{◌≡◌, ℕ, List, map, Option, Some, None, Result, Ok, Err, ⊤}
use Rattle.ucon_command.specs.declared.line_fault.LineFault.{LineFault}
use Rattle.ucon_command.specs.declared.line_fault.LineFault.TheVariants as faults
use Rattle.ucon_model.specs.declared.command.Command.{Command}
use Rattle.ucon_model.specs.declared.command.Command.TheVariants.{Look}
use Rattle.ucon_model.specs.CommandLine.{LineRefusal, line_read, line_too_long, no_word, unknown_word, wrong_count, bad_word}
use Rattle.ucon_model.specs.Document.{ScriptLine, DocumentRefusal, too_many_clients, bad_heading, too_many_lines, bad_line}
use Rattle.ucon_syntax.specs.Policies.{accepted}
use Rattle.ucon_script.specs.declared.document.Line.{Line}
use Rattle.ucon_script.specs.declared.document.Document.{Document}
use Rattle.ucon_script.specs.declared.line_text.LineText.{LineText}
use Rattle.ucon_script.specs.declared.line_text.Script.{Script}
use Rattle.ucon_script.specs.declared.doc_fault.DocFault.{DocFault}
use Rattle.ucon_script.specs.declared.doc_fault.DocFault.TheVariants.{BadHeading, BadLine, TooManyClients, TooManyLines, NoMemory}

-- a command line, as the definition has it
abbrev pub line_of : Line → ScriptLine
line_of l = record { number = l.number; caller = l.caller; command = l.command }

-- the command lines of a document that was read
abbrev pub lines_said : Document → List ScriptLine
lines_said d = map line_of d.lines.items

-- the command that bytes spell; those of a command line do, so that the last case never is
abbrev pub spelled : Result Command LineRefusal → Command
spelled (Ok command) = command
spelled (Err refusal) = Look 0

-- a command line where it stands, as the definition has it
abbrev pub spelled_line : LineText → ScriptLine
spelled_line l = record { number = l.number; caller = l.caller; command = spelled (line_read accepted l.command.text.now) }

-- the command lines of a script that was read where it stands
abbrev pub lines_spelled : Script → List ScriptLine
lines_spelled s = map spelled_line s.lines.items

-- the document's fault if the line of this number has this one
abbrev pub fault_of : ℕ → LineFault → DocFault
fault_of n (faults.NoMemory e) = NoMemory e
fault_of n f = BadLine n f

-- the refusal is that the line of this number is no command, by the cause that the line's fault says
abbrev pub IsLineCause : {A : Type 0} → ℕ → Result A DocumentRefusal → LineFault → Type 0
IsLineCause n read (faults.TooLong k) = read ≡ Err (bad_line n (line_too_long k))
IsLineCause n read faults.NoWord = read ≡ Err (bad_line n no_word)
IsLineCause n read faults.UnknownWord = read ≡ Err (bad_line n unknown_word)
IsLineCause n read (faults.WrongCount k) = read ≡ Err (bad_line n (wrong_count k))
IsLineCause n read (faults.BadWord p) = read ≡ Err (bad_line n (bad_word p))
IsLineCause n read (faults.NoMemory e) = ⊥

-- the refusal is what the fault says, unless memory ran out
abbrev pub IsCause : {A : Type 0} → Result A DocumentRefusal → DocFault → Type 0
IsCause read (BadHeading n) = read ≡ Err (bad_heading n)
IsCause read (BadLine n f) = IsLineCause n read f
IsCause read (TooManyClients n) = read ≡ Err (too_many_clients n)
IsCause read (TooManyLines n) = read ≡ Err (too_many_lines n)
IsCause read (NoMemory e) = ⊤

-- This fault is told of a line that says this. All but a command is told whatever memory there is. So there is no fault for a line that says
-- nothing or is a heading. A wrong heading, a line above the first heading and one command line too many have their own.
abbrev pub IsSure : Result (Option ScriptLine) DocumentRefusal → DocFault → Type 0
IsSure (Ok None) f = ⊥
IsSure (Ok (Some said)) f = ⊤
IsSure (Err (too_many_clients n)) f = f ≡ TooManyClients n
IsSure (Err (bad_heading n)) f = f ≡ BadHeading n
IsSure (Err (too_many_lines n)) f = f ≡ TooManyLines n
IsSure (Err (bad_line n cause)) f = ⊤

-- what was returned, seen by a view, is what is read, unless memory ran out
abbrev pub Gives : {X A : Type 0} → (X → A) → Result X DocFault → Result A DocumentRefusal → Type 0
Gives view (Ok x) read = read ≡ Ok (view x)
Gives view (Err f) read = IsCause read f
