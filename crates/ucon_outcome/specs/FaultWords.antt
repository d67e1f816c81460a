-- The line that is printed of an outcome.
use Rattle.std.specs.Prelude.{ℕ, [], ◌∷◌, ◌++◌, codes}
use Rattle.std.specs.Fmt.{decimal}
use Rattle.ucon_model.specs.Plain.{Bytes}
use Rattle.ucon_syntax.specs.declared.read.SyntaxFault.{SyntaxFault}
use Rattle.ucon_syntax.specs.declared.read.SyntaxFault.TheVariants as syntax
use Rattle.ucon_check.specs.declared.fault.CheckFault.{CheckFault}
use Rattle.ucon_check.specs.declared.fault.CheckFault.TheVariants as typing
use Rattle.ucon_command.specs.declared.line_fault.LineFault.{LineFault}
use Rattle.ucon_command.specs.declared.line_fault.LineFault.TheVariants as lines
use Rattle.ucon_script.specs.declared.doc_fault.DocFault.{DocFault}
use Rattle.ucon_script.specs.declared.doc_fault.DocFault.TheVariants as scripts
use Rattle.ucon_outcome.specs.declared.outcome.PolicyFault.{PolicyFault}
use Rattle.ucon_outcome.specs.declared.outcome.PolicyFault.TheVariants.{Syntax, Typing}
use Rattle.ucon_outcome.specs.declared.outcome.Outcome.{Outcome}
use Rattle.ucon_outcome.specs.declared.outcome.Outcome.TheVariants.{Done, Usage, Policy, Script, SourceFault, SinkFault, DiskFault, Damaged}
use Rattle.ucon_outcome.specs.declared.outcome.Outcome.TheVariants.{NotJournal, NoMemory, OtherPolicy, TooLong, FullPoint, OldJournal}

-- words, and the place, item or line where, or how many
abbrev pub told_at : Bytes → ℕ → Bytes
told_at words n = words ++ decimal n

abbrev pub syntax_words : SyntaxFault → Bytes
syntax_words (syntax.UnknownByte place) = told_at (codes "unknown byte at ") place
syntax_words (syntax.Unexpected place) = told_at (codes "unexpected at ") place
syntax_words (syntax.TooLong place) = told_at (codes "too long at ") place
syntax_words (syntax.TooDeep place) = told_at (codes "too deep at ") place
syntax_words (syntax.TooMany place) = told_at (codes "too many at ") place
syntax_words (syntax.NoMemory e) = codes "no memory"

abbrev pub typing_words : CheckFault → Bytes
typing_words (typing.Twice name item) = codes "twice " ++ name ++ told_at (codes " at item ") item
typing_words (typing.NoName name item) = codes "no name " ++ name ++ told_at (codes " at item ") item
typing_words (typing.WrongReader item) = told_at (codes "wrong reader at item ") item
typing_words (typing.WrongKind item) = told_at (codes "wrong kind at item ") item
typing_words (typing.NotCore right) = codes "not core " ++ right
typing_words (typing.TooManyCells right count) = codes "too many cells " ++ right ++ 32 ∷ decimal count

abbrev pub policy_words : PolicyFault → Bytes
policy_words (Syntax f) = syntax_words f
policy_words (Typing f) = typing_words f

abbrev pub line_words : LineFault → Bytes
line_words (lines.TooLong n) = codes "too long at line "
line_words lines.NoWord = codes "no word at line "
line_words lines.UnknownWord = codes "unknown word at line "
line_words (lines.WrongCount n) = codes "wrong count at line "
line_words (lines.BadWord place) = codes "bad word at line "
line_words (lines.NoMemory e) = codes "no memory at line "

abbrev pub script_words : DocFault → Bytes
script_words (scripts.BadHeading n) = told_at (codes "bad heading at line ") n
script_words (scripts.TooManyClients n) = told_at (codes "too many clients at line ") n
script_words (scripts.TooManyLines n) = told_at (codes "too many lines at line ") n
script_words (scripts.BadLine n f) = told_at (line_words f) n
script_words (scripts.NoMemory e) = codes "no memory"

abbrev pub cause_words : Outcome → Bytes
cause_words Done = []
cause_words Usage = codes "usage"
cause_words (Policy f) = codes "policy: " ++ policy_words f
cause_words (Script f) = codes "script: " ++ script_words f
cause_words SourceFault = codes "source fault"
cause_words SinkFault = codes "sink fault"
cause_words DiskFault = codes "disk fault"
cause_words (Damaged number place) = told_at (codes "damaged record ") number ++ told_at (codes " at ") place
cause_words NotJournal = codes "not a journal"
cause_words (OtherPolicy place) = told_at (codes "other policy at ") place
cause_words (NoMemory e) = codes "no memory"
cause_words TooLong = codes "input too long"
cause_words (FullPoint size) = told_at (codes "point too large ") size
cause_words OldJournal = codes "old journal"

-- a line behind the program's name
abbrev pub fault_line : Bytes → Bytes
fault_line cause = codes "ucon: " ++ cause ++ 10 ∷ []

-- what is printed: nothing if all is done
abbrev pub fault_words : Outcome → Bytes
fault_words Done = []
fault_words outcome = fault_line (cause_words outcome)

-- the line that tells how many entries stand before a checkpoint
abbrev pub point_line : ℕ → Bytes
point_line entries = codes "point " ++ decimal entries ++ 10 ∷ []
