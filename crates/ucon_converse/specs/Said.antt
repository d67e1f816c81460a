-- What is told of a step, and of a line that is none.
use Rattle.std.specs.Prelude.{Bool, true, false, Result, Ok, Err, codes}
use Rattle.ucon_command.specs.declared.line_fault.LineFault.{LineFault}
use Rattle.ucon_command.specs.declared.line_fault.LineFault.TheVariants as lines
use Rattle.ucon_command.specs.declared.request.RequestFault.{RequestFault}
use Rattle.ucon_command.specs.declared.request.RequestFault.TheVariants.{BadClient, BadCommand}
use Rattle.ucon_model.specs.declared.command.Caller.{Caller}
use Rattle.ucon_model.specs.LegalRun.{Answer, placed, no_memory, disk_fault, stopped}
use Rattle.ucon_model.specs.Plain.{Bytes}
use Rattle.ucon_model.specs.Views.{reply_of}
use Rattle.ucon_store.specs.declared.placed.Placed.{Placed}
use Rattle.ucon_store.specs.declared.fault.StepFault.{StepFault}
use Rattle.ucon_store.specs.declared.fault.StepFault.TheVariants as steps
use Rattle.ucon_converse.specs.Replies.{client_line, refusal_line}

-- what a step said, as an answer
abbrev pub answer_said : Result Placed StepFault → Answer
answer_said (Ok p) = placed p.place (reply_of p.reply)
answer_said (Err (steps.NoMemory e)) = no_memory
answer_said (Err steps.DiskFault) = disk_fault
answer_said (Err steps.Stopped) = stopped

-- what a client is told for whose line there is no memory, by whether the disk had failed
abbrev pub unheard_so : Bool → Answer
unheard_so true = stopped
unheard_so false = no_memory

-- the line to a client whose text was refused so
abbrev pub line_told : Bool → Caller → LineFault → Bytes
line_told failed caller (lines.TooLong n) = refusal_line (codes "too long")
line_told failed caller lines.NoWord = refusal_line (codes "no word")
line_told failed caller lines.UnknownWord = refusal_line (codes "unknown word")
line_told failed caller (lines.WrongCount n) = refusal_line (codes "wrong count")
line_told failed caller (lines.BadWord place) = refusal_line (codes "bad word")
line_told failed caller (lines.NoMemory e) = client_line caller (unheard_so failed)

-- the line to one that is no request, by its fault and by whether the disk had failed
abbrev pub fault_line : RequestFault → Bool → Bytes
fault_line BadClient failed = refusal_line (codes "bad client")
fault_line (BadCommand caller fault) failed = line_told failed caller fault
