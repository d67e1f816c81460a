-- Why a script ends before its input does.
use Rattle.ucon_flow.specs.declared.source.ReadFault.{ReadFault}
use Rattle.ucon_flow.specs.declared.source.ReadFault.TheVariants as reads
use Rattle.ucon_script.specs.declared.doc_fault.DocFault.{DocFault}
use Rattle.ucon_script.specs.declared.doc_fault.DocFault.TheVariants as faults
use Rattle.ucon_script.specs.declared.script_stop.ScriptStop.{ScriptStop}
use Rattle.ucon_script.specs.declared.script_stop.ScriptStop.TheVariants.{Refused, SourceFault, TooLong, NoMemory}

-- what stops a script whose next line wasn't given out
abbrev pub stop_of_reading : ReadFault → ScriptStop
stop_of_reading reads.SourceFault = SourceFault
stop_of_reading reads.TooLong = TooLong
stop_of_reading (reads.NoMemory e) = NoMemory e

-- what stops a script whose next line is refused
abbrev pub stop_of_line : DocFault → ScriptStop
stop_of_line (faults.NoMemory e) = NoMemory e
stop_of_line f = Refused f
