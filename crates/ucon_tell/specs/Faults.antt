-- The faults of a source, as a conversation tells them.
use Rattle.ucon_flow.specs.declared.source.ReadFault.{ReadFault}
use Rattle.ucon_flow.specs.declared.source.ReadFault.TheVariants as reading
use Rattle.ucon_tell.specs.declared.talk_fault.TalkFault.{TalkFault}
use Rattle.ucon_tell.specs.declared.talk_fault.TalkFault.TheVariants as faults

abbrev pub fault_of : ReadFault → TalkFault
fault_of reading.SourceFault = faults.SourceFault
fault_of reading.TooLong = faults.TooLong
fault_of (reading.NoMemory e) = faults.NoMemory e
