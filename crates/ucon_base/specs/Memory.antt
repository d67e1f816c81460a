-- Want of memory.
use Rattle.ucon_base.specs.declared.no_memory.NoMemory.{NoMemory}

-- its one value
abbrev pub out_of_memory : NoMemory
out_of_memory = record { 0 = tt }
