use Rattle.std.proofs.Common.{refl}
use Rattle.ucon_converse.proofs.ReadingBack.{what_is_read, what_is_written}
use Rattle.ucon_converse.proofs.laws.readings_are_read_back.Goals as goal

pub returns-clause-written : goal.returns-clause-written
returns-clause-written c = what_is_written c.words_are_read_back.ensures.numbers_written (λ name is. c.texts_lack_bytes.ensures.names 32 name refl is)

pub returns-clause-read : goal.returns-clause-read
returns-clause-read c = what_is_read c.words_are_read_back.ensures.numbers_read
