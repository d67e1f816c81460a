use Rattle.std.proofs.Common.{refl}
use Rattle.std.specs.Prelude.{codes}
use Rattle.ucon_converse.proofs.lines.unplaced_words.Goals as goal

pub returns-in-NoMemory-clause-line : goal.returns-in-NoMemory-clause-line
returns-in-NoMemory-clause-line c = c.texts_lack_bytes.ensures.tested 10 (codes "- no memory") refl

pub returns-in-DiskFault-clause-line : goal.returns-in-DiskFault-clause-line
returns-in-DiskFault-clause-line c = c.texts_lack_bytes.ensures.tested 10 (codes "- disk fault") refl

pub returns-in-Stopped-clause-line : goal.returns-in-Stopped-clause-line
returns-in-Stopped-clause-line c = c.texts_lack_bytes.ensures.tested 10 (codes "- stopped") refl
