use Rattle.ucon_model.proofs.Lacking.{lacks-append, lacks-tested, lacks-decimal, lacks-name}
use Rattle.ucon_model.proofs.laws.texts_lack_bytes.Goals as goal

pub returns-clause-joined : goal.returns-clause-joined
returns-clause-joined c = lacks-append

pub returns-clause-tested : goal.returns-clause-tested
returns-clause-tested c = lacks-tested

pub returns-clause-numbers : goal.returns-clause-numbers
returns-clause-numbers c = lacks-decimal

pub returns-clause-names : goal.returns-clause-names
returns-clause-names c = lacks-name
