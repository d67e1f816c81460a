use Rattle.ucon_syntax.proofs.TextsRead.{reading_found, reading_within, reading_only, reading_reason, reading_refuses}
use Rattle.ucon_syntax.proofs.read.read_policy.Goals as goal

pub returns-clause-found : goal.returns-clause-found
returns-clause-found c = reading_found c.read.result c.args.text.now c.read.ensures.read

pub returns-clause-within : goal.returns-clause-within
returns-clause-within c = reading_within c.read.result c.args.text.now c.read.ensures.read

pub returns-clause-only : goal.returns-clause-only
returns-clause-only c = reading_only c.read.result c.args.text.now c.read.ensures.read

pub returns-clause-reason : goal.returns-clause-reason
returns-clause-reason c = reading_reason c.read.result c.args.text.now c.read.ensures.read

pub returns-clause-refuses : goal.returns-clause-refuses
returns-clause-refuses c = reading_refuses c.read.result c.args.text.now c.read.ensures.read
