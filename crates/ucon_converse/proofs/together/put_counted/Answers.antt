use Rattle.std.proofs.Common.{sym}
use Rattle.ucon_converse.proofs.Putting.{replied_count}
use Rattle.ucon_converse.proofs.together.put_counted.Goals as goal

pub returns-clause-count : goal.returns-clause-count
returns-clause-count c = sym (replied_count c.args.lines.now c.args.placed.now c.requires)
