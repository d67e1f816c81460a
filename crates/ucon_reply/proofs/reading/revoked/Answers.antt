use Rattle.std.proofs.Common.{arith}
use Rattle.ucon_reply.proofs.Revoked.{some_left}
use Rattle.ucon_reply.proofs.reading.revoked.Goals as goal

pub returns-else-is_empty : goal.returns-else-is_empty
returns-else-is_empty c = some_left c.loop-rest.rows.items c.loop-rest.rest.now _ c.loop-rest.invariant (grind arith) (omega (arith, c.in_default.len_below))
