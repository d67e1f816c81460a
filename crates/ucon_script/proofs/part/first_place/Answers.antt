use Rattle.std.specs.Prelude.{◌==◌}
use Rattle.ucon_script.proofs.FirstByte.{first_is_position, first_is_within}
use Rattle.ucon_script.proofs.part.first_place.Goals as goal

pub returns-clause-place : goal.returns-clause-place
returns-clause-place c = first_is_position (λ b. b == c.args.separator) c.args.bytes.now c.memchr.result c.memchr.ensures

pub returns-clause-within : goal.returns-clause-within
returns-clause-within c = first_is_within (λ b. b == c.args.separator) c.args.bytes.now c.memchr.result c.memchr.ensures
