use Rattle.ucon_script.proofs.Judging.{nothing_said, more_said}
use Rattle.ucon_script.proofs.laws.scripts_are_judged_on.Goals as goal

pub returns : goal.returns
returns g c = record { none = nothing_said g.S.Source.seen; more = more_said g.S.Source.seen }
