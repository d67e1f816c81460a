use Rattle.ucon_syntax.proofs.Counts.{spelled_within}
use Rattle.ucon_syntax.proofs.laws.spelled_policies_keep_the_limits.Goals as goal

pub returns : goal.returns
returns c = spelled_within
