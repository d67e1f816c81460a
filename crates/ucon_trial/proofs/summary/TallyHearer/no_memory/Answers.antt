use Rattle.ucon_trial.proofs.Tallying.{none_more}
use Rattle.ucon_trial.proofs.summary.TallyHearer.no_memory.Goals as goal
use Rattle.std.proofs.Common.{refl}

pub returns : goal.returns
returns c = λ told is. rw c.count_line.ensures (none_more c.args.self.now told _ refl is)
