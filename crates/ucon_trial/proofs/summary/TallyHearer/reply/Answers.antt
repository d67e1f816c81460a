use Rattle.ucon_trial.proofs.Tallying.{reply_more}
use Rattle.ucon_trial.proofs.summary.TallyHearer.reply.Goals as goal
use Rattle.std.proofs.Common.{refl}

pub returns : goal.returns
returns c = λ told is. rw (c.count_reply.ensures.counted, c.count_line.ensures) (reply_more c.args.self.now told _ _ _ refl c.count_reply.ensures.few is)
