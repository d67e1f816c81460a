use Rattle.ucon_model.proofs.SpelledReplies.{spelled_reply}
use Rattle.ucon_model.proofs.laws.changing_replies_can_be_spelled.Goals as goal

pub returns : goal.returns
returns c = spelled_reply
