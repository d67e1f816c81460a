use Rattle.ucon_model.proofs.TellsChange.{tells_change-reply_spelling}
use Rattle.ucon_model.proofs.finding.texts_tell_changes.Goals as goal

pub returns : goal.returns
returns c = tells_change-reply_spelling
