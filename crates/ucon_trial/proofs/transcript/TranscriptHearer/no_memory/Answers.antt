use Rattle.ucon_trial.proofs.Transcribing.{one_line_more}
use Rattle.ucon_trial.proofs.transcript.TranscriptHearer.no_memory.Goals as goal

pub returns : goal.returns
returns c = λ told is. one_line_more c.args.self.now.text.items _ told _ is c.in_ok-put_unplaced.ensures.text tt c.in_ok-put_unplaced.ensures.client
