use Rattle.ucon_trial.proofs.Transcribing.{one_line_more}
use Rattle.ucon_trial.proofs.transcript.TranscriptHearer.reply.Goals as goal

pub returns : goal.returns
returns c = λ told is.
    let put = c.in_ok-put_reply.ensures in
    one_line_more c.args.self.now.text.items _ told _ is put.text (c.ranges.place.fits, put.one_line, put.read_back) put.client
