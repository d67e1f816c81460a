use Rattle.std.proofs.Common.{◌≡◌, map, sym}
use Rattle.std.proofs.lemmas.Simd.{map-map}
use Rattle.ucon_model.specs.Checked.{checked_policy}
use Rattle.ucon_model.specs.Document.{entry_of as said_entry, entries_of}
use Rattle.ucon_script.specs.Document.{spelled_line, lines_spelled}
use Rattle.ucon_trial.specs.Hearing.{HasHeard}
use Rattle.ucon_trial.specs.OneAnswer.{entry_of}
use Rattle.ucon_trial.specs.Transcript.{IsTranscript}
use Rattle.ucon_trial.proofs.Transcribing.{transcribed}
use Rattle.ucon_trial.proofs.trial.trial_output.Goals as goal

pub returns : goal.returns
returns g c =
    let lines = c.args.script.now.lines.items in
    let P = checked_policy c.args.checked in
    let same : map entry_of lines ≡ entries_of (lines_spelled c.args.script.now) = sym (map-map said_entry spelled_line lines) in
    let heard : HasHeard P (IsTranscript c.in_ok-transcript.transcript.text.items) (map entry_of lines) =
    rw c.slice.ensures at (c.in_ok-transcript.ensures.heard P c.in_ok-engine.ensures) in
    rw (← same) (transcribed c.outputs_are_read_back.ensures c.serial_runs_are_legal.ensures P (map entry_of lines) c.in_ok-transcript.transcript.text.items heard)
