use Rattle.std.proofs.Common.{◌≡◌, ◌<◌, ◌^◌, length, map, sym, ap, arith}
use Rattle.std.proofs.lemmas.List.{length-map}
use Rattle.std.proofs.lemmas.Simd.{map-map}
use Rattle.ucon_model.specs.Checked.{checked_policy}
use Rattle.ucon_model.specs.Document.{entry_of as said_entry, entries_of}
use Rattle.ucon_script.specs.Document.{spelled_line, lines_spelled}
use Rattle.ucon_trial.specs.Hearing.{HasHeard}
use Rattle.ucon_trial.specs.OneAnswer.{entry_of}
use Rattle.ucon_trial.specs.Tallies.{IsTally}
use Rattle.ucon_trial.proofs.Summing.{summed}
use Rattle.ucon_trial.proofs.trial.trial_summary.Goals as goal

pub returns : goal.returns
returns g c =
    let lines = c.args.script.now.lines.items in
    let P = checked_policy c.args.checked in
    let same : map entry_of lines ≡ entries_of (lines_spelled c.args.script.now) = sym (map-map said_entry spelled_line lines) in
    let heard : HasHeard P (IsTally c.in_ok-tally.tally) (map entry_of lines) =
    rw c.slice.ensures at (c.in_ok-tally.ensures.heard P c.in_ok-engine.ensures) in
    let few : length (map entry_of lines) < 2 ^ 64 =
    omega (arith, length-map lines entry_of, ap length c.slice.ensures, c.in_ok-tally.ensures.few) in
    rw (← same) (summed c.serial_runs_are_legal.ensures P (map entry_of lines) c.in_ok-tally.tally c.in_ok-text.text.items few heard c.in_ok-text.ensures)
