-- The summary of a run.
use Rattle.std.proofs.Common.{◌≡◌, ◌<◌, ◌^◌, List, [], map, length, sym, ap, ◌∙◌, arith}
use Rattle.std.proofs.lemmas.List.{length-map}
use Rattle.ucon_model.specs.declared.command.Entry.{Entry}
use Rattle.ucon_model.specs.Plain.{Bytes, PlainPolicy}
use Rattle.ucon_model.specs.Summary.{answered, no_lines, summary, whole_run}
use Rattle.ucon_trial.specs.declared.summary.Tally.{Tally}
use Rattle.ucon_trial.specs.Hearing.{HasHeard, line_of}
use Rattle.ucon_trial.specs.Runs.{IsRunSummary}
use Rattle.ucon_trial.specs.Tallies.{IsTally, counts_of}
use Rattle.ucon_trial.proofs.Replies.{SerialIsLegal, serial_run, unfaulted, whole, lines_counted}

pub summed : SerialIsLegal → (P : PlainPolicy) (lines : List Entry) (tally : Tally) (text : Bytes) → length lines < 2 ^ 64 → HasHeard P (IsTally tally) lines
    → text ≡ summary (counts_of tally) → IsRunSummary P lines text
summed serial P lines tally text few h text_is =
    let len : length h.told ≡ length lines = sym (length-map h.told line_of) ∙ ap length h.lines_are in record {
      told = h.told;
      lines_are = h.lines_are;
      text_is = text_is ∙ ap summary (h.heard.exact (omega (arith, few, len)));
      replies = h.run;
      legal = serial P [] (map answered h.told) (serial_run P [] h.told h.run);
      unfaulted = unfaulted h.told;
      whole = λ all.
          whole P [] no_lines h.told h.run (omega (arith, all, lines_counted no_lines h.told)) ∙ ap (whole_run P []) h.lines_are;
    }
