use Rattle.std.proofs.Common.{◌≡◌, ◌<◌, ◌++◌, drop, map}
use Rattle.ucon_base.specs.Elements.{Each}
use Rattle.ucon_model.specs.Output.{FitsLine, output}
use Rattle.ucon_top.specs.Stepping.{told_line}
use Rattle.ucon_top.proofs.line_answer.output_text.Given as goal

abbrev pub invariant-loop-one : goal.invariant-loop-one
invariant-loop-one l = record {
  text : l.text.items ++ output (map told_line (drop l.one-index l.answered)) ≡ output (map told_line l.answered);
  fits : Each (λ t. FitsLine t.answer) (map told_line (drop l.one-index l.answered)) → Each (λ t. FitsLine t.answer) (map told_line l.answered);
  clients : Each (λ t. t.line.caller.0 < 256) (map told_line (drop l.one-index l.answered)) → Each (λ t. t.line.caller.0 < 256) (map told_line l.answered);
}
