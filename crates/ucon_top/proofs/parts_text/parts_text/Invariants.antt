use Rattle.std.proofs.Common.{◌≡◌, ◌++◌, drop}
use Rattle.ucon_base.specs.Elements.{Each}
use Rattle.ucon_model.specs.Output.{FitsLine, output}
use Rattle.ucon_client.specs.Answers.{told_in}
use Rattle.ucon_top.proofs.parts_text.parts_text.Given as goal

abbrev pub invariant-loop-part : goal.invariant-loop-part
invariant-loop-part l = record {
  text : l.text.items ++ output (told_in (drop l.part-index l.parts)) ≡ output (told_in l.parts);
  fits : Each (λ t. FitsLine t.answer) (told_in (drop l.part-index l.parts)) → Each (λ t. FitsLine t.answer) (told_in l.parts);
}
