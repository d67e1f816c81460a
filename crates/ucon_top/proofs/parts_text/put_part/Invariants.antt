use Rattle.std.proofs.Common.{◌≡◌, ◌++◌}
use Rattle.ucon_base.specs.Elements.{Each}
use Rattle.ucon_model.specs.Output.{FitsLine, output}
use Rattle.ucon_client.specs.Answers.{told_of}
use Rattle.ucon_top.proofs.Parted.{told_from}
use Rattle.ucon_top.proofs.parts_text.put_part.Given as goal

abbrev pub invariant-loop-place : goal.invariant-loop-place
invariant-loop-place l = record {
  text : l.out.items ++ output (told_from l.place l.part) ≡ l.fn.out.items ++ output (told_of l.part);
  fits : Each (λ t. FitsLine t.answer) (told_from l.place l.part) → Each (λ t. FitsLine t.answer) (told_of l.part);
}
