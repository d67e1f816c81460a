use Rattle.std.proofs.Common.{◌≡◌, ◌++◌, ◌-◌}
use Rattle.ucon_model.specs.Generated.{all_drawn, entry_lines, generated, text_of}
use Rattle.ucon_script.specs.Generator.{generator_of}
use Rattle.ucon_script.proofs.Drawing.{IsWithin}
use Rattle.ucon_script.proofs.draws.generate.Given as goal

-- the text so far, and the lines that are still to be drawn
abbrev pub invariant-loop-drawn : goal.invariant-loop-drawn
invariant-loop-drawn l = record {
  text : l.text.items ++ text_of (entry_lines (all_drawn (l.size - l._drawn) (generator_of l.generator))) ≡ generated l.seed l.size;
  within : IsWithin l._drawn (generator_of l.generator);
}
