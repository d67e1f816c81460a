use Rattle.std.proofs.Common.{◌≡◌, ℕ, ◌+◌, ◌-◌, ◌∙◌, ◌++◌, suc, refl, sym, ap, append_assoc, arith}
use Rattle.std.specs.Fmt.{digits}
use Rattle.ucon_model.specs.Plain.{Bytes}
use Rattle.ucon_model.specs.CommandLine.{command_spelling}
use Rattle.ucon_model.specs.Generated.{generated, generated_head, generated_policy, opening, all_drawn, entry_lines, text_of}
use Rattle.ucon_script.specs.Generator.{generator_of}
use Rattle.ucon_script.proofs.Drawing.{drawn_is}
use Rattle.ucon_script.proofs.Generating.{one_more}
use Rattle.ucon_script.proofs.draws.generate.Goals as goal

pub loop-drawn-init : goal.loop-drawn-init
unfolding generated generated_head generated_policy opening command_spelling digits
loop-drawn-init c =
    let none : c.args.size - 0 ≡ c.args.size = omega arith in
    record {
      text = rw (c.in_ok-text.ensures.items, c.new-generator.ensures, none) refl;
      within = rw c.new-generator.ensures (record { tries = omega arith; tick = omega arith });
    }

pub loop-drawn-preserved : goal.loop-drawn-preserved
loop-drawn-preserved c =
    let i = c.loop-drawn._drawn in
    let g = generator_of c.loop-drawn.generator in
    let left : c.args.size - i ≡ suc (c.args.size - (i + 1)) = omega arith in
    let next = drawn_is i g (omega arith) c.loop-drawn.invariant.within in
    record {
      text = rw (c.in_ok-put_entry.ensures, c.entry-entry.ensures.entry, c.entry-entry.ensures.after)
          (append_assoc c.loop-drawn.text.items _ _ ∙ ap (λ (t : Bytes). c.loop-drawn.text.items ++ t) (sym (one_more (c.args.size - (i + 1)) g))
          ∙ ap (λ (n : ℕ). c.loop-drawn.text.items ++ text_of (entry_lines (all_drawn n g))) (sym left) ∙ c.loop-drawn.invariant.text);
      within = rw c.entry-entry.ensures.after next.after;
    }

pub put_entry-requires : goal.put_entry-requires
put_entry-requires c =
    let next = drawn_is c.loop-drawn._drawn (generator_of c.loop-drawn.generator) (omega arith) c.loop-drawn.invariant.within in
    rw c.entry-entry.ensures.entry next.entry.client
