use Rattle.std.proofs.Common.{◌≡◌, ◌+◌, ◌++◌, List, drop, sym, ap, subst, ◌∙◌}
use Rattle.std.proofs.lemmas.List.{append_assoc}
use Rattle.ucon_base.specs.Elements.{Each, each_append}
use Rattle.ucon_model.specs.LegalRun.{Answered}
use Rattle.ucon_model.specs.Output.{FitsLine, output}
use Rattle.ucon_client.specs.declared.part.Part.{Part}
use Rattle.ucon_client.specs.Answers.{told_in, told_of}
use Rattle.ucon_top.proofs.Parted.{output_append, told_part}
use Rattle.ucon_top.proofs.parts_text.parts_text.Goals as goal

pub loop-part-preserved : goal.loop-part-preserved
loop-part-preserved c =
    let parts : List Part = c.args.parts.now in
    let n = c.loop-part.part-index in
    let i = c.loop-part.invariant in
    let part : Part = c.part-item.result in
    let behind : List Answered = told_in (drop (n + 1) parts) in
    let more : told_in (drop n parts) ≡ told_of part ++ behind = told_part parts n part c.loop-part-test.true c.part-item.is in
    record {
      text = ap (λ l. l ++ output behind) c.in_ok-put_part.ensures.text
          ∙ (append_assoc c.loop-part.text.items (output (told_of part)) (output behind)
          ∙ (ap (λ l. c.loop-part.text.items ++ l) (sym (ap output more ∙ output_append (told_of part) behind)) ∙ i.text));
      fits = λ rest. i.fits (subst (Each (λ t. FitsLine t.answer)) (sym more)
          (each_append (λ t. FitsLine t.answer) (told_of part) behind c.in_ok-put_part.ensures.fits rest));
    }
