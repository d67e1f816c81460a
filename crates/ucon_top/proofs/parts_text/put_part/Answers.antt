use Rattle.std.proofs.Common.{rules, ◌≡◌, ◌+◌, ◌<◌, ◌++◌, ◌∷◌, [], length, get_or, arith, sym, ap, subst, ◌∙◌}
use Rattle.std.specs.Fmt.{decimal}
use Rattle.std.proofs.lemmas.List.{append_assoc}
use Rattle.ucon_base.specs.Elements.{Each}
use Rattle.ucon_model.specs.Output.{FitsLine, answer_spelling, output}
use Rattle.ucon_script.specs.declared.document.Line.{Line}
use Rattle.ucon_client.specs.declared.answer.Answer.{Answer}
use Rattle.ucon_client.specs.declared.part.Part.{Part}
use Rattle.ucon_client.specs.Answers.{answer_of, entry_of}
use Rattle.ucon_top.proofs.Parted.{told_from, told_next}
use Rattle.ucon_top.proofs.parts_text.put_part.Goals as goal

pub loop-place-preserved : goal.loop-place-preserved
loop-place-preserved c =
    let part : Part = c.args.part.now in
    let n = c.loop-place.place in
    let i = c.loop-place.invariant in
    let line : Line = c.index-lines-place.result in
    let a : Answer = c.index-answers-place.result in
    let at_line : line ≡ get_or part.lines.items n line = search rules in
    let at_answer : a ≡ get_or part.answers.items n a = search rules in
    let is : get_or c.slice-lines.result.now n line ≡ line = search rules in
    let lt : n < length part.answers.items = search rules in
    let more : told_from n part ≡ record { line = entry_of line; answer = answer_of a } ∷ told_from (n + 1) part =
    told_next part n line a (omega (arith, lt, c.requires)) lt at_line at_answer in
    record {
      text = ap (λ l. l ++ output (told_from (n + 1) part))
          (c.in_ok-put_answer.ensures.text ∙ ap (λ (x : Line). c.loop-place.out.items ++ (decimal x.caller.0 ++ 32 ∷ answer_spelling (answer_of a) ++ 10 ∷ [])) is)
          ∙ (append_assoc _ _ (output (told_from (n + 1) part)) ∙ (ap (λ l. c.loop-place.out.items ++ output l) (sym more) ∙ i.text));
      fits = λ rest. i.fits (subst (Each (λ t. FitsLine t.answer)) (sym more) (c.in_ok-put_answer.ensures.fits, rest));
    }
