use Rattle.std.proofs.Common.{◌∷◌, [], ◌++◌, List, ap, ◌∙◌}
use Rattle.ucon_client.specs.declared.answer.Answer.{Answer}
use Rattle.ucon_client.proofs.Held.{reads_on}
use Rattle.ucon_client.proofs.looks.take_in.Goals as goal

pub returns-clause-looks : goal.returns-clause-looks
returns-clause-looks c =
    reads_on c.args.part.now c.add.new.self c.args.looks c.settle.result c.after-on.result c.args.answer c.requires.held
    (c.add.ensures.kept.1 ∙ c.settle.ensures.kept.1)
    (c.add.ensures.answers ∙ ap (λ (l : List Answer). l ++ c.args.answer ∷ []) c.settle.ensures.answers)
    c.requires.more c.settle.ensures.looks c.after-on.ensures
