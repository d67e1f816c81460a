use Rattle.std.proofs.Common.{◌≡◌, ◌++◌, ◌∷◌, [], sym, subst}
use Rattle.std.specs.Prelude.{OnOk}
use Rattle.std.specs.Fmt.{decimal}
use Rattle.ucon_model.specs.Output.{answer_spelling}
use Rattle.ucon_client.specs.declared.answer.Answer.{Answer}
use Rattle.ucon_client.specs.Answers.{answer_of}
use Rattle.ucon_top.proofs.line_answer.put_answer.Goals as goal

pub returns-in-NoMemory-clause-text : goal.returns-in-NoMemory-clause-text
returns-in-NoMemory-clause-text c =
    subst (λ (answer : Answer). OnOk c.put_unplaced.result (c.put_unplaced.new.out.items
    ≡ c.args.out.now.items ++ (decimal c.args.caller.0 ++ 32 ∷ answer_spelling (answer_of answer) ++ 10 ∷ [])))
    (sym c.in-NoMemory.is) c.put_unplaced.ensures.text

pub returns-in-DiskFault-clause-text : goal.returns-in-DiskFault-clause-text
returns-in-DiskFault-clause-text c =
    subst (λ (answer : Answer). OnOk c.put_unplaced-in-DiskFault.result (c.put_unplaced-in-DiskFault.new.out.items
    ≡ c.args.out.now.items ++ (decimal c.args.caller.0 ++ 32 ∷ answer_spelling (answer_of answer) ++ 10 ∷ [])))
    (sym c.in-DiskFault.is) c.put_unplaced-in-DiskFault.ensures.text
