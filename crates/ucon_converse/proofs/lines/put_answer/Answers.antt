use Rattle.std.proofs.Common.{◌≡◌, ◌++◌, ◌∷◌, [], ◌<◌, List, ℕ, Result, Err, arith, subst, sym}
use Rattle.std.specs.Prelude.{OnOk}
use Rattle.std.specs.Fmt.{decimal}
use Rattle.ucon_flow.specs.Lines.{IsLine}
use Rattle.ucon_model.specs.LegalRun.{placed}
use Rattle.ucon_model.specs.Output.{Lacks}
use Rattle.ucon_model.specs.Spelling.{reply_spelling}
use Rattle.ucon_model.specs.Views.{reply_of}
use Rattle.ucon_store.specs.declared.placed.Placed.{Placed}
use Rattle.ucon_store.specs.declared.fault.StepFault.{StepFault}
use Rattle.ucon_converse.specs.Replies.{client_line}
use Rattle.ucon_converse.specs.Said.{answer_said}
use Rattle.ucon_converse.proofs.OneLine.{client_line_is, on_ok, on_ok_both, placed_line_is}
use Rattle.ucon_converse.proofs.lines.put_answer.Goals as goal

pub returns-in-Ok-clause-line : goal.returns-in-Ok-clause-line
returns-in-Ok-clause-line c =
    let p = c.in-Ok.placed in
    rw c.in-Ok.is
    (on_ok_both c.put_reply.result (Lacks 10 (reply_spelling (reply_of p.reply))) (c.args.caller.0 < 256) (IsLine (client_line c.args.caller (placed p.place (reply_of p.reply))))
    (λ lacks few. placed_line_is c.texts_lack_bytes.ensures.numbers c.args.caller p.place (reply_of p.reply) few (omega arith) lacks)
    c.put_reply.ensures.one_line c.put_reply.ensures.client)

pub returns-in-Err-clause-text : goal.returns-in-Err-clause-text
returns-in-Err-clause-text c =
    subst (λ (s : Result Placed StepFault). OnOk c.put_unplaced.result (c.put_unplaced.new.out.items ≡ c.args.out.now.items ++ client_line c.args.caller (answer_said s)))
    (sym c.in-Err.is)
    (subst (λ (w : List ℕ). OnOk c.put_unplaced.result (c.put_unplaced.new.out.items ≡ c.args.out.now.items ++ (decimal c.args.caller.0 ++ 32 ∷ w ++ 10 ∷ [])))
    c.unplaced_words.ensures.words c.put_unplaced.ensures.text)

pub returns-in-Err-clause-line : goal.returns-in-Err-clause-line
returns-in-Err-clause-line c =
    let answer = answer_said (Err c.in-Err.fault) in
    subst (λ (s : Result Placed StepFault). OnOk c.put_unplaced.result (IsLine (client_line c.args.caller (answer_said s)))) (sym c.in-Err.is)
    (on_ok c.put_unplaced.result (c.args.caller.0 < 256) (IsLine (client_line c.args.caller answer))
    (λ few. client_line_is c.args.caller answer (c.texts_lack_bytes.ensures.numbers 10 c.args.caller.0 (omega arith) (omega (arith, few)))
    (subst (λ (w : List ℕ). Lacks 10 w) c.unplaced_words.ensures.words c.unplaced_words.ensures.line)) c.put_unplaced.ensures.client)
