use Rattle.std.proofs.Common.{◌≡◌, ◌+◌, ◌∷◌, [], ◌++◌, ◌≤◌, List, length, length-append, true, sym, ap, ◌∙◌, subst, refl, arith}
use Rattle.ucon_journal.specs.Journal.{batch_of}
use Rattle.ucon_model.specs.declared.command.Entry.{Entry}
use Rattle.ucon_model.specs.Action.{Trace}
use Rattle.ucon_model.specs.Block.{after, reply as reply_to}
use Rattle.ucon_model.specs.Found.{taken}
use Rattle.ucon_model.specs.History.{History, changes}
use Rattle.ucon_model.specs.Payload.{payload_spelling, revocations_in, told}
use Rattle.ucon_model.specs.Plain.{Bytes, PlainReply}
use Rattle.ucon_model.specs.Views.{reply_of}
use Rattle.ucon_syntax.specs.Policies.{accepted}
use Rattle.ucon_store.specs.Points.{text_behind}
use Rattle.ucon_store.proofs.Filling.{changes_one, one_taken, placed_behind}
use Rattle.ucon_store.proofs.batch.take_up.Goals as goal

pub put_line-requires-clause-few : goal.put_line-requires-clause-few
put_line-requires-clause-few g c =
    let i = c.requires.idle in
    let said_is = c.in_ok-reply.ensures.reply i.policy i.trace i.holds in
    subst (λ (r : PlainReply). length (revocations_in r) ≤ 65536) (sym said_is) (i.few [] c.args.line.now.caller c.args.line.now.command)

pub returns-clause-taken : goal.returns-clause-taken
returns-clause-taken g c = λ P T stands.
    let e : Entry = c.args.line.now in
    let batch = c.args.batch.now in
    let r = c.in_ok-reply.reply in
    let said_is : reply_of r ≡ reply_to P T e.caller e.command = c.in_ok-reply.ensures.reply P T stands in
    let changed : changes (reply_of r) ≡ true = sym c.if-not-changes.ensures in
    let there : changes (reply_to P T e.caller e.command) ≡ true = ap changes (sym said_is) ∙ changed in
    let pends = c.in_ok-reply.ensures.pending changed P T stands in
    let grown : c.push.new.self ≡ batch.entries ++ e ∷ [] = c.push.ensures ∙ ap (λ (l : History). l ++ e ∷ []) c.in_default.ensures.entries in
    let place : c.put_line.new.batch.before + length c.push.new.self ≡ batch.before + length batch.entries + 1 =
    omega (arith, c.in_default.ensures.before, ap length grown, length-append batch.entries (e ∷ [])) in
    one_taken (e ∷ []) (changes_one P T e 0 there) (c.answer-2.ensures.before ∙ c.in_default.ensures.before)
    (placed_behind P T e (batch.before + length batch.entries) r c.answer-2.ensures.placed (ap (λ l. l.items) c.in_default.ensures.placed ∙ c.in_ok-reserve.ensures.items) place said_is there)
    (c.answer-2.ensures.entries ∙ grown)
    (c.in_default.ensures.put
    ∙ ap (λ (a : PlainReply). batch_of c.args.journal.now ++ payload_spelling (told e a) ∷ []) said_is)
    (c.go_on.ensures ∙ ap (λ (t : Bytes). text_behind t e.command) c.in_default.ensures.text)
    (c.keep.ensures.follows P T e pends) (λ _. c.keep.ensures.nobody_fails P T e pends)
    (λ text H is. (
      H ++ e ∷ [],
      ap (λ (a : PlainReply). taken accepted P H (payload_spelling (told e a))) (sym said_is)
          ∙ c.in_default.ensures.taken P H (said_is ∙ ap (λ (U : Trace). reply_to P U e.caller e.command) is) changed,
      refl,
    ))

pub returns-clause-idle : goal.returns-clause-idle
returns-clause-idle g c =
    let i = c.requires.idle in
    let e : Entry = c.args.line.now in
    let changed : changes (reply_of c.in_ok-reply.reply) ≡ true = sym c.if-not-changes.ensures in
    record {
      policy = i.policy;
      trace = after i.policy i.trace e.caller e.command;
      holds = c.keep.ensures.follows i.policy i.trace e (c.in_ok-reply.ensures.pending changed i.policy i.trace i.holds);
      few = λ H. i.few (e ∷ H);
    }
