use Rattle.std.proofs.Common.{◌≡◌, ◌+◌, ◌-◌, ◌^◌, ℕ, Bool, Option, Some, inr, sym, ap, ◌∙◌, subst}
use Rattle.std.specs.Prelude.{min, if◌then◌else◌}
use Rattle.ucon_model.specs.declared.command.Command.{Command}
use Rattle.ucon_model.specs.declared.command.Entry.{Entry}
use Rattle.ucon_model.specs.History.{changes, said, trace}
use Rattle.ucon_model.specs.Plain.{PlainReply}
use Rattle.ucon_model.specs.Views.{reply_of}
use Rattle.ucon_engine.specs.Engine.{StandsFor}
use Rattle.ucon_trial.specs.Hearing.{HearsMore, replied}
use Rattle.ucon_trial.specs.OneAnswer.{Answers, entry_of}
use Rattle.ucon_trial.proofs.answers.answer.Goals as goal

pub returns-in_ok-reply-in-Ok-clause-answers : goal.returns-in_ok-reply-in-Ok-clause-answers
returns-in_ok-reply-in-Ok-clause-answers g c = λ P H stands.
    let line = entry_of c.args.line.now in
    let e : Entry = record { caller = line.caller; command = c.args.command.now } in
    let same : e ≡ line = ap (λ (x : Command). record { caller = line.caller; command = x }) (sym c.requires.command) in
    let said_is : reply_of c.in-Ok.reply ≡ said P H e.caller e.command = c.in-Ok.ensures.reply P (trace P H) stands in
    let tells : c.changes-changes.result ≡ changes (reply_of c.in-Ok.reply) = c.changes-changes.ensures in
    let changing : c.changes-changes.result ≡ changes (said P H e.caller e.command) = tells ∙ ap changes said_is in
    let next = c.place_after-next.result in
    let hears : Option (ℕ × PlainReply) → Type 0 = λ reply. HearsMore g.R.Hearer.hears c.args.hearer.now c.reply.new.self (replied line reply) in
    subst (Answers P (StandsFor g.E.Engine.follows c.keep_change.new.engine P) hears H c.args.place next) same (inr (record {
      stands = c.keep_change.ensures.stands P H e changing (λ does. c.in-Ok.ensures.pending (sym tells ∙ does) P (trace P H) stands) (λ doesnt. c.in-Ok.ensures.unchanged (sym tells ∙ doesnt) P (trace P H) stands);
      place_is = c.place_after-next.ensures ∙ ap (λ (b : Bool). min (if b then c.args.place + 1 else c.args.place) (2 ^ 64 - 1)) changing;
      heard = subst (λ (r : PlainReply). hears (Some (next, r))) said_is c.in_ok-reply-in-Ok.ensures;
    }))
