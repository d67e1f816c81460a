-- Lines that readers of requests refuse are none, or there was no memory to see that they are.
use Rattle.std.proofs.Common.{◌≡◌, ◌⊎◌, Result, Ok, Err, refl, sym, ap, ◌∙◌, inl, inr, subst}
use Rattle.std.specs.Prelude.{Bool, Option, Some, None, IsSome, is_some}
use Rattle.ucon_command.specs.declared.line_fault.LineFault.{LineFault}
use Rattle.ucon_command.specs.declared.line_fault.LineFault.TheVariants as lines
use Rattle.ucon_command.specs.declared.request.RequestFault.{RequestFault}
use Rattle.ucon_command.specs.declared.request.RequestFault.TheVariants.{BadClient, BadCommand}
use Rattle.ucon_command.specs.Requests.{IsAskedBy, IsOfClient, IsRefusedTo}
use Rattle.ucon_model.specs.declared.command.Caller.{Caller}
use Rattle.ucon_model.specs.declared.command.Command.{Command}
use Rattle.ucon_model.specs.CommandLine.{LineRefusal, line_read, line_too_long, no_word, unknown_word, wrong_count, bad_word}
use Rattle.ucon_model.specs.History.{History}
use Rattle.ucon_model.specs.LegalRun.{Answered}
use Rattle.ucon_model.specs.Plain.{Bytes, PlainPolicy}
use Rattle.ucon_syntax.specs.Policies.{accepted}
use Rattle.ucon_converse.specs.Reached.{GivesReplyAtBy, IsNextAt, IsStepAt, Reached}
use Rattle.ucon_converse.specs.Replies.{client_line, unheard}
use Rattle.ucon_converse.specs.Requests.{IsNoRequestBy}
use Rattle.ucon_converse.specs.Said.{fault_line, line_told}
use Rattle.ucon_converse.specs.Unasked.{IsUnheard}
use Rattle.ucon_converse.proofs.Faulty.{one_text, said_otherwise, unheard_is}
use Rattle.ucon_converse.proofs.Reaching.{may_same}

module _ (line : Bytes) (failed : Option History) (stopped : Bool) (is : is_some failed ≡ stopped) where
  abbrev IsUnasked : Bytes → Type 0
  IsUnasked reply = IsNoRequestBy accepted line ⊎ IsUnheard failed line reply

  module _ (whose : Caller) (text : Bytes) (asked : IsAskedBy line whose text) (one : (caller : Caller) (other : Bytes) → IsAskedBy line caller other → whose ≡ caller) where
    by_text : (r : Result Command LineRefusal) → line_read accepted text ≡ r → (fault : LineFault) → IsRefusedTo whose text (BadCommand whose fault)
        → IsUnasked (line_told stopped whose fault)
    by_text (Err refusal) refused fault to = inl (λ e q.
        let same : q.text ≡ text = one_text line whose e.caller text q.text (one e.caller q.text q.by) asked q.by in
        said_otherwise (line_read accepted text) e.command refusal (sym (ap (line_read accepted) same) ∙ q.says) refused)
    by_text (Ok command) says (lines.TooLong n) to = absurd (said_otherwise (line_read accepted text) command (line_too_long n) says to.1)
    by_text (Ok command) says lines.NoWord to = absurd (said_otherwise (line_read accepted text) command no_word says to.1)
    by_text (Ok command) says lines.UnknownWord to = absurd (said_otherwise (line_read accepted text) command unknown_word says to.1)
    by_text (Ok command) says (lines.WrongCount n) to = absurd (said_otherwise (line_read accepted text) command (wrong_count n) says to.1)
    by_text (Ok command) says (lines.BadWord place) to = absurd (said_otherwise (line_read accepted text) command (bad_word place) says to.1)
    by_text (Ok command) says (lines.NoMemory e) to = inr (record {
      told = record { line = record { caller = whose; command = command }; answer = unheard failed };
      request = record { text = text; by = asked; says = says };
      answer = refl;
      reply_is = ap (client_line whose) (unheard_is failed stopped is);
    })

  pub fault_unasked : (fault : RequestFault) → IsOfClient line fault → ((caller : Caller) (text : Bytes) → IsAskedBy line caller text → IsRefusedTo caller text fault)
      → IsUnasked (fault_line fault stopped)
  fault_unasked BadClient of to = inl (λ e q. to e.caller q.text q.by)
  fault_unasked (BadCommand whose fault) of to =
      by_text whose of.0 of.1 (λ caller other by. (to caller other by).0) (line_read accepted of.0) refl fault (to whose of.0 of.1)

-- to be told so is a step that changes nothing
unheard_at : (P : PlainPolicy) (x : Reached) (o : Option History) → x.failed ≡ o → (t : Answered) → t.answer ≡ unheard o → IsStepAt P x x t
unheard_at P x None is t answer = inl (is, subst (IsNextAt P x x t.line) (sym answer) refl)
unheard_at P x (Some es) is t answer = inr (subst (λ (o : Option History). IsSome o) (sym is) refl, answer, inl refl)

pub unasked_at : (P : PlainPolicy) (x : Reached) (line reply : Bytes) → IsNoRequestBy accepted line ⊎ IsUnheard x.failed line reply → GivesReplyAtBy accepted P x x line reply
unasked_at P x line reply (inl none) = inr (record { none = none; still = may_same x })
unasked_at P x line reply (inr u) =
    inl (record { told = u.told; request = u.request; step = unheard_at P x x.failed refl u.told u.answer; reply_is = u.reply_is })
