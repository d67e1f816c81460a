-- Replies that store keepers give, behind each history that leads to where they begin.
use Rattle.std.proofs.Common.{◌≡◌, ℕ, List, refl, inl, inr}
use Rattle.std.specs.Prelude.{IsOk, Ok, Some, Result, codes}
use Rattle.ucon_command.specs.Requests.{IsAskedBy}
use Rattle.ucon_disk.specs.Seen.{DiskSeen}
use Rattle.ucon_model.specs.CommandLine.{line_read}
use Rattle.ucon_model.specs.declared.command.Caller.{Caller}
use Rattle.ucon_model.specs.declared.command.Command.{Command}
use Rattle.ucon_model.specs.declared.command.Entry.{Entry}
use Rattle.ucon_model.specs.Action.{Trace}
use Rattle.ucon_model.specs.History.{History}
use Rattle.ucon_model.specs.LegalRun.{Answer, Answered}
use Rattle.ucon_model.specs.Plain.{Bytes, PlainPolicy}
use Rattle.ucon_store.specs.declared.fault.PointFault.{PointFault}
use Rattle.ucon_store.specs.Starts.{IsStart}
use Rattle.ucon_store.specs.Whole.{IsFront}
use Rattle.ucon_syntax.specs.Policies.{accepted}
use Rattle.ucon_converse.specs.Answering.{Answering}
use Rattle.ucon_converse.specs.Holding.{standing}
use Rattle.ucon_converse.specs.Keeping.{GivesReply, IsDated, Keeps}
use Rattle.ucon_converse.specs.Reached.{IsStepAt, MayStop, reached_by}
use Rattle.ucon_converse.specs.Replies.{IsPointed, StepsAndRests, client_line, point_line}
use Rattle.ucon_converse.proofs.Stepping.{ok_is}
use Rattle.ucon_converse.proofs.Unasked.{point_asks_nothing}

module _ {D : Type 0} (seen : D → DiskSeen) (x y : Answering D) (keeps : Keeps seen x y) (line : Bytes) where
  -- a request was answered
  pub request_given : (caller : Caller) (text : Bytes) (answer : Answer) → IsAskedBy line caller text → IsOk (line_read accepted text)
      → ((P : PlainPolicy) (G : History) (places : List ℕ) (c : Command) → accepted x.store.policy ≡ Some P → IsFront P x.store G → line_read accepted text ≡ Ok c
      → StepsAndRests (IsDated (seen x.store.disk).contents) P x.store.policy (standing G places x) (standing G places y)
      (record { line = record { caller = caller; command = c }; answer = answer }))
      → ((P : PlainPolicy) (T : Trace) (c : Command) → accepted x.store.policy ≡ Some P → IsStart P x.store.point x.store.before T → line_read accepted text ≡ Ok c
      → IsStepAt P (reached_by P T x.store) (reached_by P T y.store) (record { line = record { caller = caller; command = c }; answer = answer }))
      → GivesReply seen x y line (client_line caller answer)
  request_given caller text answer by says steps step_at =
      let command = ok_is (line_read accepted text) says in
      let asked : Entry = record { caller = caller; command = command.0 } in
      let told : Answered = record { line = asked; answer = answer } in
      record {
        keeps = keeps;
        said = λ P G places accepts front. inl (record {
          told = told;
          request = record { text = text; by = by; says = command.1 };
          steps = steps P G places command.0 accepts front command.1;
          reply_is = refl;
        });
        said_at = λ P T accepts starts. inl (record {
          told = told;
          request = record { text = text; by = by; says = command.1 };
          step = step_at P T command.0 accepts starts command.1;
          reply_is = refl;
        });
      }

  -- a checkpoint was asked for, and this became of it
  pub point_given : (said : Result ℕ PointFault) → line ≡ codes "point"
      → ((P : PlainPolicy) (G : History) (places : List ℕ) → accepted x.store.policy ≡ Some P → IsFront P x.store G
      → IsPointed (IsDated (seen x.store.disk).contents) P x.store.policy (standing G places x) (standing G places y) said)
      → ((P : PlainPolicy) (T : Trace) → MayStop (reached_by P T x.store) (reached_by P T y.store))
      → GivesReply seen x y line (point_line said)
  point_given said asks pointed still = record {
    keeps = keeps;
    said = λ P G places accepts front.
        inr (inr (inr (inr (record { asks = asks; said = said; pointed = pointed P G places accepts front; reply_is = refl }))));
    said_at = λ P T accepts starts. inr (record { none = λ e q. point_asks_nothing line e.caller q.text asks q.by; still = still P T });
  }
