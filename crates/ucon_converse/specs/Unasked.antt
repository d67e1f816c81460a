-- What lines are told that readers of requests refuse.
use Rattle.std.specs.Prelude.{◌≡◌, ◌⊎◌, ℕ, List, Option, Some}
use Rattle.ucon_disk.specs.Seen.{DiskSeen}
use Rattle.ucon_model.specs.History.{History}
use Rattle.ucon_model.specs.LegalRun.{Answered}
use Rattle.ucon_model.specs.Output.{answer_line}
use Rattle.ucon_model.specs.Plain.{Bytes, PlainPolicy}
use Rattle.ucon_store.specs.Kept.{Kept}
use Rattle.ucon_store.specs.Whole.{IsFront}
use Rattle.ucon_syntax.specs.Policies.{accepted}
use Rattle.ucon_converse.specs.Holding.{stands}
use Rattle.ucon_converse.specs.Keeping.{IsDated}
use Rattle.ucon_converse.specs.Replies.{GivesReplyBy, unheard}
use Rattle.ucon_converse.specs.Requests.{IsNoRequestBy, IsRequestBy}

-- it is a request, and there was no memory to see that, which it was told
pub record IsUnheard (failed : Option History) (line reply : Bytes) : Type 0 where
  pub told : Answered
  pub request : IsRequestBy accepted line told.line
  pub answer : told.answer ≡ unheard failed
  pub reply_is : reply ≡ answer_line told

-- The line was told so, of a store that stays as it is. It is no request, or there was no memory to see that.
pub record IsToldUnasked {D : Type 0} (seen : D → DiskSeen) (s : Kept D) (line reply : Bytes) : Type 0 where
  pub said : (P : PlainPolicy) (G : History) (points : List ℕ) (tried : ℕ) → accepted s.policy ≡ Some P → IsFront P s G
      → GivesReplyBy accepted P s.policy (IsDated (seen s.disk).contents) (stands G points tried s) (stands G points tried s) line reply
  pub unasked : IsNoRequestBy accepted line ⊎ IsUnheard s.mark line reply
