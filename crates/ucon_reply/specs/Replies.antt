-- What the calls of replies give and refuse.
use Rattle.std.specs.Prelude.{◌≡◌, ◌+◌, ◌*◌, ℕ, length, MatchResult, Option, None, Some, Result, ⊤}
use Rattle.ucon_reply.specs.declared.reply_fault.ReplyFault.{ReplyFault}
use Rattle.ucon_reply.specs.declared.reply_fault.ReplyFault.TheVariants.{BadReply, NoMemory}
use Rattle.ucon_model.specs.declared.reply.Reply.{Reply}
use Rattle.ucon_model.specs.Payload.{revocations_in}
use Rattle.ucon_model.specs.Plain.{Bytes, PlainReply}
use Rattle.ucon_model.specs.ReplyText.{IsReplyText}
use Rattle.ucon_model.specs.Views.{reply_of}

-- no reply's text is longer, by the number of its revocations
abbrev pub most_reply : PlainReply → ℕ
most_reply reply = 4306 + 52 * length (revocations_in reply)

-- nothing is read, unless memory ran out
abbrev pub IsUnread : {A : Type 0} → Option A → ReplyFault → Type 0
IsUnread read BadReply = read ≡ None
IsUnread read (NoMemory e) = ⊤

-- what is given is what is read; or nothing is read, unless memory ran out
abbrev pub Gives : {A : Type 0} → Result A ReplyFault → Option A → Type 0
Gives result read = MatchResult result (λ x. read ≡ Some x) (IsUnread read)

-- what is given is the reply that is read; or nothing is read, unless memory ran out
abbrev pub GivesReply : Result Reply ReplyFault → Option PlainReply → Type 0
GivesReply result read = MatchResult result (λ r. read ≡ Some (reply_of r)) (IsUnread read)

-- the bytes are no reply's text, unless memory ran out
abbrev pub IsNoReply : Bytes → ReplyFault → Type 0
IsNoReply bytes BadReply = IsReplyText bytes → ⊥
IsNoReply bytes (NoMemory e) = ⊤
