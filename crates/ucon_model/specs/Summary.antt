-- The replies of a run in the order of its text, and their summary.
use Rattle.std.specs.Prelude.{◌≡◌, ℕ, ◌+◌, List, [], ◌∷◌, ◌++◌, length, Option, Some, None, codes, ⊤}
use Rattle.std.specs.Fmt.{decimal}
use Rattle.ucon_model.specs.declared.command.Entry.{Entry}
use Rattle.ucon_model.specs.declared.reply.Head.{Head}
use Rattle.ucon_model.specs.declared.reply.Head.TheVariants as heads
use Rattle.ucon_model.specs.Plain.{Bytes, PlainPolicy, PlainReply, refused, made, value_is, status}
use Rattle.ucon_model.specs.History.{History, said, grown}
use Rattle.ucon_model.specs.LegalRun.{Answer, Answered, no_memory, placed}

-- ---- replies

-- a command line with its reply and the reply's place; none if there was no memory
pub record LineReply : Type 0 where
  pub line : Entry
  pub reply : Option (ℕ × PlainReply)

-- the answer that it is
abbrev pub answer_of : Option (ℕ × PlainReply) → Answer
answer_of None = no_memory
answer_of (Some r) = placed r.0 r.1

abbrev pub answered : LineReply → Answered
answered t = record { line = t.line; answer = answer_of t.reply }

-- the history after a line's reply, if there is one
abbrev pub history_behind : PlainPolicy → History → Entry → Option (ℕ × PlainReply) → History
history_behind P H e None = H
history_behind P H e (Some r) = grown P H e

-- a reply is what is said after the history, at its place
abbrev pub IsReplyNext : PlainPolicy → History → Entry → Option (ℕ × PlainReply) → Type 0
IsReplyNext P H e None = ⊤
IsReplyNext P H e (Some r) = (r.0 ≡ length (grown P H e)) × (r.1 ≡ said P H e.caller e.command)

-- each reply is what is said after those before it
abbrev pub IsReplyRun : PlainPolicy → History → List LineReply → Type 0
IsReplyRun P H [] = ⊤
IsReplyRun P H (t ∷ told) = IsReplyNext P H t.line t.reply × IsReplyRun P (history_behind P H t.line t.reply) told

-- the one run in which there is memory for each line
abbrev pub whole_run : PlainPolicy → History → List Entry → List LineReply
whole_run P H [] = []
whole_run P H (e ∷ lines) = record { line = e; reply = Some (length (grown P H e), said P H e.caller e.command) } ∷ whole_run P (grown P H e) lines

-- ---- the summary

-- how many lines there are; how many replies change something, and how many of them begin with each of these words; how many
-- revocations the replies tell; and how many replies are refusals
pub record Counts : Type 0 where
  pub lines : ℕ
  pub steps : ℕ
  pub permitted : ℕ
  pub denied : ℕ
  pub waiting : ℕ
  pub ended : ℕ
  pub revoked : ℕ
  pub refused : ℕ

abbrev pub no_lines : Counts
no_lines = record { lines = 0; steps = 0; permitted = 0; denied = 0; waiting = 0; ended = 0; revoked = 0; refused = 0 }

abbrev pub with_head : Head → Counts → Counts
with_head heads.Ok n = n
with_head (heads.Permitted session) n = record n { permitted = n.permitted + 1 }
with_head (heads.Denied session label) n = record n { denied = n.denied + 1 }
with_head (heads.Waiting session label) n = record n { waiting = n.waiting + 1 }
with_head (heads.Ended session) n = record n { ended = n.ended + 1 }

-- one reply more
abbrev pub with_reply : PlainReply → Counts → Counts
with_reply (refused r) n = record n { refused = n.refused + 1 }
with_reply (made head revoked) n = with_head head (record n { steps = n.steps + 1; revoked = n.revoked + length revoked })
with_reply (value_is v) n = n
with_reply (status session state) n = n

-- one line more; if there was no memory it is counted as a line alone
abbrev pub with_line : Option (ℕ × PlainReply) → Counts → Counts
with_line None n = record n { lines = n.lines + 1 }
with_line (Some r) n = with_reply r.1 (record n { lines = n.lines + 1 })

-- lines more
abbrev pub counted_from : Counts → List LineReply → Counts
counted_from n [] = n
counted_from n (t ∷ told) = counted_from (with_line t.reply n) told

abbrev pub counts : List LineReply → Counts
counts told = counted_from no_lines told

-- a word, a space, a number, a newline
abbrev pub count_line : Bytes → ℕ → Bytes
count_line word n = word ++ 32 ∷ decimal n ++ 10 ∷ []

-- the summary's eight lines
abbrev pub summary : Counts → Bytes
summary n =
    count_line (codes "lines") n.lines
    ++ count_line (codes "steps") n.steps
    ++ count_line (codes "permitted") n.permitted
    ++ count_line (codes "denied") n.denied
    ++ count_line (codes "waiting") n.waiting
    ++ count_line (codes "ended") n.ended
    ++ count_line (codes "revoked") n.revoked
    ++ count_line (codes "refused") n.refused
