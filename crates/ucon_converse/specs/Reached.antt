-- A conversation behind the actions that opening saw in a file, whatever that is found as: also where no history is known, and where the disk tells
-- nothing. Of lines that are no request it says that nothing changed.
use Rattle.std.specs.Prelude.{◌≡◌, ◌≢◌, ◌⊎◌, ℕ, ◌+◌, List, [], ◌∷◌, ◌++◌, length, Option, Some, None, IsSome, Result, true, if◌then◌else◌}
use Rattle.ucon_model.specs.declared.command.Entry.{Entry}
use Rattle.ucon_model.specs.Action.{Trace}
use Rattle.ucon_model.specs.Block.{after, reply}
use Rattle.ucon_model.specs.History.{History, changes, trace_from}
use Rattle.ucon_model.specs.LegalRun.{Answer, Answered, no_memory, disk_fault, stopped, placed}
use Rattle.ucon_model.specs.Output.{answer_line}
use Rattle.ucon_model.specs.Plain.{Bytes, PlainPolicy, PlainReply}
use Rattle.ucon_state.specs.Held.{held_after}
use Rattle.ucon_store.specs.Kept.{Kept}
use Rattle.ucon_store.specs.Opened.{SeesBy, fresh, holds}
use Rattle.ucon_store.specs.Points.{PolicyReading}
use Rattle.ucon_store.specs.Whole.{trace_behind}
use Rattle.ucon_tell.specs.Seen.{VoiceSeen}
use Rattle.ucon_tell.specs.Talk.{ends_by}
use Rattle.ucon_tell.specs.Told.{Told}
use Rattle.ucon_tell.specs.declared.talk_fault.TalkFault.{TalkFault}
use Rattle.ucon_converse.specs.Conversation.{goes_out}
use Rattle.ucon_converse.specs.Exchanges.{AnswersAll, AnswersEach, Exchange, lines_in, replies_in}
use Rattle.ucon_converse.specs.Replies.{IsTooLong, ready_line}
use Rattle.ucon_converse.specs.Requests.{IsNoRequestBy, IsRequestBy}

-- the actions so far, how many entries there are, and the mark of a store that is stopped
pub record Reached : Type 0 where
  pub actions : Trace
  pub entries : ℕ
  pub failed : Option History

-- what a store has reached behind a trace that leads to where it begins
abbrev pub reached_by : {D : Type 0} → PlainPolicy → Trace → Kept D → Reached
reached_by P T s = record { actions = trace_behind P T s; entries = s.before + length s.entries; failed = s.mark }

-- opening saw no record in a file; or the policy of this text, so many entries, and what is there after these actions
abbrev pub IsSeenAtBy : PolicyReading → PlainPolicy → Bytes → Reached → Bytes → Type 0
IsSeenAtBy reads P text x file =
    (SeesBy reads file fresh × (x.entries ≡ 0) × (x.actions ≡ []))
    ⊎ ((gate : ℕ) × SeesBy reads file (holds text x.entries (held_after P x.actions) gate))

-- ---- one line

-- where an entry leads whose reply is this one
abbrev pub led_on : PlainPolicy → Reached → Entry → PlainReply → Reached
led_on P x e r = if changes r then record { actions = after P x.actions e.caller e.command; entries = x.entries + 1; failed = x.failed } else x

-- nothing is other, but that a checkpoint may have met a disk fault
pub record MayStop (x y : Reached) : Type 0 where
  pub actions : y.actions ≡ x.actions
  pub entries : y.entries ≡ x.entries
  pub failed : (y.failed ≡ x.failed) ⊎ ((x.failed ≡ None) × (y.failed ≡ Some []))

-- A request was given this answer. A reply is that of the definitions after the actions so far, at its place. A step that met a disk fault would have
-- changed something.
abbrev pub IsNextAt : PlainPolicy → Reached → Reached → Entry → Answer → Type 0
IsNextAt P x y e (placed place r) = (r ≡ reply P x.actions e.caller e.command) × (place ≡ (led_on P x e r).entries) × MayStop (led_on P x e r) y
IsNextAt P x y e no_memory = y ≡ x
IsNextAt P x y e disk_fault =
    (changes (reply P x.actions e.caller e.command) ≡ true) × (y ≡ record { actions = x.actions; entries = x.entries; failed = Some (e ∷ []) })
IsNextAt P x y e stopped = ⊥

-- It was on its way to the disk together with the step that met the disk fault. It would have changed something behind the entries in doubt, and is
-- in doubt with them.
pub record JoinsDoubtAt (P : PlainPolicy) (x y : Reached) (t : Answered) : Type 0 where
  pub doubt : History
  pub failed : x.failed ≡ Some doubt
  pub some : doubt ≢ []
  pub would_change : changes (reply P (trace_from P x.actions doubt) t.line.caller t.line.command) ≡ true
  pub joined : y ≡ record { actions = x.actions; entries = x.entries; failed = Some (doubt ++ t.line ∷ []) }

-- the same; or the disk had failed, and nothing is other, but that more may be in doubt
abbrev pub IsStepAt : PlainPolicy → Reached → Reached → Answered → Type 0
IsStepAt P x y t =
    ((x.failed ≡ None) × IsNextAt P x y t.line t.answer)
    ⊎ (IsSome x.failed × (t.answer ≡ stopped) × ((y ≡ x) ⊎ JoinsDoubtAt P x y t))

-- each answer leads on from what was reached before it
abbrev pub StepEachAt : PlainPolicy → Reached → List Answered → Reached → Type 0
StepEachAt P first [] last = first ≡ last
StepEachAt P first (t ∷ told) last = (between : Reached) × IsStepAt P first between t × StepEachAt P between told last

-- a line was a request, and this is the line of its answer
pub record IsAnsweredAtBy (reads : PolicyReading) (P : PlainPolicy) (x y : Reached) (line reply : Bytes) : Type 0 where
  pub told : Answered
  pub request : IsRequestBy reads line told.line
  pub step : IsStepAt P x y told
  pub reply_is : reply ≡ answer_line told

-- a line was none, and no step was made
pub record IsNoStepAtBy (reads : PolicyReading) (x y : Reached) (line : Bytes) : Type 0 where
  pub none : IsNoRequestBy reads line
  pub still : MayStop x y

-- a line was given this reply
abbrev pub GivesReplyAtBy : PolicyReading → PlainPolicy → Reached → Reached → Bytes → Bytes → Type 0
GivesReplyAtBy reads P x y line reply = IsAnsweredAtBy reads P x y line reply ⊎ IsNoStepAtBy reads x y line

-- these lines were given these replies, one after the other
abbrev pub AreGivenAtBy : PolicyReading → PlainPolicy → Reached → Reached → List Told → Type 0
AreGivenAtBy reads P = AnswersAll (GivesReplyAtBy reads P)

-- ---- all lines

-- Lines, of which this is so, were answered one by one, each by one line.
pub record HasAnsweredBy (reads : PolicyReading) (P : PlainPolicy) (limit : ℕ) (result : Result (Unit {0}) TalkFault) (first last : Reached)
    (before now : VoiceSeen) (hears : Bytes → Type 0) : Type 0 where
  pub exchanges : List (Exchange Reached)
  pub heard : hears (lines_in exchanges)
  pub reached : Reached
  pub answered : AnswersEach limit (GivesReplyAtBy reads P) IsTooLong first exchanges reached
  pub ends : ends_by limit (AreGivenAtBy reads P) (λ more. hears (lines_in exchanges ++ more)) result reached last
  pub output : goes_out result before.contents now.contents (ready_line first.entries) (replies_in exchanges)
