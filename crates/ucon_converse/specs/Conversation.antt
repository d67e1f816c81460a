-- A conversation over a store, from its first line to its last, as it is seen from outside.
use Rattle.std.specs.Prelude.{◌≡◌, ◌⊎◌, ℕ, List, [], ◌∷◌, ◌++◌, length, Option, Some, None, IfSome, Result, Ok, Err, true, false, ⊤}
use Rattle.std.specs.Io.KnownBytes.{Appends}
use Rattle.ucon_base.specs.Elements.{Each}
use Rattle.ucon_disk.specs.Seen.{DiskSeen}
use Rattle.ucon_flow.specs.Writing.{AppendsPrefix}
use Rattle.ucon_model.specs.History.{History, changes, said}
use Rattle.ucon_model.specs.LegalRun.{Answered, IsLegalRun, disk_fault, history_made, in_text_order, is_disk_fault, stopped}
use Rattle.ucon_model.specs.Plain.{Bytes, PlainPolicy}
use Rattle.ucon_model.specs.StoredRun.{failed_line}
use Rattle.ucon_store.specs.Points.{PolicyReading}
use Rattle.ucon_tell.specs.Seen.{VoiceSeen}
use Rattle.ucon_converse.specs.Exchanges.{AnswersEach, Exchange, behind, lines_in, replies_in}
use Rattle.ucon_tell.specs.Talk.{ends_by}
use Rattle.ucon_tell.specs.Told.{IsFrontOf}
use Rattle.ucon_tell.specs.declared.talk_fault.TalkFault.{TalkFault}
use Rattle.ucon_tell.specs.declared.talk_fault.TalkFault.TheVariants as faults
use Rattle.ucon_converse.specs.Holding.{IsFoundPastBy}
use Rattle.ucon_converse.specs.Replies.{AreAnswersBy, AreGivenBy, GivesReplyBy, IsTooLong, Standing, ready_line}

-- The first line and the replies went out whole, but where the sink failed; where there was no memory for the first line nothing did.
abbrev pub goes_out : Result (Unit {0}) TalkFault → Option Bytes → Option Bytes → Bytes → Bytes → Type 0
goes_out (Ok done) before now ready replies = Appends before now (ready ++ replies)
goes_out (Err faults.SourceFault) before now ready replies = Appends before now (ready ++ replies)
goes_out (Err faults.SinkFault) before now ready replies = AppendsPrefix before now (ready ++ replies)
goes_out (Err faults.TooLong) before now ready replies = Appends before now (ready ++ replies)
goes_out (Err (faults.NoMemory e)) before now ready replies = Appends before now (ready ++ replies) ⊎ ((now ≡ before) × (replies ≡ []))

-- These bytes were told by this moment: they are a front of what the sink held, the first line, and the replies up to one. From that moment on the
-- file is found as a history that begins with all that was done when that one was answered. The file has the policy and all checkpoints that there
-- were. That holds now, and whenever a crash came in between. Where lines were answered together it is the last of them.
pub record IsToldOnceKeptBy (reads : PolicyReading) (text : Bytes) (disk : DiskSeen) (held : Bytes) (opening : Standing) (exchanges : List (Exchange Standing))
    (b : Bytes) (t : ℕ) : Type 0 where
  pub by_then : List (Exchange Standing)
  pub later : List (Exchange Standing)
  pub all : exchanges ≡ by_then ++ later
  pub bytes : IsFrontOf b (held ++ ready_line (length opening.history) ++ replies_in by_then)
  pub kept : (c : Bytes) → disk.images_since t c → IsFoundPastBy reads text (behind opening by_then) c

-- these entries are those of some of these lines, in their order, each of which would change something behind the history and those before it
abbrev pub AreInDoubt : PlainPolicy → History → History → List Answered → Type 0
AreInDoubt P H [] run = ⊤
AreInDoubt P H (e ∷ es) [] = ⊥
AreInDoubt P H (e ∷ es) (t ∷ run) =
    ((t.line ≡ e) × (changes (said P H e.caller e.command) ≡ true) × AreInDoubt P (H ++ e ∷ []) es run) ⊎ AreInDoubt P H (e ∷ es) run

-- The mark of a store that answered so, where this history was reached. Without a disk fault it has none. Else the line that met it is in doubt, and
-- with it lines that were to be written together with it, whose answer is that the disk had failed.
abbrev pub IsMarkOf : PlainPolicy → History → Option History → List Answered → Type 0
IsMarkOf P H mark [] = mark ≡ None
IsMarkOf P H mark (t ∷ run) =
    ((t.answer ≡ disk_fault) × ((es : History) × (mark ≡ Some (t.line ∷ es)) × AreInDoubt P (H ++ t.line ∷ []) es run))
    ⊎ ((is_disk_fault t.answer ≡ false) × IsMarkOf P H mark run)

-- it is stopped by the line of the run that met a disk fault, if one did, and then no line is left over; or by a checkpoint, and no line met one
abbrev pub IsStoppedBy : PlainPolicy → History → Option History → (run over : List Answered) → Type 0
IsStoppedBy P H mark run over = (IsMarkOf P H mark run × (over ≡ [])) ⊎ ((mark ≡ Some []) × (failed_line run ≡ None))

-- The answers are a legal run in text order behind the opening history, which made the history that was reached. If a checkpoint met a disk fault, each
-- answer behind it is that the disk had failed, and these follow the run.
pub record IsRunOver (P : PlainPolicy) (opening : History) (told : List Answered) (reached : Standing) : Type 0 where
  pub run : List Answered
  pub over : List Answered
  pub all : told ≡ run ++ over
  pub legal : IsLegalRun P in_text_order opening run
  pub made : history_made opening run ≡ reached.history
  pub stops : Each (λ t. t.answer ≡ stopped) over
  pub failed : IsStoppedBy P reached.history reached.failed run over

-- Lines, of which this is so, were answered one by one, each by one line, from an opening standing on. The answers to the requests among them are a legal
-- run in text order behind the opening history, up to a checkpoint that met a disk fault, if one did. A reading takes no part in it, and is told of the
-- history at its place. The store stands for what the last reply led to, but that lines that came next may have been answered, too, if there was no memory
-- for their replies. And where the disk tells, whatever was told since was told once kept.
pub record HasConversedBy (reads : PolicyReading) (P : PlainPolicy) (text : Bytes) (old : Type 0) (limit : ℕ) (result : Result (Unit {0}) TalkFault)
    (opening last : Standing) (before now : VoiceSeen) (disk : DiskSeen) (tells : Type 0) (hears : Bytes → Type 0) : Type 0 where
  pub exchanges : List (Exchange Standing)
  pub heard : hears (lines_in exchanges)
  pub reached : Standing
  pub answered : AnswersEach limit (GivesReplyBy reads P text old) IsTooLong opening exchanges reached
  pub ends : ends_by limit (AreGivenBy reads P text old) (λ more. hears (lines_in exchanges ++ more)) result reached last
  pub output : goes_out result before.contents now.contents (ready_line (length opening.history)) (replies_in exchanges)
  -- the run
  pub told : List Answered
  pub among : AreAnswersBy reads exchanges told
  pub runs : IsRunOver P opening.history told reached
  -- what was told
  pub kept : tells → (b : Bytes) (t : ℕ) → now.told b t
      → before.told b t ⊎ IfSome before.contents (λ held. IsToldOnceKeptBy reads text disk held opening exchanges b t)
