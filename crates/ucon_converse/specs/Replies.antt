-- What the lines of a conversation are answered, by what a store stands for before and after.
use Rattle.std.specs.Prelude.{◌≡◌, ◌≢◌, ◌⊎◌, ℕ, ◌<◌, List, [], ◌∷◌, ◌++◌, length, Option, Some, None, IsSome, true, false, codes, Result, Ok, Err}
use Rattle.std.specs.Fmt.{decimal}
use Rattle.ucon_command.specs.Faults.{amends}
use Rattle.ucon_command.specs.Requests.{IsAskedBy}
use Rattle.ucon_model.specs.declared.command.Caller.{Caller}
use Rattle.ucon_model.specs.declared.command.Entry.{Entry}
use Rattle.ucon_model.specs.History.{History, changes, said}
use Rattle.ucon_model.specs.LegalRun.{Answer, Answered, no_memory, disk_fault, stopped, placed}
use Rattle.ucon_model.specs.Output.{answer_line, answer_spelling}
use Rattle.ucon_model.specs.Payload.{most_payload}
use Rattle.ucon_model.specs.Plain.{Bytes, PlainPolicy}
use Rattle.ucon_model.specs.StoredRun.{LeadsTo}
use Rattle.ucon_store.specs.declared.fault.PointFault.{PointFault}
use Rattle.ucon_store.specs.declared.fault.PointFault.TheVariants as faults
use Rattle.ucon_store.specs.Marks.{marked}
use Rattle.ucon_store.specs.Points.{PolicyReading, checkpoint}
use Rattle.ucon_tell.specs.Told.{Told}
use Rattle.ucon_converse.specs.declared.reading.Reading.{Reading}
use Rattle.ucon_converse.specs.Due.{is_due_after}
use Rattle.ucon_converse.specs.Exchanges.{AnswersAll, Exchange}
use Rattle.ucon_converse.specs.Readings.{IsNoReading, IsReadingOf, line_told, reading_line}
use Rattle.ucon_converse.specs.Requests.{IsNoRequestBy, IsRequestBy, TellsWhyBy}

-- What a store stands for at one moment: the whole history; its mark, if it is stopped; how many steps stand before each checkpoint in its journal; and
-- how many there were when a checkpoint was last tried, or before the one behind which the store began.
pub record Standing : Type 0 where
  pub history : History
  pub failed : Option History
  pub points : List ℕ
  pub tried : ℕ

-- Answers in text order lead from the history of one standing to another, whose mark is that of the step that met a disk fault, if one did. No
-- checkpoint is tried.
pub record LeadsOn (P : PlainPolicy) (before after : Standing) (told : List Answered) : Type 0 where
  pub failed : Option Entry
  pub mark : after.failed ≡ marked failed
  pub leads : LeadsTo P before.history told after.history failed
  pub points : after.points ≡ before.points
  pub tried : after.tried ≡ before.tried

-- It was on its way to the disk together with the step that met the disk fault. It would have changed something behind the entries in doubt, and is
-- in doubt with them. Either all of them are on the disk or none.
pub record JoinsDoubt (P : PlainPolicy) (before after : Standing) (t : Answered) : Type 0 where
  pub doubt : History
  pub failed : before.failed ≡ Some doubt
  pub some : doubt ≢ []
  pub would_change : changes (said P (before.history ++ doubt) t.line.caller t.line.command) ≡ true
  pub joined : after ≡ record { history = before.history; failed = Some (doubt ++ t.line ∷ []); points = before.points; tried = before.tried }

-- One request was answered. Where the store isn't stopped the answer is the next one of a run in text order behind the history. Else it is that the
-- disk had failed, and nothing changes, but that its step may be in doubt, too.
abbrev pub IsStep : PlainPolicy → Standing → Standing → Answered → Type 0
IsStep P before after t =
    ((before.failed ≡ None) × LeadsOn P before after (t ∷ []))
    ⊎ (IsSome before.failed × (t.answer ≡ stopped) × ((after ≡ before) ⊎ JoinsDoubt P before after t))

-- ---- the lines that go out

-- the first line, with the number of the steps that are there
abbrev pub ready_line : ℕ → Bytes
ready_line steps = codes "- " ++ decimal steps ++ codes " ready\n"

-- the line to one that asks nothing
abbrev pub refusal_line : Bytes → Bytes
refusal_line words = codes "- - " ++ words ++ 10 ∷ []

-- the line to a client whose request was not heard
abbrev pub client_line : Caller → Answer → Bytes
client_line caller answer = decimal caller.0 ++ 32 ∷ answer_spelling answer ++ 10 ∷ []

-- what a client is told for whose line there is no memory; behind a disk fault, that it had failed
abbrev pub unheard : Option History → Answer
unheard None = no_memory
unheard (Some mark) = stopped

-- ---- checkpoints

-- a checkpoint was tried, and nothing else is other
abbrev pub tried_at : Standing → Standing
tried_at s = record { history = s.history; failed = s.failed; points = s.points; tried = length s.history }

-- one was made, behind all steps
abbrev pub pointed_at : Standing → Standing
pointed_at s = record { history = s.history; failed = s.failed; points = s.points ++ length s.history ∷ []; tried = length s.history }

-- one met a disk fault, which leaves no step in doubt
abbrev pub stopped_at : Standing → Standing
stopped_at s = record { history = s.history; failed = Some []; points = s.points; tried = length s.history }

-- What became of a checkpoint that was tried, in a journal that is an old one if this is so. It was made, and stands behind so many steps. Or it met a
-- disk fault. Or it was refused: since a disk fault came before; in an old journal; as one too long for a record; for want of memory.
abbrev pub IsPointed : Type 0 → PlainPolicy → Bytes → Standing → Standing → Result ℕ PointFault → Type 0
IsPointed old P text before after (Ok n) = (before.failed ≡ None) × (n ≡ length before.history) × (after ≡ pointed_at before)
IsPointed old P text before after (Err faults.DiskFault) = (before.failed ≡ None) × (after ≡ stopped_at before)
IsPointed old P text before after (Err faults.Stopped) = IsSome before.failed × (after ≡ before)
IsPointed old P text before after (Err faults.OldJournal) = (before.failed ≡ None) × old × (after ≡ tried_at before)
IsPointed old P text before after (Err (faults.TooLarge size)) =
    (before.failed ≡ None) × (most_payload < length (checkpoint text P before.history)) × (after ≡ tried_at before)
IsPointed old P text before after (Err (faults.NoMemory e)) = (before.failed ≡ None) × (after ≡ tried_at before)

-- what is told of it
abbrev pub point_line : Result ℕ PointFault → Bytes
point_line (Ok n) = reading_line n (codes "point " ++ decimal n)
point_line (Err faults.DiskFault) = refusal_line (codes "disk fault")
point_line (Err faults.Stopped) = refusal_line (codes "stopped")
point_line (Err faults.OldJournal) = refusal_line (codes "old journal")
point_line (Err (faults.TooLarge size)) = refusal_line (codes "point too large")
point_line (Err (faults.NoMemory e)) = refusal_line (codes "no memory")

-- By itself a checkpoint is tried exactly if one is due. Nothing is told of it.
pub record GoesOn (old : Type 0) (P : PlainPolicy) (text : Bytes) (before after : Standing) : Type 0 where
  pub due : is_due_after P before.tried before.history ≡ true → (said : Result ℕ PointFault) × IsPointed old P text before after said
  pub not_due : is_due_after P before.tried before.history ≡ false → after ≡ before

-- that is so behind a reply, and behind any other answer nothing happens
abbrev pub Rests : Type 0 → PlainPolicy → Bytes → Answer → Standing → Standing → Type 0
Rests old P text (placed place reply) before after = GoesOn old P text before after
Rests old P text no_memory before after = after ≡ before
Rests old P text disk_fault before after = after ≡ before
Rests old P text stopped before after = after ≡ before

-- a request was answered, and then a checkpoint was tried, if one was due
pub record StepsAndRests (old : Type 0) (P : PlainPolicy) (text : Bytes) (before after : Standing) (t : Answered) : Type 0 where
  pub between : Standing
  pub step : IsStep P before between t
  pub rests : Rests old P text t.answer between after

-- ---- one line

-- it is a request, its answer was given, and then a checkpoint was tried, if one was due
pub record IsAskedAndAnswered (reads : PolicyReading) (P : PlainPolicy) (policy : Bytes) (old : Type 0) (before after : Standing) (line reply : Bytes) : Type 0 where
  pub told : Answered
  pub request : IsRequestBy reads line told.line
  pub steps : StepsAndRests old P policy before after told
  pub reply_is : reply ≡ answer_line told

-- it is none, no reading, and asks for no checkpoint, and that was told
pub record IsRefused (reads : PolicyReading) (before after : Standing) (line reply : Bytes) : Type 0 where
  pub none : IsNoRequestBy reads line
  pub unread : IsNoReading line
  pub unpointed : line ≡ codes "point" → ⊥
  pub words : Bytes
  pub why : TellsWhyBy reads line words
  pub reply_is : reply ≡ refusal_line words
  pub same : after ≡ before

-- it is a client's, amends, and is no request; and there was no memory to see that
pub record IsUnjudged (reads : PolicyReading) (before after : Standing) (line reply : Bytes) : Type 0 where
  pub none : IsNoRequestBy reads line
  pub caller : Caller
  pub text : Bytes
  pub by : IsAskedBy line caller text
  pub amending : amends text ≡ true
  pub reply_is : reply ≡ client_line caller (unheard before.failed)
  pub same : after ≡ before

-- a reading is told so; or there was no memory for what is told; and behind a disk fault none is told
abbrev pub IsToldSo : Option History → Bytes → Bytes → Type 0
IsToldSo None told reply = (reply ≡ told) ⊎ (reply ≡ refusal_line (codes "no memory"))
IsToldSo (Some mark) told reply = reply ≡ refusal_line (codes "stopped")

-- it is a reading, and was told of the history that is there, which began under a policy of this text
pub record IsRead (P : PlainPolicy) (text : Bytes) (before after : Standing) (line reply : Bytes) : Type 0 where
  pub reading : Reading
  pub asks : IsReadingOf line reading
  pub told : IsToldSo before.failed (line_told P text before.history reading) reply
  pub same : after ≡ before

-- it asks for a checkpoint, and was told what became of it
pub record IsAskedForPoint (P : PlainPolicy) (text : Bytes) (old : Type 0) (before after : Standing) (line reply : Bytes) : Type 0 where
  pub asks : line ≡ codes "point"
  pub said : Result ℕ PointFault
  pub pointed : IsPointed old P text before after said
  pub reply_is : reply ≡ point_line said

-- A line was given this reply, which led from here to there, behind a history that began under a policy of this text. The journal is an old one if this
-- is so.
abbrev pub GivesReplyBy : PolicyReading → PlainPolicy → Bytes → Type 0 → Standing → Standing → Bytes → Bytes → Type 0
GivesReplyBy reads P text old before after line reply =
    IsAskedAndAnswered reads P text old before after line reply ⊎ IsRefused reads before after line reply ⊎ IsUnjudged reads before after line reply
    ⊎ IsRead P text before after line reply ⊎ IsAskedForPoint P text old before after line reply

-- these lines were given these replies, one after the other, which led from here to there
abbrev pub AreGivenBy : PolicyReading → PlainPolicy → Bytes → Type 0 → Standing → Standing → List Told → Type 0
AreGivenBy reads P text old = AnswersAll (GivesReplyBy reads P text old)

-- a line that is too long was given this reply
abbrev pub IsTooLong : {K : Type 0} → K → Bytes → Type 0
IsTooLong before reply = reply ≡ refusal_line (codes "too long")

-- ---- all lines

-- these are the answers to the requests, in their order; no other line is one
abbrev pub AreAnswersBy : {K : Type 0} → PolicyReading → List (Exchange K) → List Answered → Type 0
AreAnswersBy reads [] told = told ≡ []
AreAnswersBy reads (x ∷ xs) told =
    (IsNoRequestBy reads x.line × AreAnswersBy reads xs told)
    ⊎ ((t : Answered) × (others : List Answered) × (told ≡ t ∷ others) × IsRequestBy reads x.line t.line × (x.reply ≡ answer_line t)
    × AreAnswersBy reads xs others)
