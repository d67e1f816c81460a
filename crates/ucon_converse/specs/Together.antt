-- Requests that are answered together.
use Rattle.std.specs.Prelude.{◌≡◌, ℕ, ◌+◌, ◌<◌, List, [], ◌∷◌, ◌++◌, length, take, drop, Bool, true, false}
use Rattle.ucon_base.specs.Elements.{Each}
use Rattle.ucon_flow.specs.Lines.{IsLine}
use Rattle.ucon_model.specs.declared.command.Entry.{Entry}
use Rattle.ucon_model.specs.History.{History}
use Rattle.ucon_model.specs.LegalRun.{Answered, disk_fault, no_memory, placed, stopped}
use Rattle.ucon_model.specs.Output.{answer_line, output}
use Rattle.ucon_model.specs.Plain.{Bytes, PlainPolicy}
use Rattle.ucon_model.specs.Views.{reply_of}
use Rattle.ucon_store.specs.declared.batch.Batched.{Batched}
use Rattle.ucon_store.specs.declared.batch.BatchEnd.{BatchEnd}
use Rattle.ucon_store.specs.declared.batch.BatchEnd.TheVariants as ends
use Rattle.ucon_store.specs.declared.placed.Placed.{Placed}
use Rattle.ucon_syntax.specs.Policies.{accepted}
use Rattle.ucon_converse.specs.Due.{is_due_after}
use Rattle.ucon_converse.specs.Fronts.{StandsInFront}
use Rattle.ucon_converse.specs.Replies.{Standing, StepsAndRests}
use Rattle.ucon_converse.specs.Requests.{IsRequestBy}

-- ---- what is asked

-- a request stands in front of what came, and so many bytes are its line, with its newline
pub record IsInFront (limit : ℕ) (asked : Entry) (len : ℕ) (came : Bytes) : Type 0 where
  pub line : Bytes
  pub stands : StandsInFront limit line came
  pub request : IsRequestBy accepted line asked
  pub len_is : len ≡ length line + 1

-- these requests stand in front of what came, one behind the other, and then the rest
abbrev pub AreInFront : ℕ → List Entry → Bytes → Bytes → Type 0
AreInFront limit [] came rest = rest ≡ came
AreInFront limit (e ∷ es) came rest = (len : ℕ) × IsInFront limit e len came × AreInFront limit es (drop len came) rest

-- ---- what is answered

-- the first lines with their replies
abbrev pub replied : List Entry → List Placed → List Answered
replied lines [] = []
replied [] (p ∷ placed') = []
replied (e ∷ lines) (p ∷ placed') = record { line = e; answer = placed p.place (reply_of p.reply) } ∷ replied lines placed'

-- the disk had failed before these
abbrev pub all_stopped : List Entry → List Answered
all_stopped [] = []
all_stopped (e ∷ lines) = record { line = e; answer = stopped } ∷ all_stopped lines

-- these were to be written together, and met a disk fault
abbrev pub broken_off : List Entry → List Answered
broken_off [] = []
broken_off (e ∷ lines) = record { line = e; answer = disk_fault } ∷ all_stopped lines

-- there was no memory for the first line
abbrev pub unheard_first : List Entry → List Answered
unheard_first [] = []
unheard_first (e ∷ lines) = record { line = e; answer = no_memory } ∷ []

-- the first lines of a batch with their replies, or the answer to the first one that there was no memory
abbrev pub replied_or_unheard : List Entry → List Placed → List Answered
replied_or_unheard lines [] = unheard_first lines
replied_or_unheard lines (p ∷ placed') = replied lines (p ∷ placed')

-- what lines are answered, by why the batch ended
abbrev pub answered_so : BatchEnd → List Entry → List Placed → ℕ → List Answered
answered_so ends.All lines placed' taken = replied lines placed'
answered_so ends.Full lines placed' taken = replied lines placed'
answered_so (ends.NoMemory e) lines placed' taken = replied_or_unheard lines placed'
answered_so ends.DiskFault lines placed' taken = replied lines placed' ++ broken_off (drop (length placed') (take taken lines))
answered_so ends.Stopped lines placed' taken = []

-- what the first lines of a batch are answered
abbrev pub answered_in : List Entry → Batched → List Answered
answered_in lines b = answered_so b.end lines b.placed.items b.taken

-- the line of each answer is one line, and they stand behind a text
abbrev pub ArePut : List Answered → Bytes → Bytes → Type 0
ArePut told old new = Each (λ t. IsLine (answer_line t)) told × (new ≡ old ++ output told)

-- whether replies were given, and all that they tell is on the disk
abbrev pub is_answered : BatchEnd → List Placed → Bool
is_answered end [] = false
is_answered ends.DiskFault (p ∷ placed') = false
is_answered ends.Stopped (p ∷ placed') = false
is_answered ends.All (p ∷ placed') = true
is_answered ends.Full (p ∷ placed') = true
is_answered (ends.NoMemory e) (p ∷ placed') = true

-- ---- from one standing to another

-- each answer leads on from what was there before it, and a checkpoint is tried behind it, if one is due
abbrev pub StepEach : Type 0 → PlainPolicy → Bytes → Standing → List Answered → Standing → Type 0
StepEach old P text first [] last = first ≡ last
StepEach old P text first (t ∷ told) last = (between : Standing) × StepsAndRests old P text first between t × StepEach old P text between told last

-- no checkpoint is due before so many steps more
abbrev pub IsNoneDueBefore : PlainPolicy → ℕ → History → ℕ → Type 0
IsNoneDueBefore P tried H room = (es : History) → length es < room → is_due_after P tried (H ++ es) ≡ false
