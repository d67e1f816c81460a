-- What a run prints.
use Rattle.std.specs.Prelude.{◌≡◌, IsTrue, List, ◌++◌, length, take, drop, Option, Some, None, Ok, ⊤}
use Rattle.ucon_model.specs.declared.command.Entry.{Entry}
use Rattle.ucon_model.specs.Plain.{Bytes, PlainPolicy}
use Rattle.ucon_model.specs.Document.{ScriptLine, entries_of, document_read}
use Rattle.ucon_model.specs.Generated.{generated}
use Rattle.ucon_top.specs.declared.form.Form.{Form}
use Rattle.ucon_top.specs.declared.form.Form.TheVariants.{Trial, Check, Gen}
use Rattle.ucon_top.specs.Traits.{traits}
use Rattle.ucon_top.specs.Accepted.{HasPolicy}
use Rattle.ucon_trial.specs.Models.{rights_output}
use Rattle.ucon_trial.specs.Runs.{IsRunOutput, IsRunSummary}
use Rattle.ucon_store.specs.Points.{PolicyReading}

-- what a form prints of a policy and lines; one whose output depends on its journal prints nothing of them alone
abbrev pub IsFormOutput : Form → PlainPolicy → List Entry → Bytes → Type 0
IsFormOutput Trial P lines text = IsRunOutput P lines text
IsFormOutput Check P lines text = text ≡ rights_output P.rights
IsFormOutput (Gen seed size) P lines text = IsRunSummary P lines text
IsFormOutput form P lines text = ⊥

-- the bytes of the document that a form runs: those of the input, or, for `gen`, the generated ones
abbrev pub document_of : Form → Option Bytes → Option Bytes
document_of (Gen seed size) input = Some (generated seed size)
document_of form input = input

-- the form reads the input
abbrev pub ReadsInput : Form → Type 0
ReadsInput form = IsTrue (traits form).reads

-- the bytes are an accepted document, and the text is what the form prints of it
pub record IsOutputOfBy (reads : PolicyReading) (form : Form) (bytes text : Bytes) : Type 0 where
  pub policy : PlainPolicy
  pub lines : List ScriptLine
  pub has_policy : HasPolicy bytes policy
  pub says : document_read reads bytes ≡ Ok lines
  pub prints : IsFormOutput form policy (entries_of lines) text

-- the text is the front of what the form prints of the document that the bytes are
pub record IsCutOutputOfBy (reads : PolicyReading) (form : Form) (bytes text : Bytes) : Type 0 where
  pub whole : Bytes
  pub is_output : IsOutputOfBy reads form bytes whole
  pub is_front : take (length text) whole ≡ text

-- what a sink holds now beyond what it held before
abbrev pub added : Bytes → Bytes → Bytes
added before now = drop (length before) now

-- If source and sink tell what they hold: the sink holds what it held before, and what was added is so related to the source's bytes.
abbrev pub Adds : (Bytes → Bytes → Type 0) → Option Bytes → Option Bytes → Option Bytes → Type 0
Adds R (Some bytes) (Some before) (Some now) = (now ≡ before ++ added before now) × R bytes (added before now)
Adds R (Some bytes) (Some before) None = ⊥
Adds R (Some bytes) None now = ⊤
Adds R None before now = ⊤
