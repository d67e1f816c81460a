-- When nothing hinders a run, and how it ends then.
use Rattle.std.specs.Prelude.{◌≡◌, IsTrue, ℕ, Option, Some}
use Rattle.std.specs.Bool.{OnTrue}
use Rattle.ucon_flow.specs.Causes.{Rose}
use Rattle.ucon_model.specs.Document.{policy_part}
use Rattle.ucon_model.specs.History.{History}
use Rattle.ucon_model.specs.Plain.{Bytes}
use Rattle.ucon_store.specs.Found.{IsFoundBy}
use Rattle.ucon_top.specs.declared.form.Form.{Form}
use Rattle.ucon_outcome.specs.declared.outcome.Outcome.{Outcome}
use Rattle.ucon_outcome.specs.Ending.{ending}
use Rattle.ucon_top.specs.Accepted.{IsAcceptedBy}
use Rattle.ucon_top.specs.Own.{IsOwnFileBy}
use Rattle.ucon_top.specs.Seen.{Seen}
use Rattle.ucon_top.specs.Traits.{traits}
use Rattle.ucon_store.specs.Points.{PolicyReading}

-- the disk tells its file, which opening sees as a fresh one or a journal under the policy of this text
pub record IsOwnJournalBy (reads : PolicyReading) (text : Bytes) (contents : Option Bytes) : Type 0 where
  pub file : Bytes
  pub told : contents ≡ Some file
  pub entries : ℕ
  pub own : IsOwnFileBy reads text entries file

-- the disk tells its file, which is found as a history under the policy of this text
pub record IsFoundJournalBy (reads : PolicyReading) (text : Bytes) (contents : Option Bytes) : Type 0 where
  pub file : Bytes
  pub told : contents ≡ Some file
  pub history : History
  pub found : IsFoundBy reads text file history

-- Nothing hinders a run of a form over these bytes. They are an accepted document. The journal of a form that has one, as the disk tells it and
-- opening sees it, is fresh or the document's own. It is found so if the form checks every record. No count of faults rose.
pub record IsUnhinderedBy (reads : PolicyReading) (form : Form) (bytes : Bytes) (before after : Seen) : Type 0 where
  pub accepted : IsAcceptedBy reads bytes
  pub journal : OnTrue (traits form).disk (IsOwnJournalBy reads (policy_part bytes) before.disk.contents)
  pub checked : OnTrue (traits form).checks (IsFoundJournalBy reads (policy_part bytes) before.disk.contents)
  pub source_works : ¬ Rose before.source.faults after.source.faults
  pub sink_works : ¬ Rose before.sink.faults after.sink.faults
  pub disk_works : ¬ Rose before.disk.faults after.disk.faults

-- all lines were answered, or the checkpoint is written, and the output is whole; or there was no memory; or no checkpoint could be written
-- of this history, or in this journal
abbrev pub IsComplete : Outcome → Type 0
IsComplete outcome = IsTrue (ending outcome).complete
