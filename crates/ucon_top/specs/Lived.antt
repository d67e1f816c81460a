-- What running a document that is still being written leaves, and how it ends. Its policy part is read first, up to the divider. Then its lines are
-- answered while they come: what was fed is what is played.
use Rattle.std.specs.Prelude.{◌≡◌, ◌≢◌, ◌⊎◌, List, ◌++◌, None, Some, IsSome, IfSome, ⊤}
use Rattle.std.specs.Io.KnownBytes.{Appends, Consumes}
use Rattle.ucon_base.specs.declared.no_memory.NoMemory.{NoMemory as Want}
use Rattle.ucon_flow.specs.Writing.{AppendsPrefix}
use Rattle.ucon_model.specs.declared.command.Entry.{Entry}
use Rattle.ucon_model.specs.Document.{ScriptLine, policy_part}
use Rattle.ucon_model.specs.LegalRun.{Answered}
use Rattle.ucon_model.specs.Plain.{Bytes}
use Rattle.ucon_model.specs.StoredRun.{failed_line}
use Rattle.ucon_script.specs.Coming.{IsLongPart, IsUndivided}
use Rattle.ucon_script.specs.ComingScript.{IsFedBy, IsFedToFaultBy, IsFedToLimitBy, IsFedToRefusalBy, IsFedWholeBy}
use Rattle.ucon_store.specs.declared.fault.StoreFault.{StoreFault}
use Rattle.ucon_store.specs.declared.fault.StoreFault.TheVariants as stores
use Rattle.ucon_store.specs.Points.{PolicyReading}
use Rattle.ucon_outcome.specs.declared.outcome.Outcome.{Outcome}
use Rattle.ucon_outcome.specs.declared.outcome.Outcome.TheVariants.{Done, Policy, Script, SourceFault, SinkFault, DiskFault, Damaged, NotJournal, NoMemory, OtherPolicy, TooLong}
use Rattle.ucon_top.specs.declared.form.Form.TheVariants.{Live}
use Rattle.ucon_trial.specs.Runs.{IsUnfaulted}
use Rattle.ucon_top.specs.Accepted.{IsPolicyFault}
use Rattle.ucon_top.specs.Ending.{IsCounted}
use Rattle.ucon_top.specs.Played.{IsRunOverBy, IsUnopenedBy}
use Rattle.ucon_top.specs.Seen.{Seen, IsAsBefore}
use Rattle.ucon_top.specs.Stepping.{HaveOutput}

-- ---- which lines were fed

-- Those up to what stopped the script, by how the run ends if nothing else ends it: all; those above a refused line; those within the limit; or the
-- whole lines that came before the source failed. Where there was no memory they are the first ones.
abbrev pub IsFedToBy : PolicyReading → (stop : Outcome) → (bytes read : Bytes) → List ScriptLine → Type 0
IsFedToBy reads Done bytes read told = IsFedWholeBy reads (Some bytes) read told
IsFedToBy reads (Script f) bytes read told = IsFedToRefusalBy reads bytes f told
IsFedToBy reads TooLong bytes read told = IsFedToLimitBy reads read told
IsFedToBy reads SourceFault bytes read told = IsFedToFaultBy reads read told
IsFedToBy reads (NoMemory e) bytes read told = IsFedBy reads bytes told
IsFedToBy reads outcome bytes read told = ⊥

-- ---- what was run

-- The lines up to what stopped the script were run over the journal, each client's in a thread of its own. The source's count of faults is one more
-- if that was its fault, and otherwise as it was.
pub record IsLivedToBy (reads : PolicyReading) (stop : Outcome) (bytes read : Bytes) (before after : Seen) (causes : List Answered → Type 0)
    (so : List Entry → List Answered → Type 0) : Type 0 where
  pub source : IsCounted stop SourceFault before.source.faults after.source.faults
  pub run : IsRunOverBy reads Live bytes (IsFedToBy reads stop bytes read) before.disk after.disk causes so

-- Something stopped the script, if only its end, that is no want of memory, and the lines up to that were run so.
abbrev pub IsLivedUpToBy : PolicyReading → (bytes read : Bytes) → (before after : Seen) → (List Answered → Type 0)
    → (List Entry → List Answered → Type 0) → Type 0
IsLivedUpToBy reads bytes read before after causes so =
    (stop : Outcome) × ((e : Want) → stop ≢ NoMemory e) × IsLivedToBy reads stop bytes read before after causes so

-- so the fed lines were answered: no line met a fault, the output is whole, and the disk didn't fail
abbrev pub IsLivedWhole : PolicyReading → Outcome → (bytes read : Bytes) → (before after : Seen) → Type 0
IsLivedWhole reads stop bytes read before after =
    IsLivedToBy reads stop bytes read before after (λ told. (failed_line told ≡ None) × IsUnfaulted told)
    (HaveOutput (Appends before.sink.contents after.sink.contents))
    × (after.disk.faults ≡ before.disk.faults)

-- Nothing is written, and the source has failed if that ended the run.
pub record IsUntoldBy (outcome : Outcome) (before after : Seen) : Type 0 where
  pub unwritten : after.sink ≡ before.sink
  pub source : IsCounted outcome SourceFault before.source.faults after.source.faults

-- no call of the disk was made, and nothing written
abbrev pub IsUnbegun : Outcome → (before after : Seen) → Type 0
IsUnbegun outcome before after = IsUntoldBy outcome before after × IsAsBefore before.disk after.disk

-- the journal wasn't opened for this reason, and nothing is written
abbrev pub IsLeftUnopened : PolicyReading → Outcome → StoreFault → Bytes → (before after : Seen) → Type 0
IsLeftUnopened reads outcome fault bytes before after =
    IsUntoldBy outcome before after × IsUnopenedBy reads fault (policy_part bytes) before.disk after.disk

-- What holds by how the run ended, if these bytes of the document were read. What is met behind the divider ends the run only once the fed lines were
-- answered and their output is written. A fault of the sink stands before one of the disk, and both before what stopped the script. That is a fault of
-- the source, too many bytes, or a line that is refused. Without memory nothing is written.
abbrev pub HasLivedBy : PolicyReading → Outcome → (bytes read : Bytes) → (before after : Seen) → Type 0
HasLivedBy reads Done bytes read before after = IsLivedWhole reads Done bytes read before after
HasLivedBy reads (Script f) bytes read before after = IsLivedWhole reads (Script f) bytes read before after
HasLivedBy reads TooLong bytes read before after =
    (IsLongPart read × IsUnbegun TooLong before after) ⊎ IsLivedWhole reads TooLong bytes read before after
HasLivedBy reads SourceFault bytes read before after =
    (IsUndivided read × IsUnbegun SourceFault before after) ⊎ IsLivedWhole reads SourceFault bytes read before after
HasLivedBy reads SinkFault bytes read before after =
    IsLivedUpToBy reads bytes read before after (λ told. ⊤) (HaveOutput (AppendsPrefix before.sink.contents after.sink.contents))
HasLivedBy reads DiskFault bytes read before after =
    IsLivedUpToBy reads bytes read before after (λ told. IsSome (failed_line told))
    (HaveOutput (Appends before.sink.contents after.sink.contents))
    ⊎ IsLeftUnopened reads DiskFault stores.DiskFault bytes before after
HasLivedBy reads NotJournal bytes read before after = IsLeftUnopened reads NotJournal stores.NotJournal bytes before after
HasLivedBy reads (Damaged number place) bytes read before after =
    IsLeftUnopened reads (Damaged number place) (stores.Damaged number place) bytes before after
HasLivedBy reads (OtherPolicy place) bytes read before after =
    IsLeftUnopened reads (OtherPolicy place) (stores.OtherPolicy place) bytes before after
HasLivedBy reads (Policy f) bytes read before after = IsPolicyFault f bytes × IsUnbegun (Policy f) before after
HasLivedBy reads (NoMemory e) bytes read before after =
    IsUnbegun (NoMemory e) before after ⊎ IsLeftUnopened reads (NoMemory e) (stores.NoMemory e) bytes before after
    ⊎ ((after.sink ≡ before.sink) × (stop : Outcome) × IsLivedToBy reads stop bytes read before after (λ told. ⊤) (λ lines told. ⊤))
HasLivedBy reads outcome bytes read before after = ⊥

-- So it was run over some bytes, which are those of the input if the source tells them. What was read is their front.
pub record HasLivedInputBy (reads : PolicyReading) (outcome : Outcome) (before after : Seen) : Type 0 where
  pub bytes : Bytes
  pub read : Bytes
  pub rest : Bytes
  pub are : IfSome before.source.left (λ known. known ≡ bytes)
  pub consumed : Consumes before.source.left after.source.left read
  pub begins : bytes ≡ read ++ rest
  pub lived : HasLivedBy reads outcome bytes read before after
