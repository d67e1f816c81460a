-- What a run did by the program's own reading of policies' texts: what the functions below `run` say.
use Rattle.std.specs.Prelude.{Bool, List, Option, ℕ, ⊤}
use Rattle.ucon_disk.specs.Seen.{DiskSeen}
use Rattle.ucon_flow.specs.Seen.{SinkSeen}
use Rattle.ucon_model.specs.Document.{ScriptLine}
use Rattle.ucon_model.specs.History.{History}
use Rattle.ucon_model.specs.LegalRun.{Answered}
use Rattle.ucon_model.specs.Action.{Trace}
use Rattle.ucon_model.specs.Plain.{Bytes, PlainPolicy}
use Rattle.ucon_model.specs.declared.command.Caller.{Caller}
use Rattle.ucon_model.specs.declared.command.Entry.{Entry}
use Rattle.ucon_outcome.specs.declared.outcome.Outcome.{Outcome}
use Rattle.ucon_outcome.specs.declared.outcome.Refused.{Refused}
use Rattle.ucon_script.specs.declared.doc_fault.DocFault.{DocFault}
use Rattle.ucon_syntax.specs.Policies.{accepted}
use Rattle.ucon_top.specs.Accepted.{IsAcceptedBy, IsPolicyFault, IsRefusedSo, IsScriptFaultBy}
use Rattle.ucon_top.specs.Complete.{IsFoundJournalBy, IsOwnJournalBy, IsUnhinderedBy}
use Rattle.ucon_top.specs.Lived.{HasLivedBy, HasLivedInputBy, IsFedToBy, IsLivedToBy}
use Rattle.ucon_top.specs.Own.{IsOwnFileBy, IsOwnStateBy}
use Rattle.ucon_top.specs.Played.{HasPlayedBy, HasPlayedInputBy, IsFoundSinceBy, IsPlayedBy, IsRunOverBy, IsUnopenedBy}
use Rattle.ucon_top.specs.Pointed.{HasNoPointBy, HasPointBy, HasPointedBy, HasPointedInputBy, IsPointOverBy, IsStillFoundBy, MayHavePointBy}
use Rattle.ucon_store.specs.declared.fault.StoreFault.{StoreFault}
use Rattle.ucon_top.specs.Telling.{ChecksBy, HasToldBy, HasToldInputBy, IsCheckedStateBy, IsOpenedStateBy, IsUncheckedBy, TellsBy, TellsNothingBy}
use Rattle.ucon_top.specs.Printed.{IsCutOutputOfBy, IsOutputOfBy}
use Rattle.ucon_top.specs.Seen.{Seen}
use Rattle.ucon_top.specs.declared.form.Form.{Form}
use Rattle.ucon_outcome.specs.declared.outcome.Refused.TheVariants as refusals

abbrev pub IsAccepted : Bytes → Type 0
IsAccepted = IsAcceptedBy accepted

abbrev pub IsScriptFault : DocFault → Bytes → Type 0
IsScriptFault = IsScriptFaultBy accepted

abbrev pub IsRefusedBy : Outcome → Bytes → Type 0
IsRefusedBy = IsRefusedSo accepted

abbrev pub IsOwnJournal : Bytes → Option Bytes → Type 0
IsOwnJournal = IsOwnJournalBy accepted

abbrev pub IsUnhindered : Form → Bytes → Seen → Seen → Type 0
IsUnhindered = IsUnhinderedBy accepted

abbrev pub IsOwnFile : Bytes → ℕ → Bytes → Type 0
IsOwnFile = IsOwnFileBy accepted

abbrev pub IsFoundSince : Bytes → History → History → Option Entry → Bytes → Type 0
IsFoundSince = IsFoundSinceBy accepted

abbrev pub IsPlayed : (Caller → Caller → Bool) → Bytes → PlainPolicy → Bytes → History → DiskSeen → DiskSeen → List Answered → Type 0
IsPlayed = IsPlayedBy accepted

abbrev pub IsRunOver : Form → Bytes → (List ScriptLine → Type 0) → DiskSeen → DiskSeen → (List Answered → Type 0)
    → (List Entry → List Answered → Type 0) → Type 0
IsRunOver = IsRunOverBy accepted

abbrev pub HasPlayed : Form → Outcome → Bytes → DiskSeen → DiskSeen → SinkSeen → SinkSeen → Type 0
HasPlayed = HasPlayedBy accepted

abbrev pub HasPlayedInput : Form → Outcome → Option Bytes → DiskSeen → DiskSeen → SinkSeen → SinkSeen → Type 0
HasPlayedInput = HasPlayedInputBy accepted

abbrev pub IsFedTo : Outcome → (bytes read : Bytes) → List ScriptLine → Type 0
IsFedTo = IsFedToBy accepted

abbrev pub IsLivedTo : Outcome → (bytes read : Bytes) → (before after : Seen) → (List Answered → Type 0) → (List Entry → List Answered → Type 0) → Type 0
IsLivedTo = IsLivedToBy accepted

abbrev pub HasLived : Outcome → (bytes read : Bytes) → (before after : Seen) → Type 0
HasLived = HasLivedBy accepted

abbrev pub HasLivedInput : Outcome → (before after : Seen) → Type 0
HasLivedInput = HasLivedInputBy accepted

abbrev pub IsUnopened : StoreFault → Bytes → DiskSeen → DiskSeen → Type 0
IsUnopened = IsUnopenedBy accepted

abbrev pub IsStillFound : Bytes → Bytes → History → DiskSeen → DiskSeen → (may leaves : Bytes → Bytes → Type 0) → Type 0
IsStillFound = IsStillFoundBy accepted

abbrev pub IsPointOver : Bytes → DiskSeen → DiskSeen → (PlainPolicy → ℕ → Trace → Type 0)
    → (may leaves : ℕ → Bytes → Bytes → Type 0) → (PlainPolicy → History → Type 0) → Type 0
IsPointOver = IsPointOverBy accepted

abbrev pub HasPoint : Bytes → DiskSeen → DiskSeen → (Bytes → Type 0) → Type 0
HasPoint = HasPointBy accepted

abbrev pub HasNoPoint : Bytes → DiskSeen → DiskSeen → (PlainPolicy → ℕ → Trace → Type 0) → (PlainPolicy → History → Type 0) → Type 0
HasNoPoint = HasNoPointBy accepted

abbrev pub MayHavePoint : Bytes → DiskSeen → DiskSeen → Type 0
MayHavePoint = MayHavePointBy accepted

abbrev pub HasPointed : Outcome → Bytes → DiskSeen → DiskSeen → SinkSeen → SinkSeen → Type 0
HasPointed = HasPointedBy accepted

abbrev pub HasPointedInput : Outcome → Option Bytes → DiskSeen → DiskSeen → SinkSeen → SinkSeen → Type 0
HasPointedInput = HasPointedInputBy accepted

abbrev pub IsOwnState : Bytes → PlainPolicy → ℕ → Trace → Bytes → Type 0
IsOwnState = IsOwnStateBy accepted

abbrev pub IsOpenedState : Bytes → DiskSeen → DiskSeen → (PlainPolicy → Trace → Type 0) → Type 0
IsOpenedState = IsOpenedStateBy accepted

abbrev pub IsCheckedState : Bytes → DiskSeen → DiskSeen → (PlainPolicy → History → Bytes → Type 0) → Type 0
IsCheckedState = IsCheckedStateBy accepted

abbrev pub Checks : (text file c : Bytes) → Type 0
Checks = ChecksBy accepted

abbrev pub IsUnchecked : StoreFault → Bytes → DiskSeen → DiskSeen → Type 0
IsUnchecked = IsUncheckedBy accepted

abbrev pub IsFoundJournal : Bytes → Option Bytes → Type 0
IsFoundJournal = IsFoundJournalBy accepted

abbrev pub Tells : Form → Bytes → DiskSeen → DiskSeen → (Bytes → Type 0) → Type 0
Tells = TellsBy accepted

abbrev pub TellsNothing : Form → StoreFault → Bytes → DiskSeen → DiskSeen → Type 0
TellsNothing = TellsNothingBy accepted

abbrev pub HasTold : Form → Outcome → Bytes → DiskSeen → DiskSeen → SinkSeen → SinkSeen → Type 0
HasTold = HasToldBy accepted

abbrev pub HasToldInput : Form → Outcome → Option Bytes → DiskSeen → DiskSeen → SinkSeen → SinkSeen → Type 0
HasToldInput = HasToldInputBy accepted

abbrev pub IsOutputOf : Form → Bytes → Bytes → Type 0
IsOutputOf = IsOutputOfBy accepted

abbrev pub IsCutOutputOf : Form → Bytes → Bytes → Type 0
IsCutOutputOf = IsCutOutputOfBy accepted

-- the document is refused so; want of memory may come at any moment
abbrev pub IsRefused : Refused → Bytes → Type 0
IsRefused (refusals.Policy f) bytes = IsPolicyFault f bytes
IsRefused (refusals.Script f) bytes = IsScriptFault f bytes
IsRefused (refusals.NoMemory e) bytes = ⊤
