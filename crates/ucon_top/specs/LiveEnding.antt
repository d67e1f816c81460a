-- How a live run over an open store ends.
use Rattle.std.specs.Prelude.{◌≡◌, ◌⊎◌, true, [], Option, Result, Ok, Err, List, ⊤}
use Rattle.ucon_flow.specs.Seen.{SourceSeen}
use Rattle.ucon_disk.specs.Seen.{DiskSeen}
use Rattle.ucon_model.specs.Document.{ScriptLine, entries_of}
use Rattle.ucon_model.specs.LegalRun.{own_answers}
use Rattle.ucon_model.specs.Plain.{Bytes, PlainPolicy}
use Rattle.ucon_script.specs.declared.coming_script.ComingScript.{ComingScript}
use Rattle.ucon_script.specs.declared.script_stop.ScriptStop.{ScriptStop}
use Rattle.ucon_script.specs.declared.script_stop.ScriptStop.TheVariants as stops
use Rattle.ucon_store.specs.Kept.{Kept}
use Rattle.ucon_client.specs.Dividing.{by_client}
use Rattle.ucon_client.specs.Live.{AreJudged}
use Rattle.ucon_outcome.specs.declared.outcome.Outcome.{Outcome}
use Rattle.ucon_outcome.specs.declared.outcome.Outcome.TheVariants.{Done, Script, SourceFault, NoMemory, TooLong}
use Rattle.ucon_outcome.specs.declared.outcome.Refused.{Refused}
use Rattle.ucon_outcome.specs.declared.outcome.Refused.TheVariants as refusals
use Rattle.ucon_top.specs.Accepted.{IsPolicyFault}
use Rattle.ucon_top.specs.Closing.{IsClosedRun, IsOfRun}
use Rattle.ucon_top.specs.Ending.{IsCounted}

-- the policy is refused so, where a document has it; want of memory may come at any moment
abbrev pub IsPolicyRefusal : Refused → Bytes → Type 0
IsPolicyRefusal (refusals.Policy f) bytes = IsPolicyFault f bytes
IsPolicyRefusal (refusals.Script f) bytes = ⊥
IsPolicyRefusal (refusals.NoMemory e) bytes = ⊤

-- how a run ends by what stopped its script, if nothing else ends it
abbrev pub stopped_by : Result (Unit {0}) ScriptStop → Outcome
stopped_by (Ok u) = Done
stopped_by (Err (stops.Refused f)) = Script f
stopped_by (Err stops.SourceFault) = SourceFault
stopped_by (Err stops.TooLong) = TooLong
stopped_by (Err (stops.NoMemory e)) = NoMemory e

-- there was no memory
abbrev pub IsOfMemory : Outcome → Type 0
IsOfMemory (NoMemory e) = ⊤
IsOfMemory outcome = ⊥

-- there was memory for each line of the script
abbrev pub HasMemory : Result (Unit {0}) ScriptStop → Type 0
HasMemory (Err (stops.NoMemory e)) = ⊥
HasMemory stop = ⊤

-- All ends as the run over the store did. If its output is whole and no line met a fault, it ends by what stopped the script. Output is written only
-- if there was memory for each line.
abbrev pub IsEndOf : (over : Outcome) → Result (Unit {0}) ScriptStop → (outcome : Outcome) → Type 0
IsEndOf Done stop outcome = HasMemory stop × (outcome ≡ stopped_by stop)
IsEndOf (NoMemory e) stop outcome = outcome ≡ NoMemory e
IsEndOf over stop outcome = HasMemory stop × (outcome ≡ over)

module _ {S D : Type 0} (source : S → SourceSeen) (seen : D → DiskSeen) where
  -- lines were judged as they came, up to what stopped the script, and the run of them over a store ended so
  pub record IsLiveRun (P : PlainPolicy) (store : Kept D) (script judged : ComingScript) (first last : S) (outcome : Outcome) (disk : D)
      (before now : Option Bytes) : Type 0 where
    pub lines : List ScriptLine
    pub stop : Result (Unit {0}) ScriptStop
    pub over : Outcome
    pub are_judged : AreJudged source script judged first last stop lines
    pub source_faults : IsCounted (stopped_by stop) SourceFault (source first).faults (source last).faults
    pub of_run : IsOfRun over
    pub run : IsClosedRun seen own_answers true P store (by_client (entries_of lines)) over disk before now
    pub ends : IsEndOf over stop outcome

  -- there was no memory to begin, and nothing was read
  pub record IsUnbegunRun (P : PlainPolicy) (store : Kept D) (script judged : ComingScript) (first last : S) (outcome : Outcome) (disk : D)
      (before now : Option Bytes) : Type 0 where
    pub unread : (judged ≡ script) × (last ≡ first)
    pub run : IsClosedRun seen own_answers true P store [] outcome disk before now
    pub of_memory : IsOfMemory outcome

  -- one or the other
  abbrev pub HasRunLive : PlainPolicy → Kept D → (script judged : ComingScript) → (first last : S) → Outcome → D → (before now : Option Bytes) → Type 0
  HasRunLive P store script judged first last outcome disk before now =
      IsLiveRun P store script judged first last outcome disk before now ⊎ IsUnbegunRun P store script judged first last outcome disk before now
