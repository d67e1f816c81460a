-- What the end of the run over a store says of the end of a live run.
use Rattle.std.proofs.Common.{◌≡◌, ◌≢◌, ℕ, refl, subst, sym}
use Rattle.std.specs.Prelude.{Result, Ok, Err}
use Rattle.ucon_flow.specs.Causes.{raised}
use Rattle.ucon_script.specs.declared.script_stop.ScriptStop.{ScriptStop}
use Rattle.ucon_script.specs.declared.script_stop.ScriptStop.TheVariants as stops
use Rattle.ucon_outcome.specs.declared.outcome.Outcome.{Outcome}
use Rattle.ucon_outcome.specs.declared.outcome.Outcome.TheVariants as outcomes
use Rattle.ucon_top.specs.Closing.{IsOfRun}
use Rattle.ucon_top.specs.Ending.{IsCounted, IsUnwritten}
use Rattle.ucon_top.specs.LiveEnding.{HasMemory, IsEndOf, IsOfMemory, stopped_by}

-- no sink stops a script
not_sink : (stop : Result (Unit {0}) ScriptStop) → stopped_by stop ≢ outcomes.SinkFault
not_sink (Ok u) is = cc is
not_sink (Err (stops.Refused f)) is = cc is
not_sink (Err stops.SourceFault) is = cc is
not_sink (Err stops.TooLong) is = cc is
not_sink (Err (stops.NoMemory m)) is = cc is

-- the sink's count rose exactly if the run ends by its fault
pub counted_end : (over : Outcome) (stop : Result (Unit {0}) ScriptStop) (outcome : Outcome) (before now : ℕ) → IsOfRun over → IsEndOf over stop outcome
    → IsCounted over outcomes.SinkFault before now → IsCounted outcome outcomes.SinkFault before now
counted_end outcomes.Done stop outcome before now of ends counted =
    ((λ is. absurd (not_sink stop (subst (λ (o : Outcome). o ≡ outcomes.SinkFault) ends.1 is))), (λ other. counted.1 (λ is. cc is)))
counted_end outcomes.SinkFault stop outcome before now of ends counted = subst (λ (o : Outcome). IsCounted o outcomes.SinkFault before now) (sym ends.1) counted
counted_end outcomes.DiskFault stop outcome before now of ends counted = subst (λ (o : Outcome). IsCounted o outcomes.SinkFault before now) (sym ends.1) counted
counted_end (outcomes.NoMemory m) stop outcome before now of ends counted = subst (λ (o : Outcome). IsCounted o outcomes.SinkFault before now) (sym ends) counted
counted_end over stop outcome before now of ends counted = absurd (cc (of.0, of.1))

memory_ends : (stop : Result (Unit {0}) ScriptStop) → HasMemory stop → IsOfMemory (stopped_by stop) → ⊥
memory_ends (Ok u) has want = want
memory_ends (Err (stops.Refused f)) has want = want
memory_ends (Err stops.SourceFault) has want = want
memory_ends (Err stops.TooLong) has want = want
memory_ends (Err (stops.NoMemory m)) has want = has

-- where it ends by want of memory the run over the store wrote nothing
pub unwritten_end : (over : Outcome) (stop : Result (Unit {0}) ScriptStop) (outcome : Outcome) → IsOfRun over → IsEndOf over stop outcome → IsOfMemory outcome → IsUnwritten over
unwritten_end outcomes.Done stop outcome of ends want = absurd (memory_ends stop ends.0 (subst IsOfMemory ends.1 want))
unwritten_end outcomes.SinkFault stop outcome of ends want = absurd (subst IsOfMemory ends.1 want)
unwritten_end outcomes.DiskFault stop outcome of ends want = absurd (subst IsOfMemory ends.1 want)
unwritten_end (outcomes.NoMemory m) stop outcome of ends want = refl
unwritten_end over stop outcome of ends want = absurd (cc (of.0, of.1))

-- the source's count rose exactly if the script was stopped by its fault
pub source_counted : (stop : Result (Unit {0}) ScriptStop) (before now : ℕ) → (stop ≡ Err stops.SourceFault → now ≡ raised before)
    → (stop ≢ Err stops.SourceFault → now ≡ before) → IsCounted (stopped_by stop) outcomes.SourceFault before now
source_counted (Ok u) before now failed works = ((λ is. absurd (cc is)), (λ other. works (λ is. cc is)))
source_counted (Err (stops.Refused f)) before now failed works = ((λ is. absurd (cc is)), (λ other. works (λ is. cc is)))
source_counted (Err stops.SourceFault) before now failed works = ((λ is. failed refl), (λ other. absurd (other refl)))
source_counted (Err stops.TooLong) before now failed works = ((λ is. absurd (cc is)), (λ other. works (λ is. cc is)))
source_counted (Err (stops.NoMemory m)) before now failed works = ((λ is. absurd (cc is)), (λ other. works (λ is. cc is)))

-- no disk stops a script
not_disk : (stop : Result (Unit {0}) ScriptStop) → stopped_by stop ≢ outcomes.DiskFault
not_disk (Ok u) is = cc is
not_disk (Err (stops.Refused f)) is = cc is
not_disk (Err stops.SourceFault) is = cc is
not_disk (Err stops.TooLong) is = cc is
not_disk (Err (stops.NoMemory m)) is = cc is

-- it ends by a disk fault only if the run over the store does
pub disk_end : (over : Outcome) (stop : Result (Unit {0}) ScriptStop) (outcome : Outcome) → IsOfRun over → IsEndOf over stop outcome → outcome ≡ outcomes.DiskFault
    → over ≡ outcomes.DiskFault
disk_end outcomes.Done stop outcome of ends is = absurd (not_disk stop (subst (λ (o : Outcome). o ≡ outcomes.DiskFault) ends.1 is))
disk_end outcomes.DiskFault stop outcome of ends is = refl
disk_end outcomes.SinkFault stop outcome of ends is = absurd (cc (ends.1, is))
disk_end (outcomes.NoMemory m) stop outcome of ends is = absurd (cc (ends, is))
disk_end over stop outcome of ends is = absurd (cc (of.0, of.1))
