-- The first line, told.
use Rattle.std.specs.Prelude.{◌≡◌, ℕ, List, Result, Ok, Err}
use Rattle.std.specs.Io.KnownBytes.{Appends}
use Rattle.ucon_flow.specs.Writing.{AppendsPrefix}
use Rattle.ucon_tell.specs.Seen.{VoiceSeen}
use Rattle.ucon_tell.specs.Told.{TellsFronts}
use Rattle.ucon_tell.specs.declared.talk_fault.TalkFault.{TalkFault}
use Rattle.ucon_tell.specs.declared.talk_fault.TalkFault.TheVariants as faults
use Rattle.ucon_converse.specs.Replies.{ready_line}

-- it went out, by this moment of a disk; or a front of it did, if the sink failed; or nothing, if there was no memory
abbrev pub HasGreeted : Result (Unit {0}) TalkFault → ℕ → ℕ → VoiceSeen → VoiceSeen → Type 0
HasGreeted (Ok done) steps moment old new = Appends old.contents new.contents (ready_line steps) × TellsFronts old new (ready_line steps) moment
HasGreeted (Err faults.SinkFault) steps moment old new = AppendsPrefix old.contents new.contents (ready_line steps) × TellsFronts old new (ready_line steps) moment
HasGreeted (Err (faults.NoMemory e)) steps moment old new = (new.contents ≡ old.contents) × ((b : List ℕ) (t : ℕ) → new.told b t → old.told b t)
HasGreeted (Err faults.SourceFault) steps moment old new = ⊥
HasGreeted (Err faults.TooLong) steps moment old new = ⊥
