-- What is fed to the clients of a script that is still being written.
use Rattle.std.specs.Prelude.{Box, ◌≡◌, ℕ, ◌<◌, true, false, nat_eq, List, ◌++◌, length, map, slice_index_or, Result, Ok, Err}
use Rattle.std.specs.List.{filter}
use Rattle.ucon_flow.specs.Seen.{SourceSeen}
use Rattle.ucon_script.specs.declared.coming_script.ComingScript.{ComingScript}
use Rattle.ucon_script.specs.declared.document.Line.{Line}
use Rattle.ucon_script.specs.declared.script_stop.ScriptStop.{ScriptStop}
use Rattle.ucon_script.specs.ComingScript.{Says, Stops}
use Rattle.ucon_script.specs.Document.{line_of}
use Rattle.ucon_client.specs.Inbox.{Fed}

module _ {Z : Type 0} where
  -- a client's own lines, in their order
  abbrev pub own : ℕ → List (Box Line Z) → List (Box Line Z)
  own client lines = filter (λ l. nat_eq client l.value.caller.0) lines

  -- a feeder that was fed these lines more
  abbrev pub fed_with : Fed (Box Line Z) → List (Box Line Z) → Fed (Box Line Z)
  fed_with f lines = record f { fed = record f.fed { lines = f.fed.lines ++ lines } }

  -- each client was fed its own of these lines
  abbrev pub AreFed : (old new : List (Fed (Box Line Z))) → List (Box Line Z) → Type 0
  AreFed old new lines = (client : ℕ) (d : Fed (Box Line Z)) → client < length old
      → slice_index_or new client d ≡ fed_with (slice_index_or old client d) (own client lines)

-- a feeder that was fed the end word
abbrev pub ended : {T : Type 0} → Fed T → Fed T
ended f = record f { fed = record f.fed { ended = true } }

-- each was fed the end word
abbrev pub AreEnded : {T : Type 0} → (old new : List (Fed T)) → Type 0
AreEnded {T} old new = (k : ℕ) (d : Fed T) → k < length old → slice_index_or new k d ≡ ended (slice_index_or old k d)

-- Lines that came were judged, and each was fed to its client.
pub record HasFedTo {S Z : Type 0} (seen : S → SourceSeen) (old new : ComingScript) (first last : S) (feeders fed : List (Fed (Box Line Z))) : Type 0 where
  pub lines : List (Box Line Z)
  pub says : Says seen old new first last (map (λ l. line_of l.value) lines)
  pub are_fed : AreFed feeders fed lines

-- That, and then the next line was stopped, and not fed.
pub record IsFedUpTo {S Z : Type 0} (seen : S → SourceSeen) (old new : ComingScript) (first last : S) (feeders fed : List (Fed (Box Line Z)))
    (stop : ScriptStop) : Type 0 where
  pub mid : ComingScript
  pub at : S
  pub fed_to : HasFedTo seen old mid first at feeders fed
  pub running : mid.lines.over ≡ false
  pub stops : Stops seen mid new at last stop

-- all lines were fed, or those up to what stopped the script
abbrev pub FeedsUpTo : {S Z : Type 0} → (S → SourceSeen) → (old new : ComingScript) → (first last : S) → (feeders fed : List (Fed (Box Line Z)))
    → Result (Unit {0}) ScriptStop → Type 0
FeedsUpTo seen old new first last feeders fed (Ok u) = HasFedTo seen old new first last feeders fed × (new.lines.over ≡ true)
FeedsUpTo seen old new first last feeders fed (Err stop) = IsFedUpTo seen old new first last feeders fed stop

-- and then each was fed the end word
pub record HasFed {S Z : Type 0} (seen : S → SourceSeen) (old new : ComingScript) (first last : S) (feeders fed : List (Fed (Box Line Z)))
    (result : Result (Unit {0}) ScriptStop) : Type 0 where
  pub before : List (Fed (Box Line Z))
  pub as_many : length before ≡ length feeders
  pub up_to : FeedsUpTo seen old new first last feeders before result
  pub ends : AreEnded before fed
