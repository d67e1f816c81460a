-- Checkpoints among the records of a journal: what has to stand in one, and where they stand.
use Rattle.std.specs.Prelude.{◌≡◌, ⊤, ℕ, ◌+◌, ◌<◌, nat_lt, Bool, false, List, [], ◌∷◌, length, Some, None, if◌then◌else◌, Option}
use Rattle.std.specs.Str.{bytes_eq}
use Rattle.ucon_model.specs.declared.command.Command.{Command}
use Rattle.ucon_model.specs.declared.command.Command.TheVariants.{Amend}
use Rattle.ucon_model.specs.Found.{Takes, only_steps, taken}
use Rattle.ucon_model.specs.History.{History}
use Rattle.ucon_model.specs.Payload.{most_payload}
use Rattle.ucon_model.specs.Plain.{Bytes, PlainPolicy}
use Rattle.ucon_journal.specs.Found.{counted}
use Rattle.ucon_point.specs.PointText.{point_after}
pub use Rattle.ucon_store.specs.PointRecords.{has_points, is_point, points_of}
use Rattle.ucon_syntax.specs.Policies.{accepted}

-- ---- one checkpoint

-- the text of the policy in force after a command that was done: that of an amendment, or the one before it
abbrev pub text_behind : Bytes → Command → Bytes
text_behind text (Amend a) = a.text
text_behind text command = text

-- the text of the policy in force after these entries, if it was this before them
abbrev pub text_in_force : Bytes → History → Bytes
text_in_force text [] = text
text_in_force text (e ∷ H) = text_in_force (text_behind text e.command) H

-- if a command is an amendment, this is its text
abbrev pub HoldsAmendment : Bytes → Command → Type 0
HoldsAmendment text (Amend a) = text ≡ a.text
HoldsAmendment text command = ⊤

-- the checkpoint after these entries, under the policy of this text
abbrev pub checkpoint : Bytes → PlainPolicy → History → Bytes
checkpoint text P H = point_after (text_in_force text H) P H

-- ---- which payloads may stand behind record 0

-- a way of reading policies' texts: the policy that a text is, or none
abbrev pub PolicyReading : Type 0
PolicyReading = Bytes → Option PlainPolicy

-- the checkpoint of the entries before it, which stay; none if the record is wrong
unfoldable pub point_taken : Takes
point_taken text P H payload =
    if nat_lt most_payload (length payload) then None else if bytes_eq payload (checkpoint text P H) then Some H else None

-- what begins as a checkpoint has to be one, and each other payload has to tell the next step
abbrev pub steps_and_points : PolicyReading → Takes
steps_and_points reads text P H payload = if is_point payload then point_taken text P H payload else taken reads P H payload

-- by whether there may be checkpoints
abbrev pub takes_by : PolicyReading → Bool → Takes
takes_by reads points = if points then steps_and_points reads else only_steps reads

-- the same by the program's own reading of policies
abbrev pub takes_with : Bool → Takes
takes_with = takes_by accepted

-- ---- where the checkpoints stand

-- how many entries stand before each checkpoint among these payloads, if so many stand before the first payload
abbrev pub places_behind : ℕ → List Bytes → List ℕ
places_behind before [] = []
places_behind before (payload ∷ payloads) =
    if is_point payload then before ∷ places_behind before payloads else places_behind (before + 1) payloads

-- the same of a journal's payloads, of which the first is record 0's
abbrev pub places_in : List Bytes → List ℕ
places_in [] = []
places_in (text ∷ payloads) = places_behind 0 payloads

-- how many entries stand before each checkpoint in a file
abbrev pub point_places : Bytes → List ℕ
point_places file = if has_points file then places_in (counted file) else []

-- the checkpoints stand where they stood, if the disk tells before and after
abbrev pub SamePlaces : Option Bytes → Option Bytes → Type 0
SamePlaces None after = ⊤
SamePlaces (Some before) None = ⊤
SamePlaces (Some before) (Some after) = point_places after ≡ point_places before

-- the file may have checkpoints afterwards exactly if it might have some before, if the disk tells both times
abbrev pub SameKind : Option Bytes → Option Bytes → Type 0
SameKind None after = ⊤
SameKind (Some before) None = ⊤
SameKind (Some before) (Some after) = has_points after ≡ has_points before

-- a file of version 1, which may have no checkpoints
abbrev pub IsOld : Bytes → Type 0
IsOld file = (9 < length file) × (has_points file ≡ false)
