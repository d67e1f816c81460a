-- Payloads around the last checkpoint among them, and the first that is too long.
use Rattle.std.specs.Prelude.{ℕ, ◌+◌, nat_lt, Bool, List, [], ◌∷◌, length, Option, Some, None, option_map, if◌then◌else◌}
use Rattle.std.specs.Option.{option_or}
use Rattle.ucon_model.specs.Found.{next_gate}
use Rattle.ucon_model.specs.Payload.{most_payload}
use Rattle.ucon_model.specs.Plain.{Bytes}
use Rattle.ucon_store.specs.PointRecords.{is_point}

-- payloads around the last of them that begins as a checkpoint
pub record Parted : Type 0 where
  pub before : List Bytes
  pub point : Bytes
  pub behind : List Bytes

-- with one payload more before them
abbrev pub preceded_by : Bytes → Parted → Parted
preceded_by payload p = record { before = payload ∷ p.before; point = p.point; behind = p.behind }

abbrev pub parted_here : Bytes → List Bytes → Option Parted
parted_here payload payloads = if is_point payload then Some (record { before = []; point = payload; behind = payloads }) else None

-- the payloads around the last checkpoint; none if there is none
abbrev pub parted : List Bytes → Option Parted
parted [] = None
parted (payload ∷ payloads) = option_or (option_map (preceded_by payload) (parted payloads)) (parted_here payload payloads)

-- the same if there may be checkpoints; if there may not, none is
abbrev pub parted_with : Bool → List Bytes → Option Parted
parted_with points payloads = if points then parted payloads else None

-- how many payloads don't begin as a checkpoint
abbrev pub steps_among : List Bytes → ℕ
steps_among [] = 0
steps_among (payload ∷ payloads) = if is_point payload then steps_among payloads else steps_among payloads + 1

-- a record is too long: the first one, by its number and the place of its gate
abbrev pub first_long : (number gate : ℕ) → List Bytes → Option (ℕ × ℕ)
first_long number gate [] = None
first_long number gate (payload ∷ payloads) =
    if nat_lt most_payload (length payload) then Some (number, gate) else first_long (number + 1) (next_gate gate payload) payloads
