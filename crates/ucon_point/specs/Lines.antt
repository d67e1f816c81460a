-- The lines of a checkpoint's rows, one of each sort.
use Rattle.std.specs.Prelude.{ℤ, List, [], ◌∷◌, ◌++◌, codes, decimal, Option, Some, None}
use Rattle.std.specs.Fmt.{signed_decimal}
use Rattle.std.specs.List.{join_with_byte}
use Rattle.ucon_base.specs.declared.value.Side.{Side}
use Rattle.ucon_base.specs.declared.value.Side.TheVariants.{Subject, Object}
use Rattle.ucon_base.specs.declared.value.Value.{Value}
use Rattle.ucon_base.specs.Spelling.{value_spelling}
use Rattle.ucon_model.specs.declared.session.SessionRow.{SessionRow}
use Rattle.ucon_model.specs.Plain.{Bytes}
use Rattle.ucon_model.specs.Spelling.{state_word}

-- words with a space between, and a newline
abbrev pub line : List Bytes → Bytes
line words = join_with_byte 32 words ++ 10 ∷ []

-- a word, a name and its value; no line if it has none
abbrev pub value_line : Bytes → Bytes → Option Value → Bytes
value_line word name None = []
value_line word name (Some v) = line (word ∷ name ∷ value_spelling v ∷ [])

-- the word of a side
abbrev pub entity_word : Side → Bytes
entity_word Subject = codes "subject"
entity_word Object = codes "object"

-- an entity
abbrev pub entity_line : Side → Bytes → Bytes
entity_line side name = line (entity_word side ∷ name ∷ [])

-- an act by its three names, and its moment
abbrev pub act_words : Bytes × Bytes × Bytes → ℤ → List Bytes
act_words a moment = codes "act" ∷ a.0 ∷ a.1 ∷ a.2 ∷ signed_decimal moment ∷ []

-- a session
abbrev pub session_words : SessionRow → List Bytes
session_words row =
    codes "session" ∷ decimal row.caller.0 ∷ row.right ∷ row.subject ∷ row.object ∷ state_word row.state ∷ signed_decimal row.start ∷ []
