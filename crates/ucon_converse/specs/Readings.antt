-- What a conversation can be asked without a client's number, and what is told of it. It makes no step.
use Rattle.std.specs.Prelude.{◌≡◌, ⊤, ℕ, ◌^◌, ◌<◌, ◌-◌, ◌==◌, IsTrue, Bool, false, List, [], ◌∷◌, ◌++◌, length, take, decimal, Option, Some, None, codes, if◌then◌else◌}
use Rattle.std.specs.Fmt.{signed_decimal}
use Rattle.std.specs.List.{flat_map}
use Rattle.std.specs.Str.{bytes_eq}
use Rattle.json.specs.Print.{quoted}
use Rattle.serde_json.specs.Written.{compact_text}
use Rattle.ucon_audit.specs.Report.{tree}
use Rattle.ucon_audit.specs.Usages.{usages}
use Rattle.ucon_base.specs.declared.value.Side.{Side}
use Rattle.ucon_base.specs.NameBytes.{is_name}
use Rattle.ucon_base.specs.Spelling.{side_word}
use Rattle.ucon_explain.specs.Text.{try_spelling}
use Rattle.ucon_model.specs.declared.session.SessionRow.{SessionRow}
use Rattle.ucon_model.specs.History.{History, trace}
use Rattle.ucon_model.specs.Plain.{Bytes, PlainPolicy}
use Rattle.ucon_model.specs.Readings.{session}
use Rattle.ucon_model.specs.Spelling.{state_word}
use Rattle.ucon_model.specs.Updates.{entity_of}
use Rattle.ucon_store.specs.Points.{text_in_force}
use Rattle.ucon_converse.specs.declared.reading.Reading.{Reading}
use Rattle.ucon_converse.specs.declared.reading.Reading.TheVariants.{State, Session, Using, UsingOf, Explain, Policy, Steps}

-- ---- which lines are readings

-- the one text of a reading
abbrev pub reading_spelling : Reading → Bytes
reading_spelling State = codes "state"
reading_spelling (Session n) = codes "session " ++ decimal n
reading_spelling Using = codes "using"
reading_spelling (UsingOf side name) = codes "using " ++ side_word side ++ 32 ∷ name
reading_spelling (Explain subject right object) = codes "explain " ++ subject ++ 32 ∷ right ++ 32 ∷ object
reading_spelling Policy = codes "policy"
reading_spelling Steps = codes "steps"

-- of names, and of a number that a session may have
abbrev pub IsInForm : Reading → Type 0
IsInForm State = ⊤
IsInForm (Session n) = n < 2 ^ 32
IsInForm Using = ⊤
IsInForm (UsingOf side name) = IsTrue (is_name name)
IsInForm (Explain subject right object) = IsTrue (is_name subject) × IsTrue (is_name right) × IsTrue (is_name object)
IsInForm Policy = ⊤
IsInForm Steps = ⊤

-- a line, without its newline, is the text of this reading
pub record IsReadingOf (line : Bytes) (reading : Reading) : Type 0 where
  pub in_form : IsInForm reading
  pub line_is : line ≡ reading_spelling reading

-- a line is the text of none
abbrev pub IsNoReading : Bytes → Type 0
IsNoReading line = (reading : Reading) → IsReadingOf line reading → ⊥

-- ---- what is told

-- `session 1 2 ann sit desk accessing 0`: the number, the client, the subject, the right, the object, the state and the start
abbrev pub row_words : ℕ → SessionRow → Bytes
row_words n row =
    codes "session " ++ decimal n ++ 32 ∷ decimal row.caller.0 ++ 32 ∷ row.subject ++ 32 ∷ row.right ++ 32 ∷ row.object ++ 32 ∷ state_word row.state
    ++ 32 ∷ signed_decimal row.start

abbrev pub session_words : ℕ → Option SessionRow → Bytes
session_words n None = codes "no session"
session_words n (Some row) = row_words n row

-- `using 1 3`
abbrev pub using_words : List ℕ → Bytes
using_words numbers = codes "using" ++ flat_map (λ n. 32 ∷ decimal n) numbers

-- whether a session is one of this subject, or of this object
abbrev pub is_of : Side → Bytes → Option SessionRow → Bool
is_of side name None = false
is_of side name (Some row) = bytes_eq (entity_of side row) name

-- a session's number, where it is one of this subject or object
abbrev pub number_of : Side → Bytes → (ℕ → Option SessionRow) → ℕ → Bytes
number_of side name row n = if is_of side name (row n) then 32 ∷ decimal n else []

-- the same of these sessions' numbers alone that are of this subject or object
abbrev pub using_of_words : Side → Bytes → (ℕ → Option SessionRow) → List ℕ → Bytes
using_of_words side name row numbers = codes "using" ++ flat_map (number_of side name row) numbers

-- a byte of several lines in one line
abbrev pub joint : ℕ → Bytes
joint byte = if byte == 10 then codes "; " else byte ∷ []

-- lines, of which the last ends with the text, as one line, joined by `; `
abbrev pub joined : Bytes → Bytes
joined text = flat_map joint (take (length text - 1) text)

-- What a reading is told behind a history that began under a policy of this text. The state is as `report` has it, and a try as `explain` prints it. The
-- sessions are those that are accessing, by rising number. The text of the policy in force is a JSON string.
abbrev pub text_told : PlainPolicy → Bytes → History → Reading → Bytes
text_told P text H State = compact_text (tree P H)
text_told P text H (Session n) = session_words n (session (trace P H) n)
text_told P text H Using = using_words (usages (trace P H))
text_told P text H (UsingOf side name) = using_of_words side name (session (trace P H)) (usages (trace P H))
text_told P text H (Explain subject right object) = joined (try_spelling P (trace P H) subject right object)
text_told P text H Policy = quoted (text_in_force text H)
text_told P text H Steps = codes "steps"

-- the line of a reading: how many steps there are, and what is told
abbrev pub reading_line : ℕ → Bytes → Bytes
reading_line steps told = codes "- " ++ decimal steps ++ 32 ∷ told ++ 10 ∷ []

-- the same behind a history
abbrev pub line_told : PlainPolicy → Bytes → History → Reading → Bytes
line_told P text H reading = reading_line (length H) (text_told P text H reading)
