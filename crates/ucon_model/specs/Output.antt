-- The output of a run, and how its answers are read from it.
use Rattle.std.specs.Prelude.{◌≡◌, ◌<◌, ◌^◌, false, ℕ, ◌==◌, List, [], ◌∷◌, ◌++◌, Option, Some, None, option_map, option_and_then, codes, ⊤}
use Rattle.std.specs.Prelude.{if◌then◌else◌}
use Rattle.std.specs.Fmt.{decimal}
use Rattle.std.specs.Str.{bytes_eq}
use Rattle.std.specs.Str.Parse.{digits_value}
use Rattle.ucon_model.specs.declared.command.Entry.{Entry}
use Rattle.ucon_model.specs.Plain.{Bytes}
use Rattle.ucon_base.specs.Elements.{Each}
use Rattle.ucon_model.specs.LegalRun.{Answer, no_memory, disk_fault, stopped, placed, Answered}
use Rattle.ucon_model.specs.ReplyText.{reply_read}
use Rattle.ucon_model.specs.Spelling.{reply_spelling}

-- ---- what is written

-- the place, or `-` if there is none, a space, and the reply's text
abbrev pub answer_spelling : Answer → Bytes
answer_spelling no_memory = codes "- no memory"
answer_spelling disk_fault = codes "- disk fault"
answer_spelling stopped = codes "- stopped"
answer_spelling (placed place reply) = decimal place ++ 32 ∷ reply_spelling reply

-- the client's number, a space, the answer, a newline
abbrev pub answer_line : Answered → Bytes
answer_line t = decimal t.line.caller.0 ++ 32 ∷ answer_spelling t.answer ++ 10 ∷ []

-- one line for each command line
abbrev pub output : List Answered → Bytes
output [] = []
output (t ∷ told) = answer_line t ++ output told

-- the byte isn't in the text
abbrev pub Lacks : ℕ → Bytes → Type 0
Lacks byte text = Each (λ b. (b == byte) ≡ false) text

-- what fits its line: a place below 2^64, and a reply whose text has no newline and is read back as it
abbrev pub FitsLine : Answer → Type 0
FitsLine (placed place reply) = (place < 2 ^ 64) × Lacks 10 (reply_spelling reply) × (reply_read (reply_spelling reply) ≡ Some reply)
FitsLine a = ⊤

-- ---- what is read

-- what stands before a byte's first place, and what stands behind it
abbrev pub cut_at : ℕ → Bytes → Option (Bytes × Bytes)
cut_at byte [] = None
cut_at byte (b ∷ bs) = if b == byte then Some ([], bs) else option_map (λ p. (b ∷ p.0, p.1)) (cut_at byte bs)

-- the number of which this is the decimal spelling
abbrev pub number_read : Bytes → Option ℕ
number_read bs = if bytes_eq bs (decimal (digits_value 10 bs)) then Some (digits_value 10 bs) else None

-- an answer without a place
abbrev pub unplaced_read : Bytes → Option Answer
unplaced_read text =
    if bytes_eq text (codes "no memory") then Some no_memory else
    if bytes_eq text (codes "disk fault") then Some disk_fault else
    if bytes_eq text (codes "stopped") then Some stopped else None

-- a place, and the reply of which this is the text
abbrev pub placed_read : Bytes → ℕ → Option Answer
placed_read text place = option_map (placed place) (reply_read text)

-- the answer that a place, or `-`, and a text tell
abbrev pub answer_read : Bytes × Bytes → Option Answer
answer_read p = if bytes_eq p.0 (codes "-") then unplaced_read p.1 else option_and_then (placed_read p.1) (number_read p.0)

-- the answer that a line of output tells, if the line is this client's
abbrev pub line_read : Entry → Bytes × Bytes → Option Answer
line_read e p = if bytes_eq p.0 (decimal e.caller.0) then option_and_then answer_read (cut_at 32 p.1) else None

-- an answered line before others
abbrev pub before_others : Entry → Option (List Answered) → Answer → Option (List Answered)
before_others e others a = option_map (λ told. record { line = e; answer = a } ∷ told) others

-- The answers to these command lines, as they are read from an output: its lines are cut at the newlines, and each begins with its
-- client's number. None if it isn't such an output.
abbrev pub answers_read : List Entry → Bytes → Option (List Answered)
answers_read [] [] = Some []
answers_read [] (b ∷ bs) = None
answers_read (e ∷ lines) bytes =
    option_and_then (λ p. option_and_then (before_others e (answers_read lines p.1)) (option_and_then (line_read e) (cut_at 32 p.0)))
    (cut_at 10 bytes)
