-- The lines of a text, taken from its front.
use Rattle.std.specs.Prelude.{◌≡◌, ℕ, ◌+◌, ◌||◌, List, [], ◌∷◌, ◌++◌, Option, Some, None, option_map, Result, Ok, Err, if◌then◌else◌}
use Rattle.ucon_model.specs.declared.command.Caller.{Caller}
use Rattle.ucon_model.specs.Plain.{Bytes}
use Rattle.ucon_model.specs.Document.{ScriptLine, DocumentRefusal, is_skipped, is_heading, heading_number, caller_of, line_told, before_next}
use Rattle.ucon_model.specs.Document.{lines_of, script_lines, script_number, script_told}
use Rattle.ucon_syntax.specs.Policies.{accepted}
use Rattle.ucon_script.specs.declared.part.Divider.{Divider}

-- whose lines stand below a line that stands below a heading of this client, if any
abbrev pub client_after : Option Caller → Bytes → Option Caller
client_after client l = if is_heading l then option_map caller_of (heading_number l) else client

-- how many command lines there are up to a line, with so many above it
abbrev pub count_after : ℕ → Bytes → ℕ
count_after said l = if is_skipped l || is_heading l then said else said + 1

-- what the lines from this number on say, below a heading of this client, if any, and so many command lines
abbrev pub told_from : ℕ → Option Caller → ℕ → List Bytes → Result (List ScriptLine) DocumentRefusal
told_from n client said [] = Ok []
told_from n client said (l ∷ ls) =
    before_next (line_told accepted n client said l) (told_from (n + 1) (client_after client l) (count_after said l) ls)

-- what was told before what the next lines say
abbrev pub after_told : List ScriptLine → Result (List ScriptLine) DocumentRefusal → Result (List ScriptLine) DocumentRefusal
after_told told (Ok next) = Ok (told ++ next)
after_told told (Err r) = Err r

-- a text's script begins behind this divider; without one it says nothing
abbrev pub Divides : Bytes → Option Divider → Type 0
Divides text None = script_lines (lines_of text) ≡ []
Divides text (Some d) =
    (script_number (lines_of text) ≡ d.above + 2)
    × ((n : ℕ) → script_told accepted n [] (lines_of d.script.now) ≡ script_told accepted n [] (script_lines (lines_of text)))
