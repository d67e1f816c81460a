-- Documents as they are read.
use Rattle.std.proofs.Common.{◌≡◌, refl, List, [], ◌∷◌, ◌++◌}
use Rattle.std.specs.Prelude.{Ok, Err, codes, map, Some, None}
use Rattle.ucon_model.specs.declared.command.Command.TheVariants as commands
use Rattle.ucon_model.specs.Plain.{Bytes}
use Rattle.ucon_model.specs.CommandLine.{no_word, unknown_word, bad_word, one_word, command_read, line_read}
use Rattle.ucon_model.proofs.Scenes.{reads_empty}
use Rattle.ucon_model.specs.Document.{too_many_clients, bad_heading, bad_line, caller_of, policy_part, heading_number, document_read}

-- these lines, each with a newline
abbrev text : List Bytes → Bytes
text [] = []
text (l ∷ ls) = l ++ 10 ∷ text ls

parts : map policy_part ([] ∷ codes "a" ∷ codes "%%" ∷ text (codes "a" ∷ codes "%%" ∷ codes "%%" ∷ []) ∷ text (codes "a" ∷ codes "%% " ∷ []) ∷ [])
    ≡ [] ∷ codes "a" ∷ [] ∷ text (codes "a" ∷ []) ∷ text (codes "a" ∷ codes "%% " ∷ []) ∷ []
parts = refl

headings : map heading_number (codes "client 0" ∷ codes "client 63" ∷ codes "client 123456789012345678901234567890" ∷ [])
    ≡ Some 0 ∷ Some 63 ∷ Some 123456789012345678901234567890 ∷ []
headings = refl

no_headings : map heading_number (codes "client" ∷ codes "client " ∷ codes "client 064" ∷ codes "client 64 x" ∷ codes "client 64 " ∷ codes "client  1" ∷ codes "client -1" ∷ [])
    ≡ None ∷ None ∷ None ∷ None ∷ None ∷ None ∷ None ∷ []
no_headings = refl

one_line : document_read reads_empty (text (codes "%%" ∷ codes "client 1" ∷ codes "look 1" ∷ [])) ≡ Ok (record { number = 3; caller = caller_of 1; command = commands.Look 1 } ∷ [])
unfolding document_read line_read command_read one_word
one_line = refl

-- the policy's lines and those that are skipped count; a client may have several headings
several_headings : document_read reads_empty (text (codes "a" ∷ [] ∷ codes "%%" ∷ codes "client 2" ∷ codes "look 1" ∷ codes "# look 9" ∷ codes "client 0" ∷ codes "look 2" ∷ [] ∷ codes "client 2" ∷ codes "look 3" ∷ []))
    ≡ Ok (record { number = 5; caller = caller_of 2; command = commands.Look 1 }
    ∷ record { number = 8; caller = caller_of 0; command = commands.Look 2 }
    ∷ record { number = 11; caller = caller_of 2; command = commands.Look 3 } ∷ [])
unfolding document_read line_read command_read one_word
several_headings = refl

nothing_said : map (document_read reads_empty) ([] ∷ codes "look 1" ∷ codes "%%" ∷ text (codes "%%" ∷ codes "client 1" ∷ []) ∷ []) ≡ Ok [] ∷ Ok [] ∷ Ok [] ∷ Ok [] ∷ []
unfolding document_read
nothing_said = refl

refused_scripts : map (document_read reads_empty)
    (text (codes "%%" ∷ codes "client 0" ∷ codes "fly a" ∷ [])
    ∷ text (codes "%%" ∷ codes "client 64" ∷ [])
    ∷ text (codes "%%" ∷ codes "tick 1" ∷ [])
    ∷ text (codes "%%" ∷ codes "client 064" ∷ [])
    ∷ text (codes "%%" ∷ codes "clients 3" ∷ [])
    ∷ text (codes "%%" ∷ codes "client 1" ∷ codes "clients 3" ∷ [])
    ∷ text (codes "%%" ∷ codes "client 1" ∷ codes " " ∷ codes "client 64" ∷ [])
    ∷ text (codes "%%" ∷ codes "client 1" ∷ codes "look 1" ∷ codes "look x" ∷ []) ∷ [])
    ≡ Err (bad_line 3 unknown_word) ∷ Err (too_many_clients 2) ∷ Err (bad_heading 2) ∷ Err (bad_heading 2) ∷ Err (bad_heading 2) ∷ Err (bad_line 3 unknown_word)
    ∷ Err (bad_line 3 no_word) ∷ Err (bad_line 4 (bad_word 5)) ∷ []
unfolding document_read line_read command_read one_word
refused_scripts = refl
