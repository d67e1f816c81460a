-- Draws, and the shortest generated document.
use Rattle.std.proofs.Common.{◌≡◌, List, [], ◌∷◌, ◌++◌, refl, map}
use Rattle.std.specs.Prelude.{codes}
use Rattle.std.specs.Fmt.{digits}
use Rattle.ucon_model.specs.Plain.{Bytes}
use Rattle.ucon_model.specs.CommandLine.{command_spelling}
use Rattle.ucon_model.specs.Generated.{next_x, below, drawn, text_of, entry_lines, all_drawn, seeded, opening, generated_policy, generated_head, generated}

draws : map (λ x. below 8 (next_x x)) (0 ∷ next_x 0 ∷ next_x (next_x 0) ∷ 18446744073709551615 ∷ []) ≡ 7 ∷ 0 ∷ 1 ∷ 0 ∷ []
unfolding next_x below
draws = refl

-- the command lines of the document of seed 0 and size 1
abbrev lines : List Bytes
lines =
    codes "client 0"
    ∷ codes "subject u0" ∷ codes "subject u1" ∷ codes "subject u2" ∷ codes "subject u3" ∷ codes "subject u4"
    ∷ codes "subject u5" ∷ codes "subject u6" ∷ codes "subject u7" ∷ codes "subject u8" ∷ codes "subject u9"
    ∷ codes "object v0" ∷ codes "object v1" ∷ codes "object v2" ∷ codes "object v3" ∷ codes "object v4"
    ∷ codes "set s u0 credit 100" ∷ codes "set s u1 credit 100" ∷ codes "set s u2 credit 100" ∷ codes "set s u3 credit 100" ∷ codes "set s u4 credit 100"
    ∷ codes "set s u5 credit 100" ∷ codes "set s u6 credit 100" ∷ codes "set s u7 credit 100" ∷ codes "set s u8 credit 100" ∷ codes "set s u9 credit 100"
    ∷ codes "client 0"
    ∷ codes "set s u4 credit 137"
    ∷ []

shortest : generated 0 1 ≡ text_of (generated_policy ++ codes "%%" ∷ lines)
unfolding generated generated_head generated_policy next_x below drawn opening command_spelling digits
shortest = refl

-- entries of the other kinds, from seed 1 on
several : entry_lines (all_drawn 8 (seeded 1))
    ≡ codes "client 0" ∷ codes "tick 3" ∷ codes "client 3" ∷ codes "look 1" ∷ codes "client 4" ∷ codes "try u0 use v2" ∷ codes "client 3" ∷ codes "try u3 use v2"
    ∷ codes "client 1" ∷ codes "beat 1" ∷ codes "client 3" ∷ codes "beat 2" ∷ codes "client 2" ∷ codes "beat 2" ∷ codes "client 3" ∷ codes "end 1" ∷ []
unfolding next_x below drawn command_spelling digits
several = refl
