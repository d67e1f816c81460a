-- How a line is read as a reading.
use Rattle.std.specs.Prelude.{Option, Some, None, option_map, option_and_then, codes, if◌then◌else◌}
use Rattle.std.specs.Str.{bytes_eq}
use Rattle.ucon_model.specs.CommandLine.{name_in, number_in, side_in}
use Rattle.ucon_model.specs.Output.{cut_at}
use Rattle.ucon_model.specs.Plain.{Bytes}
use Rattle.ucon_converse.specs.declared.reading.Reading.{Reading}
use Rattle.ucon_converse.specs.declared.reading.Reading.TheVariants.{State, Session, Using, UsingOf, Explain, Policy, Steps}

-- a line of one word
abbrev pub one_word : Bytes → Option Reading
one_word word =
    if bytes_eq word (codes "state") then Some State else
    if bytes_eq word (codes "using") then Some Using else
    if bytes_eq word (codes "policy") then Some Policy else
    if bytes_eq word (codes "steps") then Some Steps else
    None

-- `s NAME` or `o NAME`, behind `using`
abbrev pub of_one : Bytes × Bytes → Option Reading
of_one p = option_and_then (λ side. option_map (UsingOf side) (name_in p.1)) (side_in p.0)

-- three names, behind `explain`
abbrev pub names_told : Bytes → Bytes → Bytes → Option Reading
names_told s r o =
    option_and_then (λ subject. option_and_then (λ right. option_map (Explain subject right) (name_in o)) (name_in r)) (name_in s)

abbrev pub try_told : Bytes × Bytes → Option Reading
try_told p = option_and_then (λ q. names_told p.0 q.0 q.1) (cut_at 32 p.1)

-- what stands behind a line's first word and the space
abbrev pub behind_word : Bytes → Bytes → Option Reading
behind_word word rest =
    if bytes_eq word (codes "session") then option_map Session (number_in rest) else
    if bytes_eq word (codes "using") then option_and_then of_one (cut_at 32 rest) else
    if bytes_eq word (codes "explain") then option_and_then try_told (cut_at 32 rest) else
    None

-- whether it has more than one word
abbrev pub words_told : Bytes → Option (Bytes × Bytes) → Option Reading
words_told line None = one_word line
words_told line (Some p) = behind_word p.0 p.1

-- the reading that a line is
abbrev pub reading_read : Bytes → Option Reading
reading_read line = words_told line (cut_at 32 line)
