-- Values, and the one spelling of each.
use Rattle.std.specs.Prelude.{ℕ, IsTrue, List, [], ◌∷◌, ◌++◌, codes}
use Rattle.std.specs.List.{list_all}
use Rattle.std.specs.Fmt.{signed_decimal}
use Rattle.ucon_base.specs.declared.value.Side.{Side}
use Rattle.ucon_base.specs.declared.value.Side.TheVariants as sides
use Rattle.ucon_base.specs.declared.value.Value.{Value}
use Rattle.ucon_base.specs.declared.value.Value.TheVariants as values
use Rattle.ucon_base.specs.Numbers.{InRange}
use Rattle.ucon_base.specs.TextBytes.{is_text}
use Rattle.ucon_base.specs.Value.{is_set}

-- a side's word
abbrev pub side_word : Side → List ℕ
side_word sides.Subject = codes "s"
side_word sides.Object = codes "o"

-- a text between `"`
abbrev pub quoted : List ℕ → List ℕ
quoted t = 34 ∷ t ++ 34 ∷ []

-- each text behind a `,`
abbrev pub more_texts : List (List ℕ) → List ℕ
more_texts [] = []
more_texts (t ∷ ts) = 44 ∷ quoted t ++ more_texts ts

-- texts between `{` and `}`, with `,` between
abbrev pub set_spelling : List (List ℕ) → List ℕ
set_spelling [] = codes "{}"
set_spelling (t ∷ ts) = 123 ∷ quoted t ++ more_texts ts ++ 125 ∷ []

-- an integer in decimal, a text between `"`, a set as its texts
abbrev pub value_spelling : Value → List ℕ
value_spelling (values.Int n) = signed_decimal n
value_spelling (values.Text t) = quoted t
value_spelling (values.Set ts) = set_spelling ts

-- an integer in range, a text, or a rising list of at most 64 texts
abbrev pub IsValue : Value → Type 0
IsValue (values.Int n) = InRange n
IsValue (values.Text t) = IsTrue (is_text t)
IsValue (values.Set ts) = IsTrue (is_set ts) × IsTrue (list_all is_text ts)
