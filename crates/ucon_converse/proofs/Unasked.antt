-- A reading is no client's line: it begins with a letter.
use Rattle.std.proofs.Common.{◌≡◌, ℕ, ◌<◌, [], ◌∷◌, ◌++◌, refl, sym, ◌∙◌, arith, lit<}
use Rattle.std.specs.Prelude.{codes}
use Rattle.std.specs.Fmt.{decimal}
use Rattle.std.specs.Str.Parse.{AllDigits}
use Rattle.std.proofs.lemmas.Fmt.{decimal_is_IsNumeral}
use Rattle.std.proofs.lemmas.Str.Parse.{digit_from_value}
use Rattle.ucon_base.specs.Spelling.{side_word}
use Rattle.ucon_command.specs.Requests.{IsAskedBy}
use Rattle.ucon_model.specs.declared.command.Caller.{Caller}
use Rattle.ucon_model.specs.Plain.{Bytes}
use Rattle.ucon_converse.specs.declared.reading.Reading.{Reading}
use Rattle.ucon_converse.specs.declared.reading.Reading.TheVariants.{State, Session, Using, UsingOf, Explain, Policy, Steps}
use Rattle.ucon_converse.specs.Readings.{IsReadingOf, reading_spelling}

-- its first byte, which is a letter, and the others
record BeginsWithLetter (text : Bytes) : Type 0 where
  first : ℕ
  rest : Bytes
  letter : 57 < first
  is : text ≡ first ∷ rest

begins : (reading : Reading) → BeginsWithLetter (reading_spelling reading)
begins State = record { first = 115; rest = codes "tate"; letter = lit< tt; is = refl }
begins (Session n) = record { first = 115; rest = codes "ession " ++ decimal n; letter = lit< tt; is = refl }
begins Using = record { first = 117; rest = codes "sing"; letter = lit< tt; is = refl }
begins (UsingOf side name) = record { first = 117; rest = codes "sing " ++ side_word side ++ 32 ∷ name; letter = lit< tt; is = refl }
begins (Explain s r o) = record { first = 101; rest = codes "xplain " ++ s ++ 32 ∷ r ++ 32 ∷ o; letter = lit< tt; is = refl }
begins Policy = record { first = 112; rest = codes "olicy"; letter = lit< tt; is = refl }
begins Steps = record { first = 115; rest = codes "teps"; letter = lit< tt; is = refl }

-- digits and a space begin with no letter
digits_begin : (ds text : Bytes) (first : ℕ) (rest : Bytes) → AllDigits 10 ds → 57 < first → ds ++ 32 ∷ text ≡ first ∷ rest → ⊥
digits_begin [] text first rest all lt e = let same : 32 ≡ first = cc e in omega (arith, same, lt)
digits_begin (d ∷ ds) text first rest all lt e =
    let same : d ≡ first = cc e in
    let range = digit_from_value d all.0 in
    omega (arith, same, lt, range)

pub no_request : (line : Bytes) (reading : Reading) (caller : Caller) (text : Bytes) → IsReadingOf line reading → IsAskedBy line caller text → ⊥
no_request line reading caller text is by =
    let few = by.few in
    let letter = begins reading in
    digits_begin (decimal caller.0) text letter.first letter.rest (decimal_is_IsNumeral caller.0 (omega (arith, few))).0.1 letter.letter
    (sym by.line_is ∙ (is.line_is ∙ letter.is))

-- nor is the line that asks for a checkpoint
pub point_asks_nothing : (line : Bytes) (caller : Caller) (text : Bytes) → line ≡ codes "point" → IsAskedBy line caller text → ⊥
point_asks_nothing line caller text is by =
    let few = by.few in
    digits_begin (decimal caller.0) text 112 (codes "oint") (decimal_is_IsNumeral caller.0 (omega (arith, few))).0.1 (lit< tt) (sym by.line_is ∙ is)
