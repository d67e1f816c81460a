-- Lines that amend: their first word, their length, and their cuts.
use Rattle.std.proofs.Common.{◌≡◌, ℕ, ◌+◌, ◌≤◌, Bool, true, false, cond, List, [], ◌∷◌, ◌++◌, length, drop, map, Some, None, Ok, Err, subst, refl, sym, ap, ◌∙◌}
use Rattle.std.specs.Prelude.{Option, Result, IfSome, codes, nat_eq, option_map}
use Rattle.std.specs.List.{starts_with}
use Rattle.std.specs.Str.{bytes_eq}
use Rattle.std.proofs.lemmas.Bool.{false≢true}
use Rattle.std.proofs.lemmas.List.Splits.{join_with_byte-slice_split}
use Rattle.std.proofs.lemmas.Bool.Decides.{Decides-eqb}
use Rattle.std.proofs.lemmas.Slice.Eq.{bytes_eq-Decides, starts_is}
use Rattle.ucon_command.specs.declared.cuts.Cuts.TheVariants as cuts
use Rattle.ucon_command.specs.declared.line_fault.LineFault.{LineFault}
use Rattle.ucon_command.specs.declared.line_fault.LineFault.TheVariants as faults
use Rattle.ucon_command.specs.Faults.{IsRefusal, amends}
use Rattle.ucon_model.specs.declared.command.Command.{Command}
use Rattle.ucon_model.specs.declared.command.Command.TheVariants.{Amend}
use Rattle.ucon_model.specs.CommandLine.{LineRefusal, Word, placed, words_of, wrong_count, bad_word, said, made, amendment_in, amend_words, command_read, most_bytes}
use Rattle.ucon_model.specs.Plain.{Bytes, Amendment}
use Rattle.ucon_syntax.specs.Policies.{accepted}
use Rattle.ucon_command.specs.Cuts.{AreCuts, IsSecond}
use Rattle.ucon_reply.specs.Words.{word_to, words_at, words_from}
use Rattle.ucon_reply.specs.Joined.{split, join, split_first, split_some}
use Rattle.ucon_command.proofs.Judged.{cuts_give, first_at}
use Rattle.ucon_command.proofs.SpelledLines.{said_is, same_bytes}

-- the form that the word begins
pub amend_form : (line first : Bytes) (words : List Word) → bytes_eq first (codes "amend") ≡ true → command_read accepted line first words ≡ amend_words accepted line words
unfolding command_read
amend_form line first words e = rw (same_bytes first (codes "amend") e) refl

-- ---- how long other lines may be

abbrev first_text : List Word → Bytes
first_text [] = []
first_text (w ∷ ws) = w.text

-- a line that begins with the word and a space has it as its first word
begins : (line : Bytes) → starts_with nat_eq line (codes "amend ") ≡ true → first_text (words_of line) ≡ codes "amend"
begins line e =
    let whole : line ≡ codes "amend " ++ drop 6 line = (starts_is Decides-eqb line (codes "amend ") true (sym e)).0 refl in
    let cut : split line ≡ codes "amend" ∷ split (drop 6 line) = ap split whole ∙ split_first (codes "amend") (drop 6 line) (refl, (refl, (refl, (refl, (refl, tt))))) in
    ap (λ (ws : List Bytes). first_text (placed 0 ws)) cut

-- how long a line may be that begins so, or doesn't
abbrev bound : Bool → ℕ
bound b = cond b 65542 8192

most_from : (b : Bool) (line : Bytes) → starts_with nat_eq line (codes "amend ") ≡ b → bytes_eq (first_text (words_of line)) (codes "amend") ≡ false → bound b ≡ 8192
most_from false line is other = refl
most_from true line is other =
    absurd (false≢true (sym other ∙ ap (λ (w : Bytes). bytes_eq w (codes "amend")) (begins line is) ∙ (bytes_eq-Decides (codes "amend") (codes "amend")).1 refl))

pub other_most : (line first : Bytes) (second : Option ℕ) → IsSecond second line → first ≡ (word_to 0 second line).text → bytes_eq first (codes "amend") ≡ false → most_bytes line ≡ 8192
other_most line first second is same other =
    most_from _ line refl (ap (λ (ws : List Word). bytes_eq (first_text ws) (codes "amend")) is.words ∙ ap (λ (w : Bytes). bytes_eq w (codes "amend")) (sym same) ∙ other)

-- ---- the word with another behind it

texts-placed : (at : ℕ) (ws : List Bytes) → map (λ (w : Word). w.text) (placed at ws) ≡ ws
texts-placed at [] = refl
texts-placed at (w ∷ ws) = ap (λ (vs : List Bytes). w ∷ vs) (texts-placed (at + length w + 1) ws)

-- such a line begins with the word and a space
begins_so : (line : Bytes) (at : ℕ) → IsSecond (Some at) line → (word_to 0 (Some at) line).text ≡ codes "amend" → amends line ≡ true
begins_so line at is same =
    let rest = split (drop at line) in
    let some = split_some (drop at line) in
    let cut : split line ≡ codes "amend" ∷ some.0 ∷ some.1.0 =
    sym (texts-placed 0 (split line)) ∙ ap (λ (ws : List Word). map (λ (w : Word). w.text) ws) is.words
    ∙ ap (λ (ws : List Bytes). (word_to 0 (Some at) line).text ∷ ws) (texts-placed at rest) ∙ ap (λ (w : Bytes). w ∷ rest) same
    ∙ ap (λ (ws : List Bytes). codes "amend" ∷ ws) some.1.1 in
    let whole : line ≡ codes "amend" ++ 32 ∷ join (some.0 ∷ some.1.0) = sym (join_with_byte-slice_split 32 line) ∙ ap join cut in
    ap amends whole

-- where the line doesn't begin with the word and a space, the word stands alone
pub amend_alone : (line first : Bytes) (second : Option ℕ) → IsSecond second line → first ≡ (word_to 0 second line).text → bytes_eq first (codes "amend") ≡ true
    → amends line ≡ false → second ≡ None
amend_alone line first None is same e other = refl
amend_alone line first (Some at) is same e other =
    absurd (false≢true (sym other ∙ begins_so line at is (sym same ∙ same_bytes first (codes "amend") e)))

-- ---- cuts

-- the word alone
alone : (line : Bytes) (w : Word) → amend_words accepted line (w ∷ []) ≡ Err (wrong_count 1)
unfolding amend_words
alone line w = refl

pub amend_miscounted : (line : Bytes) (n : ℕ) → IsSecond None line → n ≡ length (words_of line) → amend_words accepted line (words_of line) ≡ Err (wrong_count n)
amend_miscounted line n is many =
    ap (amend_words accepted line) is.words ∙ alone line (word_to 0 None line) ∙ ap (λ (k : ℕ). Err (wrong_count k)) (sym (ap (λ (ws : List Word). length ws) is.words)) ∙ ap (λ (k : ℕ). Err (wrong_count k)) (sym many)

-- what is read behind the word
amend_said : (line : Bytes) (w : Word) (at : ℕ) → words_of line ≡ w ∷ words_at at line
    → amend_words accepted line (words_of line) ≡ made Amend (said (amendment_in accepted) (record { at = at; text = drop at line }))
unfolding amend_words
amend_said line w at is =
    let f = first_at line at in
    ap (amend_words accepted line) (is ∙ ap (λ (ws : List Word). w ∷ ws) f.1.1)

made_refused : (r : Result Amendment LineRefusal) (f : LineFault) → IsRefusal r f → IsRefusal (made Amend r) f
made_refused r (faults.TooLong n) h = ap (made Amend) h
made_refused r faults.NoWord h = ap (made Amend) h
made_refused r faults.UnknownWord h = ap (made Amend) h
made_refused r (faults.WrongCount n) h = ap (made Amend) h
made_refused r (faults.BadWord place) h = ap (made Amend) h
made_refused r (faults.NoMemory e) h = tt

-- as the code finds it: a second word begins at a place, and takes the rest of the line
module _ (line : Bytes) (second : Option ℕ) (at : ℕ) (rest : Word) (is : IsSecond second line) (here : second ≡ Some at) (same : rest ≡ record { at = at; text = drop at line }) where
  amend_rest : amend_words accepted line (words_of line) ≡ made Amend (said (amendment_in accepted) rest)
  amend_rest =
      amend_said line (word_to 0 (Some at) line) at (is.words ∙ ap (λ (o : Option ℕ). word_to 0 o line ∷ words_from o line) here)
      ∙ ap (λ (w : Word). made Amend (said (amendment_in accepted) w)) (sym same)

  within : at ≤ length line
  within = let Within : Option ℕ → Type 0 = λ o. IfSome o (λ i. i ≤ length line) in subst Within here is.within

  pub amend_cut : (a : Amendment) → said (amendment_in accepted) rest ≡ Ok a → AreCuts (cuts.Amend at) line (amend_words accepted line (words_of line))
  amend_cut a told =
      cuts_give (cuts.Amend at) line _ (Amend a) (amend_rest ∙ ap (made Amend) told)
      (ap (option_map Amend) (sym (ap (λ (w : Word). amendment_in accepted w.text) same) ∙ said_is (amendment_in accepted rest.text) (bad_word rest.at) a told))
      within

  pub amend_refused : (f : LineFault) → IsRefusal (said (amendment_in accepted) rest) f → IsRefusal (amend_words accepted line (words_of line)) f
  amend_refused f h = let Refused : Result Command LineRefusal → Type 0 = λ r. IsRefusal r f in subst Refused (sym amend_rest) (made_refused _ f h)
