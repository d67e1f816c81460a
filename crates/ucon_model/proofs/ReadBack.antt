-- An output is read back as the answers that it was written from.
use Rattle.std.proofs.Common.{◌≡◌, ℕ, ◌<◌, ◌^◌, true, false, List, [], ◌∷◌, ◌++◌, map, refl, ap, ◌∙◌, arith, append_assoc}
use Rattle.std.specs.Prelude.{Some, option_and_then, codes, not, ◌==◌}
use Rattle.std.specs.Fmt.{decimal}
use Rattle.std.specs.List.{list_all}
use Rattle.std.specs.Str.{bytes_eq}
use Rattle.std.proofs.lemmas.Bool.{eq-eqb}
use Rattle.std.proofs.lemmas.Fmt.{decimal_is_IsNumeral}
use Rattle.std.proofs.lemmas.Slice.Eq.{bytes_eq-Decides}
use Rattle.ucon_base.specs.Elements.{Each}
use Rattle.ucon_model.specs.Plain.{Bytes}
use Rattle.ucon_model.specs.Spelling.{reply_spelling}
use Rattle.ucon_model.specs.LegalRun.{Answer, no_memory, disk_fault, stopped, placed, Answered}
use Rattle.ucon_model.specs.Output.{Lacks, answer_spelling, answer_line, output, FitsLine, cut_at, number_read, answer_read, line_read, answers_read}

-- what texts lack, as the law of the definitions says it
pub record TextsLack : Type 0 where
  pub joined : (byte : ℕ) (xs ys : Bytes) → Lacks byte xs → Lacks byte ys → Lacks byte (xs ++ ys)
  pub tested : (byte : ℕ) (text : Bytes) → list_all (λ b. not (b == byte)) text ≡ true → Lacks byte text
  pub numbers : (byte n : ℕ) → byte < 48 → n < 2 ^ 64 → Lacks byte (decimal n)

-- ---- cutting

cut_at-append : (byte : ℕ) (xs ys : Bytes) → Lacks byte xs → cut_at byte (xs ++ byte ∷ ys) ≡ Some (xs, ys)
cut_at-append byte [] ys h = rw (eq-eqb byte byte refl)
cut_at-append byte (x ∷ xs) ys h = rw (h.0, cut_at-append byte xs ys h.1)

-- ---- numbers

same_bytes : (xs : Bytes) → bytes_eq xs xs ≡ true
same_bytes xs = (bytes_eq-Decides xs xs).1 refl

number_read-decimal : (n : ℕ) → n < 2 ^ 64 → number_read (decimal n) ≡ Some n
number_read-decimal n fits = rw ((decimal_is_IsNumeral n fits).1, same_bytes (decimal n))

not_dash : (text : Bytes) → Lacks 45 text → bytes_eq text (codes "-") ≡ false
not_dash [] h = refl
not_dash (x ∷ xs) h = rw h.0

module _ (lack : TextsLack) where
  -- ---- answers

  answer_spelling-read : (a : Answer) → FitsLine a → option_and_then answer_read (cut_at 32 (answer_spelling a)) ≡ Some a
  answer_spelling-read no_memory fits = refl
  answer_spelling-read disk_fault fits = refl
  answer_spelling-read stopped fits = refl
  answer_spelling-read (placed place reply) fits =
      rw (
        cut_at-append 32 (decimal place) (reply_spelling reply) (lack.numbers 32 place (omega arith) fits.0),
        not_dash (decimal place) (lack.numbers 45 place (omega arith) fits.0),
        number_read-decimal place fits.0,
        fits.2,
      )

  answer_spelling-lacks : (a : Answer) → FitsLine a → Lacks 10 (answer_spelling a)
  answer_spelling-lacks no_memory fits = lack.tested 10 (codes "- no memory") refl
  answer_spelling-lacks disk_fault fits = lack.tested 10 (codes "- disk fault") refl
  answer_spelling-lacks stopped fits = lack.tested 10 (codes "- stopped") refl
  answer_spelling-lacks (placed place reply) fits =
      lack.joined 10 (decimal place) (32 ∷ reply_spelling reply) (lack.numbers 10 place (omega arith) fits.0) (refl, fits.1)

  -- ---- lines

  abbrev client : Answered → Bytes
  client t = decimal t.line.caller.0

  line_lacks : (t : Answered) → FitsLine t.answer → t.line.caller.0 < 2 ^ 64 → Lacks 10 (client t ++ 32 ∷ answer_spelling t.answer)
  line_lacks t fits small =
      lack.joined 10 (client t) (32 ∷ answer_spelling t.answer) (lack.numbers 10 t.line.caller.0 (omega arith) small) (refl, answer_spelling-lacks t.answer fits)

  line_cut : (t : Answered) (rest : Bytes) → FitsLine t.answer → t.line.caller.0 < 2 ^ 64
      → cut_at 10 (answer_line t ++ rest) ≡ Some (client t ++ 32 ∷ answer_spelling t.answer, rest)
  line_cut t rest fits small =
      ap (cut_at 10) (append_assoc (client t ++ 32 ∷ answer_spelling t.answer) (10 ∷ []) rest)
      ∙ cut_at-append 10 (client t ++ 32 ∷ answer_spelling t.answer) rest (line_lacks t fits small)

  line_read-back : (t : Answered) → FitsLine t.answer → t.line.caller.0 < 2 ^ 64
      → option_and_then (line_read t.line) (cut_at 32 (client t ++ 32 ∷ answer_spelling t.answer)) ≡ Some t.answer
  line_read-back t fits small =
      rw (
        cut_at-append 32 (client t) (answer_spelling t.answer) (lack.numbers 32 t.line.caller.0 (omega arith) small),
        same_bytes (client t),
      ) (answer_spelling-read t.answer fits)

  pub answers_read-output : (told : List Answered) → Each (λ t. FitsLine t.answer) told → Each (λ t. t.line.caller.0 < 256) told
      → answers_read (map (λ t. t.line) told) (output told) ≡ Some told
  answers_read-output [] fits small = refl
  answers_read-output (t ∷ told) fits small =
      let lt : t.line.caller.0 < 2 ^ 64 = omega (arith, small.0) in
      rw (line_cut t (output told) fits.0 lt, line_read-back t fits.0 lt, answers_read-output told fits.1 small.1)
