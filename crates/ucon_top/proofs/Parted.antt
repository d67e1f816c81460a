-- The output of parts, line by line and part by part.
use Rattle.std.proofs.Common.{◌≡◌, ℕ, ◌+◌, ◌<◌, List, [], ◌∷◌, ◌++◌, length, map, drop, get_or, refl, sym, ap, ◌∙◌, arith}
use Rattle.std.proofs.lemmas.List.{append_assoc, drop_all, drop_more}
use Rattle.ucon_model.specs.declared.command.Entry.{Entry}
use Rattle.ucon_model.specs.LegalRun.{Answered}
use Rattle.ucon_model.specs.Output.{answer_line, output}
use Rattle.ucon_script.specs.declared.document.Line.{Line}
use Rattle.ucon_client.specs.declared.answer.Answer.{Answer}
use Rattle.ucon_client.specs.declared.part.Part.{Part}
use Rattle.ucon_client.specs.Answers.{answer_of, entry_of, told_in, told_of}
use Rattle.ucon_client.specs.Clients.{answered}

-- a part's lines with their answers, from this place on
abbrev pub told_from : ℕ → Part → List Answered
told_from n p = answered (map entry_of (drop n p.lines.items)) (map answer_of (drop n p.answers.items))

-- one answer more
pub told_next : (p : Part) (n : ℕ) (line : Line) (a : Answer) → n < length p.lines.items → n < length p.answers.items
    → line ≡ get_or p.lines.items n line → a ≡ get_or p.answers.items n a
    → told_from n p ≡ record { line = entry_of line; answer = answer_of a } ∷ told_from (n + 1) p
told_next p n line a few lt is_line is_answer =
    let lines : drop n p.lines.items ≡ line ∷ drop (n + 1) p.lines.items = drop_more p.lines.items n line few ∙ ap (λ l. l ∷ drop (n + 1) p.lines.items) (sym is_line) in
    let answers : drop n p.answers.items ≡ a ∷ drop (n + 1) p.answers.items = drop_more p.answers.items n a lt ∙ ap (λ b. b ∷ drop (n + 1) p.answers.items) (sym is_answer) in
    λ i. answered (map entry_of (lines i)) (map answer_of (answers i))

answered_none : (lines : List Entry) → answered lines [] ≡ []
answered_none [] = refl
answered_none (line ∷ lines) = refl

-- no answer is left
pub told_last : (p : Part) (n : ℕ) → n ≡ length p.answers.items → told_from n p ≡ []
told_last p n is =
    ap (λ l. answered (map entry_of (drop n p.lines.items)) (map answer_of l)) (ap (λ k. drop k p.answers.items) is ∙ drop_all (length p.answers.items) p.answers.items (omega arith))
    ∙ answered_none (map entry_of (drop n p.lines.items))

pub output_append : (xs ys : List Answered) → output (xs ++ ys) ≡ output xs ++ output ys
output_append [] ys = refl
output_append (t ∷ xs) ys = ap (λ l. answer_line t ++ l) (output_append xs ys) ∙ sym (append_assoc (answer_line t) (output xs) (output ys))

-- one part more
pub told_part : (parts : List Part) (n : ℕ) (part : Part) → n < length parts → part ≡ get_or parts n part
    → told_in (drop n parts) ≡ told_of part ++ told_in (drop (n + 1) parts)
told_part parts n part lt is = ap told_in (drop_more parts n part lt ∙ ap (λ p. p ∷ drop (n + 1) parts) (sym is))
