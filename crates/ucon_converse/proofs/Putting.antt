-- The lines of answers, one behind the other.
use Rattle.std.proofs.Common.{suc, ◌≡◌, ℕ, ◌≤◌, List, [], ◌∷◌, ◌++◌, length, take, drop, append_assoc, length-append, refl, sym, ap, ◌∙◌, arith}
use Rattle.std.proofs.lemmas.List.{append-nil, length-drop, length-take}
use Rattle.ucon_base.specs.Elements.{each_append}
use Rattle.ucon_flow.specs.Lines.{IsLine}
use Rattle.ucon_model.specs.declared.command.Entry.{Entry}
use Rattle.ucon_model.specs.LegalRun.{Answered}
use Rattle.ucon_model.specs.Output.{answer_line, output}
use Rattle.ucon_model.specs.Plain.{Bytes}
use Rattle.ucon_store.specs.declared.placed.Placed.{Placed}
use Rattle.ucon_converse.specs.Together.{ArePut, all_stopped, broken_off, replied}

pub none_put : (text : Bytes) → ArePut [] text text
none_put text = (tt, sym (append-nil text))

-- one was put, and then the others
pub one_put : (t : Answered) (told : List Answered) (old mid new : Bytes) → IsLine (answer_line t) → mid ≡ old ++ answer_line t → ArePut told mid new → ArePut (t ∷ told) old new
one_put t told old mid new line is put =
    ((line, put.0), put.1 ∙ (ap (λ (l : Bytes). l ++ output told) is ∙ append_assoc old (answer_line t) (output told)))

output_append : (xs ys : List Answered) → output (xs ++ ys) ≡ output xs ++ output ys
output_append [] ys = refl
output_append (x ∷ xs) ys = ap (λ (l : Bytes). answer_line x ++ l) (output_append xs ys) ∙ sym (append_assoc (answer_line x) (output xs) (output ys))

pub more_put : (xs ys : List Answered) (old mid new : Bytes) → ArePut xs old mid → ArePut ys mid new → ArePut (xs ++ ys) old new
more_put xs ys old mid new p q = (
  each_append (λ (t : Answered). IsLine (answer_line t)) xs ys p.0 q.0,
  q.1 ∙ (ap (λ (l : Bytes). l ++ output ys) p.1 ∙ (append_assoc old (output xs) (output ys) ∙ ap (λ (l : Bytes). old ++ l) (sym (output_append xs ys)))),
)

-- ---- counts

pub replied_count : (lines : List Entry) (ps : List Placed) → length ps ≤ length lines → length (replied lines ps) ≡ length ps
replied_count [] [] le = refl
replied_count [] (p ∷ ps) le = absurd (let no : ⊥ = omega arith in no)
replied_count (e ∷ lines) [] le = refl
replied_count (e ∷ lines) (p ∷ ps) le = ap (λ (n : ℕ). suc n) (replied_count lines ps (omega arith))

stopped_count : (lines : List Entry) → length (all_stopped lines) ≡ length lines
stopped_count [] = refl
stopped_count (e ∷ lines) = ap (λ (n : ℕ). suc n) (stopped_count lines)

pub broken_count : (lines : List Entry) → length (broken_off lines) ≡ length lines
broken_count [] = refl
broken_count (e ∷ lines) = ap (λ (n : ℕ). suc n) (stopped_count lines)

-- with those that met a disk fault behind the others as many were answered as were taken up
pub failed_count : (lines : List Entry) (ps : List Placed) (taken : ℕ) → length ps ≤ taken → taken ≤ length lines
    → length (replied lines ps ++ broken_off (drop (length ps) (take taken lines))) ≡ taken
failed_count lines ps taken few within =
    let all = length-append (replied lines ps) (broken_off (drop (length ps) (take taken lines))) in
    let first = replied_count lines ps (omega arith) in
    let rest = broken_count (drop (length ps) (take taken lines)) in
    let dropped = length-drop (length ps) (take taken lines) in
    let took = length-take taken lines in
    omega arith
