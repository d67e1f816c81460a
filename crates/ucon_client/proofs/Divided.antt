-- The lines of each client.
use Rattle.std.proofs.Common.{◌≡◌, ℕ, zero, suc, ◌+◌, ◌<◌, List, [], ◌∷◌, ◌++◌, map, length, get_or, take, arith, refl, sym, ap, ◌∙◌}
use Rattle.std.specs.Prelude.{nat_eq}
use Rattle.std.proofs.lemmas.List.{append_assoc, map-append}
use Rattle.std.proofs.lemmas.List.Elements.{filter-append}
use Rattle.ucon_script.specs.declared.line_text.LineText.{LineText}
use Rattle.ucon_client.specs.declared.part.Part.{Part}
use Rattle.ucon_client.specs.Answers.{entry_of, lines_in}
use Rattle.ucon_client.specs.Clients.{AreRising}
use Rattle.ucon_client.specs.Dividing.{own_lines, spelled_entry}
use Rattle.ucon_base.specs.Elements.{Each, each_append, each_map}

pub take_next : {X : Type 0} (xs : List X) (i : ℕ) (x : X) → i < length xs → x ≡ get_or xs i x → take (suc i) xs ≡ take i xs ++ x ∷ []
take_next [] i x lt is = absurd (omega arith)
take_next (y ∷ xs) zero x lt is = λ j. sym is j ∷ []
take_next (y ∷ xs) (suc i) x lt is = ap (λ l. y ∷ l) (take_next xs i x (omega arith) is)

-- one line further
pub own_next : (client : ℕ) (lines : List LineText) (i : ℕ) (line : LineText) → i < length lines → line ≡ get_or lines i line
    → own_lines client (map spelled_entry (take (suc i) lines))
    ≡ own_lines client (map spelled_entry (take i lines)) ++ own_lines client (spelled_entry line ∷ [])
own_next client lines i line lt is =
    ap (λ l. own_lines client (map spelled_entry l)) (take_next lines i line lt is)
    ∙ (ap (own_lines client) (map-append spelled_entry (take i lines) (line ∷ []))
    ∙ filter-append (λ e. nat_eq client e.caller.0) (map spelled_entry (take i lines)) (spelled_entry line ∷ []))

pub lines_append : (xs ys : List Part) → lines_in (xs ++ ys) ≡ lines_in xs ++ lines_in ys
lines_append [] ys = refl
lines_append (p ∷ xs) ys = ap (λ l. map entry_of p.lines.items ++ l) (lines_append xs ys) ∙ sym (append_assoc (map entry_of p.lines.items) (lines_in xs) (lines_in ys))

pub rising_last : (xs : List ℕ) (n : ℕ) → AreRising xs → Each (λ m. m < n) xs → AreRising (xs ++ n ∷ [])
rising_last [] n up below = (tt, tt)
rising_last (x ∷ xs) n up below = (each_append (λ m. x < m) xs (n ∷ []) up.0 (below.0, tt), rising_last xs n up.1 below.1)

pub below_more : (n : ℕ) (xs : List ℕ) → Each (λ m. m < n) xs → Each (λ m. m < n + 1) xs
below_more n xs h = each_map (λ m. m < n) (λ m. m < n + 1) (λ m lt. omega (arith, lt)) xs h
