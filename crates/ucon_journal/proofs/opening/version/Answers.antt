use Rattle.std.proofs.Common.{◌≡◌, List, ℕ, take, false, sym, ◌∙◌, ap, None, Some, cond}
use Rattle.std.specs.Prelude.{bytes_eq}
use Rattle.std.proofs.lemmas.List.{take_all}
use Rattle.ucon_journal.specs.JournalBytes.{magic}
use Rattle.ucon_journal.proofs.opening.version.Goals as goal

pub returns-clause-told : goal.returns-clause-told
returns-clause-told c =
    let front = c.args.front.now in
    let whole : take 8 front ≡ front = take_all 8 front c.requires in
    let second : bytes_eq (take 8 front) (magic 2) ≡ false =
    ap (λ (l : List ℕ). bytes_eq l (magic 2)) whole ∙ sym (ap (λ (l : List ℕ). bytes_eq front l) c.as_slice.ensures) ∙ sym c.eq.ensures ∙ c.if-eq.false in
    let first : bytes_eq (take 8 front) (magic 1) ≡ false =
    ap (λ (l : List ℕ). bytes_eq l (magic 1)) whole ∙ sym (ap (λ (l : List ℕ). bytes_eq front l) c.as_slice-2.ensures) ∙ sym c.eq-2.ensures ∙ c.if-eq-2.false in
    sym (ap (λ b. cond b (Some 2) (cond (bytes_eq (take 8 front) (magic 1)) (Some 1) None)) second ∙ ap (λ b. cond b (Some 1) None) first)
