-- Bytes that are cut at a byte: what is joined is cut again, and what is cut is joined again. The proofs of each text that is read so rest on
-- these laws, so they stand here.
use Rattle.std.proofs.Common.{◌≡◌, ℕ, Bool, true, false, cond, [], ◌∷◌, ◌++◌, Some, None, is_some, refl, sym, ap, ◌∙◌, subst}
use Rattle.std.specs.Prelude.{Option, option_map, unwrap_or, ◌==◌}
use Rattle.std.proofs.lemmas.Bool.{eq-eqb, eqb-true, false≢true}
use Rattle.ucon_model.specs.Output.{Lacks, cut_at}
use Rattle.ucon_model.specs.Plain.{Bytes}

nothing : {A : Type 0} {x : A} → None ≡ Some x → ⊥
nothing h = false≢true (ap is_some h)

pub cut_at-append : (byte : ℕ) (xs ys : Bytes) → Lacks byte xs → cut_at byte (xs ++ byte ∷ ys) ≡ Some (xs, ys)
cut_at-append byte [] ys h = rw (eq-eqb byte byte refl) refl
cut_at-append byte (x ∷ xs) ys h = rw (h.0, cut_at-append byte xs ys h.1) refl

cut_kept : (o : Option (Bytes × Bytes)) (b : ℕ) (p : Bytes × Bytes) → option_map (λ q. (b ∷ q.0, q.1)) o ≡ Some p
    → (q : Bytes × Bytes) × ((o ≡ Some q) × ((b ∷ q.0, q.1) ≡ p))
cut_kept None b p h = absurd (nothing h)
cut_kept (Some q) b p h = (q, (refl, ap (λ o. unwrap_or o p) h))

cut_more : (byte b : ℕ) (bs : Bytes) (p : Bytes × Bytes) → ((q : Bytes × Bytes) → cut_at byte bs ≡ Some q → q.0 ++ byte ∷ q.1 ≡ bs)
    → (same : Bool) → (b == byte) ≡ same
    → cond {A = Option (Bytes × Bytes)} same (Some ([], bs)) (option_map (λ q. (b ∷ q.0, q.1)) (cut_at byte bs)) ≡ Some p
    → p.0 ++ byte ∷ p.1 ≡ b ∷ bs
cut_more byte b bs p next true is h =
    let e : ([], bs) ≡ p = ap (λ o. unwrap_or o p) h in
    ap (λ (q : Bytes × Bytes). q.0 ++ byte ∷ q.1) (sym e) ∙ ap (λ (n : ℕ). n ∷ bs) (sym (eqb-true b byte is))
cut_more byte b bs p next false is h =
    let k = cut_kept (cut_at byte bs) b p h in
    ap (λ (q : Bytes × Bytes). q.0 ++ byte ∷ q.1) (sym k.1.1) ∙ ap (λ (r : Bytes). b ∷ r) (next k.0 k.1.0)

pub cut_is : (byte : ℕ) (bs : Bytes) (p : Bytes × Bytes) → cut_at byte bs ≡ Some p → p.0 ++ byte ∷ p.1 ≡ bs
cut_is byte [] p h = absurd (nothing h)
cut_is byte (b ∷ bs) p h = cut_more byte b bs p (cut_is byte bs) (b == byte) refl h

lacks_more : (byte b : ℕ) (bs : Bytes) (p : Bytes × Bytes) → ((q : Bytes × Bytes) → cut_at byte bs ≡ Some q → Lacks byte q.0)
    → (same : Bool) → (b == byte) ≡ same
    → cond {A = Option (Bytes × Bytes)} same (Some ([], bs)) (option_map (λ q. (b ∷ q.0, q.1)) (cut_at byte bs)) ≡ Some p → Lacks byte p.0
lacks_more byte b bs p next true is h =
    let e : ([], bs) ≡ p = ap (λ o. unwrap_or o p) h in
    let P : Bytes × Bytes → Type 0 = λ q. Lacks byte q.0 in subst P e tt
lacks_more byte b bs p next false is h =
    let k = cut_kept (cut_at byte bs) b p h in
    let P : Bytes × Bytes → Type 0 = λ q. Lacks byte q.0 in subst P k.1.1 (is, next k.0 k.1.0)

pub cut_lacks : (byte : ℕ) (bs : Bytes) (p : Bytes × Bytes) → cut_at byte bs ≡ Some p → Lacks byte p.0
cut_lacks byte [] p h = absurd (nothing h)
cut_lacks byte (b ∷ bs) p h = lacks_more byte b bs p (cut_lacks byte bs) (b == byte) refl h
