-- The head goes along with the records.
use Rattle.std.proofs.Common.{◌≡◌, ℕ, ◌+◌, ◌≤◌, Bool, true, false, List, [], ◌∷◌, ◌++◌, length, take, Option, Some, None, refl, sym, ap, ◌∙◌, arith}
use Rattle.std.specs.Prelude.{◌==◌, ◌&&◌, ◌||◌, nat_le, bytes_eq}
use Rattle.std.proofs.lemmas.List.{length_push, take-append-le, take_all}
use Rattle.sha2.specs.Sha256.{sha256}
use Rattle.ucon_model.specs.Plain.{Bytes}
use Rattle.ucon_audit.specs.declared.chain.Chain.{Chain}
use Rattle.ucon_audit.specs.declared.head.Kept.{Kept}
use Rattle.ucon_audit.specs.Head.{IsChain, extends, head_after, head_from, head_text, is_kept}

-- one payload more
head_from-push : (head : Bytes) (ps : List Bytes) (p : Bytes) → head_from head (ps ++ p ∷ []) ≡ sha256 (head_from head ps ++ p)
head_from-push head [] p = refl
head_from-push head (q ∷ ps) p = head_from-push (sha256 (head ++ q)) ps p

-- by whether as many as n are there, or are with one more
by_count : (n m : ℕ) (before here now : Bool) → (n ≤ m → now ≡ before) → (n ≡ m + 1 → now ≡ here)
    → (nat_le n (m + 1) && now) ≡ ((nat_le n m && before) || ((n == m + 1) && here))
by_count n m before here now earlier last = grind (arith)

extends-push : (kept : Option Kept) (magic : Bytes) (ps : List Bytes) (p : Bytes)
    → extends kept magic (ps ++ p ∷ []) ≡ (extends kept magic ps || is_kept kept (length ps + 1) (head_after magic (ps ++ p ∷ [])))
extends-push None magic ps p = refl
extends-push (Some k) magic ps p =
    let same : List Bytes → Bool = λ qs. bytes_eq (head_text (head_after magic qs)) k.digits in
    let n = k.records in
    let all = ps ++ p ∷ [] in
    let more : length all ≡ length ps + 1 = length_push ps p in
    ap (λ m. nat_le n m && same (take n all)) more
    ∙ by_count n (length ps) (same (take n ps)) (same all) (same (take n all))
    (λ le. ap same (take-append-le n ps (p ∷ []) le)) (λ is. ap same (take_all n all (omega (arith, more, is))))

-- ---- a kept head was met already, or is met now

pub already : (met here : Bool) → met ≡ true → met ≡ (met || here)
already true here is = refl
already false here is = absurd (cc is)

pub not_yet : (met here : Bool) → met ≡ false → here ≡ (met || here)
not_yet true here isnt = absurd (cc isnt)
not_yet false here isnt = refl

-- what stood behind some payloads stands behind one more
pub chained : (kept : Option Kept) (magic : Bytes) (ps : List Bytes) (p : Bytes) (old new : Chain) → IsChain kept magic ps old
    → new.kept ≡ old.kept → new.records ≡ old.records + 1 → new.head ≡ sha256 (old.head ++ p)
    → new.extends ≡ (old.extends || is_kept old.kept (old.records + 1) (sha256 (old.head ++ p))) → IsChain kept magic (ps ++ p ∷ []) new
chained kept magic ps p old new h same records head extending =
    let next : sha256 (old.head ++ p) ≡ head_after magic (ps ++ p ∷ []) = ap (λ x. sha256 (x ++ p)) h.head ∙ sym (head_from-push (sha256 magic) ps p) in
    record {
      kept_is = same ∙ h.kept_is;
      records = records ∙ (ap (λ n. n + 1) h.records ∙ sym (length_push ps p));
      head = head ∙ next;
      extends_is = extending ∙ ((λ i. h.extends_is i || is_kept (h.kept_is i) (h.records i + 1) (next i)) ∙ sym (extends-push kept magic ps p));
    }
