-- Words with one space between, and how they are cut again. The proofs of each text of such words rest on these laws, so they stand here.
use Rattle.std.proofs.Common.{◌≡◌, ℕ, ◌+◌, ◌<◌, List, [], ◌∷◌, ◌++◌, length, drop, refl, sym, ap, ◌∙◌, append_assoc, arith, length-append}
use Rattle.std.specs.Prelude.{◌==◌}
use Rattle.std.specs.List.{slice_split, join_with_byte}
use Rattle.std.proofs.Math.Seq.{drop-append_seam}
use Rattle.std.proofs.lemmas.List.Splits.{length-slice_split}
use Rattle.ucon_base.specs.Elements.{Each}
use Rattle.ucon_model.specs.Output.{Lacks}
use Rattle.ucon_model.specs.Plain.{Bytes}

abbrev pub split : Bytes → List Bytes
split bs = slice_split (λ b. b == 32) bs

abbrev pub join : List Bytes → Bytes
join ws = join_with_byte 32 ws

split_last : (w : Bytes) → Lacks 32 w → split w ≡ w ∷ []
split_last [] h = refl
split_last (b ∷ bs) h = rw (h.0, split_last bs h.1) refl

pub split_first : (w rest : Bytes) → Lacks 32 w → split (w ++ 32 ∷ rest) ≡ w ∷ split rest
split_first [] rest h = refl
split_first (b ∷ bs) rest h = rw (h.0, split_first bs rest h.1) refl

-- words without spaces are cut where they were joined
pub split-join : (w : Bytes) (ws : List Bytes) → Each (Lacks 32) (w ∷ ws) → split (join (w ∷ ws)) ≡ w ∷ ws
split-join w [] h = split_last w h.0
split-join w (v ∷ vs) h = split_first w (join (v ∷ vs)) h.0 ∙ ap (λ ws. w ∷ ws) (split-join v vs h.1)

join-cons : (w : Bytes) (ws : List Bytes) (rest : Bytes) → join (w ∷ (ws ++ rest ∷ [])) ≡ w ++ 32 ∷ join (ws ++ rest ∷ [])
join-cons w [] rest = refl
join-cons w (v ∷ vs) rest = refl

-- the same, with a rest that may hold spaces
pub split-join_rest : (ws : List Bytes) (rest : Bytes) → Each (Lacks 32) ws → split (join (ws ++ rest ∷ [])) ≡ ws ++ split rest
split-join_rest [] rest h = refl
split-join_rest (w ∷ ws) rest h =
    ap split (join-cons w ws rest) ∙ split_first w (join (ws ++ rest ∷ [])) h.0 ∙ ap (λ vs. w ∷ vs) (split-join_rest ws rest h.1)

-- the place behind words of which the first begins here
abbrev pub behind : ℕ → List Bytes → ℕ
behind at [] = at
behind at (w ∷ ws) = behind (at + length w + 1) ws

drop-behind : (at : ℕ) (ws : List Bytes) (front rest : Bytes) → length front ≡ at → drop (behind at ws) (front ++ join (ws ++ rest ∷ [])) ≡ rest
drop-behind at [] front rest here = ap (λ n. drop n (front ++ rest)) (sym here) ∙ drop-append_seam front rest
drop-behind at (w ∷ ws) front rest here =
    let longer : length (front ++ (w ++ 32 ∷ [])) ≡ at + length w + 1 =
    omega (arith, here, length-append front (w ++ 32 ∷ []), length-append w (32 ∷ [])) in
    let same : front ++ (w ++ 32 ∷ join (ws ++ rest ∷ [])) ≡ (front ++ (w ++ 32 ∷ [])) ++ join (ws ++ rest ∷ []) =
    ap (λ bs. front ++ bs) (sym (append_assoc w (32 ∷ []) (join (ws ++ rest ∷ []))))
    ∙ sym (append_assoc front (w ++ 32 ∷ []) (join (ws ++ rest ∷ []))) in
    ap (λ bs. drop (behind (at + length w + 1) ws) (front ++ bs)) (join-cons w ws rest) ∙ ap (drop (behind (at + length w + 1) ws)) same
    ∙ drop-behind (at + length w + 1) ws (front ++ (w ++ 32 ∷ [])) rest longer

-- the rest begins where its first word does
pub drop-join : (ws : List Bytes) (rest : Bytes) → drop (behind 0 ws) (join (ws ++ rest ∷ [])) ≡ rest
drop-join ws rest = drop-behind 0 ws [] rest refl

some_first : (ws : List Bytes) → 0 < length ws → (v : Bytes) × ((more : List Bytes) × (ws ≡ v ∷ more))
some_first [] l = absurd (omega (arith, l))
some_first (v ∷ more) l = (v, (more, refl))

-- bytes have a first word
pub split_some : (bs : Bytes) → (v : Bytes) × ((more : List Bytes) × (split bs ≡ v ∷ more))
split_some bs = some_first (split bs) (omega (arith, length-slice_split (λ b. b == 32) bs))
