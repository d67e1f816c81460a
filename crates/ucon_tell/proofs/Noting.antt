-- What a note adds to what was noted.
use Rattle.std.proofs.Common.{◌≡◌, ◌⊎◌, inl, inr, ℕ, List, [], ◌∷◌, ◌++◌, refl, sym, ◌∙◌, subst}
use Rattle.ucon_tell.specs.declared.memory.Note.{Note}
use Rattle.ucon_tell.specs.Noted.{HasNoted, IsNoted}

noted_behind : (old : List Note) (note : Note) (x : List ℕ) (t : ℕ) → IsNoted old x t → IsNoted (old ++ note ∷ []) x t
noted_behind [] note x t none = absurd none
noted_behind (n ∷ ns) note x t (inl is) = inl is
noted_behind (n ∷ ns) note x t (inr is) = inr (noted_behind ns note x t is)

noted_last : (old : List Note) (note : Note) → IsNoted (old ++ note ∷ []) note.bytes.items note.moment
noted_last [] note = inl (refl, refl)
noted_last (n ∷ ns) note = inr (noted_last ns note)

within : {A B C : Type 0} → A ⊎ B → (C ⊎ A) ⊎ B
within (inl a) = inl (inr a)
within (inr b) = inr b

noted_which : (old : List Note) (note : Note) (x : List ℕ) (t : ℕ) → IsNoted (old ++ note ∷ []) x t
    → IsNoted old x t ⊎ ((x ≡ note.bytes.items) × (t ≡ note.moment))
noted_which [] note x t (inl is) = inr is
noted_which [] note x t (inr none) = absurd none
noted_which (n ∷ ns) note x t (inl is) = inl (inl is)
noted_which (n ∷ ns) note x t (inr is) = within (noted_which ns note x t is)

-- what was noted still is
pub still_noted : (old new : List Note) (b : List ℕ) (m : ℕ) → HasNoted old new b m → (x : List ℕ) (t : ℕ) → IsNoted old x t → IsNoted new x t
still_noted old new b m (note, is, bytes, moment) x t noted = subst (λ (ns : List Note). IsNoted ns x t) (sym is) (noted_behind old note x t noted)

-- the note is there
pub is_noted : (old new : List Note) (b : List ℕ) (m : ℕ) → HasNoted old new b m → IsNoted new b m
is_noted old new b m (note, is, bytes, moment) =
    subst (λ (ns : List Note). IsNoted ns b m) (sym is)
    (subst (λ (x : List ℕ). IsNoted (old ++ note ∷ []) x m) bytes (subst (λ (t : ℕ). IsNoted (old ++ note ∷ []) note.bytes.items t) moment (noted_last old note)))

same_note : {A : Type 0} (b x : List ℕ) (m t : ℕ) (note : Note) → note.bytes.items ≡ b → note.moment ≡ m → A ⊎ ((x ≡ note.bytes.items) × (t ≡ note.moment))
    → A ⊎ ((t ≡ m) × (x ≡ b))
same_note b x m t note bytes moment (inl a) = inl a
same_note b x m t note bytes moment (inr is) = inr (is.1 ∙ moment, is.0 ∙ bytes)

-- nothing else is
pub nothing_else_noted : (old new : List Note) (b : List ℕ) (m : ℕ) → HasNoted old new b m → (x : List ℕ) (t : ℕ) → IsNoted new x t
    → IsNoted old x t ⊎ ((t ≡ m) × (x ≡ b))
nothing_else_noted old new b m (note, is, bytes, moment) x t noted =
    same_note b x m t note bytes moment (noted_which old note x t (subst (λ (ns : List Note). IsNoted ns x t) is noted))
