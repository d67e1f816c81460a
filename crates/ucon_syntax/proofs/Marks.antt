-- Tokens with marks.
use Rattle.std.proofs.Common.{◌≡◌, ℕ, ◌<◌, ◌≤◌, ltb, true, false, List, [], ◌∷◌, ◌++◌, Option, Some, None, refl, ap}
use Rattle.std.proofs.lemmas.Bool.{lt-ltb, le-ltb}
use Rattle.ucon_base.specs.Tokens.{Token}
use Rattle.ucon_model.specs.Forms.{Terminal, as_token, Limit, Marked, beyond, bare, IsClean}

pub clean_append : (a b : List Marked) → IsClean a → IsClean b → IsClean (a ++ b)
clean_append [] b x y = y
clean_append ((t, None) ∷ a) b x y = clean_append a b x y
clean_append ((t, Some l) ∷ a) b x y = absurd x

pub clean_front : (a b : List Marked) → IsClean (a ++ b) → IsClean a
clean_front [] b x = tt
clean_front ((t, None) ∷ a) b x = clean_front a b x
clean_front ((t, Some l) ∷ a) b x = absurd x

pub clean_head : (t : Terminal) (o : Option Limit) (ms : List Marked) → o ≡ None → IsClean ms → IsClean ((t, o) ∷ ms)
clean_head t None ms e c = c
clean_head t (Some l) ms e c = absurd (cc)

-- the first mark is in front of what is clean
pub not_clean : (front : List Marked) (t : Terminal) (l : Limit) (behind : List Marked) → IsClean (front ++ (t, Some l) ∷ behind) → ⊥
not_clean [] t l behind x = x
not_clean ((u, None) ∷ front) t l behind x = not_clean front t l behind x
not_clean ((u, Some k) ∷ front) t l behind x = x

pub bare_append : (a b : List Marked) → bare (a ++ b) ≡ bare a ++ bare b
bare_append [] b = refl
bare_append (m ∷ a) b = ap (λ (r : List Token). as_token m.0 ∷ r) (bare_append a b)

pub not_beyond : (l : Limit) (most n : ℕ) → n < most → beyond l most n ≡ None
not_beyond l most n lt = let h : ltb n most ≡ true = lt-ltb n most lt in rw h refl

pub is_beyond : (l : Limit) (most n : ℕ) → most ≤ n → beyond l most n ≡ Some l
is_beyond l most n le = let h : ltb n most ≡ false = le-ltb n most le in rw h refl
