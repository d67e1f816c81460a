-- Tests that tell whether two things are the same.
use Rattle.std.proofs.Common.{◌≡◌, ℕ, Bool, true, false, List, [], ◌∷◌, refl, ap}
use Rattle.std.specs.Prelude.{ℤ, Option, Some, None, if◌then◌else◌}
use Rattle.std.specs.Ordering.{int_eq}
use Rattle.std.specs.Str.{bytes_eq}
use Rattle.std.proofs.lemmas.Bool.Decides.{Decides-int_eq}
use Rattle.std.proofs.lemmas.Slice.Eq.{bytes_eq-Decides}
use Rattle.ucon_base.specs.declared.value.Value.{Value}
use Rattle.ucon_base.specs.declared.value.Value.TheVariants.{Int, Text, Set}
use Rattle.ucon_base.specs.Arithmetic.{same_texts, same_value}
use Rattle.ucon_model.specs.declared.formula.Ref.{Ref}
use Rattle.ucon_model.specs.declared.formula.Ref.TheVariants.{Subject, Object, Env}
use Rattle.ucon_model.specs.Places.{same_place}
use Rattle.ucon_accept.specs.Checking.{same_moment}

pub bytes_same : (a b : List ℕ) → bytes_eq a b ≡ true → a ≡ b
bytes_same a b h = (bytes_eq-Decides a b).0 h

pub bytes_self : (a : List ℕ) → bytes_eq a a ≡ true
bytes_self a = (bytes_eq-Decides a a).1 refl

pub int_same : (a b : ℤ) → int_eq a b ≡ true → a ≡ b
int_same a b h = (Decides-int_eq a b).0 h

pub int_self : (a : ℤ) → int_eq a a ≡ true
int_self a = (Decides-int_eq a a).1 refl

-- ---- places

pub place_same : (p q : Ref) → same_place p q ≡ true → p ≡ q
place_same (Subject a) (Subject b) h = ap Subject (bytes_same a b h)
place_same (Object a) (Object b) h = ap Object (bytes_same a b h)
place_same (Env a) (Env b) h = ap Env (bytes_same a b h)
place_same p q h = absurd cc

pub place_self : (p : Ref) → same_place p p ≡ true
place_self (Subject a) = bytes_self a
place_self (Object a) = bytes_self a
place_self (Env a) = bytes_self a

-- ---- values

pub texts_same : (s t : List (List ℕ)) → same_texts s t ≡ true → s ≡ t
texts_same [] [] h = refl
texts_same [] (u ∷ us) h = absurd cc
texts_same (t ∷ ts) [] h = absurd cc
texts_same (t ∷ ts) (u ∷ us) h = by_first (bytes_eq t u) refl h (texts_same ts us)
  where
    by_first : (b : Bool) → bytes_eq t u ≡ b → (if b then same_texts ts us else false) ≡ true → (same_texts ts us ≡ true → ts ≡ us) → t ∷ ts ≡ u ∷ us
    by_first true e h rest =
        let first = bytes_same t u e in
        let others = rest h in
        cc
    by_first false e h rest = absurd cc

pub texts_self : (s : List (List ℕ)) → same_texts s s ≡ true
texts_self [] = refl
texts_self (t ∷ ts) = rw (bytes_self t) (texts_self ts)

pub value_same : (v w : Value) → same_value v w ≡ true → v ≡ w
value_same (Int a) (Int b) h = ap Int (int_same a b h)
value_same (Text a) (Text b) h = ap Text (bytes_same a b h)
value_same (Set s) (Set t) h = ap Set (texts_same s t h)
value_same v w h = absurd cc

pub value_self : (v : Value) → same_value v v ≡ true
value_self (Int a) = int_self a
value_self (Text a) = bytes_self a
value_self (Set s) = texts_self s

-- ---- moments

pub moment_same : (m n : Option ℤ) → same_moment m n ≡ true → m ≡ n
moment_same None None h = refl
moment_same (Some a) (Some b) h = ap Some (int_same a b h)
moment_same m n h = absurd cc

pub moment_self : (m : Option ℤ) → same_moment m m ≡ true
moment_self None = refl
moment_self (Some a) = int_self a
