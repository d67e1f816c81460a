-- What optional results are made of.
use Rattle.std.proofs.Common.{◌≡◌, Bool, true, false, cond, Some, None, is_some, refl, ap}
use Rattle.std.specs.Prelude.{Option, option_map, option_and_then, unwrap_or}
use Rattle.std.proofs.lemmas.Bool.{false≢true}

pub nothing : {A : Type 0} {x : A} → None ≡ Some x → ⊥
nothing h = false≢true (ap is_some h)

pub and_then_is : {A B : Type 0} (o : Option A) (f : A → Option B) (y : B) → option_and_then f o ≡ Some y → (x : A) × ((o ≡ Some x) × (f x ≡ Some y))
and_then_is None f y h = absurd (nothing h)
and_then_is (Some x) f y h = (x, (refl, h))

pub mapped_is : {A B : Type 0} (o : Option A) (f : A → B) (y : B) → option_map f o ≡ Some y → (x : A) × ((o ≡ Some x) × (f x ≡ y))
mapped_is None f y h = absurd (nothing h)
mapped_is (Some x) f y h = (x, (refl, ap (λ o. unwrap_or o y) h))

pub same : {A : Type 0} (x y : A) → Some x ≡ Some y → x ≡ y
same x y h = ap (λ o. unwrap_or o x) h

pub kept : {A : Type 0} (b : Bool) (x y : A) → cond b (Some x) None ≡ Some y → (b ≡ true) × (x ≡ y)
kept true x y h = (refl, same x y h)
kept false x y h = absurd (nothing h)
