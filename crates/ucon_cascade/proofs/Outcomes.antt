-- What is said of a result, on each of its ways.
use Rattle.std.proofs.Common.{◌≡◌, ℕ, subst}
use Rattle.std.specs.Prelude.{IfSome, Option, Some, None, Result, Ok, Err, OnErr, OnOk}

pub on_err : {X E A : Type 0} (r : Result X E) → A → OnErr r A
on_err (Ok x) a = tt
on_err (Err e) a = a

pub on_ok : {X E A : Type 0} (r : Result X E) → A → OnOk r A
on_ok (Ok x) a = a
on_ok (Err e) a = tt

pub ok_then : {X E A B : Type 0} (r : Result X E) → (A → B) → OnOk r A → OnOk r B
ok_then (Ok x) f a = f a
ok_then (Err e) f a = tt

pub ok_both : {X E A B C : Type 0} (r : Result X E) → (A → B → C) → OnOk r A → OnOk r B → OnOk r C
ok_both (Ok x) f a b = f a b
ok_both (Err e) f a b = tt

pub ok_three : {X E A B C D : Type 0} (r : Result X E) → (A → B → C → D) → OnOk r A → OnOk r B → OnOk r C → OnOk r D
ok_three (Ok x) f a b c = f a b c
ok_three (Err e) f a b c = tt

-- what is said of what an option holds
pub told_if : (P : ℕ → Type 0) (o : Option ℕ) (m : ℕ) → o ≡ Some m → IfSome o P → P m
told_if P None m is p = let no : ⊥ = cc in absurd no
told_if P (Some n) m is p = let same : n ≡ m = cc in subst P same p
