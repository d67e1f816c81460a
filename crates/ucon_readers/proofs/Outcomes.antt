-- What is said of a result, on each of its ways.
use Rattle.std.specs.Prelude.{Result, Ok, Err, OnOk}

pub on_ok : {X E A : Type 0} (r : Result X E) → A → OnOk r A
on_ok (Ok x) a = a
on_ok (Err e) a = tt

pub ok_then : {X E A B : Type 0} (r : Result X E) → (A → B) → OnOk r A → OnOk r B
ok_then (Ok x) f a = f a
ok_then (Err e) f a = tt
