-- No act is ever done after the tick, since the tick never goes back.
use Rattle.std.proofs.Common.{◌≡◌, ℤ, Bool, true, false, cond, ◌∷◌, refl, arith}
use Rattle.std.specs.Prelude.{◌≤ℤ◌, ◌&&◌, Option, Some}
use Rattle.std.specs.Int.Signed.{≤ℤ_refl}
use Rattle.std.specs.Str.{bytes_eq}
use Rattle.std.proofs.lemmas.Int.{ints}
use Rattle.ucon_model.specs.Action.{Action, Trace, tick, act}
use Rattle.ucon_model.specs.Readings.{tick_of, moment}
use Rattle.ucon_model.specs.Sound.{IsTimely}

last_act : (b : Bool) (now m : ℤ) (last : Option ℤ) → (last ≡ Some m → m ≤ℤ now) → cond b (Some now) last ≡ Some m → m ≤ℤ now
last_act true now m last before e = let same : now ≡ m = cc in rw same (≤ℤ_refl m)
last_act false now m last before e = before e

pub timely-step : (T : Trace) (a : Action) → IsTimely T → ((t : ℤ) → a ≡ tick t → tick_of T ≤ℤ t) → IsTimely (a ∷ T)
timely-step T (tick t) h on = λ s x o m e. omega (arith, ints, h s x o m e, on t refl)
timely-step T (act s' x' o') h on = λ s x o m e.
    last_act (bytes_eq s s' && bytes_eq x x' && bytes_eq o o') (tick_of T) m (moment s x o T) (h s x o m) e
timely-step T a h on = h
