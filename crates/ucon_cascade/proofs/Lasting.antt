-- The limit of a timed part is one of its deadlines, and a deadline stays one.
use Rattle.std.proofs.Common.{◌≡◌, ℤ, zero, suc, Bool, true, false, cond, List, [], ◌∷◌, map, refl, ap, subst, arith}
use Rattle.std.specs.Prelude.{◌&&◌, ◌+ℤ◌, ◌≤ℤ◌, int_le, int_lt, Option, Some, None, unwrap_or}
use Rattle.std.specs.Int.{int_max}
use Rattle.std.specs.Int.Signed.{≤ℤ_refl}
use Rattle.std.specs.List.{Contains}
use Rattle.std.specs.Str.{bytes_eq}
use Rattle.std.proofs.lemmas.Int.{clamps, ints}
use Rattle.ucon_model.specs.declared.formula.Form.{Form}
use Rattle.ucon_model.specs.declared.formula.Form.TheVariants.{Done, Within, Every}
use Rattle.ucon_model.specs.declared.session.SessionRow.{SessionRow}
use Rattle.ucon_model.specs.Plain.{Bytes, PlainPolicy}
use Rattle.ucon_model.specs.Action.{Action, Trace, subject, object, write, env, tick, act, tries, wait, permit, deny, ends, revoke, amend}
use Rattle.ucon_model.specs.Deadlines.{deadlines, form_deadlines, form_limit, limit_of, moments}
use Rattle.ucon_model.specs.Reach.{Timed, lasting, owed, timed_truth}
use Rattle.ucon_model.specs.Readings.{moment, tick_of}
use Rattle.ucon_model.specs.Sound.{IsTimely}
use Rattle.ucon_model.specs.Truth.{Readings, in_time, readings}

-- ---- lists

further : {A : Type 0} (x : A) (xs : List A) (y : A) → Contains xs y → Contains (x ∷ xs) y
further x xs y (i, within, is) = (suc i, omega (arith, within), is)

in_map : {A B : Type 0} (f : A → B) (xs : List A) (x : A) → Contains xs x → Contains (map f xs) (f x)
in_map f [] x (i, within, is) = absurd (omega (arith, within))
in_map f (y ∷ ys) x (zero, within, is) = (0, omega arith, ap f is)
in_map f (y ∷ ys) x (suc i, within, is) = further (f y) (map f ys) (f x) (in_map f ys x (i, omega (arith, within), is))

from_map : {A B : Type 0} (f : A → B) (xs : List A) (y : B) → Contains (map f xs) y → (x : A) × Contains xs x × (f x ≡ y)
from_map f [] y (i, within, is) = absurd (omega (arith, within))
from_map f (x ∷ xs) y (zero, within, is) = (x, (0, omega arith, refl), is)
from_map f (x ∷ xs) y (suc i, within, is) = let rest = from_map f xs y (i, omega (arith, within), is) in (rest.0, further x xs rest.0 rest.1, rest.2)

-- ---- the limit is one of the deadlines

moment_is_one : (s a o : Bytes) (T : Trace) (m : ℤ) → moment s a o T ≡ Some m → Contains (moments s a o T) m
moment_is_one s a o [] m is = absurd (let no : None ≡ Some m = is in cc)
moment_is_one s a o (act s' a' o' ∷ T) m is = by (bytes_eq s s' && bytes_eq a a' && bytes_eq o o') is (λ before. moment_is_one s a o T m before)
  where
    by : (b : Bool) → cond b (Some (tick_of T)) (moment s a o T) ≡ Some m → (moment s a o T ≡ Some m → Contains (moments s a o T) m)
        → Contains (cond b (tick_of T ∷ moments s a o T) (moments s a o T)) m
    by true is rest = let same : tick_of T ≡ m = cc in (0, omega arith, same)
    by false is rest = rest is
moment_is_one s a o (b ∷ T) m is = moment_is_one s a o T m is

by_start : (start n d : ℤ) (ms : List ℤ) → Some (start +ℤ n) ≡ Some d → Contains (map (λ m. m +ℤ n) (start ∷ ms)) d
by_start start n d ms is = let same : start +ℤ n ≡ d = cc in (0, omega arith, same)

by_moment : (start n m d : ℤ) (ms : List ℤ) → Some (m +ℤ n) ≡ Some d → Contains ms m → Contains (map (λ m. m +ℤ n) (start ∷ ms)) d
by_moment start n m d ms is has =
    let same : m +ℤ n ≡ d = cc in
    subst (Contains (map (λ m. m +ℤ n) (start ∷ ms))) same (in_map (λ m. m +ℤ n) (start ∷ ms) m (further start ms m has))

form_among : (start : ℤ) (form : Form) (s a o : Bytes) (T : Trace) (last : Option ℤ) (d : ℤ) → moment s a o T ≡ last → form_limit start form last ≡ Some d
    → Contains (form_deadlines start form (moments s a o T)) d
form_among start Done s a o T last d at is = absurd (let no : None ≡ Some d = is in cc)
form_among start (Within n) s a o T None d at is = absurd (let no : None ≡ Some d = is in cc)
form_among start (Within n) s a o T (Some m) d at is = by_moment start n m d (moments s a o T) is (moment_is_one s a o T m at)
form_among start (Every n) s a o T None d at is = by (int_lt start start) is
  where
    by : (b : Bool) → Some (cond b start start +ℤ n) ≡ Some d → Contains (map (λ m. m +ℤ n) (start ∷ moments s a o T)) d
    by true is = by_start start n d (moments s a o T) is
    by false is = by_start start n d (moments s a o T) is
form_among start (Every n) s a o T (Some m) d at is = by (int_lt m start) is
  where
    by : (b : Bool) → Some (cond b start m +ℤ n) ≡ Some d → Contains (map (λ m. m +ℤ n) (start ∷ moments s a o T)) d
    by true is = by_start start n d (moments s a o T) is
    by false is = by_moment start n m d (moments s a o T) is (moment_is_one s a o T m at)

pub limits_are_among : (P : PlainPolicy) (T : Trace) (row : SessionRow) (part : Timed) (d : ℤ) → limit_of (readings P T) row part ≡ Some d → Contains (deadlines T row part) d
limits_are_among P T row (lasting n) d is = let same : row.start +ℤ n ≡ d = cc in (0, omega arith, same)
limits_are_among P T row (owed o) d is =
    let who : Bytes = unwrap_or o.by_subject row.subject in
    let on : Bytes = unwrap_or o.on_object row.object in
    form_among row.start o.form who o.action on T (moment who o.action on T) d refl is

-- ---- a deadline stays one

form_stays : (start : ℤ) (form : Form) (old new : List ℤ) (d : ℤ) → ((m : ℤ) → Contains old m → Contains new m) → Contains (form_deadlines start form old) d
    → Contains (form_deadlines start form new) d
form_stays start Done old new d more has = has
form_stays start (Within n) old new d more has = shifted_stays start n old new d more has
  where
    shifted_stays : (start n : ℤ) (old new : List ℤ) (d : ℤ) → ((m : ℤ) → Contains old m → Contains new m) → Contains (map (λ m. m +ℤ n) (start ∷ old)) d
        → Contains (map (λ m. m +ℤ n) (start ∷ new)) d
    shifted_stays start n old new d more (zero, within, is) = (0, omega arith, is)
    shifted_stays start n old new d more (suc i, within, is) =
        let from = from_map (λ m. m +ℤ n) old d (i, omega (arith, within), is) in
        further (start +ℤ n) (map (λ m. m +ℤ n) new) d (subst (Contains (map (λ m. m +ℤ n) new)) from.2 (in_map (λ m. m +ℤ n) new from.0 (more from.0 from.1)))
form_stays start (Every n) old new d more has = shifted_stays start n old new d more has
  where
    shifted_stays : (start n : ℤ) (old new : List ℤ) (d : ℤ) → ((m : ℤ) → Contains old m → Contains new m) → Contains (map (λ m. m +ℤ n) (start ∷ old)) d
        → Contains (map (λ m. m +ℤ n) (start ∷ new)) d
    shifted_stays start n old new d more (zero, within, is) = (0, omega arith, is)
    shifted_stays start n old new d more (suc i, within, is) =
        let from = from_map (λ m. m +ℤ n) old d (i, omega (arith, within), is) in
        further (start +ℤ n) (map (λ m. m +ℤ n) new) d (subst (Contains (map (λ m. m +ℤ n) new)) from.2 (in_map (λ m. m +ℤ n) new from.0 (more from.0 from.1)))

moments_stay : (s a o : Bytes) (T : Trace) (b : Action) (m : ℤ) → Contains (moments s a o T) m → Contains (moments s a o (b ∷ T)) m
moments_stay s a o T (subject name) m has = has
moments_stay s a o T (object name) m has = has
moments_stay s a o T (write side name attr v) m has = has
moments_stay s a o T (env name v) m has = has
moments_stay s a o T (tick t) m has = has
moments_stay s a o T (act s' a' o') m has = by (bytes_eq s s' && bytes_eq a a' && bytes_eq o o')
  where
    by : (b : Bool) → Contains (cond b (tick_of T ∷ moments s a o T) (moments s a o T)) m
    by true = further (tick_of T) (moments s a o T) m has
    by false = has
moments_stay s a o T (tries n caller s' r o') m has = has
moments_stay s a o T (wait n label) m has = has
moments_stay s a o T (permit n) m has = has
moments_stay s a o T (deny n label) m has = has
moments_stay s a o T (ends n) m has = has
moments_stay s a o T (revoke n label) m has = has
moments_stay s a o T (amend text Q) m has = has

pub deadlines_stay : (T : Trace) (a : Action) (row : SessionRow) (part : Timed) (d : ℤ) → Contains (deadlines T row part) d → Contains (deadlines (a ∷ T) row part) d
deadlines_stay T a row (lasting n) d has = has
deadlines_stay T a row (owed o) d has =
    let who : Bytes = unwrap_or o.by_subject row.subject in
    let on : Bytes = unwrap_or o.on_object row.object in
    form_stays row.start o.form (moments who o.action on T) (moments who o.action on (a ∷ T)) d (λ m. moments_stay who o.action on T a m) has

-- ---- what holds up to its limit

form_holds : (now start : ℤ) (form : Form) (last : Option ℤ) (d : ℤ) → form_limit start form last ≡ Some d → in_time now start form last ≡ int_le now d
form_holds now start Done last d is = absurd (let no : None ≡ Some d = is in cc)
form_holds now start (Within n) None d is = absurd (let no : None ≡ Some d = is in cc)
form_holds now start (Within n) (Some m) d is = let same : m +ℤ n ≡ d = cc in ap (int_le now) same
form_holds now start (Every n) last d is = let same : int_max start (unwrap_or last start) +ℤ n ≡ d = cc in ap (int_le now) same

pub holds_to_limit : (R : Readings) (row : SessionRow) (part : Timed) (d : ℤ) → limit_of R row part ≡ Some d → timed_truth R row part ≡ int_le R.now d
holds_to_limit R row (lasting n) d is = let same : row.start +ℤ n ≡ d = cc in ap (int_le R.now) same
holds_to_limit R row (owed o) d is =
    form_holds R.now row.start o.form (R.done_at (unwrap_or o.by_subject row.subject) o.action (unwrap_or o.on_object row.object)) d is

-- ---- an act only makes limits later

-- the limit that was there before, not later than this one
abbrev pub WasBefore : Option ℤ → ℤ → Type 0
WasBefore limit d = (b : ℤ) × (limit ≡ Some b) × (b ≤ℤ d)

unmoved : (limit : Option ℤ) (d : ℤ) → limit ≡ Some d → WasBefore limit d
unmoved limit d is = (d, is, ≤ℤ_refl d)

max_later : (start last now : ℤ) → last ≤ℤ now → int_max start last ≤ℤ int_max start now
max_later start last now le = omega (arith, ints, clamps, le)

sum_later : (a b n : ℤ) → a ≤ℤ b → (a +ℤ n) ≤ℤ (b +ℤ n)
sum_later a b n le = omega (arith, ints, le)

-- done now, where it was met before
form_later : (now start : ℤ) (form : Form) (last : Option ℤ) (d : ℤ) → ((m : ℤ) → last ≡ Some m → m ≤ℤ now) → in_time now start form last ≡ true
    → form_limit start form (Some now) ≡ Some d → WasBefore (form_limit start form last) d
form_later now start Done last d before met is = absurd (let no : None ≡ Some d = is in cc)
form_later now start (Within n) None d before met is = absurd (let no : false ≡ true = met in cc)
form_later now start (Within n) (Some m) d before met is =
    let same : now +ℤ n ≡ d = cc in
    (m +ℤ n, refl, subst (λ (e : ℤ). (m +ℤ n) ≤ℤ e) same (sum_later m now n (before m refl)))
form_later now start (Every n) None d before met is =
    let same : int_max start now +ℤ n ≡ d = cc in
    (int_max start start +ℤ n, refl, subst (λ (e : ℤ). (int_max start start +ℤ n) ≤ℤ e) same (sum_later (int_max start start) (int_max start now) n (omega (arith, ints, clamps))))
form_later now start (Every n) (Some m) d before met is =
    let same : int_max start now +ℤ n ≡ d = cc in
    (int_max start m +ℤ n, refl, subst (λ (e : ℤ). (int_max start m +ℤ n) ≤ℤ e) same (sum_later (int_max start m) (int_max start now) n (max_later start m now (before m refl))))

act_later : (P : PlainPolicy) (T : Trace) (s a o who on : Bytes) (start : ℤ) (form : Form) (action : Bytes) (d : ℤ) → IsTimely T
    → in_time (tick_of T) start form (moment who action on T) ≡ true → form_limit start form (moment who action on (act s a o ∷ T)) ≡ Some d
    → WasBefore (form_limit start form (moment who action on T)) d
act_later P T s a o who on start form action d timely met is = by (bytes_eq who s && bytes_eq action a && bytes_eq on o) is
  where
    by : (b : Bool) → form_limit start form (cond b (Some (tick_of T)) (moment who action on T)) ≡ Some d → WasBefore (form_limit start form (moment who action on T)) d
    by true is = form_later (tick_of T) start form (moment who action on T) d (λ m at. timely who action on m at) met is
    by false is = unmoved (form_limit start form (moment who action on T)) d is

pub acts_make_limits_later : (P : PlainPolicy) (T : Trace) (s a o : Bytes) (row : SessionRow) (part : Timed) (d : ℤ) → IsTimely T → timed_truth (readings P T) row part ≡ true
    → limit_of (readings P (act s a o ∷ T)) row part ≡ Some d → WasBefore (limit_of (readings P T) row part) d
acts_make_limits_later P T s a o row (lasting n) d timely met is = unmoved (Some (row.start +ℤ n)) d is
acts_make_limits_later P T s a o row (owed w) d timely met is =
    act_later P T s a o (unwrap_or w.by_subject row.subject) (unwrap_or w.on_object row.object) row.start w.form w.action d timely met is
