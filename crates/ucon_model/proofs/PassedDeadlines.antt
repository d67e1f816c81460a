-- Where the tick passes the limit of a timed part, it passes one of its deadlines.
use Rattle.std.proofs.Common.{◌≡◌, ◌⊎◌, inl, inr, ⊎_elim, ◌≤◌, Bool, true, false, cond, List, [], ◌∷◌, refl, sym, ap, ◌∙◌, arith}
use Rattle.std.specs.Prelude.{ℤ, ◌+ℤ◌, ◌&&◌, int_lt, filter, map, length, Option, Some, None, unwrap_or}
use Rattle.std.specs.Int.{int_max}
use Rattle.std.specs.List.{list_any}
use Rattle.std.specs.Str.{bytes_eq}
use Rattle.std.proofs.lemmas.Bool.{or_cases, or_left, or_right}
use Rattle.ucon_model.specs.declared.formula.Form.{Form}
use Rattle.ucon_model.specs.declared.formula.Form.TheVariants.{Done, Within, Every}
use Rattle.ucon_model.specs.declared.session.SessionRow.{SessionRow}
use Rattle.ucon_model.specs.Plain.{Bytes, PlainPolicy}
use Rattle.ucon_model.specs.Action.{Trace, act}
use Rattle.ucon_model.specs.Readings.{tick_of, moment}
use Rattle.ucon_model.specs.Truth.{readings}
use Rattle.ucon_model.specs.Reach.{Timed, lasting, owed}
use Rattle.ucon_model.specs.Deadlines.{is_between, form_limit, limit_of, passes, moments, form_deadlines, deadlines, has_between}

-- the last moment of an act is one of its moments
last_is_one : (s a o : Bytes) (T : Trace) (m : ℤ) (test : ℤ → Bool) → moment s a o T ≡ Some m → test m ≡ true → list_any test (moments s a o T) ≡ true
last_is_one s a o [] m test e h = absurd cc
last_is_one s a o (act s' a' o' ∷ T) m test e h =
    now_or_before (bytes_eq s s' && bytes_eq a a' && bytes_eq o o') e (λ before. last_is_one s a o T m test before h)
  where
    now_or_before : (b : Bool) → cond b (Some (tick_of T)) (moment s a o T) ≡ Some m → (moment s a o T ≡ Some m → list_any test (moments s a o T) ≡ true)
        → list_any test (cond b (tick_of T ∷ moments s a o T) (moments s a o T)) ≡ true
    now_or_before true e rest =
        let same : tick_of T ≡ m = cc in
        or_left (test (tick_of T)) (list_any test (moments s a o T)) (ap test same ∙ h)
    now_or_before false e rest = rest e
last_is_one s a o (b ∷ T) m test e h = last_is_one s a o T m test e h

any-map : {A B : Type 0} (p : B → Bool) (f : A → B) (xs : List A) → list_any (λ x. p (f x)) xs ≡ list_any p (map f xs)
any-map p f [] = refl
any-map p f (x ∷ xs) = rw (any-map p f xs) refl

-- the deadline by the start is one of the deadlines, and so is the one by the last moment
from_start : (now next start n : ℤ) (acts : List ℤ) → is_between now next (start +ℤ n) ≡ true → has_between now next (map (λ m. m +ℤ n) (start ∷ acts)) ≡ true
from_start now next start n acts h = or_left (is_between now next (start +ℤ n)) (has_between now next (map (λ m. m +ℤ n) acts)) h

from_last : (now next start n : ℤ) (s a o : Bytes) (T : Trace) (m : ℤ) → moment s a o T ≡ Some m → is_between now next (m +ℤ n) ≡ true
    → has_between now next (map (λ m. m +ℤ n) (start ∷ moments s a o T)) ≡ true
from_last now next start n s a o T m e h =
    or_right (is_between now next (start +ℤ n)) (has_between now next (map (λ m. m +ℤ n) (moments s a o T)))
    (sym (any-map (is_between now next) (λ m. m +ℤ n) (moments s a o T)) ∙ last_is_one s a o T m (λ m. is_between now next (m +ℤ n)) e h)

-- the later of two ticks is one of the two
later_of : (now next start m n : ℤ) → is_between now next (int_max start m +ℤ n) ≡ true
    → (is_between now next (start +ℤ n) ≡ true) ⊎ (is_between now next (m +ℤ n) ≡ true)
later_of now next start m n h = by_order (int_lt m start) h
  where
    by_order : (b : Bool) → is_between now next (cond b start m +ℤ n) ≡ true → (is_between now next (start +ℤ n) ≡ true) ⊎ (is_between now next (m +ℤ n) ≡ true)
    by_order true h = inl h
    by_order false h = inr h

-- where the tick passes the limit of an obligation, it passes one of its deadlines
form_between : (now next start : ℤ) (form : Form) (s a o : Bytes) (T : Trace) (last : Option ℤ) → moment s a o T ≡ last → passes now next (form_limit start form last) ≡ true
    → has_between now next (form_deadlines start form (moments s a o T)) ≡ true
form_between now next start Done s a o T last e h = absurd cc
form_between now next start (Within n) s a o T None e h = absurd cc
form_between now next start (Within n) s a o T (Some m) e h = from_last now next start n s a o T m e h
form_between now next start (Every n) s a o T None e h =
    ⊎_elim (from_start now next start n (moments s a o T)) (from_start now next start n (moments s a o T)) (later_of now next start start n h)
form_between now next start (Every n) s a o T (Some m) e h =
    ⊎_elim (from_start now next start n (moments s a o T)) (from_last now next start n s a o T m e) (later_of now next start m n h)

pub part_between : (P : PlainPolicy) (T : Trace) (t : ℤ) (row : SessionRow) (part : Timed) → passes (tick_of T) t (limit_of (readings P T) row part) ≡ true
    → has_between (tick_of T) t (deadlines T row part) ≡ true
part_between P T t row (lasting n) h = or_left (is_between (tick_of T) t (row.start +ℤ n)) false h
part_between P T t row (owed d) h =
    let who : Bytes = unwrap_or d.by_subject row.subject in
    let on : Bytes = unwrap_or d.on_object row.object in
    form_between (tick_of T) t row.start d.form who d.action on T (moment who d.action on T) refl h

-- where one passes the one test, one passes the other
pub some_pass : {A : Type 0} (p q : A → Bool) → ((x : A) → p x ≡ true → q x ≡ true) → (xs : List A) → list_any p xs ≡ true → 1 ≤ length (filter q xs)
some_pass p q each [] h = absurd cc
some_pass p q each (x ∷ xs) h = here_or_later (q x) refl (or_cases (p x) (list_any p xs) h) (some_pass p q each xs)
  where
    here_or_later : (b : Bool) → q x ≡ b → (p x ≡ true) ⊎ (list_any p xs ≡ true) → (list_any p xs ≡ true → 1 ≤ length (filter q xs))
        → 1 ≤ length (cond b (x ∷ filter q xs) (filter q xs))
    here_or_later true is who rest = omega arith
    here_or_later false is (inl here) rest = absurd (let on : q x ≡ true = each x here in cc)
    here_or_later false is (inr later) rest = rest later
