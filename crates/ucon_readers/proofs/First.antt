-- The first limit of some timed parts, and of more.
use Rattle.std.proofs.Common.{◌≡◌, ◌∙◌, ◌⊎◌, ◌+◌, ◌<◌, inl, inr, ℕ, ℤ, zero, suc, Bool, true, false, cond, List, [], ◌∷◌, ◌++◌, append_assoc, filter, get_or, length, map, take, ap, refl, sym, subst, arith}
use Rattle.std.specs.Prelude.{◌≤ℤ◌, ◌<ℤ◌, int_lt, Option, Some, None, option_and_then, option_map, unwrap_or}
use Rattle.std.specs.Int.{int_min}
use Rattle.std.specs.Int.Signed.{≤ℤ_refl}
use Rattle.std.specs.List.{Contains, flat_map}
use Rattle.std.proofs.lemmas.Int.{ints}
use Rattle.std.proofs.lemmas.List.{map_more}
use Rattle.std.proofs.lemmas.List.Elements.{Contains-append_left, Contains-append_right, Contains-append_cases}
use Rattle.ucon_model.specs.declared.formula.Obligation.{Obligation}
use Rattle.ucon_model.specs.declared.policy.Predicate.{Predicate}
use Rattle.ucon_model.specs.declared.session.SessionRow.{SessionRow}
use Rattle.ucon_model.specs.Deadlines.{form_limit, limit_of}
use Rattle.ucon_model.specs.Decision.{ongoing, right_named}
use Rattle.ucon_model.specs.Lookup.{done_read, right_read, start_read}
use Rattle.ucon_model.specs.Plain.{PlainPredicate, PlainRight}
use Rattle.ucon_model.specs.Reach.{Timed, owed, test_timed}
use Rattle.ucon_model.specs.Truth.{Readings}
use Rattle.ucon_model.specs.Views.{predicate_of}
use Rattle.ucon_readers.specs.Limits.{GivesWay, IsFirstLimit, IsLimit, timed_parts}
use Rattle.ucon_state.specs.Shown.{Shown}
use Rattle.ucon_state.specs.Tables.{readings_in, session_in}

-- ---- which limits there are

limit_left : (R : Readings) (row : SessionRow) (xs ys : List Timed) (d : ℤ) → IsLimit R row xs d → IsLimit R row (xs ++ ys) d
limit_left R row xs ys d is = record { part = is.part; one_of = Contains-append_left xs ys is.part is.one_of; is = is.is; ahead = is.ahead }

limit_right : (R : Readings) (row : SessionRow) (xs ys : List Timed) (d : ℤ) → IsLimit R row ys d → IsLimit R row (xs ++ ys) d
limit_right R row xs ys d is = record { part = is.part; one_of = Contains-append_right xs ys is.part is.one_of; is = is.is; ahead = is.ahead }

limit_of_both : (R : Readings) (row : SessionRow) (xs ys : List Timed) (d : ℤ) → IsLimit R row (xs ++ ys) d → IsLimit R row xs d ⊎ IsLimit R row ys d
limit_of_both R row xs ys d is = elim (Contains-append_cases xs ys is.part is.one_of) [
  | inl one ↦ inl (record { part = is.part; one_of = one; is = is.is; ahead = is.ahead })
  | inr two ↦ inr (record { part = is.part; one_of = two; is = is.is; ahead = is.ahead })
]

pub no_limit : (R : Readings) (row : SessionRow) (d : ℤ) → IsLimit R row [] d → ⊥
no_limit R row d is = nothing_in is.part is.one_of
  where
    nothing_in : (part : Timed) → Contains [] part → ⊥
    nothing_in part (i, within, is) = omega (arith, within)

only_part : (part other : Timed) → Contains (part ∷ []) other → part ≡ other
only_part part other (zero, within, is) = is
only_part part other (suc i, within, is) = absurd (omega (arith, within))

-- the limit of one part is its own
limit_of_one : (R : Readings) (row : SessionRow) (part : Timed) (d : ℤ) → IsLimit R row (part ∷ []) d → limit_of R row part ≡ Some d
limit_of_one R row part d told = ap (limit_of R row) (only_part part told.part told.one_of) ∙ told.is

its_own : (R : Readings) (row : SessionRow) (part : Timed) (limit d : ℤ) → limit_of R row part ≡ Some limit → IsLimit R row (part ∷ []) d → limit ≡ d
its_own R row part limit d is told = let both : Some limit ≡ Some d = sym is ∙ limit_of_one R row part d told in cc

-- ---- which is the first

not_ahead : (now d : ℤ) → d <ℤ now → now ≤ℤ d → ⊥
not_ahead now d below ahead = omega (arith, ints, below, ahead)

less : (a b : ℤ) → int_lt a b ≡ true → a ≤ℤ b
less a b lt = grind (arith, ints)

no_less : (a b : ℤ) → int_lt a b ≡ false → b ≤ℤ a
no_less a b later = grind (arith, ints)

-- one that isn't above those of the parts that come stays it
pub stays_first : (R : Readings) (row : SessionRow) (parts : List Timed) (first : ℤ) → ((d : ℤ) → IsLimit R row parts d → first ≤ℤ d)
    → GivesWay R row parts (Some first) (Some first)
stays_first R row parts first low those is = (
  limit_left R row those parts first is.0,
  λ d limit. elim (limit_of_both R row those parts d limit) [ inl was ↦ is.1 d was | inr new ↦ low d new ],
)

-- and so it is where none comes
pub still_first : (R : Readings) (row : SessionRow) (parts : List Timed) (o : Option ℤ) → ((d : ℤ) → IsLimit R row parts d → ⊥) → GivesWay R row parts o o
still_first R row parts (Some first) none = stays_first R row parts first (λ d limit. absurd (none d limit))
still_first R row parts None none = λ those is d limit. elim (limit_of_both R row those parts d limit) [ inl was ↦ is d was | inr new ↦ none d new ]

at_most : (a b c : ℤ) → a ≤ℤ b → b ≤ℤ c → a ≤ℤ c
at_most a b c le more = omega (arith, ints, le, more)

-- the first of those that come is it, where it isn't above the first so far
pub comes_first : (R : Readings) (row : SessionRow) (parts : List Timed) (o : Option ℤ) (new : ℤ) → IsFirstLimit R row parts (Some new)
    → ((first : ℤ) → o ≡ Some first → new ≤ℤ first) → GivesWay R row parts o (Some new)
comes_first R row parts None new comes before those is = (
  limit_right R row those parts new comes.0,
  λ d limit. elim (limit_of_both R row those parts d limit) [ inl was ↦ absurd (is d was) | inr later ↦ comes.1 d later ],
)
comes_first R row parts (Some first) new comes before those is = (
  limit_right R row those parts new comes.0,
  λ d limit. elim (limit_of_both R row those parts d limit) [ inl was ↦ at_most new first d (before first refl) (is.1 d was) | inr later ↦ comes.1 d later ],
)

-- with these parts, and then with those
pub gives_way_twice : (R : Readings) (row : SessionRow) (xs ys : List Timed) (o p q : Option ℤ) → GivesWay R row xs o p → GivesWay R row ys p q → GivesWay R row (xs ++ ys) o q
gives_way_twice R row xs ys o p q one two those is =
    subst (λ (parts : List Timed). IsFirstLimit R row parts q) (append_assoc those xs ys) (two (those ++ xs) (one those is))

-- ---- of one part more

module _ (R : Readings) (row : SessionRow) (part : Timed) (limit : ℤ) (is : limit_of R row part ≡ Some limit) where
  -- whose limit the tick is above
  pub passed_by : (o : Option ℤ) → limit <ℤ R.now → GivesWay R row (part ∷ []) o o
  passed_by o below = still_first R row (part ∷ []) o (λ d told. apart d (its_own R row part limit d is told) told.ahead)
    where
      apart : (d : ℤ) → limit ≡ d → R.now ≤ℤ d → ⊥
      apart d same ahead = not_ahead R.now d (subst (λ (e : ℤ). e <ℤ R.now) same below) ahead

  first_of_one : R.now ≤ℤ limit → IsFirstLimit R row (part ∷ []) (Some limit)
  first_of_one ahead = (
    record { part = part; one_of = (0, omega arith, refl); is = is; ahead = ahead },
    λ d told. subst (λ (e : ℤ). limit ≤ℤ e) (its_own R row part limit d is told) (≤ℤ_refl limit),
  )

  -- whose limit the tick isn't above, where there is none so far
  pub first_so_far : R.now ≤ℤ limit → GivesWay R row (part ∷ []) None (Some limit)
  first_so_far ahead = comes_first R row (part ∷ []) None limit (first_of_one ahead) (λ first told. absurd (let no : None ≡ Some first = told in cc))

  -- and where there is one
  pub earlier_of_both : (so_far : ℤ) → R.now ≤ℤ limit → GivesWay R row (part ∷ []) (Some so_far) (Some (int_min so_far limit))
  earlier_of_both so_far ahead = by (int_lt limit so_far) refl
    where
      by : (b : Bool) → int_lt limit so_far ≡ b → GivesWay R row (part ∷ []) (Some so_far) (Some (cond b limit so_far))
      by true lt = comes_first R row (part ∷ []) (Some so_far) limit (first_of_one ahead)
          (λ first told. (let same : so_far ≡ first = cc in subst (λ (e : ℤ). limit ≤ℤ e) same (less limit so_far lt)))
      by false later = stays_first R row (part ∷ []) so_far
          (λ d told. subst (λ (e : ℤ). so_far ≤ℤ e) (its_own R row part limit d is told) (no_less limit so_far later))

-- one that has none
pub without_limit : (R : Readings) (row : SessionRow) (part : Timed) (o : Option ℤ) → limit_of R row part ≡ None → GivesWay R row (part ∷ []) o o
without_limit R row part o none =
    still_first R row (part ∷ []) o (λ d told. (let no : None ≡ Some d = sym none ∙ limit_of_one R row part d told in cc))

-- ---- of one predicate more

timed_append : (ps qs : List PlainPredicate) → timed_parts (ps ++ qs) ≡ timed_parts ps ++ timed_parts qs
timed_append [] qs = refl
timed_append (p ∷ ps) qs = by (ongoing p) (timed_append ps qs)
  where
    by : (b : Bool) → timed_parts (ps ++ qs) ≡ timed_parts ps ++ timed_parts qs
        → flat_map (λ p. test_timed p.test) (cond b (p ∷ filter ongoing (ps ++ qs)) (filter ongoing (ps ++ qs)))
        ≡ flat_map (λ p. test_timed p.test) (cond b (p ∷ filter ongoing ps) (filter ongoing ps)) ++ timed_parts qs
    by true rest = ap (λ (more : List Timed). test_timed p.test ++ more) rest ∙ sym (append_assoc (test_timed p.test) (timed_parts ps) (timed_parts qs))
    by false rest = rest

pub first_of_more : (R : Readings) (row : SessionRow) (o p : Option ℤ) (ps : List Predicate) (i : ℕ) (d : Predicate) → i < length ps
    → IsFirstLimit R row (timed_parts (map predicate_of (take i ps))) o → GivesWay R row (timed_parts (predicate_of (get_or ps i d) ∷ [])) o p
    → IsFirstLimit R row (timed_parts (map predicate_of (take (i + 1) ps))) p
first_of_more R row o p ps i d within first gives =
    subst (λ (parts : List Timed). IsFirstLimit R row parts p)
    (sym (ap timed_parts (map_more predicate_of ps i d within) ∙ timed_append (map predicate_of (take i ps)) (predicate_of (get_or ps i d) ∷ [])))
    (gives (timed_parts (map predicate_of (take i ps))) first)

-- one that isn't ongoing has no timed parts
pub no_parts : (p : PlainPredicate) → ongoing p ≡ false → [] ≡ timed_parts (p ∷ [])
no_parts p off = rw off refl

pub its_parts : (p : PlainPredicate) → ongoing p ≡ true → test_timed p.test ≡ timed_parts (p ∷ [])
its_parts p on = rw on (sym (append_none (test_timed p.test)))
  where
    append_none : (xs : List Timed) → xs ++ [] ≡ xs
    append_none [] = refl
    append_none (x ∷ xs) = ap (λ (rest : List Timed). x ∷ rest) (append_none xs)

-- ---- by the row

-- the limit of an obligation of session n
pub limit_of_duty : (R : Readings) (n : ℕ) (row : SessionRow) (o : Obligation) (start : ℤ) (last limit : Option ℤ) → R.row n ≡ Some row → row.start ≡ start
    → last ≡ done_read R n o → limit ≡ form_limit start o.form last → limit_of R row (owed o) ≡ limit
limit_of_duty R n row o start last limit there starts last_is is =
    sym (is ∙ ap (λ (from : ℤ). form_limit from o.form last) (sym starts) ∙ ap (form_limit row.start o.form) (last_is
    ∙ ap (λ (r : Option SessionRow). option_and_then (λ row. R.done_at (unwrap_or o.by_subject row.subject) o.action (unwrap_or o.on_object row.object)) r) there))

-- a session's right, by its row
pub right_by_row : (s : Shown) (n : ℕ) (row : SessionRow) (o : Option PlainRight) → session_in s.tables n ≡ Some row
    → o ≡ right_read s.policy (readings_in s.policy s.tables) n → right_named s.policy.rights row.right ≡ o
right_by_row s n row o is read = sym (ap (option_and_then (λ (x : SessionRow). right_named s.policy.rights x.right)) is) ∙ sym read

-- a session starts where its row says
pub starts_at : (R : Readings) (n : ℕ) (row : SessionRow) (start : ℤ) → R.row n ≡ Some row → start_read R n ≡ Some start → row.start ≡ start
starts_at R n row start there told =
    let both : Some row.start ≡ Some start = sym (ap (option_map (λ (x : SessionRow). x.start)) there) ∙ told in
    cc
