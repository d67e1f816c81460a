-- A session is given the first limit of what holds for its deadline.
use Rattle.std.proofs.Common.{◌≡◌, ◌≢◌, ◌∙◌, ◌⊎◌, ◌≤◌, ◌+◌, inl, inr, ℕ, ℤ, Bool, true, false, List, refl, sym, ap, subst, arith, cond}
use Rattle.std.specs.Prelude.{◌≤ℤ◌, Option, Some, None, int_lt, nat_eq}
use Rattle.std.specs.List.{Contains}
use Rattle.std.proofs.lemmas.Bool.Decides.{eqb_tells}
use Rattle.std.proofs.lemmas.Int.{ints}
use Rattle.ucon_model.specs.declared.session.SessionRow.{SessionRow}
use Rattle.ucon_model.specs.Action.{Trace}
use Rattle.ucon_model.specs.Deadlines.{limit_of}
use Rattle.ucon_model.specs.Plain.{PlainPolicy}
use Rattle.ucon_model.specs.Reach.{Timed, timed_of}
use Rattle.ucon_model.specs.Readings.{in_force, session, tick_of}
use Rattle.ucon_model.specs.Truth.{Readings, readings}
use Rattle.ucon_model.specs.Usages.{going_on}
use Rattle.ucon_readers.specs.Limits.{IsFirstLimit, IsLimit}
use Rattle.ucon_state.specs.Following.{Follows}
use Rattle.ucon_state.specs.Shown.{Shown}
use Rattle.ucon_state.specs.Tables.{readings_in, session_in}
use Rattle.ucon_collections.specs.Deadlines.{Gives, deadline_of, is_passed, passed}
use Rattle.ucon_cascade.specs.Timely.{HasDeadline, HasDeadlineUpTo, IsDeadlineOf, IsFirstLimitOf}
use Rattle.ucon_cascade.proofs.Alike.{AreOne, KeepsAll}
use Rattle.ucon_cascade.proofs.Lasting.{limits_are_among}

-- ---- whose deadline it is

module _ (old new : List (Option ℤ)) (n : ℕ) (given : Option ℤ) (gives : Gives old new n given) where
  pub given_here : (m : ℕ) → m ≡ n → deadline_of new m ≡ given
  given_here m here = elim (eqb_tells m n) [ inl same ↦ gives m ∙ ap (λ (b : Bool). cond b given (deadline_of old m)) same.0 | inr apart ↦ absurd (apart.1 here) ]

  pub as_before : (m : ℕ) → m ≢ n → deadline_of new m ≡ deadline_of old m
  as_before m other = elim (eqb_tells m n) [ inl same ↦ absurd (other same.1) | inr apart ↦ gives m ∙ ap (λ (b : Bool). cond b given (deadline_of old m)) apart.0 ]

  -- a deadline is the one that was given, or another session's from before
  pub given_or_before : (m : ℕ) (d : ℤ) → HasDeadline new m d → ((m ≡ n) × (given ≡ Some d)) ⊎ ((m ≢ n) × HasDeadline old m d)
  given_or_before m d has = elim (eqb_tells m n) [
    | inl same ↦ inl (same.1, sym (given_here m same.1) ∙ has)
    | inr apart ↦ inr (apart.1, sym (as_before m apart.1) ∙ has)
  ]

-- taken away, and then given
pub gives_then : (old mid new : List (Option ℤ)) (n : ℕ) (given : Option ℤ) → Gives old mid n None → Gives mid new n given → Gives old new n given
gives_then old mid new n given taken gives m = gives m ∙ by (nat_eq m n) (taken m)
  where
    by : (b : Bool) → deadline_of mid m ≡ cond b None (deadline_of old m) → cond b given (deadline_of mid m) ≡ cond b given (deadline_of old m)
    by true was = refl
    by false was = was

-- ---- the first limit

-- by the trace, as by the tables
pub first_after : KeepsAll → AreOne → (s : Shown) (P : PlainPolicy) (U : Trace) → Follows s P U → (n : ℕ) (row : SessionRow) → session U n ≡ Some row → (first : Option ℤ)
    → IsFirstLimitOf s n first → IsFirstLimit (readings P U) row (timed_of (in_force P U) row) first
first_after keeps one s P U h n row is first limit =
    let same : readings_in s.policy s.tables ≡ readings P U = one (readings_in s.policy s.tables) (readings P U) (keeps s P U h).readings_agree in
    subst (λ (R : Readings). IsFirstLimit R row (timed_of (in_force P U) row) first) same
    (subst (λ (Q : PlainPolicy). IsFirstLimit (readings_in s.policy s.tables) row (timed_of Q row) first) h.policy (limit.there row (h.tables.sessions.rows n ∙ is)))

not_over : (tick d : ℤ) → tick ≤ℤ d → int_lt d tick ≡ false
not_over tick d ahead = grind (arith, ints)

first_is_ahead : (R : Readings) (row : SessionRow) (parts : List Timed) (first : Option ℤ) → IsFirstLimit R row parts first → is_passed R.now first ≡ false
first_is_ahead R row parts None is = refl
first_is_ahead R row parts (Some d) is = not_over R.now d is.0.ahead

-- it isn't below the tick
pub none_passed : (s : Shown) (n : ℕ) (first : Option ℤ) → IsFirstLimitOf s n first → is_passed s.tables.tick first ≡ false
none_passed s n first limit = by (session_in s.tables n) refl
  where
    by : (o : Option SessionRow) → session_in s.tables n ≡ o → is_passed s.tables.tick first ≡ false
    by None is = ap (is_passed s.tables.tick) (limit.nowhere is)
    by (Some row) is = first_is_ahead (readings_in s.policy s.tables) row (timed_of s.policy row) first (limit.there row is)

-- so no more are below it than before
pub no_more_below : (before after own : ℕ) (tick : ℤ) (first : Option ℤ) → is_passed tick first ≡ false → after + own ≡ before + passed tick first → after ≤ before
no_more_below before after own tick first none count =
    let nothing : passed tick first ≡ 0 = ap (λ (b : Bool). cond b 1 0) none in
    omega (arith, nothing, count)

-- ---- the session that gets it

module _ (ds es : List (Option ℤ)) (P : PlainPolicy) (U : Trace) (n : ℕ) (row : SessionRow) (first : Option ℤ)
    (is : IsFirstLimit (readings P U) row (timed_of (in_force P U) row) first) (gives : Gives ds es n first) (on : going_on (session U n) ≡ Some row) where
  first_up_to : (m : ℕ) (limit : ℤ) (o : Option ℤ) → IsFirstLimit (readings P U) row (timed_of (in_force P U) row) o
      → IsLimit (readings P U) row (timed_of (in_force P U) row) limit → deadline_of es m ≡ o → HasDeadlineUpTo es m limit
  first_up_to m limit None is' told has = absurd (is' limit told)
  first_up_to m limit (Some d) is' told has = record { deadline = d; there = has; up_to = is'.1 limit told }

  -- has one up to the limit of each part that holds
  pub held_given : (m : ℕ) (other : SessionRow) (part : Timed) (limit : ℤ) → m ≡ n → going_on (session U m) ≡ Some other → Contains (timed_of (in_force P U) other) part
      → limit_of (readings P U) other part ≡ Some limit → tick_of U ≤ℤ limit → HasDeadlineUpTo es m limit
  held_given m other part limit here goes of_right told ahead =
      let both : Some other ≡ Some row = sym goes ∙ ap (λ (k : ℕ). going_on (session U k)) here ∙ on in
      let one : other ≡ row = cc in
      first_up_to m limit first is
      (record {
        part = part;
        one_of = subst (λ (r : SessionRow). Contains (timed_of (in_force P U) r) part) one of_right;
        is = subst (λ (r : SessionRow). limit_of (readings P U) r part ≡ Some limit) one told;
        ahead = ahead;
      }) (given_here ds es n first gives m here)

  its_limit : (o : Option ℤ) (d : ℤ) → IsFirstLimit (readings P U) row (timed_of (in_force P U) row) o → o ≡ Some d
      → IsLimit (readings P U) row (timed_of (in_force P U) row) d
  its_limit None d is' told = absurd (let no : None ≡ Some d = told in cc)
  its_limit (Some e) d is' told = let same : e ≡ d = cc in subst (IsLimit (readings P U) row (timed_of (in_force P U) row)) same is'.0

  -- which is one of its deadlines
  pub theirs_given : (m : ℕ) (d : ℤ) → m ≡ n → first ≡ Some d → IsDeadlineOf P U m d
  theirs_given m d here told =
      let limit = its_limit first d is told in
      record {
        row = row;
        part = limit.part;
        is = ap (λ (k : ℕ). going_on (session U k)) here ∙ on;
        of_right = limit.one_of;
        among = limits_are_among P U row limit.part d limit.is;
      }

  -- and not below the tick
  pub ahead_given : (d : ℤ) → first ≡ Some d → tick_of U ≤ℤ d
  ahead_given d told = (its_limit first d is told).ahead
