-- The tables keep the sessions of the trace.
use Rattle.std.proofs.Common.{◌≡◌, ◌⊎◌, inl, inr, ◌∙◌, sym, ap, subst, ℕ, zero, suc, ◌+◌, ◌-◌, ◌<◌, ◌≤◌, Bool, true, false, cond, List, [], ◌∷◌, ◌++◌, length, take, get_or, refl, arith, add-one}
use Rattle.std.specs.Prelude.{Option, Some, None, option_map, nat_eq, slice_get, slice_set, count_by}
use Rattle.std.specs.Option.{option_map_or}
use Rattle.std.proofs.lemmas.Bool.{cases_order, eqb-true, eqb-false, eq-eqb, ne_eqb}
use Rattle.std.proofs.lemmas.List.{length_push, length-set, take_all}
use Rattle.std.proofs.lemmas.List.Sums.{count_by_more_yes, count_by_more_no}
use Rattle.std.proofs.lemmas.Option.{slice_get_cases}
use Rattle.ucon_model.specs.declared.session.SessionRow.{SessionRow}
use Rattle.ucon_model.specs.declared.session.SessionState.{SessionState}
use Rattle.ucon_model.specs.declared.session.SessionState.TheVariants.{Denied, Accessing, Revoked, Ended}
use Rattle.ucon_model.specs.Plain.{PlainPolicy}
use Rattle.ucon_model.specs.Action.{Action, Trace, subject, object, write, env, tick, act, tries, wait, permit, deny, ends, revoke, amend}
use Rattle.ucon_model.specs.Readings.{tick_of, changed_if, session, sessions, is_accessing_state, is_accessing, accessing_up_to, accessing, env_position}
use Rattle.ucon_model.specs.Legal.{IsLegal}
use Rattle.ucon_state.specs.Following.{KeepsSessions}
use Rattle.ucon_state.specs.Tables.{Tables, cell_of, session_in, accessing_among}
use Rattle.ucon_state.specs.Applied.{with_cell, with_variable, with_new_session, tried, moved_to, with_state, applied, opening_tables}
use Rattle.ucon_state.proofs.Following.Places.{set_here, set_elsewhere, still_there, added_there, is_there, not_there}

-- ---- a session behind the others

behind_others : (xs : List SessionRow) (x : SessionRow) (k m : ℕ) → m ≡ length xs + 1 → (k ≡ length xs) ⊎ ((k < length xs) ⊎ (length xs < k))
    → slice_get (xs ++ x ∷ []) k ≡ cond (nat_eq (suc k) m) (Some x) (slice_get xs k)
behind_others xs x k m is (inl e) = rw (eq-eqb (suc k) m (omega arith)) (added_there xs (x ∷ []) k 0 (omega arith))
behind_others xs x k m is (inr (inl lt)) = rw (ne_eqb (suc k) m (λ e. omega arith)) (still_there xs (x ∷ []) k lt)
behind_others xs x k m is (inr (inr gt)) =
    rw (ne_eqb (suc k) m (λ e. omega arith)) (not_there (xs ++ x ∷ []) k (omega (arith, length_push xs x)) ∙ sym (not_there xs k (omega arith)))

pub session_in-with_new_session : (t : Tables) (m : ℕ) (row : SessionRow) (n : ℕ) → m ≡ length t.sessions + 1
    → session_in (with_new_session t row) n ≡ cond (nat_eq n m) (Some row) (session_in t n)
session_in-with_new_session t m row zero is = rw (ne_eqb 0 m (λ e. omega arith)) refl
session_in-with_new_session t m row (suc k) is = behind_others t.sessions row k m is (cases_order k (length t.sessions))

-- ---- a session in another state

still_none : (b : Bool) (f : SessionRow → SessionRow) (o : Option SessionRow) → (b ≡ true → o ≡ None) → o ≡ changed_if b f o
still_none true f o none = none refl ∙ sym (ap (option_map f) (none refl))
still_none false f o none = refl

written_by : (xs : List SessionRow) (k j : ℕ) (row : SessionRow) (f : SessionRow → SessionRow) (b : Bool) → slice_get xs k ≡ Some row → nat_eq (suc j) (suc k) ≡ b
    → slice_get (slice_set xs (suc k - 1) (f row)) j ≡ changed_if b f (slice_get xs j)
written_by xs k j row f true there is =
    let same : suc j ≡ suc k = eqb-true (suc j) (suc k) is in
    let here : k ≡ j = omega (arith, same) in
    let place : suc k - 1 ≡ j = omega (arith, same) in
    let at : slice_get xs j ≡ Some row = subst (λ (i : ℕ). slice_get xs i ≡ Some row) here there in
    rw (place, at) (set_here xs j (f row) (is_there xs j row at))
written_by xs k j row f false there is =
    set_elsewhere xs (suc k - 1) j (f row) (λ e. eqb-false (suc j) (suc k) is (omega (arith, e)))

moved_by : (t : Tables) (m : ℕ) (state : SessionState) (n : ℕ) (o : Option SessionRow) → session_in t m ≡ o
    → session_in (option_map_or (λ row. record t { sessions = slice_set t.sessions (m - 1) (moved_to state t.tick row) }) o t) n
    ≡ changed_if (nat_eq n m) (moved_to state t.tick) (session_in t n)
moved_by t m state n None is = still_none (nat_eq n m) (moved_to state t.tick) (session_in t n) (λ e. ap (session_in t) (eqb-true n m e) ∙ is)
moved_by t zero state n (Some row) is = absurd cc
moved_by t (suc k) state zero (Some row) is = rw (ne_eqb 0 (suc k) (λ e. omega arith)) refl
moved_by t (suc k) state (suc j) (Some row) is = written_by t.sessions k j row (moved_to state t.tick) (nat_eq (suc j) (suc k)) is refl

pub session_in-with_state : (t : Tables) (m : ℕ) (state : SessionState) (n : ℕ)
    → session_in (with_state t m state) n ≡ changed_if (nat_eq n m) (moved_to state t.tick) (session_in t n)
session_in-with_state t m state n = moved_by t m state n (session_in t m) refl

-- ---- how many are accessing

abbrev goes_on : SessionRow → Bool
goes_on row = is_accessing_state row.state

one_if : (b : Bool) (row : SessionRow) (xs : List SessionRow) (k : ℕ) → k < length xs → get_or xs k row ≡ row → goes_on row ≡ b
    → count_by goes_on (take (k + 1) xs) ≡ count_by goes_on (take k xs) + cond b 1 0
one_if true row xs k lt at is = count_by_more_yes goes_on xs k row lt (ap goes_on at ∙ is)
one_if false row xs k lt at is = count_by_more_no goes_on xs k row lt (ap goes_on at ∙ is) ∙ omega arith

counted_by : (xs : List SessionRow) (k : ℕ) (o : Option SessionRow) → slice_get xs k ≡ o
    → ((row : SessionRow) × (k < length xs) × (slice_get xs k ≡ Some row) × (get_or xs k row ≡ row)) ⊎ ((length xs ≤ k) × (slice_get xs k ≡ None))
    → count_by goes_on (take (k + 1) xs) ≡ count_by goes_on (take k xs) + cond (is_accessing o) 1 0
counted_by xs k o is (inl there) =
    let here : Some there.0 ≡ o = sym there.2 ∙ is in
    subst (λ (p : Option SessionRow). count_by goes_on (take (k + 1) xs) ≡ count_by goes_on (take k xs) + cond (is_accessing p) 1 0) here
    (one_if (goes_on there.0) there.0 xs k there.1 there.3 refl)
counted_by xs k o is (inr past) =
    let here : None ≡ o = sym past.1 ∙ is in
    subst (λ (p : Option SessionRow). count_by goes_on (take (k + 1) xs) ≡ count_by goes_on (take k xs) + cond (is_accessing p) 1 0) here
    (rw (take_all (k + 1) xs (omega (arith, past.0)), take_all k xs past.0) (omega arith))

counted_up_to : (xs : List SessionRow) (T : Trace) → ((n : ℕ) → slice_get xs n ≡ session T (suc n)) → (k : ℕ) → count_by goes_on (take k xs) ≡ accessing_up_to T k
counted_up_to xs T same zero = refl
counted_up_to xs T same (suc k) =
    subst (λ (n : ℕ). count_by goes_on (take n xs) ≡ accessing_up_to T (suc k)) (add-one k)
    (counted_by xs k (session T (suc k)) (same k) (slice_get_cases xs k).1 ∙ ap (λ n. n + cond (is_accessing (session T (suc k))) 1 0) (counted_up_to xs T same k))

-- ---- the sessions of a trace

pub accessing_kept : (t : Tables) (T : Trace) → KeepsSessions t T → accessing_among t.sessions ≡ accessing T
accessing_kept t T h =
    sym (ap (count_by goes_on) (take_all (sessions T) t.sessions (omega (arith, h.count)))) ∙ counted_up_to t.sessions T (λ n. h.rows (suc n)) (sessions T)

pub keeps_sessions_opening : (P : PlainPolicy) → KeepsSessions (opening_tables P) []
keeps_sessions_opening P = record { rows = rows; count = refl }
  where
    rows : (n : ℕ) → session_in (opening_tables P) n ≡ None
    rows zero = refl
    rows (suc n) = refl

pub session_in-same : (t u : Tables) → u.sessions ≡ t.sessions → (n : ℕ) → session_in u n ≡ session_in t n
session_in-same t u same zero = refl
session_in-same t u same (suc n) = ap (λ (rows : List SessionRow). slice_get rows n) same

pub by_option : {X A : Type 0} (read : Tables → A) (t : Tables) (f : X → Tables) (o : Option X) → ((x : X) → read (f x) ≡ read t) → read (option_map_or f o t) ≡ read t
by_option read t f None each = refl
by_option read t f (Some x) each = each x

-- ---- one action further

length-with_state : (t : Tables) (n : ℕ) (state : SessionState) → length (with_state t n state).sessions ≡ length t.sessions
length-with_state t n state =
    by_option (λ u. length u.sessions) t (λ row. record t { sessions = slice_set t.sessions (n - 1) (moved_to state t.tick row) }) (session_in t n)
    (λ row. length-set t.sessions (n - 1) (moved_to state t.tick row))

-- the sessions are others by this change of session m alone
moved : (t : Tables) (T : Trace) (a : Action) (m : ℕ) (state : SessionState) (change : SessionRow → SessionRow) → KeepsSessions t T
    → ((row : SessionRow) → moved_to state t.tick row ≡ change row) → ((n : ℕ) → session (a ∷ T) n ≡ changed_if (nat_eq n m) change (session T n)) → sessions (a ∷ T) ≡ sessions T
    → KeepsSessions (with_state t m state) (a ∷ T)
moved t T a m state change h same told count = record {
  rows = λ n.
      session_in-with_state t m state n
      ∙ ap (λ (f : SessionRow → SessionRow). changed_if (nat_eq n m) f (session_in t n)) (λ i row. same row i)
      ∙ ap (changed_if (nat_eq n m) change) (h.rows n)
      ∙ sym (told n);
  count = length-with_state t m state ∙ h.count ∙ sym count;
}

-- the sessions are the same
left : (t u : Tables) (T : Trace) (a : Action) → u.sessions ≡ t.sessions → KeepsSessions t T → ((n : ℕ) → session (a ∷ T) n ≡ session T n) → sessions (a ∷ T) ≡ sessions T
    → KeepsSessions u (a ∷ T)
left t u T a same h told count = record { rows = λ n. session_in-same t u same n ∙ h.rows n ∙ sym (told n); count = ap (λ (rows : List SessionRow). length rows) same ∙ h.count ∙ sym count }

pub keeps_sessions_after : (P Q : PlainPolicy) (t : Tables) (T : Trace) (a : Action) → t.tick ≡ tick_of T → IsLegal P T a → KeepsSessions t T → KeepsSessions (applied Q a t) (a ∷ T)
keeps_sessions_after P Q t T (subject name) now legal h = left t (applied Q (subject name) t) T (subject name) refl h (λ n. refl) refl
keeps_sessions_after P Q t T (object name) now legal h = left t (applied Q (object name) t) T (object name) refl h (λ n. refl) refl
keeps_sessions_after P Q t T (write side name attr v) now legal h =
    left t (applied Q (write side name attr v) t) T (write side name attr v) (by_option (λ u. u.sessions) t (λ cell. with_cell t cell v) (cell_of Q t side name attr) (λ cell. refl)) h (λ n. refl) refl
keeps_sessions_after P Q t T (env name v) now legal h =
    left t (applied Q (env name v) t) T (env name v) (by_option (λ u. u.sessions) t (λ place. with_variable t place v) (env_position Q name) (λ place. refl)) h (λ n. refl) refl
keeps_sessions_after P Q t T (tick to) now legal h = left t (applied Q (tick to) t) T (tick to) refl h (λ n. refl) refl
keeps_sessions_after P Q t T (act s a o) now legal h = left t (applied Q (act s a o) t) T (act s a o) refl h (λ n. refl) refl
keeps_sessions_after P Q t T (wait n label) now legal h = left t t T (wait n label) refl h (λ n. refl) refl
keeps_sessions_after P Q t T (tries m caller s r o) now legal h = record {
  rows = λ n. session_in-with_new_session t m (tried caller s r o) n (legal.0 ∙ ap (λ n. n + 1) (sym h.count)) ∙ ap (cond (nat_eq n m) (Some (tried caller s r o))) (h.rows n);
  count = length_push t.sessions _ ∙ ap (λ n. n + 1) h.count;
}
keeps_sessions_after P Q t T (permit m) now legal h =
    moved t T (permit m) m Accessing (λ row. record row { state = Accessing; start = tick_of T }) h (λ row. rw now refl) (λ n. refl) refl
keeps_sessions_after P Q t T (deny m label) now legal h = moved t T (deny m label) m Denied (λ row. record row { state = Denied }) h (λ row. refl) (λ n. refl) refl
keeps_sessions_after P Q t T (ends m) now legal h = moved t T (ends m) m Ended (λ row. record row { state = Ended }) h (λ row. refl) (λ n. refl) refl
keeps_sessions_after P Q t T (revoke m label) now legal h = moved t T (revoke m label) m Revoked (λ row. record row { state = Revoked }) h (λ row. refl) (λ n. refl) refl
keeps_sessions_after P Q t T (amend text R) now legal h = left t (applied Q (amend text R) t) T (amend text R) refl h (λ n. refl) refl
