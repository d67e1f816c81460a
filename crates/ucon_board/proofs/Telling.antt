-- What own actions and a cascade make of a session's state is what the reply says last of it.
use Rattle.std.proofs.Common.{◌≡◌, ◌∙◌, ◌⊎◌, inl, inr, ℕ, zero, suc, ◌+◌, ◌==◌, Bool, true, false, cond, List, [], ◌∷◌, ◌++◌, map, refl, sym, ap, subst, if◌then◌else◌}
use Rattle.std.specs.Prelude.{◌≢◌, ◌&&◌, not, nat_eq, nat_le, int_lt, pos, Option, Some, None, is_none, is_some, option_map, ⊤}
use Rattle.std.specs.Option.{option_map_or, option_or}
use Rattle.std.proofs.lemmas.Bool.{eq-eqb, ne_eqb}
use Rattle.std.proofs.lemmas.Bool.Decides.{eqb_tells}
use Rattle.ucon_base.specs.declared.value.Side.{Side}
use Rattle.ucon_base.specs.declared.value.Side.TheVariants as sides
use Rattle.ucon_base.specs.Admits.{admits}
use Rattle.ucon_model.specs.declared.command.Caller.{Caller}
use Rattle.ucon_model.specs.declared.command.Command.{Command}
use Rattle.ucon_model.specs.declared.command.Command.TheVariants.{Subject, Object, Set, Env, Tick, Act, Try, Again, Beat, End, Look, Value as Value', Amend}
use Rattle.ucon_model.specs.declared.policy.When.{When}
use Rattle.ucon_model.specs.declared.policy.When.TheVariants.{Before, During, AfterEnd, AfterRevoke}
use Rattle.ucon_model.specs.declared.reply.Head.TheVariants as heads
use Rattle.ucon_model.specs.declared.reply.Refusal.{Refusal}
use Rattle.ucon_model.specs.declared.reply.Refusal.TheVariants.{NoSession}
use Rattle.ucon_model.specs.declared.session.SessionRow.{SessionRow}
use Rattle.ucon_model.specs.declared.session.SessionState.{SessionState}
use Rattle.ucon_model.specs.declared.session.SessionState.TheVariants.{Requesting, Denied, Accessing, Revoked as RevokedState, Ended}
use Rattle.ucon_model.specs.declared.session.Verdict.{Verdict}
use Rattle.ucon_model.specs.declared.session.Verdict.TheVariants.{Permit, Deny, Wait}
use Rattle.ucon_model.specs.Plain.{Bytes, PlainPolicy, PlainUpdate, status}
use Rattle.ucon_model.specs.Action.{Action, Trace, write, env, tick, act, tries, wait, permit, deny, ends, revoke, amend, extended, followed_by}
use Rattle.ucon_model.specs.Block.{after, reply, own_block, own_reply}
use Rattle.ucon_model.specs.History.{History, trace_from}
use Rattle.ucon_model.specs.Readings.{in_force, session, sessions, has_entity, entities, attribute, declared_attr, declared_env, moment, acts, accessing, tick_of, is_accessing, changed_if}
use Rattle.ucon_model.specs.Decision.{right_named}
use Rattle.ucon_model.specs.Updates.{session_writes, writes, write_of, same_when, updates_of}
use Rattle.ucon_model.specs.OwnActions.{Own, refuse, tell, make, after_action, by_verdict, decide, is_admin, new_entity, add_entity, names_act, with_own, is_requesting, lacks_right, with_usage, end_usage, own}
use Rattle.ucon_model.specs.Settle.{fails_at, least_from, least_failing, revocation, revoked_in, settle, settle_within}
use Rattle.ucon_model.specs.MayFollow.{changed_kind}
use Rattle.ucon_board.specs.Board.{Naming, all_namings, last_state, named_by, namings, revocation as naming_of}
use Rattle.ucon_board.specs.States.{look_reply, replies_behind, state_after}

-- ---- what was said last

or_assoc : {A : Type 0} (a b c : Option A) → option_or (option_or a b) c ≡ option_or a (option_or b c)
or_assoc None b c = refl
or_assoc (Some x) b c = refl

or_none : {A : Type 0} (a : Option A) → option_or a None ≡ a
or_none None = refl
or_none (Some x) = refl

last_append : (xs ys : List Naming) (n : ℕ) → last_state (xs ++ ys) n ≡ option_or (last_state ys n) (last_state xs n)
last_append [] ys n = sym (or_none (last_state ys n))
last_append (x ∷ xs) ys n = ap (λ o. option_or o (if x.0 == n then Some x.1 else None)) (last_append xs ys n) ∙ or_assoc (last_state ys n) (last_state xs n) (if x.0 == n then Some x.1 else None)

-- what is said last, behind what was before
abbrev told_else : List Naming → ℕ → Option SessionState → Option SessionState
told_else said n old = option_or (last_state said n) old

told_more : (xs ys : List Naming) (n : ℕ) (old : Option SessionState) → told_else (xs ++ ys) n old ≡ told_else ys n (told_else xs n old)
told_more xs ys n old = ap (λ o. option_or o old) (last_append xs ys n) ∙ or_assoc (last_state ys n) (last_state xs n) old

-- one session is named
named_here : (m : ℕ) (s : SessionState) (n : ℕ) (old : Option SessionState) → n ≡ m → told_else ((m, s) ∷ []) n old ≡ Some s
named_here m s n old same = rw (eq-eqb m n (sym same)) refl

named_other : (m : ℕ) (s : SessionState) (n : ℕ) (old : Option SessionState) → n ≢ m → told_else ((m, s) ∷ []) n old ≡ old
named_other m s n old other = rw (ne_eqb m n (λ e. other (sym e))) refl

-- these two say how actions follow each other, and that the writes of updates leave each session
module _ (extended-append : (T : Trace) (xs ys : List Action) → extended T (xs ++ ys) ≡ extended (extended T xs) ys)
    (session-writes : (P : PlainPolicy) (row : SessionRow) (when : When) (us : List PlainUpdate) (n : ℕ) (T : Trace)
    → session (extended T (writes P row when us T)) n ≡ session T n) where
  session-of_row : (P Q : PlainPolicy) (when : When) (T : Trace) (n : ℕ) (o : Option SessionRow)
      → session (extended T (option_map_or (λ row. writes P row when (updates_of Q row) T) o [])) n ≡ session T n
  session-of_row P Q when T n None = refl
  session-of_row P Q when T n (Some row) = session-writes P row when (updates_of Q row) n T

  session-session_writes : (P : PlainPolicy) (m : ℕ) (when : When) (T : Trace) (n : ℕ)
      → session (extended T (session_writes P m when T)) n ≡ session T n
  session-session_writes P m when T n = session-of_row P (in_force P T) when T n (session T m)

  -- ---- one action that gives a session a state

  abbrev with_state : Option SessionRow → SessionState → Type 0
  with_state o s = option_map (λ row. row.state) o ≡ Some s

  given_state : (b : Bool) (f : SessionRow → SessionRow) (o : Option SessionRow) (row : SessionRow) (s : SessionState)
      → ((row : SessionRow) → (f row).state ≡ s) → o ≡ Some row → b ≡ true → with_state (changed_if b f o) s
  given_state b f o row s is there here = rw (here, there) (ap Some (is row))

  other_state : (b : Bool) (f : SessionRow → SessionRow) (o : Option SessionRow) → b ≡ false → changed_if b f o ≡ o
  other_state b f o apart = rw apart refl

  -- a session that is there
  record IsThere (T : Trace) (n : ℕ) : Type 0 where
    row : SessionRow
    is : session T n ≡ Some row

  -- the states after an action that gives session m a state, where it leaves the others
  record Gives (m : ℕ) (s : SessionState) (U V : Trace) : Type 0 where
    here : state_after V m ≡ Some s
    others : (n : ℕ) → n ≢ m → state_after V n ≡ state_after U n

  said_by : (m : ℕ) (s : SessionState) (U V : Trace) (n : ℕ) (X : Option SessionState) → Gives m s U V → (n ≢ m → X ≡ state_after U n)
      → told_else ((m, s) ∷ []) n X ≡ state_after V n
  said_by m s U V n X g old = by (eqb_tells n m)
    where
      by : ((nat_eq n m ≡ true) × (n ≡ m)) ⊎ ((nat_eq n m ≡ false) × (n ≢ m)) → told_else ((m, s) ∷ []) n X ≡ state_after V n
      by (inl same) = named_here m s n X same.1 ∙ sym (ap (state_after V) same.1 ∙ g.here)
      by (inr apart) = named_other m s n X apart.1 ∙ old apart.1 ∙ sym (g.others n apart.1)

  gives_permit : (T : Trace) (m : ℕ) → IsThere T m → Gives m Accessing T (permit m ∷ T)
  gives_permit T m w = record {
    here = given_state (nat_eq m m) _ (session T m) w.row Accessing (λ row. refl) w.is (eq-eqb m m refl);
    others = λ n apart. ap (option_map (λ row. row.state)) (other_state (nat_eq n m) _ (session T n) (ne_eqb n m apart));
  }

  gives_deny : (T : Trace) (m : ℕ) (l : Bytes) → IsThere T m → Gives m Denied T (deny m l ∷ T)
  gives_deny T m l w = record {
    here = given_state (nat_eq m m) _ (session T m) w.row Denied (λ row. refl) w.is (eq-eqb m m refl);
    others = λ n apart. ap (option_map (λ row. row.state)) (other_state (nat_eq n m) _ (session T n) (ne_eqb n m apart));
  }

  gives_end : (T : Trace) (m : ℕ) → IsThere T m → Gives m Ended T (ends m ∷ T)
  gives_end T m w = record {
    here = given_state (nat_eq m m) _ (session T m) w.row Ended (λ row. refl) w.is (eq-eqb m m refl);
    others = λ n apart. ap (option_map (λ row. row.state)) (other_state (nat_eq n m) _ (session T n) (ne_eqb n m apart));
  }

  gives_revoke : (T : Trace) (m : ℕ) (l : Bytes) → IsThere T m → Gives m RevokedState T (revoke m l ∷ T)
  gives_revoke T m l w = record {
    here = given_state (nat_eq m m) _ (session T m) w.row RevokedState (λ row. refl) w.is (eq-eqb m m refl);
    others = λ n apart. ap (option_map (λ row. row.state)) (other_state (nat_eq n m) _ (session T n) (ne_eqb n m apart));
  }

  -- a session that waits stays requesting
  gives_wait : (T : Trace) (m : ℕ) (l : Bytes) → state_after T m ≡ Some Requesting → Gives m Requesting T (wait m l ∷ T)
  gives_wait T m l is = record { here = is; others = λ n apart. refl }

  -- where what goes before leaves all states
  gives_from : (m : ℕ) (s : SessionState) (T U V : Trace) → ((n : ℕ) → session U n ≡ session T n) → Gives m s U V → Gives m s T V
  gives_from m s T U V same g = record { here = g.here; others = λ n apart. g.others n apart ∙ ap (option_map (λ row. row.state)) (same n) }

  gives_then : (m : ℕ) (s : SessionState) (T U V : Trace) → ((n : ℕ) → session V n ≡ session U n) → Gives m s T U → Gives m s T V
  gives_then m s T U V same g = record {
    here = ap (option_map (λ row. row.state)) (same m) ∙ g.here;
    others = λ n apart. ap (option_map (λ row. row.state)) (same n) ∙ g.others n apart;
  }

  -- ---- all own actions: what was before, as a list of states, may differ from the trace's where the head tells anyway

  Told : (ℕ → Option SessionState) → Trace → Own → Type 0
  Told X T (refuse r) = ⊤
  Told X T (tell reply) = namings reply ≡ []
  Told X T (make head actions) = (n : ℕ) → told_else (named_by head) n (X n) ≡ state_after (extended T actions) n

  unless : (X : ℕ → Option SessionState) (T : Trace) (b : Bool) (r : Refusal) (o : Own) → (b ≡ false → Told X T o) → Told X T (cond b (refuse r) o)
  unfolding Told
  unless X T true r o h = tt
  unless X T false r o h = h refl

  given : (X : ℕ → Option SessionState) (T : Trace) (b : Bool) (o : Own) (r : Refusal) → Told X T o → Told X T (cond b o (refuse r))
  unfolding Told
  given X T true o r h = h
  given X T false o r h = tt

  found : {A : Type 0} (X : ℕ → Option SessionState) (T : Trace) (f : A → Own) (o : Option A) (r : Refusal) → ((x : A) → o ≡ Some x → Told X T (f x)) → Told X T (option_map_or f o (refuse r))
  unfolding Told
  found X T f None r h = tt
  found X T f (Some x) r h = h x refl

  lone : (T : Trace) (a : Action) → ((n : ℕ) → session (a ∷ T) n ≡ session T n) → Told (state_after T) T (make heads.Ok (a ∷ []))
  unfolding Told
  lone T a same = λ n. ap (option_map (λ row. row.state)) (sym (same n))

  behind : (X : ℕ → Option SessionState) (T : Trace) (a : Action) (o : Own) → Told X (a ∷ T) o → Told X T (after_action a o)
  unfolding Told
  behind X T a (refuse r) h = tt
  behind X T a (tell reply) h = h
  behind X T a (make head actions) h = h

  decided : (X : ℕ → Option SessionState) (P : PlainPolicy) (T : Trace) (n : ℕ) (v : Verdict) → IsThere T n → state_after T n ≡ Some Requesting
      → ((k : ℕ) → k ≢ n → X k ≡ state_after T k) → Told X T (by_verdict P T n v)
  unfolding Told
  decided X P T n Permit w waits old = λ k.
      let U : Trace = extended T (session_writes P n Before T) in
      let kept = session-session_writes P n Before T in
      let there : IsThere U n = record { row = w.row; is = kept n ∙ w.is } in
      said_by n Accessing T (permit n ∷ U) k (X k) (gives_from n Accessing T U (permit n ∷ U) kept (gives_permit U n there)) (old k)
      ∙ ap (λ (V : Trace). state_after V k) (sym (extended-append T (session_writes P n Before T) (permit n ∷ [])))
  decided X P T n (Deny label) w waits old = λ k. said_by n Denied T (deny n label ∷ T) k (X k) (gives_deny T n label w) (old k)
  decided X P T n (Wait label) w waits old = λ k. said_by n Requesting T (wait n label ∷ T) k (X k) (gives_wait T n label waits) (old k)

  new_stays : (T : Trace) (side : Side) (name : Bytes) (n : ℕ) → session (new_entity side name ∷ T) n ≡ session T n
  new_stays T sides.Subject name n = refl
  new_stays T sides.Object name n = refl

  added : (T : Trace) (caller : Caller) (side : Side) (name : Bytes) → Told (state_after T) T (add_entity T caller side name)
  added T caller side name =
      unless _ T (not (is_admin caller)) _ _ (λ a. unless _ T (has_entity side name T) _ _ (λ b. unless _ T (nat_le 16384 (entities side T)) _ _ (λ d. lone T (new_entity side name) (new_stays T side name))))

  owned : (T : Trace) (caller : Caller) (n : ℕ) (f : SessionRow → Own) → ((row : SessionRow) → session T n ≡ Some row → Told (state_after T) T (f row)) → Told (state_after T) T (with_own T caller n f)
  owned T caller n f h = found _ T _ (session T n) _ (λ row is. given _ T (nat_eq row.caller.0 caller.0) (f row) _ (h row is))

  used : (T : Trace) (caller : Caller) (n : ℕ) (o : Own) → ((row : SessionRow) → session T n ≡ Some row → Told (state_after T) T o) → Told (state_after T) T (with_usage T caller n o)
  used T caller n o h = owned T caller n _ (λ row is. unless _ T (not (is_accessing (session T n))) _ o (λ b. h row is))

  beaten : (P : PlainPolicy) (T : Trace) (m : ℕ) → Told (state_after T) T (make heads.Ok (session_writes P m During T))
  unfolding Told
  beaten P T m = λ n. ap (option_map (λ row. row.state)) (sym (session-session_writes P m During T n))

  ended_told : (P : PlainPolicy) (T : Trace) (n : ℕ) (row : SessionRow) → session T n ≡ Some row → Told (state_after T) T (end_usage P T n)
  unfolding Told
  ended_told P T n row is = λ k.
      let U : Trace = ends n ∷ T in
      said_by n Ended T (extended U (session_writes P n AfterEnd U)) k (state_after T k)
      (gives_then n Ended T U (extended U (session_writes P n AfterEnd U)) (session-session_writes P n AfterEnd U) (gives_end T n (record { row = row; is = is }))) (λ apart. refl)

  requested : (T : Trace) (caller : Caller) (s r o : Bytes) (k : ℕ) → IsThere (tries k caller s r o ∷ T) k
  requested T caller s r o k = record {
    row = record { caller = caller; right = r; subject = s; object = o; state = Requesting; start = pos 0 };
    is = rw (eq-eqb k k refl) refl;
  }

  others_before : (T : Trace) (caller : Caller) (s r o : Bytes) (k n : ℕ) → n ≢ k → state_after T n ≡ state_after (tries k caller s r o ∷ T) n
  others_before T caller s r o k n apart = rw (ne_eqb n k apart) refl

  tried : (P : PlainPolicy) (T : Trace) (caller : Caller) (s r o : Bytes)
      → Told (state_after T) T (after_action (tries (sessions T + 1) caller s r o) (decide P (tries (sessions T + 1) caller s r o ∷ T) (sessions T + 1)))
  unfolding requested
  tried P T caller s r o =
      let k = sessions T + 1 in
      let there = requested T caller s r o k in
      behind _ T (tries k caller s r o) _
      (decided _ P (tries k caller s r o ∷ T) k _ there (ap (option_map (λ row. row.state)) there.is) (others_before T caller s r o k))

  requesting_state : (state : SessionState) → not (is_requesting state) ≡ false → state ≡ Requesting
  requesting_state Requesting h = refl
  requesting_state Denied h = absurd cc
  requesting_state Accessing h = absurd cc
  requesting_state RevokedState h = absurd cc
  requesting_state Ended h = absurd cc

  told : (P : PlainPolicy) (T : Trace) (caller : Caller) (c : Command) → Told (state_after T) T (own P T caller c)
  unfolding Told
  told P T caller (Subject name) = added T caller sides.Subject name
  told P T caller (Object name) = added T caller sides.Object name
  told P T caller (Set side name attr v) =
      unless _ T (not (is_admin caller)) _ _ (λ a. unless _ T (not (has_entity side name T)) _ _ (λ b.
      found _ T _ (declared_attr (in_force P T).attrs side attr) _ (λ d is. given _ T (admits d.kind v) _ _ (lone T (write side name attr v) (λ n. refl)))))
  told P T caller (Env name v) =
      unless _ T (not (is_admin caller)) _ _ (λ a. found _ T _ (declared_env (in_force P T).envs name) _ (λ d is. given _ T (admits d.kind v) _ _ (lone T (env name v) (λ n. refl))))
  told P T caller (Tick t) = unless _ T (not (is_admin caller)) _ _ (λ a. unless _ T (int_lt t (tick_of T)) _ _ (λ b. lone T (tick t) (λ n. refl)))
  told P T caller (Act s a o) =
      unless _ T (not (has_entity sides.Subject s T)) _ _ (λ u. unless _ T (not (has_entity sides.Object o T)) _ _ (λ v. unless _ T (not (names_act (in_force P T).rights a)) _ _ (λ w.
      unless _ T (is_none (moment s a o T) && nat_le 1048576 (acts T)) _ _ (λ x. lone T (act s a o) (λ n. refl)))))
  told P T caller (Try s r o) =
      unless _ T (is_none (right_named (in_force P T).rights r)) _ _ (λ u. unless _ T (not (has_entity sides.Subject s T)) _ _ (λ v. unless _ T (not (has_entity sides.Object o T)) _ _ (λ w.
      unless _ T (nat_le 1048576 (sessions T)) _ _ (λ x. unless _ T (nat_le 65536 (accessing T)) _ _ (λ y. tried P T caller s r o)))))
  told P T caller (Again n) =
      unless _ T (lacks_right P T n) _ _ (λ granted. owned T caller n _ (λ row is.
      unless _ T (not (is_requesting row.state)) _ _ (λ requesting. unless _ T (nat_le 65536 (accessing T)) _ _ (λ few.
      decided _ P T n _ (record { row = row; is = is }) (ap (option_map (λ r. r.state)) is ∙ ap Some (requesting_state row.state requesting)) (λ k apart. refl)))))
  told P T caller (Beat n) = used T caller n _ (λ row is. beaten P T n)
  told P T caller (End n) = used T caller n _ (ended_told P T n)
  told P T caller (Look n) = found _ T _ (session T n) _ (λ row is. refl)
  told P T caller (Value' side name attr) = unless _ T (not (has_entity side name T)) _ _ (λ u. found _ T _ (attribute P T side name attr) _ (λ v is. refl))
  told P T caller (Amend a) =
      unless _ T (not (is_admin caller)) _ _ (λ u. unless _ T (is_some (changed_kind (in_force P T) a.policy)) _ _ (λ v. lone T (amend a.text a.policy) (λ n. refl)))

  -- ---- the cascade

  write_first : (P : PlainPolicy) (row : SessionRow) (when : When) (u : PlainUpdate) (us : List PlainUpdate) (T : Trace) (later : List Action) (b : Bool)
      → ((T : Trace) → revoked_in (writes P row when us T ++ later) ≡ revoked_in later)
      → revoked_in (cond b (followed_by (write_of P row u T ∷ []) (writes P row when us) T) (writes P row when us T) ++ later) ≡ revoked_in later
  write_first P row when u us T later true rest = rest (write_of P row u T ∷ T)
  write_first P row when u us T later false rest = rest T

  revoked_in-writes : (P : PlainPolicy) (row : SessionRow) (when : When) (us : List PlainUpdate) (later : List Action) (T : Trace)
      → revoked_in (writes P row when us T ++ later) ≡ revoked_in later
  revoked_in-writes P row when [] later T = refl
  revoked_in-writes P row when (u ∷ us) later T =
      write_first P row when u us T later (same_when when u.when) (revoked_in-writes P row when us later)

  revoked_in-writes_of : (P Q : PlainPolicy) (when : When) (T : Trace) (later : List Action) (o : Option SessionRow)
      → revoked_in (option_map_or (λ row. writes P row when (updates_of Q row) T) o [] ++ later) ≡ revoked_in later
  revoked_in-writes_of P Q when T later None = refl
  revoked_in-writes_of P Q when T later (Some row) = revoked_in-writes P row when (updates_of Q row) later T

  revoked_first : (P : PlainPolicy) (T : Trace) (f : ℕ × Bytes) (later : List Action)
      → revoked_in (revocation P T f ++ later) ≡ record { session = f.0; label = f.1 } ∷ revoked_in later
  revoked_first P T f later =
      let U : Trace = revoke f.0 f.1 ∷ T in
      ap (λ rs. record { session = f.0; label = f.1 } ∷ rs) (revoked_in-writes_of P (in_force P U) AfterRevoke U later (session U f.0))

  -- whoever fails is there
  there_by : (b : Bool) (o : Option Bytes) (label : Bytes) → cond b o None ≡ Some label → b ≡ true
  there_by true o label h = refl
  there_by false o label h = absurd cc

  accessing_there : (o : Option SessionRow) → is_accessing o ≡ true → (row : SessionRow) × (o ≡ Some row)
  accessing_there None h = absurd cc
  accessing_there (Some row) h = (row, refl)

  fails_there : (P : PlainPolicy) (T : Trace) (n : ℕ) (label : Bytes) → fails_at P T n ≡ Some label → IsThere T n
  fails_there P T n label h =
      let w = accessing_there (session T n) (there_by (is_accessing (session T n)) _ label h) in record { row = w.0; is = w.1 }

  least_by : (P : PlainPolicy) (T : Trace) (k a : ℕ) (f : ℕ × Bytes) (o : Option Bytes) → fails_at P T a ≡ o
      → (least_from P T (a + 1) k ≡ Some f → IsThere T f.0)
      → option_map_or (λ label. Some (a, label)) o (least_from P T (a + 1) k) ≡ Some f → IsThere T f.0
  least_by P T k a f None is rest h = rest h
  least_by P T k a f (Some label) is rest h =
      let pair : ℕ × Bytes = (a, label) in
      let same : pair ≡ f = cc in
      subst (λ (g : ℕ × Bytes). IsThere T g.0) same (fails_there P T a label is)

  least_there : (P : PlainPolicy) (T : Trace) (k a : ℕ) (f : ℕ × Bytes) → least_from P T a k ≡ Some f → IsThere T f.0
  least_there P T zero a f h = absurd cc
  least_there P T (suc k) a f h = least_by P T k a f (fails_at P T a) refl (least_there P T k (a + 1) f) h

  gives_revocation : (P : PlainPolicy) (T : Trace) (f : ℕ × Bytes) → IsThere T f.0 → Gives f.0 RevokedState T (extended T (revocation P T f))
  gives_revocation P T f w =
      let U : Trace = revoke f.0 f.1 ∷ T in
      gives_then f.0 RevokedState T U (extended U (session_writes P f.0 AfterRevoke U)) (session-session_writes P f.0 AfterRevoke U) (gives_revoke T f.0 f.1 w)

  abbrev SaysAll : ℕ → PlainPolicy → Trace → ℕ → Type 0
  SaysAll k P T n = told_else (map naming_of (revoked_in (settle_within k P T))) n (state_after T n) ≡ state_after (extended T (settle_within k P T)) n

  turn_says : (k : ℕ) (P : PlainPolicy) (T : Trace) (n : ℕ) (o : Option (ℕ × Bytes)) → least_failing P T ≡ o → ((U : Trace) → SaysAll k P U n)
      → told_else (map naming_of (revoked_in (option_map_or (λ f. followed_by (revocation P T f) (settle_within k P) T) o []))) n (state_after T n)
      ≡ state_after (extended T (option_map_or (λ f. followed_by (revocation P T f) (settle_within k P) T) o [])) n
  turn_says k P T n None is rest = refl
  turn_says k P T n (Some f) is rest =
      let U : Trace = extended T (revocation P T f) in
      let later = settle_within k P U in
      let first : List Naming = (f.0, RevokedState) ∷ [] in
      let there = least_there P T (sessions T) 1 f is in
      ap (λ rs. told_else (map naming_of rs) n (state_after T n)) (revoked_first P T f later)
      ∙ (told_more first (map naming_of (revoked_in later)) n (state_after T n)
      ∙ (ap (told_else (map naming_of (revoked_in later)) n) (said_by f.0 RevokedState T U n (state_after T n) (gives_revocation P T f there) (λ apart. refl))
      ∙ (rest U
      ∙ ap (λ (V : Trace). state_after V n) (sym (extended-append T (revocation P T f) later)))))

  settle_says : (k : ℕ) (P : PlainPolicy) (T : Trace) (n : ℕ) → SaysAll k P T n
  settle_says zero P T n = refl
  settle_says (suc k) P T n = turn_says k P T n (least_failing P T) refl (λ U. settle_says k P U n)

  -- ---- a command, and entries

  own_says : (P : PlainPolicy) (T : Trace) (n : ℕ) (o : Own) → Told (state_after T) T o
      → told_else (namings (own_reply P T o)) n (state_after T n) ≡ state_after (extended T (own_block P T o)) n
  unfolding Told
  own_says P T n (refuse r) h = refl
  own_says P T n (tell reply) h = ap (λ l. told_else l n (state_after T n)) h
  own_says P T n (make head actions) h =
      let U : Trace = extended T actions in
      let cascade = settle P U in
      told_more (named_by head) (map naming_of (revoked_in cascade)) n (state_after T n)
      ∙ (ap (told_else (map naming_of (revoked_in cascade)) n) (h n)
      ∙ (settle_says (accessing U) P U n
      ∙ ap (λ (V : Trace). state_after V n) (sym (extended-append T actions cascade))))

  pub one_says : (P : PlainPolicy) (T : Trace) (caller : Caller) (c : Command) (n : ℕ)
      → option_or (last_state (namings (reply P T caller c)) n) (state_after T n) ≡ state_after (after P T caller c) n
  one_says P T caller c n = own_says P T n (own P T caller c) (told P T caller c)

  pub all_say : (P : PlainPolicy) (T : Trace) (H : History) (n : ℕ)
      → option_or (last_state (all_namings (replies_behind P T H)) n) (state_after T n) ≡ state_after (trace_from P T H) n
  all_say P T [] n = refl
  all_say P T (e ∷ H) n =
      let U : Trace = after P T e.caller e.command in
      told_more (namings (reply P T e.caller e.command)) (all_namings (replies_behind P U H)) n (state_after T n)
      ∙ (ap (told_else (all_namings (replies_behind P U H)) n) (one_says P T e.caller e.command n)
      ∙ all_say P U H n)

-- ---- a look

looked : (P : PlainPolicy) (T : Trace) (n : ℕ) (o : Option SessionRow)
    → own_reply P T (option_map_or (λ row. tell (status n row.state)) o (refuse NoSession)) ≡ look_reply n (option_map (λ row. row.state) o)
looked P T n None = refl
looked P T n (Some row) = refl

pub look_says : (P : PlainPolicy) (T : Trace) (caller : Caller) (n : ℕ) → reply P T caller (Look n) ≡ look_reply n (state_after T n)
look_says P T caller n = looked P T n (session T n)
