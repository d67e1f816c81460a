-- Who is in the work after a command's own actions is touched by them.
use Rattle.std.proofs.Common.{◌≡◌, ◌⊎◌, inl, inr, ℕ, ◌+◌, ◌≤◌, Bool, true, false, cond, List, [], ◌∷◌, ◌++◌, refl, sym, ap, subst, ◌∙◌, arith}
use Rattle.std.specs.Prelude.{◌&&◌, ◌||◌, not, nat_eq, nat_le, int_lt, Option, Some, None, is_none, is_some}
use Rattle.std.specs.Option.{option_map_or}
use Rattle.std.specs.List.{list_any}
use Rattle.std.proofs.Math.Bool.{or-false}
use Rattle.std.proofs.lemmas.Bool.{cases_Bool, or_from}
use Rattle.std.proofs.lemmas.List.Folds.{list_any-append}
use Rattle.ucon_base.specs.declared.value.Side.TheVariants as sides
use Rattle.ucon_base.specs.Admits.{admits}
use Rattle.ucon_model.specs.declared.command.Caller.{Caller}
use Rattle.ucon_model.specs.declared.command.Command.{Command}
use Rattle.ucon_model.specs.declared.command.Command.TheVariants.{Subject, Object, Set, Env, Tick, Act, Try, Again, Beat, End, Look, Value as Value', Amend}
use Rattle.ucon_model.specs.declared.policy.When.TheVariants.{Before, During, AfterEnd}
use Rattle.ucon_model.specs.declared.reply.Head.{Head}
use Rattle.ucon_model.specs.declared.reply.Head.TheVariants as heads
use Rattle.ucon_model.specs.declared.session.SessionRow.{SessionRow}
use Rattle.ucon_model.specs.declared.session.Verdict.{Verdict}
use Rattle.ucon_model.specs.declared.session.Verdict.TheVariants.{Permit, Deny, Wait}
use Rattle.ucon_model.specs.Plain.{Bytes, PlainPolicy}
use Rattle.ucon_model.specs.Action.{Action, Trace, write, env, tick, tries, permit, ends, extended}
use Rattle.ucon_model.specs.Readings.{in_force, tick_of, has_entity, entities, attribute, declared_attr, declared_env, moment, session, sessions, is_accessing, accessing, acts}
use Rattle.ucon_model.specs.Truth.{readings}
use Rattle.ucon_model.specs.Decision.{right_named, verdict}
use Rattle.ucon_model.specs.Updates.{session_writes}
use Rattle.ucon_model.specs.OwnActions.{make, by_verdict, decide, is_admin, names_act, lacks_right, is_requesting, end_usage, own}
use Rattle.ucon_model.specs.Reach.{timed_of, Location, attribute_of, variable_of, permits, reads_at, readers, session_targets}
use Rattle.ucon_model.specs.MayFollow.{changed_kind}
use Rattle.ucon_model.specs.Deadlines.{limit_of, passes, deadlines, has_between}
use Rattle.ucon_model.specs.Work.{Work, nobody, everybody, only, joined, own_work}
use Rattle.ucon_model.specs.Touches.{touches, touches_row, touches_by}
use Rattle.ucon_model.proofs.Extending.{session-session_writes}
use Rattle.ucon_model.proofs.Frames.{in_force-step, still_on}
use Rattle.ucon_model.proofs.Readers.{session_targets-end, permits-session_writes}
use Rattle.ucon_model.proofs.OwnMakes.{Makes, unless, given, found, behind, usage}
use Rattle.ucon_model.proofs.PassedDeadlines.{part_between, some_pass}
use Rattle.ucon_model.proofs.Touches.{touches_by-append, session_writes_touch, reads_same}

-- ---- one action

-- an accessing session whose row the action touches is touched
row_touched : (o : Option SessionRow) (reads : SessionRow → Bool) (times : SessionRow → ℕ) → ((row : SessionRow) → reads row ≡ true → 1 ≤ times row)
    → is_accessing o ≡ true → option_map_or reads o false ≡ true → 1 ≤ cond (is_accessing o) (option_map_or times o 0) 0 + 0
row_touched None reads times each on h = absurd cc
row_touched (Some row) reads times each on h = rw on (omega (arith, each row h))

-- an amendment touches each accessing session
each_touched : (o : Option SessionRow) → is_accessing o ≡ true → 1 ≤ cond (is_accessing o) (option_map_or (λ row. 1) o 0) 0 + 0
each_touched None on = absurd cc
each_touched (Some row) on = rw on (omega arith)

one_location : (Q : PlainPolicy) (row : SessionRow) (location : Location) → list_any (reads_at Q row) (location ∷ []) ≡ true → 1 ≤ cond (reads_at Q row location) 1 0
one_location Q row location h = let reads : reads_at Q row location ≡ true = sym (or-false (reads_at Q row location)) ∙ h in rw reads (omega arith)

-- ---- a permission

permit_touches : (P : PlainPolicy) (T V : Trace) (n m : ℕ) → in_force P V ≡ in_force P T → (is_accessing (session V m) ≡ true → session V m ≡ session T m)
    → is_accessing (session (extended V (session_writes P n Before V ++ permit n ∷ [])) m) ≡ true
    → joined (only n) (readers P T (session_targets P V n Before)) m ≡ true
    → 1 ≤ touches_by P V (session_writes P n Before V ++ permit n ∷ []) m
permit_touches P T V n m stays as_before on h = by_number (cases_Bool (nat_eq m n)) h
  where
    by_number : (nat_eq m n ≡ true) ⊎ (nat_eq m n ≡ false) → (nat_eq m n || readers P T (session_targets P V n Before) m) ≡ true
        → 1 ≤ touches_by P V (session_writes P n Before V ++ permit n ∷ []) m
    by_number (inl same) h =
        let ws : List Action = session_writes P n Before V in
        let one : touches P (extended V ws) (permit n) m ≡ 1 = rw same refl in
        omega (arith, touches_by-append P V ws (permit n ∷ []) m, one)
    by_number (inr other) h =
        let ws : List Action = session_writes P n Before V in
        let off : list_any (permits m) (ws ++ permit n ∷ []) ≡ false =
        list_any-append (permits m) ws (permit n ∷ []) ∙ or_from (list_any (permits m) ws) (list_any (permits m) (permit n ∷ [])) (permits-session_writes P m n Before V) (rw other refl) in
        let same : session (extended V (ws ++ permit n ∷ [])) m ≡ session V m = still_on V (ws ++ permit n ∷ []) m off on in
        let there : is_accessing (session V m) ≡ true = ap is_accessing (sym same) ∙ on in
        let reads : readers P T (session_targets P V n Before) m ≡ true = rw other at h in
        let reads_there : readers P V (session_targets P V n Before) m ≡ true = reads_same P T V (session_targets P V n Before) m stays (as_before there) ∙ reads in
        omega (
          arith,
          touches_by-append P V ws (permit n ∷ []) m,
          session_writes_touch P n Before V m there reads_there,
        )

-- ---- each command

-- who is accessing after the actions and in the work is touched by them
abbrev IsTouched : PlainPolicy → Trace → (Head → Work) → Head → List Action → Type 0
IsTouched P T work head actions = (n : ℕ) → is_accessing (session (extended T actions) n) ≡ true → work head n ≡ true → 1 ≤ touches_by P T actions n

by_verdict_touched : (P : PlainPolicy) (T V : Trace) (n : ℕ) (v : Verdict) (work : Head → Work) → in_force P V ≡ in_force P T
    → ((m : ℕ) → is_accessing (session V m) ≡ true → session V m ≡ session T m)
    → ((m : ℕ) → work (heads.Permitted n) m ≡ joined (only n) (readers P T (session_targets P V n Before)) m)
    → ((m : ℕ) (label : Bytes) → work (heads.Denied n label) m ≡ false) → ((m : ℕ) (label : Bytes) → work (heads.Waiting n label) m ≡ false)
    → Makes (IsTouched P V work) (by_verdict P V n v)
by_verdict_touched P T V n Permit work stays as_before permitted denied waiting = λ m on h. permit_touches P T V n m stays (as_before m) on (sym (permitted m) ∙ h)
by_verdict_touched P T V n (Deny label) work stays as_before permitted denied waiting = λ m on h. absurd (let none = denied m label in cc)
by_verdict_touched P T V n (Wait label) work stays as_before permitted denied waiting = λ m on h. absurd (let none = waiting m label in cc)

end_touched : (P : PlainPolicy) (T : Trace) (n m : ℕ) → is_accessing (session (extended T (ends n ∷ session_writes P n AfterEnd (ends n ∷ T))) m) ≡ true
    → readers P T (session_targets P T n AfterEnd) m ≡ true → 1 ≤ touches_by P T (ends n ∷ session_writes P n AfterEnd (ends n ∷ T)) m
end_touched P T n m on h =
    let V : Trace = ends n ∷ T in
    let on_there : is_accessing (session V m) ≡ true = ap is_accessing (sym (session-session_writes P n AfterEnd V m)) ∙ on in
    let same : session V m ≡ session T m = still_on T (ends n ∷ []) m refl on_there in
    let reads : readers P V (session_targets P V n AfterEnd) m ≡ true =
    reads_same P T V (session_targets P V n AfterEnd) m (in_force-step P T (ends n) refl) same
    ∙ ap (λ (locations : List Location). readers P T locations m) (session_targets-end P T n) ∙ h in
    omega (arith, session_writes_touch P n AfterEnd V m on_there reads)

beat_touched : (P : PlainPolicy) (T : Trace) (n m : ℕ) → is_accessing (session (extended T (session_writes P n During T)) m) ≡ true
    → readers P T (session_targets P T n During) m ≡ true → 1 ≤ touches_by P T (session_writes P n During T) m
beat_touched P T n m on h = session_writes_touch P n During T m (ap is_accessing (sym (session-session_writes P n During T m)) ∙ on) h

own_touched : (P : PlainPolicy) (T : Trace) (caller : Caller) (c : Command) → Makes (IsTouched P T (own_work P T caller c)) (own P T caller c)
own_touched P T caller (Subject name) =
    let Q : Head → List Action → Type 0 = IsTouched P T (λ head. nobody) in
    unless Q (not (is_admin caller)) _ _ (λ admin. unless Q (has_entity sides.Subject name T) _ _ (λ new. unless Q (nat_le 16384 (entities sides.Subject T)) _ _ (λ room.
    λ n on h. absurd cc)))
own_touched P T caller (Object name) =
    let Q : Head → List Action → Type 0 = IsTouched P T (λ head. nobody) in
    unless Q (not (is_admin caller)) _ _ (λ admin. unless Q (has_entity sides.Object name T) _ _ (λ new. unless Q (nat_le 16384 (entities sides.Object T)) _ _ (λ room.
    λ n on h. absurd cc)))
own_touched P T caller (Set side name attr v) =
    let Q : Head → List Action → Type 0 = IsTouched P T (own_work P T caller (Set side name attr v)) in
    let location : Location = attribute_of side name attr in
    unless Q (not (is_admin caller)) _ _ (λ admin. unless Q (not (has_entity side name T)) _ _ (λ there.
    found Q _ (declared_attr (in_force P T).attrs side attr) _ (λ d. given Q (admits d.kind v) _ _
    (λ n on h. row_touched (session T n) (λ row. list_any (reads_at (in_force P T) row) (location ∷ [])) (touches_row P T (write side name attr v)) (λ row. one_location (in_force P T) row location) on h))))
own_touched P T caller (Env name v) =
    let Q : Head → List Action → Type 0 = IsTouched P T (own_work P T caller (Env name v)) in
    let location : Location = variable_of name in
    unless Q (not (is_admin caller)) _ _ (λ admin. found Q _ (declared_env (in_force P T).envs name) _ (λ d. given Q (admits d.kind v) _ _
    (λ n on h. row_touched (session T n) (λ row. list_any (reads_at (in_force P T) row) (location ∷ [])) (touches_row P T (env name v)) (λ row. one_location (in_force P T) row location) on h)))
own_touched P T caller (Tick t) =
    let Q : Head → List Action → Type 0 = IsTouched P T (own_work P T caller (Tick t)) in
    unless Q (not (is_admin caller)) _ _ (λ admin. unless Q (int_lt t (tick_of T)) _ _ (λ later.
    λ n on h. row_touched (session T n) (λ row. list_any (λ part. passes (tick_of T) t (limit_of (readings P T) row part)) (timed_of (in_force P T) row)) (touches_row P T (tick t))
    (λ row. some_pass (λ part. passes (tick_of T) t (limit_of (readings P T) row part)) (λ part. has_between (tick_of T) t (deadlines T row part))
    (part_between P T t row) (timed_of (in_force P T) row)) on h))
own_touched P T caller (Act s a o) =
    let Q : Head → List Action → Type 0 = IsTouched P T (λ head. nobody) in
    unless Q (not (has_entity sides.Subject s T)) _ _ (λ subject. unless Q (not (has_entity sides.Object o T)) _ _ (λ object.
    unless Q (not (names_act (in_force P T).rights a)) _ _ (λ named. unless Q (is_none (moment s a o T) && nat_le 1048576 (acts T)) _ _ (λ room.
    λ n on h. absurd cc))))
own_touched P T caller (Try s r o) =
    let work : Head → Work = own_work P T caller (Try s r o) in
    let Q : Head → List Action → Type 0 = IsTouched P T work in
    let n : ℕ = sessions T + 1 in
    let a : Action = tries n caller s r o in
    unless Q (is_none (right_named (in_force P T).rights r)) _ _ (λ right. unless Q (not (has_entity sides.Subject s T)) _ _ (λ subject.
    unless Q (not (has_entity sides.Object o T)) _ _ (λ object. unless Q (nat_le 1048576 (sessions T)) _ _ (λ room.
    unless Q (nat_le 65536 (accessing T)) _ _ (λ seats.
    behind Q (IsTouched P (a ∷ T) work) a (decide P (a ∷ T) n) (λ head actions h m on there. omega (arith, h m on there))
    (by_verdict_touched P T (a ∷ T) n (verdict (in_force P (a ∷ T)) (readings P (a ∷ T)) n) work (in_force-step P T a refl) (λ m on. still_on T (a ∷ []) m refl on)
    (λ m. refl) (λ m label. refl) (λ m label. refl)))))))
own_touched P T caller (Again n) =
    let work : Head → Work = own_work P T caller (Again n) in
    let Q : Head → List Action → Type 0 = IsTouched P T work in
    unless Q (lacks_right P T n) _ _ (λ kept. found Q _ (session T n) _ (λ row. given Q (nat_eq row.caller.0 caller.0) _ _
    (unless Q (not (is_requesting row.state)) _ _ (λ requesting. unless Q (nat_le 65536 (accessing T)) _ _ (λ seats.
    by_verdict_touched P T T n (verdict (in_force P T) (readings P T) n) work refl (λ m on. refl) (λ m. refl) (λ m label. refl) (λ m label. refl))))))
own_touched P T caller (Beat n) =
    usage (IsTouched P T (own_work P T caller (Beat n))) T caller n (make heads.Ok (session_writes P n During T)) (beat_touched P T n)
own_touched P T caller (End n) = usage (IsTouched P T (own_work P T caller (End n))) T caller n (end_usage P T n) (end_touched P T n)
own_touched P T caller (Look n) = found (IsTouched P T (λ head. nobody)) _ (session T n) _ (λ row. tt)
own_touched P T caller (Value' side name attr) =
    let Q : Head → List Action → Type 0 = IsTouched P T (λ head. nobody) in
    unless Q (not (has_entity side name T)) _ _ (λ there. found Q _ (attribute P T side name attr) _ (λ v. tt))
own_touched P T caller (Amend a) =
    let Q : Head → List Action → Type 0 = IsTouched P T (λ head. everybody) in
    unless Q (not (is_admin caller)) _ _ (λ admin. unless Q (is_some (changed_kind (in_force P T) a.policy)) _ _ (λ same.
    λ n on h. each_touched (session T n) on))

-- who is accessing after a command's own actions and in the work that is read off it is touched by them
pub touched-own : (P : PlainPolicy) (T : Trace) (caller : Caller) (c : Command) (head : Head) (actions : List Action) → own P T caller c ≡ make head actions
    → (n : ℕ) → is_accessing (session (extended T actions) n) ≡ true → own_work P T caller c head n ≡ true → 1 ≤ touches_by P T actions n
touched-own P T caller c head actions e = subst (Makes (IsTouched P T (own_work P T caller c))) e (own_touched P T caller c)
