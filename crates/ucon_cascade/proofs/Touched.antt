-- Whom a command's own actions concern was touched by them.
use Rattle.std.proofs.Common.{◌≡◌, ◌≢◌, ◌∙◌, ◌≤◌, ◌+◌, inl, inr, ℕ, Bool, true, false, List, [], ◌∷◌, ◌++◌, filter, refl, sym, ap, subst}
use Rattle.std.specs.Prelude.{◌||◌, ◌&&◌, int_lt, not, nat_eq, nat_le, is_none, is_some, Option, Some, None}
use Rattle.std.specs.List.{list_any}
use Rattle.std.specs.Option.{option_map_or}
use Rattle.std.proofs.lemmas.Bool.Decides.{eqb_tells}
use Rattle.ucon_base.specs.Admits.{admits}
use Rattle.ucon_base.specs.declared.value.Side.TheVariants as sides
use Rattle.ucon_actions.specs.Gives.{is_amendment}
use Rattle.ucon_model.specs.declared.command.Caller.{Caller}
use Rattle.ucon_model.specs.declared.command.Command.{Command}
use Rattle.ucon_model.specs.declared.command.Command.TheVariants.{Subject, Object, Set, Env, Tick, Act, Try, Again, Beat, End, Look, Value as Value', Amend}
use Rattle.ucon_model.specs.declared.policy.When.{When}
use Rattle.ucon_model.specs.declared.policy.When.TheVariants.{Before, During, AfterEnd}
use Rattle.ucon_model.specs.declared.reply.Head.{Head}
use Rattle.ucon_model.specs.declared.reply.Head.TheVariants as heads
use Rattle.ucon_model.specs.declared.session.SessionRow.{SessionRow}
use Rattle.ucon_model.specs.declared.session.SessionState.TheVariants.{Accessing, Ended}
use Rattle.ucon_model.specs.declared.session.Verdict.{Verdict}
use Rattle.ucon_model.specs.declared.session.Verdict.TheVariants.{Permit, Deny, Wait}
use Rattle.ucon_model.specs.Action.{Action, Trace, ends, extended, permit, tries}
use Rattle.ucon_model.specs.Decision.{right_named, verdict}
use Rattle.ucon_model.specs.MayFollow.{changed_kind}
use Rattle.ucon_model.specs.OwnActions.{Own, by_verdict, decide, is_admin, is_requesting, lacks_right, make, names_act, own, refuse, tell}
use Rattle.ucon_model.specs.Plain.{Bytes, PlainPolicy}
use Rattle.ucon_model.specs.Reach.{Location, attribute_of, variable_of, reads_at, readers, session_targets, targets}
use Rattle.ucon_model.specs.Readings.{accessing, acts, attribute, changed_if, declared_attr, declared_env, entities, has_entity, in_force, is_accessing, moment, session, sessions, tick_of}
use Rattle.ucon_model.specs.Sound.{IsNumbered}
use Rattle.ucon_model.specs.Touches.{touches_by}
use Rattle.ucon_model.specs.Truth.{readings}
use Rattle.ucon_model.specs.Updates.{same_when, session_writes, updates_of}
use Rattle.ucon_model.specs.Usages.{going_on}
use Rattle.ucon_model.specs.Work.{own_work}
use Rattle.ucon_state.specs.Following.{Follows}
use Rattle.ucon_state.specs.Shown.{Shown}
use Rattle.ucon_cascade.specs.Numbering.{IsExact}
use Rattle.ucon_cascade.specs.Passing.{is_tick}
use Rattle.ucon_cascade.specs.Putting.{IsOwnWork, IsPermitWork, StandsAtOne, targets_in}
use Rattle.ucon_cascade.proofs.Covering.{or_left, or_right, targets_are}
use Rattle.ucon_cascade.proofs.Heads.{begun_row}
use Rattle.ucon_cascade.proofs.Monitored.{HeadsTell}
use Rattle.ucon_cascade.proofs.OwnTime.{Makes, behind, found, given, is_act, made_so, own_actions_take_no_time, unless, usage}
use Rattle.ucon_cascade.proofs.Firsts.{goes_on}
use Rattle.ucon_cascade.proofs.Thrifty.{CellsAreOfOne, UpdatesLeavePolicy, UpdatesLeaveSessions, reads_at_one, targets_alike}
use Rattle.ucon_cascade.proofs.Ticking.{accessing_row}

-- ---- where the updates of a session write

-- session k's updates of a time write after the one trace where they do after the other
abbrev TargetsStay : PlainPolicy → Trace → Trace → ℕ → When → Type 0
TargetsStay P T U k when = session_targets P U k when ≡ session_targets P T k when

after_updates : UpdatesLeavePolicy → UpdatesLeaveSessions → (P : PlainPolicy) (T : Trace) (m : ℕ) (at : When) (k : ℕ) (when : When)
    → TargetsStay P T (extended T (session_writes P m at T)) k when
after_updates policy sessions_stay P T m at k when =
    let W = extended T (session_writes P m at T) in
    ap (λ (Q : PlainPolicy). option_map_or (λ row. targets row when (updates_of Q row)) (session W k) []) (policy P m at T)
    ∙ ap (λ (o : Option SessionRow). option_map_or (λ row. targets row when (updates_of (in_force P T) row)) o []) (sessions_stay P m at T k)

permitted_targets : (P : PlainPolicy) (T : Trace) (n k : ℕ) (when : When) → TargetsStay P T (permit n ∷ T) k when
permitted_targets P T n k when = by (nat_eq k n) (session T k)
  where
    by : (b : Bool) (o : Option SessionRow)
        → option_map_or (λ row. targets row when (updates_of (in_force P T) row)) (changed_if b (λ row. record row { state = Accessing; start = tick_of T }) o) []
        ≡ option_map_or (λ row. targets row when (updates_of (in_force P T) row)) o []
    by false o = refl
    by true None = refl
    by true (Some row) =
        targets_alike row (record row { state = Accessing; start = tick_of T }) refl refl (filter (λ u. same_when when u.when) (updates_of (in_force P T) row))

ended_targets : (P : PlainPolicy) (T : Trace) (n k : ℕ) (when : When) → TargetsStay P T (ends n ∷ T) k when
ended_targets P T n k when = by (nat_eq k n) (session T k)
  where
    by : (b : Bool) (o : Option SessionRow)
        → option_map_or (λ row. targets row when (updates_of (in_force P T) row)) (changed_if b (λ row. record row { state = Ended }) o) []
        ≡ option_map_or (λ row. targets row when (updates_of (in_force P T) row)) o []
    by false o = refl
    by true None = refl
    by true (Some row) = targets_alike row (record row { state = Ended }) refl refl (filter (λ u. same_when when u.when) (updates_of (in_force P T) row))

-- ---- commands that decide over a session

one_more : (T : Trace) (ws : List Action) (a : Action) → a ∷ extended T ws ≡ extended T (ws ++ a ∷ [])
one_more T [] a = refl
one_more T (w ∷ ws) a = one_more (w ∷ T) ws a

-- who is permitted is session n, and its updates before the usage write where they do after this trace
abbrev PermitsStay : PlainPolicy → Trace → ℕ → Head → List Action → Type 0
PermitsStay P V n head actions = (k : ℕ) → head ≡ heads.Permitted k → (k ≡ n) × TargetsStay P V (extended V actions) k Before

decisions_stay : UpdatesLeavePolicy → UpdatesLeaveSessions → (P : PlainPolicy) (V : Trace) (n : ℕ) (v : Verdict) → Makes (PermitsStay P V n) (by_verdict P V n v)
decisions_stay policy sessions_stay P V n Permit = λ k is.
    let ws = session_writes P n Before V in
    let same : n ≡ k = cc in (
      sym same,
      subst (λ (U : Trace). TargetsStay P V U k Before) (one_more V ws (permit n))
          (permitted_targets P (extended V ws) n k Before ∙ after_updates policy sessions_stay P V n Before k Before),
    )
decisions_stay policy sessions_stay P V n (Deny label) = λ k is. absurd (let no : heads.Denied n label ≡ heads.Permitted k = is in cc)
decisions_stay policy sessions_stay P V n (Wait label) = λ k is. absurd (let no : heads.Waiting n label ≡ heads.Permitted k = is in cc)

-- whoever a Try permits writes before its usage where it does right after it is tried
abbrev TriesStay : PlainPolicy → Trace → Caller → Bytes → Bytes → Bytes → Head → List Action → Type 0
TriesStay P T caller s r o head actions =
    (k : ℕ) → head ≡ heads.Permitted k → session_targets P (extended T actions) k Before ≡ session_targets P (tries k caller s r o ∷ T) k Before

try_stays : UpdatesLeavePolicy → UpdatesLeaveSessions → (P : PlainPolicy) (T : Trace) (caller : Caller) (s r o : Bytes) → Makes (TriesStay P T caller s r o) (own P T caller (Try s r o))
try_stays policy sessions_stay P T caller s r o =
    let n = sessions T + 1 in
    let V : Trace = tries n caller s r o ∷ T in
    let Q = TriesStay P T caller s r o in
    unless Q (is_none (right_named (in_force P T).rights r)) _ _ (unless Q (not (has_entity sides.Subject s T)) _ _
    (unless Q (not (has_entity sides.Object o T)) _ _ (unless Q (nat_le 1048576 (sessions T)) _ _ (unless Q (nat_le 65536 (accessing T)) _ _
    (behind Q (PermitsStay P V n) (tries n caller s r o) (decide P V n)
    (λ head actions stays k is. (let both = stays k is in both.1 ∙ ap (λ (j : ℕ). session_targets P (tries j caller s r o ∷ T) k Before) (sym both.0)))
    (decisions_stay policy sessions_stay P V n (verdict (in_force P V) (readings P V) n)))))))

-- whoever an Again permits, where it does before it
abbrev AgainsStay : PlainPolicy → Trace → Head → List Action → Type 0
AgainsStay P T head actions = (k : ℕ) → head ≡ heads.Permitted k → TargetsStay P T (extended T actions) k Before

makes_more : (Q R : Head → List Action → Type 0) (o : Own) → ((head : Head) (actions : List Action) → Q head actions → R head actions) → Makes Q o → Makes R o
makes_more Q R (refuse r) each h = tt
makes_more Q R (tell reply) each h = tt
makes_more Q R (make head actions) each h = each head actions h

again_stays : UpdatesLeavePolicy → UpdatesLeaveSessions → (P : PlainPolicy) (T : Trace) (caller : Caller) (m : ℕ) → Makes (AgainsStay P T) (own P T caller (Again m))
again_stays policy sessions_stay P T caller m =
    let Q = AgainsStay P T in
    unless Q (lacks_right P T m) _ _ (found Q _ (session T m) _ (λ row. given Q (nat_eq row.caller.0 caller.0) _ _
    (unless Q (not (is_requesting row.state)) _ _ (unless Q (nat_le 65536 (accessing T)) _ _
    (makes_more (PermitsStay P T m) Q (by_verdict P T m (verdict (in_force P T) (readings P T) m)) (λ head actions stays k is. (stays k is).1)
    (decisions_stay policy sessions_stay P T m (verdict (in_force P T) (readings P T) m)))))))

-- ---- commands that run updates

beat_stays : UpdatesLeavePolicy → UpdatesLeaveSessions → (P : PlainPolicy) (T : Trace) (caller : Caller) (k : ℕ)
    → Makes (λ head actions. TargetsStay P T (extended T actions) k During) (own P T caller (Beat k))
beat_stays policy sessions_stay P T caller k =
    usage (λ head actions. TargetsStay P T (extended T actions) k During) T caller k (make heads.Ok (session_writes P k During T))
    (after_updates policy sessions_stay P T k During k During)

end_stays : UpdatesLeavePolicy → UpdatesLeaveSessions → (P : PlainPolicy) (T : Trace) (caller : Caller) (k : ℕ)
    → Makes (λ head actions. TargetsStay P T (extended T actions) k AfterEnd) (own P T caller (End k))
end_stays policy sessions_stay P T caller k =
    let V : Trace = ends k ∷ T in
    usage (λ head actions. TargetsStay P T (extended T actions) k AfterEnd) T caller k (make (heads.Ended k) (ends k ∷ session_writes P k AfterEnd V))
    (after_updates policy sessions_stay P V k AfterEnd k AfterEnd ∙ ended_targets P T k k AfterEnd)

-- ---- commands that permit nobody

-- whether a command may permit somebody
abbrev decides : Command → Bool
decides (Try s r o) = true
decides (Again n) = true
decides c = false

abbrev PermitsNobody : Head → List Action → Type 0
PermitsNobody head actions = (k : ℕ) → head ≢ heads.Permitted k

ok_permits_nobody : (k : ℕ) → heads.Ok ≢ heads.Permitted k
ok_permits_nobody k is = let no : heads.Ok ≡ heads.Permitted k = is in cc

permits_nobody : (P : PlainPolicy) (T : Trace) (caller : Caller) (c : Command) → decides c ≡ false → Makes PermitsNobody (own P T caller c)
permits_nobody P T caller (Subject name) quiet =
    unless PermitsNobody (not (is_admin caller)) _ _ (unless PermitsNobody (has_entity sides.Subject name T) _ _
    (unless PermitsNobody (nat_le 16384 (entities sides.Subject T)) _ _ ok_permits_nobody))
permits_nobody P T caller (Object name) quiet =
    unless PermitsNobody (not (is_admin caller)) _ _ (unless PermitsNobody (has_entity sides.Object name T) _ _
    (unless PermitsNobody (nat_le 16384 (entities sides.Object T)) _ _ ok_permits_nobody))
permits_nobody P T caller (Set side name attr v) quiet =
    unless PermitsNobody (not (is_admin caller)) _ _ (unless PermitsNobody (not (has_entity side name T)) _ _
    (found PermitsNobody _ (declared_attr (in_force P T).attrs side attr) _ (λ d. given PermitsNobody (admits d.kind v) _ _ ok_permits_nobody)))
permits_nobody P T caller (Env name v) quiet =
    unless PermitsNobody (not (is_admin caller)) _ _
    (found PermitsNobody _ (declared_env (in_force P T).envs name) _ (λ d. given PermitsNobody (admits d.kind v) _ _ ok_permits_nobody))
permits_nobody P T caller (Tick t) quiet =
    unless PermitsNobody (not (is_admin caller)) _ _ (unless PermitsNobody (int_lt t (tick_of T)) _ _ ok_permits_nobody)
permits_nobody P T caller (Act s a o) quiet =
    unless PermitsNobody (not (has_entity sides.Subject s T)) _ _ (unless PermitsNobody (not (has_entity sides.Object o T)) _ _
    (unless PermitsNobody (not (names_act (in_force P T).rights a)) _ _ (unless PermitsNobody (is_none (moment s a o T) && nat_le 1048576 (acts T)) _ _ ok_permits_nobody)))
permits_nobody P T caller (Try s r o) quiet = absurd cc
permits_nobody P T caller (Again n) quiet = absurd cc
permits_nobody P T caller (Beat n) quiet = usage PermitsNobody T caller n (make heads.Ok (session_writes P n During T)) ok_permits_nobody
permits_nobody P T caller (End n) quiet =
    usage PermitsNobody T caller n (make (heads.Ended n) (ends n ∷ session_writes P n AfterEnd (ends n ∷ T)))
    (λ k is. (let no : heads.Ended n ≡ heads.Permitted k = is in cc))
permits_nobody P T caller (Look n) quiet = found PermitsNobody _ (session T n) _ (λ row. tt)
permits_nobody P T caller (Value' side name attr) quiet =
    unless PermitsNobody (not (has_entity side name T)) _ _ (found PermitsNobody _ (attribute P T side name attr) _ (λ v. tt))
permits_nobody P T caller (Amend a) quiet =
    unless PermitsNobody (not (is_admin caller)) _ _ (unless PermitsNobody (is_some (changed_kind (in_force P T) a.policy)) _ _ ok_permits_nobody)

-- ---- whoever stands where own actions wrote read it before them

reads_before : CellsAreOfOne → HeadsTell → (s : Shown) (standing : ℕ → List ℕ) (P : PlainPolicy) (T : Trace) (caller : Caller) (c : Command) (head : Head) (actions : List Action)
    → IsNumbered T → own P T caller c ≡ make head actions → Follows s P (extended T actions) → IsExact s standing → in_force P (extended T actions) ≡ in_force P T → (n : ℕ)
    → is_accessing (session (extended T actions) n) ≡ true → head ≢ heads.Permitted n → (locations : List Location) → StandsAtOne s standing locations n
    → readers P T locations n ≡ true
reads_before whose tell_it s standing P T caller c head actions numbered made h exact same_policy n on no_permit locations stands =
    let U = extended T actions in
    let there = begun_row (session U n) (goes_on (session U n) on) in
    let told = tell_it P T caller c head actions n numbered made in
    let no_end : head ≢ heads.Ended n = λ is. (let no : None ≡ Some there.0 = sym (told.over is) ∙ there.2 in cc) in
    let before = accessing_row (session T n) there.0 (sym (told.same no_permit no_end) ∙ there.2) in
    let reads : list_any (reads_at s.policy there.0) locations ≡ true =
    reads_at_one whose s standing P U h exact n there.0 (ap going_on (h.tables.sessions.rows n) ∙ there.2) locations stands in
    ap (λ (o : Option SessionRow). option_map_or (λ row. list_any (reads_at (in_force P T) row) locations) o false) before.0
    ∙ ap (λ (Q : PlainPolicy). list_any (reads_at Q there.0) locations) (sym same_policy ∙ sym h.policy)
    ∙ reads

-- whom a command concerns is touched by its own actions, where that is read off the trace before them
abbrev pub OwnWorkIsTouched : Type 0
OwnWorkIsTouched = (P : PlainPolicy) (T : Trace) (caller : Caller) (c : Command) (head : Head) (actions : List Action) (n : ℕ)
    → own P T caller c ≡ make head actions → is_accessing (session (extended T actions) n) ≡ true
    → own_work P T caller c head n ≡ true → 1 ≤ touches_by P T actions n

module _ (whose : CellsAreOfOne) (policy : UpdatesLeavePolicy) (sessions_stay : UpdatesLeaveSessions) (tell_it : HeadsTell) (s : Shown) (standing : ℕ → List ℕ) (P : PlainPolicy)
    (T : Trace) (caller : Caller) (head : Head) (actions : List Action) (numbered : IsNumbered T) (h : Follows s P (extended T actions)) (exact : IsExact s standing) (n : ℕ)
    (on : is_accessing (session (extended T actions) n) ≡ true) where
  at_locations : (c : Command) → own P T caller c ≡ make head actions → is_amendment c ≡ false → is_tick c ≡ false → is_act c ≡ false → head ≢ heads.Permitted n
      → (locations : List Location) → StandsAtOne s standing locations n → readers P T locations n ≡ true
  at_locations c made no_amend no_tick no_act no_permit locations stands =
      reads_before whose tell_it s standing P T caller c head actions numbered made h exact (own_actions_take_no_time P T caller c head actions no_amend no_tick no_act made).policy
      n on no_permit locations stands

  at_targets : (c : Command) → own P T caller c ≡ make head actions → is_amendment c ≡ false → is_tick c ≡ false → is_act c ≡ false → head ≢ heads.Permitted n
      → (V : Trace) (k : ℕ) (when : When) → TargetsStay P V (extended T actions) k when → StandsAtOne s standing (targets_in s k when) n
      → readers P T (session_targets P V k when) n ≡ true
  at_targets c made no_amend no_tick no_act no_permit V k when stay stands =
      at_locations c made no_amend no_tick no_act no_permit (session_targets P V k when)
      (subst (λ (locations : List Location). StandsAtOne s standing locations n) (sym (targets_are s P (extended T actions) h h.tables.sessions.rows k when) ∙ stay) stands)

  permitted : (c : Command) → own P T caller c ≡ make head actions → is_amendment c ≡ false → is_tick c ≡ false → is_act c ≡ false → (k : ℕ) → head ≡ heads.Permitted k
      → (V : Trace) → TargetsStay P V (extended T actions) k Before → IsPermitWork s standing (heads.Permitted k) n
      → (nat_eq n k || readers P T (session_targets P V k Before) n) ≡ true
  permitted c made no_amend no_tick no_act k is V stay work = elim (eqb_tells n k) [
    | inl here ↦ or_left (nat_eq n k) _ here.0
    | inr apart ↦ or_right (nat_eq n k) _ (elim work [
      | inl itself ↦ absurd (apart.1 itself)
      | inr stands ↦
          at_targets c made no_amend no_tick no_act
          (λ same. (let both : heads.Permitted k ≡ heads.Permitted n = sym is ∙ same in let one : k ≡ n = cc in apart.1 (sym one))) V k Before stay stands
    ])
  ]

  tried : (u r o : Bytes) → own P T caller (Try u r o) ≡ make head actions → (told : Head) → head ≡ told → IsPermitWork s standing told n
      → own_work P T caller (Try u r o) told n ≡ true
  tried u r o made heads.Ok is work = absurd work
  tried u r o made (heads.Permitted k) is work =
      permitted (Try u r o) made refl refl refl k is (tries k caller u r o ∷ T)
      (made_so (TriesStay P T caller u r o) (own P T caller (Try u r o)) head actions made (try_stays policy sessions_stay P T caller u r o) k is) work
  tried u r o made (heads.Denied k label) is work = absurd work
  tried u r o made (heads.Waiting k label) is work = absurd work
  tried u r o made (heads.Ended k) is work = absurd work

  tried_again : (m : ℕ) → own P T caller (Again m) ≡ make head actions → (told : Head) → head ≡ told → IsPermitWork s standing told n
      → own_work P T caller (Again m) told n ≡ true
  tried_again m made heads.Ok is work = absurd work
  tried_again m made (heads.Permitted k) is work =
      permitted (Again m) made refl refl refl k is T
      (made_so (AgainsStay P T) (own P T caller (Again m)) head actions made (again_stays policy sessions_stay P T caller m) k is) work
  tried_again m made (heads.Denied k label) is work = absurd work
  tried_again m made (heads.Waiting k label) is work = absurd work
  tried_again m made (heads.Ended k) is work = absurd work

  nobody : (c : Command) → own P T caller c ≡ make head actions → decides c ≡ false → (k : ℕ) → head ≢ heads.Permitted k
  nobody c made quiet = made_so PermitsNobody (own P T caller c) head actions made (permits_nobody P T caller c quiet)

  no_permit : (c : Command) → own P T caller c ≡ make head actions → decides c ≡ false → IsPermitWork s standing head n → ⊥
  no_permit c made quiet work = by head refl work
    where
      by : (told : Head) → head ≡ told → IsPermitWork s standing told n → ⊥
      by heads.Ok is work = work
      by (heads.Permitted k) is work = nobody c made quiet k is
      by (heads.Denied k label) is work = work
      by (heads.Waiting k label) is work = work
      by (heads.Ended k) is work = work

  by_command : (c : Command) → own P T caller c ≡ make head actions → IsOwnWork s standing c head n → own_work P T caller c head n ≡ true
  by_command (Subject name) made (inl permits) = absurd (no_permit (Subject name) made refl permits)
  by_command (Subject name) made (inr work) = absurd work
  by_command (Object name) made (inl permits) = absurd (no_permit (Object name) made refl permits)
  by_command (Object name) made (inr work) = absurd work
  by_command (Set side name attr v) made (inl permits) = absurd (no_permit (Set side name attr v) made refl permits)
  by_command (Set side name attr v) made (inr stands) =
      at_locations (Set side name attr v) made refl refl refl (nobody (Set side name attr v) made refl n) (attribute_of side name attr ∷ []) (inl stands)
  by_command (Env name v) made (inl permits) = absurd (no_permit (Env name v) made refl permits)
  by_command (Env name v) made (inr stands) = at_locations (Env name v) made refl refl refl (nobody (Env name v) made refl n) (variable_of name ∷ []) (inl stands)
  by_command (Tick t) made (inl permits) = absurd (no_permit (Tick t) made refl permits)
  by_command (Tick t) made (inr work) = absurd work
  by_command (Act u a o) made (inl permits) = absurd (no_permit (Act u a o) made refl permits)
  by_command (Act u a o) made (inr work) = absurd work
  by_command (Try u r o) made (inl permits) = tried u r o made head refl permits
  by_command (Try u r o) made (inr work) = absurd work
  by_command (Again m) made (inl permits) = tried_again m made head refl permits
  by_command (Again m) made (inr work) = absurd work
  by_command (Beat k) made (inl permits) = absurd (no_permit (Beat k) made refl permits)
  by_command (Beat k) made (inr stands) =
      at_targets (Beat k) made refl refl refl (nobody (Beat k) made refl n) T k During
      (made_so (λ head actions. TargetsStay P T (extended T actions) k During) (own P T caller (Beat k)) head actions made (beat_stays policy sessions_stay P T caller k)) stands
  by_command (End k) made (inl permits) = absurd (no_permit (End k) made refl permits)
  by_command (End k) made (inr stands) =
      at_targets (End k) made refl refl refl (nobody (End k) made refl n) T k AfterEnd
      (made_so (λ head actions. TargetsStay P T (extended T actions) k AfterEnd) (own P T caller (End k)) head actions made (end_stays policy sessions_stay P T caller k)) stands
  by_command (Look m) made (inl permits) = absurd (no_permit (Look m) made refl permits)
  by_command (Look m) made (inr work) = absurd work
  by_command (Value' side name attr) made (inl permits) = absurd (no_permit (Value' side name attr) made refl permits)
  by_command (Value' side name attr) made (inr work) = absurd work
  by_command (Amend a) made (inl permits) = refl
  by_command (Amend a) made (inr goes) = refl

  -- each accessing session that they concern was touched
  pub own_work_was_touched : OwnWorkIsTouched → (c : Command) → own P T caller c ≡ make head actions → IsOwnWork s standing c head n → 1 ≤ touches_by P T actions n
  own_work_was_touched touched c made work = touched P T caller c head actions n made on (by_command c made work)
