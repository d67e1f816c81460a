-- The work that a command's own actions begin covers after them.
use Rattle.std.proofs.Common.{◌≡◌, ℕ, ◌+◌, Bool, true, false, List, [], ◌∷◌, ◌++◌, refl, sym, ap, subst, ◌∙◌}
use Rattle.std.specs.Prelude.{◌||◌, ◌&&◌, not, nat_eq, nat_le, int_lt, Option, Some, None, is_none, is_some, IsTrue}
use Rattle.std.specs.Option.{option_map_or}
use Rattle.std.specs.List.{list_any}
use Rattle.std.specs.Str.{bytes_eq}
use Rattle.std.proofs.Math.Bool.{or-false}
use Rattle.std.proofs.lemmas.Bool.{false_from_ne_true}
use Rattle.std.proofs.lemmas.List.Folds.{list_any-append}
use Rattle.std.proofs.lemmas.Slice.Eq.{bytes_eq-Decides}
use Rattle.ucon_base.specs.declared.value.Side.{Side}
use Rattle.ucon_base.specs.declared.value.Side.TheVariants as sides
use Rattle.ucon_base.specs.declared.value.Value.{Value}
use Rattle.ucon_base.specs.Admits.{admits}
use Rattle.ucon_model.specs.declared.command.Caller.{Caller}
use Rattle.ucon_model.specs.declared.command.Command.{Command}
use Rattle.ucon_model.specs.declared.command.Command.TheVariants.{Subject, Object, Set, Env, Tick, Act, Try, Again, Beat, End, Look, Value as Value', Amend}
use Rattle.ucon_model.specs.declared.formula.Ref.{Ref}
use Rattle.ucon_model.specs.declared.formula.Ref.TheVariants as refs
use Rattle.ucon_model.specs.declared.policy.When.{When}
use Rattle.ucon_model.specs.declared.policy.When.TheVariants.{Before, During, AfterEnd}
use Rattle.ucon_model.specs.declared.reply.Head.{Head}
use Rattle.ucon_model.specs.declared.reply.Head.TheVariants as heads
use Rattle.ucon_model.specs.declared.session.SessionRow.{SessionRow}
use Rattle.ucon_model.specs.declared.session.Verdict.{Verdict}
use Rattle.ucon_model.specs.declared.session.Verdict.TheVariants.{Permit, Deny, Wait}
use Rattle.ucon_model.specs.Plain.{Bytes, PlainPolicy}
use Rattle.ucon_model.specs.Action.{Action, Trace, write, env, act, tries, wait, permit, deny, ends, extended}
use Rattle.ucon_model.specs.Readings.{in_force, tick_of, has_entity, entities, attribute, declared_attr, declared_env, moment, session, sessions, accessing, acts}
use Rattle.ucon_model.specs.Truth.{readings}
use Rattle.ucon_model.specs.Decision.{right_named, verdict}
use Rattle.ucon_model.specs.Updates.{session_writes}
use Rattle.ucon_model.specs.OwnActions.{Own, refuse, tell, make, by_verdict, decide, is_admin, new_entity, add_entity, names_act, lacks_right, is_requesting, end_usage, own}
use Rattle.ucon_model.specs.MayFollow.{changed_kind}
use Rattle.ucon_model.specs.Settle.{fails_at}
use Rattle.ucon_model.specs.Sound.{IsGrounded, IsTimely}
use Rattle.ucon_model.specs.Reach.{Timed, timed_of, places_of, Location, attribute_of, variable_of, location_of, replaces, alters, moves, reaches, permits, reads_at, readers, session_targets}
use Rattle.ucon_model.specs.Deadlines.{is_due}
use Rattle.ucon_model.specs.Work.{Work, nobody, everybody, only, joined, Covers, concerned, own_work}
use Rattle.ucon_model.proofs.OwnMakes.{Makes, unless, given, found, behind, usage}
use Rattle.ucon_model.proofs.Readers.{nowhere, reaches-write, reaches-env, reaches-session_writes, session_targets-end, permits-session_writes, reached_by}
use Rattle.ucon_model.proofs.Acts.{act_fails_none}
use Rattle.ucon_model.proofs.AllowedOwn.{not_back}
use Rattle.ucon_model.proofs.Deadlines.{covers-tick}
use Rattle.ucon_model.proofs.Working.{covers-wider, covers-nobody}

-- ---- whom actions concern

-- the actions concern exactly this work
abbrev Concern : PlainPolicy → Trace → List Action → Work → Type 0
Concern P T actions work = (n : ℕ) → concerned P T actions n ≡ work n

-- an action that permits nobody and reaches nobody concerns nobody
quiet_front : (P : PlainPolicy) (T : Trace) (a : Action) (actions : List Action) (n : ℕ) → permits n a ≡ false → ((row : SessionRow) → reaches (in_force P T) row a ≡ false)
    → concerned P T (a ∷ actions) n ≡ concerned P T actions n
quiet_front P T a actions n off quiet = rw off (ap (λ (b : Bool). list_any (permits n) actions || b) (of_row (session T n)))
  where
    of_row : (o : Option SessionRow) → option_map_or (λ row. list_any (reaches (in_force P T) row) (a ∷ actions)) o false
        ≡ option_map_or (λ row. list_any (reaches (in_force P T) row) actions) o false
    of_row None = refl
    of_row (Some row) = rw (quiet row) refl

-- a session's writes concern who reads where they write
concern-writes : (P : PlainPolicy) (T U : Trace) (m : ℕ) (when : When) → Concern P T (session_writes P m when U) (readers P T (session_targets P U m when))
concern-writes P T U m when n =
    rw (permits-session_writes P n m when U)
    (reached_by (in_force P T) (session_writes P m when U) (session_targets P U m when) (λ other. reaches-session_writes P (in_force P T) other m when U) (session T n))

-- a session's updates before the usage, and its permission
concern-permit : (P : PlainPolicy) (T U : Trace) (m : ℕ)
    → Concern P T (session_writes P m Before U ++ permit m ∷ []) (joined (only m) (readers P T (session_targets P U m Before)))
concern-permit P T U m n =
    let ws : List Action = session_writes P m Before U in
    let permitted : list_any (permits n) (ws ++ permit m ∷ []) ≡ nat_eq n m =
    list_any-append (permits n) ws (permit m ∷ []) ∙ rw (permits-session_writes P n m Before U) (or-false (nat_eq n m)) in
    let Q : PlainPolicy = in_force P T in
    let reach : (other : SessionRow) → list_any (reaches Q other) (ws ++ permit m ∷ []) ≡ list_any (reads_at Q other) (session_targets P U m Before) =
    λ other. list_any-append (reaches Q other) ws (permit m ∷ []) ∙ rw (nowhere Q other) (or-false (list_any (reaches Q other) ws) ∙ reaches-session_writes P Q other m Before U) in
    rw permitted (ap (λ (b : Bool). nat_eq n m || b) (reached_by Q (ws ++ permit m ∷ []) (session_targets P U m Before) reach (session T n)))

concern-none : (P : PlainPolicy) (T : Trace) (a : Action) → ((n : ℕ) → permits n a ≡ false) → ((row : SessionRow) → reaches (in_force P T) row a ≡ false)
    → Concern P T (a ∷ []) nobody
concern-none P T a off quiet n = quiet_front P T a [] n (off n) quiet ∙ of_row (session T n)
  where
    of_row : (o : Option SessionRow) → option_map_or (λ row. false) o false ≡ false
    of_row None = refl
    of_row (Some row) = refl

concern-end : (P : PlainPolicy) (T : Trace) (m : ℕ)
    → Concern P T (ends m ∷ session_writes P m AfterEnd (ends m ∷ T)) (readers P T (session_targets P T m AfterEnd))
concern-end P T m n =
    quiet_front P T (ends m) (session_writes P m AfterEnd (ends m ∷ T)) n refl (nowhere (in_force P T))
    ∙ concern-writes P T (ends m ∷ T) m AfterEnd n
    ∙ ap (λ (locations : List Location). readers P T locations n) (session_targets-end P T m)

concern-write : (P : PlainPolicy) (T : Trace) (side : Side) (name attr : Bytes) (v : Value)
    → Concern P T (write side name attr v ∷ []) (readers P T (attribute_of side name attr ∷ []))
concern-write P T side name attr v n =
    reached_by (in_force P T) (write side name attr v ∷ []) (attribute_of side name attr ∷ [])
    (λ other. ap (λ (b : Bool). b || false) (reaches-write (in_force P T) other side name attr v)) (session T n)

concern-env : (P : PlainPolicy) (T : Trace) (name : Bytes) (v : Value) → Concern P T (env name v ∷ []) (readers P T (variable_of name ∷ []))
concern-env P T name v n =
    reached_by (in_force P T) (env name v ∷ []) (variable_of name ∷ [])
    (λ other. ap (λ (b : Bool). b || false) (reaches-env (in_force P T) other name v)) (session T n)

-- ---- an entity that is new

-- nobody reads of an entity that isn't there yet
other_name : (side : Side) (T : Trace) (name new : Bytes) → IsTrue (has_entity side name T) → has_entity side new T ≡ false → bytes_eq name new ≡ false
other_name side T name new there off =
    false_from_ne_true (bytes_eq name new) (λ e. (let on : has_entity side new T ≡ true = subst (λ (x : Bytes). has_entity side x T ≡ true) ((bytes_eq-Decides name new).0 e) there in cc))

unread : (side : Side) (T : Trace) (row : SessionRow) (name : Bytes) (place : Ref) → IsGrounded T (Some row) → has_entity side name T ≡ false
    → alters (new_entity side name) (location_of row place) ≡ false
unread sides.Subject T row name (refs.Subject attr) h off = other_name sides.Subject T row.subject name h.0 off
unread sides.Subject T row name (refs.Object attr) h off = refl
unread sides.Subject T row name (refs.Env n) h off = refl
unread sides.Object T row name (refs.Subject attr) h off = refl
unread sides.Object T row name (refs.Object attr) h off = other_name sides.Object T row.object name h.1 off
unread sides.Object T row name (refs.Env n) h off = refl

none_at : {T : Type 0} (p : T → Bool) (xs : List T) → ((x : T) → p x ≡ false) → list_any p xs ≡ false
none_at p [] h = refl
none_at p (x ∷ xs) h = rw (h x, none_at p xs h) refl

still : (side : Side) (name : Bytes) (row : SessionRow) (part : Timed) → moves row (new_entity side name) part ≡ false
still sides.Subject name row part = refl
still sides.Object name row part = refl

stays : (side : Side) (name : Bytes) → replaces (new_entity side name) ≡ false
stays sides.Subject name = refl
stays sides.Object name = refl

permits_not : (side : Side) (name : Bytes) (n : ℕ) → permits n (new_entity side name) ≡ false
permits_not sides.Subject name n = refl
permits_not sides.Object name n = refl

concern-entity : (P : PlainPolicy) (T : Trace) (side : Side) (name : Bytes) → ((n : ℕ) → IsGrounded T (session T n)) → has_entity side name T ≡ false
    → Concern P T (new_entity side name ∷ []) nobody
concern-entity P T side name grounded off n = rw (permits_not side name n) (of_row (session T n) (grounded n))
  where
    of_row : (o : Option SessionRow) → IsGrounded T o → option_map_or (λ row. list_any (reaches (in_force P T) row) (new_entity side name ∷ [])) o false ≡ false
    of_row None h = refl
    of_row (Some row) h =
        let Q : PlainPolicy = in_force P T in
        let places : list_any (λ place. alters (new_entity side name) (location_of row place)) (places_of Q row) ≡ false =
        none_at (λ place. alters (new_entity side name) (location_of row place)) (places_of Q row) (λ place. unread side T row name place h off) in
        let timed : list_any (moves row (new_entity side name)) (timed_of Q row) ≡ false =
        none_at (moves row (new_entity side name)) (timed_of Q row) (still side name row) in
        rw (stays side name, places, timed) refl

-- ---- each command

-- what a verdict makes concerns the permitted session and who reads where its updates write
decide_concerns : (P : PlainPolicy) (T U : Trace) (n : ℕ) (v : Verdict) (work : Head → Work)
    → ((m : ℕ) → work (heads.Permitted n) m ≡ joined (only n) (readers P T (session_targets P U n Before)) m)
    → ((m : ℕ) (label : Bytes) → work (heads.Denied n label) m ≡ false) → ((m : ℕ) (label : Bytes) → work (heads.Waiting n label) m ≡ false)
    → Makes (λ head actions. Concern P T actions (work head)) (by_verdict P U n v)
decide_concerns P T U n Permit work permitted denied waiting = λ m. concern-permit P T U n m ∙ sym (permitted m)
decide_concerns P T U n (Deny label) work permitted denied waiting = λ m. concern-none P T (deny n label) (λ k. refl) (nowhere (in_force P T)) m ∙ sym (denied m label)
decide_concerns P T U n (Wait label) work permitted denied waiting = λ m. concern-none P T (wait n label) (λ k. refl) (nowhere (in_force P T)) m ∙ sym (waiting m label)

-- where nobody failed, the work that actions concern covers after them
covers_concern : (P : PlainPolicy) (T : Trace) (actions : List Action) (work : Work) → ((n : ℕ) → fails_at P T n ≡ None) → Concern P T actions work
    → Covers P (extended T actions) work
covers_concern P T actions work none h =
    covers-wider P (extended T actions) (concerned P T actions) work (covers-nobody P T actions none) (λ n on is. sym (h n) ∙ is)

covers-by : (P : PlainPolicy) (T : Trace) (work : Head → Work) (o : Own) → ((n : ℕ) → fails_at P T n ≡ None)
    → Makes (λ head actions. Concern P T actions (work head)) o → Makes (λ head actions. Covers P (extended T actions) (work head)) o
covers-by P T work (refuse r) none h = tt
covers-by P T work (tell reply) none h = tt
covers-by P T work (make head actions) none h = covers_concern P T actions (work head) none h

entity_covers : (P : PlainPolicy) (T : Trace) (caller : Caller) (side : Side) (name : Bytes) → ((n : ℕ) → IsGrounded T (session T n))
    → Makes (λ head actions. Concern P T actions nobody) (add_entity T caller side name)
entity_covers P T caller side name grounded =
    let Q : Head → List Action → Type 0 = λ head actions. Concern P T actions nobody in
    unless Q (not (is_admin caller)) _ _ (λ admin. unless Q (has_entity side name T) _ _ (λ new. unless Q (nat_le 16384 (entities side T)) _ _ (λ room.
    concern-entity P T side name grounded new)))

own_covers : (P : PlainPolicy) (T : Trace) (caller : Caller) (c : Command) → ((n : ℕ) → IsGrounded T (session T n)) → IsTimely T → ((n : ℕ) → fails_at P T n ≡ None)
    → Makes (λ head actions. Covers P (extended T actions) (own_work P T caller c head)) (own P T caller c)
own_covers P T caller (Subject name) grounded timely none = covers-by P T (λ head. nobody) _ none (entity_covers P T caller sides.Subject name grounded)
own_covers P T caller (Object name) grounded timely none = covers-by P T (λ head. nobody) _ none (entity_covers P T caller sides.Object name grounded)
own_covers P T caller (Set side name attr v) grounded timely none =
    let work : Head → Work = own_work P T caller (Set side name attr v) in
    let Q : Head → List Action → Type 0 = λ head actions. Covers P (extended T actions) (work head) in
    unless Q (not (is_admin caller)) _ _ (λ admin. unless Q (not (has_entity side name T)) _ _ (λ there.
    found Q _ (declared_attr (in_force P T).attrs side attr) _ (λ d. given Q (admits d.kind v) _ _
    (covers_concern P T (write side name attr v ∷ []) (work heads.Ok) none (concern-write P T side name attr v)))))
own_covers P T caller (Env name v) grounded timely none =
    let work : Head → Work = own_work P T caller (Env name v) in
    let Q : Head → List Action → Type 0 = λ head actions. Covers P (extended T actions) (work head) in
    unless Q (not (is_admin caller)) _ _ (λ admin.
    found Q _ (declared_env (in_force P T).envs name) _ (λ d. given Q (admits d.kind v) _ _
    (covers_concern P T (env name v ∷ []) (work heads.Ok) none (concern-env P T name v))))
own_covers P T caller (Tick t) grounded timely none =
    let Q : Head → List Action → Type 0 = λ head actions. Covers P (extended T actions) (is_due P T t) in
    unless Q (not (is_admin caller)) _ _ (λ admin. unless Q (int_lt t (tick_of T)) _ _ (λ on. covers-tick P T t (not_back t (tick_of T) on) none))
own_covers P T caller (Act s a o) grounded timely none =
    let Q : Head → List Action → Type 0 = λ head actions. Covers P (extended T actions) nobody in
    unless Q (not (has_entity sides.Subject s T)) _ _ (λ subject. unless Q (not (has_entity sides.Object o T)) _ _ (λ object.
    unless Q (not (names_act (in_force P T).rights a)) _ _ (λ named. unless Q (is_none (moment s a o T) && nat_le 1048576 (acts T)) _ _ (λ room.
    λ n label e. absurd (let still : fails_at P (act s a o ∷ T) n ≡ None = act_fails_none P T s a o n timely (none n) in cc)))))
own_covers P T caller (Try s r o) grounded timely none =
    let work : Head → Work = own_work P T caller (Try s r o) in
    let Q : Head → List Action → Type 0 = λ head actions. Concern P T actions (work head) in
    let n : ℕ = sessions T + 1 in
    let a : Action = tries n caller s r o in
    covers-by P T work _ none
    (unless Q (is_none (right_named (in_force P T).rights r)) _ _ (λ right. unless Q (not (has_entity sides.Subject s T)) _ _ (λ subject.
    unless Q (not (has_entity sides.Object o T)) _ _ (λ object. unless Q (nat_le 1048576 (sessions T)) _ _ (λ room.
    unless Q (nat_le 65536 (accessing T)) _ _ (λ seats.
    behind Q Q a (decide P (a ∷ T) n) (λ head actions h m. quiet_front P T a actions m refl (nowhere (in_force P T)) ∙ h m)
    (decide_concerns P T (a ∷ T) n (verdict (in_force P (a ∷ T)) (readings P (a ∷ T)) n) work (λ m. refl) (λ m label. refl) (λ m label. refl))))))))
own_covers P T caller (Again n) grounded timely none =
    let work : Head → Work = own_work P T caller (Again n) in
    let Q : Head → List Action → Type 0 = λ head actions. Concern P T actions (work head) in
    covers-by P T work _ none
    (unless Q (lacks_right P T n) _ _ (λ kept. found Q _ (session T n) _ (λ row. given Q (nat_eq row.caller.0 caller.0) _ _
    (unless Q (not (is_requesting row.state)) _ _ (λ requesting. unless Q (nat_le 65536 (accessing T)) _ _ (λ seats.
    decide_concerns P T T n (verdict (in_force P T) (readings P T) n) work (λ m. refl) (λ m label. refl) (λ m label. refl)))))))
own_covers P T caller (Beat n) grounded timely none =
    let work : Head → Work = own_work P T caller (Beat n) in
    let Q : Head → List Action → Type 0 = λ head actions. Covers P (extended T actions) (work head) in
    usage Q T caller n (make heads.Ok (session_writes P n During T))
    (covers_concern P T (session_writes P n During T) (work heads.Ok) none (concern-writes P T T n During))
own_covers P T caller (End n) grounded timely none =
    let work : Head → Work = own_work P T caller (End n) in
    let Q : Head → List Action → Type 0 = λ head actions. Covers P (extended T actions) (work head) in
    usage Q T caller n (end_usage P T n)
    (covers_concern P T (ends n ∷ session_writes P n AfterEnd (ends n ∷ T)) (work (heads.Ended n)) none (concern-end P T n))
own_covers P T caller (Look n) grounded timely none = found (λ head actions. Covers P (extended T actions) nobody) _ (session T n) _ (λ row. tt)
own_covers P T caller (Value' side name attr) grounded timely none =
    let Q : Head → List Action → Type 0 = λ head actions. Covers P (extended T actions) nobody in
    unless Q (not (has_entity side name T)) _ _ (λ there. found Q _ (attribute P T side name attr) _ (λ v. tt))
own_covers P T caller (Amend a) grounded timely none =
    let Q : Head → List Action → Type 0 = λ head actions. Covers P (extended T actions) everybody in
    unless Q (not (is_admin caller)) _ _ (λ admin. unless Q (is_some (changed_kind (in_force P T) a.policy)) _ _ (λ same. λ n label fails. refl))

-- where nobody fails, the work that is read off a command and its head covers after the command's own actions
pub covers-own : (P : PlainPolicy) (T : Trace) (caller : Caller) (c : Command) (head : Head) (actions : List Action)
    → ((n : ℕ) → IsGrounded T (session T n)) → IsTimely T → ((n : ℕ) → fails_at P T n ≡ None) → own P T caller c ≡ make head actions
    → Covers P (extended T actions) (own_work P T caller c head)
covers-own P T caller c head actions grounded timely none e =
    subst (Makes (λ head actions. Covers P (extended T actions) (own_work P T caller c head))) e (own_covers P T caller c grounded timely none)
