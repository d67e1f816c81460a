-- What a try would meet is told by the tables of each state that follows the trace.
use Rattle.std.proofs.Common.{◌≡◌, ◌∙◌, ℕ, ◌+◌, ◌<◌, Bool, true, false, ◌∷◌, length, refl, sym, ap, subst, arith}
use Rattle.std.specs.Prelude.{not, nat_le, Option, Some, None, is_none, is_some, IsSome, if◌then◌else◌}
use Rattle.ucon_base.specs.declared.value.Side.TheVariants.{Subject, Object}
use Rattle.ucon_model.specs.Asked.{makes_no_set_at}
use Rattle.ucon_model.specs.Sums.{tests_make_no_set}
use Rattle.ucon_model.specs.declared.reply.Refusal.{Refusal}
use Rattle.ucon_model.specs.declared.reply.Refusal.TheVariants.{NoRight, NoSubject, NoObject, FullSessions, FullAccessing}
use Rattle.ucon_model.specs.declared.session.SessionRow.{SessionRow}
use Rattle.ucon_model.specs.declared.session.Verdict.{Verdict}
use Rattle.ucon_model.specs.declared.session.Verdict.TheVariants.{Permit, Deny, Wait}
use Rattle.ucon_model.specs.Action.{Action, Trace, tries}
use Rattle.ucon_model.specs.Decision.{right_named, verdict}
use Rattle.ucon_model.specs.Fitting.{ValuesFit}
use Rattle.ucon_model.specs.History.{Agree}
use Rattle.ucon_model.specs.Legal.{IsLegal}
use Rattle.ucon_model.specs.OwnActions.{Own, refuse, after_action, by_verdict, decide}
use Rattle.ucon_model.specs.Plain.{Bytes, PlainPolicy}
use Rattle.ucon_model.specs.Readings.{accessing, has_entity, in_force, sessions}
use Rattle.ucon_model.specs.Truth.{Readings, readings}
use Rattle.ucon_model.specs.Typing.{IsTyped}
use Rattle.ucon_state.specs.declared.counts.Counts.{Counts}
use Rattle.ucon_state.specs.Applied.{tried, with_new_session}
use Rattle.ucon_state.specs.Following.{Follows, Keeps}
use Rattle.ucon_state.specs.Shown.{Shown, changed_by}
use Rattle.ucon_state.specs.Tables.{accessing_among, entity_number, readings_in}
use Rattle.ucon_accept.specs.Explanation.{explained}
use Rattle.ucon_accept.specs.Judged.{MayBeJudged}
use Rattle.ucon_accept.specs.Trying.{admin, explained_with, explanation, readings_with, refusal_of, refusal_shown, try_refusal, with_try}
use Rattle.ucon_accept.proofs.OneSession.{session_new}

-- ---- what the laws below say

abbrev pub TablesKeep : Type 0
TablesKeep = (s : Shown) (P : PlainPolicy) (T : Trace) → Follows s P T → Keeps s.policy s.tables P T

abbrev pub ActionsAreFollowed : Type 0
ActionsAreFollowed = (s : Shown) (P : PlainPolicy) (T : Trace) (a : Action) → Follows s P T → IsLegal P T a → Follows (changed_by s a) P (a ∷ T)

abbrev pub TestsMakeNoSet : Type 0
TestsMakeNoSet = (P : PlainPolicy) (T : Trace) (R : Readings) → IsTyped (in_force P T) → ValuesFit P T → Agree R (readings P T)
    → (n : ℕ) → tests_make_no_set (in_force P T) R n ≡ true

abbrev pub EachMakesNoSet : Type 0
EachMakesNoSet = (P : PlainPolicy) (T : Trace) (R : Readings) → IsTyped (in_force P T) → ValuesFit P T → Agree R (readings P T)
    → (n i : ℕ) → makes_no_set_at (in_force P T) R n i ≡ true

abbrev pub AgreeingAreOne : Type 0
AgreeingAreOne = (R S : Readings) → Agree R S → R ≡ S

-- ---- refusals

-- the refusal by five tests
abbrev by_tests : Bool → Bool → Bool → Bool → Bool → Option Refusal
by_tests a b c d e =
    if a then Some NoRight else if b then Some NoSubject else if c then Some NoObject else
    if d then Some FullSessions else if e then Some FullAccessing else None

never_refused : (a : Action) (P : PlainPolicy) (T : Trace) (n : ℕ) (v : Verdict) → refusal_of (after_action a (by_verdict P T n v)) ≡ None
never_refused a P T n Permit = refl
never_refused a P T n (Deny label) = refl
never_refused a P T n (Wait label) = refl

own_by_tests : (a b c d e : Bool) (done : Own) → refusal_of done ≡ None
    → refusal_of (if a then refuse NoRight else if not b then refuse NoSubject else if not c then refuse NoObject else
    if d then refuse FullSessions else if e then refuse FullAccessing else done) ≡ by_tests a (not b) (not c) d e
own_by_tests true b c d e done none = refl
own_by_tests false false c d e done none = refl
own_by_tests false true false d e done none = refl
own_by_tests false true true true e done none = refl
own_by_tests false true true false true done none = refl
own_by_tests false true true false false done none = none

not_some : {X : Type 0} (o : Option X) (b : Bool) → is_some o ≡ b → is_none o ≡ not b
not_some None b is = rw (sym is) refl
not_some (Some x) b is = rw (sym is) refl

pub refusal_same : TablesKeep → (s : Shown) (P : PlainPolicy) (T : Trace) → Follows s P T → (u r o : Bytes) → refusal_shown s u r o ≡ try_refusal P T u r o
refusal_same keep s P T h u r o =
    let kept = keep s P T h in
    let right : is_none (right_named s.policy.rights r) ≡ is_none (right_named (in_force P T).rights r) =
    ap (λ (Q : PlainPolicy). is_none (right_named Q.rights r)) h.policy in
    let subject = not_some (entity_number s.tables Subject u) (has_entity Subject u T) (kept.entity_is_there Subject u) in
    let object = not_some (entity_number s.tables Object o) (has_entity Object o T) (kept.entity_is_there Object o) in
    let tried_so_far : length s.tables.sessions ≡ sessions T = ap (λ (c : Counts). c.sessions) kept.counts_agree in
    let going_on : accessing_among s.tables.sessions ≡ accessing T = ap (λ (c : Counts). c.accessing) kept.counts_agree in
    let new : Action = tries (sessions T + 1) admin u r o in
    let tables : refusal_shown s u r o ≡ by_tests (is_none (right_named (in_force P T).rights r)) (not (has_entity Subject u T)) (not (has_entity Object o T))
    (nat_le 1048576 (sessions T)) (nat_le 65536 (accessing T)) = rw (right, subject, object, tried_so_far, going_on) refl in
    tables
    ∙ sym (own_by_tests (is_none (right_named (in_force P T).rights r)) (has_entity Subject u T) (has_entity Object o T)
    (nat_le 1048576 (sessions T)) (nat_le 65536 (accessing T)) (after_action new (decide P (new ∷ T) (sessions T + 1)))
    (never_refused new P (new ∷ T) (sessions T + 1) (verdict (in_force P (new ∷ T)) (readings P (new ∷ T)) (sessions T + 1))))

-- ---- a try that isn't refused may be made

-- what each test says where nothing is refused
record Passes (a b c d e : Bool) : Type 0 where
  right : a ≡ false
  subject : b ≡ false
  object : c ≡ false
  few : d ≡ false
  room : e ≡ false

all_pass : (a b c d e : Bool) → by_tests a b c d e ≡ None → Passes a b c d e
all_pass true b c d e none = absurd cc
all_pass false true c d e none = absurd cc
all_pass false false true d e none = absurd cc
all_pass false false false true e none = absurd cc
all_pass false false false false true none = absurd cc
all_pass false false false false false none = record { right = refl; subject = refl; object = refl; few = refl; room = refl }

there_is : {X : Type 0} (o : Option X) → is_none o ≡ false → is_some o ≡ true
there_is None h = absurd cc
there_is (Some x) h = refl

few_sessions : (n : ℕ) → nat_le 1048576 n ≡ false → n < 1048576
few_sessions n h = grind arith

pub try_is_legal : TablesKeep → (s : Shown) (P : PlainPolicy) (T : Trace) → Follows s P T → (u r o : Bytes) → refusal_shown s u r o ≡ None
    → IsLegal P T (tries (sessions T + 1) admin u r o)
try_is_legal keep s P T h u r o none =
    let kept = keep s P T h in
    let pass = all_pass (is_none (right_named s.policy.rights r)) (is_none (entity_number s.tables Subject u)) (is_none (entity_number s.tables Object o))
    (nat_le 1048576 (length s.tables.sessions)) (nat_le 65536 (accessing_among s.tables.sessions)) none in
    let tried_so_far : length s.tables.sessions ≡ sessions T = ap (λ (c : Counts). c.sessions) kept.counts_agree in
    let few = few_sessions (length s.tables.sessions) pass.few in (
      refl,
      omega arith,
      subst (λ (Q : PlainPolicy). IsSome (right_named Q.rights r)) h.policy (there_is (right_named s.policy.rights r) pass.right),
      sym (kept.entity_is_there Subject u) ∙ there_is (entity_number s.tables Subject u) pass.subject,
      sym (kept.entity_is_there Object o) ∙ there_is (entity_number s.tables Object o) pass.object,
    )

-- ---- the session of the try

-- once it is made, what is read is what the trace with the try gives
pub reads_with : TablesKeep → ActionsAreFollowed → (s : Shown) (P : PlainPolicy) (T : Trace) → Follows s P T → (u r o : Bytes) → refusal_shown s u r o ≡ None
    → Agree (readings_with s u r o) (readings P (with_try T u r o))
reads_with keep follow s P T h u r o none =
    let new : Action = tries (sessions T + 1) admin u r o in
    (keep (changed_by s new) P (new ∷ T) (follow s P T new h (try_is_legal keep s P T h u r o none))).readings_agree

-- the session may be judged
pub try_is_judged : TablesKeep → ActionsAreFollowed → TestsMakeNoSet → EachMakesNoSet → (s : Shown) (P : PlainPolicy) (T : Trace) → Follows s P T → (u r o : Bytes)
    → refusal_shown s u r o ≡ None → MayBeJudged s.policy (readings_with s u r o) (length s.tables.sessions + 1) (tried admin u r o)
try_is_judged keep follow all each s P T h u r o none =
    let new : Action = tries (sessions T + 1) admin u r o in
    let after : Follows (changed_by s new) P (new ∷ T) = follow s P T new h (try_is_legal keep s P T h u r o none) in
    let agree = reads_with keep follow s P T h u r o none in
    let n : ℕ = length s.tables.sessions + 1 in
    record {
      there = session_new s.tables (tried admin u r o) n refl;
      fresh = refl;
      all = subst (λ (Q : PlainPolicy). tests_make_no_set Q (readings_with s u r o) n ≡ true) (sym after.policy)
          (all P (new ∷ T) (readings_with s u r o) after.typed after.sound.fit agree n);
      each = λ i. subst (λ (Q : PlainPolicy). makes_no_set_at Q (readings_with s u r o) n i ≡ true) (sym after.policy)
          (each P (new ∷ T) (readings_with s u r o) after.typed after.sound.fit agree n i);
    }

-- its explanation is that of the try after the trace
pub try_is_explained : TablesKeep → ActionsAreFollowed → AgreeingAreOne → (s : Shown) (P : PlainPolicy) (T : Trace) → Follows s P T → (u r o : Bytes)
    → refusal_shown s u r o ≡ None
    → explained_with s u r o ≡ explanation P T u r o
try_is_explained keep follow one s P T h u r o none =
    let R = readings_with s u r o in
    let row = tried admin u r o in
    let tried_so_far : length s.tables.sessions ≡ sessions T = ap (λ (c : Counts). c.sessions) (keep s P T h).counts_agree in
    ap (λ (Q : PlainPolicy). explained Q R (length s.tables.sessions + 1) row) h.policy
    ∙ ap (λ (S : Readings). explained (in_force P T) S (length s.tables.sessions + 1) row)
    (one R (readings P (with_try T u r o)) (reads_with keep follow s P T h u r o none))
    ∙ ap (λ (n : ℕ). explained (in_force P T) (readings P (with_try T u r o)) (n + 1) row) tried_so_far

-- ---- by a row and a number that are told

-- the session that is told may be judged
pub judged_by : TablesKeep → ActionsAreFollowed → TestsMakeNoSet → EachMakesNoSet → (s : Shown) (P : PlainPolicy) (T : Trace) → Follows s P T → (u r o : Bytes)
    → refusal_shown s u r o ≡ None → (row : SessionRow) (n : ℕ) → row ≡ tried admin u r o → n ≡ length s.tables.sessions + 1
    → MayBeJudged s.policy (readings_in s.policy (with_new_session s.tables row)) n row
judged_by keep follow all each s P T h u r o none row n is number =
    subst (λ (k : ℕ). MayBeJudged s.policy (readings_in s.policy (with_new_session s.tables row)) k row) (sym number)
    (subst (λ (x : SessionRow). MayBeJudged s.policy (readings_in s.policy (with_new_session s.tables x)) (length s.tables.sessions + 1) x) (sym is)
    (try_is_judged keep follow all each s P T h u r o none))

-- and is explained so
pub explained_by : (s : Shown) (u r o : Bytes) (row : SessionRow) (n : ℕ) → row ≡ tried admin u r o → n ≡ length s.tables.sessions + 1
    → explained s.policy (readings_in s.policy (with_new_session s.tables row)) n row ≡ explained_with s u r o
explained_by s u r o row n is number =
    ap (λ (k : ℕ). explained s.policy (readings_in s.policy (with_new_session s.tables row)) k row) number
    ∙ ap (λ (x : SessionRow). explained s.policy (readings_in s.policy (with_new_session s.tables x)) (length s.tables.sessions + 1) x) is
