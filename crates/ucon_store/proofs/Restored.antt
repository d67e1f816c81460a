-- An engine that has taken up the state of a checkpoint goes on behind each trace that leads there, and under each policy there is one.
use Rattle.std.proofs.Common.{◌≡◌, ◌∙◌, ℕ, ◌≤◌, List, [], ◌∷◌, ◌++◌, length, Some, Ok, Err, false, refl, sym, ap, subst}
use Rattle.std.specs.Prelude.{Result, ◌↔◌}
use Rattle.std.specs.Result.{result_unwrap_or}
use Rattle.ucon_base.specs.declared.value.Side.{Side}
use Rattle.ucon_base.specs.declared.value.Side.TheVariants as sides
use Rattle.ucon_model.specs.declared.command.Caller.{Caller}
use Rattle.ucon_model.specs.declared.command.Command.{Command}
use Rattle.ucon_model.specs.Action.{Trace, amend}
use Rattle.ucon_model.specs.Block.{reply}
use Rattle.ucon_model.specs.History.{History, trace_from}
use Rattle.ucon_model.specs.Payload.{revocations_in}
use Rattle.ucon_model.specs.Plain.{Bytes, PlainPolicy}
use Rattle.ucon_model.specs.Readings.{accessing, attribute, entities, entity_names, has_entity, sessions}
use Rattle.ucon_model.specs.Settle.{least_failing}
use Rattle.ucon_model.specs.Sound.{IsSound}
use Rattle.ucon_model.specs.Work.{NobodyFails}
use Rattle.ucon_state.specs.declared.counts.Counts.{Counts}
use Rattle.ucon_state.specs.Following.{AfterEach, Follows, IsFollowing, Keeps}
use Rattle.ucon_state.specs.Held.{ReadsAlike}
use Rattle.ucon_state.specs.Shown.{Shown, shown}
use Rattle.ucon_point.specs.declared.point.Point.{Point}
use Rattle.ucon_point.specs.Opened.{IsRead}
use Rattle.ucon_point.specs.PointRead.{IsPoint, Said, point_read, point_spelling}
use Rattle.ucon_point.specs.Standing.{Standing, put_all, start}
use Rattle.ucon_store.specs.declared.beginning.Beginning.{Beginning}
use Rattle.ucon_store.specs.Loading.{IsOfNone, TakesUp}
use Rattle.ucon_store.specs.Opened.{IsPointOf, text_said}
use Rattle.ucon_store.specs.ReadBack.{IsReadPointOf, showing_only}
use Rattle.ucon_store.proofs.FewPut.{points_few}
use Rattle.ucon_store.proofs.Seeing.Always.{least_none}
use Rattle.ucon_store.proofs.Seeing.Histories.{nothing}
use Rattle.ucon_store.proofs.Seeing.OneThing.{held_too, point_followed}
use Rattle.ucon_store.proofs.Seeing.SameReadings.{ReadTheSame, same_step}

-- ---- each trace goes on under another policy

-- a policy of nothing
abbrev nothing_declared : PlainPolicy
nothing_declared = record { attrs = []; envs = []; rights = [] }

-- where this policy comes into force, behind one that has nothing
abbrev coming : PlainPolicy → Trace
coming Q = amend [] Q ∷ amend [] nothing_declared ∷ []

none_there : (Q : PlainPolicy) (side : Side) (e : Bytes) → has_entity side e (coming Q) ≡ false
none_there Q sides.Subject e = refl
none_there Q sides.Object e = refl

no_names : (Q : PlainPolicy) (side : Side) → entity_names side (coming Q) ≡ []
no_names Q sides.Subject = refl
no_names Q sides.Object = refl

no_entities : (Q : PlainPolicy) (side : Side) → entities side (coming Q) ≡ 0
no_entities Q sides.Subject = refl
no_entities Q sides.Object = refl

no_values : (P Q : PlainPolicy) (side : Side) (e attr : Bytes) → attribute P (coming Q) side e attr ≡ attribute Q [] side e attr
no_values P Q sides.Subject e attr = refl
no_values P Q sides.Object e attr = refl

-- it is as if the trace had begun with it
as_begun : (P Q : PlainPolicy) → ReadTheSame P (coming Q) Q []
as_begun P Q = record {
  policy = refl;
  now = refl;
  there = λ side e. none_there Q side e;
  names = λ side. no_names Q side;
  count = λ side. no_entities Q side;
  values = λ side e attr. no_values P Q side e attr;
  variables = λ name. refl;
  moments = λ s a o. refl;
  rows = refl;
  acts_count = refl;
  one = λ n. refl;
  sessions_count = refl;
}

goes_on_alike : (P Q : PlainPolicy) (U : Trace) → ReadTheSame P (U ++ coming Q) Q U
goes_on_alike P Q [] = as_begun P Q
goes_on_alike P Q (a ∷ U) = same_step P (U ++ coming Q) Q U (goes_on_alike P Q U) a

-- ---- at a checkpoint

-- what the state that was read shows
pub shown_read : (read : Result Said ℕ) (p : Point) (r : IsRead read p) → shown p.state ≡ showing_only r.said.policy r.end.tables
shown_read read p r = λ i. record {
  policy = r.policy i;
  tables = r.tables i;
  opening_policy = (r.settled.same_policy ∙ r.policy) i;
  opening = (r.settled.same_tables ∙ r.tables) i;
}

module _ (keeps : (s : Shown) (P : PlainPolicy) (T : Trace) → Follows s P T → Keeps s.policy s.tables P T)
    (alike : (s : Shown) (P : PlainPolicy) (T : Trace) → IsFollowing s → Follows s P T ↔ ReadsAlike s P T)
    (points : (bytes : Bytes) (p : Said) → point_read bytes ≡ Ok p → IsPoint p × (point_spelling p ≡ bytes))
    (followed : (p : Said) (end : Standing) → IsPoint p → put_all p.policy (start p.policy p.tick) p.rows ≡ Some end
    → (s : Shown) → s.policy ≡ p.policy → s.tables ≡ end.tables → IsFollowing s)
    (back : (entries : ℕ) (P : PlainPolicy) (T : Trace) (payload : Bytes) → IsPointOf entries P T payload ↔ IsReadPointOf entries P T payload) where
  -- a state that follows a trace follows one under each policy
  followed_under : (s : Shown) → IsFollowing s → (P : PlainPolicy) → (T : Trace) × Follows s P T
  followed_under s f P =
      let Q = f.policy in
      let U = f.trace in
      let T : Trace = U ++ coming Q in
      let same = goes_on_alike P Q U in
      let reads = (alike s Q U f).0 f.follows in
      let reads_too : ReadsAlike s P T = record {
        held_alike = reads.held_alike ∙ sym (held_too keeps P T Q U same);
        made_once = λ side. same.count side ∙ reads.made_once side ∙ ap (λ (l : List Bytes). length l) (sym (same.names side));
      } in
      (T, (alike s P T f).1 reads_too)

  -- what is read in the payload
  module _ (entries : ℕ) (payload : Bytes) (said : Said) (reads : point_read payload ≡ Ok said) (end : Standing) (made : put_all said.policy (start said.policy said.tick) said.rows ≡ Some end) where
    abbrev pub state : Shown
    state = showing_only said.policy end.tables

    is_following : IsFollowing state
    is_following = followed said end (points payload said reads).0 made state refl refl

    -- the state follows each trace that leads there
    pub follows_point : (P : PlainPolicy) (T : Trace) → IsPointOf entries P T payload → Follows state P T
    follows_point P T k = point_followed keeps alike points followed back entries payload P T k said end reads made

    pub other_count : (said.entries ≡ entries → ⊥) → IsOfNone entries payload
    other_count other P T point =
        let k = (back entries P T payload).0 point in
        let same : k.said ≡ said = ap (λ (r : Result Said ℕ). result_unwrap_or r said) (sym k.reads ∙ reads) in
        other (ap (λ (p : Said). p.entries) (sym same) ∙ k.count)

    pub unsettled : (n : ℕ) (label : Bytes) → AfterEach state (λ P T. least_failing P T ≡ Some (n, label)) → IsOfNone entries payload
    unsettled n label fails P T k = nothing (sym (least_none P T k.settled 1 (sessions T)) ∙ fails P T (follows_point P T k))

    module _ {E : Type 0} (follows : E → PlainPolicy → Trace → Type 0) (engine : E) (point : Beginning) (text : Bytes)
        (usages : (P : PlainPolicy) (T : Trace) → IsSound P T → accessing T ≤ 65536 → (H : History) (caller : Caller) (c : Command) → length (revocations_in (reply P (trace_from P T H) caller c)) ≤ 65536)
        (up : AfterEach state (λ P T. follows engine P T × NobodyFails P T)) where
      few_there : (P : PlainPolicy) (T : Trace) → Follows state P T → accessing T ≤ 65536
      few_there P T f =
          subst (λ (n : ℕ). n ≤ 65536) (ap (λ (c : Counts). c.accessing) (keeps state P T f).counts_agree) (points_few said.policy said.tick said.rows end made)

      pub takes_up : said.entries ≡ entries → point.payload.items ≡ payload → text ≡ said.text → TakesUp follows entries payload engine point text
      takes_up count payload_is text_is = record {
        payload_is = payload_is;
        in_force = λ first. ap (text_said first) reads ∙ sym text_is;
        leads = λ P.
            let f = followed_under state is_following P in
            let k : IsReadPointOf entries P f.0 payload =
            record { said = said; reads = reads; count = count; end = end; made = made; alike = (alike state P f.0 is_following).0 f.1; settled = (up P f.0 f.1).1 } in
            (f.0, (back entries P f.0 payload).1 k);
        stands = λ P T k. (up P T (follows_point P T k)).0;
        revokes = λ P T k. let f = follows_point P T k in usages P T f.sound (few_there P T f);
      }

-- the payload isn't read
pub unread_none : ((entries : ℕ) (P : PlainPolicy) (T : Trace) (payload : Bytes) → IsPointOf entries P T payload ↔ IsReadPointOf entries P T payload)
    → (entries : ℕ) (payload : Bytes) (place : ℕ) → point_read payload ≡ Err place → IsOfNone entries payload
unread_none back entries payload place read P T point = absurd (let k = (back entries P T payload).0 point in let bad : Err place ≡ Ok k.said = sym read ∙ k.reads in cc bad)
