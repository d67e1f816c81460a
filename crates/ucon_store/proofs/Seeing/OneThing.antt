-- Opening sees one thing in a file.
use Rattle.std.proofs.Common.{◌≡◌, ◌∙◌, inl, inr, ℕ, ◌+◌, Bool, cond, List, [], ◌∷◌, ◌++◌, length, Option, Some, None, Ok, refl, sym, ap, subst, Err}
use Rattle.std.specs.Prelude.{Result, ◌↔◌, ◌&&◌, nat_lt, option_and_then, option_map, unwrap_or}
use Rattle.std.specs.Result.{result_ok, result_unwrap_or}
use Rattle.std.specs.Str.{bytes_eq}
use Rattle.ucon_base.specs.declared.value.Side.{Side}
use Rattle.ucon_base.specs.declared.value.Side.TheVariants as sides
use Rattle.ucon_model.specs.declared.command.Caller.{Caller}
use Rattle.ucon_model.specs.declared.command.Command.{Command}
use Rattle.ucon_model.specs.Action.{Trace}
use Rattle.ucon_model.specs.Block.{reply}
use Rattle.ucon_model.specs.Found as model
use Rattle.ucon_model.specs.Found.{Finding, first_gate, next_gate, gate_behind, found_behind}
use Rattle.ucon_model.specs.History.{History, changes, trace_from}
use Rattle.ucon_model.specs.Payload.{Told, entry_told, most_payload, payload_read}
use Rattle.ucon_model.specs.Plain.{Bytes, PlainPolicy}
use Rattle.ucon_model.specs.Readings.{entities}
use Rattle.ucon_model.specs.Spelling.{reply_spelling}
use Rattle.ucon_state.specs.declared.counts.Counts.{Counts}
use Rattle.ucon_state.specs.Following.{Follows, IsFollowing, Keeps}
use Rattle.ucon_state.specs.Held.{Held, ReadsAlike, held_after}
use Rattle.ucon_state.specs.Shown.{Shown}
use Rattle.ucon_point.specs.PointRead.{IsPoint, Said, point_read, point_spelling}
use Rattle.ucon_point.specs.Standing.{Standing, put_all, start}
use Rattle.ucon_journal.specs.Found as journal
use Rattle.ucon_syntax.specs.Policies.{accepted}
use Rattle.ucon_store.specs.Found.{found}
use Rattle.ucon_store.specs.Opened as opened
use Rattle.ucon_store.specs.Opened.{IsPointOf, Parted, Seen, Sees, SeesFrom, SeesIn, SeesPast, first_long, is_next_after, parted_with, seen_after, steps_after, steps_among, with_next, steps_by}
use Rattle.ucon_store.specs.Points.{has_points}
use Rattle.ucon_store.specs.ReadBack.{IsReadPointOf, showing_only}
use Rattle.ucon_store.proofs.Seeing.SameReadings.{ReadTheSame}
use Rattle.ucon_store.proofs.Seeing.SameReplies.{reply_same, same_from}

-- ---- what a state follows reads the same

module _ (keeps : (s : Shown) (P : PlainPolicy) (T : Trace) → Follows s P T → Keeps s.policy s.tables P T) where
  counted_same : (s : Shown) (P : PlainPolicy) (T : Trace) (Q : PlainPolicy) (U : Trace) → Keeps s.policy s.tables P T → Keeps s.policy s.tables Q U → (side : Side) → entities side T ≡ entities side U
  counted_same s P T Q U k l sides.Subject = ap (λ (c : Counts). c.subjects) (sym k.counts_agree ∙ l.counts_agree)
  counted_same s P T Q U k l sides.Object = ap (λ (c : Counts). c.objects) (sym k.counts_agree ∙ l.counts_agree)

  pub both_followed : (s : Shown) (P : PlainPolicy) (T : Trace) (Q : PlainPolicy) (U : Trace) → Follows s P T → Follows s Q U → ReadTheSame P T Q U
  both_followed s P T Q U f g =
      let k = keeps s P T f in
      let l = keeps s Q U g in
      record {
        policy = sym f.policy ∙ g.policy;
        now = sym k.readings_agree.now ∙ l.readings_agree.now;
        there = λ side e. sym (k.entity_is_there side e) ∙ l.entity_is_there side e;
        names = λ side. sym (k.names side) ∙ l.names side;
        count = counted_same s P T Q U k l;
        values = λ side e attr. sym (k.attribute_agrees side e attr) ∙ l.attribute_agrees side e attr;
        variables = λ name. sym (k.variable_agrees name) ∙ l.variable_agrees name;
        moments = λ a b c. sym (k.readings_agree.done_at a b c) ∙ l.readings_agree.done_at a b c;
        rows = sym k.act_rows_agree ∙ l.act_rows_agree;
        acts_count = ap (λ (c : Counts). c.acts) (sym k.counts_agree ∙ l.counts_agree);
        one = λ n. sym (k.readings_agree.row n) ∙ l.readings_agree.row n;
        sessions_count = ap (λ (c : Counts). c.sessions) (sym k.counts_agree ∙ l.counts_agree);
      }

  pub held_too : (P : PlainPolicy) (T : Trace) (Q : PlainPolicy) (U : Trace) → ReadTheSame P T Q U → held_after P T ≡ held_after Q U
  held_too P T Q U h = λ t. record {
    policy = h.policy t;
    names = λ side. h.names side t;
    attribute = λ side e attr. h.values side e attr t;
    variable = λ name. h.variables name t;
    tick = h.now t;
    acts = h.rows t;
    moment = λ a b c. h.moments a b c t;
    sessions = h.sessions_count t;
    session = λ n. h.one n t;
  }

  pub replies_alike : (s : Shown) (P : PlainPolicy) (T : Trace) (Q : PlainPolicy) (U : Trace) → Follows s P T → Follows s Q U → (H : History) (caller : Caller) (c : Command)
      → reply P (trace_from P T H) caller c ≡ reply Q (trace_from Q U H) caller c
  replies_alike s P T Q U f g H caller c = reply_same P (trace_from P T H) Q (trace_from Q U H) (same_from P T Q U (both_followed s P T Q U f g) H) caller c

  pub held_alike_behind : (s : Shown) (P : PlainPolicy) (T : Trace) (Q : PlainPolicy) (U : Trace) → Follows s P T → Follows s Q U → (H : History)
      → held_after P (trace_from P T H) ≡ held_after Q (trace_from Q U H)
  held_alike_behind s P T Q U f g H = held_too P (trace_from P T H) Q (trace_from Q U H) (same_from P T Q U (both_followed s P T Q U f g) H)

  module _ (alike : (s : Shown) (P : PlainPolicy) (T : Trace) → IsFollowing s → Follows s P T ↔ ReadsAlike s P T)
      (points : (bytes : Bytes) (p : Said) → point_read bytes ≡ Ok p → IsPoint p × (point_spelling p ≡ bytes))
      (followed : (p : Said) (end : Standing) → IsPoint p → put_all p.policy (start p.policy p.tick) p.rows ≡ Some end
      → (s : Shown) → s.policy ≡ p.policy → s.tables ≡ end.tables → IsFollowing s)
      (back : (entries : ℕ) (P : PlainPolicy) (T : Trace) (payload : Bytes) → IsPointOf entries P T payload ↔ IsReadPointOf entries P T payload) where
    -- ---- two traces that lead to one checkpoint

    -- a trace that leads to a checkpoint is followed by the state that its rows make
    pub point_followed : (entries : ℕ) (payload : Bytes) (Q : PlainPolicy) (U : Trace) → IsPointOf entries Q U payload → (said : Said) (end : Standing) → point_read payload ≡ Ok said
        → put_all said.policy (start said.policy said.tick) said.rows ≡ Some end → Follows (showing_only said.policy end.tables) Q U
    point_followed entries payload Q U point said end reads made =
        let b = (back entries Q U payload).0 point in
        let same : b.said ≡ said = ap (λ (r : Result Said ℕ). result_unwrap_or r said) (sym b.reads ∙ reads) in
        let state : Shown = showing_only said.policy end.tables in
        let made_too : put_all said.policy (start said.policy said.tick) said.rows ≡ Some b.end =
        subst (λ (p : Said). put_all p.policy (start p.policy p.tick) p.rows ≡ Some b.end) same b.made in
        let ends : b.end ≡ end = ap (λ (o : Option Standing). unwrap_or o end) (sym made_too ∙ made) in
        let states : showing_only b.said.policy b.end.tables ≡ state = λ t. showing_only (same t).policy (ends t).tables in
        let following : IsFollowing state = followed said end (points payload said reads).0 made state refl refl in
        (alike state Q U following).1 (subst (λ (s : Shown). ReadsAlike s Q U) states b.alike)

    same_point : (entries : ℕ) (payload : Bytes) (P : PlainPolicy) (T : Trace) (Q : PlainPolicy) (U : Trace) → IsPointOf entries P T payload → IsPointOf entries Q U payload → ReadTheSame P T Q U
    same_point entries payload P T Q U a b =
        let k = (back entries P T payload).0 a in
        both_followed (showing_only k.said.policy k.end.tables) P T Q U (point_followed entries payload P T a k.said k.end k.reads k.made)
        (point_followed entries payload Q U b k.said k.end k.reads k.made)

    -- ---- what is found behind them

    module _ (text : Bytes) (P : PlainPolicy) (T : Trace) (Q : PlainPolicy) (U : Trace) (h : ReadTheSame P T Q U) where
      next_too : (H : History) (t : Told) → is_next_after T P H t ≡ is_next_after U Q H t
      next_too H t =
          let replies = reply_same P (trace_from P T H) Q (trace_from Q U H) (same_from P T Q U h H) t.caller t.command in
          λ i. changes t.reply && bytes_eq (reply_spelling t.reply) (reply_spelling (replies i))

      with_too : (H : History) (r : Result Told ℕ) → option_and_then (with_next T P H) (result_ok r) ≡ option_and_then (with_next U Q H) (result_ok r)
      with_too H (Err place) = refl
      with_too H (Ok t) = ap (λ (b : Bool). cond b (Some (H ++ entry_told t ∷ [])) None) (next_too H t)

      steps_too : (H : History) (payload : Bytes) → steps_after T text P H payload ≡ steps_after U text Q H payload
      unfolding steps_by
      steps_too H payload = ap (λ (o : Option History). cond (nat_lt most_payload (length payload)) None o) (with_too H (payload_read accepted payload))

      seen_too : (entries : ℕ) (payloads : List Bytes) (H : History) (number gate : ℕ)
          → seen_after entries T (found_behind (steps_after T) text P H number gate payloads) ≡ seen_after entries U (found_behind (steps_after U) text Q H number gate payloads)
      seen_too entries [] H number gate =
          ap (λ (there : Held). opened.holds text (entries + length H) there gate) (held_too P (trace_from P T H) Q (trace_from Q U H) (same_from P T Q U h H))
      seen_too entries (payload ∷ payloads) H number gate =
          by (steps_after T text P H payload) (λ later. seen_too entries payloads later (number + 1) (next_gate gate payload))
          ∙ ap (λ (o : Option History). seen_after entries U (unwrap_or (option_map (λ later. found_behind (steps_after U) text Q later (number + 1) (next_gate gate payload) payloads) o) (model.damaged number gate)))
          (steps_too H payload)
        where
          by : (o : Option History)
              → ((later : History) → seen_after entries T (found_behind (steps_after T) text P later (number + 1) (next_gate gate payload) payloads)
              ≡ seen_after entries U (found_behind (steps_after U) text Q later (number + 1) (next_gate gate payload) payloads))
              → seen_after entries T (unwrap_or (option_map (λ later. found_behind (steps_after T) text P later (number + 1) (next_gate gate payload) payloads) o) (model.damaged number gate))
              ≡ seen_after entries U (unwrap_or (option_map (λ later. found_behind (steps_after U) text Q later (number + 1) (next_gate gate payload) payloads) o) (model.damaged number gate))
          by None rest = refl
          by (Some later) rest = rest later

    -- ---- the whole walk

    one_from : (text : Bytes) (p : Parted) (one other : Seen) → SeesFrom text p one → SeesFrom text p other → one ≡ other
    one_from text p one other (inl a) (inl b) = a.1 ∙ sym b.1
    one_from text p one other (inl a) (inr b) = absurd (a.0 b.0 b.1 b.2)
    one_from text p one other (inr a) (inl b) = absurd (b.0 a.0 a.1 a.2)
    one_from text p one other (inr a) (inr b) =
        let same = same_point (steps_among p.before) p.point a.0 a.1 b.0 b.1 a.2 b.2 in
        a.3 ∙ seen_too text a.0 a.1 b.0 b.1 same (steps_among p.before) p.behind [] (length p.before + 2) (next_gate (gate_behind (next_gate first_gate text) p.before) p.point)
        ∙ sym b.3

    one_past : (long : Option (ℕ × ℕ)) (text : Bytes) (policy : Option PlainPolicy) (o : Option Parted) (f : Finding) (one other : Seen)
        → SeesPast long text policy o f one → SeesPast long text policy o f other → one ≡ other
    one_past (Some long) text policy o f one other a b = a ∙ sym b
    one_past None text None o f one other a b = a ∙ sym b
    one_past None text (Some P) None f one other a b = a ∙ sym b
    one_past None text (Some P) (Some p) f one other a b = one_from text p one other a b

    one_in : (points : Bool) (payloads : List Bytes) (f : Finding) (one other : Seen) → SeesIn points payloads f one → SeesIn points payloads f other → one ≡ other
    one_in points [] f one other a b = a ∙ sym b
    one_in points (text ∷ payloads) f one other a b = one_past (first_long 0 first_gate (text ∷ payloads)) text (accepted text) (parted_with points payloads) f one other a b

    pub one_thing : (file : Bytes) (one other : Seen) → Sees file one → Sees file other → one ≡ other
    one_thing file one other a b = one_in (has_points file) (journal.counted file) (found file) one other a b
