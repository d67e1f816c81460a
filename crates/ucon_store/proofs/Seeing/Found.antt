-- What is found is what opening sees.
use Rattle.std.proofs.Common.{◌≡◌, ◌∙◌, inr, ℕ, ◌+◌, ◌<◌, ◌^◌, Bool, true, false, cond, List, [], ◌∷◌, ◌++◌, length, length-append, append-nil, Option, Some, None, refl, sym, ap, subst, arith}
use Rattle.std.specs.Prelude.{nat_lt, option_map, unwrap_or}
use Rattle.ucon_model.specs.Action.{Trace}
use Rattle.ucon_model.specs.Found as model
use Rattle.ucon_model.specs.Found.{Finding, Takes, first_gate, next_gate, gate_behind, found_behind, found_in, policy_taken}
use Rattle.ucon_model.specs.History.{History, trace, trace_from}
use Rattle.ucon_model.specs.Payload.{most_payload}
use Rattle.ucon_model.specs.Plain.{Bytes, PlainPolicy}
use Rattle.ucon_journal.specs.Found as journal
use Rattle.ucon_state.specs.Held.{held_after}
use Rattle.ucon_syntax.specs.Policies.{accepted}
use Rattle.ucon_store.specs.Found.{found}
use Rattle.ucon_store.specs.Opened as opened
use Rattle.ucon_store.specs.Opened.{IsPointOf, Parted, Seen, Sees, SeesFrom, SeesIn, SeesPast, StandsAround, first_long, parted, parted_with, seen_after, steps_after, steps_among}
use Rattle.ucon_store.specs.Points.{has_points, takes_with}
use Rattle.ucon_store.proofs.Finding.{counted_hold}
use Rattle.ucon_store.proofs.Seeing.Histories.{IsGood, PayloadLaws, nothing}
use Rattle.ucon_store.proofs.Stepping.{trace_append}
use Rattle.ucon_store.proofs.Seeing.Points.{PointLaws, point_of_history, text_of_history}
use Rattle.ucon_store.proofs.Seeing.Walk.{at_point, found_after, none_long, same_told}

-- record 0 is taken
pub record FromFirst (takes : Takes) (text : Bytes) (payloads : List Bytes) (found : Finding) : Type 0 where
  pub P : PlainPolicy
  pub short : nat_lt most_payload (length text) ≡ false
  pub accepts : accepted text ≡ Some P
  pub behind : found_behind takes text P [] 1 (next_gate first_gate text) payloads ≡ found

pub from_first : (takes : Takes) (text : Bytes) (payloads : List Bytes) (t : Bytes) (Q : PlainPolicy) (F : History) (end : ℕ) → found_in accepted takes (text ∷ payloads) ≡ model.holds t Q F end
    → FromFirst takes text payloads (model.holds t Q F end)
from_first takes text payloads t Q F end h = by (nat_lt most_payload (length text)) refl (accepted text) refl h
  where
    by : (b : Bool) → nat_lt most_payload (length text) ≡ b → (o : Option PlainPolicy) → accepted text ≡ o
        → unwrap_or (option_map (λ P. found_behind takes text P [] 1 (next_gate first_gate text) payloads) (cond b None o)) (model.damaged 0 first_gate) ≡ model.holds t Q F end
        → FromFirst takes text payloads (model.holds t Q F end)
    by true is o accepts k = absurd (cc k)
    by false is None accepts k = absurd (cc k)
    by false is (Some P) accepts k = record { P = P; short = is; accepts = accepts; behind = k }

module _ (laws : PointLaws) (payload_laws : PayloadLaws) where
  -- where a history is found under a policy
  module _ (text : Bytes) (P : PlainPolicy) (accepts : accepted text ≡ Some P) (F : History) (end : ℕ) (few : length F < 2 ^ 64) where
    abbrev seen : Seen
    seen = opened.holds text (length F) (held_after P (trace P F)) end

    opening_good : IsGood text P []
    opening_good = record { accepts = accepts; clients = tt }

    from_start : seen ≡ seen_after 0 [] (model.holds text P F end)
    from_start = let count : length F ≡ 0 + length F = omega arith in ap (λ (n : ℕ). opened.holds text n (held_after P (trace P F)) end) count

    -- it stands around the last checkpoint
    around : (payloads : List Bytes) (p : Parted) → parted payloads ≡ Some p → found_behind (takes_with true) text P [] 1 (next_gate first_gate text) payloads ≡ model.holds text P F end
        → StandsAround text P F end p
    around payloads p is h =
        let at = at_point payload_laws text P F end payloads [] 1 (next_gate first_gate text) opening_good h p is in
        let G : History = at.before in
        let number_is : 1 + length p.before + 1 ≡ length p.before + 2 = omega arith in
        let gate : ℕ = next_gate (gate_behind (next_gate first_gate text) p.before) p.point in
        let behind : found_behind (takes_with true) text P (G ++ []) (length p.before + 2) gate p.behind ≡ model.holds text P F end =
        ap (λ (l : History). found_behind (takes_with true) text P l (length p.before + 2) gate p.behind) (append-nil G)
        ∙ subst (λ (n : ℕ). found_behind (takes_with true) text P G n gate p.behind ≡ model.holds text P F end) number_is at.behind in
        let rest = found_after text P G F end p.behind at.none [] (length p.before + 2) gate behind in
        let whole : length F ≡ length (G ++ rest.more) = ap (λ (l : History). length l) rest.all in
        let few_before : length G < 2 ^ 64 = omega (arith, few, whole, length-append G rest.more) in
        let count_before : length G ≡ steps_among p.before = omega (arith, at.count) in
        record {
          before = G;
          behind = rest.more;
          all = rest.all;
          count = count_before;
          is = at.point;
          in_force = text_of_history laws payload_laws text P accepts G at.good few_before p.point at.point;
          point = subst (λ (n : ℕ). IsPointOf n P (trace P G) p.point) count_before (point_of_history laws payload_laws text P accepts G at.good few_before p.point at.point);
          told = rest.found;
        }

    from_point : (p : Parted) → StandsAround text P F end p → SeesFrom text p seen
    from_point p a =
        let T : Trace = trace P a.before in
        let count : length F ≡ steps_among p.before + length a.behind = omega (arith, ap (λ (l : History). length l) a.all, length-append a.before a.behind, a.count) in
        let traces : trace P F ≡ trace_from P T a.behind = ap (trace P) a.all ∙ trace_append P [] a.before a.behind in
        let same : seen ≡ opened.holds text (steps_among p.before + length a.behind) (held_after P (trace_from P T a.behind)) end =
        λ t. opened.holds text (count t) (held_after P (traces t)) end in
        inr (P, T, a.point, same ∙ ap (seen_after (steps_among p.before) T) (sym a.told))

    -- by whether there is a checkpoint
    past : (points : Bool) (payloads : List Bytes) → found_behind (takes_with points) text P [] 1 (next_gate first_gate text) payloads ≡ model.holds text P F end
        → (o : Option Parted) → parted_with points payloads ≡ o → SeesPast None text (Some P) o (model.holds text P F end) seen
    past points payloads h None is = from_start
    past false payloads h (Some p) is = absurd (nothing is)
    past true payloads h (Some p) is = from_point p (around payloads p is h)

  sees_in : (points : Bool) (payloads : List Bytes) (f : Finding) (text : Bytes) (P : PlainPolicy) (F : History) (end : ℕ) → length F < 2 ^ 64
      → found_in accepted (takes_with points) payloads ≡ model.holds text P F end → f ≡ model.holds text P F end
      → SeesIn points payloads f (opened.holds text (length F) (held_after P (trace P F)) end)
  sees_in points [] f text P F end few h is = absurd (cc h)
  sees_in points (t ∷ payloads) f text P F end few h is =
      let b = from_first (takes_with points) t payloads text P F end h in
      let told = same_told (takes_with points) t b.P payloads [] 1 (next_gate first_gate t) text P F end b.behind in
      let accepts : accepted t ≡ Some P = b.accepts ∙ ap (λ (Q : PlainPolicy). Some Q) told.1 in
      let accepts_text : accepted text ≡ Some P = ap accepted (sym told.0) ∙ accepts in
      let behind : found_behind (takes_with points) text P [] 1 (next_gate first_gate text) payloads ≡ model.holds text P F end =
      (λ i. found_behind (takes_with points) (sym told.0 i) (sym told.1 i) [] 1 (next_gate first_gate (sym told.0 i)) payloads) ∙ b.behind in
      let short : first_long 0 first_gate (t ∷ payloads) ≡ None =
      ap (λ (c : Bool). cond c (Some (0, first_gate)) (first_long (0 + 1) (next_gate first_gate t) payloads)) b.short
      ∙ none_long points text P payloads [] 1 (next_gate first_gate text) text P F end (0 + 1) (next_gate first_gate t) behind in
      let seen : Seen = opened.holds text (length F) (held_after P (trace P F)) end in
      let here : SeesPast None text (Some P) (parted_with points payloads) (model.holds text P F end) seen =
      past text P accepts_text F end few points payloads behind (parted_with points payloads) refl in
      let found_here : SeesPast None text (Some P) (parted_with points payloads) f seen =
      subst (λ (g : Finding). SeesPast None text (Some P) (parted_with points payloads) g seen) (sym is) here in
      let accepted_here : SeesPast None text (accepted t) (parted_with points payloads) f seen =
      subst (λ (o : Option PlainPolicy). SeesPast None text o (parted_with points payloads) f seen) (sym accepts) found_here in
      let text_here : SeesPast None t (accepted t) (parted_with points payloads) f seen =
      subst (λ (x : Bytes). SeesPast None x (accepted t) (parted_with points payloads) f seen) (sym told.0) accepted_here in
      subst (λ (o : Option (ℕ × ℕ)). SeesPast o t (accepted t) (parted_with points payloads) f seen) (sym short) text_here

  -- what is found is seen
  pub sees_found : (file text : Bytes) (P : PlainPolicy) (F : History) (end : ℕ) → found file ≡ model.holds text P F end → length F < 2 ^ 64
      → Sees file (opened.holds text (length F) (held_after P (trace P F)) end)
  sees_found file text P F end is few =
      sees_in (has_points file) (journal.counted file) (found file) text P F end few (counted_hold text P F file (record { gate = end; is = is })) is

  around_in : (payloads : List Bytes) (first text : Bytes) (P : PlainPolicy) (F : History) (end : ℕ) → length F < 2 ^ 64
      → found_in accepted (takes_with true) (first ∷ payloads) ≡ model.holds text P F end → (p : Parted) → parted payloads ≡ Some p → StandsAround text P F end p
  around_in payloads first text P F end few h p is =
      let b = from_first (takes_with true) first payloads text P F end h in
      let told = same_told (takes_with true) first b.P payloads [] 1 (next_gate first_gate first) text P F end b.behind in
      let accepts : accepted text ≡ Some P = ap accepted (sym told.0) ∙ b.accepts ∙ ap (λ (Q : PlainPolicy). Some Q) told.1 in
      around text P accepts F end few payloads p is
      ((λ i. found_behind (takes_with true) (sym told.0 i) (sym told.1 i) [] 1 (next_gate first_gate (sym told.0 i)) payloads) ∙ b.behind)

  -- a history that is found stands around the last checkpoint of its file
  pub stands_around : (file first text : Bytes) (payloads : List Bytes) (P : PlainPolicy) (F : History) (end : ℕ) (p : Parted) → found file ≡ model.holds text P F end → length F < 2 ^ 64
      → has_points file ≡ true → journal.counted file ≡ first ∷ payloads → parted payloads ≡ Some p → StandsAround text P F end p
  stands_around file first text payloads P F end p is few points counts at =
      let held : found_in accepted (takes_with true) (first ∷ payloads) ≡ model.holds text P F end =
      (λ i. found_in accepted (takes_with (sym points i)) (sym counts i)) ∙ counted_hold text P F file (record { gate = end; is = is }) in
      around_in payloads first text P F end few held p at
