-- Opening sees something in every file.
use Rattle.std.proofs.Common.{◌≡◌, ◌∙◌, inl, inr, ℕ, zero, suc, ◌+◌, Bool, true, false, List, [], ◌∷◌, length, Option, Some, None, Ok, Err, is_ok, refl, sym, ap, arith}
use Rattle.std.specs.Prelude.{Result, ◌⊎◌, ◌↔◌, nat_eq}
use Rattle.std.specs.Option.{option_map_or}
use Rattle.std.specs.Result.{result_unwrap_or}
use Rattle.std.proofs.lemmas.Bool.{false≢true}
use Rattle.std.proofs.lemmas.Bool.Decides.{nat_tests}
use Rattle.ucon_model.specs.Action.{Trace}
use Rattle.ucon_model.specs.Found.{Finding, first_gate, next_gate, gate_behind, found_behind}
use Rattle.ucon_model.specs.Plain.{Bytes, PlainPolicy}
use Rattle.ucon_model.specs.Readings.{sessions}
use Rattle.ucon_model.specs.Settle.{fails_at, least_failing, least_from}
use Rattle.ucon_model.specs.Sound.{IsNumbered}
use Rattle.ucon_model.specs.Work.{NobodyFails}
use Rattle.ucon_state.specs.Following.{Follows, IsFollowing, Keeps}
use Rattle.ucon_state.specs.Held.{ReadsAlike}
use Rattle.ucon_state.specs.Shown.{Shown}
use Rattle.ucon_point.specs.Order.{awaited}
use Rattle.ucon_point.specs.PointRead.{IsPoint, Said, point_read, point_spelling}
use Rattle.ucon_point.specs.Standing.{Standing, put_all, start}
use Rattle.ucon_journal.specs.Found as journal
use Rattle.ucon_syntax.specs.Policies.{accepted}
use Rattle.ucon_store.specs.Found.{found}
use Rattle.ucon_store.specs.Opened as opened
use Rattle.ucon_store.specs.Opened.{IsPointOf, Parted, Seen, Sees, SeesFrom, SeesIn, SeesPast, first_long, parted_with, seen_after, steps_after, steps_among}
use Rattle.ucon_store.specs.Points.{has_points}
use Rattle.ucon_store.specs.ReadBack.{IsReadPointOf, showing_only}
use Rattle.ucon_store.proofs.Seeing.Histories.{nothing}
use Rattle.ucon_store.proofs.Seeing.OneThing.{both_followed, point_followed}
use Rattle.ucon_store.proofs.Seeing.Points.{the_end}
use Rattle.ucon_store.proofs.Seeing.SameReplies.{least_failing_same}

-- where nobody fails, no least one does
pub least_none : (P : PlainPolicy) (T : Trace) → NobodyFails P T → (n left : ℕ) → least_from P T n left ≡ None
least_none P T nobody n zero = refl
least_none P T nobody n (suc left) = ap (λ (o : Option Bytes). option_map_or (λ label. Some (n, label)) o (least_from P T (n + 1) left)) (nobody n) ∙ least_none P T nobody (n + 1) left

equal_if : (m n : ℕ) → nat_eq m n ≡ true → m ≡ n
equal_if m n h = grind (arith, nat_tests)

other_if : (m n : ℕ) → nat_eq m n ≡ false → m ≡ n → ⊥
other_if m n h same = grind (arith, nat_tests)

not_both : (place : ℕ) (said : Said) → Err place ≡ Ok said → ⊥
not_both place said h = false≢true (ap is_ok h)

module _ (keeps : (s : Shown) (P : PlainPolicy) (T : Trace) → Follows s P T → Keeps s.policy s.tables P T)
    (alike : (s : Shown) (P : PlainPolicy) (T : Trace) → IsFollowing s → Follows s P T ↔ ReadsAlike s P T)
    (points : (bytes : Bytes) (p : Said) → point_read bytes ≡ Ok p → IsPoint p × (point_spelling p ≡ bytes))
    (followed : (p : Said) (end : Standing) → IsPoint p → put_all p.policy (start p.policy p.tick) p.rows ≡ Some end
    → (s : Shown) → s.policy ≡ p.policy → s.tables ≡ end.tables → IsFollowing s)
    (back : (entries : ℕ) (P : PlainPolicy) (T : Trace) (payload : Bytes) → IsPointOf entries P T payload ↔ IsReadPointOf entries P T payload)
    (nobody : (P : PlainPolicy) (T : Trace) → IsNumbered T → least_failing P T ≡ None → (n : ℕ) → fails_at P T n ≡ None) where
  abbrev IsNone : ℕ → Bytes → Type 0
  IsNone entries payload = (P : PlainPolicy) (T : Trace) → IsPointOf entries P T payload → ⊥

  abbrev IsSomeTrace : ℕ → Bytes → Type 0
  IsSomeTrace entries payload = (P : PlainPolicy) × (T : Trace) × IsPointOf entries P T payload

  -- the checkpoint of no trace, or of one
  module _ (entries : ℕ) (payload : Bytes) where
    refused : (place : ℕ) → point_read payload ≡ Err place → IsNone entries payload
    refused place read P T point = let k = (back entries P T payload).0 point in not_both place k.said (sym read ∙ k.reads)

    other_count : (said : Said) → point_read payload ≡ Ok said → (said.entries ≡ entries → ⊥) → IsNone entries payload
    other_count said read other P T point =
        let k = (back entries P T payload).0 point in
        let same : k.said ≡ said = ap (λ (r : Result Said ℕ). result_unwrap_or r said) (sym k.reads ∙ read) in
        other (ap (λ (p : Said). p.entries) (sym same) ∙ k.count)

    module _ (said : Said) (read : point_read payload ≡ Ok said) (count : said.entries ≡ entries) where
      is_point : IsPoint said
      is_point = (points payload said read).0

      made : (e : Standing) × (put_all said.policy (start said.policy said.tick) said.rows ≡ Some e)
      made = the_end (put_all said.policy (start said.policy said.tick) said.rows) (λ s. awaited said.policy s.reached ≡ None) is_point.order

      abbrev state : Shown
      state = showing_only said.policy made.0.tables

      following : IsFollowing state
      following = followed said made.0 is_point made.1 state refl refl

      abbrev P : PlainPolicy
      P = following.policy

      abbrev T : Trace
      T = following.trace

      settled_or_not : (o : Option (ℕ × Bytes)) → least_failing P T ≡ o → IsNone entries payload ⊎ IsSomeTrace entries payload
      settled_or_not None least = inr (
        P,
        T,
        (back entries P T payload).1 (record {
          said = said;
          reads = read;
          count = count;
          end = made.0;
          made = made.1;
          alike = (alike state P T following).0 following.follows;
          settled = nobody P T following.follows.sound.numbered least;
        }),
      )
      settled_or_not (Some f) least = inl (λ Q U point.
          let follows = point_followed keeps alike points followed back entries payload Q U point said made.0 read made.1 in
          let same = least_failing_same P T Q U (both_followed keeps state P T Q U following.follows follows) in
          nothing (sym (least_none Q U point.settled 1 (sessions U)) ∙ sym same ∙ least))

    counted : (said : Said) → point_read payload ≡ Ok said → (b : Bool) → nat_eq said.entries entries ≡ b → IsNone entries payload ⊎ IsSomeTrace entries payload
    counted said read true is =
        let count = equal_if said.entries entries is in
        let follows = following said read count in
        settled_or_not said read count (least_failing follows.policy follows.trace) refl
    counted said read false is = inl (other_count said read (other_if said.entries entries is))

    by_reading : (r : Result Said ℕ) → point_read payload ≡ r → IsNone entries payload ⊎ IsSomeTrace entries payload
    by_reading (Err place) read = inl (refused place read)
    by_reading (Ok said) read = counted said read (nat_eq said.entries entries) refl

  sees_from : (text : Bytes) (p : Parted) → (seen : Seen) × SeesFrom text p seen
  sees_from text p = by (by_reading (steps_among p.before) p.point (point_read p.point) refl)
    where
      by : IsNone (steps_among p.before) p.point ⊎ IsSomeTrace (steps_among p.before) p.point → (seen : Seen) × SeesFrom text p seen
      by (inl none) = (opened.damaged (length p.before + 1) (gate_behind (next_gate first_gate text) p.before), inl (none, refl))
      by (inr some) = (
        seen_after (steps_among p.before) some.1 (found_behind (steps_after some.1) text some.0 [] (length p.before + 2)
            (next_gate (gate_behind (next_gate first_gate text) p.before) p.point) p.behind),
        inr (some.0, some.1, some.2, refl),
      )

  sees_past : (long : Option (ℕ × ℕ)) (text : Bytes) (policy : Option PlainPolicy) (o : Option Parted) (f : Finding) → (seen : Seen) × SeesPast long text policy o f seen
  sees_past (Some long) text policy o f = (opened.damaged long.0 long.1, refl)
  sees_past None text None o f = (opened.damaged 0 first_gate, refl)
  sees_past None text (Some P) None f = (seen_after 0 [] f, refl)
  sees_past None text (Some P) (Some p) f = sees_from text p

  sees_in : (points : Bool) (payloads : List Bytes) (f : Finding) → (seen : Seen) × SeesIn points payloads f seen
  sees_in points [] f = (seen_after 0 [] f, refl)
  sees_in points (text ∷ payloads) f = sees_past (first_long 0 first_gate (text ∷ payloads)) text (accepted text) (parted_with points payloads) f

  pub something : (file : Bytes) → (seen : Seen) × Sees file seen
  something file = sees_in (has_points file) (journal.counted file) (found file)
