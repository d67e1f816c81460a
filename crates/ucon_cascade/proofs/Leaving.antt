-- A session leaves its list: the readers stay exact, and the sessions grouped.
use Rattle.std.proofs.Common.{◌≡◌, ◌≢◌, ◌↔◌, ◌⊎◌, ◌∙◌, inl, inr, ℕ, Bool, true, false, List, [], sym, ap, subst}
use Rattle.std.specs.Prelude.{Option, Some, None, IsSome, IfSome, cond}
use Rattle.std.specs.List.{Contains, list_any}
use Rattle.std.specs.Option.{option_map_or}
use Rattle.std.proofs.lemmas.Bool.Decides.{eqb_tells}
use Rattle.ucon_actions.specs.Leads.{KeepsBase}
use Rattle.ucon_model.specs.declared.formula.Ref.{Ref}
use Rattle.ucon_model.specs.declared.session.SessionRow.{SessionRow}
use Rattle.ucon_model.specs.Decision.{right_named}
use Rattle.ucon_model.specs.Groups.{JudgedAlike, is_of_side}
use Rattle.ucon_model.specs.Places.{places_read}
use Rattle.ucon_model.specs.Plain.{Bytes, PlainPolicy}
use Rattle.ucon_model.specs.Reach.{places_of, right_timed, timed_of}
use Rattle.ucon_model.specs.Readings.{is_accessing_state}
use Rattle.ucon_model.specs.Usages.{going_on}
use Rattle.ucon_state.specs.Shown.{Shown}
use Rattle.ucon_state.specs.Tables.{session_in}
use Rattle.ucon_cascade.specs.Grouping.{AreAlike, AreGrouped}
use Rattle.ucon_cascade.specs.Leaving.{IsNext, LeavesList}
use Rattle.ucon_cascade.specs.Numbering.{IsExact}
use Rattle.ucon_cascade.specs.Putting.{GoesOn}
use Rattle.ucon_cascade.proofs.Exact.{numbered_still, numbers_stay}

-- ---- judged alike

pub same_timed : (Q : PlainPolicy) (row other : SessionRow) → row.right ≡ other.right → timed_of Q row ≡ timed_of Q other
same_timed Q row other same = ap (λ (right : Bytes). option_map_or right_timed (right_named Q.rights right) []) same

pub same_places : (Q : PlainPolicy) (row other : SessionRow) → row.right ≡ other.right → places_of Q row ≡ places_of Q other
same_places Q row other same = ap (λ (right : Bytes). option_map_or places_read (right_named Q.rights right) []) same

pub alike_turned : (Q : PlainPolicy) (row other : SessionRow) → JudgedAlike Q row other → JudgedAlike Q other row
alike_turned Q row other alike = record {
  right = sym alike.right;
  untimed = sym (same_timed Q row other alike.right) ∙ alike.untimed;
  entities = λ side reads. sym (alike.entities side (ap (λ (places : List Ref). list_any (is_of_side side) places) (same_places Q row other alike.right) ∙ reads));
}

pub alike_then : (Q : PlainPolicy) (row other third : SessionRow) → JudgedAlike Q row other → JudgedAlike Q other third → JudgedAlike Q row third
alike_then Q row other third one two = record {
  right = one.right ∙ two.right;
  untimed = one.untimed;
  entities = λ side reads.
      one.entities side reads
      ∙ two.entities side (ap (λ (places : List Ref). list_any (is_of_side side) places) (sym (same_places Q row other one.right)) ∙ reads);
}

one_row : (o : Option SessionRow) (row other : SessionRow) → o ≡ Some row → o ≡ Some other → row ≡ other
one_row o row other is told = let both : Some row ≡ Some other = sym is ∙ told in cc

-- two that are judged like one are judged alike
pub alike_both : (s : Shown) (k m n : ℕ) → AreAlike s k m → AreAlike s k n → AreAlike s m n
alike_both s k m n one two =
    let same : two.row ≡ one.row = one_row (session_in s.tables k) two.row one.row two.is one.is in
    record {
      row = one.other;
      other = two.other;
      is = one.other_is;
      other_is = two.other_is;
      alike = alike_then s.policy one.other one.row two.other (alike_turned s.policy one.row one.other one.alike)
          (subst (λ (r : SessionRow). JudgedAlike s.policy r two.other) same two.alike);
    }

-- ---- whose usages go on stay alike

goes_as : (o o' : Option SessionRow) (row : SessionRow) → going_on o' ≡ going_on o → IsSome (going_on o) → o ≡ Some row → o' ≡ Some row
goes_as None o' row same some is = absurd (let no : false ≡ true = some in cc)
goes_as (Some other) None row same some is = absurd (let no : IsSome {T = SessionRow} None = subst (λ (o : Option SessionRow). IsSome o) (sym same) some in let not : false ≡ true = no in cc)
goes_as (Some other) (Some row') row same some is = by (is_accessing_state other.state) (is_accessing_state row'.state) same some
  where
    by : (b b' : Bool) → cond b' (Some row') None ≡ cond b (Some other) None → IsSome (cond b (Some other) None) → Some row' ≡ Some row
    by true true same some = same ∙ is
    by true false same some = absurd (let no : None ≡ Some other = same in cc)
    by false b' same some = absurd (let no : false ≡ true = some in cc)

pub alike_still : (s s' : Shown) (m n : ℕ) → KeepsBase s s' → GoesOn s m → GoesOn s n → going_on (session_in s'.tables m) ≡ going_on (session_in s.tables m)
    → going_on (session_in s'.tables n) ≡ going_on (session_in s.tables n) → AreAlike s m n → AreAlike s' m n
alike_still s s' m n base on on' same same' alike = record {
  row = alike.row;
  other = alike.other;
  is = goes_as (session_in s.tables m) (session_in s'.tables m) alike.row same on alike.is;
  other_is = goes_as (session_in s.tables n) (session_in s'.tables n) alike.other same' on' alike.other_is;
  alike = subst (λ (Q : PlainPolicy). JudgedAlike Q alike.row alike.other) (sym base.policy) alike.alike;
}

-- ---- session k leaves its list, since its usage is over

module _ (s s' : Shown) (k : ℕ) (base : KeepsBase s s') (over : going_on (session_in s'.tables k) ≡ None)
    (same : (n : ℕ) → n ≢ k → going_on (session_in s'.tables n) ≡ going_on (session_in s.tables n)) where
  goes_no_more : (n : ℕ) (row : SessionRow) → going_on (session_in s'.tables n) ≡ Some row → n ≢ k
  goes_no_more n row is at =
      let no : None ≡ Some row = sym over ∙ ap (λ (m : ℕ). going_on (session_in s'.tables m)) (sym at) ∙ is in
      cc

  on_no_more : (n : ℕ) → GoesOn s' n → n ≢ k
  on_no_more n goes at =
      let none : going_on (session_in s'.tables n) ≡ None = ap (λ (m : ℕ). going_on (session_in s'.tables m)) at ∙ over in
      let no : IsSome {T = SessionRow} None = subst (λ (o : Option SessionRow). IsSome o) none goes in
      let not : false ≡ true = no in
      cc

  -- the others still read what they read
  pub exact_left : (standing standing' : ℕ → List ℕ) → IsExact s standing
      → ((n place : ℕ) → Contains (standing' place) n ↔ ((n ≢ k) × Contains (standing place) n)) → IsExact s' standing'
  exact_left standing standing' exact left = record {
    sound = λ n place stands.
        let both = (left n place).0 stands in
        let reads = exact.sound n place both.1 in
        record {
          row = reads.row;
          is = same n both.0 ∙ reads.is;
          reads = subst (λ (ns : List ℕ). Contains ns place) (sym (numbers_stay s s' base reads.row (exact.numbered n reads.row reads.is))) reads.reads;
        };
    complete = λ n place reads.
        let other = goes_no_more n reads.row reads.is in
        let is : going_on (session_in s.tables n) ≡ Some reads.row = sym (same n other) ∙ reads.is in
        (left n place).1 (
          other,
          exact.complete n place (record {
            row = reads.row;
            is = is;
            reads = subst (λ (ns : List ℕ). Contains ns place) (numbers_stay s s' base reads.row (exact.numbered n reads.row is)) reads.reads;
          }),
        );
    numbered = λ n row is. numbered_still s s' base row (exact.numbered n row (sym (same n (goes_no_more n row is)) ∙ is));
  }

  went_on : (n : ℕ) → GoesOn s' n → GoesOn s n
  went_on n goes = subst (λ (o : Option SessionRow). IsSome o) (same n (on_no_more n goes)) goes

  goes_on_still : (n : ℕ) → n ≢ k → GoesOn s n → GoesOn s' n
  goes_on_still n other goes = subst (λ (o : Option SessionRow). IsSome o) (sym (same n other)) goes

  led_by_it : (first : ℕ → ℕ) (n : ℕ) → AreGrouped s first → n ≢ k → first n ≡ k → GoesOn s n → AreAlike s k n
  led_by_it first n grouped other its goes = elim (grouped.like n goes) [
    | inl itself ↦ absurd (other (sym itself ∙ its))
    | inr alike ↦ subst (λ (m : ℕ). AreAlike s m n) its alike
  ]

  -- the lists are as they were, but for the one that was left, whose next first goes on
  pub grouped_left : (first new_first : ℕ → ℕ) → AreGrouped s first → LeavesList first new_first k → ((m : ℕ) → IsNext first new_first k m → GoesOn s m)
      → AreGrouped s' new_first
  grouped_left first new_first grouped leaves goes_next = record {
    low = λ n goes. leaves.low n;
    on = λ n goes. elim (eqb_tells (first n) k) [
      | inl its ↦ (let next = leaves.next n (on_no_more n goes) its.1 in goes_on_still (new_first n) next.other (goes_next (new_first n) next))
      | inr apart ↦ subst (GoesOn s') (sym (leaves.same n (on_no_more n goes) apart.1)) (goes_on_still (first n) apart.1 (grouped.on n (went_on n goes)))
    ];
    itself = λ n goes. elim (eqb_tells (first n) k) [
      | inl its ↦ (leaves.next n (on_no_more n goes) its.1).is
      | inr apart ↦
          let is = leaves.same n (on_no_more n goes) apart.1 in
          let own = grouped.itself n (went_on n goes) in
          ap new_first is ∙ leaves.same (first n) apart.1 (λ back. apart.1 (sym own ∙ back)) ∙ own ∙ sym is
    ];
    like = λ n goes. like n goes;
  }
    where
      like : (n : ℕ) → GoesOn s' n → (new_first n ≡ n) ⊎ AreAlike s' (new_first n) n
      like n goes = elim (eqb_tells (first n) k) [
        | inl its ↦
            let next = leaves.next n (on_no_more n goes) its.1 in
            let on = goes_next (new_first n) next in
            inr (alike_still s s' (new_first n) n base on (went_on n goes) (same (new_first n) next.other) (same n (on_no_more n goes))
            (alike_both s k (new_first n) n (led_by_it first (new_first n) grouped next.other next.was on)
            (led_by_it first n grouped (on_no_more n goes) its.1 (went_on n goes))))
        | inr apart ↦
            let is = leaves.same n (on_no_more n goes) apart.1 in
            elim (grouped.like n (went_on n goes)) [
              | inl itself ↦ inl (is ∙ itself)
              | inr alike ↦ inr (subst (λ (m : ℕ). AreAlike s' m n) (sym is)
                  (alike_still s s' (first n) n base (grouped.on n (went_on n goes)) (went_on n goes) (same (first n) apart.1) (same n (on_no_more n goes)) alike))
            ]
      ]

-- ---- who comes into the work

next_is : (first new_first : ℕ → ℕ) (n k m : ℕ) (answer : Option ℕ) → answer ≡ Some k → ((m : ℕ) → m ≢ n → first m ≡ n → answer ≡ Some (new_first m))
    → IfSome answer (λ m. (m ≢ n) × (first m ≡ n) × (new_first m ≡ m)) → IsNext first new_first n m ↔ (m ≡ k)
next_is first new_first n k m answer is told at = (
  λ next. (let both : Some k ≡ Some (new_first m) = sym is ∙ told m next.other next.was in let same : k ≡ new_first m = cc in sym (same ∙ next.is)),
  λ same.
      let all = subst (λ (o : Option ℕ). IfSome o (λ m. (m ≢ n) × (first m ≡ n) × (new_first m ≡ m))) is at in
      subst (IsNext first new_first n) (sym same) (record { other = all.0; was = all.1; is = all.2 }),
)

-- the next of the list, where there is one
pub next_joins : (first new_first : ℕ → ℕ) (n k : ℕ) (answer : Option ℕ) (old new : List ℕ) → answer ≡ Some k
    → ((m : ℕ) → m ≢ n → first m ≡ n → answer ≡ Some (new_first m)) → IfSome answer (λ m. (m ≢ n) × (first m ≡ n) × (new_first m ≡ m))
    → ((m : ℕ) → Contains new m ↔ ((m ≡ k) ⊎ Contains old m)) → (m : ℕ) → Contains new m ↔ (IsNext first new_first n m ⊎ Contains old m)
next_joins first new_first n k answer old new is told at put m =
    let same = next_is first new_first n k m answer is told at in (
      λ has. elim ((put m).0 has) [ inl here ↦ inl (same.1 here) | inr was ↦ inr was ],
      λ either. (put m).1 (elim either [ inl next ↦ inl (same.0 next) | inr was ↦ inr was ]),
    )
