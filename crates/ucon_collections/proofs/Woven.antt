-- The table once what stands on both sides of a gap, and one row, was written.
use Rattle.std.proofs.Common.{◌≡◌, ◌≢◌, ◌∙◌, ◌<◌, ℕ, List, length, length-set, refl, sym, ap, subst}
use Rattle.std.specs.Prelude.{Option, Some, None, slice_set}
use Rattle.std.specs.Option.{ForSome}
use Rattle.ucon_collections.specs.declared.table.Member.{Member}
use Rattle.ucon_collections.specs.declared.table.Ends.{Ends}
use Rattle.ucon_collections.specs.Lists.{Members, is_joined, leader_in, member_at, nobody, unjoined}
use Rattle.ucon_collections.specs.Table.{after, before, with_first, with_last, with_next, with_previous}
use Rattle.ucon_collections.proofs.Cells.{changed_here, changed_other, kept, length-changed, set_here, set_other}

-- what stands behind one, or at the front, was written
record SetsAfter (v w : Members) (leader : ℕ) (at x : Option ℕ) : Type 0 where
  leaders : (n : ℕ) → leader_in w n ≡ leader_in v n
  joined : (l : ℕ) → is_joined w l ≡ is_joined v l
  count : length w.rows ≡ length v.rows
  here : after w leader at ≡ x
  others : (l : ℕ) (other : Option ℕ) → other ≢ at → after w l other ≡ after v l other
  lists : (l : ℕ) → l ≢ leader → after w l None ≡ after v l None
  way_back : (l : ℕ) (other : Option ℕ) → before w l other ≡ before v l other

sets_after : (v : Members) (leader : ℕ) (at x : Option ℕ) → leader < length v.ends → ForSome at (λ n. n < length v.rows)
    → SetsAfter v (record { rows = with_next v.rows at x; ends = with_first v.ends leader at x }) leader at x
sets_after v leader None x list within = record {
  leaders = λ n. refl;
  joined = λ l. kept unjoined (λ (e : Ends). record e { first = x }) (λ (e : Ends). e.is_joined) (λ e. refl) v.ends leader l;
  count = refl;
  here = ap (λ (e : Ends). e.first) (changed_here unjoined (λ (e : Ends). record e { first = x }) v.ends leader list);
  others = λ l other. by l other;
  lists = λ l apart. ap (λ (e : Ends). e.first) (changed_other unjoined (λ (e : Ends). record e { first = x }) v.ends leader l apart);
  way_back = λ l other. back l other;
}
  where
    by : (l : ℕ) (other : Option ℕ) → other ≢ None → after (record { rows = v.rows; ends = with_first v.ends leader None x }) l other ≡ after v l other
    by l None apart = absurd (apart refl)
    by l (Some n) apart = refl

    back : (l : ℕ) (other : Option ℕ) → before (record { rows = v.rows; ends = with_first v.ends leader None x }) l other ≡ before v l other
    back l None = kept unjoined (λ (e : Ends). record e { first = x }) (λ (e : Ends). e.last) (λ e. refl) v.ends leader l
    back l (Some n) = refl
sets_after v leader (Some n) x list within = record {
  leaders = λ m. kept nobody (λ (row : Member). record row { next = x }) (λ (row : Member). row.leader) (λ row. refl) v.rows n m;
  joined = λ l. refl;
  count = length-changed nobody (λ (row : Member). record row { next = x }) v.rows n;
  here = ap (λ (row : Member). row.next) (changed_here nobody (λ (row : Member). record row { next = x }) v.rows n (within n refl));
  others = λ l other. by l other;
  lists = λ l apart. refl;
  way_back = λ l other. back l other;
}
  where
    by : (l : ℕ) (other : Option ℕ) → other ≢ Some n → after (record { rows = with_next v.rows (Some n) x; ends = v.ends }) l other ≡ after v l other
    by l None apart = refl
    by l (Some m) apart =
        ap (λ (row : Member). row.next) (changed_other nobody (λ (row : Member). record row { next = x }) v.rows n m (λ same. apart (ap Some same)))

    back : (l : ℕ) (other : Option ℕ) → before (record { rows = with_next v.rows (Some n) x; ends = v.ends }) l other ≡ before v l other
    back l None = refl
    back l (Some m) = kept nobody (λ (row : Member). record row { next = x }) (λ (row : Member). row.previous) (λ row. refl) v.rows n m

-- what stands in front of one, or at the end, was written
record SetsBefore (v w : Members) (leader : ℕ) (at x : Option ℕ) : Type 0 where
  leaders : (n : ℕ) → leader_in w n ≡ leader_in v n
  joined : (l : ℕ) → is_joined w l ≡ is_joined v l
  count : length w.rows ≡ length v.rows
  here : before w leader at ≡ x
  others : (l : ℕ) (other : Option ℕ) → other ≢ at → before w l other ≡ before v l other
  lists : (l : ℕ) → l ≢ leader → before w l None ≡ before v l None
  way_on : (l : ℕ) (other : Option ℕ) → after w l other ≡ after v l other

sets_before : (v : Members) (leader : ℕ) (at x : Option ℕ) → leader < length v.ends → ForSome at (λ n. n < length v.rows)
    → SetsBefore v (record { rows = with_previous v.rows at x; ends = with_last v.ends leader at x }) leader at x
sets_before v leader None x list within = record {
  leaders = λ n. refl;
  joined = λ l. kept unjoined (λ (e : Ends). record e { last = x }) (λ (e : Ends). e.is_joined) (λ e. refl) v.ends leader l;
  count = refl;
  here = ap (λ (e : Ends). e.last) (changed_here unjoined (λ (e : Ends). record e { last = x }) v.ends leader list);
  others = λ l other. by l other;
  lists = λ l apart. ap (λ (e : Ends). e.last) (changed_other unjoined (λ (e : Ends). record e { last = x }) v.ends leader l apart);
  way_on = λ l other. on l other;
}
  where
    by : (l : ℕ) (other : Option ℕ) → other ≢ None → before (record { rows = v.rows; ends = with_last v.ends leader None x }) l other ≡ before v l other
    by l None apart = absurd (apart refl)
    by l (Some n) apart = refl

    on : (l : ℕ) (other : Option ℕ) → after (record { rows = v.rows; ends = with_last v.ends leader None x }) l other ≡ after v l other
    on l None = kept unjoined (λ (e : Ends). record e { last = x }) (λ (e : Ends). e.first) (λ e. refl) v.ends leader l
    on l (Some n) = refl
sets_before v leader (Some n) x list within = record {
  leaders = λ m. kept nobody (λ (row : Member). record row { previous = x }) (λ (row : Member). row.leader) (λ row. refl) v.rows n m;
  joined = λ l. refl;
  count = length-changed nobody (λ (row : Member). record row { previous = x }) v.rows n;
  here = ap (λ (row : Member). row.previous) (changed_here nobody (λ (row : Member). record row { previous = x }) v.rows n (within n refl));
  others = λ l other. by l other;
  lists = λ l apart. refl;
  way_on = λ l other. on l other;
}
  where
    by : (l : ℕ) (other : Option ℕ) → other ≢ Some n → before (record { rows = with_previous v.rows (Some n) x; ends = v.ends }) l other ≡ before v l other
    by l None apart = refl
    by l (Some m) apart =
        ap (λ (row : Member). row.previous) (changed_other nobody (λ (row : Member). record row { previous = x }) v.rows n m (λ same. apart (ap Some same)))

    on : (l : ℕ) (other : Option ℕ) → after (record { rows = with_previous v.rows (Some n) x; ends = v.ends }) l other ≡ after v l other
    on l None = refl
    on l (Some m) = kept nobody (λ (row : Member). record row { previous = x }) (λ (row : Member). row.next) (λ row. refl) v.rows n m

-- both sides of a gap and one row were written
pub record IsWoven (v w : Members) (leader session : ℕ) (previous next on back : Option ℕ) (row : Member) : Type 0 where
  pub itself : member_at w.rows session ≡ row
  pub leaders : (n : ℕ) → n ≢ session → leader_in w n ≡ leader_in v n
  pub joined : (l : ℕ) → is_joined w l ≡ is_joined v l
  pub count : length w.rows ≡ length v.rows
  pub after_here : previous ≢ Some session → after w leader previous ≡ on
  pub after_others : (l : ℕ) (at : Option ℕ) → at ≢ previous → at ≢ Some session → after w l at ≡ after v l at
  pub after_lists : (l : ℕ) → l ≢ leader → after w l None ≡ after v l None
  pub before_here : next ≢ Some session → before w leader next ≡ back
  pub before_others : (l : ℕ) (at : Option ℕ) → at ≢ next → at ≢ Some session → before w l at ≡ before v l at
  pub before_lists : (l : ℕ) → l ≢ leader → before w l None ≡ before v l None

-- a row was written
module _ (v : Members) (session : ℕ) (row : Member) where
  abbrev row_set : Members
  row_set = record { rows = slice_set v.rows session row; ends = v.ends }

  after_row : (l : ℕ) (at : Option ℕ) → at ≢ Some session → after row_set l at ≡ after v l at
  after_row l None apart = refl
  after_row l (Some n) apart = ap (λ (r : Member). r.next) (set_other nobody v.rows session n row (λ same. apart (ap Some same)))

  before_row : (l : ℕ) (at : Option ℕ) → at ≢ Some session → before row_set l at ≡ before v l at
  before_row l None apart = refl
  before_row l (Some n) apart = ap (λ (r : Member). r.previous) (set_other nobody v.rows session n row (λ same. apart (ap Some same)))

within_still : (at : Option ℕ) (m n : ℕ) → n ≡ m → ForSome at (λ k. k < m) → ForSome at (λ k. k < n)
within_still at m n same within = subst (λ (c : ℕ). ForSome at (λ k. k < c)) (sym same) within

length-first : (ends : List Ends) (leader : ℕ) (at x : Option ℕ) → length (with_first ends leader at x) ≡ length ends
length-first ends leader None x = length-changed unjoined (λ (e : Ends). record e { first = x }) ends leader
length-first ends leader (Some n) x = refl

pub woven : (v : Members) (leader session : ℕ) (previous next on back : Option ℕ) (row : Member) → leader < length v.ends → session < length v.rows
    → ForSome previous (λ n. n < length v.rows) → ForSome next (λ n. n < length v.rows)
    → IsWoven v (record {
      rows = slice_set (with_previous (with_next v.rows previous on) next back) session row;
      ends = with_last (with_first v.ends leader previous on) leader next back;
    }) leader session previous next on back row
woven v leader session previous next on back row list here before_it behind_it =
    let v1 : Members = record { rows = with_next v.rows previous on; ends = with_first v.ends leader previous on } in
    let v2 : Members = record { rows = with_previous v1.rows next back; ends = with_last v1.ends leader next back } in
    let first = sets_after v leader previous on list before_it in
    let second = sets_before v1 leader next back (subst (λ (n : ℕ). leader < n) (sym (length-first v.ends leader previous on)) list)
    (within_still next (length v.rows) (length v1.rows) first.count behind_it) in
    let count : length v2.rows ≡ length v.rows = second.count ∙ first.count in
    record {
      itself = set_here nobody v2.rows session row (subst (λ (n : ℕ). session < n) (sym count) here);
      leaders = λ n apart. ap (λ (r : Member). r.leader) (set_other nobody v2.rows session n row apart) ∙ second.leaders n ∙ first.leaders n;
      joined = λ l. second.joined l ∙ first.joined l;
      count = length-set v2.rows session row ∙ count;
      after_here = λ apart. after_row v2 session row leader previous apart ∙ second.way_on leader previous ∙ first.here;
      after_others = λ l at other apart. after_row v2 session row l at apart ∙ second.way_on l at ∙ first.others l at other;
      after_lists = λ l other. second.way_on l None ∙ first.lists l other;
      before_here = λ apart. before_row v2 session row leader next apart ∙ second.here;
      before_others = λ l at other apart. before_row v2 session row l at apart ∙ second.others l at other ∙ first.way_back l at;
      before_lists = λ l other. second.lists l other ∙ first.way_back l None;
    }
