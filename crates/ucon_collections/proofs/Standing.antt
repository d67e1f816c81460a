-- Each member stands next to whom it should, once one comes into a list or leaves it.
use Rattle.std.proofs.Common.{◌≡◌, ◌≢◌, ◌∙◌, ◌⊎◌, inl, inr, ◌↔◌, ◌<◌, ℕ, Bool, true, false, length, refl, sym, ap, subst}
use Rattle.std.specs.Prelude.{Option, Some, None}
use Rattle.std.specs.Option.{ForSome}
use Rattle.std.proofs.lemmas.Bool.Decides.{eqb_tells}
use Rattle.ucon_collections.specs.declared.table.Member.{Member}
use Rattle.ucon_collections.specs.declared.table.Ends.{Ends}
use Rattle.ucon_collections.specs.declared.table.Gap.{Gap}
use Rattle.ucon_collections.specs.Lists.{Above, Below, AreSame, Enters, IsFirstPast, IsLed, IsNext, IsPrevious, Members, ends_at, is_joined, leader_in, member_at, nobody, unjoined}
use Rattle.ucon_collections.specs.Table.{IsIn, IsSound, after, before, closed, linked, marked}
use Rattle.ucon_collections.proofs.Cells.{changed_here, changed_other, kept, within_if}
use Rattle.ucon_collections.proofs.Ordered.{IsOneOf, IsOrder, above_order, behind_it, below_order, first_like, front_of_it, front_other, gap_closed, others_left, others_still, turned}
use Rattle.ucon_collections.proofs.Woven.{IsWoven, woven}

pub some_of : {A : Type 0} {x y : A} → Some x ≡ Some y → x ≡ y
some_of is = cc

same_or_not : (a b : Option ℕ) → (a ≡ b) ⊎ (a ≢ b)
same_or_not None None = inl refl
same_or_not None (Some b) = inr (λ is. cc)
same_or_not (Some a) None = inr (λ is. cc)
same_or_not (Some a) (Some b) = elim (eqb_tells a b) [ inl same ↦ inl (ap Some same.1) | inr other ↦ inr (λ is. other.1 (some_of is)) ]

module _ (leader leader' : ℕ → Option ℕ) (l s : ℕ) (others : (n : ℕ) → n ≢ s → leader' n ≡ leader n) where
  pub comes : leader' s ≡ Some l → (n : ℕ) → (leader' n ≡ Some l) ↔ ((n ≡ s) ⊎ (leader n ≡ Some l))
  comes is n = elim (eqb_tells n s) [
    | inl here ↦ (λ led. inl here.1, λ either. ap leader' here.1 ∙ is)
    | inr other ↦ (
      λ led. inr (sym (others n other.1) ∙ led),
      λ either. elim either [ inl here ↦ absurd (other.1 here) | inr led ↦ others n other.1 ∙ led ],
    )
  ]

  pub goes : leader' s ≡ None → (n : ℕ) → (leader' n ≡ Some l) ↔ ((n ≢ s) × (leader n ≡ Some l))
  goes is n = elim (eqb_tells n s) [
    | inl here ↦ (
      λ led. absurd (let no : None ≡ Some l = sym is ∙ ap leader' (sym here.1) ∙ led in cc),
      λ both. absurd (both.0 here.1),
    )
    | inr other ↦ (λ led. (other.1, sym (others n other.1) ∙ led), λ both. others n other.1 ∙ both.1)
  ]

-- one way along the lists, and one session that comes or goes
module _ (Before : ℕ → ℕ → Type 0) (order : IsOrder Before) (leader leader' : ℕ → Option ℕ) (way way' : ℕ → Option ℕ → Option ℕ) (l s : ℕ) (front x : Option ℕ)
    (sound : (k : ℕ) (at : Option ℕ) → IsOneOf (λ n. leader n ≡ Some k) at → IsFirstPast Before (λ n. leader n ≡ Some k) at (way k at))
    (others : (n : ℕ) → n ≢ s → leader' n ≡ leader n) (front_is : IsFirstPast (turned Before) (λ n. leader n ≡ Some l) (Some s) front)
    (x_is : IsFirstPast Before (λ n. leader n ≡ Some l) (Some s) x)
    (way_others : (k : ℕ) (at : Option ℕ) → at ≢ front → at ≢ Some s → way' k at ≡ way k at) (way_lists : (k : ℕ) → k ≢ l → way' k None ≡ way k None) where
  -- in another list all is as it was
  module _ (k : ℕ) (apart : k ≢ l) (never : leader s ≡ Some k → ⊥) (never' : leader' s ≡ Some k → ⊥) where
    same_led : (n : ℕ) → (leader' n ≡ Some k) ↔ (leader n ≡ Some k)
    same_led n = elim (eqb_tells n s) [
      | inl here ↦ (
        λ is. absurd (never' (subst (λ (m : ℕ). leader' m ≡ Some k) here.1 is)),
        λ is. absurd (never (subst (λ (m : ℕ). leader m ≡ Some k) here.1 is)),
      )
      | inr other ↦ (λ is. sym (others n other.1) ∙ is, λ is. others n other.1 ∙ is)
    ]

    front_in : (at : Option ℕ) → IsOneOf (λ n. leader n ≡ Some l) at → (n : ℕ) → leader n ≡ Some k → Some n ≢ at
    front_in None one n is same = cc
    front_in (Some m) one n is same = apart (some_of (sym is ∙ ap leader (let same : n ≡ m = some_of same in same) ∙ one))

    front_led : (at : Option ℕ) → IsFirstPast (turned Before) (λ n. leader n ≡ Some l) (Some s) at → IsOneOf (λ n. leader n ≡ Some l) at
    front_led None is = tt
    front_led (Some m) is = is.0

    elsewhere : (at : Option ℕ) → IsOneOf (λ n. leader' n ≡ Some k) at → IsFirstPast Before (λ n. leader' n ≡ Some k) at (way' k at)
    elsewhere None one =
        subst (IsFirstPast Before (λ n. leader' n ≡ Some k) None) (sym (way_lists k apart))
        (first_like Before (λ n. leader n ≡ Some k) (λ n. leader' n ≡ Some k) same_led None (way k None) (sound k None tt))
    elsewhere (Some n) one =
        let was : leader n ≡ Some k = (same_led n).0 one in
        let other : n ≢ s = λ same. never (subst (λ (m : ℕ). leader m ≡ Some k) same was) in
        subst (IsFirstPast Before (λ n. leader' n ≡ Some k) (Some n)) (sym (way_others k (Some n) (front_in front (front_led front front_is) n was) (λ same. other (some_of same))))
        (first_like Before (λ n. leader n ≡ Some k) (λ n. leader' n ≡ Some k) same_led (Some n) (way k (Some n)) (sound k (Some n) was))

  -- it comes into list l, in which x is next to it
  module _ (was : leader s ≡ None) (is : leader' s ≡ Some l) (front_way : way' l front ≡ Some s) (own_way : (k : ℕ) → way' k (Some s) ≡ x) where
    here_come : (at : Option ℕ) → IsOneOf (λ n. leader' n ≡ Some l) at → IsFirstPast Before (λ n. leader' n ≡ Some l) at (way' l at)
    here_come at one = elim (same_or_not at (Some s)) [
      | inl own ↦
          subst (λ (a : Option ℕ). IsFirstPast Before (λ n. leader' n ≡ Some l) a (way' l a)) (sym own)
          (subst (IsFirstPast Before (λ n. leader' n ≡ Some l) (Some s)) (sym (own_way l))
          (behind_it Before order (λ n. leader n ≡ Some l) s (λ n. leader' n ≡ Some l) (comes leader leader' l s others is) x x_is))
      | inr other ↦ elim (same_or_not at front) [
        | inl in_front ↦
            subst (λ (a : Option ℕ). IsFirstPast Before (λ n. leader' n ≡ Some l) a (way' l a)) (sym in_front)
            (subst (IsFirstPast Before (λ n. leader' n ≡ Some l) front) (sym front_way)
            (front_of_it Before order (λ n. leader n ≡ Some l) s (λ n. leader' n ≡ Some l) (comes leader leader' l s others is) front front_is))
        | inr further ↦
            subst (IsFirstPast Before (λ n. leader' n ≡ Some l) at) (sym (way_others l at further other))
            (others_still Before order (λ n. leader n ≡ Some l) s (λ n. leader' n ≡ Some l) (comes leader leader' l s others is) front at (way l at) front_is further (was_one at other one)
            (sound l at (was_one at other one)))
      ]
    ]
      where
        was_one : (at : Option ℕ) → at ≢ Some s → IsOneOf (λ n. leader' n ≡ Some l) at → IsOneOf (λ n. leader n ≡ Some l) at
        was_one None other one = tt
        was_one (Some n) other one = sym (others n (λ same. other (ap Some same))) ∙ one

    pub all_come : (k : ℕ) (at : Option ℕ) → IsOneOf (λ n. leader' n ≡ Some k) at → IsFirstPast Before (λ n. leader' n ≡ Some k) at (way' k at)
    all_come k = elim (eqb_tells k l) [
      | inl same ↦
          subst (λ (m : ℕ). (at : Option ℕ) → IsOneOf (λ n. leader' n ≡ Some m) at → IsFirstPast Before (λ n. leader' n ≡ Some m) at (way' m at)) (sym same.1) here_come
      | inr apart ↦ elsewhere k apart.1 (λ led. (let no : None ≡ Some k = sym was ∙ led in cc)) (λ led. apart.1 (some_of (sym led ∙ is)))
    ]

  -- it leaves list l, in which x was next to it
  module _ (was : leader s ≡ Some l) (is : leader' s ≡ None) (front_way : way' l front ≡ x) where
    here_go : (at : Option ℕ) → IsOneOf (λ n. leader' n ≡ Some l) at → IsFirstPast Before (λ n. leader' n ≡ Some l) at (way' l at)
    here_go at one = elim (same_or_not at front) [
      | inl in_front ↦
          subst (λ (a : Option ℕ). IsFirstPast Before (λ n. leader' n ≡ Some l) a (way' l a)) (sym in_front)
          (subst (IsFirstPast Before (λ n. leader' n ≡ Some l) front) (sym front_way)
          (gap_closed Before order (λ n. leader n ≡ Some l) s (λ n. leader' n ≡ Some l) (goes leader leader' l s others is) front x front_is x_is))
      | inr further ↦
          subst (IsFirstPast Before (λ n. leader' n ≡ Some l) at) (sym (way_others l at further (other at one)))
          (others_left Before order (λ n. leader n ≡ Some l) s (λ n. leader' n ≡ Some l) (goes leader leader' l s others is) front at (way l at) front_is further (was_one at one) (sound l at (was_one at one)))
    ]
      where
        other : (at : Option ℕ) → IsOneOf (λ n. leader' n ≡ Some l) at → at ≢ Some s
        other None one same = cc
        other (Some n) one same = ((goes leader leader' l s others is n).0 one).0 (some_of same)

        was_one : (at : Option ℕ) → IsOneOf (λ n. leader' n ≡ Some l) at → IsOneOf (λ n. leader n ≡ Some l) at
        was_one None one = tt
        was_one (Some n) one = ((goes leader leader' l s others is n).0 one).1

    pub all_go : (k : ℕ) (at : Option ℕ) → IsOneOf (λ n. leader' n ≡ Some k) at → IsFirstPast Before (λ n. leader' n ≡ Some k) at (way' k at)
    all_go k = elim (eqb_tells k l) [
      | inl same ↦
          subst (λ (m : ℕ). (at : Option ℕ) → IsOneOf (λ n. leader' n ≡ Some m) at → IsFirstPast Before (λ n. leader' n ≡ Some m) at (way' m at)) (sym same.1) here_go
      | inr apart ↦ elsewhere k apart.1 (λ led. apart.1 (some_of (sym led ∙ was))) (λ led. (let no : None ≡ Some k = sym is ∙ led in cc))
    ]

-- ---- in range

pub led_within : (v : Members) (l n : ℕ) → IsLed v l n → n < length v.rows
led_within v l n led = within_if nobody v.rows n (λ same. (let no : None ≡ Some l = sym (ap (λ (row : Member). row.leader) same) ∙ led in cc))

pub joined_within : (v : Members) (l : ℕ) → is_joined v l ≡ true → l < length v.ends
joined_within v l joined = within_if unjoined v.ends l (λ same. (let no : false ≡ true = sym (ap (λ (e : Ends). e.is_joined) same) ∙ joined in cc))

-- a neighbour is a member, if there is one
pub first_led : (Before : ℕ → ℕ → Type 0) (v : Members) (l : ℕ) (at x : Option ℕ) → IsFirstPast Before (IsLed v l) at x → IsIn v l x
first_led Before v l at None is = tt
first_led Before v l at (Some m) is = is.0

pub in_within : (v : Members) (l : ℕ) (at : Option ℕ) → IsIn v l at → ForSome at (λ n. n < length v.rows)
in_within v l None one = λ n is. absurd (let no : None ≡ Some n = is in cc)
in_within v l (Some n) one = λ m is. subst (λ (k : ℕ). k < length v.rows) (some_of is) (led_within v l n one)

-- ---- a session comes into a list, or leaves it

one_in : (v : Members) (l : ℕ) (at : Option ℕ) → IsOneOf (IsLed v l) at → IsIn v l at
one_in v l None one = tt
one_in v l (Some n) one = one

in_one : (v : Members) (l : ℕ) (at : Option ℕ) → IsIn v l at → IsOneOf (IsLed v l) at
in_one v l None one = tt
in_one v l (Some n) one = one

module _ (v : Members) (leader session : ℕ) (gap : Gap) (sound : IsSound v) (joined : is_joined v leader ≡ true) (here : session < length v.rows)
    (previous : IsPrevious (IsLed v leader) (Some session) gap.previous) (next : IsNext (IsLed v leader) (Some session) gap.next) where
  previous_within : ForSome gap.previous (λ n. n < length v.rows)
  previous_within = in_within v leader gap.previous (first_led Above v leader (Some session) gap.previous previous)

  next_within : ForSome gap.next (λ n. n < length v.rows)
  next_within = in_within v leader gap.next (first_led Below v leader (Some session) gap.next next)

  pub linked_as : IsWoven v (linked v leader session gap) leader session gap.previous gap.next (Some session) (Some session)
      (record { leader = Some leader; previous = gap.previous; next = gap.next })
  linked_as = woven v leader session gap.previous gap.next (Some session) (Some session) (record { leader = Some leader; previous = gap.previous; next = gap.next })
      (joined_within v leader joined) here previous_within next_within

  pub closed_as : IsWoven v (closed v leader session gap) leader session gap.previous gap.next gap.next gap.previous nobody
  closed_as = woven v leader session gap.previous gap.next gap.next gap.previous nobody (joined_within v leader joined) here previous_within next_within

  pub linked_leader : leader_in (linked v leader session gap) session ≡ Some leader
  linked_leader = ap (λ (row : Member). row.leader) linked_as.itself

  pub linked_sound : leader_in v session ≡ None → IsSound (linked v leader session gap)
  linked_sound was = (
      let w = linked v leader session gap in
      let is = linked_as in
      record {
        joined = λ l n led. is.joined l ∙ elim (eqb_tells n session) [
          | inl own ↦
              let same : leader ≡ l = some_of (sym linked_leader ∙ ap (leader_in w) (sym own.1) ∙ led) in
              ap (is_joined v) (sym same) ∙ joined
          | inr other ↦ sound.joined l n (sym (is.leaders n other.1) ∙ led)
        ];
        next = λ k at one. all_come Below below_order (leader_in v) (leader_in w) (after v) (after w) leader session gap.previous gap.next
            (λ l a o. sound.next l a (one_in v l a o)) is.leaders previous next is.after_others is.after_lists was linked_leader
            (is.after_here (front_other Below below_order (IsLed v leader) session gap.previous previous))
            (λ l. ap (λ (row : Member). row.next) is.itself) k at (in_one w k at one);
        previous = λ k at one. all_come Above above_order (leader_in v) (leader_in w) (before v) (before w) leader session gap.next gap.previous
            (λ l a o. sound.previous l a (one_in v l a o)) is.leaders next previous is.before_others is.before_lists was linked_leader
            (is.before_here (front_other Above above_order (IsLed v leader) session gap.next next))
            (λ l. ap (λ (row : Member). row.previous) is.itself) k at (in_one w k at one);
      })

  pub closed_leader : leader_in (closed v leader session gap) session ≡ None
  closed_leader = ap (λ (row : Member). row.leader) closed_as.itself

  pub closed_sound : leader_in v session ≡ Some leader → IsSound (closed v leader session gap)
  closed_sound was = (
      let w = closed v leader session gap in
      let is = closed_as in
      record {
        joined = λ l n led. is.joined l ∙ elim (eqb_tells n session) [
          | inl own ↦ absurd (let no : None ≡ Some l = sym closed_leader ∙ ap (leader_in w) (sym own.1) ∙ led in cc)
          | inr other ↦ sound.joined l n (sym (is.leaders n other.1) ∙ led)
        ];
        next = λ k at one. all_go Below below_order (leader_in v) (leader_in w) (after v) (after w) leader session gap.previous gap.next
            (λ l a o. sound.next l a (one_in v l a o)) is.leaders previous next is.after_others is.after_lists was closed_leader
            (is.after_here (front_other Below below_order (IsLed v leader) session gap.previous previous)) k at (in_one w k at one);
        previous = λ k at one. all_go Above above_order (leader_in v) (leader_in w) (before v) (before w) leader session gap.next gap.previous
            (λ l a o. sound.previous l a (one_in v l a o)) is.leaders next previous is.before_others is.before_lists was closed_leader
            (is.before_here (front_other Above above_order (IsLed v leader) session gap.next next)) k at (in_one w k at one);
      })

-- ---- a list was joined, or it wasn't

-- each row and each end is the same
pub record IsLike (v w : Members) : Type 0 where
  pub rows : (n : ℕ) → member_at w.rows n ≡ member_at v.rows n
  pub ends : (l : ℕ) → ends_at w.ends l ≡ ends_at v.ends l

pub like_same : (v w : Members) → IsLike v w → AreSame v w
like_same v w like = record {
  leaders = λ n. ap (λ (row : Member). row.leader) (like.rows n);
  joined = λ l. ap (λ (e : Ends). e.is_joined) (like.ends l);
}

-- where the same are in the lists, and stand in the same order
module _ (v w : Members) (leaders : (n : ℕ) → leader_in w n ≡ leader_in v n) (on : (l : ℕ) (at : Option ℕ) → after w l at ≡ after v l at)
    (back : (l : ℕ) (at : Option ℕ) → before w l at ≡ before v l at) where
  led_same : (l n : ℕ) → IsLed w l n ↔ IsLed v l n
  led_same l n = (λ led. sym (leaders n) ∙ led, λ led. leaders n ∙ led)

  in_same : (l : ℕ) (at : Option ℕ) → IsIn w l at → IsIn v l at
  in_same l None one = tt
  in_same l (Some n) one = (led_same l n).0 one

  pub still_sound : IsSound v → ((l n : ℕ) → IsLed v l n → is_joined w l ≡ true) → IsSound w
  still_sound sound joined = record {
    joined = λ l n led. joined l n ((led_same l n).0 led);
    next = λ l at one. subst (IsNext (IsLed w l) at) (sym (on l at))
        (first_like Below (IsLed v l) (IsLed w l) (led_same l) at (after v l at) (sound.next l at (in_same l at one)));
    previous = λ l at one. subst (IsPrevious (IsLed w l) at) (sym (back l at))
        (first_like Above (IsLed v l) (IsLed w l) (led_same l) at (before v l at) (sound.previous l at (in_same l at one)));
  }

pub like_sound : (v w : Members) → IsLike v w → IsSound v → IsSound w
like_sound v w like sound =
    still_sound v w (like_same v w like).leaders on back sound (λ l n led. (like_same v w like).joined l ∙ sound.joined l n led)
  where
    on : (l : ℕ) (at : Option ℕ) → after w l at ≡ after v l at
    on l None = ap (λ (e : Ends). e.first) (like.ends l)
    on l (Some n) = ap (λ (row : Member). row.next) (like.rows n)

    back : (l : ℕ) (at : Option ℕ) → before w l at ≡ before v l at
    back l None = ap (λ (e : Ends). e.last) (like.ends l)
    back l (Some n) = ap (λ (row : Member). row.previous) (like.rows n)

module _ (v : Members) (leader : ℕ) (is : Bool) where
  pub marked_here : leader < length v.ends → is_joined (marked v leader is) leader ≡ is
  marked_here within = ap (λ (e : Ends). e.is_joined) (changed_here unjoined (λ (e : Ends). record e { is_joined = is }) v.ends leader within)

  pub marked_other : (l : ℕ) → l ≢ leader → is_joined (marked v leader is) l ≡ is_joined v l
  marked_other l apart = ap (λ (e : Ends). e.is_joined) (changed_other unjoined (λ (e : Ends). record e { is_joined = is }) v.ends leader l apart)

  pub marked_sound : IsSound v → ((l n : ℕ) → IsLed v l n → is_joined (marked v leader is) l ≡ true) → IsSound (marked v leader is)
  marked_sound sound joined = still_sound v (marked v leader is) (λ n. refl) on back sound joined
    where
      on : (l : ℕ) (at : Option ℕ) → after (marked v leader is) l at ≡ after v l at
      on l None = kept unjoined (λ (e : Ends). record e { is_joined = is }) (λ (e : Ends). e.first) (λ e. refl) v.ends leader l
      on l (Some n) = refl

      back : (l : ℕ) (at : Option ℕ) → before (marked v leader is) l at ≡ before v l at
      back l None = kept unjoined (λ (e : Ends). record e { is_joined = is }) (λ (e : Ends). e.last) (λ e. refl) v.ends leader l
      back l (Some n) = refl

-- nobody is in a list that wasn't joined
pub nobody_led : (v : Members) (leader : ℕ) → IsSound v → is_joined v leader ≡ false → (n : ℕ) → IsLed v leader n → ⊥
nobody_led v leader sound unjoined n led = let both : true ≡ false = sym (sound.joined leader n led) ∙ unjoined in cc

pub open_sound : (v : Members) (leader : ℕ) → leader < length v.ends → IsSound v → IsSound (marked v leader true)
open_sound v leader within sound = marked_sound v leader true sound (λ l n led. elim (eqb_tells l leader) [
  | inl same ↦ ap (is_joined (marked v leader true)) same.1 ∙ marked_here v leader true within
  | inr other ↦ marked_other v leader true l other.1 ∙ sound.joined l n led
])

pub shut_sound : (v : Members) (leader : ℕ) → IsSound v → ((n : ℕ) → IsLed v leader n → ⊥) → IsSound (marked v leader false)
shut_sound v leader sound none = marked_sound v leader false sound (λ l n led. elim (eqb_tells l leader) [
  | inl same ↦ absurd (none n (subst (λ (k : ℕ). IsLed v k n) same.1 led))
  | inr other ↦ marked_other v leader false l other.1 ∙ sound.joined l n led
])

-- who comes in where each row is the same
pub enters_like : (u v w : Members) (leader session : ℕ) → IsLike u v → Enters v w leader session → Enters u w leader session
enters_like u v w leader session like enters = record {
  itself = enters.itself;
  others = λ n other. enters.others n other ∙ (like_same u v like).leaders n;
  joined = λ l. enters.joined l ∙ (like_same u v like).joined l;
}
