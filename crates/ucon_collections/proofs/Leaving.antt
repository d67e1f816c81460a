-- A session leaves its list, or one comes into a list, and what undoing gives then.
use Rattle.std.proofs.Common.{◌≡◌, ◌∙◌, ◌<◌, ◌≤◌, ℕ, true, false, [], ◌∷◌, ◌++◌, length, refl, sym, ap, subst, arith}
use Rattle.std.specs.Prelude.{Some, None}
use Rattle.std.specs.Option.{ForSome}
use Rattle.ucon_collections.specs.declared.table.Gap.{Gap}
use Rattle.ucon_collections.specs.declared.lists.Change.TheVariants.{Founded, Joined, Left}
use Rattle.ucon_collections.specs.Lists.{Above, Below, Enters, IsLed, IsNext, IsPrevious, Leaves, Members, Opens, is_joined, leader_in}
use Rattle.ucon_collections.specs.Table.{IsSound, after, before, gap_of, linked, marked, unlinked}
use Rattle.ucon_collections.specs.Undoing.{Listed, UndoGives, Who, undone, who_in}
use Rattle.ucon_collections.proofs.Ordered.{above_order, behind_gone, below_order}
use Rattle.ucon_collections.proofs.Standing.{IsLike, closed_as, closed_leader, closed_sound, first_led, goes, in_within, joined_within, led_within, like_same, linked_as, linked_leader, marked_here, marked_other, nobody_led}
use Rattle.ucon_collections.proofs.Undoing.{gives_more, with_leader_is, without_list_is}

-- where a member stands is in range
pub record CanLeave (v : Members) (leader session : ℕ) : Type 0 where
  pub list : leader < length v.ends
  pub row : session < length v.rows
  pub previous : ForSome (before v leader (Some session)) (λ n. n < length v.rows)
  pub next : ForSome (after v leader (Some session)) (λ n. n < length v.rows)

pub can_leave : (v : Members) (leader session : ℕ) → IsSound v → IsLed v leader session → CanLeave v leader session
can_leave v leader session sound led = record {
  list = joined_within v leader (sound.joined leader session led);
  row = led_within v leader session led;
  previous = in_within v leader (before v leader (Some session))
      (first_led Above v leader (Some session) (before v leader (Some session)) (sound.previous leader (Some session) led));
  next = in_within v leader (after v leader (Some session)) (first_led Below v leader (Some session) (after v leader (Some session)) (sound.next leader (Some session) led));
}

module _ (v : Members) (leader session : ℕ) (sound : IsSound v) (led : IsLed v leader session) where
  joined_it : is_joined v leader ≡ true
  joined_it = sound.joined leader session led

  row : session < length v.rows
  row = led_within v leader session led

  pub left_sound : IsSound (unlinked v leader session)
  left_sound = closed_sound v leader session (gap_of v session) sound joined_it row (sound.previous leader (Some session) led) (sound.next leader (Some session) led) led

  pub leaves : Leaves v (unlinked v leader session) session
  leaves = (
      let is = closed_as v leader session (gap_of v session) sound joined_it row (sound.previous leader (Some session) led) (sound.next leader (Some session) led) in
      record {
        itself = closed_leader v leader session (gap_of v session) sound joined_it row (sound.previous leader (Some session) led) (sound.next leader (Some session) led);
        others = is.leaders;
        joined = is.joined;
      })

  pub left_count : length (unlinked v leader session).rows ≡ length v.rows
  left_count = (closed_as v leader session (gap_of v session) sound joined_it row (sound.previous leader (Some session) led) (sound.next leader (Some session) led)).count

-- without it those next to it are next to where it stood
module _ (l l' : Listed) (leader session : ℕ) (gap : Gap) (old : Who) (sound : IsSound l.members) (led : IsLed l.members leader session)
    (out : l'.members ≡ unlinked l.members leader session) (told : gap ≡ gap_of l.members session)
    (changes : l'.changes ≡ l.changes ++ Left leader session gap ∷ []) where
  it_left : Leaves l.members l'.members session
  it_left = subst (λ (w : Members). Leaves l.members w session) (sym out) (leaves l.members leader session sound led)

  count : length l'.members.rows ≡ length l.members.rows
  count = ap (λ (w : Members). length w.rows) out ∙ left_count l.members leader session sound led

  behind : IsNext (IsLed l'.members leader) (Some session) gap.next
  behind = subst (λ (g : Gap). IsNext (IsLed l'.members leader) (Some session) g.next) (sym told)
      (behind_gone Below below_order (IsLed l.members leader) session (IsLed l'.members leader)
      (goes (leader_in l.members) (leader_in l'.members) leader session it_left.others it_left.itself) (gap_of l.members session).next (sound.next leader (Some session) led))

  in_front : IsPrevious (IsLed l'.members leader) (Some session) gap.previous
  in_front = subst (λ (g : Gap). IsPrevious (IsLed l'.members leader) (Some session) g.previous) (sym told)
      (behind_gone Above above_order (IsLed l.members leader) session (IsLed l'.members leader)
      (goes (leader_in l.members) (leader_in l'.members) leader session it_left.others it_left.itself) (gap_of l.members session).previous
      (sound.previous leader (Some session) led))

  pub left_gives : UndoGives l old → UndoGives l' old
  left_gives gives =
      let row : session < length l.members.rows = led_within l.members leader session led in
      gives_more l l' (Left leader session gap) old changes (omega (arith, count))
      (it_left.itself, it_left.joined leader ∙ sound.joined leader session led, omega (arith, row, count), in_front, behind)
      (sym (with_leader_is (who_in l'.members) (who_in l.members) session (Some leader) led (λ n other. sym (it_left.others n other)) (λ k. sym (it_left.joined k)))) gives

-- ---- a session comes

module _ (v : Members) (leader session : ℕ) (gap : Gap) (sound : IsSound v) (joined : is_joined v leader ≡ true) (row : session < length v.rows)
    (previous : IsPrevious (IsLed v leader) (Some session) gap.previous) (next : IsNext (IsLed v leader) (Some session) gap.next) where
  pub enters : Enters v (linked v leader session gap) leader session
  enters = (
      let is = linked_as v leader session gap sound joined row previous next in
      record { itself = linked_leader v leader session gap sound joined row previous next; others = is.leaders; joined = is.joined })

  pub linked_count : length (linked v leader session gap).rows ≡ length v.rows
  linked_count = (linked_as v leader session gap sound joined row previous next).count

pub came_gives : (l l' : Listed) (leader session : ℕ) (old : Who) → leader_in l.members session ≡ None → Enters l.members l'.members leader session
    → length l.members.rows ≤ length l'.members.rows → l'.changes ≡ l.changes ++ Joined leader session ∷ [] → UndoGives l old → UndoGives l' old
came_gives l l' leader session old alone enters up changes gives =
    gives_more l l' (Joined leader session) old changes up enters.itself
    (sym (with_leader_is (who_in l'.members) (who_in l.members) session None alone (λ n other. sym (enters.others n other)) (λ k. sym (enters.joined k)))) gives

-- ---- a list is joined

pub opened_gives : (l l' : Listed) (leader : ℕ) (old : Who) → IsSound l.members → is_joined l.members leader ≡ false → Opens l.members l'.members leader
    → length l.members.rows ≤ length l'.members.rows → l'.changes ≡ l.changes ++ Founded leader ∷ [] → UndoGives l old → UndoGives l' old
opened_gives l l' leader old sound unjoined opens up changes gives =
    gives_more l l' (Founded leader) old changes up
    (opens.joined, λ n led. nobody_led l.members leader sound unjoined n (sym (opens.leaders n) ∙ led))
    (sym (without_list_is (who_in l'.members) (who_in l.members) leader (λ n. sym (opens.leaders n)) unjoined (λ k other. sym (opens.lists k other)))) gives

-- ---- what a change was is taken back

pub back_shut : (v : Members) (leader : ℕ) → is_joined v leader ≡ true → who_in (marked v leader false) ≡ undone (Founded leader) (who_in v)
back_shut v leader joined =
    without_list_is (who_in v) (who_in (marked v leader false)) leader (λ n. refl) (marked_here v leader false (joined_within v leader joined))
    (λ l other. marked_other v leader false l other)

pub back_out : (v : Members) (leader session : ℕ) → IsSound v → IsLed v leader session → who_in (unlinked v leader session) ≡ undone (Joined leader session) (who_in v)
back_out v leader session sound led =
    let is = leaves v leader session sound led in
    with_leader_is (who_in v) (who_in (unlinked v leader session)) session None is.itself is.others is.joined

pub back_in : (v : Members) (leader session : ℕ) (gap : Gap) → IsSound v → is_joined v leader ≡ true → session < length v.rows
    → IsPrevious (IsLed v leader) (Some session) gap.previous → IsNext (IsLed v leader) (Some session) gap.next
    → who_in (linked v leader session gap) ≡ undone (Left leader session gap) (who_in v)
back_in v leader session gap sound joined row previous next =
    let is = enters v leader session gap sound joined row previous next in
    with_leader_is (who_in v) (who_in (linked v leader session gap)) session (Some leader) is.itself is.others is.joined

-- ---- a list is joined

pub opens : (v v1 : Members) (leader : ℕ) → IsLike v v1 → leader < length v1.ends → Opens v (marked v1 leader true) leader
opens v v1 leader like within = record {
  leaders = λ n. (like_same v v1 like).leaders n;
  joined = marked_here v1 leader true within;
  lists = λ l other. marked_other v1 leader true l other ∙ (like_same v v1 like).joined l;
}
