-- One list after a node left it or came into it.
use Rattle.std.proofs.Common.{◌≡◌, ◌≢◌, ℕ, suc, List, ◌∷◌, ◌++◌, set, Some, None, Option, slice_get, refl, ◌∙◌}
use Rattle.ucon_links.specs.declared.table.Node.{Node}
use Rattle.ucon_links.specs.Lists.{first_or, last_or, IsAbsent}
use Rattle.ucon_links.specs.Layout.{IsLinked, IsList, listed_node}
use Rattle.ucon_links.specs.Table.{with_next, joined}
use Rattle.ucon_links.proofs.Cells.{slice_get-set_same, tag_of, KeepsOthers, keeps_then, keeps_write, keeps_changed, changed-other}
use Rattle.ucon_links.specs.OneList.{ids}
use Rattle.ucon_links.proofs.Linked.{absent_append, Parts, distinct_parts, distinct_append, apart_tail, apart_cons, apart_head, last_outside, first_outside, last_is_other, first_is_other, linked_append, linked_front, linked_back, linked_absent, last_has_tag, first_has_tag, linked_write, linked_changed, linked_next, linked_previous}

-- a list in two parts, with a gap between them
pub record TwoParts (nodes : List Node) (list : ℕ) (front back : List (ℕ × ℕ)) (next previous : Option ℕ) : Type 0 where
  pub front_linked : IsLinked nodes list None front next
  pub back_linked : IsLinked nodes list previous back None

-- the last node of the first part and the first of the second name others
pub two_parts_joined : (nodes : List Node) (list : ℕ) (front back : List (ℕ × ℕ)) (next previous new_next new_previous : Option ℕ) → Parts front back → TwoParts nodes list front back next previous → TwoParts (joined nodes (last_or None front) new_next new_previous (first_or None back)) list front back new_next new_previous
two_parts_joined nodes list front back next previous new_next new_previous parts linked =
    let middle = with_next nodes (last_or None front) new_next in
    let back_outside = last_outside None front back tt parts.apart in
    let front_outside = first_outside front back parts.apart in
    record {
      front_linked =
          linked_changed (λ node. record node { previous = new_previous }) middle list None front new_next (first_or None back) front_outside
          (linked_next nodes list None front next new_next parts.front linked.front_linked);
      back_linked =
          linked_previous middle list previous back None new_previous parts.back
          (linked_changed (λ node. record node { next = new_next }) nodes list previous back None (last_or None front) back_outside linked.back_linked);
    }

-- only nodes of the list are written
pub joined_keeps : (nodes : List Node) (list : ℕ) (front back : List (ℕ × ℕ)) (next previous new_next new_previous : Option ℕ) → Parts front back → TwoParts nodes list front back next previous → KeepsOthers (suc (suc list)) nodes (joined nodes (last_or None front) new_next new_previous (first_or None back))
joined_keeps nodes list front back next previous new_next new_previous parts linked =
    let middle = with_next nodes (last_or None front) new_next in
    let back_linked = linked_changed (λ node. record node { next = new_next }) nodes list previous back None (last_or None front) (last_outside None front back tt parts.apart) linked.back_linked in
    keeps_then
    (keeps_changed (λ node. record node { next = new_next }) (suc (suc list)) nodes (last_or None front) (last_has_tag nodes list None front next tt linked.front_linked))
    (keeps_changed (λ node. record node { previous = new_previous }) (suc (suc list)) middle (first_or None back) (first_has_tag middle list previous back None back_linked))

-- a node that is in neither part isn't written
pub joined-other : (nodes : List Node) (front back : List (ℕ × ℕ)) (next previous : Option ℕ) (at : ℕ) → IsAbsent at (ids front) → IsAbsent at (ids back) → slice_get (joined nodes (last_or None front) next previous (first_or None back)) at ≡ slice_get nodes at
joined-other nodes front back next previous at front_absent back_absent =
    changed-other (λ node. record node { previous = previous }) (with_next nodes (last_or None front) next) (first_or None back) at (first_is_other at back back_absent)
    ∙ changed-other (λ node. record node { next = next }) nodes (last_or None front) at (last_is_other at None front tt front_absent)

abbrev pub joined_over : List Node → List (ℕ × ℕ) → List (ℕ × ℕ) → List Node
joined_over nodes front back = joined nodes (last_or None front) (first_or None back) (last_or None front) (first_or None back)

-- what is known once the node x has left the list
pub record Left (nodes : List Node) (list : ℕ) (front back : List (ℕ × ℕ)) (x : ℕ × ℕ) (new : Node) : Type 0 where
  pub is_list : IsList (set (joined_over nodes front back) x.0 new) list (front ++ back)
  pub keeps : KeepsOthers (suc (suc list)) nodes (set (joined_over nodes front back) x.0 new)

pub left : (nodes : List Node) (list : ℕ) (front back : List (ℕ × ℕ)) (x : ℕ × ℕ) (new : Node) → IsList nodes list (front ++ x ∷ back) → Left nodes list front back x new
left nodes list front back x new whole =
    let parts = distinct_parts front (x ∷ back) whole.distinct in
    let both : Parts front back = record { front = parts.front; back = parts.back.1; apart = apart_tail front x back parts.apart } in
    let behind = linked_back nodes list None front (x ∷ back) None whole.linked in
    let linked : TwoParts nodes list front back (Some x.0) (Some x.0) = record { front_linked = linked_front nodes list None front (x ∷ back) None whole.linked; back_linked = behind.1 } in
    let after = two_parts_joined nodes list front back (Some x.0) (Some x.0) (first_or None back) (last_or None front) both linked in
    let front_absent = apart_head front x back parts.apart in
    let there = joined-other nodes front back (first_or None back) (last_or None front) x.0 front_absent parts.back.0 ∙ behind.0 in
    record {
      is_list = record {
        linked = linked_write (joined_over nodes front back) list None (front ++ back) None x.0 new (absent_append x.0 front back front_absent parts.back.0)
            (linked_append (joined_over nodes front back) list None front back None after.front_linked after.back_linked);
        distinct = distinct_append front back both;
      };
      keeps = keeps_then (joined_keeps nodes list front back (Some x.0) (Some x.0) (first_or None back) (last_or None front) both linked)
          (keeps_write (suc (suc list)) (joined_over nodes front back) x.0 new (listed_node list (last_or None front) x (first_or None back), there, refl));
    }

abbrev pub joined_round : List Node → List (ℕ × ℕ) → List (ℕ × ℕ) → ℕ → List Node
joined_round nodes front back node = joined nodes (last_or None front) (Some node) (Some node) (first_or None back)

-- what is known once the node x has come into the list
pub record Came (nodes : List Node) (list : ℕ) (front back : List (ℕ × ℕ)) (x : ℕ × ℕ) : Type 0 where
  pub is_list : IsList (set (joined_round nodes front back x.0) x.0 (listed_node list (last_or None front) x (first_or None back))) list (front ++ x ∷ back)
  pub keeps : KeepsOthers (suc (suc list)) nodes (joined_round nodes front back x.0)

pub came : (nodes : List Node) (list : ℕ) (front back : List (ℕ × ℕ)) (x : ℕ × ℕ) (old : Node) → slice_get nodes x.0 ≡ Some old → tag_of old ≢ suc (suc list) → IsList nodes list (front ++ back) → Came nodes list front back x
came nodes list front back x old there differs whole =
    let new = listed_node list (last_or None front) x (first_or None back) in
    let parts = distinct_parts front back whole.distinct in
    let linked : TwoParts nodes list front back (first_or None back) (last_or None front) = record { front_linked = linked_front nodes list None front back None whole.linked; back_linked = linked_back nodes list None front back None whole.linked } in
    let round = joined_round nodes front back x.0 in
    let after = two_parts_joined nodes list front back (first_or None back) (last_or None front) (Some x.0) (Some x.0) parts linked in
    let keeps = joined_keeps nodes list front back (first_or None back) (last_or None front) (Some x.0) (Some x.0) parts linked in
    let front_absent = linked_absent nodes list None front (first_or None back) x.0 old linked.front_linked there differs in
    let back_absent = linked_absent nodes list (last_or None front) back None x.0 old linked.back_linked there differs in
    let written = slice_get-set_same round x.0 old new (keeps.kept x.0 old there differs) in
    record {
      is_list = record {
        linked = linked_append (set round x.0 new) list None front (x ∷ back) None
            (linked_write round list None front (Some x.0) x.0 new front_absent after.front_linked)
            (written, linked_write round list (Some x.0) back None x.0 new back_absent after.back_linked);
        distinct = distinct_append front (x ∷ back) (record { front = parts.front; back = (back_absent, parts.back); apart = apart_cons front x back front_absent parts.apart });
      };
      keeps = keeps;
    }
