-- What the table holds after a listed node was hidden.
use Rattle.std.proofs.Common.{◌≡◌, ℕ, suc, ◌+◌, ◌-◌, ◌^◌, ◌<◌, List, ◌∷◌, ◌++◌, map, length, set, sum_by, Some, None, Option, IsSome, slice_get, refl, sym, ap, ◌∙◌, subst, arith, length-set}
use Rattle.std.proofs.lemmas.List.{length-map}
use Rattle.std.specs.Option.{ForSome}
use Rattle.std.proofs.lemmas.Option.{slice_get_within}
use Rattle.ucon_links.specs.declared.table.Node.{Node}
use Rattle.ucon_links.specs.declared.table.State.TheVariants.{Hidden}
use Rattle.ucon_links.specs.Lists.{Item, Lists, first_or, last_or, list_at, place_of, without, take_out, hide, hide_item, IsListed, IsAbsent}
use Rattle.ucon_links.specs.Layout.{IsLinked, IsList, HoldsLists, HoldsHidden, Holds, listed_node, hidden_node}
use Rattle.ucon_links.specs.Table.{with_first, with_next, joined}
use Rattle.ucon_links.proofs.Cells.{one_is_no_list, zero_is_no_list, slice_get-set_same, some_same, HasTag, length-changed}
use Rattle.ucon_links.proofs.Linked.{distinct_parts, linked_back, linked_front, last_has_tag, first_has_tag}
use Rattle.ucon_links.proofs.Moves.{joined_over, joined-other, left}
use Rattle.ucon_links.proofs.Stacks.{hidden_kept, hidden_absent, spare_kept}
use Rattle.ucon_links.proofs.ListsHeld.{lists_left, counted_set}
use Rattle.ucon_links.specs.OneList.{without-first}
use Rattle.ucon_links.proofs.Places.{StandsBehind, stands_there}

pub tag_within : (tag : ℕ) (nodes : List Node) (at : Option ℕ) → HasTag tag nodes at → ForSome at (λ node. node < length nodes)
tag_within tag nodes at tagged = λ node is. let there = subst (HasTag tag nodes) is tagged in slice_get_within nodes node there.0 there.1

pub length-joined : (nodes : List Node) (before next previous after : Option ℕ) → length (joined nodes before next previous after) ≡ length nodes
length-joined nodes before next previous after =
    length-changed (λ node. record node { previous = previous }) (with_next nodes before next) after
    ∙ length-changed (λ node. record node { next = next }) nodes before

pub length-firsts : {nodes : List Node} {firsts : List (Option ℕ)} {lists : List (List (ℕ × ℕ))} → HoldsLists nodes firsts lists → length firsts ≡ length lists
length-firsts {lists = lists} holds = ap length holds.heads ∙ length-map lists (first_or None)

pub some_of : (found : Option Item) → IsSome found → (item : Item) × (found ≡ Some item)
some_of None some = let no : ⊥ = cc in absurd no
some_of (Some item) some = (item, refl)

-- a listed node, in the middle of its list
pub record Found (nodes : List Node) (v : Lists) (node : ℕ) : Type 0 where
  pub item : Item
  pub place_is : place_of v node ≡ Some item
  pub within : item.list < length v.lists
  pub stands : StandsBehind item.list None (list_at v.lists item.list) node item
  pub linked : IsLinked nodes item.list None (stands.front ++ (node, item.owner) ∷ stands.back) None

pub found : (nodes : List Node) (firsts : List (Option ℕ)) (v : Lists) (node : ℕ) → HoldsLists nodes firsts v.lists → IsListed v node → Found nodes v node
found nodes firsts v node holds listed =
    let at = some_of (place_of v node) listed in
    let stands = stands_there v.lists node at.0 at.1 in
    record {
      item = at.0;
      place_is = at.1;
      within = stands.within;
      stands = stands.stands;
      linked = subst (λ xs. IsLinked nodes (at.0).list None xs None) stands.stands.there (holds.each (at.0).list).linked;
    }

-- how a listed node is stored
pub found_node : (nodes : List Node) (v : Lists) (node : ℕ) (at : Found nodes v node) → slice_get nodes node ≡ Some (listed_node at.item.list (last_or None at.stands.front) (node, at.item.owner) (first_or None at.stands.back))
found_node nodes v node at = (linked_back nodes at.item.list None at.stands.front ((node, at.item.owner) ∷ at.stands.back) None at.linked).0

-- what a call that hides needs, and what it leaves
pub record Hides (nodes : List Node) (firsts : List (Option ℕ)) (newest unused : Option ℕ) (v : Lists) (spares : List ℕ) (node : ℕ) (stored : Node) : Type 0 where
  pub list_in : stored.list < length firsts
  pub before_in : ForSome stored.previous (λ before. before < length nodes)
  pub after_in : ForSome stored.next (λ after. after < length nodes)
  pub holds : Holds (set (joined nodes stored.previous stored.next stored.previous stored.next) node (record stored { state = Hidden newest })) (with_first firsts stored.list stored.previous stored.next) (Some node) unused (hide v node) spares
  pub count : length (hide v node).hidden ≡ suc (length v.hidden)

-- the lists without a node that stands there
pub taken_out : (nodes : List Node) (v : Lists) (node : ℕ) (at : Found nodes v node) → take_out v.lists at.item ≡ set v.lists at.item.list (at.stands.front ++ at.stands.back)
taken_out nodes v node at =
    ap (set v.lists at.item.list)
    (ap (λ n. without n (list_at v.lists at.item.list)) at.stands.node_is
    ∙ ap (without node) at.stands.there
    ∙ without-first node at.item.owner at.stands.front at.stands.back at.stands.absent)

-- the item as it is stored once it is hidden
hidden_stored : (nodes : List Node) (v : Lists) (node : ℕ) (newest : Option ℕ) (at : Found nodes v node) → record (listed_node at.item.list (last_or None at.stands.front) (node, at.item.owner) (first_or None at.stands.back)) { state = Hidden newest } ≡ hidden_node newest at.item
hidden_stored nodes v node newest at =
    ap (λ before. record (listed_node at.item.list before (node, at.item.owner) (first_or None at.stands.back)) { state = Hidden newest }) at.stands.before_is
    ∙ ap (λ after. record (listed_node at.item.list at.item.before (node, at.item.owner) after) { state = Hidden newest }) at.stands.after_is

-- the table still has the node once its neighbours are joined
stays_there : (nodes : List Node) (firsts : List (Option ℕ)) (v : Lists) (node : ℕ) (at : Found nodes v node) → HoldsLists nodes firsts v.lists → slice_get (joined_over nodes at.stands.front at.stands.back) node ≡ Some (listed_node at.item.list (last_or None at.stands.front) (node, at.item.owner) (first_or None at.stands.back))
stays_there nodes firsts v node at holds =
    let whole = subst (IsList nodes at.item.list) at.stands.there (holds.each at.item.list) in
    let parts = distinct_parts at.stands.front ((node, at.item.owner) ∷ at.stands.back) whole.distinct in
    joined-other nodes at.stands.front at.stands.back (first_or None at.stands.back) (last_or None at.stands.front) node at.stands.absent parts.back.0
    ∙ found_node nodes v node at

one_moved : (after before back hidden spare : ℕ) → after + suc back ≡ before + back → after + suc hidden + spare ≡ before + hidden + spare
one_moved after before back hidden spare change = omega arith

hides_stored : (nodes : List Node) (firsts : List (Option ℕ)) (newest unused : Option ℕ) (v : Lists) (spares : List ℕ) (node : ℕ) (at : Found nodes v node) → Holds nodes firsts newest unused v spares → Hides nodes firsts newest unused v spares node (listed_node at.item.list (last_or None at.stands.front) (node, at.item.owner) (first_or None at.stands.back))
hides_stored nodes firsts newest unused v spares node at holds =
    let item = at.item in
    let front = at.stands.front in
    let back = at.stands.back in
    let x : ℕ × ℕ = (node, item.owner) in
    let stored = listed_node item.list (last_or None front) x (first_or None back) in
    let new : Node = record stored { state = Hidden newest } in
    let tag = suc (suc item.list) in
    let within = at.within in
    let there = found_node nodes v node at in
    let gone = left nodes item.list front back x new (subst (IsList nodes item.list) at.stands.there (holds.listed.each item.list)) in
    let lists = lists_left nodes firsts v.lists item.list front back x new within at.stands.there holds.listed in
    let same_lists = length-set v.lists item.list (front ++ back) in
    let others = hidden_kept nodes _ newest (length v.lists) v.hidden tag gone.keeps (one_is_no_list item.list) holds.hidden in
    let node_is = at.stands.node_is in
    let absent = hidden_absent nodes newest (length v.lists) v.hidden node stored there (one_is_no_list item.list) holds.hidden in
    let written = slice_get-set_same (joined_over nodes front back) node stored new (stays_there nodes firsts v node at holds.listed) in
    let hidden : HoldsHidden (set (joined_over nodes front back) node new) (Some node) (length v.lists) (item ∷ v.hidden) = record {
      stack = (newest, ap Some (sym node_is), ap (slice_get (set (joined_over nodes front back) node new)) node_is ∙ written ∙ ap Some (hidden_stored nodes v node newest at), others.stack);
      distinct = (subst (λ n. IsAbsent n (map (λ i. i.node) v.hidden)) (sym node_is) absent, others.distinct);
      in_lists = (within, others.in_lists);
    } in
    let after : Lists = record v { lists = set v.lists item.list (front ++ back); hidden = item ∷ v.hidden } in
    let result : hide v node ≡ after =
    ap (hide_item v) at.place_is ∙ ap (λ all. record v { lists = all; hidden = item ∷ v.hidden }) (taken_out nodes v node at) in
    let change = counted_set v.lists item.list front (x ∷ back) back within at.stands.there in
    let size = length-set (joined_over nodes front back) node new ∙ length-joined nodes (last_or None front) (first_or None back) (last_or None front) (first_or None back) in
    record {
      list_in = subst (λ count. item.list < count) (sym (length-firsts holds.listed)) within;
      before_in = tag_within tag nodes (last_or None front) (last_has_tag nodes item.list None front (Some node) tt (linked_front nodes item.list None front (x ∷ back) None at.linked));
      after_in = tag_within tag nodes (first_or None back) (first_has_tag nodes item.list (Some node) back None (linked_back nodes item.list None front (x ∷ back) None at.linked).1);
      holds = subst (λ w. Holds (set (joined_over nodes front back) node new) (with_first firsts item.list (last_or None front) (first_or None back)) (Some node) unused w spares) (sym result) (record {
        listed = lists;
        hidden = subst (λ count. HoldsHidden (set (joined_over nodes front back) node new) (Some node) count (item ∷ v.hidden)) (sym same_lists) hidden;
        spare = spare_kept nodes _ unused spares tag gone.keeps (zero_is_no_list item.list) holds.spare;
        spare_count = holds.spare_count;
        counted = one_moved _ (sum_by length v.lists) (length back) (length v.hidden) v.spare change ∙ holds.counted ∙ sym size;
        fits = subst (λ count. count < 2 ^ 32 - 1) (sym size) holds.fits;
      });
      count = ap (λ w. length w.hidden) result;
    }

pub hides : (nodes : List Node) (firsts : List (Option ℕ)) (newest unused : Option ℕ) (v : Lists) (spares : List ℕ) (node : ℕ) (stored : Node) → slice_get nodes node ≡ Some stored → Holds nodes firsts newest unused v spares → IsListed v node → Hides nodes firsts newest unused v spares node stored
hides nodes firsts newest unused v spares node stored there holds listed =
    let at = found nodes firsts v node holds.listed listed in
    subst (Hides nodes firsts newest unused v spares node) (some_same (sym (found_node nodes v node at) ∙ there)) (hides_stored nodes firsts newest unused v spares node at holds)
