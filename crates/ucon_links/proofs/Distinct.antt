-- Each node stands once, and a spare one stands nowhere.
use Rattle.std.proofs.Common.{◌≡◌, ◌≢◌, ℕ, suc, ◌+◌, List, [], ◌∷◌, ◌++◌, map, length, Some, None, Option, slice_get, refl, sym, subst, arith, append_assoc}
use Rattle.ucon_links.specs.declared.table.Node.{Node}
use Rattle.ucon_links.specs.Lists.{Lists, first_or, list_at, listed_nodes, nodes_of, IsAbsent, IsDistinct}
use Rattle.ucon_links.specs.Layout.{IsLinked, IsList, Holds, listed_node, spare_node}
use Rattle.ucon_links.proofs.Cells.{tag_of}
use Rattle.ucon_links.specs.OneList.{ids, absent_join}
use Rattle.ucon_links.proofs.Linked.{linked_absent}
use Rattle.ucon_links.proofs.Stacks.{hidden_absent}

-- the lists from number `base` on
abbrev HoldsFrom : List Node → ℕ → List (List (ℕ × ℕ)) → Type 0
HoldsFrom nodes base lists = (list : ℕ) → IsList nodes (base + list) (list_at lists list)

holds_rest : (nodes : List Node) (base : ℕ) (xs : List (ℕ × ℕ)) (rest : List (List (ℕ × ℕ))) → HoldsFrom nodes base (xs ∷ rest) → HoldsFrom nodes (suc base) rest
holds_rest nodes base xs rest each list = subst (λ at. IsList nodes at (list_at rest list)) (next base list) (each (suc list))
  where
    next : (base list : ℕ) → base + suc list ≡ suc base + list
    next base list = omega arith

holds_first : (nodes : List Node) (base : ℕ) (xs : List (ℕ × ℕ)) (rest : List (List (ℕ × ℕ))) → HoldsFrom nodes base (xs ∷ rest) → IsList nodes base xs
holds_first nodes base xs rest each = subst (λ at. IsList nodes at xs) (none base) (each 0)
  where
    none : (base : ℕ) → base + 0 ≡ base
    none base = omega arith

-- a node that is of none of the lists
absent_from : (nodes : List Node) (base : ℕ) (lists : List (List (ℕ × ℕ))) (at : ℕ) (node : Node) → HoldsFrom nodes base lists → slice_get nodes at ≡ Some node → ((list : ℕ) → tag_of node ≢ suc (suc (base + list))) → IsAbsent at (listed_nodes lists)
absent_from nodes base [] at node each there differs = tt
absent_from nodes base (xs ∷ rest) at node each there differs =
    absent_join at (ids xs) (listed_nodes rest)
    (linked_absent nodes (base + 0) None xs None at node (each 0).linked there (differs 0))
    (absent_from nodes (suc base) rest at node (holds_rest nodes base xs rest each) there (λ list e. differs (suc list) (next (tag_of node) base list e)))
  where
    next : (tag base list : ℕ) → tag ≡ suc (suc (suc base + list)) → tag ≡ suc (suc (base + suc list))
    next tag base list e = omega arith

-- the nodes of one list before those of the lists behind it
distinct_list : (nodes : List Node) (base : ℕ) (before : Option ℕ) (xs : List (ℕ × ℕ)) (rest : List ℕ) → IsLinked nodes base before xs None → IsDistinct (ids xs) → IsDistinct rest → ((at : ℕ) (node : Node) → slice_get nodes at ≡ Some node → tag_of node ≡ suc (suc base) → IsAbsent at rest) → IsDistinct (ids xs ++ rest)
distinct_list nodes base before [] rest linked distinct later apart = later
distinct_list nodes base before (x ∷ xs) rest linked distinct later apart = (
  absent_join x.0 (ids xs) rest distinct.0 (apart x.0 (listed_node base before x (first_or None xs)) linked.0 refl),
  distinct_list nodes base (Some x.0) xs rest linked.1 distinct.1 later apart,
)

-- all listed nodes before some others
distinct_from : (nodes : List Node) (base : ℕ) (lists : List (List (ℕ × ℕ))) (others : List ℕ) → HoldsFrom nodes base lists → IsDistinct others → ((at : ℕ) (node : Node) (list : ℕ) → slice_get nodes at ≡ Some node → tag_of node ≡ suc (suc list) → IsAbsent at others) → IsDistinct (listed_nodes lists ++ others)
distinct_from nodes base [] others each distinct apart = distinct
distinct_from nodes base (xs ∷ rest) others each distinct apart =
    let this = holds_first nodes base xs rest each in
    let later = holds_rest nodes base xs rest each in
    subst IsDistinct (sym (append_assoc (ids xs) (listed_nodes rest) others))
    (distinct_list nodes base None xs (listed_nodes rest ++ others) this.linked this.distinct (distinct_from nodes (suc base) rest others later distinct apart)
    (λ at node there tag.
    absent_join at (listed_nodes rest) others
    (absent_from nodes (suc base) rest at node later there (λ list e. other (tag_of node) base list tag e))
    (apart at node base there tag)))
  where
    other : (tag base list : ℕ) → tag ≡ suc (suc base) → tag ≢ suc (suc (suc base + list))
    other tag base list e f = omega arith

from_zero : (nodes : List Node) (lists : List (List (ℕ × ℕ))) → ((list : ℕ) → IsList nodes list (list_at lists list)) → HoldsFrom nodes 0 lists
from_zero nodes lists each list = subst (λ at. IsList nodes at (list_at lists list)) (none list) (each list)
  where
    none : (list : ℕ) → list ≡ 0 + list
    none list = omega arith

pub nodes_distinct : (nodes : List Node) (firsts : List (Option ℕ)) (newest unused : Option ℕ) (v : Lists) (spares : List ℕ) → Holds nodes firsts newest unused v spares → IsDistinct (nodes_of v)
nodes_distinct nodes firsts newest unused v spares holds =
    distinct_from nodes 0 v.lists (map (λ item. item.node) v.hidden) (from_zero nodes v.lists holds.listed.each) holds.hidden.distinct
    (λ at node list there tag. hidden_absent nodes newest (length v.lists) v.hidden at node there (other (tag_of node) list tag) holds.hidden)
  where
    other : (tag list : ℕ) → tag ≡ suc (suc list) → 1 ≢ tag
    other tag list e f = omega arith

-- a spare node is neither listed nor hidden
pub spare_is_fresh : (nodes : List Node) (firsts : List (Option ℕ)) (newest unused : Option ℕ) (v : Lists) (spares : List ℕ) (at : ℕ) (below : Option ℕ) → Holds nodes firsts newest unused v spares → slice_get nodes at ≡ Some (spare_node below) → IsAbsent at (nodes_of v)
spare_is_fresh nodes firsts newest unused v spares at below holds there =
    absent_join at (listed_nodes v.lists) (map (λ item. item.node) v.hidden)
    (absent_from nodes 0 v.lists at (spare_node below) (from_zero nodes v.lists holds.listed.each) there (λ list e. none list e))
    (hidden_absent nodes newest (length v.lists) v.hidden at (spare_node below) there (λ e. omega arith) holds.hidden)
  where
    none : (list : ℕ) → 0 ≢ suc (suc (0 + list))
    none list e = omega arith
