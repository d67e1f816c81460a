-- How the table of nodes holds the lists and the two stacks. No public clause cites this module.
use Rattle.std.specs.Prelude.{◌≡◌, ℕ, zero, suc, ◌+◌, ◌-◌, ◌^◌, ◌<◌, List, [], ◌∷◌, map, length, slice_get, unwrap_or, Option, Some, None, ⊤}
use Rattle.ucon_base.specs.Elements.{Each}
use Rattle.ucon_links.specs.declared.table.Node.{Node}
use Rattle.ucon_links.specs.declared.table.State.{State}
use Rattle.ucon_links.specs.declared.table.State.TheVariants.{Listed, Hidden, Spare}
use Rattle.ucon_links.specs.Lists.{Item, Lists, first_or, list_at, node_count, IsDistinct}

-- a node of a list between its neighbours
abbrev pub listed_node : ℕ → Option ℕ → ℕ × ℕ → Option ℕ → Node
listed_node list before x after = record { owner = x.1; list = list; previous = before; next = after; state = Listed }

-- a hidden node above another
abbrev pub hidden_node : Option ℕ → Item → Node
hidden_node below item = record { owner = item.owner; list = item.list; previous = item.before; next = item.after; state = Hidden below }

-- a spare node above another
abbrev pub spare_node : Option ℕ → Node
spare_node below = record { owner = 0; list = 0; previous = None; next = None; state = Spare below }

-- these nodes stand linked in a list, between `before` and `after`
abbrev pub IsLinked : List Node → ℕ → Option ℕ → List (ℕ × ℕ) → Option ℕ → Type 0
IsLinked nodes list before [] after = ⊤
IsLinked nodes list before (x ∷ xs) after =
    (slice_get nodes x.0 ≡ Some (listed_node list before x (first_or after xs))) × IsLinked nodes list (Some x.0) xs after

-- a whole list
pub record IsList (nodes : List Node) (list : ℕ) (xs : List (ℕ × ℕ)) : Type 0 where
  pub linked : IsLinked nodes list None xs None
  pub distinct : IsDistinct (map (λ x. x.0) xs)

module _ {X : Type 0} (id : X → ℕ) (stored : Option ℕ → X → Node) where
  -- these stand on a stack from its top on, each naming the one below; what the last one names isn't followed
  abbrev pub IsStack : List Node → Option ℕ → List X → Type 0
  IsStack nodes top [] = ⊤
  IsStack nodes top (x ∷ xs) =
      (below : Option ℕ) × (top ≡ Some (id x)) × (slice_get nodes (id x) ≡ Some (stored below x)) × IsStack nodes below xs

abbrev pub below_of : State → Option ℕ
below_of Listed = None
below_of (Hidden below) = below
below_of (Spare below) = below

abbrev pub node_at : List Node → ℕ → Node
node_at nodes at = unwrap_or (slice_get nodes at) (spare_node None)

-- the list that begins at a node, of at most so many
abbrev pub walk : ℕ → List Node → Option ℕ → List (ℕ × ℕ)
walk zero nodes at = []
walk (suc most) nodes None = []
walk (suc most) nodes (Some at) = (at, (node_at nodes at).owner) ∷ walk most nodes (node_at nodes at).next

abbrev pub item_of : ℕ → Node → Item
item_of at node = record { list = node.list; node = at; owner = node.owner; before = node.previous; after = node.next }

-- so many hidden nodes from the top on
abbrev pub hidden_items : ℕ → List Node → Option ℕ → List Item
hidden_items zero nodes top = []
hidden_items (suc count) nodes None = []
hidden_items (suc count) nodes (Some top) =
    item_of top (node_at nodes top) ∷ hidden_items count nodes (below_of (node_at nodes top).state)

-- what a clause sees
abbrev pub seen : List Node → List (Option ℕ) → Option ℕ → ℕ → ℕ → Lists
seen nodes firsts newest hidden spare =
    record { lists = map (walk (length nodes) nodes) firsts; hidden = hidden_items hidden nodes newest; spare = spare }

-- each hidden node is of one of the lists
abbrev pub InLists : ℕ → List Item → Type 0
InLists lists items = Each (λ (item : Item). item.list < lists) items

-- the table holds these lists, by their first nodes
pub record HoldsLists (nodes : List Node) (firsts : List (Option ℕ)) (lists : List (List (ℕ × ℕ))) : Type 0 where
  pub heads : firsts ≡ map (first_or None) lists
  pub each : (list : ℕ) → IsList nodes list (list_at lists list)
  pub count_fits : length lists < 2 ^ 32

-- the table holds these hidden nodes, on a stack with this top
pub record HoldsHidden (nodes : List Node) (newest : Option ℕ) (lists : ℕ) (hidden : List Item) : Type 0 where
  pub stack : IsStack (λ item. item.node) hidden_node nodes newest hidden
  pub distinct : IsDistinct (map (λ item. item.node) hidden)
  pub in_lists : InLists lists hidden

-- the table holds these spare nodes, on a stack with this top
pub record HoldsSpare (nodes : List Node) (unused : Option ℕ) (spares : List ℕ) : Type 0 where
  pub stack : IsStack (λ node. node) (λ below node. spare_node below) nodes unused spares
  pub distinct : IsDistinct (map (λ node. node) spares)

-- the table holds these lists, these hidden nodes and these spare ones, and no others
pub record Holds (nodes : List Node) (firsts : List (Option ℕ)) (newest unused : Option ℕ) (v : Lists) (spares : List ℕ) : Type 0 where
  pub listed : HoldsLists nodes firsts v.lists
  pub hidden : HoldsHidden nodes newest (length v.lists) v.hidden
  pub spare : HoldsSpare nodes unused spares
  pub spare_count : length spares ≡ v.spare
  pub counted : node_count v + v.spare ≡ length nodes
  pub fits : length nodes < 2 ^ 32 - 1

-- the table holds what is seen of it
pub record IsSound
    (nodes : List Node) (firsts : List (Option ℕ)) (newest : Option ℕ) (hidden : ℕ) (unused : Option ℕ) (spare : ℕ) : Type 0 where
  pub spares : List ℕ
  pub holds : Holds nodes firsts newest unused (seen nodes firsts newest hidden spare) spares
  pub hidden_count : length (hidden_items hidden nodes newest) ≡ hidden
