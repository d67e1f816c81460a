-- Lists linked by index: the lists, the stack of hidden nodes, and the room that is left.
use Rattle.std.specs.Prelude.{◌≡◌, ◌≢◌, ℕ, suc, ◌+◌, ◌-◌, ◌==◌, List, [], ◌∷◌, ◌++◌, map, length, take, drop, sum_by, slice_set, slice_index_or, ⊤}
use Rattle.std.specs.Prelude.{Option, Some, None, IsSome, unwrap_or, option_map, if◌then◌else◌}
use Rattle.ucon_base.specs.Elements.{Each}

-- where a node stands, or where it stood when it was hidden: no neighbour at an end of the list
pub record Item : Type 0 where
  pub list : ℕ
  pub node : ℕ
  pub owner : ℕ
  pub before : Option ℕ
  pub after : Option ℕ

-- the lists of nodes with their owners, the hidden nodes from the newest to the oldest, and for how many more nodes there is room
pub record Lists : Type 0 where
  pub lists : List (List (ℕ × ℕ))
  pub hidden : List Item
  pub spare : ℕ

-- the first node of a list in front of `after`
abbrev pub first_or : Option ℕ → List (ℕ × ℕ) → Option ℕ
first_or after [] = after
first_or after (x ∷ xs) = Some x.0

-- the last node of a list behind `before`
abbrev pub last_or : Option ℕ → List (ℕ × ℕ) → Option ℕ
last_or before [] = before
last_or before (x ∷ xs) = last_or (Some x.0) xs

abbrev pub list_at : List (List (ℕ × ℕ)) → ℕ → List (ℕ × ℕ)
list_at lists list = slice_index_or lists list []

-- where the node stands in the part of a list that is behind `before`
abbrev pub place_behind : ℕ → Option ℕ → List (ℕ × ℕ) → ℕ → Option Item
place_behind list before [] node = None
place_behind list before (x ∷ xs) node =
    if x.0 == node
    then Some (record { list = list; node = x.0; owner = x.1; before = before; after = first_or None xs })
    else place_behind list (Some x.0) xs node

abbrev pub or_else : Option Item → Option Item → Option Item
or_else None other = other
or_else (Some item) other = Some item

-- where the node stands in the lists from number `list` on
abbrev pub place_from : ℕ → List (List (ℕ × ℕ)) → ℕ → Option Item
place_from list [] node = None
place_from list (xs ∷ rest) node = or_else (place_behind list None xs node) (place_from (suc list) rest node)

-- where the node stands
abbrev pub place_of : Lists → ℕ → Option Item
place_of v node = place_from 0 v.lists node

abbrev pub IsListed : Lists → ℕ → Type 0
IsListed v node = IsSome (place_of v node)

-- the number of the list in which the node stands
abbrev pub list_of : Lists → ℕ → ℕ
list_of v node = unwrap_or (option_map (λ item. item.list) (place_of v node)) 0

abbrev pub hidden_at : List Item → ℕ → Option Item
hidden_at [] node = None
hidden_at (item ∷ rest) node = if item.node == node then Some item else hidden_at rest node

-- the owner of a node that is listed or hidden
abbrev pub owner_of : Lists → ℕ → Option ℕ
owner_of v node = option_map (λ item. item.owner) (or_else (place_of v node) (hidden_at v.hidden node))

abbrev pub listed_nodes : List (List (ℕ × ℕ)) → List ℕ
listed_nodes [] = []
listed_nodes (xs ∷ rest) = map (λ x. x.0) xs ++ listed_nodes rest

-- the nodes that are listed or hidden
abbrev pub nodes_of : Lists → List ℕ
nodes_of v = listed_nodes v.lists ++ map (λ item. item.node) v.hidden

-- how many nodes are listed or hidden
abbrev pub node_count : Lists → ℕ
node_count v = sum_by length v.lists + length v.hidden

abbrev pub IsAbsent : ℕ → List ℕ → Type 0
IsAbsent node others = Each (λ (other : ℕ). other ≢ node) others

-- none is there twice
abbrev pub IsDistinct : List ℕ → Type 0
IsDistinct [] = ⊤
IsDistinct (node ∷ rest) = IsAbsent node rest × IsDistinct rest

-- a list without the node
abbrev pub without : ℕ → List (ℕ × ℕ) → List (ℕ × ℕ)
without node [] = []
without node (x ∷ xs) = if x.0 == node then xs else x ∷ without node xs

-- a list with a pair directly behind the node `before`, or at the front
abbrev pub with_behind : Option ℕ → ℕ × ℕ → List (ℕ × ℕ) → List (ℕ × ℕ)
with_behind None pair xs = pair ∷ xs
with_behind (Some before) pair [] = []
with_behind (Some before) pair (x ∷ xs) = if x.0 == before then x ∷ pair ∷ xs else x ∷ with_behind (Some before) pair xs

-- one list has a new pair
abbrev pub put_in : List (List (ℕ × ℕ)) → ℕ → Option ℕ → ℕ × ℕ → List (List (ℕ × ℕ))
put_in lists list before pair = slice_set lists list (with_behind before pair (list_at lists list))

-- a new node behind `before` of a list
abbrev pub link_behind : Lists → ℕ → Option ℕ → ℕ → ℕ → Lists
link_behind v list before node owner = record v { lists = put_in v.lists list before (node, owner); spare = v.spare - 1 }

abbrev pub take_out : List (List (ℕ × ℕ)) → Item → List (List (ℕ × ℕ))
take_out lists item = slice_set lists item.list (without item.node (list_at lists item.list))

abbrev pub hide_item : Lists → Option Item → Lists
hide_item v None = v
hide_item v (Some item) = record v { lists = take_out v.lists item; hidden = item ∷ v.hidden }

-- the node leaves its list for the stack, where it keeps its neighbours
abbrev pub hide : Lists → ℕ → Lists
hide v node = hide_item v (place_of v node)

abbrev pub unlink_item : Lists → Option Item → Lists
unlink_item v None = v
unlink_item v (Some item) = record v { lists = take_out v.lists item; spare = v.spare + 1 }

-- the node leaves its list
abbrev pub unlink : Lists → ℕ → Lists
unlink v node = unlink_item v (place_of v node)

abbrev pub put_back : Lists → List Item → Lists
put_back v [] = v
put_back v (item ∷ rest) = record v { lists = put_in v.lists item.list item.before (item.node, item.owner); hidden = rest }

-- the newest hidden node goes back behind the node that stood before it
abbrev pub unhide : Lists → Lists
unhide v = put_back v v.hidden

-- `before` and `after` stand next to each other, where none stands for the list's end on that side
pub record IsGap (before after : Option ℕ) (xs : List (ℕ × ℕ)) : Type 0 where
  pub front : List (ℕ × ℕ)
  pub back : List (ℕ × ℕ)
  pub parts : xs ≡ front ++ back
  pub front_ends : last_or None front ≡ before
  pub back_begins : first_or None back ≡ after

abbrev pub FitsBack : List (List (ℕ × ℕ)) → List Item → ℕ → Type 0
FitsBack lists [] node = ⊥
FitsBack lists (item ∷ rest) node = (item.node ≡ node) × IsGap item.before item.after (list_at lists item.list)

-- the node is the newest hidden one, and its neighbours stand next to each other
abbrev pub CanUnhide : Lists → ℕ → Type 0
CanUnhide v node = FitsBack v.lists v.hidden node

abbrev pub newest : List Item → Option ℕ
newest [] = None
newest (item ∷ rest) = Some item.node

abbrev pub oldest : List Item → Option ℕ
oldest [] = None
oldest (item ∷ []) = Some item.node
oldest (item ∷ next ∷ rest) = oldest (next ∷ rest)

-- the oldest hidden node makes room
abbrev pub free_oldest : Lists → Lists
free_oldest v = record v { hidden = take (length v.hidden - 1) v.hidden; spare = v.spare + 1 }

-- the newest hidden node makes room
abbrev pub free_newest : Lists → Lists
free_newest v = record v { hidden = drop 1 v.hidden; spare = v.spare + 1 }

abbrev pub hide_all : Lists → List ℕ → Lists
hide_all v [] = v
hide_all v (node ∷ rest) = hide_all (hide v node) rest

-- each is listed when its turn comes
abbrev pub AllListed : Lists → List ℕ → Type 0
AllListed v [] = ⊤
AllListed v (node ∷ rest) = IsListed v node × AllListed (hide v node) rest

-- the second is the first with these nodes hidden in this order
pub record AreHidden (v : Lists) (nodes : List ℕ) (hidden : Lists) : Type 0 where
  pub listed : AllListed v nodes
  pub result : hidden ≡ hide_all v nodes

-- there are lists from which these nodes were hidden in this order
abbrev pub WereHidden : List ℕ → Lists → Type 0
WereHidden nodes hidden = (v : Lists) × AreHidden v nodes hidden
