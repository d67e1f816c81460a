-- What is read at a node.
use Rattle.std.proofs.Common.{◌≡◌, ℕ, ◌<◌, List, [], ◌∷◌, ◌++◌, length, Some, None, Option, IsSome, option_map, is_some, unwrap_or, Bool, true, false, eqb, cond, slice_get, refl, sym, ap, ◌∙◌, subst, append_assoc}
use Rattle.std.proofs.lemmas.Bool.{eqb-true}
use Rattle.ucon_links.specs.declared.table.Node.{Node}
use Rattle.ucon_links.specs.Lists.{Item, Lists, first_or, last_or, list_at, place_of, list_of, or_else, hidden_at, owner_of, IsListed, IsGap, hide, hide_item, unlink, unlink_item, free_newest, newest}
use Rattle.ucon_links.specs.Layout.{IsStack, listed_node, hidden_node}
use Rattle.ucon_links.proofs.Cells.{some_same}
use Rattle.ucon_links.proofs.Places.{stands_there}
use Rattle.ucon_links.proofs.Hiding.{some_of, found, found_node}
use Rattle.ucon_links.proofs.Seen.{Opened}

-- the owner as it is stored
pub record OwnerAt (nodes : List Node) (v : Lists) (node : ℕ) : Type 0 where
  pub stored : Node
  pub there : slice_get nodes node ≡ Some stored
  pub owner_is : owner_of v node ≡ Some stored.owner

record HiddenAt (nodes : List Node) (node : ℕ) (item : Item) : Type 0 where
  pub below : Option ℕ
  pub there : slice_get nodes node ≡ Some (hidden_node below item)

hidden_first : (nodes : List Node) (top : Option ℕ) (first : Item) (rest : List Item) (node : ℕ) (item : Item) (test : Bool) → eqb first.node node ≡ test → cond test (Some first) (hidden_at rest node) ≡ Some item → IsStack (λ i. i.node) hidden_node nodes top (first ∷ rest) → (hidden_at rest node ≡ Some item → HiddenAt nodes node item) → HiddenAt nodes node item
hidden_first nodes top first rest node item true is found stack later =
    subst (HiddenAt nodes node) (some_same found)
    (record { below = stack.0; there = ap (slice_get nodes) (sym (eqb-true first.node node is)) ∙ stack.2 })
hidden_first nodes top first rest node item false is found stack later = later found

hidden_there : (nodes : List Node) (top : Option ℕ) (hidden : List Item) (node : ℕ) (item : Item) → IsStack (λ i. i.node) hidden_node nodes top hidden → hidden_at hidden node ≡ Some item → HiddenAt nodes node item
hidden_there nodes top [] node item stack found = let no : ⊥ = cc in absurd no
hidden_there nodes top (first ∷ rest) node item stack found =
    hidden_first nodes top first rest node item (eqb first.node node) refl found stack (hidden_there nodes stack.0 rest node item stack.3)

some_owner : (found : Option Item) → IsSome (option_map (λ item. item.owner) found) → IsSome found
some_owner None some = some
some_owner (Some item) some = refl

module _ (nodes : List Node) (firsts : List (Option ℕ)) (top : Option ℕ) (hidden : ℕ) (unused : Option ℕ) (spare : ℕ) (v : Lists) (now : Opened nodes firsts top hidden unused spare v) (node : ℕ) where
  listed_owner : (place : Option Item) → place_of v node ≡ place → IsSome (or_else place (hidden_at v.hidden node)) → OwnerAt nodes v node
  listed_owner None is some =
      let at = some_of (hidden_at v.hidden node) some in
      let there = hidden_there nodes top v.hidden node at.0 now.holds.hidden.stack at.1 in
      record {
        stored = hidden_node there.below at.0;
        there = there.there;
        owner_is = ap (λ place. option_map (λ item. item.owner) (or_else place (hidden_at v.hidden node))) is ∙ ap (option_map (λ item. item.owner)) at.1;
      }
  listed_owner (Some item) is some =
      let at = found nodes firsts v node now.holds.listed (ap (λ place. is_some place) is) in
      record {
        stored = listed_node at.item.list (last_or None at.stands.front) (node, at.item.owner) (first_or None at.stands.back);
        there = found_node nodes v node at;
        owner_is = ap (λ place. option_map (λ i. i.owner) (or_else place (hidden_at v.hidden node))) at.place_is;
      }

  pub owner_at : IsSome (owner_of v node) → OwnerAt nodes v node
  owner_at some = listed_owner (place_of v node) refl (some_owner (or_else (place_of v node) (hidden_at v.hidden node)) some)

  -- what stands behind a listed node is what it names
  pub next_is : (stored : Node) → IsListed v node → slice_get nodes node ≡ Some stored → option_map (λ place. place.after) (place_of v node) ≡ Some stored.next
  next_is stored listed there =
      let at = found nodes firsts v node now.holds.listed listed in
      ap (option_map (λ place. place.after)) at.place_is ∙ ap Some (sym at.stands.after_is)
      ∙ ap (option_map (λ n. n.next)) (sym (found_node nodes v node at) ∙ there)

  -- what stands in front of a listed node is what it names
  pub previous_is : (stored : Node) → IsListed v node → slice_get nodes node ≡ Some stored → option_map (λ place. place.before) (place_of v node) ≡ Some stored.previous
  previous_is stored listed there =
      let at = found nodes firsts v node now.holds.listed listed in
      ap (option_map (λ place. place.before)) at.place_is ∙ ap Some (sym at.stands.before_is)
      ∙ ap (option_map (λ n. n.previous)) (sym (found_node nodes v node at) ∙ there)

  -- the list of a listed node is the one that it names
  pub list_is : (stored : Node) → IsListed v node → slice_get nodes node ≡ Some stored → stored.list ≡ list_of v node
  list_is stored listed there =
      let at = found nodes firsts v node now.holds.listed listed in
      ap (λ n. n.list) (some_same (sym there ∙ found_node nodes v node at)) ∙ sym (ap (λ place. unwrap_or (option_map (λ item. item.list) place) 0) at.place_is)

-- the list of a listed node is there
pub listed_list : (v : Lists) (node : ℕ) → IsListed v node → list_of v node < length v.lists
listed_list v node listed =
    let at = some_of (place_of v node) listed in
    subst (λ list. list < length v.lists) (sym (ap (λ place. unwrap_or (option_map (λ item. item.list) place) 0) at.1)) (stands_there v.lists node at.0 at.1).within

last_or-push : (before : Option ℕ) (xs : List (ℕ × ℕ)) (x : ℕ × ℕ) → last_or before (xs ++ x ∷ []) ≡ Some x.0
last_or-push before [] x = refl
last_or-push before (y ∷ xs) x = last_or-push (Some y.0) xs x

-- behind a listed node is a gap
pub gap_behind : (v : Lists) (node : ℕ) (next : Option ℕ) → IsListed v node → option_map (λ place. place.after) (place_of v node) ≡ Some next → IsGap (Some node) next (list_at v.lists (list_of v node))
gap_behind v node next listed next_is =
    let at = some_of (place_of v node) listed in
    let stands = (stands_there v.lists node at.0 at.1).stands in
    subst (λ list. IsGap (Some node) next (list_at v.lists list)) (sym (ap (λ place. unwrap_or (option_map (λ item. item.list) place) 0) at.1)) (record {
      front = stands.front ++ (node, (at.0).owner) ∷ [];
      back = stands.back;
      parts = stands.there ∙ sym (append_assoc stands.front ((node, (at.0).owner) ∷ []) stands.back);
      front_ends = last_or-push None stands.front (node, (at.0).owner);
      back_begins = stands.after_is ∙ some_same (ap (option_map (λ place. place.after)) (sym at.1) ∙ next_is);
    })

-- a node that was just hidden is the newest
pub newest-hide : (v : Lists) (node : ℕ) → IsListed v node → newest (hide v node).hidden ≡ Some node
newest-hide v node listed =
    let at = some_of (place_of v node) listed in
    ap (λ place. newest (hide_item v place).hidden) at.1 ∙ ap Some (stands_there v.lists node at.0 at.1).stands.node_is

-- to hide and to free is to unlink
pub free_newest-hide : (v : Lists) (node : ℕ) → IsListed v node → free_newest (hide v node) ≡ unlink v node
free_newest-hide v node listed =
    let at = some_of (place_of v node) listed in
    ap (λ place. free_newest (hide_item v place)) at.1 ∙ sym (ap (unlink_item v) at.1)
