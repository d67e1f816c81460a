-- What is seen of a table is what it holds.
use Rattle.std.proofs.Common.{◌≡◌, ℕ, zero, suc, ◌+◌, ◌≤◌, List, [], ◌∷◌, map, length, sum_by, Some, None, Option, unwrap_or, slice_get, refl, sym, ap, ◌∙◌, subst, arith}
use Rattle.std.proofs.lemmas.List.Sums.{sum_by-cons}
use Rattle.ucon_links.specs.declared.table.Node.{Node}
use Rattle.ucon_links.specs.Lists.{Item, Lists, first_or, list_at}
use Rattle.ucon_links.specs.Layout.{IsLinked, IsList, IsStack, Holds, IsSound, node_at, walk, item_of, below_of, hidden_items, hidden_node, listed_node, spare_node, seen}

node_at_is : (nodes : List Node) (at : ℕ) (node : Node) → slice_get nodes at ≡ Some node → node_at nodes at ≡ node
node_at_is nodes at node there = ap (λ found. unwrap_or found (spare_node None)) there

pub walk_is : (nodes : List Node) (list : ℕ) (before : Option ℕ) (xs : List (ℕ × ℕ)) (most : ℕ) → length xs ≤ most → IsLinked nodes list before xs None → walk most nodes (first_or None xs) ≡ xs
walk_is nodes list before [] zero le linked = refl
walk_is nodes list before [] (suc most) le linked = refl
walk_is nodes list before (x ∷ xs) zero le linked = absurd (omega arith)
walk_is nodes list before (x ∷ xs) (suc most) le linked =
    let there = node_at_is nodes x.0 (listed_node list before x (first_or None xs)) linked.0 in
    ap (λ node. (x.0, node.owner) ∷ walk most nodes node.next) there
    ∙ ap (λ ys. x ∷ ys) (walk_is nodes list (Some x.0) xs most (omega arith) linked.1)

pub lists_are : (nodes : List Node) (base most : ℕ) (lists : List (List (ℕ × ℕ))) → sum_by length lists ≤ most → ((list : ℕ) → IsList nodes (base + list) (list_at lists list)) → map (walk most nodes) (map (first_or None) lists) ≡ lists
lists_are nodes base most [] le each = refl
lists_are nodes base most (xs ∷ rest) le each =
    let counted = sum_by-cons length xs rest in
    let this = walk_is nodes (base + 0) None xs most (omega arith) (each 0).linked in
    let later = lists_are nodes (suc base) most rest (omega arith) (λ list. subst (λ at. IsList nodes at (list_at rest list)) (omega arith) (each (suc list))) in
    ap (λ ys. ys ∷ map (walk most nodes) (map (first_or None) rest)) this ∙ ap (λ all. xs ∷ all) later

pub hidden_are : (nodes : List Node) (top : Option ℕ) (items : List Item) → IsStack (λ item. item.node) hidden_node nodes top items → hidden_items (length items) nodes top ≡ items
hidden_are nodes top [] stack = refl
hidden_are nodes top (item ∷ rest) stack =
    let there = node_at_is nodes item.node (hidden_node stack.0 item) stack.2 in
    ap (hidden_items (suc (length rest)) nodes) stack.1
    ∙ ap (λ node. item_of item.node node ∷ hidden_items (length rest) nodes (below_of node.state)) there
    ∙ ap (λ items. item ∷ items) (hidden_are nodes stack.0 rest stack.3)

module _ (nodes : List Node) (firsts : List (Option ℕ)) (newest : Option ℕ) (hidden : ℕ) (unused : Option ℕ) (spare : ℕ) (v : Lists) where
  pub seen_is : (spares : List ℕ) → Holds nodes firsts newest unused v spares → length v.hidden ≡ hidden → v.spare ≡ spare → seen nodes firsts newest hidden spare ≡ v
  seen_is spares holds hidden_is spare_is =
      let counted = holds.counted in
      let lists = ap (map (walk (length nodes) nodes)) holds.listed.heads ∙ lists_are nodes 0 (length nodes) v.lists (omega arith) (λ list. subst (λ at. IsList nodes at (list_at v.lists list)) (omega arith) (holds.listed.each list)) in
      let items = ap (λ count. hidden_items count nodes newest) (sym hidden_is) ∙ hidden_are nodes newest v.hidden holds.hidden.stack in
      ap (λ all. record { lists = all; hidden = hidden_items hidden nodes newest; spare = spare }) lists
      ∙ ap (λ all. record { lists = v.lists; hidden = all; spare = spare }) items
      ∙ ap (λ n. record { lists = v.lists; hidden = v.hidden; spare = n }) (sym spare_is)

  pub sound : (spares : List ℕ) → Holds nodes firsts newest unused v spares → length v.hidden ≡ hidden → v.spare ≡ spare → IsSound nodes firsts newest hidden unused spare
  sound spares holds hidden_is spare_is =
      let same = seen_is spares holds hidden_is spare_is in
      record {
        spares = spares;
        holds = subst (λ w. Holds nodes firsts newest unused w spares) (sym same) holds;
        hidden_count = ap (λ w. length w.hidden) same ∙ hidden_is;
      }

  -- what is known of a value that is seen
  pub record Opened : Type 0 where
    pub spares : List ℕ
    pub holds : Holds nodes firsts newest unused v spares
    pub hidden_is : length v.hidden ≡ hidden
    pub spare_is : v.spare ≡ spare

  pub opened : IsSound nodes firsts newest hidden unused spare → seen nodes firsts newest hidden spare ≡ v → Opened
  opened is_sound same = record {
    spares = is_sound.spares;
    holds = subst (λ w. Holds nodes firsts newest unused w is_sound.spares) same is_sound.holds;
    hidden_is = ap (λ w. length w.hidden) (sym same) ∙ is_sound.hidden_count;
    spare_is = ap (λ w. w.spare) (sym same);
  }
