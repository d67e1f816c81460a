-- The stacks of hidden and of spare nodes.
use Rattle.std.proofs.Common.{◌≡◌, ◌≢◌, ℕ, ◌≤◌, List, [], ◌∷◌, ◌++◌, map, length, set, Some, Option, slice_get, refl, sym, ap, ◌∙◌, arith}
use Rattle.std.proofs.lemmas.Option.{slice_get_within}
use Rattle.ucon_links.specs.declared.table.Node.{Node}
use Rattle.ucon_links.specs.Lists.{Item, IsAbsent, IsDistinct}
use Rattle.ucon_links.specs.Layout.{IsStack, InLists, HoldsHidden, HoldsSpare, hidden_node, spare_node}
use Rattle.ucon_links.proofs.Cells.{slice_get-set_same, slice_get-set_other, some_same, tag_of, KeepsOthers}

module _ {X : Type 0} (id : X → ℕ) (stored : Option ℕ → X → Node) where
  -- a table that keeps these nodes keeps the stack
  pub stack_kept : (old new : List Node) (top : Option ℕ) (xs : List X) (tag : ℕ) → KeepsOthers tag old new → ((below : Option ℕ) (x : X) → tag_of (stored below x) ≢ tag) → IsStack id stored old top xs → IsStack id stored new top xs
  stack_kept old new top [] tag keeps differs stack = tt
  stack_kept old new top (x ∷ xs) tag keeps differs stack =
      (stack.0, stack.1, keeps.kept (id x) _ stack.2 (differs stack.0 x), stack_kept old new stack.0 xs tag keeps differs stack.3)

  pub stack_write : (nodes : List Node) (top : Option ℕ) (xs : List X) (at : ℕ) (new : Node) → IsAbsent at (map id xs) → IsStack id stored nodes top xs → IsStack id stored (set nodes at new) top xs
  stack_write nodes top [] at new absent stack = tt
  stack_write nodes top (x ∷ xs) at new absent stack =
      (stack.0, stack.1, slice_get-set_other nodes at (id x) new absent.0 ∙ stack.2, stack_write nodes stack.0 xs at new absent.1 stack.3)

  -- a node with another tag is another node
  pub stack_absent : (nodes : List Node) (top : Option ℕ) (xs : List X) (at : ℕ) (node : Node) → slice_get nodes at ≡ Some node → ((below : Option ℕ) (x : X) → tag_of (stored below x) ≢ tag_of node) → IsStack id stored nodes top xs → IsAbsent at (map id xs)
  stack_absent nodes top [] at node there differs stack = tt
  stack_absent nodes top (x ∷ xs) at node there differs stack =
      (λ e. differs stack.0 x (ap tag_of (some_same (sym stack.2 ∙ ap (slice_get nodes) e ∙ there))), stack_absent nodes stack.0 xs at node there differs stack.3)

  -- every node of a stack is in the table
  pub stack_absent_past : (nodes : List Node) (top : Option ℕ) (xs : List X) (at : ℕ) → length nodes ≤ at → IsStack id stored nodes top xs → IsAbsent at (map id xs)
  stack_absent_past nodes top [] at past stack = tt
  stack_absent_past nodes top (x ∷ xs) at past stack =
      let within = slice_get_within nodes (id x) _ stack.2 in
      (λ e. absurd (omega arith), stack_absent_past nodes stack.0 xs at past stack.3)

  pub stack_front : (nodes : List Node) (top : Option ℕ) (xs ys : List X) → IsStack id stored nodes top (xs ++ ys) → IsStack id stored nodes top xs
  stack_front nodes top [] ys stack = tt
  stack_front nodes top (x ∷ xs) ys stack = (stack.0, stack.1, stack.2, stack_front nodes stack.0 xs ys stack.3)

  -- the last one's node
  pub stack_last : (nodes : List Node) (top : Option ℕ) (xs : List X) (y : X) → IsStack id stored nodes top (xs ++ y ∷ []) → (below : Option ℕ) × (slice_get nodes (id y) ≡ Some (stored below y))
  stack_last nodes top [] y stack = (stack.0, stack.2)
  stack_last nodes top (x ∷ xs) y stack = stack_last nodes stack.0 xs y stack.3

module _ {X : Type 0} (id : X → ℕ) where
  absent_front : (at : ℕ) (xs : List X) (y : X) → IsAbsent at (map id (xs ++ y ∷ [])) → IsAbsent at (map id xs) × (id y ≢ at)
  absent_front at [] y absent = (tt, absent.0)
  absent_front at (x ∷ xs) y absent = let rest = absent_front at xs y absent.1 in ((absent.0, rest.0), rest.1)

  -- the last one is none of the others
  pub distinct_front : (xs : List X) (y : X) → IsDistinct (map id (xs ++ y ∷ [])) → IsDistinct (map id xs) × IsAbsent (id y) (map id xs)
  distinct_front [] y distinct = (tt, tt)
  distinct_front (x ∷ xs) y distinct =
      let rest = distinct_front xs y distinct.1 in
      let absent = absent_front (id x) xs y distinct.0 in
      ((absent.0, rest.0), (λ e. absent.1 (sym e), rest.1))

pub in_lists_more : (lists more : ℕ) (items : List Item) → lists ≤ more → InLists lists items → InLists more items
in_lists_more lists more [] le all = tt
in_lists_more lists more (item ∷ rest) le all = let first = all.0 in (omega arith, in_lists_more lists more rest le all.1)

pub in_lists_front : (lists : ℕ) (xs ys : List Item) → InLists lists (xs ++ ys) → InLists lists xs
in_lists_front lists [] ys all = tt
in_lists_front lists (x ∷ xs) ys all = (all.0, in_lists_front lists xs ys all.1)

pub hidden_kept : (old new : List Node) (newest : Option ℕ) (lists : ℕ) (hidden : List Item) (tag : ℕ) → KeepsOthers tag old new → 1 ≢ tag → HoldsHidden old newest lists hidden → HoldsHidden new newest lists hidden
hidden_kept old new newest lists hidden tag keeps differs holds =
    record { stack = stack_kept (λ item. item.node) hidden_node old new newest hidden tag keeps (λ below x. differs) holds.stack; distinct = holds.distinct; in_lists = holds.in_lists }

pub hidden_write : (nodes : List Node) (newest : Option ℕ) (lists : ℕ) (hidden : List Item) (at : ℕ) (new : Node) → IsAbsent at (map (λ item. item.node) hidden) → HoldsHidden nodes newest lists hidden → HoldsHidden (set nodes at new) newest lists hidden
hidden_write nodes newest lists hidden at new absent holds =
    record { stack = stack_write (λ item. item.node) hidden_node nodes newest hidden at new absent holds.stack; distinct = holds.distinct; in_lists = holds.in_lists }

pub hidden_absent : (nodes : List Node) (newest : Option ℕ) (lists : ℕ) (hidden : List Item) (at : ℕ) (node : Node) → slice_get nodes at ≡ Some node → 1 ≢ tag_of node → HoldsHidden nodes newest lists hidden → IsAbsent at (map (λ item. item.node) hidden)
hidden_absent nodes newest lists hidden at node there differs holds =
    stack_absent (λ item. item.node) hidden_node nodes newest hidden at node there (λ below x. differs) holds.stack

pub spare_kept : (old new : List Node) (unused : Option ℕ) (spares : List ℕ) (tag : ℕ) → KeepsOthers tag old new → 0 ≢ tag → HoldsSpare old unused spares → HoldsSpare new unused spares
spare_kept old new unused spares tag keeps differs holds =
    record { stack = stack_kept (λ node. node) (λ below node. spare_node below) old new unused spares tag keeps (λ below x. differs) holds.stack; distinct = holds.distinct }

pub spare_absent : (nodes : List Node) (unused : Option ℕ) (spares : List ℕ) (at : ℕ) (node : Node) → slice_get nodes at ≡ Some node → 0 ≢ tag_of node → HoldsSpare nodes unused spares → IsAbsent at (map (λ node. node) spares)
spare_absent nodes unused spares at node there differs holds =
    stack_absent (λ node. node) (λ below node. spare_node below) nodes unused spares at node there (λ below x. differs) holds.stack

-- a node that is none of them is written
pub spare_write : (nodes : List Node) (unused : Option ℕ) (spares : List ℕ) (at : ℕ) (new : Node) → IsAbsent at (map (λ node. node) spares) → HoldsSpare nodes unused spares → HoldsSpare (set nodes at new) unused spares
spare_write nodes unused spares at new absent holds =
    record { stack = stack_write (λ node. node) (λ below node. spare_node below) nodes unused spares at new absent holds.stack; distinct = holds.distinct }

-- a node that is neither listed nor spare becomes a spare one
pub spare_push : (nodes : List Node) (unused : Option ℕ) (spares : List ℕ) (at : ℕ) (node : Node) → slice_get nodes at ≡ Some node → 0 ≢ tag_of node → HoldsSpare nodes unused spares → HoldsSpare (set nodes at (spare_node unused)) (Some at) (at ∷ spares)
spare_push nodes unused spares at node there differs holds =
    let absent = spare_absent nodes unused spares at node there differs holds in
    record {
      stack = (unused, refl, slice_get-set_same nodes at node (spare_node unused) there, (spare_write nodes unused spares at (spare_node unused) absent holds).stack);
      distinct = (absent, holds.distinct);
    }
