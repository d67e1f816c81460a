-- What the table's own functions write. No public clause cites this module.
use Rattle.std.specs.Prelude.{ℕ, List, Option, Some, None, option_map, slice_get, slice_set}
use Rattle.ucon_links.specs.declared.table.Node.{Node}

abbrev pub put_at : List Node → ℕ → Option Node → List Node
put_at nodes at None = nodes
put_at nodes at (Some node) = slice_set nodes at node

-- the table with one node changed, if there is one
abbrev pub changed : (Node → Node) → List Node → Option ℕ → List Node
changed change nodes None = nodes
changed change nodes (Some at) = put_at nodes at (option_map change (slice_get nodes at))

-- the table with `next` after the node `before`
abbrev pub with_next : List Node → Option ℕ → Option ℕ → List Node
with_next nodes before next = changed (λ node. record node { next = next }) nodes before

-- the table with `next` after `before`, and `previous` before `after`
abbrev pub joined : List Node → Option ℕ → Option ℕ → Option ℕ → Option ℕ → List Node
joined nodes before next previous after = changed (λ node. record node { previous = previous }) (with_next nodes before next) after

-- the first nodes, of which one changes if no node stands before
abbrev pub with_first : List (Option ℕ) → ℕ → Option ℕ → Option ℕ → List (Option ℕ)
with_first firsts list None next = slice_set firsts list next
with_first firsts list (Some before) next = firsts
