-- What the table holds after a hidden node was freed.
use Rattle.std.proofs.Common.{◌≡◌, ℕ, suc, ◌+◌, ◌-◌, ◌^◌, ◌<◌, List, [], ◌∷◌, ◌++◌, length, take, drop, set, sum_by, Some, Option, slice_get, refl, sym, ap, ◌∙◌, subst, arith, length-set, length-append}
use Rattle.std.proofs.lemmas.Option.{slice_get_within}
use Rattle.std.proofs.Math.Seq.{take-append_seam}
use Rattle.ucon_links.specs.declared.table.Node.{Node}
use Rattle.ucon_links.specs.Lists.{Item, Lists, newest, oldest, free_newest, free_oldest}
use Rattle.ucon_links.specs.Layout.{IsStack, HoldsLists, HoldsHidden, HoldsSpare, Holds, hidden_node, spare_node, below_of}
use Rattle.ucon_links.proofs.Cells.{one_is_no_list, some_same}
use Rattle.ucon_links.proofs.Stacks.{hidden_write, spare_push, stack_front, stack_last, distinct_front, in_lists_front}
use Rattle.ucon_links.proofs.ListsHeld.{lists_write}

-- a hidden node becomes a spare one
module _ (nodes : List Node) (firsts : List (Option ℕ)) (lists : List (List (ℕ × ℕ))) (hidden : List Item) (top unused : Option ℕ) (spare : ℕ) (spares : List ℕ) (item : Item) (below : Option ℕ) (stored : slice_get nodes item.node ≡ Some (hidden_node below item)) where
  -- what stays when one hidden node is written
  freed : HoldsLists nodes firsts lists → HoldsHidden (set nodes item.node (spare_node unused)) top (length lists) hidden → HoldsSpare nodes unused spares → length spares ≡ spare → sum_by length lists + suc (length hidden) + spare ≡ length nodes → length nodes < 2 ^ 32 - 1 → Holds (set nodes item.node (spare_node unused)) firsts top (Some item.node) (record { lists = lists; hidden = hidden; spare = spare + 1 }) (item.node ∷ spares)
  freed listed still spare_held spare_count counted fits =
      let size = length-set nodes item.node (spare_node unused) in
      record {
        listed = lists_write nodes firsts lists item.node (hidden_node below item) (spare_node unused) stored one_is_no_list listed;
        hidden = still;
        spare = spare_push nodes unused spares item.node (hidden_node below item) stored (λ e. omega arith) spare_held;
        spare_count = one_more (length spares) spare spare_count;
        counted = moved (sum_by length lists) (length hidden) spare ∙ counted ∙ sym size;
        fits = subst (λ count. count < 2 ^ 32 - 1) (sym size) fits;
      }
    where
      one_more : (a b : ℕ) → a ≡ b → suc a ≡ b + 1
      one_more a b e = omega arith

      moved : (a b c : ℕ) → a + b + (c + 1) ≡ a + suc b + c
      moved a b c = omega arith

-- what a call that frees needs, and what it leaves
pub record Frees (nodes : List Node) (firsts : List (Option ℕ)) (top unused : Option ℕ) (after : Lists) (spares : List ℕ) (node : ℕ) : Type 0 where
  pub within : node < length nodes
  pub holds : Holds (set nodes node (spare_node unused)) firsts top (Some node) after (node ∷ spares)

newest_freed : (nodes : List Node) (firsts : List (Option ℕ)) (top unused : Option ℕ) (lists : List (List (ℕ × ℕ))) (hidden : List Item) (spare : ℕ) (spares : List ℕ) (node : ℕ) (stored : Node) → Holds nodes firsts top unused (record { lists = lists; hidden = hidden; spare = spare }) spares → newest hidden ≡ Some node → slice_get nodes node ≡ Some stored → Frees nodes firsts (below_of stored.state) unused (free_newest (record { lists = lists; hidden = hidden; spare = spare })) spares node
newest_freed nodes firsts top unused lists [] spare spares node stored holds is there = let no : ⊥ = cc in absurd no
newest_freed nodes firsts top unused lists (item ∷ rest) spare spares node stored holds is there =
    let same : item.node ≡ node = some_same is in
    let stack = holds.hidden.stack in
    let stored_is : hidden_node stack.0 item ≡ stored = some_same (sym stack.2 ∙ ap (slice_get nodes) same ∙ there) in
    let still = hidden_write nodes stack.0 (length lists) rest item.node (spare_node unused) holds.hidden.distinct.0 (record { stack = stack.3; distinct = holds.hidden.distinct.1; in_lists = holds.hidden.in_lists.1 }) in
    let free = freed nodes firsts lists rest stack.0 unused spare spares item stack.0 stack.2 holds.listed still holds.spare holds.spare_count holds.counted holds.fits in
    subst (λ n. Frees nodes firsts (below_of n.state) unused (record { lists = lists; hidden = rest; spare = spare + 1 }) spares node) stored_is
    (subst (Frees nodes firsts stack.0 unused (record { lists = lists; hidden = rest; spare = spare + 1 }) spares) same
    (record { within = slice_get_within nodes item.node _ stack.2; holds = free }))

pub frees_newest : (nodes : List Node) (firsts : List (Option ℕ)) (top unused : Option ℕ) (v : Lists) (spares : List ℕ) (node : ℕ) (stored : Node) → Holds nodes firsts top unused v spares → newest v.hidden ≡ Some node → slice_get nodes node ≡ Some stored → Frees nodes firsts (below_of stored.state) unused (free_newest v) spares node
frees_newest nodes firsts top unused v spares node stored holds is there =
    newest_freed nodes firsts top unused v.lists v.hidden v.spare spares node stored holds is there

newest_stored : (nodes : List Node) (top : Option ℕ) (hidden : List Item) (node : ℕ) → IsStack (λ item. item.node) hidden_node nodes top hidden → newest hidden ≡ Some node → node < length nodes
newest_stored nodes top [] node stack is = let no : ⊥ = cc in absurd no
newest_stored nodes top (item ∷ rest) node stack is = subst (λ n. n < length nodes) (some_same is) (slice_get_within nodes item.node _ stack.2)

pub newest_in : (nodes : List Node) (firsts : List (Option ℕ)) (top unused : Option ℕ) (v : Lists) (spares : List ℕ) (node : ℕ) → Holds nodes firsts top unused v spares → newest v.hidden ≡ Some node → node < length nodes
newest_in nodes firsts top unused v spares node holds is = newest_stored nodes top v.hidden node holds.hidden.stack is

-- the hidden nodes before the oldest one
record Last (hidden : List Item) (node : ℕ) : Type 0 where
  pub front : List Item
  pub item : Item
  pub parts : hidden ≡ front ++ item ∷ []
  pub node_is : item.node ≡ node

last_of : (hidden : List Item) (node : ℕ) → oldest hidden ≡ Some node → Last hidden node
last_of [] node is = let no : ⊥ = cc in absurd no
last_of (item ∷ []) node is = record { front = []; item = item; parts = refl; node_is = some_same is }
last_of (item ∷ next ∷ rest) node is =
    let more = last_of (next ∷ rest) node is in
    record { front = item ∷ more.front; item = more.item; parts = ap (λ items. item ∷ items) more.parts; node_is = more.node_is }

all_but_last : (front : List Item) (item : Item) → take (length (front ++ item ∷ []) - 1) (front ++ item ∷ []) ≡ front
all_but_last front item =
    let count : length (front ++ item ∷ []) - 1 ≡ length front = omega (arith, length-append front (item ∷ [])) in
    rw count (take-append_seam front (item ∷ []))

oldest_freed : (nodes : List Node) (firsts : List (Option ℕ)) (top unused : Option ℕ) (lists : List (List (ℕ × ℕ))) (front : List Item) (item : Item) (spare : ℕ) (spares : List ℕ) → Holds nodes firsts top unused (record { lists = lists; hidden = front ++ item ∷ []; spare = spare }) spares → Frees nodes firsts top unused (record { lists = lists; hidden = front; spare = spare + 1 }) spares item.node
oldest_freed nodes firsts top unused lists front item spare spares holds =
    let last = stack_last (λ i. i.node) hidden_node nodes top front item holds.hidden.stack in
    let distinct = distinct_front (λ i. i.node) front item holds.hidden.distinct in
    let still = hidden_write nodes top (length lists) front item.node (spare_node unused) distinct.1 (record {
      stack = stack_front (λ i. i.node) hidden_node nodes top front (item ∷ []) holds.hidden.stack;
      distinct = distinct.0;
      in_lists = in_lists_front (length lists) front (item ∷ []) holds.hidden.in_lists;
    }) in
    let count = length-append front (item ∷ []) in
    record {
      within = slice_get_within nodes item.node _ last.1;
      holds = freed nodes firsts lists front top unused spare spares item last.0 last.1 holds.listed still holds.spare holds.spare_count (shorter (sum_by length lists) (length front) _ spare count ∙ holds.counted) holds.fits;
    }
  where
    shorter : (a b c d : ℕ) → c ≡ b + 1 → a + suc b + d ≡ a + c + d
    shorter a b c d e = omega arith

oldest_freed_at : (nodes : List Node) (firsts : List (Option ℕ)) (top unused : Option ℕ) (lists : List (List (ℕ × ℕ))) (hidden : List Item) (spare : ℕ) (spares : List ℕ) (node : ℕ) → Holds nodes firsts top unused (record { lists = lists; hidden = hidden; spare = spare }) spares → oldest hidden ≡ Some node → Frees nodes firsts top unused (free_oldest (record { lists = lists; hidden = hidden; spare = spare })) spares node
oldest_freed_at nodes firsts top unused lists hidden spare spares node holds is =
    let last = last_of hidden node is in
    let free = oldest_freed nodes firsts top unused lists last.front last.item spare spares (subst (λ items. Holds nodes firsts top unused (record { lists = lists; hidden = items; spare = spare }) spares) last.parts holds) in
    let kept : last.front ≡ take (length hidden - 1) hidden = sym (ap (λ items. take (length items - 1) items) last.parts ∙ all_but_last last.front last.item) in
    subst (λ items. Frees nodes firsts top unused (record { lists = lists; hidden = items; spare = spare + 1 }) spares node) kept
    (subst (Frees nodes firsts top unused (record { lists = lists; hidden = last.front; spare = spare + 1 }) spares) last.node_is free)

pub frees_oldest : (nodes : List Node) (firsts : List (Option ℕ)) (top unused : Option ℕ) (v : Lists) (spares : List ℕ) (node : ℕ) → Holds nodes firsts top unused v spares → oldest v.hidden ≡ Some node → Frees nodes firsts top unused (free_oldest v) spares node
frees_oldest nodes firsts top unused v spares node holds is =
    oldest_freed_at nodes firsts top unused v.lists v.hidden v.spare spares node holds is

pub fewer_newest : (hidden : List Item) (node : ℕ) → newest hidden ≡ Some node → suc (length (drop 1 hidden)) ≡ length hidden
fewer_newest [] node is = let no : ⊥ = cc in absurd no
fewer_newest (item ∷ rest) node is = refl

pub fewer_oldest : (hidden : List Item) (node : ℕ) → oldest hidden ≡ Some node → suc (length (take (length hidden - 1) hidden)) ≡ length hidden
fewer_oldest hidden node is =
    let last = last_of hidden node is in
    let kept = ap (λ items. take (length items - 1) items) last.parts ∙ all_but_last last.front last.item in
    let size = ap length last.parts ∙ length-append last.front (last.item ∷ []) in
    rw kept (omega (arith, size))
