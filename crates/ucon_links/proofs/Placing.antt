-- What the table holds after a spare or a hidden node came into a list.
use Rattle.std.proofs.Common.{◌≡◌, ℕ, suc, ◌+◌, ◌-◌, ◌^◌, ◌<◌, List, ◌∷◌, ◌++◌, length, set, sum_by, Some, None, Option, sym, ap, ◌∙◌, subst, arith, length-set}
use Rattle.std.specs.Option.{ForSome}
use Rattle.ucon_links.specs.declared.table.Node.{Node}
use Rattle.ucon_links.specs.Lists.{Item, Lists, first_or, last_or, list_at, with_behind, put_in, link_behind}
use Rattle.ucon_links.specs.Layout.{IsList, HoldsLists, HoldsHidden, HoldsSpare, Holds, listed_node, hidden_node, spare_node}
use Rattle.ucon_links.specs.Table.{with_first, joined}
use Rattle.ucon_links.proofs.Cells.{one_is_no_list, zero_is_no_list}
use Rattle.ucon_links.proofs.Linked.{linked_front, linked_back, last_has_tag, first_has_tag, distinct_parts}
use Rattle.ucon_links.proofs.Moves.{joined_round, came}
use Rattle.ucon_links.proofs.Stacks.{hidden_kept, hidden_write, hidden_absent, spare_kept, spare_write, spare_absent}
use Rattle.ucon_links.proofs.ListsHeld.{lists_came, counted_set}
use Rattle.ucon_links.specs.OneList.{with_behind-last}
use Rattle.ucon_links.proofs.Hiding.{tag_within, length-joined, length-firsts}

-- what a call that puts a node between two others needs, and what it leaves
pub record Places (nodes : List Node) (firsts : List (Option ℕ)) (newest unused : Option ℕ) (v : Lists) (spares : List ℕ) (node : ℕ) (stored : Node) : Type 0 where
  pub list_in : stored.list < length firsts
  pub before_in : ForSome stored.previous (λ before. before < length nodes)
  pub after_in : ForSome stored.next (λ after. after < length nodes)
  pub holds : Holds (set (joined nodes stored.previous (Some node) (Some node) stored.next) node stored) (with_first firsts stored.list stored.previous (Some node)) newest unused v spares

module _ (nodes : List Node) (firsts : List (Option ℕ)) (lists : List (List (ℕ × ℕ))) (list : ℕ) (front back : List (ℕ × ℕ)) (within : list < length lists) (there : list_at lists list ≡ front ++ back) (held : HoldsLists nodes firsts lists) where
  whole : IsList nodes list (front ++ back)
  whole = subst (IsList nodes list) there (held.each list)

  pub gap_before : ForSome (last_or None front) (λ before. before < length nodes)
  gap_before = tag_within (suc (suc list)) nodes (last_or None front) (last_has_tag nodes list None front (first_or None back) tt (linked_front nodes list None front back None whole.linked))

  pub gap_after : ForSome (first_or None back) (λ after. after < length nodes)
  gap_after = tag_within (suc (suc list)) nodes (first_or None back) (first_has_tag nodes list (last_or None front) back None (linked_back nodes list None front back None whole.linked))

  pub gap_list : list < length firsts
  gap_list = subst (λ count. list < count) (sym (length-firsts held)) within

  pub gap_filled : (pair : ℕ × ℕ) → put_in lists list (last_or None front) pair ≡ set lists list (front ++ pair ∷ back)
  gap_filled pair =
      ap (set lists list) (ap (with_behind (last_or None front) pair) there ∙ with_behind-last pair front back (distinct_parts front back whole.distinct).front)

one_more : (after before back hidden spare : ℕ) → after + back ≡ before + suc back → after + hidden + spare ≡ before + hidden + suc spare
one_more after before back hidden spare change = omega arith

-- a spare node comes into a gap
pub links : (nodes : List Node) (firsts : List (Option ℕ)) (newest unused : Option ℕ) (v : Lists) (node : ℕ) (rest : List ℕ) (list : ℕ) (front back : List (ℕ × ℕ)) (owner : ℕ) (holds : Holds nodes firsts newest unused v (node ∷ rest)) → list < length v.lists → list_at v.lists list ≡ front ++ back → Places nodes firsts newest holds.spare.stack.0 (link_behind v list (last_or None front) node owner) rest node (listed_node list (last_or None front) (node, owner) (first_or None back))
links nodes firsts newest unused v node rest list front back owner holds within there =
    let x : ℕ × ℕ = (node, owner) in
    let new = listed_node list (last_or None front) x (first_or None back) in
    let tag = suc (suc list) in
    let stack = holds.spare.stack in
    let old = spare_node stack.0 in
    let come = came nodes list front back x old stack.2 (zero_is_no_list list) (subst (IsList nodes list) there (holds.listed.each list)) in
    let round = joined_round nodes front back node in
    let hidden = hidden_write round newest (length v.lists) v.hidden node new
    (hidden_absent nodes newest (length v.lists) v.hidden node old stack.2 (λ e. omega arith) holds.hidden)
    (hidden_kept nodes round newest (length v.lists) v.hidden tag come.keeps (one_is_no_list list) holds.hidden) in
    let popped : HoldsSpare nodes stack.0 rest = record { stack = stack.3; distinct = holds.spare.distinct.1 } in
    let spare = spare_write round stack.0 rest node new holds.spare.distinct.0 (spare_kept nodes round stack.0 rest tag come.keeps (zero_is_no_list list) popped) in
    let after : Lists = record v { lists = set v.lists list (front ++ x ∷ back); spare = v.spare - 1 } in
    let result : link_behind v list (last_or None front) node owner ≡ after =
    ap (λ all. record v { lists = all; spare = v.spare - 1 }) (gap_filled nodes firsts v.lists list front back within there holds.listed x) in
    let change = counted_set v.lists list front back (x ∷ back) within there in
    let size = length-set round node new ∙ length-joined nodes (last_or None front) (Some node) (Some node) (first_or None back) in
    let spare_is : v.spare ≡ suc (length rest) = sym holds.spare_count in
    let fewer : v.spare - 1 ≡ length rest = omega (arith, spare_is) in
    record {
      list_in = gap_list nodes firsts v.lists list front back within there holds.listed;
      before_in = gap_before nodes firsts v.lists list front back within there holds.listed;
      after_in = gap_after nodes firsts v.lists list front back within there holds.listed;
      holds = subst (λ w. Holds (set round node new) (with_first firsts list (last_or None front) (Some node)) newest stack.0 w rest) (sym result) (record {
        listed = lists_came nodes firsts v.lists list front back x old within there stack.2 zero_is_no_list holds.listed;
        hidden = subst (λ count. HoldsHidden (set round node new) newest count v.hidden) (sym (length-set v.lists list (front ++ x ∷ back))) hidden;
        spare = spare;
        spare_count = sym fewer;
        counted = ap (λ n. sum_by length after.lists + length v.hidden + n) fewer ∙ one_more _ (sum_by length v.lists) (length back) (length v.hidden) (length rest) change ∙ ap (λ n. sum_by length v.lists + length v.hidden + n) (sym spare_is) ∙ holds.counted ∙ sym size;
        fits = subst (λ count. count < 2 ^ 32 - 1) (sym size) holds.fits;
      });
    }

-- the newest hidden node comes into a gap
pub unhides_in : (nodes : List Node) (firsts : List (Option ℕ)) (newest unused : Option ℕ) (lists : List (List (ℕ × ℕ))) (list node owner : ℕ) (front back : List (ℕ × ℕ)) (rest : List Item) (spare : ℕ) (spares : List ℕ) →
    (holds : Holds nodes firsts newest unused (record { lists = lists; hidden = record { list = list; node = node; owner = owner; before = last_or None front; after = first_or None back } ∷ rest; spare = spare }) spares) → list_at lists list ≡ front ++ back →
    Places nodes firsts holds.hidden.stack.0 unused (record { lists = put_in lists list (last_or None front) (node, owner); hidden = rest; spare = spare }) spares node (listed_node list (last_or None front) (node, owner) (first_or None back))
unhides_in nodes firsts newest unused lists list node owner front back rest spare spares holds there =
    let x : ℕ × ℕ = (node, owner) in
    let new = listed_node list (last_or None front) x (first_or None back) in
    let item : Item = record { list = list; node = node; owner = owner; before = last_or None front; after = first_or None back } in
    let tag = suc (suc list) in
    let stack = holds.hidden.stack in
    let old = hidden_node stack.0 item in
    let within = holds.hidden.in_lists.0 in
    let come = came nodes list front back x old stack.2 (one_is_no_list list) (subst (IsList nodes list) there (holds.listed.each list)) in
    let round = joined_round nodes front back node in
    let popped : HoldsHidden nodes stack.0 (length lists) rest = record { stack = stack.3; distinct = holds.hidden.distinct.1; in_lists = holds.hidden.in_lists.1 } in
    let hidden = hidden_write round stack.0 (length lists) rest node new holds.hidden.distinct.0 (hidden_kept nodes round stack.0 (length lists) rest tag come.keeps (one_is_no_list list) popped) in
    let spare_stack = spare_write round unused spares node new
    (spare_absent nodes unused spares node old stack.2 (λ e. omega arith) holds.spare)
    (spare_kept nodes round unused spares tag come.keeps (zero_is_no_list list) holds.spare) in
    let filled = gap_filled nodes firsts lists list front back within there holds.listed x in
    let change = counted_set lists list front back (x ∷ back) within there in
    let size = length-set round node new ∙ length-joined nodes (last_or None front) (Some node) (Some node) (first_or None back) in
    record {
      list_in = gap_list nodes firsts lists list front back within there holds.listed;
      before_in = gap_before nodes firsts lists list front back within there holds.listed;
      after_in = gap_after nodes firsts lists list front back within there holds.listed;
      holds = subst (λ all. Holds (set round node new) (with_first firsts list (last_or None front) (Some node)) stack.0 unused (record { lists = all; hidden = rest; spare = spare }) spares) (sym filled) (record {
        listed = lists_came nodes firsts lists list front back x old within there stack.2 one_is_no_list holds.listed;
        hidden = subst (λ count. HoldsHidden (set round node new) stack.0 count rest) (sym (length-set lists list (front ++ x ∷ back))) hidden;
        spare = spare_stack;
        spare_count = holds.spare_count;
        counted = one_back _ (sum_by length lists) (length back) (length rest) spare change ∙ holds.counted ∙ sym size;
        fits = subst (λ count. count < 2 ^ 32 - 1) (sym size) holds.fits;
      });
    }
  where
    one_back : (after before back hidden spare : ℕ) → after + back ≡ before + suc back → after + hidden + spare ≡ before + suc hidden + spare
    one_back after before back hidden spare change = omega arith
