-- What is taken from the two stacks and put into a list.
use Rattle.std.proofs.Common.{◌≡◌, ℕ, suc, ◌≤◌, ◌<◌, List, [], ◌∷◌, ◌++◌, length, Some, None, Option, slice_get, refl, sym, ap, ◌∙◌, subst, arith}
use Rattle.ucon_links.specs.declared.table.Node.{Node}
use Rattle.ucon_links.specs.declared.table.State.TheVariants.{Listed}
use Rattle.ucon_links.specs.Lists.{Item, Lists, first_or, last_or, list_at, put_in, link_behind, unhide, put_back, FitsBack, CanUnhide, IsGap}
use Rattle.ucon_links.specs.Layout.{IsStack, Holds, HoldsSpare, listed_node, hidden_node, spare_node, below_of}
use Rattle.std.proofs.lemmas.Option.{slice_get_within}
use Rattle.ucon_links.proofs.Cells.{some_same}
use Rattle.ucon_links.proofs.Placing.{Places, links, unhides_in}

-- the top of the stack of spare nodes
pub record SpareTop (nodes : List Node) (unused : Option ℕ) (spares : List ℕ) : Type 0 where
  pub node : ℕ
  pub rest : List ℕ
  pub below : Option ℕ
  pub spares_are : spares ≡ node ∷ rest
  pub unused_is : unused ≡ Some node
  pub stored : slice_get nodes node ≡ Some (spare_node below)

pub spare_top : (nodes : List Node) (unused : Option ℕ) (spares : List ℕ) → HoldsSpare nodes unused spares → 1 ≤ length spares → SpareTop nodes unused spares
spare_top nodes unused [] holds some = absurd (omega arith)
spare_top nodes unused (node ∷ rest) holds some =
    record { node = node; rest = rest; below = holds.stack.0; spares_are = refl; unused_is = holds.stack.1; stored = holds.stack.2 }

-- the top of the stack comes into a gap
pub record Links (nodes : List Node) (firsts : List (Option ℕ)) (newest : Option ℕ) (v : Lists) (list : ℕ) (before after : Option ℕ) (node owner : ℕ) : Type 0 where
  pub below : Option ℕ
  pub rest : List ℕ
  pub stored : slice_get nodes node ≡ Some (spare_node below)
  pub places : Places nodes firsts newest below (link_behind v list before node owner) rest node (listed_node list before (node, owner) after)

links_top : (nodes : List Node) (firsts : List (Option ℕ)) (newest unused : Option ℕ) (v : Lists) (list : ℕ) (front back : List (ℕ × ℕ)) (owner node : ℕ) (spares : List ℕ) → Holds nodes firsts newest unused v spares → 1 ≤ length spares → unused ≡ Some node → list < length v.lists → list_at v.lists list ≡ front ++ back → Links nodes firsts newest v list (last_or None front) (first_or None back) node owner
links_top nodes firsts newest unused v list front back owner node [] holds some is within there = absurd (omega arith)
links_top nodes firsts newest unused v list front back owner node (top ∷ rest) holds some is within there =
    let same : top ≡ node = some_same (sym holds.spare.stack.1 ∙ is) in
    subst (λ n. Links nodes firsts newest v list (last_or None front) (first_or None back) n owner) same (record {
      below = holds.spare.stack.0;
      rest = rest;
      stored = holds.spare.stack.2;
      places = links nodes firsts newest unused v top rest list front back owner holds within there;
    })

pub links_between : (nodes : List Node) (firsts : List (Option ℕ)) (newest unused : Option ℕ) (v : Lists) (spares : List ℕ) (list : ℕ) (before after : Option ℕ) (node owner : ℕ) → Holds nodes firsts newest unused v spares → 1 ≤ v.spare → list < length v.lists → IsGap before after (list_at v.lists list) → unused ≡ Some node → Links nodes firsts newest v list before after node owner
links_between nodes firsts newest unused v spares list before after node owner holds some within gap is =
    let count = holds.spare_count in
    subst (λ b. Links nodes firsts newest v list b after node owner) gap.front_ends
    (subst (λ a. Links nodes firsts newest v list (last_or None gap.front) a node owner) gap.back_begins
    (links_top nodes firsts newest unused v list gap.front gap.back owner node spares holds (omega (arith, count, some)) is within gap.parts))

-- the top of the hidden nodes comes into the gap that it left
record Unhides (nodes : List Node) (firsts : List (Option ℕ)) (unused : Option ℕ) (lists : List (List (ℕ × ℕ))) (item : Item) (rest : List Item) (spare : ℕ) (spares : List ℕ) : Type 0 where
  pub below : Option ℕ
  pub stored : slice_get nodes item.node ≡ Some (hidden_node below item)
  pub places : Places nodes firsts below unused (record { lists = put_in lists item.list item.before (item.node, item.owner); hidden = rest; spare = spare }) spares item.node (listed_node item.list item.before (item.node, item.owner) item.after)

unhides_gap : (nodes : List Node) (firsts : List (Option ℕ)) (newest unused : Option ℕ) (lists : List (List (ℕ × ℕ))) (list node owner : ℕ) (before after : Option ℕ) (rest : List Item) (spare : ℕ) (spares : List ℕ) → IsGap before after (list_at lists list) →
    Holds nodes firsts newest unused (record { lists = lists; hidden = record { list = list; node = node; owner = owner; before = before; after = after } ∷ rest; spare = spare }) spares →
    Unhides nodes firsts unused lists (record { list = list; node = node; owner = owner; before = before; after = after }) rest spare spares
unhides_gap nodes firsts newest unused lists list node owner before after rest spare spares gap =
    subst (λ b. Holds nodes firsts newest unused (record { lists = lists; hidden = record { list = list; node = node; owner = owner; before = b; after = after } ∷ rest; spare = spare }) spares → Unhides nodes firsts unused lists (record { list = list; node = node; owner = owner; before = b; after = after }) rest spare spares) gap.front_ends
    (subst (λ a. Holds nodes firsts newest unused (record { lists = lists; hidden = record { list = list; node = node; owner = owner; before = last_or None gap.front; after = a } ∷ rest; spare = spare }) spares → Unhides nodes firsts unused lists (record { list = list; node = node; owner = owner; before = last_or None gap.front; after = a }) rest spare spares) gap.back_begins
    (λ holds. record {
      below = holds.hidden.stack.0;
      stored = holds.hidden.stack.2;
      places = unhides_in nodes firsts newest unused lists list node owner gap.front gap.back rest spare spares holds gap.parts;
    }))

unhides_top : (nodes : List Node) (firsts : List (Option ℕ)) (newest unused : Option ℕ) (lists : List (List (ℕ × ℕ))) (hidden : List Item) (spare : ℕ) (spares : List ℕ) (node : ℕ) (stored : Node) → slice_get nodes node ≡ Some stored → Holds nodes firsts newest unused (record { lists = lists; hidden = hidden; spare = spare }) spares → FitsBack lists hidden node → Places nodes firsts (below_of stored.state) unused (put_back (record { lists = lists; hidden = hidden; spare = spare }) hidden) spares node (record stored { state = Listed })
unhides_top nodes firsts newest unused lists [] spare spares node stored there holds fits = absurd fits
unhides_top nodes firsts newest unused lists (item ∷ rest) spare spares node stored there holds fits =
    let at = unhides_gap nodes firsts newest unused lists item.list item.node item.owner item.before item.after rest spare spares fits.1 holds in
    let stored_is : hidden_node at.below item ≡ stored = some_same (sym at.stored ∙ ap (slice_get nodes) fits.0 ∙ there) in
    let after : Lists = record { lists = put_in lists item.list item.before (item.node, item.owner); hidden = rest; spare = spare } in
    subst (λ n. Places nodes firsts (below_of n.state) unused after spares node (record n { state = Listed })) stored_is
    (subst (λ n. Places nodes firsts at.below unused after spares n (listed_node item.list item.before (item.node, item.owner) item.after)) fits.0 at.places)

pub unhides : (nodes : List Node) (firsts : List (Option ℕ)) (newest unused : Option ℕ) (v : Lists) (spares : List ℕ) (node : ℕ) (stored : Node) → slice_get nodes node ≡ Some stored → Holds nodes firsts newest unused v spares → CanUnhide v node → Places nodes firsts (below_of stored.state) unused (unhide v) spares node (record stored { state = Listed })
unhides nodes firsts newest unused v spares node stored there holds fits =
    unhides_top nodes firsts newest unused v.lists v.hidden v.spare spares node stored there holds fits

hidden_top_in : (nodes : List Node) (newest : Option ℕ) (lists : List (List (ℕ × ℕ))) (hidden : List Item) (node : ℕ) (stack : IsStack (λ item. item.node) hidden_node nodes newest hidden) → FitsBack lists hidden node → node < length nodes
hidden_top_in nodes newest lists [] node stack fits = absurd fits
hidden_top_in nodes newest lists (item ∷ rest) node stack fits = subst (λ n. n < length nodes) fits.0 (slice_get_within nodes item.node _ stack.2)

-- the node is in the table
pub unhidden_in : (nodes : List Node) (firsts : List (Option ℕ)) (newest unused : Option ℕ) (v : Lists) (spares : List ℕ) (node : ℕ) → Holds nodes firsts newest unused v spares → CanUnhide v node → node < length nodes
unhidden_in nodes firsts newest unused v spares node holds fits = hidden_top_in nodes newest v.lists v.hidden node holds.hidden.stack fits

fewer_hidden : (v : Lists) (hidden : List Item) (node : ℕ) → FitsBack v.lists hidden node → suc (length (put_back v hidden).hidden) ≡ length hidden
fewer_hidden v [] node fits = absurd fits
fewer_hidden v (item ∷ rest) node fits = refl

-- one hidden node less
pub unhidden_count : (v : Lists) (node : ℕ) → CanUnhide v node → suc (length (unhide v).hidden) ≡ length v.hidden
unhidden_count v node fits = fewer_hidden v v.hidden node fits
