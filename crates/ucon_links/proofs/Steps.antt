-- What each call leaves: a sound table, seen as the call's contract says.
use Rattle.std.proofs.Common.{◌≡◌, ℕ, suc, ◌+◌, ◌-◌, ◌^◌, ◌<◌, ◌≤◌, List, [], ◌∷◌, ◌++◌, length, replicate, set, get_or, Some, None, Option, slice_get, refl, sym, ap, ◌∙◌, arith}
use Rattle.std.proofs.lemmas.Option.{slice_get_within, slice_get_read}
use Rattle.ucon_links.specs.declared.table.Node.{Node}
use Rattle.ucon_links.specs.declared.table.State.TheVariants.{Listed, Hidden}
use Rattle.ucon_links.specs.Lists.{Lists, link_behind, hide, unhide, free_newest, free_oldest, newest, oldest, IsListed, IsGap, CanUnhide, list_at, nodes_of, IsAbsent}
use Rattle.ucon_links.specs.Layout.{Holds, IsSound, seen, below_of, spare_node, listed_node}
use Rattle.ucon_links.specs.Table.{with_first, joined}
use Rattle.ucon_links.proofs.Seen.{Opened, seen_is, sound}
use Rattle.ucon_links.proofs.Hiding.{found, found_node, Hides, hides}
use Rattle.ucon_links.proofs.Placing.{Places}
use Rattle.ucon_links.proofs.Unhiding.{Links, links_between, spare_top, unhides, unhidden_in, unhidden_count}
use Rattle.ucon_links.proofs.Freeing.{frees_newest, frees_oldest, newest_in, fewer_newest, fewer_oldest}
use Rattle.ucon_links.proofs.Growing.{adds_spare, adds_lists}
use Rattle.ucon_links.proofs.Distinct.{spare_is_fresh}

-- the node that was read there
pub read_at : (nodes : List Node) (at : ℕ) (node : Node) → at < length nodes → node ≡ get_or nodes at node → slice_get nodes at ≡ Some node
read_at nodes at node within is = slice_get_read nodes (length nodes) at node refl within is

pub record Leaves (nodes : List Node) (firsts : List (Option ℕ)) (top : Option ℕ) (hidden : ℕ) (unused : Option ℕ) (spare : ℕ) (v : Lists) : Type 0 where
  pub is_sound : IsSound nodes firsts top hidden unused spare
  pub seen_as : seen nodes firsts top hidden spare ≡ v

leaves : (nodes : List Node) (firsts : List (Option ℕ)) (top : Option ℕ) (hidden : ℕ) (unused : Option ℕ) (spare : ℕ) (v : Lists) (spares : List ℕ) → Holds nodes firsts top unused v spares → length v.hidden ≡ hidden → v.spare ≡ spare → Leaves nodes firsts top hidden unused spare v
leaves nodes firsts top hidden unused spare v spares holds hidden_is spare_is = record {
  is_sound = sound nodes firsts top hidden unused spare v spares holds hidden_is spare_is;
  seen_as = seen_is nodes firsts top hidden unused spare v spares holds hidden_is spare_is;
}

module _ (nodes : List Node) (firsts : List (Option ℕ)) (top : Option ℕ) (hidden : ℕ) (unused : Option ℕ) (spare : ℕ) (v : Lists) (now : Opened nodes firsts top hidden unused spare v) where
  -- a listed node is in the table
  pub listed_in : (node : ℕ) → IsListed v node → node < length nodes
  listed_in node listed = let at = found nodes firsts v node now.holds.listed listed in slice_get_within nodes node _ (found_node nodes v node at)

  pub hide_needs : (node : ℕ) (stored : Node) → IsListed v node → slice_get nodes node ≡ Some stored → Hides nodes firsts top unused v now.spares node stored
  hide_needs node stored listed there = hides nodes firsts top unused v now.spares node stored there now.holds listed

  pub hide_leaves : (node : ℕ) (stored : Node) → IsListed v node → slice_get nodes node ≡ Some stored → Leaves (set (joined nodes stored.previous stored.next stored.previous stored.next) node (record stored { state = Hidden top })) (with_first firsts stored.list stored.previous stored.next) (Some node) (hidden + 1) unused spare (hide v node)
  hide_leaves node stored listed there =
      let result = hide_needs node stored listed there in
      leaves _ _ _ _ _ _ _ now.spares result.holds
      (result.count ∙ more (length v.hidden) hidden now.hidden_is)
      (sym result.holds.spare_count ∙ now.holds.spare_count ∙ now.spare_is)
    where
      more : (a b : ℕ) → a ≡ b → suc a ≡ b + 1
      more a b e = omega arith

  -- a hidden node that may come back is in the table
  pub unhide_in : (node : ℕ) → CanUnhide v node → node < length nodes
  unhide_in node fits = unhidden_in nodes firsts top unused v now.spares node now.holds fits

  pub unhide_needs : (node : ℕ) (stored : Node) → CanUnhide v node → slice_get nodes node ≡ Some stored → Places nodes firsts (below_of stored.state) unused (unhide v) now.spares node (record stored { state = Listed })
  unhide_needs node stored fits there = unhides nodes firsts top unused v now.spares node stored there now.holds fits

  pub unhide_leaves : (node : ℕ) (stored : Node) → CanUnhide v node → slice_get nodes node ≡ Some stored → Leaves (set (joined nodes stored.previous (Some node) (Some node) stored.next) node (record stored { state = Listed })) (with_first firsts stored.list stored.previous (Some node)) (below_of stored.state) (hidden - 1) unused spare (unhide v)
  unhide_leaves node stored fits there =
      let result = unhide_needs node stored fits there in
      leaves _ _ _ _ _ _ _ now.spares result.holds
      (fewer (length (unhide v).hidden) (length v.hidden) hidden (unhidden_count v node fits) now.hidden_is)
      (sym result.holds.spare_count ∙ now.holds.spare_count ∙ now.spare_is)
    where
      fewer : (a b c : ℕ) → suc a ≡ b → b ≡ c → a ≡ c - 1
      fewer a b c e f = omega arith

  pub unhide_count : (node : ℕ) → CanUnhide v node → 1 ≤ hidden
  unhide_count node fits = let one = unhidden_count v node fits in let is = now.hidden_is in omega arith

  pub link_needs : (list : ℕ) (before after : Option ℕ) (node owner : ℕ) → 1 ≤ v.spare → list < length v.lists → IsGap before after (list_at v.lists list) → unused ≡ Some node → Links nodes firsts top v list before after node owner
  link_needs list before after node owner room within gap is =
      links_between nodes firsts top unused v now.spares list before after node owner now.holds room within gap is

  pub link_leaves : (list : ℕ) (before after : Option ℕ) (node owner : ℕ) (room : 1 ≤ v.spare) (within : list < length v.lists) (gap : IsGap before after (list_at v.lists list)) (is : unused ≡ Some node) → Leaves (set (joined nodes before (Some node) (Some node) after) node (listed_node list before (node, owner) after)) (with_first firsts list before (Some node)) top hidden (link_needs list before after node owner room within gap is).below (spare - 1) (link_behind v list before node owner)
  link_leaves list before after node owner room within gap is =
      let result = link_needs list before after node owner room within gap is in
      leaves _ _ _ _ _ _ _ result.rest result.places.holds now.hidden_is (ap (λ n. n - 1) now.spare_is)

  -- there is a spare node
  pub unused_is : 1 ≤ v.spare → (node : ℕ) × (unused ≡ Some node)
  unused_is room =
      let count = now.holds.spare_count in
      let at = spare_top nodes unused now.spares now.holds.spare (omega (arith, count, room)) in
      (at.node, at.unused_is)

  pub fresh : (node : ℕ) (below : Option ℕ) → slice_get nodes node ≡ Some (spare_node below) → IsAbsent node (nodes_of v)
  fresh node below there = spare_is_fresh nodes firsts top unused v now.spares node below now.holds there

  pub newest_within : (node : ℕ) → newest v.hidden ≡ Some node → node < length nodes
  newest_within node is = newest_in nodes firsts top unused v now.spares node now.holds is

  pub free_newest_leaves : (node : ℕ) (stored : Node) → newest v.hidden ≡ Some node → slice_get nodes node ≡ Some stored → Leaves (set nodes node (spare_node unused)) firsts (below_of stored.state) (hidden - 1) (Some node) (spare + 1) (free_newest v)
  free_newest_leaves node stored is there =
      let result = frees_newest nodes firsts top unused v now.spares node stored now.holds is there in
      leaves _ _ _ _ _ _ _ (node ∷ now.spares) result.holds
      (fewer _ (length v.hidden) hidden (fewer_newest v.hidden node is) now.hidden_is)
      (ap (λ n. n + 1) now.spare_is)
    where
      fewer : (a b c : ℕ) → suc a ≡ b → b ≡ c → a ≡ c - 1
      fewer a b c e f = omega arith

  pub oldest_within : (node : ℕ) → oldest v.hidden ≡ Some node → node < length nodes
  oldest_within node is = (frees_oldest nodes firsts top unused v now.spares node now.holds is).within

  pub free_oldest_leaves : (node : ℕ) → oldest v.hidden ≡ Some node → Leaves (set nodes node (spare_node unused)) firsts top (hidden - 1) (Some node) (spare + 1) (free_oldest v)
  free_oldest_leaves node is =
      let result = frees_oldest nodes firsts top unused v now.spares node now.holds is in
      leaves _ _ _ _ _ _ _ (node ∷ now.spares) result.holds
      (fewer _ (length v.hidden) hidden (fewer_oldest v.hidden node is) now.hidden_is)
      (ap (λ n. n + 1) now.spare_is)
    where
      fewer : (a b c : ℕ) → suc a ≡ b → b ≡ c → a ≡ c - 1
      fewer a b c e f = omega arith

  pub spare_leaves : suc (length nodes) < 2 ^ 32 - 1 → Leaves (nodes ++ spare_node unused ∷ []) firsts top hidden (Some (length nodes)) (spare + 1) (record v { spare = v.spare + 1 })
  spare_leaves fits =
      leaves _ _ _ _ _ _ _ _ (adds_spare nodes firsts top unused v now.spares now.holds fits) now.hidden_is (ap (λ n. n + 1) now.spare_is)

  pub lists_leave : (n : ℕ) → length v.lists + n < 2 ^ 32 → Leaves nodes (firsts ++ replicate n None) top hidden unused spare (record v { lists = v.lists ++ replicate n [] })
  lists_leave n fits = leaves _ _ _ _ _ _ _ now.spares (adds_lists nodes firsts top unused v now.spares n now.holds fits) now.hidden_is now.spare_is
