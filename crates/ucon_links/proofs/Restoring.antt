-- To unhide is to undo a hide, and so for any number of them in reverse order.
use Rattle.std.proofs.Common.{◌≡◌, ℕ, zero, suc, List, [], ◌∷◌, ◌++◌, map, set, refl, sym, ap, ◌∙◌, subst, length-set, length, Option, Some, None, take, get_or, ◌<◌, ◌+◌, arith}
use Rattle.std.proofs.lemmas.List.{get_or-set_same, set-get_or, set-set, take_more}
use Rattle.ucon_links.specs.Lists.{Item, Lists, list_at, listed_nodes, nodes_of, place_of, without, with_behind, put_in, take_out, hide, hide_item, hide_all, unhide, IsListed, AllListed, AreHidden, CanUnhide, IsGap, IsDistinct}
use Rattle.ucon_links.proofs.Hiding.{some_of}
use Rattle.ucon_links.specs.OneList.{ids, distinct_at, distinct_front, without-first, with_behind-last}
use Rattle.ucon_links.proofs.Linked.{distinct_parts}
use Rattle.ucon_links.proofs.Places.{Stands, stands_there}

module _ (lists : List (List (ℕ × ℕ))) (node : ℕ) (item : Item) (at : Stands lists node item) where
  -- the list without the node
  list_left : list_at (take_out lists item) item.list ≡ at.stands.front ++ at.stands.back
  list_left =
      get_or-set_same lists item.list (without item.node (list_at lists item.list)) [] at.within
      ∙ ap (λ n. without n (list_at lists item.list)) at.stands.node_is
      ∙ ap (without node) at.stands.there
      ∙ without-first node item.owner at.stands.front at.stands.back at.stands.absent

  -- the node that is taken out leaves a gap between its neighbours
  gap_left : IsGap item.before item.after (list_at (take_out lists item) item.list)
  gap_left = record { front = at.stands.front; back = at.stands.back; parts = list_left; front_ends = at.stands.before_is; back_begins = at.stands.after_is }

  -- and it fills the gap again
  filled : IsDistinct (listed_nodes (take_out lists item)) → put_in (take_out lists item) item.list item.before (item.node, item.owner) ≡ lists
  filled distinct =
      let front = at.stands.front in
      let back = at.stands.back in
      let pair : ℕ × ℕ = (item.node, item.owner) in
      let once = distinct_parts front back (subst (λ xs. IsDistinct (ids xs)) list_left (distinct_at (take_out lists item) item.list distinct)) in
      let whole : with_behind item.before pair (list_at (take_out lists item) item.list) ≡ list_at lists item.list =
      ap (with_behind item.before pair) list_left
      ∙ ap (λ before. with_behind before pair (front ++ back)) (sym at.stands.before_is)
      ∙ with_behind-last pair front back once.front
      ∙ ap (λ n. front ++ (n, item.owner) ∷ back) at.stands.node_is
      ∙ sym at.stands.there in
      ap (set (take_out lists item) item.list) whole
      ∙ set-set lists item.list (without item.node (list_at lists item.list)) (list_at lists item.list)
      ∙ set-get_or lists item.list []

pub can_unhide-hide : (v : Lists) (node : ℕ) → IsListed v node → CanUnhide (hide v node) node
can_unhide-hide v node listed =
    let at = some_of (place_of v node) listed in
    let stands = stands_there v.lists node at.0 at.1 in
    subst (λ place. CanUnhide (hide_item v place) node) (sym at.1) (stands.stands.node_is, gap_left v.lists node at.0 stands)

pub unhide-hide : (v : Lists) (node : ℕ) → IsListed v node → IsDistinct (nodes_of (hide v node)) → unhide (hide v node) ≡ v
unhide-hide v node listed distinct =
    let at = some_of (place_of v node) listed in
    let stands = stands_there v.lists node at.0 at.1 in
    let hidden = ap (hide_item v) at.1 in
    let once = distinct_front (listed_nodes (take_out v.lists at.0)) (map (λ item. item.node) ((at.0) ∷ v.hidden)) (subst (λ w. IsDistinct (nodes_of w)) hidden distinct) in
    ap unhide hidden ∙ ap (λ all. record v { lists = all }) (filled v.lists node at.0 stands once)

hide_all-push : (v : Lists) (nodes : List ℕ) (node : ℕ) → hide_all v (nodes ++ node ∷ []) ≡ hide (hide_all v nodes) node
hide_all-push v [] node = refl
hide_all-push v (first ∷ rest) node = hide_all-push (hide v first) rest node

listed_push : (v : Lists) (nodes : List ℕ) (node : ℕ) → AllListed v (nodes ++ node ∷ []) → AllListed v nodes × IsListed (hide_all v nodes) node
listed_push v [] node listed = (tt, listed.0)
listed_push v (first ∷ rest) node listed = let more = listed_push (hide v first) rest node listed.1 in ((listed.0, more.0), more.1)

-- the last node that was hidden may come back
pub last_can_unhide : (v : Lists) (nodes : List ℕ) (node : ℕ) (hidden : Lists) → AreHidden v (nodes ++ node ∷ []) hidden → CanUnhide hidden node
last_can_unhide v nodes node hidden are =
    let listed = listed_push v nodes node are.listed in
    subst (λ w. CanUnhide w node) (sym (are.result ∙ hide_all-push v nodes node)) (can_unhide-hide (hide_all v nodes) node listed.1)

-- and then the others are hidden
pub others_hidden : (v : Lists) (nodes : List ℕ) (node : ℕ) (hidden : Lists) → AreHidden v (nodes ++ node ∷ []) hidden → IsDistinct (nodes_of hidden) → AreHidden v nodes (unhide hidden)
others_hidden v nodes node hidden are distinct =
    let listed = listed_push v nodes node are.listed in
    let is = are.result ∙ hide_all-push v nodes node in
    record {
      listed = listed.0;
      result = ap unhide is ∙ unhide-hide (hide_all v nodes) node listed.1 (subst (λ w. IsDistinct (nodes_of w)) is distinct);
    }

pub length-hide : (v : Lists) (node : ℕ) → length (hide v node).lists ≡ length v.lists
length-hide v node = by_place v (place_of v node)
  where
    by_place : (v : Lists) (place : Option Item) → length (hide_item v place).lists ≡ length v.lists
    by_place v None = refl
    by_place v (Some item) = length-set v.lists item.list (without item.node (list_at v.lists item.list))

-- each node is listed once those before it are hidden
pub listed_in_turn : (v : Lists) (nodes : List ℕ) (i : ℕ) → i < length nodes → AllListed v nodes → IsListed (hide_all v (take i nodes)) (get_or nodes i 0)
listed_in_turn v [] i within listed = absurd (omega arith)
listed_in_turn v (node ∷ rest) zero within listed = listed.0
listed_in_turn v (node ∷ rest) (suc i) within listed = listed_in_turn (hide v node) rest i (omega arith) listed.1

pub hide_all-take-suc : (v : Lists) (nodes : List ℕ) (i : ℕ) → i < length nodes → hide_all v (take (i + 1) nodes) ≡ hide (hide_all v (take i nodes)) (get_or nodes i 0)
hide_all-take-suc v nodes i within = ap (hide_all v) (take_more nodes i 0 within) ∙ hide_all-push v (take i nodes) (get_or nodes i 0)
