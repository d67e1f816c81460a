-- A node that stands in a list is listed, and its owner is found.
use Rattle.std.proofs.Common.{◌≡◌, ℕ, zero, suc, ◌<◌, List, [], ◌∷◌, ◌++◌, length, map, Some, None, Option, Bool, true, false, eqb, cond, IsSome, is_some, option_map, refl, sym, ap, ◌∙◌, subst, arith}
use Rattle.std.proofs.lemmas.Bool.{ne_eqb, eq-eqb}
use Rattle.ucon_links.specs.Lists.{Item, Lists, list_at, place_behind, place_from, or_else, hidden_at, owner_of, listed_nodes, nodes_of, newest, IsListed, IsAbsent, IsDistinct}
use Rattle.ucon_links.specs.Tables.{newest_owner}
use Rattle.ucon_links.specs.OneList.{absent_front, absent_back, distinct_pull, PlaceLaw, ids}
use Rattle.ucon_links.proofs.Weights.{Spot}
use Rattle.ucon_links.proofs.IndexSteps.{place_is}
use Rattle.ucon_links.proofs.IndexHiding.{NextItem}

or_first : (first second : Option Item) → IsSome first → IsSome (or_else first second)
or_first None second some = let no : ⊥ = cc in absurd no
or_first (Some item) second some = refl

or_second : (first second : Option Item) → IsSome second → IsSome (or_else first second)
or_second None second some = some
or_second (Some item) second some = refl

some_first : (test : Bool) (item : Item) (rest : Option Item) → IsSome rest → IsSome (cond test (Some item) rest)
some_first true item rest some = refl
some_first false item rest some = some

behind_some : (list : ℕ) (before : Option ℕ) (front back : List (ℕ × ℕ)) (x : ℕ × ℕ) → IsSome (place_behind list before (front ++ x ∷ back) x.0)
behind_some list before [] back x = rw (eq-eqb x.0 x.0 refl)
behind_some list before (y ∷ front) back x = some_first (eqb y.0 x.0) _ _ (behind_some list (Some y.0) front back x)

from_some : (base : ℕ) (lists : List (List (ℕ × ℕ))) (list : ℕ) (front back : List (ℕ × ℕ)) (x : ℕ × ℕ) → list < length lists → list_at lists list ≡ front ++ x ∷ back → IsSome (place_from base lists x.0)
from_some base [] list front back x within there = absurd (omega arith)
from_some base (xs ∷ rest) zero front back x within there =
    or_first (place_behind base None xs x.0) (place_from (suc base) rest x.0) (subst (λ ys. IsSome (place_behind base None ys x.0)) (sym there) (behind_some base None front back x))
from_some base (xs ∷ rest) (suc list) front back x within there =
    or_second (place_behind base None xs x.0) (place_from (suc base) rest x.0) (from_some (suc base) rest list front back x (omega arith) there)

pub spot_listed : (v : Lists) (node owner : ℕ) → Spot v.lists node owner → IsListed v node
spot_listed v node owner spot = from_some 0 v.lists spot.place spot.front spot.back (node, owner) spot.within spot.there

module _ (law : PlaceLaw) (session item : ℕ) (places sessions : Lists) (within : session < length sessions.lists) (next : NextItem session item places sessions) (distinct : IsDistinct (nodes_of sessions)) where
  pub item_listed : IsListed sessions item
  item_listed = ap is_some (place_is sessions session item next.node [] next.rest within next.there distinct law)

  pub item_owner : owner_of sessions item ≡ Some next.node
  item_owner = ap (λ place. option_map (λ i. i.owner) (or_else place (hidden_at sessions.hidden item))) (place_is sessions session item next.node [] next.rest within next.there distinct law)

  pub node_is : (node : ℕ) → owner_of sessions item ≡ Some node → next.node ≡ node
  node_is node is = same (sym item_owner ∙ is)
    where
      same : {a b : ℕ} → Some a ≡ Some b → a ≡ b
      same e = cc

  pub node_listed : (node : ℕ) → owner_of sessions item ≡ Some node → IsListed places node
  node_listed node is = subst (IsListed places) (node_is node is) (spot_listed places next.node session next.spot)

place_behind-absent : (list : ℕ) (before : Option ℕ) (xs : List (ℕ × ℕ)) (node : ℕ) → IsAbsent node (ids xs) → place_behind list before xs node ≡ None
place_behind-absent list before [] node absent = refl
place_behind-absent list before (x ∷ xs) node absent = rw (ne_eqb x.0 node absent.0) (place_behind-absent list (Some x.0) xs node absent.1)

from_none : (base : ℕ) (lists : List (List (ℕ × ℕ))) (node : ℕ) → IsAbsent node (listed_nodes lists) → place_from base lists node ≡ None
from_none base [] node absent = refl
from_none base (xs ∷ rest) node absent =
    ap (λ place. or_else place (place_from (suc base) rest node)) (place_behind-absent base None xs node (absent_front node (ids xs) (listed_nodes rest) absent))
    ∙ from_none (suc base) rest node (absent_back node (ids xs) (listed_nodes rest) absent)

owner_at : (lists : List (List (ℕ × ℕ))) (hidden : List Item) (spare node owner : ℕ) → newest hidden ≡ Some node → owner_of (record { lists = lists; hidden = hidden; spare = spare }) node ≡ Some owner → IsDistinct (listed_nodes lists ++ map (λ item. item.node) hidden) → newest_owner hidden ≡ Some owner
owner_at lists [] spare node owner is owned distinct = let no : ⊥ = cc in absurd no
owner_at lists (item ∷ rest) spare node owner is owned distinct =
    let same : item.node ≡ node = cc in
    let pulled = distinct_pull item.node (listed_nodes lists) (map (λ i. i.node) rest) distinct in
    let absent = subst (λ n. IsAbsent n (listed_nodes lists)) same (absent_front item.node (listed_nodes lists) (map (λ i. i.node) rest) pulled.absent) in
    let found : hidden_at (item ∷ rest) node ≡ Some item = rw (eq-eqb item.node node same) in
    sym (ap (λ place. option_map (λ i. i.owner) (or_else place (hidden_at (item ∷ rest) node))) (from_none 0 lists node absent) ∙ ap (option_map (λ i. i.owner)) found)
    ∙ owned

-- the owner of the newest hidden node is found by its number
pub newest_owner_is : (v : Lists) (node owner : ℕ) → newest v.hidden ≡ Some node → owner_of v node ≡ Some owner → IsDistinct (nodes_of v) → newest_owner v.hidden ≡ Some owner
newest_owner_is v node owner is owned distinct = owner_at v.lists v.hidden v.spare node owner is owned distinct
