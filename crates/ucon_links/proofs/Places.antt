-- Where a node stands, as a list in two parts with the node between them.
use Rattle.std.proofs.Common.{◌≡◌, ℕ, suc, ◌+◌, ◌<◌, List, [], ◌∷◌, ◌++◌, length, Some, None, Option, Bool, true, false, eqb, cond, refl, sym, ap, ◌∙◌, subst, arith}
use Rattle.std.proofs.lemmas.Bool.{eqb-true, eqb-false}
use Rattle.ucon_links.specs.Lists.{Item, first_or, last_or, list_at, place_behind, or_else, place_from, IsAbsent}
use Rattle.ucon_links.specs.OneList.{ids}
use Rattle.ucon_links.proofs.Cells.{some_same}

-- the node of the item stands in a list that is left behind `before`
pub record StandsBehind (list : ℕ) (before : Option ℕ) (xs : List (ℕ × ℕ)) (node : ℕ) (item : Item) : Type 0 where
  pub front : List (ℕ × ℕ)
  pub back : List (ℕ × ℕ)
  pub there : xs ≡ front ++ (node, item.owner) ∷ back
  pub list_is : item.list ≡ list
  pub node_is : item.node ≡ node
  pub before_is : last_or before front ≡ item.before
  pub after_is : first_or None back ≡ item.after
  pub absent : IsAbsent node (ids front)

stands_first : (list : ℕ) (before : Option ℕ) (x : ℕ × ℕ) (xs : List (ℕ × ℕ)) (node : ℕ) (item : Item) (test : Bool) → eqb x.0 node ≡ test → cond test (Some (record { list = list; node = x.0; owner = x.1; before = before; after = first_or None xs })) (place_behind list (Some x.0) xs node) ≡ Some item → ((place_behind list (Some x.0) xs node ≡ Some item) → StandsBehind list (Some x.0) xs node item) → StandsBehind list before (x ∷ xs) node item
stands_first list before x xs node item true is found rest =
    let same = eqb-true x.0 node is in
    let found_is = some_same found in
    subst (StandsBehind list before (x ∷ xs) node) found_is
    (record { front = []; back = xs; there = ap (λ n. (n, x.1) ∷ xs) same; list_is = refl; node_is = same; before_is = refl; after_is = refl; absent = tt })
stands_first list before x xs node item false is found rest =
    let more = rest found in
    record {
      front = x ∷ more.front;
      back = more.back;
      there = ap (λ ys. x ∷ ys) more.there;
      list_is = more.list_is;
      node_is = more.node_is;
      before_is = more.before_is;
      after_is = more.after_is;
      absent = (eqb-false x.0 node is, more.absent);
    }

stands_behind : (list : ℕ) (before : Option ℕ) (xs : List (ℕ × ℕ)) (node : ℕ) (item : Item) → place_behind list before xs node ≡ Some item → StandsBehind list before xs node item
stands_behind list before [] node item found = let no : ⊥ = cc in absurd no
stands_behind list before (x ∷ xs) node item found =
    stands_first list before x xs node item (eqb x.0 node) refl found (stands_behind list (Some x.0) xs node item)

-- the node of the item stands in one of the lists from number `base` on
pub record StandsFrom (base : ℕ) (lists : List (List (ℕ × ℕ))) (node : ℕ) (item : Item) : Type 0 where
  pub index : ℕ
  pub index_is : base + index ≡ item.list
  pub within : index < length lists
  pub stands : StandsBehind item.list None (list_at lists index) node item

stands_in_first : (base : ℕ) (xs : List (ℕ × ℕ)) (rest : List (List (ℕ × ℕ))) (node : ℕ) (item : Item) (first : Option Item) → place_behind base None xs node ≡ first → or_else first (place_from (suc base) rest node) ≡ Some item → (place_from (suc base) rest node ≡ Some item → StandsFrom (suc base) rest node item) → StandsFrom base (xs ∷ rest) node item
stands_in_first base xs rest node item None is found later =
    let more = later found in
    let index_is = more.index_is in
    let within = more.within in
    record { index = suc more.index; index_is = omega arith; within = omega arith; stands = more.stands }
stands_in_first base xs rest node item (Some first) is found later =
    let here = stands_behind base None xs node item (is ∙ found) in
    let list_is = here.list_is in
    record {
      index = 0;
      index_is = omega arith;
      within = omega arith;
      stands = subst (λ list. StandsBehind list None xs node item) (sym list_is) here;
    }

stands_from : (base : ℕ) (lists : List (List (ℕ × ℕ))) (node : ℕ) (item : Item) → place_from base lists node ≡ Some item → StandsFrom base lists node item
stands_from base [] node item found = let no : ⊥ = cc in absurd no
stands_from base (xs ∷ rest) node item found =
    stands_in_first base xs rest node item (place_behind base None xs node) refl found (stands_from (suc base) rest node item)

-- the node of the item stands in its list
pub record Stands (lists : List (List (ℕ × ℕ))) (node : ℕ) (item : Item) : Type 0 where
  pub within : item.list < length lists
  pub stands : StandsBehind item.list None (list_at lists item.list) node item

pub stands_there : (lists : List (List (ℕ × ℕ))) (node : ℕ) (item : Item) → place_from 0 lists node ≡ Some item → Stands lists node item
stands_there lists node item found =
    let from = stands_from 0 lists node item found in
    let index_is = from.index_is in
    let same : from.index ≡ item.list = omega arith in
    record {
      within = subst (λ index. index < length lists) same from.within;
      stands = subst (λ index. StandsBehind item.list None (list_at lists index) node item) same from.stands;
    }
