-- One list of nodes: what stands in it once, a node taken out of it or put into it. These laws stand here and not as functions, since the
-- proofs of the crates above go on from them for one list after another.
use Rattle.std.specs.Prelude.{◌≡◌, ◌≢◌, ℕ, zero, suc, ◌<◌, List, [], ◌∷◌, ◌++◌, map, length, Option, Some, None}
use Rattle.std.proofs.Common.{refl, sym, ap, ◌∙◌, subst}
use Rattle.std.proofs.lemmas.Bool.{ne_eqb, eq-eqb}
use Rattle.std.proofs.lemmas.List.{map-append}
use Rattle.ucon_links.specs.Lists.{Lists, first_or, last_or, list_at, listed_nodes, nodes_of, place_of, without, with_behind, IsAbsent, IsDistinct}

pub absent_front : (n : ℕ) (xs ys : List ℕ) → IsAbsent n (xs ++ ys) → IsAbsent n xs
absent_front n [] ys absent = tt
absent_front n (x ∷ xs) ys absent = (absent.0, absent_front n xs ys absent.1)

pub absent_back : (n : ℕ) (xs ys : List ℕ) → IsAbsent n (xs ++ ys) → IsAbsent n ys
absent_back n [] ys absent = absent
absent_back n (x ∷ xs) ys absent = absent_back n xs ys absent.1

pub distinct_front : (xs ys : List ℕ) → IsDistinct (xs ++ ys) → IsDistinct xs
distinct_front [] ys distinct = tt
distinct_front (x ∷ xs) ys distinct = (absent_front x xs ys distinct.0, distinct_front xs ys distinct.1)

pub distinct_back : (xs ys : List ℕ) → IsDistinct (xs ++ ys) → IsDistinct ys
distinct_back [] ys distinct = distinct
distinct_back (x ∷ xs) ys distinct = distinct_back xs ys distinct.1

pub absent_join : (n : ℕ) (xs ys : List ℕ) → IsAbsent n xs → IsAbsent n ys → IsAbsent n (xs ++ ys)
absent_join n [] ys first second = second
absent_join n (x ∷ xs) ys first second = (first.0, absent_join n xs ys first.1 second)

-- one number taken out of the middle
pub record Pulled (n : ℕ) (xs ys : List ℕ) : Type 0 where
  pub absent : IsAbsent n (xs ++ ys)
  pub distinct : IsDistinct (xs ++ ys)

pub distinct_pull : (n : ℕ) (xs ys : List ℕ) → IsDistinct (xs ++ n ∷ ys) → Pulled n xs ys
distinct_pull n [] ys distinct = record { absent = distinct.0; distinct = distinct.1 }
distinct_pull n (x ∷ xs) ys distinct =
    let rest = distinct_pull n xs ys distinct.1 in
    let behind = absent_back x xs (n ∷ ys) distinct.0 in
    record {
      absent = (λ e. behind.0 (sym e), rest.absent);
      distinct = (absent_join x xs ys (absent_front x xs (n ∷ ys) distinct.0) behind.1, rest.distinct);
    }

pub distinct_push : (n : ℕ) (xs ys : List ℕ) → Pulled n xs ys → IsDistinct (xs ++ n ∷ ys)
distinct_push n [] ys pulled = (pulled.absent, pulled.distinct)
distinct_push n (x ∷ xs) ys pulled =
    let absent = pulled.distinct.0 in (
      absent_join x xs (n ∷ ys) (absent_front x xs ys absent) (λ e. pulled.absent.0 (sym e), absent_back x xs ys absent),
      distinct_push n xs ys (record { absent = pulled.absent.1; distinct = pulled.distinct.1 }),
    )

abbrev pub ids : List (ℕ × ℕ) → List ℕ
ids xs = map (λ x. x.0) xs

-- one of the lists
pub distinct_at : (lists : List (List (ℕ × ℕ))) (list : ℕ) → IsDistinct (listed_nodes lists) → IsDistinct (ids (list_at lists list))
distinct_at [] list distinct = tt
distinct_at (xs ∷ rest) zero distinct = distinct_front (ids xs) (listed_nodes rest) distinct
distinct_at (xs ∷ rest) (suc list) distinct = distinct_at rest list (distinct_back (ids xs) (listed_nodes rest) distinct)

-- the nodes in front, of which none is the node
pub record InFront (front : List (ℕ × ℕ)) (node : ℕ) : Type 0 where
  pub distinct : IsDistinct (ids front)
  pub absent : IsAbsent node (ids front)

pub front_of : (front back : List (ℕ × ℕ)) (x : ℕ × ℕ) → IsDistinct (ids (front ++ x ∷ back)) → InFront front x.0
front_of front back x distinct =
    let parts = subst IsDistinct (map-append (λ y. y.0) front (x ∷ back)) distinct in
    record {
      distinct = distinct_front (ids front) (x.0 ∷ ids back) parts;
      absent = absent_front x.0 (ids front) (ids back) (distinct_pull x.0 (ids front) (ids back) parts).absent;
    }

pub without-first : (node owner : ℕ) (front back : List (ℕ × ℕ)) → IsAbsent node (ids front)
    → without node (front ++ (node, owner) ∷ back) ≡ front ++ back
without-first node owner [] back absent = rw (eq-eqb node node refl)
without-first node owner (x ∷ front) back absent = rw (ne_eqb x.0 node absent.0) (ap (λ ys. x ∷ ys) (without-first node owner front back absent.1))

-- the last node is another one
record LastOther (start : ℕ) (at : Option ℕ) : Type 0 where
  pub node : ℕ
  pub at_is : at ≡ Some node
  pub differs : start ≢ node

last_other : (start before : ℕ) (front : List (ℕ × ℕ)) → before ≢ start → IsAbsent start (ids front) → LastOther start (last_or (Some before) front)
last_other start before [] other absent = record { node = before; at_is = refl; differs = λ e. other (sym e) }
last_other start before (y ∷ front) other absent = last_other start y.0 front absent.0 absent.1

behind_other : (at : Option ℕ) (pair x : ℕ × ℕ) (xs : List (ℕ × ℕ)) → LastOther x.0 at → with_behind at pair (x ∷ xs) ≡ x ∷ with_behind at pair xs
behind_other at pair x xs last =
    ap (λ a. with_behind a pair (x ∷ xs)) last.at_is ∙ rw (ne_eqb x.0 last.node last.differs) (ap (λ a. x ∷ with_behind a pair xs) (sym last.at_is))

pub with_behind-last : (pair : ℕ × ℕ) (front back : List (ℕ × ℕ)) → IsDistinct (ids front)
    → with_behind (last_or None front) pair (front ++ back) ≡ front ++ pair ∷ back
with_behind-last pair [] back distinct = refl
with_behind-last pair (x ∷ []) back distinct = rw (eq-eqb x.0 x.0 refl)
with_behind-last pair (x ∷ y ∷ ys) back distinct =
    behind_other (last_or (Some y.0) ys) pair x (y ∷ ys ++ back) (last_other x.0 y.0 ys distinct.0.0 distinct.0.1)
    ∙ ap (λ zs. x ∷ zs) (with_behind-last pair (y ∷ ys) back distinct.1)

-- if no node is there twice, a node stands where its list has it, between those before and after it
abbrev pub PlaceLaw : Type 0
PlaceLaw =
    (v : Lists) (list : ℕ) (front back : List (ℕ × ℕ)) (x : ℕ × ℕ) → IsDistinct (nodes_of v)
    → list < length v.lists → list_at v.lists list ≡ front ++ x ∷ back
    → place_of v x.0 ≡ Some (record { list = list; node = x.0; owner = x.1; before = last_or None front; after = first_or None back })
