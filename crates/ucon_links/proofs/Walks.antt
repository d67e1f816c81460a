-- A walk through a place goes through its list in the table.
use Rattle.std.proofs.Common.{◌≡◌, ◌≢◌, ℕ, zero, suc, ◌+◌, ◌<◌, List, [], ◌∷◌, ◌++◌, length, map, Some, None, Option, Bool, true, false, eqb, cond, IsSome, is_some, option_map, Contains, refl, sym, ap, ◌∙◌, subst, arith, append_assoc, length-append}
use Rattle.std.proofs.lemmas.List.{append-nil, length-map, map-append}
use Rattle.std.proofs.lemmas.List.Elements.{Contains-append_right}
use Rattle.std.proofs.lemmas.Bool.{eqb-true, eqb-false, ne_eqb, eq-eqb}
use Rattle.ucon_links.specs.Layout.{InLists}
use Rattle.ucon_links.specs.Lists.{Item, Lists, first_or, list_at, place_from, place_of, or_else, hidden_at, owner_of, listed_nodes, nodes_of, IsListed, IsAbsent, IsDistinct}
use Rattle.ucon_links.specs.Dependents.{Place, Dependents, place_at, walked, stood_session, hidden_session, first_some, session_of}
use Rattle.ucon_links.specs.Walk.{IsWalked, IsMet, left_from}
use Rattle.ucon_links.specs.Tables.{stood_at, places_from, seen, IsPaired}
use Rattle.ucon_links.specs.OneList.{distinct_front, distinct_back, PlaceLaw}
use Rattle.ucon_links.proofs.Rows.{stood_at-other, stood_at-same, places-listed, places-length, places-at}

module _ (places sessions : Lists) (v : Dependents) (is : seen places sessions ≡ v) where
  pub walked_is : (walked v).lists ≡ places.lists
  walked_is = ap (λ (w : Dependents). (walked w).lists) (sym is) ∙ places-listed 0 places.lists places.hidden

  pub listed_seen : (node : ℕ) → IsListed (walked v) node → IsListed places node
  listed_seen node listed = subst (λ lists. IsSome (place_from 0 lists node)) walked_is listed

  pub place_seen : (node : ℕ) → place_of (walked v) node ≡ place_of places node
  place_seen node = ap (λ lists. place_from 0 lists node) walked_is

  pub distinct_seen : IsDistinct (nodes_of places) → IsDistinct (listed_nodes (walked v).lists)
  distinct_seen distinct = subst (λ lists. IsDistinct (listed_nodes lists)) (sym walked_is) (distinct_front (listed_nodes places.lists) (map (λ item. item.node) places.hidden) distinct)

  pub list_seen : (place : ℕ) → place < length places.lists → (place_at v.places place).listed ≡ list_at places.lists place
  list_seen place within = ap (λ (w : Dependents). (place_at w.places place).listed) (sym is) ∙ ap (λ (p : Place). p.listed) (places-at 0 places.lists places.hidden place place (omega arith) within)

stood_other : (place node : ℕ) (item : Item) (rest : List Item) (test : Bool) → eqb item.list place ≡ test → item.node ≢ node → stood_session (stood_at place (item ∷ rest)) node ≡ stood_session (stood_at place rest) node
stood_other place node item rest true is differs = ap (λ stood. stood_session stood node) (stood_at-same item rest place (eqb-true item.list place is)) ∙ rw (ne_eqb item.node node differs)
stood_other place node item rest false is differs = ap (λ stood. stood_session stood node) (stood_at-other item rest place (λ e. eqb-false item.list place is (sym e)))

-- other hidden nodes may be passed over
hidden_other : (from node : ℕ) (lists : List (List (ℕ × ℕ))) (item : Item) (rest : List Item) → item.node ≢ node → hidden_session (places_from from lists (item ∷ rest)) node ≡ hidden_session (places_from from lists rest) node
hidden_other from node [] item rest differs = refl
hidden_other from node (xs ∷ lists) item rest differs =
    ap (λ first. first_some first (hidden_session (places_from (suc from) lists (item ∷ rest)) node)) (stood_other from node item rest (eqb item.list from) refl differs)
    ∙ ap (first_some (stood_session (stood_at from rest) node)) (hidden_other (suc from) node lists item rest differs)

no_stood : (place node : ℕ) (hidden : List Item) → IsAbsent node (map (λ item. item.node) hidden) → stood_session (stood_at place hidden) node ≡ None
no_stood place node [] absent = refl
no_stood place node (item ∷ rest) absent = stood_other place node item rest (eqb item.list place) refl absent.0 ∙ no_stood place node rest absent.1

hidden_there : (from node : ℕ) (lists : List (List (ℕ × ℕ))) (item : Item) (rest : List Item) (i : ℕ) → item.list ≡ from + i → i < length lists → item.node ≡ node → IsAbsent node (map (λ other. other.node) rest) → hidden_session (places_from from lists (item ∷ rest)) node ≡ Some item.owner
hidden_there from node [] item rest i is within same absent = absurd (omega arith)
hidden_there from node (xs ∷ lists) item rest zero is within same absent =
    let here : item.list ≡ from = omega arith in
    ap (λ stood. first_some (stood_session stood node) (hidden_session (places_from (suc from) lists (item ∷ rest)) node)) (stood_at-same item rest from here)
    ∙ rw (eq-eqb item.node node same)
hidden_there from node (xs ∷ lists) item rest (suc i) is within same absent =
    ap (λ stood. first_some (stood_session stood node) (hidden_session (places_from (suc from) lists (item ∷ rest)) node)) (stood_at-other item rest from (λ e. omega arith))
    ∙ ap (λ first. first_some first (hidden_session (places_from (suc from) lists (item ∷ rest)) node)) (no_stood from node rest absent)
    ∙ hidden_there (suc from) node lists item rest i (omega arith) (omega arith) same absent

none_stood : (from node : ℕ) (lists : List (List (ℕ × ℕ))) → hidden_session (places_from from lists []) node ≡ None
none_stood from node [] = refl
none_stood from node (xs ∷ lists) = none_stood (suc from) node lists

hidden_step : (node : ℕ) (lists : List (List (ℕ × ℕ))) (item : Item) (rest : List Item) (test : Bool) → eqb item.node node ≡ test → item.list < length lists → IsAbsent item.node (map (λ other. other.node) rest) → hidden_session (places_from 0 lists rest) node ≡ option_map (λ i. i.owner) (hidden_at rest node) → hidden_session (places_from 0 lists (item ∷ rest)) node ≡ option_map (λ i. i.owner) (cond test (Some item) (hidden_at rest node))
hidden_step node lists item rest true is within absent later =
    let same = eqb-true item.node node is in
    hidden_there 0 node lists item rest item.list (omega arith) within same (subst (λ n. IsAbsent n (map (λ other. other.node) rest)) same absent)
hidden_step node lists item rest false is within absent later = hidden_other 0 node lists item rest (eqb-false item.node node is) ∙ later

hidden_is : (node : ℕ) (lists : List (List (ℕ × ℕ))) (hidden : List Item) → InLists (length lists) hidden → IsDistinct (map (λ item. item.node) hidden) → hidden_session (places_from 0 lists hidden) node ≡ option_map (λ i. i.owner) (hidden_at hidden node)
hidden_is node lists [] all distinct = none_stood 0 node lists
hidden_is node lists (item ∷ rest) all distinct = hidden_step node lists item rest (eqb item.node node) refl all.0 distinct.0 (hidden_is node lists rest all.1 distinct.1)

either : (listed hidden : Option Item) → first_some (option_map (λ i. i.owner) listed) (option_map (λ i. i.owner) hidden) ≡ option_map (λ i. i.owner) (or_else listed hidden)
either None hidden = refl
either (Some item) hidden = refl

-- the session of a node is its owner
pub session_seen : (places sessions : Lists) (v : Dependents) (node : ℕ) → seen places sessions ≡ v → IsPaired places sessions → IsDistinct (nodes_of places) → session_of v node ≡ owner_of places node
session_seen places sessions v node is paired distinct =
    let once = distinct_back (listed_nodes places.lists) (map (λ item. item.node) places.hidden) distinct in
    ap (λ place. first_some (option_map (λ item. item.owner) place) (hidden_session v.places node)) (place_seen places sessions v is node)
    ∙ ap (λ (w : Dependents). first_some (option_map (λ item. item.owner) (place_of places node)) (hidden_session w.places node)) (sym is)
    ∙ ap (first_some (option_map (λ item. item.owner) (place_of places node))) (hidden_is node places.lists places.hidden paired.in_places once)
    ∙ either (place_of places node) (hidden_at places.hidden node)

pub within_seen : (places sessions : Lists) (v : Dependents) → seen places sessions ≡ v → (place : ℕ) → place < length v.places → place < length places.lists
within_seen places sessions v is place within = subst (λ n. place < n) (ap (λ (w : Dependents). length w.places) (sym is) ∙ places-length 0 places.lists places.hidden) within

absent_first : (node : ℕ) (item : Item) (rest : List Item) (test : Bool) → eqb item.node node ≡ test → cond test (Some item) (hidden_at rest node) ≡ None → (hidden_at rest node ≡ None → IsAbsent node (map (λ i. i.node) rest)) → IsAbsent node (map (λ i. i.node) (item ∷ rest))
absent_first node item rest true is none later = let no : ⊥ = cc in absurd no
absent_first node item rest false is none later = (eqb-false item.node node is, later none)

not_hidden_at : (node : ℕ) (hidden : List Item) → hidden_at hidden node ≡ None → IsAbsent node (map (λ i. i.node) hidden)
not_hidden_at node [] none = tt
not_hidden_at node (item ∷ rest) none = absent_first node item rest (eqb item.node node) refl none (not_hidden_at node rest)

nowhere_stood : (from node : ℕ) (lists : List (List (ℕ × ℕ))) (hidden : List Item) → IsAbsent node (map (λ i. i.node) hidden) → hidden_session (places_from from lists hidden) node ≡ None
nowhere_stood from node [] hidden absent = refl
nowhere_stood from node (xs ∷ lists) hidden absent =
    ap (λ first. first_some first (hidden_session (places_from (suc from) lists hidden) node)) (no_stood from node hidden absent) ∙ nowhere_stood (suc from) node lists hidden absent

some_owner : (lists : List (List (ℕ × ℕ))) (hidden : List Item) (node : ℕ) (place found : Option Item) → hidden_at hidden node ≡ found → IsSome (first_some (option_map (λ i. i.owner) place) (hidden_session (places_from 0 lists hidden) node)) → IsSome (option_map (λ i. i.owner) (or_else place found))
some_owner lists hidden node (Some item) found is some = refl
some_owner lists hidden node None (Some item) is some = refl
some_owner lists hidden node None None is some = subst IsSome (nowhere_stood 0 node lists hidden (not_hidden_at node hidden is)) some

-- a node with a session has an owner
pub session_has_owner : (places sessions : Lists) (v : Dependents) (node : ℕ) → seen places sessions ≡ v → IsSome (session_of v node) → IsSome (owner_of places node)
session_has_owner places sessions v node is some =
    some_owner places.lists places.hidden node (place_of places node) (hidden_at places.hidden node) refl
    (subst (λ place. IsSome (first_some (option_map (λ item. item.owner) place) (hidden_session (places_from 0 places.lists places.hidden) node))) (place_seen places sessions (seen places sessions) refl node)
    (subst (λ (w : Dependents). IsSome (session_of w node)) (sym is) some))

pub walk_begins : (v : Dependents) (place : ℕ) (at : Option ℕ) → at ≡ first_or None (place_at v.places place).listed → IsWalked v place [] at
walk_begins v place at is = record { front = []; back = (place_at v.places place).listed; there = refl; met_is = refl; at_is = is }

-- the nodes of one place are distinct
distinct_at : (lists : List (List (ℕ × ℕ))) (place : ℕ) → IsDistinct (listed_nodes lists) → IsDistinct (map (λ x. x.0) (list_at lists place))
distinct_at [] place distinct = tt
distinct_at (xs ∷ rest) zero distinct = distinct_front (map (λ x. x.0) xs) (listed_nodes rest) distinct
distinct_at (xs ∷ rest) (suc place) distinct = distinct_at rest place (distinct_back (map (λ x. x.0) xs) (listed_nodes rest) distinct)

other_node : (node : ℕ) (front : List (ℕ × ℕ)) (x : ℕ × ℕ) (back : List (ℕ × ℕ)) → IsAbsent node (map (λ y. y.0) (front ++ x ∷ back)) → x.0 ≢ node
other_node node [] x back absent = absent.0
other_node node (y ∷ front) x back absent = other_node node front x back absent.1

left_at : (front : List (ℕ × ℕ)) (x : ℕ × ℕ) (back : List (ℕ × ℕ)) → IsDistinct (map (λ y. y.0) (front ++ x ∷ back)) → left_from (front ++ x ∷ back) (Some x.0) ≡ suc (length back)
left_at [] x back distinct = rw (eq-eqb x.0 x.0 refl)
left_at (y ∷ front) x back distinct = rw (ne_eqb y.0 x.0 (λ e. other_node y.0 front x back distinct.0 (sym e))) (left_at front x back distinct.1)

left_behind : (front back : List (ℕ × ℕ)) → IsDistinct (map (λ y. y.0) (front ++ back)) → left_from (front ++ back) (first_or None back) ≡ length back
left_behind front [] distinct = refl
left_behind front (x ∷ back) distinct = left_at front x back distinct

list_of_place : (places : List Place) (place : ℕ) → place < length places → list_at (map (λ p. p.listed) places) place ≡ (place_at places place).listed
list_of_place [] place within = absurd (omega arith)
list_of_place (first ∷ rest) zero within = refl
list_of_place (first ∷ rest) (suc place) within = list_of_place rest place (omega arith)

met_at : PlaceLaw → (v : Dependents) (place : ℕ) (met : List ℕ) (node : ℕ) (front back : List (ℕ × ℕ)) → IsDistinct (listed_nodes (walked v).lists) → place < length v.places → (place_at v.places place).listed ≡ front ++ back → met ≡ map (λ x. x.1) front → Some node ≡ first_or None back → IsMet v place met node
met_at law v place met node front [] distinct within there met_is at_is = let no : ⊥ = cc in absurd no
met_at law v place met node front (x ∷ back) distinct within there met_is at_is =
    let same : x.0 ≡ node = cc in
    let once = subst IsDistinct (sym (append-nil (listed_nodes (walked v).lists))) distinct in
    let short : place < length (walked v).lists = subst (λ n. place < n) (sym (length-map v.places (λ p. p.listed))) within in
    let is = law (walked v) place front back x once short (list_of_place v.places place within ∙ there) in
    let size = length-append front (x ∷ back) in
    let whole = ap length there in
    let met_size = ap length met_is ∙ length-map front (λ x. x.1) in
    let listed = list_of_place v.places place within ∙ there in
    let own = subst (λ (xs : List (ℕ × ℕ)). IsDistinct (map (λ y. y.0) xs)) listed (distinct_at (walked v).lists place distinct) in
    let behind = append_assoc front (x ∷ []) back in
    let own_behind = subst (λ (xs : List (ℕ × ℕ)). IsDistinct (map (λ y. y.0) xs)) (sym behind) own in
    subst (IsMet v place met) same (record {
      session = x.1;
      listed = ap is_some is;
      session_is = ap (λ item. first_some (option_map (λ i. i.owner) item) (hidden_session v.places x.0)) is;
      stands = subst (λ xs. Contains xs x.1) (sym (ap (map (λ y. y.1)) there ∙ map-append (λ y. y.1) front (x ∷ back)))
          (Contains-append_right (map (λ y. y.1) front) (x.1 ∷ map (λ y. y.1) back) x.1 (0, omega arith, refl));
      short = omega arith;
      more = λ next after. record {
        front = front ++ x ∷ [];
        back = back;
        there = there ∙ sym (append_assoc front (x ∷ []) back);
        met_is = ap (λ ns. ns ++ x.1 ∷ []) met_is ∙ sym (map-append (λ y. y.1) front (x ∷ []));
        at_is = some_of (sym after ∙ ap (option_map (λ item. item.after)) is);
      };
      fewer = λ next after.
          let at_is : next ≡ first_or None back = some_of (sym after ∙ ap (option_map (λ item. item.after)) is) in
          let here = ap (λ xs. left_from xs (Some x.0)) there ∙ left_at front x back own in
          let later = ap (λ xs. left_from xs next) (there ∙ sym behind) ∙ ap (left_from ((front ++ x ∷ []) ++ back)) at_is ∙ left_behind (front ++ x ∷ []) back own_behind in
          omega (arith, here, later);
    })
  where
    some_of : {X : Type 0} {a b : X} → Some a ≡ Some b → a ≡ b
    some_of e = cc

pub walk_meets : PlaceLaw → (v : Dependents) (place : ℕ) (met : List ℕ) (node : ℕ) → IsDistinct (listed_nodes (walked v).lists) → place < length v.places → IsWalked v place met (Some node) → IsMet v place met node
walk_meets law v place met node distinct within way = met_at law v place met node way.front way.back distinct within way.there way.met_is way.at_is

-- at the end the walk has met all
pub walk_ends : (v : Dependents) (place : ℕ) (met : List ℕ) → IsWalked v place met None → met ≡ map (λ x. x.1) (place_at v.places place).listed
walk_ends v place met way = at_end way.front way.back way.there way.met_is way.at_is
  where
    at_end : (front back : List (ℕ × ℕ)) → (place_at v.places place).listed ≡ front ++ back → met ≡ map (λ x. x.1) front → None ≡ first_or None back → met ≡ map (λ x. x.1) (place_at v.places place).listed
    at_end front [] there met_is at_is = met_is ∙ sym (ap (map (λ x. x.1)) (there ∙ append-nil front))
    at_end front (x ∷ back) there met_is at_is = let no : ⊥ = cc in absurd no

pub session_is_met : (v : Dependents) (place : ℕ) (met : List ℕ) (node session : ℕ) (is : IsMet v place met node) → session_of v node ≡ Some session → is.session ≡ session
session_is_met v place met node session is found = same (sym is.session_is ∙ found)
  where
    same : {a b : ℕ} → Some a ≡ Some b → a ≡ b
    same e = cc
