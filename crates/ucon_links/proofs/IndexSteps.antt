-- One node and its item: what a step does to both tables, and to the places as they are seen.
use Rattle.std.proofs.Common.{◌≡◌, ◌≢◌, ℕ, zero, suc, ◌+◌, ◌<◌, List, [], ◌∷◌, ◌++◌, length, set, map, Some, None, refl, sym, ap, ◌∙◌, subst, arith, length-set}
use Rattle.std.proofs.lemmas.List.{get_or-set_same, get_or-set_other, set-get_or, set-set}
use Rattle.ucon_base.specs.Elements.{Each}
use Rattle.ucon_links.specs.Layout.{InLists}
use Rattle.ucon_links.specs.Lists.{Item, Lists, first_or, last_or, list_at, place_of, without, hide, hide_item, unlink, unlink_item, listed_nodes, nodes_of, IsAbsent, IsDistinct}
use Rattle.ucon_links.specs.Dependents.{place_at}
use Rattle.ucon_links.specs.Tables.{stood_at, places_from, by_place, by_session, CanReturn, IsOnce, IsPaired}
use Rattle.ucon_links.specs.OneList.{distinct_front, PlaceLaw, ids, distinct_at, front_of, without-first}
use Rattle.ucon_links.proofs.Weights.{place_in, place_out, session_in, session_out}
use Rattle.ucon_links.proofs.Rows.{seen_at, stood_of, stood_at-other, stood_at-same, places-length, places-at, places-set, each_set, each_at}
use Rattle.ucon_links.proofs.Standing.{sessions_in, sessions_out, Alone, alone, once_listed, once_hidden}

-- where a node stands, or stood
abbrev pub item_of : ℕ → ℕ → ℕ → List (ℕ × ℕ) → List (ℕ × ℕ) → Item
item_of list node owner front back = record { list = list; node = node; owner = owner; before = last_or None front; after = first_or None back }

module _ (v : Lists) (list node owner : ℕ) (front back : List (ℕ × ℕ)) (within : list < length v.lists) (there : list_at v.lists list ≡ front ++ (node, owner) ∷ back) (distinct : IsDistinct (nodes_of v)) where
  pub place_is : PlaceLaw → place_of v node ≡ Some (item_of list node owner front back)
  place_is law = law v list front back (node, owner) distinct within there

  left : without node (list_at v.lists list) ≡ front ++ back
  left =
      let listed = distinct_at v.lists list (distinct_front (listed_nodes v.lists) (map (λ item. item.node) v.hidden) distinct) in
      let parts = front_of front back (node, owner) (subst (λ xs. IsDistinct (ids xs)) there listed) in
      ap (without node) there ∙ without-first node owner front back parts.absent

  pub front_distinct : IsDistinct (ids front)
  front_distinct =
      let listed = distinct_at v.lists list (distinct_front (listed_nodes v.lists) (map (λ item. item.node) v.hidden) distinct) in
      (front_of front back (node, owner) (subst (λ xs. IsDistinct (ids xs)) there listed)).distinct

  pub hide_is : PlaceLaw → hide v node ≡ record v { lists = set v.lists list (front ++ back); hidden = item_of list node owner front back ∷ v.hidden }
  hide_is law = ap (hide_item v) (place_is law) ∙ ap (λ xs. record v { lists = set v.lists list xs; hidden = item_of list node owner front back ∷ v.hidden }) left

  pub unlink_is : PlaceLaw → unlink v node ≡ record v { lists = set v.lists list (front ++ back); spare = v.spare + 1 }
  unlink_is law = ap (unlink_item v) (place_is law) ∙ ap (λ xs. record v { lists = set v.lists list xs; spare = v.spare + 1 }) left

set-swap : (lists : List (List (ℕ × ℕ))) (i j : ℕ) (xs ys : List (ℕ × ℕ)) → i ≢ j → set (set lists i xs) j ys ≡ set (set lists j ys) i xs
set-swap [] i j xs ys differs = refl
set-swap (first ∷ rest) zero zero xs ys differs = absurd (differs refl)
set-swap (first ∷ rest) zero (suc j) xs ys differs = refl
set-swap (first ∷ rest) (suc i) zero xs ys differs = refl
set-swap (first ∷ rest) (suc i) (suc j) xs ys differs = ap (λ lists. first ∷ lists) (set-swap rest i j xs ys (λ e. differs (ap suc e)))

-- another list may change meanwhile
pub can_return-other : (lists : List (List (ℕ × ℕ))) (hidden : List Item) (list : ℕ) (xs : List (ℕ × ℕ)) → IsAbsent list (map (λ i. i.list) hidden) → CanReturn lists hidden → CanReturn (set lists list xs) hidden
can_return-other lists [] list xs absent can = tt
can_return-other lists (item ∷ rest) list xs absent can =
    let same = get_or-set_other lists list item.list xs [] absent.0 in
    let pair : ℕ × ℕ = (item.node, item.owner) in (
      subst (λ n. item.list < n) (sym (length-set lists list xs)) can.0,
      can.1,
      can.2 ∙ ap (first_or None) (sym same),
      subst (λ all. CanReturn all rest)
          (set-swap lists item.list list (pair ∷ list_at lists item.list) xs absent.0 ∙ ap (λ ys. set (set lists list xs) item.list (pair ∷ ys)) (sym same))
          (can_return-other (set lists item.list (pair ∷ list_at lists item.list)) rest list xs absent.1 can.3),
    )

-- one place changes at most
module _ (lists : List (List (ℕ × ℕ))) (place : ℕ) (front back : List (ℕ × ℕ)) (hidden : List Item) (within : place < length lists) (there : list_at lists place ≡ front ++ back) where
  pub place_before : place_at (places_from 0 lists hidden) place ≡ seen_at place (front ++ back) hidden
  place_before = places-at 0 lists hidden place place (omega arith) within ∙ ap (λ xs. seen_at place xs hidden) there

  pub place_once : Each IsOnce (places_from 0 lists hidden) → IsDistinct (sessions_in (front ++ back) ++ sessions_out (stood_at place hidden))
  place_once each =
      let short : place < length (places_from 0 lists hidden) = subst (λ n. place < n) (sym (places-length 0 lists hidden)) within in
      subst IsOnce place_before (each_at IsOnce (places_from 0 lists hidden) place short each)

module _ (places sessions : Lists) (place session item node : ℕ) (front back rest : List (ℕ × ℕ)) (place_within : place < length places.lists) (within : session < length sessions.lists) (paired : IsPaired places sessions) where
  abbrev pub taken_lists : List (List (ℕ × ℕ))
  taken_lists = set places.lists place (front ++ back)

  module _ (place_there : list_at places.lists place ≡ front ++ (node, session) ∷ back) (there : list_at sessions.lists session ≡ (item, node) ∷ rest) where
    pub alone_there : Alone session front back (stood_at place places.hidden)
    alone_there = alone session node front back (stood_at place places.hidden) (place_once places.lists place front ((node, session) ∷ back) places.hidden place_within place_there paired.once)

    same_out : (weight : ℕ → ℕ → ℕ) → by_place weight taken_lists ≡ by_session weight (set sessions.lists session rest)
    same_out weight =
        let less = place_out weight places.lists place front back node session place_within place_there in
        let fewer = session_out weight sessions.lists session item node rest within there in
        let same = paired.same weight in
        omega arith

    -- the node is hidden
    pub places_hidden : places_from 0 taken_lists (item_of place node session front back ∷ places.hidden) ≡ set (places_from 0 places.lists places.hidden) place (record { listed = front ++ back; hidden = stood_of (item_of place node session front back) ∷ stood_at place places.hidden })
    places_hidden =
        places-set 0 places.lists place place (front ++ back) places.hidden (item_of place node session front back ∷ places.hidden) (omega arith) place_within (λ other differs. stood_at-other (item_of place node session front back) places.hidden other differs)
        ∙ ap (λ stood. set (places_from 0 places.lists places.hidden) place (record { listed = front ++ back; hidden = stood })) (stood_at-same (item_of place node session front back) places.hidden place refl)

    pub paired_hidden : IsPaired (record places { lists = taken_lists; hidden = item_of place node session front back ∷ places.hidden }) (record sessions { lists = set sessions.lists session rest; hidden = item_of session item node [] rest ∷ sessions.hidden })
    paired_hidden = record {
      same = same_out;
      in_step = ap (λ pairs. (node, session) ∷ pairs) paired.in_step;
      can_return =
          let first = get_or-set_same sessions.lists session rest [] within in
          let back_again : set (set sessions.lists session rest) session ((item, node) ∷ list_at (set sessions.lists session rest) session) ≡ sessions.lists =
          ap (λ xs. set (set sessions.lists session rest) session ((item, node) ∷ xs)) first
          ∙ set-set sessions.lists session rest ((item, node) ∷ rest)
          ∙ ap (set sessions.lists session) (sym there)
          ∙ set-get_or sessions.lists session [] in (
            subst (λ n. session < n) (sym (length-set sessions.lists session rest)) within,
            refl,
            ap (first_or None) (sym first),
            subst (λ lists. CanReturn lists sessions.hidden) (sym back_again) paired.can_return,
          );
      in_places = subst (λ n. (place < n) × InLists n places.hidden) (sym (length-set places.lists place (front ++ back))) (place_within, paired.in_places);
      once = subst (Each IsOnce) (sym places_hidden) (each_set IsOnce (places_from 0 places.lists places.hidden) place _ paired.once (once_hidden session front back (stood_at place places.hidden) alone_there));
    }

    -- the node is unlinked
    pub places_unlinked : places_from 0 taken_lists places.hidden ≡ set (places_from 0 places.lists places.hidden) place (record { listed = front ++ back; hidden = stood_at place places.hidden })
    places_unlinked = places-set 0 places.lists place place (front ++ back) places.hidden places.hidden (omega arith) place_within (λ other differs. refl)

    pub paired_unlinked : (spare room : ℕ) → IsAbsent session (map (λ i. i.list) sessions.hidden) → IsPaired (record places { lists = taken_lists; spare = spare }) (record sessions { lists = set sessions.lists session rest; spare = room })
    paired_unlinked spare room absent = record {
      same = same_out;
      in_step = paired.in_step;
      can_return = can_return-other sessions.lists sessions.hidden session rest absent paired.can_return;
      in_places = subst (λ n. InLists n places.hidden) (sym (length-set places.lists place (front ++ back))) paired.in_places;
      once = subst (Each IsOnce) (sym places_unlinked) (each_set IsOnce (places_from 0 places.lists places.hidden) place _ paired.once alone_there.others);
    }

-- a node comes between two others of its place, and its item to the front of its session
module _ (places sessions : Lists) (place session item node : ℕ) (front back : List (ℕ × ℕ)) (hidden hidden_items : List Item) (spare room : ℕ) (place_within : place < length places.lists) (within : session < length sessions.lists) (place_there : list_at places.lists place ≡ front ++ back) (alone_left : Alone session front back (stood_at place hidden)) where
  abbrev pub come_lists : List (List (ℕ × ℕ))
  come_lists = set places.lists place (front ++ (node, session) ∷ back)

  abbrev pub come_items : List (List (ℕ × ℕ))
  come_items = set sessions.lists session ((item, node) ∷ list_at sessions.lists session)

  same_in : IsPaired places sessions → (weight : ℕ → ℕ → ℕ) → by_place weight come_lists ≡ by_session weight come_items
  same_in paired weight =
      let more = place_in weight places.lists place front back node session place_within place_there in
      let larger = session_in weight sessions.lists session item node (list_at sessions.lists session) within refl in
      let same = paired.same weight in
      omega arith

  pub places_come : ((other : ℕ) → other ≢ place → stood_at other hidden ≡ stood_at other places.hidden) → places_from 0 come_lists hidden ≡ set (places_from 0 places.lists places.hidden) place (record { listed = front ++ (node, session) ∷ back; hidden = stood_at place hidden })
  places_come kept = places-set 0 places.lists place place (front ++ (node, session) ∷ back) places.hidden hidden (omega arith) place_within kept

  pub paired_come : IsPaired places sessions → ((other : ℕ) → other ≢ place → stood_at other hidden ≡ stood_at other places.hidden) → map {B = ℕ × ℕ} (λ i. (i.node, i.owner)) hidden ≡ map (λ i. (i.owner, i.list)) hidden_items → CanReturn come_items hidden_items → InLists (length places.lists) hidden → IsPaired (record { lists = come_lists; hidden = hidden; spare = spare }) (record { lists = come_items; hidden = hidden_items; spare = room })
  paired_come paired kept in_step can_return in_places = record {
    same = same_in paired;
    in_step = in_step;
    can_return = can_return;
    in_places = subst (λ n. InLists n hidden) (sym (length-set places.lists place (front ++ (node, session) ∷ back))) in_places;
    once = subst (Each IsOnce) (sym (places_come kept)) (each_set IsOnce (places_from 0 places.lists places.hidden) place _ paired.once (once_listed session node front back (stood_at place hidden) alone_left));
  }
