-- Putting the session that was hidden last back, one node after another.
use Rattle.std.proofs.Common.{◌≡◌, ◌≢◌, ℕ, suc, ◌<◌, List, [], ◌∷◌, ◌++◌, length, set, map, min, Some, None, Option, true, false, eqb, refl, sym, ap, ◌∙◌, subst, arith, length-set}
use Rattle.std.proofs.Math.Seq.{map-set_same}
use Rattle.std.proofs.lemmas.List.{map-append}
use Rattle.std.proofs.lemmas.Bool.{ne_eqb, eqb-true, eqb-false}
use Rattle.std.specs.Option.{option_eq}
use Rattle.ucon_base.specs.Elements.{Each}
use Rattle.ucon_links.specs.Lists.{Item, Lists, first_or, last_or, list_at, with_behind, listed_nodes, nodes_of, IsAbsent, IsDistinct, IsGap}
use Rattle.ucon_links.specs.Lists as links
use Rattle.ucon_links.specs.Dependents.{Place, place_at, empty_place, unhide_at, unhide, unhide_first, Fits, CanUnhide, CanUnhideFirst}
use Rattle.ucon_links.specs.Tables.{stood_at, places_from, on_top, sessions_of, seen, newest_owner, CanUnhideNewest, CanReturn, IsPaired, IsSound, AreGone}
use Rattle.ucon_links.specs.OneList.{distinct_front, ids, distinct_at, with_behind-last}
use Rattle.ucon_links.proofs.Rows.{seen_at, stood_of, stood_at-other, stood_at-same, places-length, places-at, each_set, each_at}
use Rattle.ucon_links.proofs.Standing.{sessions_in, sessions_out, Alone, alone_hidden, unhide_at-gap, unhide_at-absent, fits_not}
use Rattle.ucon_links.proofs.IndexSteps.{place_once, places_come, paired_come}
use Rattle.ucon_links.proofs.Stack.{owners_of, owners_absent, stood_absent, on_top-other, on_top-twice, on_top-same, on_top-first, are_gone_set, below, NewestOf, newest_of, newest_is_first}

-- while a session is put back: to put back what is left gives what putting back at once gives
pub record IsReturning (session : ℕ) (others : List ℕ) (first_places first_sessions places sessions : Lists) : Type 0 where
  pub paired : IsPaired places sessions
  pub size : length sessions.lists ≡ length first_sessions.lists
  pub room : places.spare ≡ first_places.spare
  pub items_room : sessions.spare ≡ first_sessions.spare
  pub gone : AreGone others (places_from 0 places.lists places.hidden)
  pub stack : on_top session (sessions_of places.hidden) ≡ session ∷ others
  pub fits : Each (Fits session) (places_from 0 places.lists places.hidden)
  pub goal : map (unhide_at session) (places_from 0 places.lists places.hidden) ≡ map (unhide_at session) (places_from 0 first_places.lists first_places.hidden)

pub returning_begins : (session : ℕ) (places sessions : Lists) → IsSound places sessions → newest_owner places.hidden ≡ Some session → CanUnhide (seen places sessions) → IsReturning session (below (sessions_of places.hidden)) places sessions places sessions
returning_begins session places sessions sound newest can =
    let first = newest_is_first places.hidden session newest in
    let all = places_from 0 places.lists places.hidden in
    record {
      paired = sound.paired;
      size = refl;
      room = refl;
      items_room = refl;
      gone = (subst (λ hs. AreGone hs all) first sound.gone).1;
      stack = ap (on_top session) first ∙ on_top-same session (below (sessions_of places.hidden));
      fits = subst (CanUnhideFirst all) first can;
      goal = refl;
    }

-- the newest hidden nodes of both tables
module _ (lists items : List (List (ℕ × ℕ))) (node item : Item) (rest rest_items : List Item) (spare room : ℕ) (others : List ℕ) (first_places first_sessions : Lists) where
  abbrev before_places : Lists
  before_places = record { lists = lists; hidden = node ∷ rest; spare = spare }

  abbrev before_sessions : Lists
  before_sessions = record { lists = items; hidden = item ∷ rest_items; spare = room }

  module _ (work : IsReturning node.owner others first_places first_sessions before_places before_sessions) where
    place_is : place_at (places_from 0 lists (node ∷ rest)) node.list ≡ record { listed = list_at lists node.list; hidden = stood_of node ∷ stood_at node.list rest }
    place_is = places-at 0 lists (node ∷ rest) node.list node.list (omega arith) work.paired.in_places.0 ∙ ap (λ stood. record { listed = list_at lists node.list; hidden = stood }) (stood_at-same node rest node.list refl)

    short : node.list < length (places_from 0 lists (node ∷ rest))
    short = subst (λ n. node.list < n) (sym (places-length 0 lists (node ∷ rest))) work.paired.in_places.0

    pub node_gap : IsGap node.before node.after (list_at lists node.list)
    node_gap = subst (Fits node.owner) place_is (each_at (Fits node.owner) (places_from 0 lists (node ∷ rest)) node.list short work.fits) refl

    pub item_gap : IsGap item.before item.after (list_at items item.list)
    item_gap =
        let can = work.paired.can_return in
        record { front = []; back = list_at items item.list; parts = refl; front_ends = sym can.1; back_begins = sym can.2 }

    abbrev front : List (ℕ × ℕ)
    front = node_gap.front

    abbrev back : List (ℕ × ℕ)
    back = node_gap.back

    node_same : node.node ≡ item.owner
    node_same =
        let X : ℕ × ℕ = (node.node, node.owner) in
        let Y : ℕ × ℕ = (item.owner, item.list) in
        let step = work.paired.in_step in
        let pair : X ≡ Y = cc in
        ap (λ (p : ℕ × ℕ). p.0) pair

    owner_same : node.owner ≡ item.list
    owner_same =
        let X : ℕ × ℕ = (node.node, node.owner) in
        let Y : ℕ × ℕ = (item.owner, item.list) in
        let step = work.paired.in_step in
        let pair : X ≡ Y = cc in
        ap (λ (p : ℕ × ℕ). p.1) pair

    alone_back : Alone node.owner front back (stood_at node.list rest)
    alone_back =
        alone_hidden node.owner front back (stood_at node.list rest)
        (subst (λ stood. IsDistinct (sessions_in (front ++ back) ++ sessions_out stood)) (stood_at-same node rest node.list refl)
        (place_once lists node.list front back (node ∷ rest) work.paired.in_places.0 node_gap.parts work.paired.once))

    within : node.owner < length items
    within = subst (λ n. n < length items) (sym owner_same) work.paired.can_return.0

    abbrev after_lists : List (List (ℕ × ℕ))
    after_lists = set lists node.list (front ++ (node.node, node.owner) ∷ back)

    abbrev after_items : List (List (ℕ × ℕ))
    after_items = set items node.owner ((item.node, node.node) ∷ list_at items node.owner)

    abbrev new_place : Place
    new_place = record { listed = front ++ (node.node, node.owner) ∷ back; hidden = stood_at node.list rest }

    items_are : set items item.list ((item.node, item.owner) ∷ list_at items item.list) ≡ after_items
    items_are =
        let pair : ℕ → ℕ × ℕ = λ n. (item.node, n) in
        ap (λ n. set items item.list (pair n ∷ list_at items item.list)) (sym node_same) ∙ ap (λ s. set items s (pair node.node ∷ list_at items s)) (sym owner_same)

    after_seen : places_from 0 after_lists rest ≡ set (places_from 0 lists (node ∷ rest)) node.list (record { listed = front ++ (node.node, node.owner) ∷ back; hidden = stood_at node.list rest })
    after_seen = places_come before_places before_sessions node.list node.owner item.node node.node front back rest rest_items spare room work.paired.in_places.0 within node_gap.parts alone_back (λ other differs. sym (stood_at-other node rest other differs))

    rest_in_step : map {B = ℕ × ℕ} (λ i. (i.node, i.owner)) rest ≡ map (λ i. (i.owner, i.list)) rest_items
    rest_in_step = let step = work.paired.in_step in cc

    module _ (distinct : IsDistinct (nodes_of before_places)) where
      front_distinct : IsDistinct (ids front)
      front_distinct =
          let listed = distinct_at lists node.list (distinct_front (listed_nodes lists) (map (λ i. i.node) (node ∷ rest)) distinct) in
          distinct_front (ids front) (ids back) (subst IsDistinct (map-append (λ x. x.0) front back) (subst (λ xs. IsDistinct (ids xs)) node_gap.parts listed))

      places_are : links.unhide before_places ≡ record { lists = after_lists; hidden = rest; spare = spare }
      places_are =
          let pair : ℕ × ℕ = (node.node, node.owner) in
          ap (λ xs. record { lists = set lists node.list xs; hidden = rest; spare = spare })
          (ap (λ at. with_behind at pair (list_at lists node.list)) (sym node_gap.front_ends)
          ∙ ap (with_behind (last_or None front) pair) node_gap.parts
          ∙ with_behind-last (node.node, node.owner) front back front_distinct)

      sessions_are : links.unhide before_sessions ≡ record { lists = after_items; hidden = rest_items; spare = room }
      sessions_are =
          let pair : ℕ × ℕ = (item.node, item.owner) in
          ap (λ at. record { lists = set items item.list (with_behind at pair (list_at items item.list)); hidden = rest_items; spare = room }) work.paired.can_return.1
          ∙ ap (λ all. record { lists = all; hidden = rest_items; spare = room }) items_are

      goal_kept : map (unhide_at node.owner) (places_from 0 after_lists rest) ≡ map (unhide_at node.owner) (places_from 0 lists (node ∷ rest))
      goal_kept =
          let here : place_at (places_from 0 lists (node ∷ rest)) node.list ≡ record { listed = front ++ back; hidden = stood_of node ∷ stood_at node.list rest } =
          place_is ∙ ap (λ xs. record { listed = xs; hidden = stood_of node ∷ stood_at node.list rest }) node_gap.parts in
          ap (map (unhide_at node.owner)) after_seen
          ∙ map-set_same (unhide_at node.owner) (places_from 0 lists (node ∷ rest)) node.list _ empty_place
          (unhide_at-absent node.owner _ alone_back.hidden_absent
          ∙ sym (ap (unhide_at node.owner) here ∙ unhide_at-gap node.owner node.node node.before node.after front back (stood_at node.list rest) node_gap.front_ends front_distinct))

      gone_kept : IsAbsent node.owner others → AreGone others (places_from 0 after_lists rest)
      gone_kept apart =
          subst (AreGone others) (sym after_seen)
          (are_gone_set node.owner others (places_from 0 lists (node ∷ rest)) node.list _ apart
          (λ other differs absent. more other front back node.node node.owner differs (subst (λ xs. IsAbsent other (sessions_in xs)) node_gap.parts (subst (λ (p : Place). IsAbsent other (sessions_in p.listed)) place_is absent)))
          short work.gone)
        where
          more : (other : ℕ) (xs ys : List (ℕ × ℕ)) (n s : ℕ) → other ≢ s → IsAbsent other (sessions_in (xs ++ ys)) → IsAbsent other (sessions_in (xs ++ (n, s) ∷ ys))
          more other [] ys n s differs absent = (λ e. differs (sym e), absent)
          more other (x ∷ xs) ys n s differs absent = (absent.0, more other xs ys n s differs absent.1)

      after : IsAbsent node.owner others → IsReturning node.owner others first_places first_sessions (record { lists = after_lists; hidden = rest; spare = spare }) (record { lists = after_items; hidden = rest_items; spare = room })
      after apart = record {
        paired = paired_come before_places before_sessions node.list node.owner item.node node.node front back rest rest_items spare room work.paired.in_places.0 within node_gap.parts alone_back work.paired (λ other differs. sym (stood_at-other node rest other differs)) rest_in_step (subst (λ all. CanReturn all rest_items) items_are work.paired.can_return.3) work.paired.in_places.1;
        size = length-set items node.owner _ ∙ work.size;
        room = work.room;
        items_room = work.items_room;
        gone = gone_kept apart;
        stack = sym (on_top-twice node.owner (sessions_of rest)) ∙ work.stack;
        fits = subst (Each (Fits node.owner)) (sym after_seen) (each_set (Fits node.owner) (places_from 0 lists (node ∷ rest)) node.list new_place work.fits (fits_not node.owner new_place (stood_at node.list rest) alone_back.hidden_absent));
        goal = goal_kept ∙ work.goal;
      }

      pub goes_on : IsAbsent node.owner others → IsReturning node.owner others first_places first_sessions (links.unhide before_places) (links.unhide before_sessions)
      goes_on apart =
          subst (λ v. IsReturning node.owner others first_places first_sessions v (links.unhide before_sessions)) (sym places_are)
          (subst (IsReturning node.owner others first_places first_sessions (record { lists = after_lists; hidden = rest; spare = spare })) (sym sessions_are) (after apart))

-- what one step needs, and that it goes on
pub record Step (session : ℕ) (others : List ℕ) (first_places first_sessions places sessions : Lists) : Type 0 where
  pub places_can : CanUnhideNewest places.lists places.hidden
  pub sessions_can : CanUnhideNewest sessions.lists sessions.hidden
  pub next : IsDistinct (nodes_of places) → IsReturning session others first_places first_sessions (links.unhide places) (links.unhide sessions)
  pub less : suc (length (links.unhide places).hidden) ≡ length places.hidden

step_of : (session : ℕ) (others : List ℕ) (first_places first_sessions : Lists) (lists items : List (List (ℕ × ℕ))) (hidden hidden_items : List Item) (spare room : ℕ) → IsAbsent session others → NewestOf hidden session → IsReturning session others first_places first_sessions (record { lists = lists; hidden = hidden; spare = spare }) (record { lists = items; hidden = hidden_items; spare = room }) → Step session others first_places first_sessions (record { lists = lists; hidden = hidden; spare = spare }) (record { lists = items; hidden = hidden_items; spare = room })
step_of session others first_places first_sessions lists items hidden [] spare room apart newest work =
    let step = work.paired.in_step in
    let is = newest.hidden_is in
    let no : ⊥ = cc in absurd no
step_of session others first_places first_sessions lists items hidden (item ∷ rest_items) spare room apart newest work =
    let node = newest.item in
    let same = subst (λ (hs : List Item). IsReturning session others first_places first_sessions (record { lists = lists; hidden = hs; spare = spare }) (record { lists = items; hidden = item ∷ rest_items; spare = room })) newest.hidden_is work in
    let work_here = subst (λ s. IsReturning s others first_places first_sessions (record { lists = lists; hidden = node ∷ newest.rest; spare = spare }) (record { lists = items; hidden = item ∷ rest_items; spare = room })) (sym newest.owner_is) same in
    let apart_here = subst (λ s. IsAbsent s others) (sym newest.owner_is) apart in
    subst (λ (hs : List Item). Step session others first_places first_sessions (record { lists = lists; hidden = hs; spare = spare }) (record { lists = items; hidden = item ∷ rest_items; spare = room })) (sym newest.hidden_is)
    (subst (λ s. Step s others first_places first_sessions (record { lists = lists; hidden = node ∷ newest.rest; spare = spare }) (record { lists = items; hidden = item ∷ rest_items; spare = room })) newest.owner_is (record {
      places_can = node_gap lists items node item newest.rest rest_items spare room others first_places first_sessions work_here;
      sessions_can = item_gap lists items node item newest.rest rest_items spare room others first_places first_sessions work_here;
      next = λ distinct. goes_on lists items node item newest.rest rest_items spare room others first_places first_sessions work_here distinct apart_here;
      less = refl;
    }))

pub step : (session : ℕ) (others : List ℕ) (first_places first_sessions places sessions : Lists) → IsAbsent session others → newest_owner places.hidden ≡ Some session → IsReturning session others first_places first_sessions places sessions → Step session others first_places first_sessions places sessions
step session others first_places first_sessions places sessions apart newest work =
    step_of session others first_places first_sessions places.lists sessions.lists places.hidden sessions.hidden places.spare sessions.spare apart (newest_of places.hidden session newest) work

-- where the session isn't hidden, putting it back changes nothing
unhide-none : (session from : ℕ) (lists : List (List (ℕ × ℕ))) (hidden : List Item) → IsAbsent session (owners_of hidden) → map (unhide_at session) (places_from from lists hidden) ≡ places_from from lists hidden
unhide-none session from [] hidden absent = refl
unhide-none session from (xs ∷ rest) hidden absent =
    ap (λ p. p ∷ map (unhide_at session) (places_from (suc from) rest hidden)) (unhide_at-absent session (seen_at from xs hidden) (stood_absent session from hidden absent))
    ∙ ap (λ ps. seen_at from xs hidden ∷ ps) (unhide-none session (suc from) rest hidden absent)

-- once another session is the newest, the rest of the stack is left
stack_left : (hidden : List Item) (session : ℕ) (others : List ℕ) → newest_owner hidden ≢ Some session → on_top session (sessions_of hidden) ≡ session ∷ others → sessions_of hidden ≡ others
stack_left [] session others newest is = cc
stack_left (item ∷ rest) session others newest is =
    let differs : item.owner ≢ session = λ e. newest (ap Some e) in
    let first = on_top-first item.owner (sessions_of rest) in
    let with_first = on_top-other session (item.owner ∷ below (sessions_of (item ∷ rest))) in
    let whole : session ∷ item.owner ∷ below (sessions_of (item ∷ rest)) ≡ session ∷ others = sym (on_top_first-other session item.owner (below (sessions_of (item ∷ rest))) differs) ∙ ap (on_top session) (sym first) ∙ is in
    let rest_is : item.owner ∷ below (sessions_of (item ∷ rest)) ≡ others = cc in
    first ∙ rest_is
  where
    on_top_first-other : (s first : ℕ) (xs : List ℕ) → first ≢ s → on_top s (first ∷ xs) ≡ s ∷ first ∷ xs
    on_top_first-other s first xs differs = rw (ne_eqb first s differs)

-- what is seen, part by part
seen_again : (places sessions first_places first_sessions : Lists) (others : List ℕ) (all : List Place) → sessions_of places.hidden ≡ others → places_from 0 places.lists places.hidden ≡ all → length sessions.lists ≡ length first_sessions.lists → places.spare ≡ first_places.spare → sessions.spare ≡ first_sessions.spare → seen places sessions ≡ record { places = all; hidden = others; sessions = length first_sessions.lists; spare = min first_places.spare first_sessions.spare }
seen_again places sessions first_places first_sessions others all stack lists size room items_room = rw (stack, lists, size, room, items_room)

pub record Returned (first_places first_sessions places sessions : Lists) : Type 0 where
  pub sound : IsSound places sessions
  pub returned : seen places sessions ≡ unhide (seen first_places first_sessions)

pub returning_ends : (session : ℕ) (first_places first_sessions places sessions : Lists) → IsSound first_places first_sessions → newest_owner first_places.hidden ≡ Some session → newest_owner places.hidden ≢ Some session → IsReturning session (below (sessions_of first_places.hidden)) first_places first_sessions places sessions → Returned first_places first_sessions places sessions
returning_ends session first_places first_sessions places sessions sound newest other work =
    let others = below (sessions_of first_places.hidden) in
    let first = newest_is_first first_places.hidden session newest in
    let stack = stack_left places.hidden session others other work.stack in
    let once = subst IsDistinct first sound.hidden_once in
    let absent = owners_absent session places.hidden (subst (IsAbsent session) (sym stack) once.0) in
    let lists = sym (unhide-none session 0 places.lists places.hidden absent) ∙ work.goal in
    let size = work.size in
    let room = work.room in
    let items_room = work.items_room in
    let before = seen first_places first_sessions in
    record {
      sound = record {
        paired = work.paired;
        gone = subst (λ hs. AreGone hs (places_from 0 places.lists places.hidden)) (sym stack) work.gone;
        hidden_once = subst IsDistinct (sym stack) once.1;
      };
      returned = seen_again places sessions first_places first_sessions others (map (unhide_at session) (places_from 0 first_places.lists first_places.hidden)) stack lists size room items_room ∙ sym (ap (unhide_first before) first);
    }

pub same_session : (found : Option ℕ) (session : ℕ) → option_eq eqb found (Some session) ≡ true → found ≡ Some session
same_session None session is = let no : ⊥ = cc in absurd no
same_session (Some other) session is = ap Some (eqb-true other session is)

pub other_session : (found : Option ℕ) (session : ℕ) → option_eq eqb found (Some session) ≡ false → found ≢ Some session
other_session None session is = λ e. cc
other_session (Some other) session is = λ e. let same : other ≡ session = cc in eqb-false other session is same

pub other_newest : (found newest : Option ℕ) {session : ℕ} → found ≡ newest → found ≢ Some session → newest ≢ Some session
other_newest found newest is other = λ e. other (is ∙ e)

-- the session that was hidden last isn't hidden twice
pub apart_first : (places : Lists) (session : ℕ) → IsDistinct (sessions_of places.hidden) → newest_owner places.hidden ≡ Some session → IsAbsent session (below (sessions_of places.hidden))
apart_first places session once newest = (subst IsDistinct (newest_is_first places.hidden session newest) once).0
