-- Removing a session, one node after another.
use Rattle.std.proofs.Common.{◌≡◌, ℕ, suc, ◌+◌, ◌<◌, List, [], ◌∷◌, ◌++◌, length, set, map, min, None, true, refl, sym, ap, ◌∙◌, subst, arith, length-set}
use Rattle.std.proofs.lemmas.List.{get_or-set_same}
use Rattle.std.proofs.lemmas.List.Sums.{sum_by-cons}
use Rattle.std.proofs.Math.Seq.{map-set_same}
use Rattle.ucon_links.specs.Lists.{Item, Lists, first_or, list_at, nodes_of, IsAbsent, IsDistinct}
use Rattle.ucon_links.specs.Lists as links
use Rattle.ucon_links.specs.Dependents.{Stood, Place, Dependents, place_at, empty_place, is_there, has_session, one_if, remove_at, remove}
use Rattle.ucon_links.specs.Dependents as model
use Rattle.ucon_links.specs.Tables.{stood_at, places_from, sessions_of, seen, IsPaired, IsSound, IsGone, AreGone}
use Rattle.ucon_links.specs.OneList.{PlaceLaw}
use Rattle.ucon_links.proofs.Rows.{places-length}
use Rattle.ucon_links.proofs.Sums.{sum_set}
use Rattle.ucon_links.proofs.Standing.{sessions_in, Alone, absent_left, without-there, without-absent, has_session-there, has_session-absent}
use Rattle.ucon_links.proofs.IndexSteps.{unlink_is, place_before, paired_unlinked, places_unlinked, alone_there}
use Rattle.ucon_links.proofs.Stack.{owners_absent, lists_absent, are_gone_set, no_items-gone, there-within}
use Rattle.ucon_links.proofs.IndexHiding.{NextItem, no_first, fewer}

-- while a session is removed: to remove what is left gives what removing at once gives
pub record IsRemoving (session : ℕ) (first_places first_sessions places sessions : Lists) : Type 0 where
  pub paired : IsPaired places sessions
  pub within : session < length sessions.lists
  pub size : length sessions.lists ≡ length first_sessions.lists
  pub hidden : places.hidden ≡ first_places.hidden
  pub gone : AreGone (sessions_of places.hidden) (places_from 0 places.lists places.hidden)
  pub room : places.spare + model.nodes_of session (places_from 0 places.lists places.hidden) ≡ first_places.spare + model.nodes_of session (places_from 0 first_places.lists first_places.hidden)
  pub items_room : sessions.spare + model.nodes_of session (places_from 0 places.lists places.hidden) ≡ first_sessions.spare + model.nodes_of session (places_from 0 first_places.lists first_places.hidden)
  pub goal : map (remove_at session) (places_from 0 places.lists places.hidden) ≡ map (remove_at session) (places_from 0 first_places.lists first_places.hidden)

pub removing_begins : (session : ℕ) (places sessions : Lists) → IsSound places sessions → is_there session (places_from 0 places.lists places.hidden) ≡ true → IsRemoving session places sessions places sessions
removing_begins session places sessions sound there = record {
  paired = sound.paired;
  within = there-within session places sessions sound.paired there;
  size = refl;
  hidden = refl;
  gone = sound.gone;
  room = refl;
  items_room = refl;
  goal = refl;
}

module _ (law : PlaceLaw) (session item : ℕ) (first_places first_sessions places sessions : Lists) (apart : IsAbsent session (sessions_of places.hidden)) (work : IsRemoving session first_places first_sessions places sessions) (next : NextItem session item places sessions) (distinct : IsDistinct (nodes_of places)) (items_distinct : IsDistinct (nodes_of sessions)) where
  abbrev place : ℕ
  place = next.spot.place

  abbrev all : List Place
  all = places_from 0 places.lists places.hidden

  abbrev left_place : Place
  left_place = record { listed = next.spot.front ++ next.spot.back; hidden = stood_at place places.hidden }

  abbrev after_places : Lists
  after_places = record places { lists = set places.lists place (next.spot.front ++ next.spot.back); spare = places.spare + 1 }

  abbrev after_sessions : Lists
  after_sessions = record sessions { lists = set sessions.lists session next.rest; spare = sessions.spare + 1 }

  step_alone : Alone session next.spot.front next.spot.back (stood_at place places.hidden)
  step_alone = alone_there places sessions place session item next.node next.spot.front next.spot.back next.rest next.spot.within work.within work.paired next.spot.there next.there

  step_places : places_from 0 after_places.lists places.hidden ≡ set all place left_place
  step_places = places_unlinked places sessions place session item next.node next.spot.front next.spot.back next.rest next.spot.within work.within work.paired next.spot.there next.there

  step_before : place_at all place ≡ record { listed = next.spot.front ++ (next.node, session) ∷ next.spot.back; hidden = stood_at place places.hidden }
  step_before = place_before places.lists place next.spot.front ((next.node, session) ∷ next.spot.back) places.hidden next.spot.within next.spot.there

  short : place < length all
  short = subst (λ n. place < n) (sym (places-length 0 places.lists places.hidden)) next.spot.within

  step_goal : map (remove_at session) (places_from 0 after_places.lists places.hidden) ≡ map (remove_at session) all
  step_goal =
      ap (map (remove_at session)) step_places
      ∙ map-set_same (remove_at session) all place left_place empty_place
      (ap (λ xs. record { listed = xs; hidden = stood_at place places.hidden }) (without-absent session (next.spot.front ++ next.spot.back) (absent_left session next.spot.front next.spot.back (stood_at place places.hidden) step_alone))
      ∙ sym (ap (remove_at session) step_before ∙ ap (λ xs. record { listed = xs; hidden = stood_at place places.hidden }) (without-there session next.node next.spot.front next.spot.back step_alone.front_absent)))

  one_less : suc (model.nodes_of session (places_from 0 after_places.lists places.hidden)) ≡ model.nodes_of session all
  one_less =
      let weigh : Place → ℕ = λ p. one_if (has_session session p.listed) in
      let change = sum_set weigh all place left_place short in
      let is = ap (model.nodes_of session) step_places in
      let old : weigh (place_at all place) ≡ 1 = ap weigh step_before ∙ ap one_if (has_session-there session next.node next.spot.front next.spot.back) in
      let new : weigh left_place ≡ 0 = ap one_if (has_session-absent session (next.spot.front ++ next.spot.back) (absent_left session next.spot.front next.spot.back (stood_at place places.hidden) step_alone)) in
      omega arith

  step_gone : AreGone (sessions_of places.hidden) (places_from 0 after_places.lists places.hidden)
  step_gone =
      subst (AreGone (sessions_of places.hidden)) (sym step_places)
      (are_gone_set session (sessions_of places.hidden) all place left_place apart
      (λ other differs absent. fewer other next.spot.front next.spot.back next.node session (subst (λ (p : Place). IsAbsent other (sessions_in p.listed)) step_before absent))
      short work.gone)

  pub removed_places_is : links.unlink places next.node ≡ after_places
  removed_places_is = unlink_is places place next.node session next.spot.front next.spot.back next.spot.within next.spot.there distinct law

  pub removed_sessions_is : links.unlink sessions item ≡ after_sessions
  removed_sessions_is = unlink_is sessions session item next.node [] next.rest work.within next.there items_distinct law

  stepped : IsRemoving session first_places first_sessions after_places after_sessions
  stepped =
      let less = one_less in
      let room = work.room in
      let items_room = work.items_room in
      record {
        paired = paired_unlinked places sessions place session item next.node next.spot.front next.spot.back next.rest next.spot.within work.within work.paired next.spot.there next.there (places.spare + 1) (sessions.spare + 1) (lists_absent session places sessions work.paired (owners_absent session places.hidden apart));
        within = subst (λ n. session < n) (sym (length-set sessions.lists session next.rest)) work.within;
        size = length-set sessions.lists session next.rest ∙ work.size;
        hidden = work.hidden;
        gone = step_gone;
        room = omega arith;
        items_room = omega arith;
        goal = step_goal ∙ work.goal;
      }

  pub removing_goes_on : IsRemoving session first_places first_sessions (links.unlink places next.node) (links.unlink sessions item)
  removing_goes_on = subst (λ v. IsRemoving session first_places first_sessions v (links.unlink sessions item)) (sym removed_places_is) (subst (IsRemoving session first_places first_sessions after_places) (sym removed_sessions_is) stepped)

  pub one_removed_less : suc (length (list_at (links.unlink sessions item).lists session)) ≡ length (list_at sessions.lists session)
  one_removed_less =
      ap (λ v. suc (length (list_at v.lists session))) removed_sessions_is
      ∙ ap (λ xs. suc (length xs)) (get_or-set_same sessions.lists session next.rest [] work.within)
      ∙ sym (ap length next.there)

pub remove-gone : (session : ℕ) (places : List Place) → IsGone session places → map (remove_at session) places ≡ places
remove-gone session [] gone = refl
remove-gone session (place ∷ rest) gone =
    ap (λ xs. record { listed = xs; hidden = place.hidden } ∷ map (remove_at session) rest) (without-absent session place.listed gone.0) ∙ ap (λ ps. place ∷ ps) (remove-gone session rest gone.1)

pub no_nodes : (session : ℕ) (places : List Place) → IsGone session places → model.nodes_of session places ≡ 0
no_nodes session [] gone = refl
no_nodes session (place ∷ rest) gone =
    let whole = sum_by-cons (λ p. one_if (has_session session p.listed)) place rest in
    let first = ap one_if (has_session-absent session place.listed gone.0) in
    let later = no_nodes session rest gone.1 in
    omega arith

pub record Removed (session : ℕ) (first_places first_sessions places sessions : Lists) : Type 0 where
  pub sound : IsSound places sessions
  pub removed : seen places sessions ≡ remove (seen first_places first_sessions) session

pub removing_ends : (session : ℕ) (first_places first_sessions places sessions : Lists) → IsSound first_places first_sessions → IsRemoving session first_places first_sessions places sessions → None ≡ first_or None (list_at sessions.lists session) → Removed session first_places first_sessions places sessions
removing_ends session first_places first_sessions places sessions sound work none =
    let gone = no_items-gone session places sessions work.paired (no_first (list_at sessions.lists session) none) in
    let lists = sym (remove-gone session (places_from 0 places.lists places.hidden) gone) ∙ work.goal in
    let count = no_nodes session (places_from 0 places.lists places.hidden) gone in
    let room = work.room in
    let items_room = work.items_room in
    let stack = ap sessions_of work.hidden in
    let spare : min places.spare sessions.spare ≡ min first_places.spare first_sessions.spare + model.nodes_of session (places_from 0 first_places.lists first_places.hidden) = omega arith in
    let size = work.size in
    record {
      sound = record { paired = work.paired; gone = work.gone; hidden_once = subst (λ hs. IsDistinct (sessions_of hs)) (sym work.hidden) sound.hidden_once };
      removed = rw (stack, lists, size, spare);
    }
