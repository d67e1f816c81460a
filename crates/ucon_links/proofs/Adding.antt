-- Adding a session, one place after another.
use Rattle.std.proofs.Common.{◌≡◌, ◌≢◌, ℕ, zero, suc, ◌+◌, ◌-◌, ◌<◌, List, [], ◌∷◌, ◌++◌, length, set, min, take, get_or, None, false, refl, sym, ap, ◌∙◌, subst, arith, length-set}
use Rattle.std.proofs.lemmas.List.{get_or-set_other}
use Rattle.ucon_links.specs.Lists.{Item, Lists, list_at, link_behind, IsAbsent, IsDistinct}
use Rattle.ucon_links.specs.Dependents.{Place, Dependents, place_at, is_there, at_front, IsAdded}
use Rattle.ucon_links.specs.Tables.{stood_at, places_from, sessions_of, seen, IsPaired, IsSound, AreGone}
use Rattle.ucon_links.proofs.Rows.{seen_at, places-length, places-at, each_at}
use Rattle.ucon_links.proofs.Standing.{sessions_in, Alone}
use Rattle.ucon_links.proofs.IndexSteps.{place_once, places_come, paired_come, can_return-other}
use Rattle.ucon_links.proofs.Stack.{owners_absent, stood_absent, lists_absent, are_gone_set, not_there-gone}

-- while a session is added: so many of its places have it
pub record IsAdding (session : ℕ) (added : List ℕ) (first_places first_sessions places sessions : Lists) : Type 0 where
  pub paired : IsPaired places sessions
  pub size : length sessions.lists ≡ length first_sessions.lists
  pub count : length places.lists ≡ length first_places.lists
  pub hidden : places.hidden ≡ first_places.hidden
  pub room : places.spare ≡ first_places.spare - length added
  pub items_room : sessions.spare ≡ first_sessions.spare - length added
  pub gone : AreGone (sessions_of places.hidden) (places_from 0 places.lists places.hidden)
  pub is_added : IsAdded (seen first_places first_sessions) session added (seen places sessions)
  pub untouched : (place : ℕ) → IsAbsent place added → list_at places.lists place ≡ list_at first_places.lists place

pub adding_begins : (session : ℕ) (places sessions : Lists) → IsSound places sessions → IsAdding session [] places sessions places sessions
adding_begins session places sessions sound = record {
  paired = sound.paired;
  size = refl;
  count = refl;
  hidden = refl;
  room = omega arith;
  items_room = omega arith;
  gone = sound.gone;
  is_added = refl;
  untouched = λ place absent. refl;
}

IsAdded-push : (v : Dependents) (session : ℕ) (added : List ℕ) (mid : Dependents) (place node : ℕ) → IsAdded v session added mid → IsAdded v session (added ++ place ∷ []) (at_front mid place node session)
IsAdded-push v session [] mid place node adds = (node, ap (λ w. at_front w place node session) adds)
IsAdded-push v session (first ∷ rest) mid place node adds = (adds.0, IsAdded-push (at_front v first adds.0 session) session rest mid place node adds.1)

-- a place that isn't among the first ones
pub place_is_new : (places : List ℕ) (i : ℕ) → i < length places → IsDistinct places → IsAbsent (get_or places i 0) (take i places)
place_is_new [] i within distinct = absurd (omega arith)
place_is_new (first ∷ rest) zero within distinct = tt
place_is_new (first ∷ rest) (suc i) within distinct = (λ e. differs rest i first (omega arith) distinct.0 (sym e), place_is_new rest i (omega arith) distinct.1)
  where
    differs : (xs : List ℕ) (i first : ℕ) → i < length xs → IsAbsent first xs → get_or xs i 0 ≢ first
    differs [] i first within absent = absurd (omega arith)
    differs (x ∷ xs) zero first within absent = absent.0
    differs (x ∷ xs) (suc i) first within absent = differs xs i first (omega arith) absent.1

module _ (session place node item : ℕ) (added : List ℕ) (first_places first_sessions places sessions : Lists) (place_within : place < length first_places.lists) (within : session < length first_sessions.lists) (not_there : is_there session (places_from 0 first_places.lists first_places.hidden) ≡ false) (not_hidden : IsAbsent session (sessions_of first_places.hidden)) (is_new : IsAbsent place added) (work : IsAdding session added first_places first_sessions places sessions) where
  abbrev all : List Place
  all = places_from 0 places.lists places.hidden

  abbrev xs : List (ℕ × ℕ)
  xs = list_at places.lists place

  here : place < length places.lists
  here = subst (λ n. place < n) (sym work.count) place_within

  here_session : session < length sessions.lists
  here_session = subst (λ n. session < n) (sym work.size) within

  absent_owners : IsAbsent session (sessions_of places.hidden)
  absent_owners = subst (λ (hs : List Item). IsAbsent session (sessions_of hs)) (sym work.hidden) not_hidden

  not_here : IsAbsent session (sessions_in xs)
  not_here =
      let P : Place → Type 0 = λ p. IsAbsent session (sessions_in p.listed) in
      let before = places-at 0 first_places.lists first_places.hidden place place (omega arith) place_within in
      let short : place < length (places_from 0 first_places.lists first_places.hidden) = subst (λ n. place < n) (sym (places-length 0 first_places.lists first_places.hidden)) place_within in
      let gone = each_at P (places_from 0 first_places.lists first_places.hidden) place short (not_there-gone session (places_from 0 first_places.lists first_places.hidden) not_there) in
      subst (λ ys. IsAbsent session (sessions_in ys)) (sym (work.untouched place is_new)) (subst P before gone)

  alone_new : Alone session [] xs (stood_at place places.hidden)
  alone_new = record {
    front_absent = tt;
    back_absent = not_here;
    hidden_absent = stood_absent session place places.hidden (owners_absent session places.hidden absent_owners);
    others = place_once places.lists place [] xs places.hidden here refl work.paired.once;
  }

  abbrev after_places : Lists
  after_places = link_behind places place None node session

  abbrev after_sessions : Lists
  after_sessions = link_behind sessions session None item node

  abbrev new_place : Place
  new_place = record { listed = (node, session) ∷ xs; hidden = stood_at place places.hidden }

  step_places : places_from 0 after_places.lists places.hidden ≡ set all place new_place
  step_places = places_come places sessions place session item node [] xs places.hidden sessions.hidden (places.spare - 1) (sessions.spare - 1) here here_session refl alone_new (λ other differs. refl)

  step_seen : seen after_places after_sessions ≡ at_front (seen places sessions) place node session
  step_seen =
      let before = places-at 0 places.lists places.hidden place place (omega arith) here in
      let size = length-set sessions.lists session ((item, node) ∷ list_at sessions.lists session) in
      let spare : min (places.spare - 1) (sessions.spare - 1) ≡ min places.spare sessions.spare - 1 = omega arith in
      let pair : ℕ × ℕ = (node, session) in
      let now : place_at all place ≡ seen_at place xs places.hidden = before in
      let lists : places_from 0 after_places.lists places.hidden ≡ set all place (record { listed = pair ∷ (place_at all place).listed; hidden = (place_at all place).hidden }) =
      step_places ∙ ap (λ (p : Place). set all place (record { listed = pair ∷ p.listed; hidden = p.hidden })) (sym now) in
      rw (lists, size, spare)

  pub adding_goes_on : IsAdding session (added ++ place ∷ []) first_places first_sessions after_places after_sessions
  adding_goes_on =
      let room = work.room in
      let items_room = work.items_room in
      let more = one_more added place in
      let short : place < length all = subst (λ n. place < n) (sym (places-length 0 places.lists places.hidden)) here in
      let before = places-at 0 places.lists places.hidden place place (omega arith) here in
      record {
        paired = paired_come places sessions place session item node [] xs places.hidden sessions.hidden (places.spare - 1) (sessions.spare - 1) here here_session refl alone_new work.paired (λ other differs. refl) work.paired.in_step
            (can_return-other sessions.lists sessions.hidden session _ (lists_absent session places sessions work.paired (owners_absent session places.hidden absent_owners)) work.paired.can_return)
            work.paired.in_places;
        size = length-set sessions.lists session _ ∙ work.size;
        count = length-set places.lists place _ ∙ work.count;
        hidden = work.hidden;
        room = omega arith;
        items_room = omega arith;
        gone = subst (AreGone (sessions_of places.hidden)) (sym step_places)
            (are_gone_set session (sessions_of places.hidden) all place new_place absent_owners
            (λ other differs absent. (λ e. differs (sym e), subst (λ (p : Place). IsAbsent other (sessions_in p.listed)) before absent))
            short work.gone);
        is_added = subst (IsAdded (seen first_places first_sessions) session (added ++ place ∷ [])) (sym step_seen) (IsAdded-push (seen first_places first_sessions) session added (seen places sessions) place node work.is_added);
        untouched = λ other absent. get_or-set_other places.lists place other _ [] (apart added other place absent) ∙ work.untouched other (front added other place absent);
      }
    where
      one_more : (xs : List ℕ) (x : ℕ) → length (xs ++ x ∷ []) ≡ length xs + 1
      one_more [] x = omega arith
      one_more (y ∷ ys) x = let rest = one_more ys x in omega arith

      apart : (xs : List ℕ) (other x : ℕ) → IsAbsent other (xs ++ x ∷ []) → other ≢ x
      apart [] other x absent = λ e. absent.0 (sym e)
      apart (y ∷ ys) other x absent = apart ys other x absent.1

      front : (xs : List ℕ) (other x : ℕ) → IsAbsent other (xs ++ x ∷ []) → IsAbsent other xs
      front [] other x absent = tt
      front (y ∷ ys) other x absent = (absent.0, front ys other x absent.1)

pub adding_ends : (session : ℕ) (added : List ℕ) (first_places first_sessions places sessions : Lists) → IsSound first_places first_sessions → IsAdding session added first_places first_sessions places sessions → IsSound places sessions
adding_ends session added first_places first_sessions places sessions sound work = record { paired = work.paired; gone = work.gone; hidden_once = subst (λ (hs : List Item). IsDistinct (sessions_of hs)) (sym work.hidden) sound.hidden_once }
