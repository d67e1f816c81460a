-- Hiding a session, one node after another.
use Rattle.std.proofs.Common.{◌≡◌, ℕ, suc, ◌<◌, List, [], ◌∷◌, ◌++◌, length, set, map, Some, None, true, ◌⊎◌, inl, inr, refl, sym, ap, ◌∙◌, subst, length-set}
use Rattle.std.proofs.lemmas.List.{get_or-set_same}
use Rattle.std.proofs.Math.Seq.{map-set_same}
use Rattle.ucon_links.specs.Lists.{Item, Lists, first_or, last_or, list_at, nodes_of, IsAbsent, IsDistinct, IsListed}
use Rattle.ucon_links.specs.Lists as links
use Rattle.ucon_links.specs.Dependents.{Place, place_at, empty_place, is_there, hide_at, hide}
use Rattle.ucon_links.specs.Tables.{stood_at, places_from, on_top, sessions_of, seen, IsPaired, IsSound, IsGone, AreGone}
use Rattle.ucon_links.specs.OneList.{PlaceLaw}
use Rattle.ucon_links.proofs.Weights.{Spot, spot_of}
use Rattle.ucon_links.proofs.Rows.{stood_of, places-length}
use Rattle.ucon_links.proofs.Standing.{sessions_in, Alone, absent_left, hide_at-there, hide_at-absent}
use Rattle.ucon_links.proofs.IndexSteps.{item_of, hide_is, place_before, paired_hidden, places_hidden, alone_there}
use Rattle.ucon_links.proofs.Stack.{on_top-other, on_top-same, gone-not_there, there-not_hidden, are_gone_set, no_items-gone, there-within}

-- nothing is hidden yet, or the session is on top of the stack
abbrev pub HasBegun : ℕ → Lists → Lists → Type 0
HasBegun session first places = (places ≡ first) ⊎ (IsDistinct (nodes_of first) × (sessions_of places.hidden ≡ session ∷ sessions_of first.hidden))

-- while a session is hidden: to hide what is left gives what hiding at once gives
pub record IsHiding (session : ℕ) (first_places first_sessions places sessions : Lists) : Type 0 where
  pub paired : IsPaired places sessions
  pub within : session < length sessions.lists
  pub size : length sessions.lists ≡ length first_sessions.lists
  pub room : places.spare ≡ first_places.spare
  pub items_room : sessions.spare ≡ first_sessions.spare
  pub others : AreGone (sessions_of first_places.hidden) (places_from 0 places.lists places.hidden)
  pub begun : HasBegun session first_places places
  pub goal : map (hide_at session) (places_from 0 places.lists places.hidden) ≡ map (hide_at session) (places_from 0 first_places.lists first_places.hidden)

pub hiding_begins : (session : ℕ) (places sessions : Lists) → IsSound places sessions → is_there session (places_from 0 places.lists places.hidden) ≡ true → IsHiding session places sessions places sessions
hiding_begins session places sessions sound there = record {
  paired = sound.paired;
  within = there-within session places sessions sound.paired there;
  size = refl;
  room = refl;
  items_room = refl;
  others = sound.gone;
  begun = inl refl;
  goal = refl;
}

-- the session's next item, and its node
pub record NextItem (session item : ℕ) (places sessions : Lists) : Type 0 where
  pub node : ℕ
  pub rest : List (ℕ × ℕ)
  pub there : list_at sessions.lists session ≡ (item, node) ∷ rest
  pub spot : Spot places.lists node session

next_of : (session item : ℕ) (places sessions : Lists) (xs : List (ℕ × ℕ)) → list_at sessions.lists session ≡ xs → first_or None xs ≡ Some item → session < length sessions.lists → IsPaired places sessions → NextItem session item places sessions
next_of session item places sessions [] is first within paired = let no : ⊥ = cc in absurd no
next_of session item places sessions (x ∷ xs) is first within paired =
    let same : x.0 ≡ item = cc in
    subst (λ i. NextItem session i places sessions) same (record { node = x.1; rest = xs; there = is; spot = spot_of places.lists sessions.lists session x.0 x.1 xs paired.same within is })

pub next_item : (session item : ℕ) (places sessions : Lists) → IsPaired places sessions → session < length sessions.lists → Some item ≡ first_or None (list_at sessions.lists session) → NextItem session item places sessions
next_item session item places sessions paired within is = next_of session item places sessions (list_at sessions.lists session) refl (sym is) within paired

pub fewer : (other : ℕ) (xs ys : List (ℕ × ℕ)) (node s : ℕ) → IsAbsent other (sessions_in (xs ++ (node, s) ∷ ys)) → IsAbsent other (sessions_in (xs ++ ys))
fewer other [] ys node s absent = absent.1
fewer other (x ∷ xs) ys node s absent = (absent.0, fewer other xs ys node s absent.1)

module _ (law : PlaceLaw) (session item : ℕ) (first_places first_sessions places sessions : Lists) (apart : IsAbsent session (sessions_of first_places.hidden)) (work : IsHiding session first_places first_sessions places sessions) (next : NextItem session item places sessions) (distinct : IsDistinct (nodes_of places)) (items_distinct : IsDistinct (nodes_of sessions)) where
  abbrev after_places : Lists
  after_places = record places { lists = set places.lists next.spot.place (next.spot.front ++ next.spot.back); hidden = item_of next.spot.place next.node session next.spot.front next.spot.back ∷ places.hidden }

  abbrev after_sessions : Lists
  after_sessions = record sessions { lists = set sessions.lists session next.rest; hidden = item_of session item next.node [] next.rest ∷ sessions.hidden }

  step_alone : Alone session next.spot.front next.spot.back (stood_at next.spot.place places.hidden)
  step_alone = alone_there places sessions next.spot.place session item next.node next.spot.front next.spot.back next.rest next.spot.within work.within work.paired next.spot.there next.there

  step_places : places_from 0 after_places.lists after_places.hidden ≡ set (places_from 0 places.lists places.hidden) next.spot.place (record { listed = next.spot.front ++ next.spot.back; hidden = stood_of (item_of next.spot.place next.node session next.spot.front next.spot.back) ∷ stood_at next.spot.place places.hidden })
  step_places = places_hidden places sessions next.spot.place session item next.node next.spot.front next.spot.back next.rest next.spot.within work.within work.paired next.spot.there next.there

  step_before : place_at (places_from 0 places.lists places.hidden) next.spot.place ≡ record { listed = next.spot.front ++ (next.node, session) ∷ next.spot.back; hidden = stood_at next.spot.place places.hidden }
  step_before = place_before places.lists next.spot.place next.spot.front ((next.node, session) ∷ next.spot.back) places.hidden next.spot.within next.spot.there

  step_begun : HasBegun session first_places after_places
  step_begun =
      elim work.begun [
        | inl same ↦ inr (subst (λ v. IsDistinct (nodes_of v)) same distinct, ap (λ v. on_top session (sessions_of v.hidden)) same ∙ on_top-other session (sessions_of first_places.hidden) apart)
        | inr begun ↦ inr (begun.0, ap (on_top session) begun.1 ∙ on_top-same session (sessions_of first_places.hidden))
      ]

  step_goal : map (hide_at session) (places_from 0 after_places.lists after_places.hidden) ≡ map (hide_at session) (places_from 0 places.lists places.hidden)
  step_goal =
      ap (map (hide_at session)) step_places
      ∙ map-set_same (hide_at session) (places_from 0 places.lists places.hidden) next.spot.place _ empty_place
      (hide_at-absent session _ (absent_left session next.spot.front next.spot.back (stood_at next.spot.place places.hidden) step_alone)
      ∙ sym (ap (hide_at session) step_before ∙ hide_at-there session next.node next.spot.front next.spot.back (stood_at next.spot.place places.hidden) step_alone.front_absent))

  step_others : AreGone (sessions_of first_places.hidden) (places_from 0 after_places.lists after_places.hidden)
  step_others =
      let short : next.spot.place < length (places_from 0 places.lists places.hidden) = subst (λ n. next.spot.place < n) (sym (places-length 0 places.lists places.hidden)) next.spot.within in
      subst (AreGone (sessions_of first_places.hidden)) (sym step_places)
      (are_gone_set session (sessions_of first_places.hidden) (places_from 0 places.lists places.hidden) next.spot.place _ apart
      (λ other differs absent. fewer other next.spot.front next.spot.back next.node session (subst (λ place. IsAbsent other (sessions_in place.listed)) step_before absent))
      short work.others)

  pub step_places_is : links.hide places next.node ≡ after_places
  step_places_is = hide_is places next.spot.place next.node session next.spot.front next.spot.back next.spot.within next.spot.there distinct law

  pub step_sessions_is : links.hide sessions item ≡ after_sessions
  step_sessions_is = hide_is sessions session item next.node [] next.rest work.within next.there items_distinct law

  stepped : IsHiding session first_places first_sessions after_places after_sessions
  stepped = record {
    paired = paired_hidden places sessions next.spot.place session item next.node next.spot.front next.spot.back next.rest next.spot.within work.within work.paired next.spot.there next.there;
    within = subst (λ n. session < n) (sym (length-set sessions.lists session next.rest)) work.within;
    size = length-set sessions.lists session next.rest ∙ work.size;
    room = work.room;
    items_room = work.items_room;
    others = step_others;
    begun = step_begun;
    goal = step_goal ∙ work.goal;
  }

  pub hiding_goes_on : IsHiding session first_places first_sessions (links.hide places next.node) (links.hide sessions item)
  hiding_goes_on = subst (λ v. IsHiding session first_places first_sessions v (links.hide sessions item)) (sym step_places_is) (subst (IsHiding session first_places first_sessions after_places) (sym step_sessions_is) stepped)

  pub one_item_less : suc (length (list_at (links.hide sessions item).lists session)) ≡ length (list_at sessions.lists session)
  one_item_less =
      ap (λ v. suc (length (list_at v.lists session))) step_sessions_is
      ∙ ap (λ xs. suc (length xs)) (get_or-set_same sessions.lists session next.rest [] work.within)
      ∙ sym (ap length next.there)

-- where no pair of the session is left, hiding it changes nothing
pub hide-gone : (session : ℕ) (places : List Place) → IsGone session places → map (hide_at session) places ≡ places
hide-gone session [] gone = refl
hide-gone session (place ∷ rest) gone = ap (λ p. p ∷ map (hide_at session) rest) (hide_at-absent session place gone.0) ∙ ap (λ ps. place ∷ ps) (hide-gone session rest gone.1)

pub no_first : (xs : List (ℕ × ℕ)) → None ≡ first_or None xs → xs ≡ []
no_first [] none = refl
no_first (x ∷ xs) none = let no : ⊥ = cc in absurd no

pub record Hidden (session : ℕ) (first_places first_sessions places sessions : Lists) : Type 0 where
  pub sound : IsSound places sessions
  pub hidden : seen places sessions ≡ hide (seen first_places first_sessions) session
  pub distinct : IsDistinct (nodes_of first_places)

module _ (session : ℕ) (first_places first_sessions places sessions : Lists) (sound : IsSound first_places first_sessions) (there : is_there session (places_from 0 first_places.lists first_places.hidden) ≡ true) (work : IsHiding session first_places first_sessions places sessions) (none : None ≡ first_or None (list_at sessions.lists session)) where
  all_gone : IsGone session (places_from 0 places.lists places.hidden)
  all_gone = no_items-gone session places sessions work.paired (no_first (list_at sessions.lists session) none)

  all_begun : IsDistinct (nodes_of first_places) × (sessions_of places.hidden ≡ session ∷ sessions_of first_places.hidden)
  all_begun =
      elim work.begun [
        | inl same ↦ let no_more = gone-not_there session (places_from 0 first_places.lists first_places.hidden) (subst (λ v. IsGone session (places_from 0 v.lists v.hidden)) same all_gone) in let no : ⊥ = cc in absurd no
        | inr begun ↦ begun
      ]

  pub hiding_ends : Hidden session first_places first_sessions places sessions
  hiding_ends =
      let stack = all_begun.1 in
      let lists = sym (hide-gone session (places_from 0 places.lists places.hidden) all_gone) ∙ work.goal in
      let size = work.size in
      let room = work.room in
      let items_room = work.items_room in
      let apart = there-not_hidden session (sessions_of first_places.hidden) (places_from 0 first_places.lists first_places.hidden) sound.gone there in
      record {
        sound = record {
          paired = work.paired;
          gone = subst (λ hs. AreGone hs (places_from 0 places.lists places.hidden)) (sym stack) (all_gone, work.others);
          hidden_once = subst IsDistinct (sym stack) (apart, sound.hidden_once);
        };
        hidden = rw (stack, lists, size, room, items_room);
        distinct = all_begun.0;
      }
