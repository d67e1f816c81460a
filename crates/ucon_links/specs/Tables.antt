-- How two tables of lists hold the index. No public clause cites this module.
use Rattle.std.specs.Prelude.{◌≡◌, ℕ, suc, ◌+◌, ◌<◌, ◌==◌, min, List, [], ◌∷◌, ◌++◌, map, length, slice_set, Option, Some, None, if◌then◌else◌, ⊤}
use Rattle.ucon_base.specs.Elements.{Each}
use Rattle.ucon_links.specs.Layout.{InLists}
use Rattle.ucon_links.specs.Lists.{Item, Lists, first_or, list_at, IsAbsent, IsDistinct, IsGap}
use Rattle.ucon_links.specs.Dependents.{Stood, Place, Dependents}

-- the hidden nodes of a place
abbrev pub stood_at : ℕ → List Item → List Stood
stood_at place [] = []
stood_at place (item ∷ rest) =
    if item.list == place
    then record { node = item.node; session = item.owner; before = item.before; after = item.after } ∷ stood_at place rest
    else stood_at place rest

-- the places from this number on
abbrev pub places_from : ℕ → List (List (ℕ × ℕ)) → List Item → List Place
places_from place [] hidden = []
places_from place (xs ∷ rest) hidden = record { listed = xs; hidden = stood_at place hidden } ∷ places_from (suc place) rest hidden

-- the session on top of the others, if it isn't on top already
abbrev pub on_top : ℕ → List ℕ → List ℕ
on_top session [] = session ∷ []
on_top session (first ∷ rest) = if first == session then first ∷ rest else session ∷ first ∷ rest

-- the sessions of hidden nodes
abbrev pub sessions_of : List Item → List ℕ
sessions_of [] = []
sessions_of (item ∷ rest) = on_top item.owner (sessions_of rest)

-- what a clause sees
abbrev pub seen : Lists → Lists → Dependents
seen places sessions = record {
  places = places_from 0 places.lists places.hidden;
  hidden = sessions_of places.hidden;
  sessions = length sessions.lists;
  spare = min places.spare sessions.spare;
}

-- what the lists from this number on weigh
abbrev pub weight_from : (ℕ → List (ℕ × ℕ) → ℕ) → ℕ → List (List (ℕ × ℕ)) → ℕ
weight_from weigh list [] = 0
weight_from weigh list (xs ∷ rest) = weigh list xs + weight_from weigh (suc list) rest

-- what the nodes of a list weigh
abbrev pub weight_of : (ℕ × ℕ → ℕ) → List (ℕ × ℕ) → ℕ
weight_of weigh [] = 0
weight_of weigh (x ∷ xs) = weigh x + weight_of weigh xs

-- what the nodes of the places weigh with their sessions
abbrev pub by_place : (ℕ → ℕ → ℕ) → List (List (ℕ × ℕ)) → ℕ
by_place weight places = weight_from (λ place xs. weight_of (λ x. weight x.0 x.1) xs) 0 places

-- what the nodes that the sessions' items name weigh with their sessions
abbrev pub by_session : (ℕ → ℕ → ℕ) → List (List (ℕ × ℕ)) → ℕ
by_session weight sessions = weight_from (λ session xs. weight_of (λ x. weight x.1 session) xs) 0 sessions

-- hidden items can go back one after another, each to the front of its list
abbrev pub CanReturn : List (List (ℕ × ℕ)) → List Item → Type 0
CanReturn lists [] = ⊤
CanReturn lists (item ∷ rest) =
    (item.list < length lists) × (item.before ≡ None) × (item.after ≡ first_or None (list_at lists item.list))
    × CanReturn (slice_set lists item.list ((item.node, item.owner) ∷ list_at lists item.list)) rest

-- no session has two nodes at the place
abbrev pub IsOnce : Place → Type 0
IsOnce place = IsDistinct (map (λ x. x.1) place.listed ++ map (λ stood. stood.session) place.hidden)

abbrev pub IsGone : ℕ → List Place → Type 0
IsGone session places = Each (λ place. IsAbsent session (map (λ x. x.1) place.listed)) places

abbrev pub AreGone : List ℕ → List Place → Type 0
AreGone [] places = ⊤
AreGone (session ∷ rest) places = IsGone session places × AreGone rest places

-- the items of the sessions name the nodes of the places
pub record IsPaired (places sessions : Lists) : Type 0 where
  -- whatever the nodes weigh, both weigh the same, so both have the same nodes with the same sessions
  pub same : (weight : ℕ → ℕ → ℕ) → by_place weight places.lists ≡ by_session weight sessions.lists
  pub in_step : map {B = ℕ × ℕ} (λ item. (item.node, item.owner)) places.hidden ≡ map (λ item. (item.owner, item.list)) sessions.hidden
  pub can_return : CanReturn sessions.lists sessions.hidden
  pub in_places : InLists (length places.lists) places.hidden
  pub once : Each IsOnce (places_from 0 places.lists places.hidden)

-- the tables are paired, and a hidden session stands at no place and was hidden once
pub record IsSound (places sessions : Lists) : Type 0 where
  pub paired : IsPaired places sessions
  pub gone : AreGone (sessions_of places.hidden) (places_from 0 places.lists places.hidden)
  pub hidden_once : IsDistinct (sessions_of places.hidden)

abbrev pub newest_owner : List Item → Option ℕ
newest_owner [] = None
newest_owner (item ∷ rest) = Some item.owner

-- a node is hidden, and the neighbours of the newest stand next to each other
abbrev pub CanUnhideNewest : List (List (ℕ × ℕ)) → List Item → Type 0
CanUnhideNewest lists [] = ⊥
CanUnhideNewest lists (item ∷ rest) = IsGap item.before item.after (list_at lists item.list)
