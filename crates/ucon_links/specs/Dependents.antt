-- The dependency index: for each place the sessions that were added with it, and sessions hidden and put back.
use Rattle.std.specs.Prelude.{◌≡◌, ℕ, zero, suc, ◌+◌, ◌-◌, ◌==◌, ◌||◌, not, Bool, true, false, List, [], ◌∷◌, map, filter, length, sum_by, slice_get, ⊤}
use Rattle.std.specs.Prelude.{slice_set, slice_index_or, Option, Some, None, option_map, if◌then◌else◌}
use Rattle.ucon_base.specs.Elements.{Each}
use Rattle.ucon_links.specs.Lists.{Lists, first_or, place_of, with_behind, IsGap}

-- where a hidden session stood at a place: its node, and the nodes before and after it, none at an end of the list
pub record Stood : Type 0 where
  pub node : ℕ
  pub session : ℕ
  pub before : Option ℕ
  pub after : Option ℕ

-- a place: its nodes with their sessions, and where its hidden sessions stood, the one that was hidden last first
pub record Place : Type 0 where
  pub listed : List (ℕ × ℕ)
  pub hidden : List Stood

-- the places by number; the hidden sessions, the one that was hidden last first; the number below which sessions may be added; and for how many
-- more nodes there is room
pub record Dependents : Type 0 where
  pub places : List Place
  pub hidden : List ℕ
  pub sessions : ℕ
  pub spare : ℕ

abbrev pub empty_place : Place
empty_place = record { listed = []; hidden = [] }

abbrev pub place_at : List Place → ℕ → Place
place_at places place = slice_index_or places place empty_place

-- whether one of the nodes is the session's
abbrev pub has_session : ℕ → List (ℕ × ℕ) → Bool
has_session session [] = false
has_session session (x ∷ xs) = (x.1 == session) || has_session session xs

-- whether the session stands at one of the places
abbrev pub is_there : ℕ → List Place → Bool
is_there session [] = false
is_there session (place ∷ rest) = has_session session place.listed || is_there session rest

-- who stands at a place: the sessions that were added with it and aren't hidden, as a walk meets them
abbrev pub stands_in : Dependents → ℕ → List ℕ
stands_in v place = map (λ x. x.1) (place_at v.places place).listed

-- who stood at a place when it was hidden, the one that was hidden last first
abbrev pub stood_in : Dependents → ℕ → List ℕ
stood_in v place = map (λ stood. stood.session) (place_at v.places place).hidden

-- the sessions without this one
abbrev pub others : ℕ → List ℕ → List ℕ
others session sessions = filter (λ other. not (other == session)) sessions

-- the session was hidden last of all, and it stood at the place
pub record IsNextBack (v : Dependents) (place session : ℕ) : Type 0 where
  pub hidden_last : slice_get v.hidden 0 ≡ Some session
  pub stood : slice_get (stood_in v place) 0 ≡ Some session

-- the lists of the places, as a walk goes through them
abbrev pub walked : Dependents → Lists
walked v = record { lists = map (λ place. place.listed) v.places; hidden = []; spare = 0 }

abbrev pub stood_session : List Stood → ℕ → Option ℕ
stood_session [] node = None
stood_session (stood ∷ rest) node = if stood.node == node then Some stood.session else stood_session rest node

abbrev pub first_some : Option ℕ → Option ℕ → Option ℕ
first_some None other = other
first_some (Some session) other = Some session

abbrev pub hidden_session : List Place → ℕ → Option ℕ
hidden_session [] node = None
hidden_session (place ∷ rest) node = first_some (stood_session place.hidden node) (hidden_session rest node)

-- the session of a node that is listed or hidden
abbrev pub session_of : Dependents → ℕ → Option ℕ
session_of v node = first_some (option_map (λ item. item.owner) (place_of (walked v) node)) (hidden_session v.places node)

-- how many nodes are listed or hidden
abbrev pub node_count : Dependents → ℕ
node_count v = sum_by (λ place. length place.listed + length place.hidden) v.places

-- a node of the session comes to the front of a place
abbrev pub at_front : Dependents → ℕ → ℕ → ℕ → Dependents
at_front v place node session = record v {
  places = slice_set v.places place
      (record { listed = (node, session) ∷ (place_at v.places place).listed; hidden = (place_at v.places place).hidden });
  spare = v.spare - 1;
}

-- the session has a node of its own at the front of each of these places
abbrev pub IsAdded : Dependents → ℕ → List ℕ → Dependents → Type 0
IsAdded v session [] new = new ≡ v
IsAdded v session (place ∷ rest) new = (node : ℕ) × IsAdded (at_front v place node session) session rest new

-- where the session stands in the part of a place's list that is behind `before`
abbrev pub stands_behind : ℕ → Option ℕ → List (ℕ × ℕ) → Option Stood
stands_behind session before [] = None
stands_behind session before (x ∷ xs) =
    if x.1 == session
    then Some (record { node = x.0; session = x.1; before = before; after = first_or None xs })
    else stands_behind session (Some x.0) xs

-- a place's list without the session
abbrev pub without_session : ℕ → List (ℕ × ℕ) → List (ℕ × ℕ)
without_session session [] = []
without_session session (x ∷ xs) = if x.1 == session then xs else x ∷ without_session session xs

abbrev pub with_stood : ℕ → Place → Option Stood → Place
with_stood session place None = place
with_stood session place (Some stood) = record { listed = without_session session place.listed; hidden = stood ∷ place.hidden }

-- the session leaves a place, which keeps where it stood
abbrev pub hide_at : ℕ → Place → Place
hide_at session place = with_stood session place (stands_behind session None place.listed)

-- the session leaves all its places at once
abbrev pub hide : Dependents → ℕ → Dependents
hide v session = record v { places = map (hide_at session) v.places; hidden = session ∷ v.hidden }

abbrev pub back_at : ℕ → Place → List Stood → Place
back_at session place [] = place
back_at session place (stood ∷ rest) =
    if stood.session == session then record { listed = with_behind stood.before (stood.node, session) place.listed; hidden = rest } else place

-- the session goes back behind the node that stood before it, if it is the one that this place hid last
abbrev pub unhide_at : ℕ → Place → Place
unhide_at session place = back_at session place place.hidden

abbrev pub unhide_first : Dependents → List ℕ → Dependents
unhide_first v [] = v
unhide_first v (session ∷ rest) = record v { places = map (unhide_at session) v.places; hidden = rest }

-- the session that was hidden last goes back to all its places at once
abbrev pub unhide : Dependents → Dependents
unhide v = unhide_first v v.hidden

abbrev pub FitsAt : ℕ → Place → List Stood → Type 0
FitsAt session place [] = ⊤
FitsAt session place (stood ∷ rest) = stood.session ≡ session → IsGap stood.before stood.after place.listed

-- if the place hid this session last, the nodes that stood before and after it stand next to each other
abbrev pub Fits : ℕ → Place → Type 0
Fits session place = FitsAt session place place.hidden

abbrev pub CanUnhideFirst : List Place → List ℕ → Type 0
CanUnhideFirst places [] = ⊥
CanUnhideFirst places (session ∷ rest) = Each (Fits session) places

-- a session is hidden, and at each place of the one that was hidden last the nodes that stood before and after it stand next to each other
abbrev pub CanUnhide : Dependents → Type 0
CanUnhide v = CanUnhideFirst v.places v.hidden

-- so many of the sessions that were hidden last can be put back, and then all is as in the second
abbrev pub UnhideGives : ℕ → Dependents → Dependents → Type 0
UnhideGives zero v before = v ≡ before
UnhideGives (suc n) v before = CanUnhide v × UnhideGives n (unhide v) before

abbrev pub hide_all : Dependents → List ℕ → Dependents
hide_all v [] = v
hide_all v (session ∷ rest) = hide_all (hide v session) rest

-- each is there when its turn comes
abbrev pub AllThere : Dependents → List ℕ → Type 0
AllThere v [] = ⊤
AllThere v (session ∷ rest) = (is_there session v.places ≡ true) × AllThere (hide v session) rest

abbrev pub forget_at : Place → Place
forget_at place = record { listed = place.listed; hidden = [] }

-- nobody is hidden any more, and the hidden nodes make room
abbrev pub forget_hidden : Dependents → Dependents
forget_hidden v = record v { places = map forget_at v.places; hidden = []; spare = v.spare + sum_by (λ place. length place.hidden) v.places }

abbrev pub one_if : Bool → ℕ
one_if b = if b then 1 else 0

-- how many nodes a session has
abbrev pub nodes_of : ℕ → List Place → ℕ
nodes_of session places = sum_by (λ place. one_if (has_session session place.listed)) places

abbrev pub remove_at : ℕ → Place → Place
remove_at session place = record { listed = without_session session place.listed; hidden = place.hidden }

-- the session leaves all its places, and its nodes make room
abbrev pub remove : Dependents → ℕ → Dependents
remove v session = record v { places = map (remove_at session) v.places; spare = v.spare + nodes_of session v.places }
