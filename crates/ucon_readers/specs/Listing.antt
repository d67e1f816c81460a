-- Who stands at which place, in lists under their leaders, and what undoing gives.
use Rattle.std.specs.Prelude.{◌≡◌, ◌↔◌, ◌⊎◌, ℕ, false, true, List, [], length, Option, Some, None}
use Rattle.std.specs.List.{Contains, flat_map}
use Rattle.ucon_links.specs.Dependents.{Dependents, UnhideGives, is_there, remove, stands_in}
use Rattle.ucon_collections.specs.Lists.{Members, is_joined, leader_in}
use Rattle.ucon_collections.specs.Undoing.{IsKept as AreKept, Listed, UndoGives as ListsGive, who_in}
use Rattle.ucon_readers.specs.Lists.{first_in, led_by, members_in}

-- the lists, the leaders of which stand at the places, and the leader that was added
pub record Listing : Type 0 where
  pub lists : Listed
  pub index : Dependents
  pub added : Option ℕ

-- who stands at a place: who is in the lists of the leaders that stand there
abbrev pub standing_by : Members → Dependents → ℕ → List ℕ
standing_by lists index place = flat_map (led_by lists) (stands_in index place)

abbrev pub readers_in : Listing → ℕ → List ℕ
readers_in s place = standing_by s.lists.members s.index place

-- each list that has a member was joined, and its leader stands somewhere; and a leader that stands somewhere, and whose list wasn't joined,
-- is in no other
pub record AreLed (lists : Members) (index : Dependents) : Type 0 where
  pub there : (leader n : ℕ) → Contains (members_in lists leader) n → (is_there leader index.places ≡ true) × (is_joined lists leader ≡ true)
  pub alone : (leader : ℕ) → is_there leader index.places ≡ true → is_joined lists leader ≡ false → leader_in lists leader ≡ None

-- session n comes to these places, and stands there beside those who stood there
abbrev pub ComesTo : (old new : ℕ → List ℕ) → ℕ → List ℕ → Type 0
ComesTo old new n places = (m place : ℕ) → Contains (new place) m ↔ (((m ≡ n) × Contains places place) ⊎ Contains (old place) m)

-- session n stands at no place
abbrev pub StandsNowhere : (ℕ → List ℕ) → ℕ → Type 0
StandsNowhere standing n = (place : ℕ) → Contains (standing place) n → ⊥

-- session n stands at some place
abbrev pub StandsSomewhere : (ℕ → List ℕ) → ℕ → Type 0
StandsSomewhere standing n = (place : ℕ) × Contains (standing place) n

-- ---- undoing

-- taking out the leader that was added gives the second
abbrev pub TakingOutGives : Option ℕ → Dependents → Dependents → Type 0
TakingOutGives None v base = v ≡ base
TakingOutGives (Some n) v base = (is_there n v.places ≡ true) × (remove v n ≡ base)

-- these stand at each place, and have these firsts, and nobody is hidden
pub record HoldsThose (lists : Members) (index : Dependents) (standing : ℕ → List ℕ) (first : ℕ → ℕ) : Type 0 where
  pub stands : (place : ℕ) → standing_by lists index place ≡ standing place
  pub firsts : (n : ℕ) → first_in lists n ≡ first n
  pub led : AreLed lists index
  pub nobody_hidden : index.hidden ≡ []

-- Undoing each change of the lists and of the index gives some that hold these. An example: sessions 1 and 2 are in one list, whose leader 1 stands at
-- place 7. A step takes both out, so 1 is hidden in the index, and adds 3 there as the leader of a list of its own. Undoing shows 1 again (`unhiding`),
-- takes 3 out (`taking_out`), and puts 1 and 2 back into their list (`lists`). Both stand at place 7 as before, and 1 is the first of both (`holds`).
pub record ChangesGive (s : Listing) (standing : ℕ → List ℕ) (first : ℕ → ℕ) : Type 0 where
  pub before : Members
  pub unhidden : Dependents
  pub base : Dependents
  pub lists : ListsGive s.lists (who_in before)
  pub unhiding : UnhideGives (length s.index.hidden) s.index unhidden
  pub taking_out : TakingOutGives s.added unhidden base
  pub holds : HoldsThose before base standing first

-- there is nothing to undo
pub record IsKept (s : Listing) : Type 0 where
  pub led : AreLed s.lists.members s.index
  pub lists_kept : AreKept s.lists
  pub nobody_hidden : s.index.hidden ≡ []
  pub none_added : s.added ≡ None
