-- Lists of sessions under their leaders: who is in which, and who is its first.
use Rattle.std.specs.Prelude.{ℕ, zero, suc, min, Bool, false, nat_eq, List, [], ◌∷◌, Option, if◌then◌else◌}
use Rattle.std.specs.Option.{option_map_or}
use Rattle.ucon_collections.specs.Lists.{Members, is_joined, leader_in}
use Rattle.ucon_collections.specs.declared.table.Member.{Member}

-- whether the leader that is told is this one
abbrev pub is_of : ℕ → Option ℕ → Bool
is_of leader told = option_map_or (λ l. nat_eq l leader) told false

-- the sessions of a leader's list among these, the first of which has this number
abbrev pub members_from : ℕ → ℕ → List Member → List ℕ
members_from leader n [] = []
members_from leader n (row ∷ rows) =
    if is_of leader row.leader then n ∷ members_from leader (suc n) rows else members_from leader (suc n) rows

-- the members of a leader's list
abbrev pub members_in : Members → ℕ → List ℕ
members_in v leader = members_from leader zero v.rows

-- the least of a number and of these
abbrev pub least_of : ℕ → List ℕ → ℕ
least_of n [] = n
least_of n (m ∷ ms) = min m (least_of n ms)

-- the least member of the list in which session n is; n itself if it is in none
abbrev pub first_in : Members → ℕ → ℕ
first_in v n = option_map_or (λ leader. least_of n (members_in v leader)) (leader_in v n) n

-- who is in the list of a leader: the leader alone, until somebody joins it
abbrev pub led_by : Members → ℕ → List ℕ
led_by v leader = if is_joined v leader then members_in v leader else leader ∷ []
