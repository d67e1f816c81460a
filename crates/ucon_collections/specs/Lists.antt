-- Lists of sessions: who is in which, which were joined, and who stands next to whom.
use Rattle.std.specs.Prelude.{◌≡◌, ◌≢◌, ◌⊎◌, ◌<◌, ℕ, Bool, false, true, List, Option, Some, None, slice_get, ⊤}
use Rattle.std.specs.Option.{option_map_or}
use Rattle.ucon_collections.specs.declared.table.Member.{Member}
use Rattle.ucon_collections.specs.declared.table.Ends.{Ends}

-- the sessions by their numbers, and the lists by the numbers of their leaders
pub record Members : Type 0 where
  pub rows : List Member
  pub ends : List Ends

-- a session that is in no list
abbrev pub nobody : Member
nobody = record { leader = None; previous = None; next = None }

-- a list that wasn't joined
abbrev pub unjoined : Ends
unjoined = record { is_joined = false; first = None; last = None }

abbrev pub member_at : List Member → ℕ → Member
member_at rows n = option_map_or (λ row. row) (slice_get rows n) nobody

abbrev pub ends_at : List Ends → ℕ → Ends
ends_at ends leader = option_map_or (λ e. e) (slice_get ends leader) unjoined

-- the leader of the list in which a session is; none if it is in none
abbrev pub leader_in : Members → ℕ → Option ℕ
leader_in v n = (member_at v.rows n).leader

-- whether the list of a leader was joined
abbrev pub is_joined : Members → ℕ → Bool
is_joined v leader = (ends_at v.ends leader).is_joined

-- session n is in the list of this leader
abbrev pub IsLed : Members → ℕ → ℕ → Type 0
IsLed v leader n = leader_in v n ≡ Some leader

-- ---- in order

-- session n comes behind this one in an order, or, if there is none, it comes anywhere
abbrev pub IsPast : (ℕ → ℕ → Type 0) → Option ℕ → ℕ → Type 0
IsPast Before None n = ⊤
IsPast Before (Some m) n = Before m n

-- of those that come behind this one in an order it is the first; none if there is none
abbrev pub IsFirstPast : (ℕ → ℕ → Type 0) → (ℕ → Type 0) → Option ℕ → Option ℕ → Type 0
IsFirstPast Before Those at None = (n : ℕ) → Those n → IsPast Before at n → ⊥
IsFirstPast Before Those at (Some m) =
    Those m × IsPast Before at m × ((n : ℕ) → Those n → IsPast Before at n → Before n m → ⊥)

-- the lower session first
abbrev pub Below : ℕ → ℕ → Type 0
Below n m = n < m

-- the higher session first
abbrev pub Above : ℕ → ℕ → Type 0
Above n m = m < n

-- of those above this one it is the least, or of all of them
abbrev pub IsNext : (ℕ → Type 0) → Option ℕ → Option ℕ → Type 0
IsNext Those at next = IsFirstPast Below Those at next

-- of those below this one it is the greatest, or of all of them
abbrev pub IsPrevious : (ℕ → Type 0) → Option ℕ → Option ℕ → Type 0
IsPrevious Those at previous = IsFirstPast Above Those at previous

-- ---- who comes and goes

-- a session joined a leader's list, and the leader did so before it, if nobody had; all others stay where they were
pub record Joins (old new : Members) (leader session : ℕ) : Type 0 where
  pub itself : IsLed new leader session
  pub founder : is_joined old leader ≡ false → IsLed new leader leader
  pub others : (n : ℕ) → n ≢ session → (n ≢ leader) ⊎ (is_joined old leader ≡ true) → leader_in new n ≡ leader_in old n
  pub joined : is_joined new leader ≡ true
  pub lists : (l : ℕ) → l ≢ leader → is_joined new l ≡ is_joined old l

-- the list of a leader may have been joined by a session, and by the leader itself if it wasn't joined before, and no other was
pub record JoinsAtMost (old new : Members) (leader session : ℕ) : Type 0 where
  pub members : (l n : ℕ) → IsLed new l n
      → ((l ≡ leader) × (is_joined new leader ≡ true) × ((n ≡ session) ⊎ ((n ≡ leader) × (is_joined old leader ≡ false)))) ⊎ IsLed old l n
  pub joined : (l : ℕ) → is_joined old l ≡ true → is_joined new l ≡ true

-- a list that wasn't joined can be joined from here on, and all others stay as they were
pub record Opens (old new : Members) (leader : ℕ) : Type 0 where
  pub leaders : (n : ℕ) → leader_in new n ≡ leader_in old n
  pub joined : is_joined new leader ≡ true
  pub lists : (l : ℕ) → l ≢ leader → is_joined new l ≡ is_joined old l

-- a list was joined, by its leader too if nobody had joined it; all others stay where they were
pub record Founds (old new : Members) (leader : ℕ) : Type 0 where
  pub founder : is_joined old leader ≡ false → IsLed new leader leader
  pub others : (n : ℕ) → (n ≢ leader) ⊎ (is_joined old leader ≡ true) → leader_in new n ≡ leader_in old n
  pub joined : is_joined new leader ≡ true
  pub lists : (l : ℕ) → l ≢ leader → is_joined new l ≡ is_joined old l

-- a session comes into a list, and all others stay where they were
pub record Enters (old new : Members) (leader session : ℕ) : Type 0 where
  pub itself : IsLed new leader session
  pub others : (n : ℕ) → n ≢ session → leader_in new n ≡ leader_in old n
  pub joined : (l : ℕ) → is_joined new l ≡ is_joined old l

-- a session left its list, and all others stay where they were
pub record Leaves (old new : Members) (session : ℕ) : Type 0 where
  pub itself : leader_in new session ≡ None
  pub others : (n : ℕ) → n ≢ session → leader_in new n ≡ leader_in old n
  pub joined : (l : ℕ) → is_joined new l ≡ is_joined old l

-- everybody is where it was, and no more lists were joined
pub record AreSame (old new : Members) : Type 0 where
  pub leaders : (n : ℕ) → leader_in new n ≡ leader_in old n
  pub joined : (l : ℕ) → is_joined new l ≡ is_joined old l
