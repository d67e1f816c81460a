-- What a draft has changed of the lists, and what undoing gives.
use Rattle.std.specs.Prelude.{◌≡◌, ℕ, ◌<◌, Bool, false, true, List, [], ◌∷◌, length, Option, Some, None, ◌==◌, if◌then◌else◌, ⊤}
use Rattle.ucon_collections.specs.Lists.{IsNext, IsPrevious, Members, is_joined, leader_in}
use Rattle.ucon_collections.specs.declared.lists.Change.{Change}
use Rattle.ucon_collections.specs.declared.lists.Change.TheVariants.{Founded, Joined, Left}

-- the members, and what was changed, the last change last
pub record Listed : Type 0 where
  pub members : Members
  pub changes : List Change

-- who is in which list, and which lists were joined
pub record Who : Type 0 where
  pub leader : ℕ → Option ℕ
  pub joined : ℕ → Bool

abbrev pub who_in : Members → Who
who_in v = record { leader = leader_in v; joined = is_joined v }

-- as it is, but for this session
abbrev pub with_leader : Who → ℕ → Option ℕ → Who
with_leader w session leader = record w { leader = λ n. if n == session then leader else w.leader n }

-- as it is, but for this list, which wasn't joined
abbrev pub without_list : Who → ℕ → Who
without_list w leader = record w { joined = λ l. if l == leader then false else w.joined l }

-- before a change
abbrev pub undone : Change → Who → Who
undone (Founded leader) w = without_list w leader
undone (Joined leader session) w = with_leader w session None
undone (Left leader session gap) w = with_leader w session (Some leader)

-- before all of these, of which the newest is the last
abbrev pub all_undone : List Change → Who → Who
all_undone [] w = w
all_undone (change ∷ changes) w = undone change (all_undone changes w)

-- What was changed can be changed back. A list that was founded counts as joined, and nobody is in it; a session that joined a list is in it. A
-- session that left a list is in none, is below this count, and fits a gap in the list that it left, which counts as joined.
abbrev pub CanUndo : Change → Who → ℕ → Type 0
CanUndo (Founded leader) w count = (w.joined leader ≡ true) × ((n : ℕ) → w.leader n ≡ Some leader → ⊥)
CanUndo (Joined leader session) w count = w.leader session ≡ Some leader
CanUndo (Left leader session gap) w count =
    (w.leader session ≡ None) × (w.joined leader ≡ true) × (session < count)
    × IsPrevious (λ n. w.leader n ≡ Some leader) (Some session) gap.previous × IsNext (λ n. w.leader n ≡ Some leader) (Some session) gap.next

-- each can be undone when its turn comes
abbrev pub CanUndoAll : List Change → Who → ℕ → Type 0
CanUndoAll [] w count = ⊤
CanUndoAll (change ∷ changes) w count = CanUndoAll changes w count × CanUndo change (all_undone changes w) count

-- undoing gives these: who was in which list, and which lists were joined
pub record UndoGives (l : Listed) (before : Who) : Type 0 where
  pub can : CanUndoAll l.changes (who_in l.members) (length l.members.rows)
  pub back : all_undone l.changes (who_in l.members) ≡ before

-- there is nothing to undo
abbrev pub IsKept : Listed → Type 0
IsKept l = l.changes ≡ []
