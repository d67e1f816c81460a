-- Who is put into the work.
use Rattle.std.specs.Prelude.{◌≡◌, ◌↔◌, ◌⊎◌, ◌<◌, ℕ, List, [], ◌∷◌, Some, IsSome}
use Rattle.std.specs.List.{All, Contains}
use Rattle.std.specs.Option.{option_map_or}
use Rattle.ucon_model.specs.declared.command.Command.{Command}
use Rattle.ucon_model.specs.declared.command.Command.TheVariants.{Set, Env, Beat, End, Amend}
use Rattle.ucon_model.specs.declared.policy.When.{When}
use Rattle.ucon_model.specs.declared.policy.When.TheVariants.{Before, During, AfterEnd}
use Rattle.ucon_model.specs.declared.reply.Head.{Head}
use Rattle.ucon_model.specs.declared.reply.Head.TheVariants as heads
use Rattle.ucon_model.specs.Reach.{Location, attribute_of, variable_of, targets}
use Rattle.ucon_model.specs.Updates.{updates_of}
use Rattle.ucon_model.specs.Usages.{going_on}
use Rattle.ucon_state.specs.Shown.{Shown}
use Rattle.ucon_state.specs.Tables.{session_in}
use Rattle.ucon_cascade.specs.Numbering.{place_number}

-- session n stands at the place where the value of a location is kept
pub record StandsAt (s : Shown) (standing : ℕ → List ℕ) (location : Location) (n : ℕ) : Type 0 where
  pub place : ℕ
  pub is : place_number s location ≡ Some place
  pub stands : Contains (standing place) n

-- session n stands at one of these
abbrev pub StandsAtOne : Shown → (ℕ → List ℕ) → List Location → ℕ → Type 0
StandsAtOne s standing [] n = ⊥
StandsAtOne s standing (location ∷ rest) n = StandsAt s standing location n ⊎ StandsAtOne s standing rest n

-- the work has its old members and those of these who are the first of their list, and no others
abbrev pub GainsFirsts : (ℕ → ℕ) → List ℕ → List ℕ → (ℕ → Type 0) → Type 0
GainsFirsts first old new Those = (n : ℕ) → Contains new n ↔ ((Those n × (first n ≡ n)) ⊎ Contains old n)

-- where session n's right in force writes at a time
abbrev pub targets_in : Shown → ℕ → When → List Location
targets_in s n when = option_map_or (λ row. targets row when (updates_of s.policy row)) (session_in s.tables n) []

-- whom a permit concerns: its session, and who stands where the updates before the usage wrote
abbrev pub IsPermitWork : Shown → (ℕ → List ℕ) → Head → ℕ → Type 0
IsPermitWork s standing (heads.Permitted k) n = (n ≡ k) ⊎ StandsAtOne s standing (targets_in s k Before) n
IsPermitWork s standing head n = ⊥

-- session n's usage goes on
abbrev pub GoesOn : Shown → ℕ → Type 0
GoesOn s n = IsSome (going_on (session_in s.tables n))

-- Whom else a command concerns: who stands where it wrote, or where the updates wrote that it ran during a usage or after its end; and whose usage
-- goes on if it replaced the policy. Whom a tick concerns its deadlines tell.
abbrev pub IsCommandWork : Shown → (ℕ → List ℕ) → Command → ℕ → Type 0
IsCommandWork s standing (Set side name attr v) n = StandsAt s standing (attribute_of side name attr) n
IsCommandWork s standing (Env name v) n = StandsAt s standing (variable_of name) n
IsCommandWork s standing (Beat k) n = StandsAtOne s standing (targets_in s k During) n
IsCommandWork s standing (End k) n = StandsAtOne s standing (targets_in s k AfterEnd) n
IsCommandWork s standing (Amend a) n = GoesOn s n
IsCommandWork s standing c n = ⊥

-- whom a command's own actions concern
abbrev pub IsOwnWork : Shown → (ℕ → List ℕ) → Command → Head → ℕ → Type 0
IsOwnWork s standing c head n = IsPermitWork s standing head n ⊎ IsCommandWork s standing c n

-- everybody who stands anywhere is below the limit
abbrev pub AllBelow : (ℕ → List ℕ) → ℕ → Type 0
AllBelow standing limit = (place : ℕ) → All (λ n. n < limit) (standing place)
