-- The numbers of the places that sessions read: the variables, then the cells.
use Rattle.std.specs.Prelude.{◌≡◌, ℕ, ◌+◌, ◌^◌, ◌<◌, nat_lt, IsSome, List, length, Option, Some, None, option_map, if◌then◌else◌}
use Rattle.std.specs.List.{flat_map, Contains}
use Rattle.std.specs.Option.{option_to_list}
use Rattle.ucon_base.specs.Elements.{Each}
use Rattle.ucon_model.specs.declared.formula.Ref.{Ref}
use Rattle.ucon_model.specs.declared.session.SessionRow.{SessionRow}
use Rattle.ucon_model.specs.Reach.{Location, attribute_of, variable_of, location_of, places_of}
use Rattle.ucon_model.specs.Readings.{env_position}
use Rattle.ucon_model.specs.Usages.{going_on}
use Rattle.ucon_state.specs.Shown.{Shown}
use Rattle.ucon_state.specs.Tables.{cell_of, session_in}

-- a number, if 32 bits tell it
abbrev pub told : Option ℕ → Option ℕ
told None = None
told (Some n) = if nat_lt n (2 ^ 32) then Some n else None

-- the number of the place at which a value is kept; none if nothing is kept there, or 32 bits don't tell it
abbrev pub place_number : Shown → Location → Option ℕ
place_number s (variable_of name) = told (env_position s.policy name)
place_number s (attribute_of side name attr) = told (option_map (λ cell. length s.policy.envs + cell) (cell_of s.policy s.tables side name attr))

-- the numbers of these places for a session
abbrev pub numbers_of : Shown → SessionRow → List Ref → List ℕ
numbers_of s row places = flat_map (λ place. option_to_list (place_number s (location_of row place))) places

-- each of these places has a number for a session
abbrev pub HaveNumbers : Shown → SessionRow → List Ref → Type 0
HaveNumbers s row places = Each (λ place. IsSome (place_number s (location_of row place))) places

-- each place that the session reads has a number
abbrev pub AreNumbered : Shown → SessionRow → Type 0
AreNumbered s row = HaveNumbers s row (places_of s.policy row)

-- the numbers of the places that a session reads
abbrev pub place_numbers : Shown → SessionRow → List ℕ
place_numbers s row = numbers_of s row (places_of s.policy row)

-- session n's usage goes on, and reads the place with this number
pub record ReadsPlace (s : Shown) (n place : ℕ) : Type 0 where
  pub row : SessionRow
  pub is : going_on (session_in s.tables n) ≡ Some row
  pub reads : Contains (place_numbers s row) place

-- who stands at each place is who reads it, of the sessions below a number, and each place that one of these reads has a number
pub record IsExactBelow (s : Shown) (standing : ℕ → List ℕ) (limit : ℕ) : Type 0 where
  pub below : (n place : ℕ) → Contains (standing place) n → n < limit
  pub sound : (n place : ℕ) → Contains (standing place) n → ReadsPlace s n place
  pub complete : (n place : ℕ) → n < limit → ReadsPlace s n place → Contains (standing place) n
  pub numbered : (n : ℕ) (row : SessionRow) → n < limit → going_on (session_in s.tables n) ≡ Some row → AreNumbered s row

-- who stands at each place is who reads it, and each place that is read has a number
pub record IsExact (s : Shown) (standing : ℕ → List ℕ) : Type 0 where
  pub sound : (n place : ℕ) → Contains (standing place) n → ReadsPlace s n place
  pub complete : (n place : ℕ) → ReadsPlace s n place → Contains (standing place) n
  pub numbered : (n : ℕ) (row : SessionRow) → going_on (session_in s.tables n) ≡ Some row → AreNumbered s row
