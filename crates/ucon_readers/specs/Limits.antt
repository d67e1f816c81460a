-- Up to which tick the timed parts of what a right reads hold, and the first of these ticks.
use Rattle.std.specs.Prelude.{◌≡◌, ℤ, ◌≤ℤ◌, ◌++◌, List, filter, Option, Some, None}
use Rattle.std.specs.List.{Contains, flat_map}
use Rattle.ucon_model.specs.declared.session.SessionRow.{SessionRow}
use Rattle.ucon_model.specs.Deadlines.{limit_of}
use Rattle.ucon_model.specs.Decision.{ongoing}
use Rattle.ucon_model.specs.Plain.{PlainPredicate}
use Rattle.ucon_model.specs.Reach.{Timed, test_timed}
use Rattle.ucon_model.specs.Truth.{Readings}

-- the timed parts of those of these predicates that are ongoing
abbrev pub timed_parts : List PlainPredicate → List Timed
timed_parts preds = flat_map (λ p. test_timed p.test) (filter ongoing preds)

-- this is the last tick at which one of these timed parts holds for a session, and the tick isn't above it
pub record IsLimit (R : Readings) (row : SessionRow) (parts : List Timed) (limit : ℤ) : Type 0 where
  pub part : Timed
  pub one_of : Contains parts part
  pub is : limit_of R row part ≡ Some limit
  pub ahead : R.now ≤ℤ limit

-- it is such a limit, and isn't above any other; none if there is no limit
abbrev pub IsFirstLimit : Readings → SessionRow → List Timed → Option ℤ → Type 0
IsFirstLimit R row parts None = (limit : ℤ) → IsLimit R row parts limit → ⊥
IsFirstLimit R row parts (Some first) = IsLimit R row parts first × ((limit : ℤ) → IsLimit R row parts limit → first ≤ℤ limit)

-- the first limit of some timed parts gives way to that of those and of these
abbrev pub GivesWay : Readings → SessionRow → List Timed → (old new : Option ℤ) → Type 0
GivesWay R row these old new = (those : List Timed) → IsFirstLimit R row those old → IsFirstLimit R row (those ++ these) new
