-- The readers, while sessions come one after the other.
use Rattle.std.specs.Prelude.{◌≡◌, ◌≢◌, ◌↔◌, ℕ, Some}
use Rattle.std.specs.List.{Contains}
use Rattle.ucon_model.specs.declared.session.SessionRow.{SessionRow}
use Rattle.ucon_model.specs.Usages.{going_on}
use Rattle.ucon_readers.specs.declared.readers.Readers.{Readers}
use Rattle.ucon_readers.specs.Listing.{StandsSomewhere}
use Rattle.ucon_readers.specs.Readers.{first_of, readers_at}
use Rattle.ucon_state.specs.Shown.{Shown}
use Rattle.ucon_state.specs.Tables.{session_in}
use Rattle.ucon_cascade.specs.Grouping.{AreGroupedBelow}
use Rattle.ucon_cascade.specs.Numbering.{AreNumbered, IsExactBelow, place_numbers}

-- each other that stands somewhere and whose usage goes on stands exactly where it reads, and each place that it reads has a number
abbrev pub StandAsTheyRead : Shown → Readers → ℕ → Type 0
StandAsTheyRead s r n =
    (m : ℕ) (row : SessionRow) → m ≢ n → StandsSomewhere (readers_at r) m → going_on (session_in s.tables m) ≡ Some row
    → AreNumbered s row × ((place : ℕ) → Contains (readers_at r place) m ↔ Contains (place_numbers s row) place)

-- the readers are right so far as the sessions below a number go
pub record AreReadBelow (s : Shown) (limit : ℕ) (r : Readers) : Type 0 where
  pub exact : IsExactBelow s (readers_at r) limit
  pub grouped : AreGroupedBelow s limit (first_of r)
