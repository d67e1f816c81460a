use Rattle.std.proofs.Common.{◌≡◌, ◌↔◌, ◌++◌, ℕ, Some, take}
use Rattle.std.specs.List.{Contains}
use Rattle.ucon_links.specs.Lists.{IsDistinct}
use Rattle.ucon_model.specs.declared.session.SessionRow.{SessionRow}
use Rattle.ucon_state.specs.Shown.{shown}
use Rattle.ucon_state.specs.Tables.{session_in}
use Rattle.ucon_cascade.specs.Numbering.{HaveNumbers, numbers_of}
use Rattle.ucon_cascade.proofs.places.add_places.Given as goal

-- the numbers of the places so far are there, each once
abbrev pub invariant-loop-place : goal.invariant-loop-place
invariant-loop-place l = record {
  numbers : (row : SessionRow) → session_in (shown l.state).tables l.n ≡ Some row
      → (m : ℕ) → Contains l.numbers.items m ↔ Contains (l.initial.numbers.items ++ numbers_of (shown l.state) row (take l.place-index l.places)) m;
  distinct : IsDistinct l.numbers.items;
  all : (row : SessionRow) → session_in (shown l.state).tables l.n ≡ Some row → HaveNumbers (shown l.state) row (take l.place-index l.places);
}
