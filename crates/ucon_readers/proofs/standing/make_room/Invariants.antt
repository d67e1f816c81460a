use Rattle.std.proofs.Common.{◌≡◌, ◌<◌, ℕ, length, take}
use Rattle.std.specs.List.{All}
use Rattle.ucon_links.specs.Dependents.{is_there, stands_in}
use Rattle.ucon_readers.proofs.standing.make_room.Given as goal

abbrev pub invariant-loop-place : goal.invariant-loop-place
invariant-loop-place l = record {
  stands : (place : ℕ) → stands_in l.index place ≡ stands_in l.initial.index place;
  hidden : l.index.hidden ≡ l.initial.index.hidden;
  there : (leader : ℕ) → is_there leader l.index.places ≡ is_there leader l.initial.index.places;
  exist : All (λ place. place < length l.index.places) (take l.place-index l.places);
}
