-- Places in lists that are seen another way.
use Rattle.std.proofs.Common.{◌≡◌, ℕ, List, map, option_map}
use Rattle.std.specs.List.{slice_get}
use Rattle.std.proofs.lemmas.Option.{slice_get-map}

-- what is seen at a place is how the item there is seen
pub place_of_view : {A : Type 0} {B : Type 0} (view : A → B) (xs : List A) (i : ℕ) → slice_get (map view xs) i ≡ option_map view (slice_get xs i)
place_of_view view xs i = slice_get-map view xs i
