-- Who reads which place, who shares a judgement with whom, and what undoing gives.
use Rattle.std.specs.Prelude.{◌≡◌, ℕ, List, Some, None}
use Rattle.ucon_readers.specs.Listing.{ChangesGive, HoldsThose, IsKept as IsAtRest, Listing, readers_in}
use Rattle.ucon_readers.specs.Lists.{first_in}
use Rattle.ucon_readers.specs.declared.readers.Readers.{Readers}

-- who reads a place
abbrev pub readers_at : Readers → ℕ → List ℕ
readers_at r place = readers_in r.standing place

-- the first of the list in which session n is, who is judged for it; n itself if it is in none
abbrev pub first_of : Readers → ℕ → ℕ
first_of r n = first_in r.standing.lists.members n

-- ---- undoing

-- undoing gives what holds these: what was replaced, if something was, else what is there without its changes
pub data UndoGives (r : Readers) (standing : ℕ → List ℕ) (first : ℕ → ℕ) : Type 0 where
  by_changes : r.replaced ≡ None → ChangesGive r.standing standing first → UndoGives r standing first
  by_replaced : (before : Listing) → r.replaced ≡ Some before → IsAtRest before
      → HoldsThose before.lists.members before.index standing first → UndoGives r standing first

-- there is nothing to undo
pub record IsKept (r : Readers) : Type 0 where
  pub at_rest : IsAtRest r.standing
  pub none_replaced : r.replaced ≡ None
