-- A turn and its seats, as contracts see them.
use Rattle.std.specs.Prelude.{◌≡◌, ℕ, List, [], ◌∷◌}
use Rattle.atomic_table.specs.Seated.{TableId}

-- which turn it is: no two have the same
abbrev pub Which : Type 0
Which = TableId

-- a turn: which it is, and the value that was handed in
pub record Opening (E : Type 0) : Type 0 where
  pub turn : Which
  pub opened : E

-- What a seat knows: its turn; the value that was handed in there, alone in a list; its number; the list that it has seen; and the numbers that it
-- gave and that it took back, the last one first.
pub record Knowledge (E N : Type 0) : Type 0 where
  pub turn : Which
  pub opened : List E
  pub number : ℕ
  pub seen : List N
  pub given : List ℕ
  pub taken : List ℕ

-- it is a seat of this turn
abbrev pub IsSeatOf : {E N : Type 0} → Opening E → Knowledge E N → Type 0
IsSeatOf t k = (k.turn ≡ t.turn) × (k.opened ≡ t.opened ∷ [])
