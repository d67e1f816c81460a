-- An inbox as contracts see it: what was fed and what was taken.
use Rattle.std.specs.Prelude.{ℕ, Bool, true, false, List, [], ◌∷◌, ◌++◌, map}
use Rattle.atomic_table.specs.declared.badge.Badge.{Badge}
use Rattle.atomic_table.specs.Seated.{TableId}
use Rattle.crossbeam_channel.specs.declared.flavors.array.Key.{Key}
use Rattle.ucon_client.specs.declared.item.Item.{Item}
use Rattle.ucon_client.specs.declared.item.Item.TheVariants.{Line, End}
use Rattle.ucon_client.specs.declared.rule.Told.{Told}

module _ {T : Type 0} where
  -- no line and no end word
  abbrev pub nothing : Told T
  nothing = record { lines = []; ended = false }

  -- after one item more
  abbrev pub told_after : Told T → Item T → Told T
  told_after t (Line x) = record t { lines = t.lines ++ x ∷ [] }
  told_after t End = record t { ended = true }

  -- the end word alone, if it came
  abbrev pub end_word : Bool → List (Item T)
  end_word true = End ∷ []
  end_word false = []

  -- the lines, each as an item, and then the end word if it came
  abbrev pub items : Told T → List (Item T)
  items t = map Line t.lines ++ end_word t.ended

-- which inbox it is: no two have the same
abbrev pub Which : Type 0 → Type 0
Which T = TableId × Badge (Key (Item T))

-- what a feeder has fed into its inbox, and how many items the inbox has room for
pub record Fed (T : Type 0) : Type 0 where
  pub inbox : Which T
  pub fed : Told T
  pub room : ℕ

-- what a taker has taken from its inbox
pub record Taken (T : Type 0) : Type 0 where
  pub inbox : Which T
  pub taken : Told T
