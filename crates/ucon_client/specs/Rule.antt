-- The rule of an inbox.
use Rattle.std.specs.Prelude.{◌≡◌, ℕ, Bool, true, List, ◌++◌}
use mathlib.Core.Option.{some}
use lib.ListN.{get_elem?}
use Rattle.crossbeam_channel.specs.Claims.{Pass, view}
use Rattle.ucon_client.specs.declared.item.Item.{Item}
use Rattle.ucon_client.specs.declared.rule.Told.{Told}
use Rattle.ucon_client.specs.declared.rule.Known.{Known}
use Rattle.ucon_client.specs.Inbox.{Which, items}

module _ {T : Type 0} where
  -- what a pass knows
  abbrev pub known_by : Pass (Item T) (Known T) → Known T
  known_by pass = view pass

  -- the inbox of a pass
  abbrev pub inbox_of : Pass (Item T) (Known T) → Which T
  inbox_of pass = (pass.table_id, pass.me.0.of)

  -- what a pass may do, and what it has fed and taken
  abbrev pub known : Bool → Bool → Told T → Told T → Known T
  known feeds takes fed taken = record { feeds = feeds; takes = takes; fed = fed; taken = taken }

  -- one pass at most feeds, and it knows all that was fed; the same for what was taken
  abbrev pub Fits : ℕ → ℕ → Told T → Told T → ℕ → Known T → Type 0
  Fits feeder taker fed taken pass v = (v.feeds ≡ true → (pass ≡ feeder) × (v.fed ≡ fed)) × (v.takes ≡ true → (pass ≡ taker) × (v.taken ≡ taken))

  -- what was fed is what was taken and then what the inbox holds
  abbrev pub InOrder : List (Item T) → List (Known T) → Type 0
  InOrder held views = (feeder : ℕ) × (taker : ℕ) × (fed : Told T) × (taken : Told T) × (items fed ≡ items taken ++ held)
      × ((pass : ℕ) (v : Known T) → get_elem? views pass ≡ some v → Fits feeder taker fed taken pass v)
