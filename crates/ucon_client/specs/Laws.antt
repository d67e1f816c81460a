-- What a step tells. Each statement is the contract of a law.
use Rattle.std.specs.Prelude.{◌≡◌, ◌≢◌, ◌↔◌, List, [], ◌∷◌, ◌++◌}
use Rattle.ucon_turn.specs.Lists.{Begins}
use Rattle.ucon_model.specs.declared.command.Entry.{Entry}
use Rattle.ucon_model.specs.LegalRun.{Answer, disk_fault, stopped}
use Rattle.ucon_store.specs.declared.event.Event.{Event}
use Rattle.ucon_store.specs.declared.event.Event.TheVariants.{Failed}
use Rattle.ucon_client.specs.Events.{marks_in}
use Rattle.ucon_client.specs.Clients.{Replies, Steps}

-- a line's answer is `disk fault` exactly if its step appended its mark
abbrev pub FaultsAreMarked : Type 0
FaultsAreMarked = (says : Replies) (line : Entry) (before after : List Event) (a : Answer) → Steps says line before after a
    → (a ≡ disk_fault) ↔ (after ≡ before ++ Failed line ∷ [])

-- a line of a client whose seat has seen a mark is stopped
abbrev pub AreStopped : Type 0
AreStopped = (says : Replies) (seen before after : List Event) (line : Entry) (a : Answer)
    → Begins seen before → Steps says line before after a → marks_in seen ≢ [] → a ≡ stopped
