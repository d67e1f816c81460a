-- Lines that are answered together, and payloads that are added together.
use Rattle.std.specs.Prelude.{◌≡◌, ◌++◌, List, [], ◌∷◌, Some, if◌then◌else◌}
use Rattle.ucon_model.specs.declared.command.Entry.{Entry}
use Rattle.ucon_model.specs.Found.{Takes}
use Rattle.ucon_model.specs.History.{History, said, changes, grown}
use Rattle.ucon_model.specs.Plain.{Bytes, PlainPolicy}

-- these payloads are taken one after the other, and lead from one history to another
abbrev pub AreTaken : Takes → Bytes → PlainPolicy → History → List Bytes → History → Type 0
AreTaken takes text P H [] later = H ≡ later
AreTaken takes text P H (payload ∷ payloads) later = (mid : History) × (takes text P H payload ≡ Some mid) × AreTaken takes text P mid payloads later

-- a history with those of these lines whose replies change something, each after the lines before it
abbrev pub grown_all : PlainPolicy → History → List Entry → History
grown_all P H [] = H
grown_all P H (e ∷ lines) = grown_all P (grown P H e) lines

-- those lines alone
abbrev pub changing : PlainPolicy → History → List Entry → List Entry
changing P H [] = []
changing P H (e ∷ lines) = if changes (said P H e.caller e.command) then e ∷ changing P (H ++ e ∷ []) lines else changing P H lines
