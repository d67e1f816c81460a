-- The journal of a history with checkpoints: its payloads, and where its checkpoints may stand.
use Rattle.std.specs.Prelude.{⊤, ℕ, ◌-◌, ◌≤◌, List, [], ◌∷◌, ◌++◌, take, drop}
use Rattle.ucon_model.specs.Found.{payloads_behind}
use Rattle.ucon_model.specs.History.{History}
use Rattle.ucon_model.specs.Plain.{Bytes, PlainPolicy}
use Rattle.ucon_store.specs.Points.{checkpoint}

-- places that rise, none below the first of these and none above the second; a place may stand more than once
abbrev pub ArePlaces : (first last : ℕ) → List ℕ → Type 0
ArePlaces first last [] = ⊤
ArePlaces first last (place ∷ places) = (first ≤ place) × (place ≤ last) × ArePlaces place last places

-- the entries of a history behind its first so many, up to this place
abbrev pub between : (before place : ℕ) → History → History
between before place H = take (place - before) (drop before H)

-- the payloads of a history's entries behind its first so many, and of a checkpoint after as many entries as each place says
abbrev pub pointed_behind : Bytes → PlainPolicy → History → ℕ → List ℕ → List Bytes
pointed_behind text P H before [] = payloads_behind P (take before H) (drop before H)
pointed_behind text P H before (place ∷ places) =
    payloads_behind P (take before H) (between before place H) ++ checkpoint text P (take place H) ∷ pointed_behind text P H place places

-- the payloads of a history's journal with checkpoints at these places: the policy's text, then the entries and the checkpoints
abbrev pub pointed_payloads : Bytes → PlainPolicy → History → List ℕ → List Bytes
pointed_payloads text P H places = text ∷ pointed_behind text P H 0 places
