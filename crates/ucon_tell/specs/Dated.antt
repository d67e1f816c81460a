-- What a voice over a sink told by which moment.
use Rattle.std.specs.Prelude.{◌≡◌, ◌⊎◌, refl, ℕ, List, [], ◌∷◌, Option, Some}
use Rattle.std.specs.Coded.{Coded, code_by, coded_list, coded_option, coded_ℕ, coded×}
use Rattle.ucon_flow.specs.Seen.{SinkSeen}
use Rattle.ucon_tell.specs.Seen.{KeeperSeen}

-- what a sink held, if it tells, and the moment of a keeper's disk
pub record Dated : Type 0 where
  pub held : Option (List ℕ)
  pub moment : ℕ

-- it is kept by the logic as these two
abbrev pub dated_code : Coded Dated
dated_code =
    code_by (Option (List ℕ) × ℕ)
    (coded× (coded_option (coded_list coded_ℕ)) coded_ℕ)
    (λ d. (d.held, d.moment))
    (λ p. record { held = p.0; moment = p.1 })
    (λ _. refl)

abbrev pub dated : SinkSeen → KeeperSeen → Dated
dated sink keeper = record { held = sink.contents; moment = keeper.moment }

-- one of the notes is of these bytes, and of this moment
abbrev pub IsTold : List Dated → List ℕ → ℕ → Type 0
IsTold [] bytes moment = ⊥
IsTold (d ∷ ds) bytes moment = ((d.held ≡ Some bytes) × (moment ≡ d.moment)) ⊎ IsTold ds bytes moment
