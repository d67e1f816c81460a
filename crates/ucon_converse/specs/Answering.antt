-- A store that answers lines, as contracts see it.
use Rattle.std.specs.Prelude.{refl, ℕ, List}
use Rattle.std.specs.Coded.{Coded, code_by, coded_list, coded_ℕ, coded×}
use Rattle.ucon_store.specs.Kept.{Kept, kept_code}
use Rattle.ucon_converse.specs.declared.points.Points.{Points}

-- the store; how many steps stood before each checkpoint that was made since it answers; and how many there were when one was last tried, or before
-- the checkpoint behind which the store begins
pub record Answering (D : Type 0) : Type 0 where
  pub store : Kept D
  pub made : List ℕ
  pub tried : ℕ

-- a store with what is known of its checkpoints
abbrev pub answering : {D : Type 0} → Kept D → Points → Answering D
answering s p = record { store = s; made = p.made; tried = p.tried }

-- it is kept by the logic as these three
abbrev pub answering_code : {D : Type 0} → Coded D → Coded (Answering D)
answering_code {D} code =
    code_by (Kept D × (List ℕ × ℕ))
    (coded× (kept_code code) (coded× (coded_list coded_ℕ) coded_ℕ))
    (λ a. (a.store, (a.made, a.tried)))
    (λ p. record { store = p.0; made = p.1.0; tried = p.1.1 })
    (λ _. refl)
