use Rattle.std.proofs.Common.{subst, sym}
use Rattle.ucon_model.specs.Plain.{PlainPolicy}
use Rattle.ucon_state.specs.Following.{HaveOwnCells}
use Rattle.ucon_state.proofs.Following.Cells.{whose_cell}
use Rattle.ucon_state.proofs.Following.Keeping.{cell_stays}
use Rattle.ucon_state.proofs.laws.cells_are_of_one_attribute.Goals as goal

pub returns-clause-whose : goal.returns-clause-whose
returns-clause-whose c = λ s P T h.
    whose_cell s.policy s.tables (subst (λ (Q : PlainPolicy). HaveOwnCells Q s.tables) (sym h.policy) h.tables.entities.own_cells)

pub returns-clause-stay : goal.returns-clause-stay
returns-clause-stay c = cell_stays
