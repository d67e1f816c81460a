-- Attributes and their cells.
use Rattle.std.proofs.Common.{◌≡◌, sym, ap, refl, true, ℕ}
use Rattle.std.specs.Prelude.{Option, Some, None, is_some, option_and_then}
use Rattle.std.specs.Option.{option_map_or}
use Rattle.ucon_base.specs.declared.value.Side.{Side}
use Rattle.ucon_base.specs.declared.value.Value.{Value}
use Rattle.ucon_model.specs.Plain.{Bytes, PlainPolicy}
use Rattle.ucon_model.specs.declared.session.SessionRow.{SessionRow}
use Rattle.ucon_model.specs.Action.{write}
use Rattle.ucon_model.specs.Fitting.{AttributeAdmits}
use Rattle.ucon_model.specs.Updates.{entity_of}
use Rattle.ucon_state.specs.Tables.{Tables, CellAdmits, entity_number, cell_at, cell_of}
use Rattle.ucon_state.specs.Applied.{applied, with_cell}

-- the cell that is found by name
pub cell_named : (P : PlainPolicy) (t : Tables) (side : Side) (name attr : Bytes) (entity : ℕ) (o : Option ℕ) → entity_number t side name ≡ Some entity → cell_at P t side entity attr ≡ o
    → cell_of P t side name attr ≡ o
cell_named P t side name attr entity o found is = rw found is

-- a write into the cell found by name is one by name
pub write_into : (P : PlainPolicy) (t : Tables) (side : Side) (name attr : Bytes) (v : Value) (cell : ℕ) → cell_of P t side name attr ≡ Some cell
    → with_cell t cell v ≡ applied P (write side name attr v) t
write_into P t side name attr v cell is = sym (ap (λ (o : Option ℕ). option_map_or (λ cell. with_cell t cell v) o t) is)

pub write_applied : (P : PlainPolicy) (t : Tables) (side : Side) (name attr : Bytes) (v : Value) (entity cell : ℕ) → entity_number t side name ≡ Some entity → cell_at P t side entity attr ≡ Some cell
    → with_cell t cell v ≡ applied P (write side name attr v) t
write_applied P t side name attr v entity cell found is =
    write_into P t side name attr v cell (cell_named P t side name attr entity (Some cell) found is)

module _ (P : PlainPolicy) (t : Tables) (side : Side) (attr : Bytes) (cell : ℕ) where
  -- whose cell is found is there
  pub there_by_cell : (name : Bytes) → cell_of P t side name attr ≡ Some cell → is_some (entity_number t side name) ≡ true
  there_by_cell name = by (entity_number t side name)
    where
      by : (o : Option ℕ) → option_and_then (λ entity. cell_at P t side entity attr) o ≡ Some cell → is_some o ≡ true
      by None is = cc
      by (Some entity) is = refl

  -- the cell of a session's own admits what the attribute's declaration does
  pub own_admits : (v : Value) (o : Option SessionRow) → option_and_then (λ row. cell_of P t side (entity_of side row) attr) o ≡ Some cell → AttributeAdmits P side attr v
      → CellAdmits P t cell v
  own_admits v None is admitted = absurd cc
  own_admits v (Some row) is admitted = by (entity_number t side (entity_of side row)) is
    where
      by : (e : Option ℕ) → option_and_then (λ entity. cell_at P t side entity attr) e ≡ Some cell → CellAdmits P t cell v
      by None is = absurd cc
      by (Some entity) is = record { side = side; entity = entity; attr = attr; its_cell = is; fits = admitted }
