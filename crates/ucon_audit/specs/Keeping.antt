-- What is kept of a history without its entries.
use Rattle.std.specs.Prelude.{◌≡◌, length}
use Rattle.ucon_model.specs.Action.{Trace}
use Rattle.ucon_model.specs.History.{History, trace}
use Rattle.ucon_model.specs.Plain.{Bytes, PlainPolicy}
use Rattle.ucon_store.specs.Points.{text_in_force}
use Rattle.ucon_audit.specs.declared.keeping.Keeping.{Keeping}

-- This history is kept, under the policy of this text: the engine is as after its trace, and there are as many entries; and the text of the policy
-- in force behind them is kept.
pub record Keeps {E : Type 0} (follows : E → PlainPolicy → Trace → Type 0) (kept : Keeping E) (text : Bytes) (P : PlainPolicy) (H : History) : Type 0 where
  pub stands : follows kept.engine P (trace P H)
  pub count : kept.entries ≡ length H
  pub in_force : kept.in_force.items ≡ text_in_force text H
