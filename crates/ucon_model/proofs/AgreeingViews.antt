-- Readings that agree point by point are one.
use Rattle.std.proofs.Common.{◌≡◌}
use Rattle.ucon_model.specs.Truth.{Readings}
use Rattle.ucon_model.specs.History.{Agree}

pub agree_is_one : (R S : Readings) → Agree R S → R ≡ S
agree_is_one R S h = λ t. record {
  now = h.now t;
  row = λ n. h.row n t;
  at = λ row place. h.at row place t;
  done_at = λ s a o. h.done_at s a o t;
}
