use Rattle.ucon_point.proofs.PutInOrder.{whole_in_order}
use Rattle.ucon_point.proofs.laws.what_is_in_order_can_be_put.Goals as goal

pub returns : goal.returns
returns c = λ entries text h few policy tick since rows orderly. record {
  entries = few;
  policy = policy;
  tick = tick;
  from_zero = since;
  rows = rows;
  order = whole_in_order h orderly;
}
