use Rattle.std.proofs.Common.{◌≡◌, ◌+◌, ◌≤◌, length, drop}
use Rattle.std.specs.Prelude.{filter}
use Rattle.ucon_model.specs.Places.{attr_place}
use Rattle.ucon_model.specs.Views.{right_of}
use Rattle.ucon_check.specs.Sought.{is_read}
use Rattle.ucon_check.proofs.counted.attrs_read.Given as goal

abbrev pub invariant-loop-d : goal.invariant-loop-d
invariant-loop-d l = record {
  count : l.count + length (filter (λ d. is_read (right_of l.right) (attr_place d.side d.name)) (drop l.d-index l.attrs))
      ≡ length (filter (λ d. is_read (right_of l.right) (attr_place d.side d.name)) l.attrs);
  within : l.count ≤ l.d-index;
}
