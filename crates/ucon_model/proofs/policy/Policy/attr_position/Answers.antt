use Rattle.std.proofs.Common.{◌∙◌, sym, ap, filter, position, arith}
use Rattle.std.specs.Str.{bytes_eq}
use Rattle.std.proofs.lemmas.Iterator.Adapters.{position_from-zero}
use Rattle.ucon_model.specs.Readings.{same_side}
use Rattle.ucon_model.proofs.policy.Policy.attr_position.Goals as goal

pub loop-d-init : goal.loop-d-init
loop-d-init c = (
  sym (position_from-zero (λ d. bytes_eq c.args.name.now d.name) (filter (λ d. same_side c.args.side d.side) c.slice-d-items.result.now))
      ∙ ap (λ ds. position (λ d. bytes_eq c.args.name.now d.name) (filter (λ d. same_side c.args.side d.side) ds)) c.slice-d-items.ensures,
  omega arith,
)
