use Rattle.std.proofs.Common.{length, ap, drop, arith}
use Rattle.std.specs.Prelude.{map, filter}
use Rattle.std.proofs.lemmas.List.{length-append, length-map}
use Rattle.ucon_model.specs.Checked.{checked_policy}
use Rattle.ucon_model.specs.Readings.{attrs_of, same_side}
use Rattle.ucon_state.proofs.Amended.{width_few}
use Rattle.ucon_state.proofs.beginnings.attr_defaults.Goals as goal

pub returns-clause-few : goal.returns-clause-few
returns-clause-few c =
    let P = checked_policy c.args.checked.now in
    let rest = map (λ d. d.start) (filter (λ d. same_side c.args.side d.side) (drop c.loop-decl.decl-index P.attrs)) in
    omega (arith, ap (λ vs. length vs) c.loop-decl.invariant, length-append c.loop-decl.defaults.items rest, length-map (attrs_of P c.args.side) (λ d. d.start), width_few P c.policy.ensures.few c.args.side)
