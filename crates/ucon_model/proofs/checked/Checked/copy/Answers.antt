use Rattle.std.proofs.Common.{sym, subst}
use Rattle.ucon_model.specs.Limits.{HasFewAttrs}
use Rattle.ucon_model.specs.Typing.{IsTyped}
use Rattle.ucon_model.proofs.checked.Checked.copy.Goals as goal

pub invariant_of-result : goal.invariant_of-result
invariant_of-result c = record {
  typed = subst IsTyped (sym c.in_ok-policy.ensures) c.args.self.now.typed;
  few = subst HasFewAttrs (sym c.in_ok-policy.ensures) c.args.self.now.few;
}
