-- What was put is the printing, and the printing of a policy spells it.
use Rattle.std.proofs.Common.{rules, ◌≡◌, sym, subst}
use Rattle.ucon_model.specs.Views.{policy_of}
use Rattle.ucon_model.specs.Printing.{policy_printing}
use Rattle.ucon_model.specs.Spells.{Spells}
use Rattle.ucon_print.proofs.Policies.{printed_spells}
use Rattle.ucon_print.proofs.policy.policy_text.Goals as goal

pub returns-clause-read_back : goal.returns-clause-read_back
returns-clause-read_back c =
    let put : c.put_rights.new.out.items ≡ policy_printing (policy_of c.args.policy.now) = search rules in
    λ is. subst (λ bs. Spells bs (policy_of c.args.policy.now)) (sym put) (printed_spells (policy_of c.args.policy.now) is)
