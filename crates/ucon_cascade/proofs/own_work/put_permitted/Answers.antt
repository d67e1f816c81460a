use Rattle.std.proofs.Common.{◌≡◌, subst, sym}
use Rattle.ucon_model.specs.declared.policy.When.TheVariants.{Before}
use Rattle.ucon_model.specs.declared.reply.Head.{Head}
use Rattle.ucon_state.specs.Shown.{shown}
use Rattle.ucon_cascade.specs.Putting.{GainsFirsts, IsPermitWork, StandsAtOne, targets_in}
use Rattle.ucon_readers.specs.Readers.{first_of, readers_at}
use Rattle.ucon_cascade.proofs.Putting.{gains_both}
use Rattle.ucon_cascade.proofs.own_work.put_permitted.Goals as goal

pub returns-clause-members : goal.returns-clause-members
returns-clause-members c =
    let s = shown c.args.state.now in
    let standing = readers_at c.args.readers.now in
    let first = first_of c.args.readers.now in
    let old = c.args.work.now.members in
    let new = c.put_first.new.work.members in
    subst (λ (head : Head). GainsFirsts first old new (IsPermitWork s standing head)) (sym c.in-Permitted.is)
    (gains_both first old c.put_targets.new.work.members new (StandsAtOne s standing (targets_in s c.in-Permitted.n Before)) (λ m. m ≡ c.in-Permitted.n)
    c.put_targets.ensures.members c.put_first.ensures.members)
