use Rattle.std.proofs.Common.{subst, sym}
use Rattle.ucon_model.specs.declared.command.Command.{Command}
use Rattle.ucon_state.specs.Shown.{shown}
use Rattle.ucon_cascade.specs.Putting.{GainsFirsts, IsCommandWork}
use Rattle.ucon_readers.specs.Readers.{first_of, readers_at}
use Rattle.ucon_cascade.proofs.own_work.put_commanded.Goals as goal

pub returns-in-Set-clause-members : goal.returns-in-Set-clause-members
returns-in-Set-clause-members c =
    subst (λ (command : Command). GainsFirsts (first_of c.args.readers.now) c.args.work.now.members c.put_attribute.new.work.members (IsCommandWork (shown c.args.state.now) (readers_at c.args.readers.now) command))
    (sym c.in-Set.is) c.put_attribute.ensures.members

pub returns-in-Env-clause-members : goal.returns-in-Env-clause-members
returns-in-Env-clause-members c =
    subst (λ (command : Command). GainsFirsts (first_of c.args.readers.now) c.args.work.now.members c.put_variable.new.work.members (IsCommandWork (shown c.args.state.now) (readers_at c.args.readers.now) command))
    (sym c.in-Env.is) c.put_variable.ensures.members

pub returns-in-Beat-clause-members : goal.returns-in-Beat-clause-members
returns-in-Beat-clause-members c =
    subst (λ (command : Command). GainsFirsts (first_of c.args.readers.now) c.args.work.now.members c.put_targets.new.work.members (IsCommandWork (shown c.args.state.now) (readers_at c.args.readers.now) command))
    (sym c.in-Beat.is) c.put_targets.ensures.members

pub returns-in-End-clause-members : goal.returns-in-End-clause-members
returns-in-End-clause-members c =
    subst (λ (command : Command). GainsFirsts (first_of c.args.readers.now) c.args.work.now.members c.put_targets-in-End.new.work.members (IsCommandWork (shown c.args.state.now) (readers_at c.args.readers.now) command))
    (sym c.in-End.is) c.put_targets-in-End.ensures.members

pub returns-in-Amend-clause-members : goal.returns-in-Amend-clause-members
returns-in-Amend-clause-members c =
    subst (λ (command : Command). GainsFirsts (first_of c.args.readers.now) c.args.work.now.members c.put_accessing.new.work.members (IsCommandWork (shown c.args.state.now) (readers_at c.args.readers.now) command))
    (sym c.in-Amend.is) c.put_accessing.ensures.members
