use Rattle.std.proofs.Common.{[], List, sym, subst}
use Rattle.ucon_model.specs.Reach.{Location}
use Rattle.ucon_state.specs.Shown.{shown}
use Rattle.ucon_cascade.specs.Putting.{GainsFirsts, StandsAtOne}
use Rattle.ucon_readers.specs.Readers.{first_of, readers_at}
use Rattle.ucon_cascade.proofs.Putting.{gains_none}
use Rattle.ucon_cascade.proofs.own_work.put_targets.Goals as goal

pub returns-then-has_no_update-clause-members : goal.returns-then-has_no_update-clause-members
returns-then-has_no_update-clause-members c =
    let s = shown c.args.state.now in
    let standing = readers_at c.args.readers.now in
    let first = first_of c.args.readers.now in
    let m = c.args.work.now.members in
    subst (λ (locations : List Location). GainsFirsts first m m (StandsAtOne s standing locations)) (sym (c.has_no_update.ensures c.if-has_no_update.true c.args.when))
    (gains_none first m (StandsAtOne s standing []) (λ n none. none))
