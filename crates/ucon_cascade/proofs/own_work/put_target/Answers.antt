use Rattle.std.proofs.Common.{◌≡◌, ◌∙◌, [], List, true, false, sym, subst}
use Rattle.ucon_model.specs.Reach.{Location, target}
use Rattle.ucon_model.specs.Updates.{same_when}
use Rattle.ucon_model.specs.Views.{update_of}
use Rattle.ucon_state.specs.Shown.{shown}
use Rattle.ucon_cascade.specs.Putting.{GainsFirsts, StandsAt, StandsAtOne}
use Rattle.ucon_readers.specs.Readers.{first_of, readers_at}
use Rattle.ucon_cascade.proofs.Putting.{gains_none}
use Rattle.ucon_cascade.proofs.Targets.{gains_at, gains_one, no_target, nobody_at, one_target}
use Rattle.ucon_cascade.proofs.own_work.put_target.Goals as goal

pub returns-then-not-is_of-clause-members : goal.returns-then-not-is_of-clause-members
returns-then-not-is_of-clause-members c = λ row is.
    let s = shown c.args.state.now in
    let standing = readers_at c.args.readers.now in
    let first = first_of c.args.readers.now in
    let m = c.args.work.now.members in
    let other : same_when c.args.when (update_of c.args.u.now).when ≡ false = sym c.is_of.ensures ∙ c.if-not-is_of.true in
    subst (λ (locations : List Location). GainsFirsts first m m (StandsAtOne s standing locations)) (no_target row c.args.when (update_of c.args.u.now) other)
    (gains_none first m (StandsAtOne s standing []) (λ n none. none))

pub returns-in_default-clause-members : goal.returns-in_default-clause-members
returns-in_default-clause-members c = λ row is.
    let s = shown c.args.state.now in
    let standing = readers_at c.args.readers.now in
    let first = first_of c.args.readers.now in
    let m = c.args.work.now.members in
    let u = update_of c.args.u.now in
    let same : same_when c.args.when u.when ≡ true = sym c.is_of.ensures ∙ c.if-not-is_of.false in
    subst (λ (locations : List Location). GainsFirsts first m m (StandsAtOne s standing locations)) (one_target row c.args.when u same)
    (gains_one s standing first m m (target row u)
    (gains_none first m (StandsAt s standing (target row u)) (nobody_at s standing (target row u) (sym (c.place_of_session.ensures row is) ∙ c.in_default.is))))

pub returns-clause-members : goal.returns-clause-members
returns-clause-members c = λ row is.
    let s = shown c.args.state.now in
    let standing = readers_at c.args.readers.now in
    let first = first_of c.args.readers.now in
    let u = update_of c.args.u.now in
    let same : same_when c.args.when u.when ≡ true = sym c.is_of.ensures ∙ c.if-not-is_of.false in
    subst (λ (locations : List Location). GainsFirsts first c.args.work.now.members c.put.new.work.members (StandsAtOne s standing locations)) (one_target row c.args.when u same)
    (gains_one s standing first c.args.work.now.members c.put.new.work.members (target row u)
    (gains_at s standing first c.args.work.now.members c.put.new.work.members (target row u) c.in-Some.place (sym (c.place_of_session.ensures row is) ∙ c.in-Some.is) c.put.ensures.members))
