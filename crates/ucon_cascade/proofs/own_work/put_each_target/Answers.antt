use Rattle.std.proofs.Common.{◌≡◌, ◌∙◌, ◌∷◌, [], List, Some, get_or, map, take, ap, sym, subst}
use Rattle.std.proofs.lemmas.List.{take_all}
use Rattle.ucon_model.specs.declared.policy.Update.{Update}
use Rattle.ucon_model.specs.declared.session.SessionRow.{SessionRow}
use Rattle.ucon_model.specs.Reach.{Location, targets}
use Rattle.ucon_model.specs.Views.{right_of, update_of}
use Rattle.ucon_state.specs.Shown.{shown}
use Rattle.ucon_state.specs.Tables.{session_in}
use Rattle.ucon_cascade.specs.Putting.{AllBelow, GainsFirsts, StandsAtOne}
use Rattle.ucon_readers.specs.Readers.{first_of, readers_at}
use Rattle.ucon_cascade.proofs.Putting.{gains_none}
use Rattle.ucon_cascade.proofs.Targets.{gains_more, targets_more, targets_of_right, targets_without_right}
use Rattle.ucon_cascade.proofs.own_work.put_each_target.Goals as goal

pub returns-in_default-clause-members : goal.returns-in_default-clause-members
returns-in_default-clause-members c =
    let s = shown c.args.state.now in
    let standing = readers_at c.args.readers.now in
    let first = first_of c.args.readers.now in
    let m = c.args.work.now.members in
    let told = rw c.in_default.is at c.right.ensures in
    subst (λ (locations : List Location). GainsFirsts first m m (StandsAtOne s standing locations)) (sym (targets_without_right s c.args.n c.args.when told))
    (gains_none first m (StandsAtOne s standing []) (λ n none. none))

pub loop-u-init : goal.loop-u-init
loop-u-init c = record {
  members = λ row is. gains_none (first_of c.args.readers.now) c.args.work.now.members (StandsAtOne (shown c.args.state.now) (readers_at c.args.readers.now) []) (λ n none. none);
  limit = search;
}

pub put_target-requires : goal.put_target-requires
put_target-requires c = subst (AllBelow (readers_at c.args.readers.now)) (sym c.loop-u.invariant.limit) c.requires

pub loop-u-preserved : goal.loop-u-preserved
loop-u-preserved c =
    let s = shown c.args.state.now in
    let standing = readers_at c.args.readers.now in
    let first = first_of c.args.readers.now in
    let us = c.slice-u-items.result.now in
    let i = c.loop-u.u-index in
    let u = c.u-item.result in
    let last = λ (row : SessionRow) (v : Update). GainsFirsts first c.loop-u.work.members c.put_target.new.work.members (StandsAtOne s standing (targets row c.args.when (update_of v ∷ []))) in
    let more = λ (row : SessionRow) (is : session_in s.tables c.args.n ≡ Some row). gains_more s standing first c.args.work.now.members c.loop-u.work.members c.put_target.new.work.members
    (targets row c.args.when (map update_of (take i us))) (targets row c.args.when (update_of (get_or us i u) ∷ []))
    (c.loop-u.invariant.members row is) (subst (last row) c.u-item.is (c.put_target.ensures.members row is)) in
    record {
      members = λ row is. subst (λ (locations : List Location). GainsFirsts first c.args.work.now.members c.put_target.new.work.members (StandsAtOne s standing locations))
          (sym (targets_more row c.args.when us i u c.loop-u-test.true)) (more row is);
      limit = c.put_target.ensures.limit ∙ c.loop-u.invariant.limit;
    }

pub returns-clause-members : goal.returns-clause-members
returns-clause-members c =
    let s = shown c.args.state.now in
    let standing = readers_at c.args.readers.now in
    let first = first_of c.args.readers.now in
    let us = c.slice-u-items.result.now in
    let i = c.loop-u.u-index in
    let whole : take i us ≡ us = take_all i us c.loop-u-test.false in
    targets_of_right s c.args.n c.args.when (right_of c.in-Some.right.now) (map update_of (take i us))
    (λ (locations : List Location). GainsFirsts first c.args.work.now.members c.loop-u.work.members (StandsAtOne s standing locations))
    c.in-Some.ensures (ap (λ (xs : List Update). map update_of xs) whole ∙ ap (map update_of) c.slice-u-items.ensures)
    c.loop-u.invariant.members
