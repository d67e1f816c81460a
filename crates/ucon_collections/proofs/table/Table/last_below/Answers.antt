use Rattle.std.proofs.Common.{◌≡◌, ◌<◌, ℕ, Some, None, arith, subst, sym}
use Rattle.std.specs.Prelude.{Option}
use Rattle.ucon_collections.specs.Lists.{IsLed, IsPrevious}
use Rattle.ucon_collections.specs.Table.{before, seen}
use Rattle.ucon_collections.proofs.Searching.{IsSought, left_below, sought_first, sought_found, sought_less, sought_next, sought_none}
use Rattle.ucon_collections.proofs.Standing.{in_within}
use Rattle.ucon_collections.proofs.table.Table.last_below.Goals as goal

pub loop-at-init : goal.loop-at-init
loop-at-init c =
    let v = seen c.args.self.now in
    sought_first v c.args.leader c.args.session c.last-at.result
    (subst (IsPrevious (IsLed v c.args.leader) None) (sym c.last-at.ensures) (c.requires.sound.previous c.args.leader None tt))

pub returns-then-member-session : goal.returns-then-member-session
returns-then-member-session c =
    let v = seen c.args.self.now in
    let so_far = subst (IsSought v c.args.leader c.args.session) c.in-Some.is c.loop-at.invariant in
    sought_found v c.args.leader c.args.session c.requires.alone c.in-Some.member so_far c.if-member-session.true

pub before-at-requires : goal.before-at-requires
before-at-requires c =
    let v = seen c.args.self.now in
    in_within v c.args.leader (Some c.in-Some.member) (subst (IsSought v c.args.leader c.args.session) c.in-Some.is c.loop-at.invariant).inside

pub loop-at-smaller : goal.loop-at-smaller
loop-at-smaller c =
    let v = seen c.args.self.now in
    let so_far = subst (IsSought v c.args.leader c.args.session) c.in-Some.is c.loop-at.invariant in
    let is : c.before-at.result ≡ before v c.args.leader (Some c.in-Some.member) = c.before-at.ensures in
    subst (λ (at : Option ℕ). left_below c.before-at.result < left_below at) (sym c.in-Some.is)
    (sought_less v c.args.leader c.args.session c.requires.alone c.in-Some.member so_far c.before-at.result
    (subst (IsPrevious (IsLed v c.args.leader) (Some c.in-Some.member)) (sym is) (c.requires.sound.previous c.args.leader (Some c.in-Some.member) so_far.inside)))

pub loop-at-preserved : goal.loop-at-preserved
loop-at-preserved c =
    let v = seen c.args.self.now in
    let so_far = subst (IsSought v c.args.leader c.args.session) c.in-Some.is c.loop-at.invariant in
    let is : c.before-at.result ≡ before v c.args.leader (Some c.in-Some.member) = c.before-at.ensures in
    sought_next v c.args.leader c.args.session c.requires.alone c.in-Some.member so_far c.before-at.result (let not = c.if-member-session.false in λ less. omega (arith, not, less))
    (subst (IsPrevious (IsLed v c.args.leader) (Some c.in-Some.member)) (sym is) (c.requires.sound.previous c.args.leader (Some c.in-Some.member) so_far.inside))

pub returns : goal.returns
returns c =
    let v = seen c.args.self.now in
    sought_none v c.args.leader c.args.session (subst (IsSought v c.args.leader c.args.session) c.in_default.is c.loop-at.invariant)
