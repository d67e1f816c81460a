use Rattle.std.proofs.Common.{rules, ◌≡◌, ◌≢◌, length, sym, subst, arith}
use Rattle.std.specs.Prelude.{min}
use Rattle.ucon_audit.proofs.Differences.{AreSameTo, ends_at}
use Rattle.ucon_audit.proofs.difference.first_difference.Goals as goal

pub returns-else-one-other : goal.returns-else-one-other
returns-else-one-other c =
    let one = c.args.one.now in
    let other = c.args.other.now in
    let least : c.min-shorter.result ≡ min (length one) (length other) = search rules in
    let reached : c.places.i ≡ c.min-shorter.result = omega (arith, c.places-test.false, c.places.auto.i-end) in
    let lengths : length one ≢ length other = search rules in
    sym (ends_at one other c.min-shorter.result least lengths (subst (AreSameTo one other) reached c.places.invariant))
