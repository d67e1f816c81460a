use Rattle.std.proofs.Common.{◌≡◌, drop, map}
use Rattle.ucon_accept.specs.Checking.{first_untrue}
use Rattle.ucon_accept.specs.Explanation.{why_of}
use Rattle.ucon_accept.proofs.checker.first_untrue.Given as goal

-- no line so far is it
abbrev pub invariant-loop-why : goal.invariant-loop-why
invariant-loop-why l = first_untrue l.duties (map why_of (drop l.why-index l.whys)) ≡ first_untrue l.duties (map why_of l.whys)
