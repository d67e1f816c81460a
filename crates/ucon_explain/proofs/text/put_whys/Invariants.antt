use Rattle.std.proofs.Common.{◌≡◌, ◌++◌, drop, map}
use Rattle.ucon_accept.specs.Explanation.{why_of}
use Rattle.ucon_explain.specs.Text.{whys_spelling}
use Rattle.ucon_explain.proofs.text.put_whys.Given as goal

-- the text so far and that of the rest are all
abbrev pub invariant-loop-why : goal.invariant-loop-why
invariant-loop-why l = l.out.items ++ whys_spelling (map why_of (drop l.why-index l.whys)) ≡ l.fn.out.items ++ whys_spelling (map why_of l.whys)
