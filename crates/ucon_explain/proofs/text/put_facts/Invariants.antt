use Rattle.std.proofs.Common.{◌≡◌, ◌++◌, drop}
use Rattle.ucon_explain.specs.Text.{facts_spelling}
use Rattle.ucon_explain.proofs.text.put_facts.Given as goal

-- the text so far and that of the rest are all
abbrev pub invariant-loop-fact : goal.invariant-loop-fact
invariant-loop-fact l = l.out.items ++ facts_spelling (drop l.fact-index l.facts) ≡ l.fn.out.items ++ facts_spelling l.facts
