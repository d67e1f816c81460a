use Rattle.std.proofs.Common.{◌≡◌, ◌≤◌, length}
use Rattle.ucon_converse.proofs.PolicyLines.{TakesLines}
use Rattle.ucon_converse.proofs.policy_text.policy_text.Given as goal

-- all lines so far are the text's
abbrev pub invariant-loop-line : goal.invariant-loop-line
invariant-loop-line g l = record {
  taken : TakesLines l.fn.lines.held l.lines.held (g.S.Source.seen l.fn.input).left (g.S.Source.seen l.input).left l.text.items;
  limit : l.lines.limit ≡ l.fn.lines.limit;
  many : l._line ≤ length l.text.items;
  source : (g.S.Source.seen l.input).faults ≡ (g.S.Source.seen l.fn.input).faults;
}
