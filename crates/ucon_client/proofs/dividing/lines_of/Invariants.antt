use Rattle.std.proofs.Common.{◌≡◌, map, take}
use Rattle.ucon_base.specs.Elements.{Each}
use Rattle.ucon_client.specs.Answers.{entry_of}
use Rattle.ucon_client.specs.Dividing.{own_lines, spelled_entry}
use Rattle.ucon_client.proofs.dividing.lines_of.Given as goal

abbrev pub invariant-loop-line : goal.invariant-loop-line
invariant-loop-line l = record {
  lines : map entry_of l.own.items ≡ own_lines l.client (map spelled_entry (take l.line-index l.lines));
  own : Each (λ x. x.caller.0 ≡ l.client) l.own.items;
}
