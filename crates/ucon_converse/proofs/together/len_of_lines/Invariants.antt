use Rattle.std.proofs.Common.{◌≡◌, ◌≤◌, ◌++◌, List, length, take}
use Rattle.ucon_base.specs.Elements.{Each}
use Rattle.ucon_flow.specs.Lines.{IsBare}
use Rattle.ucon_model.specs.Plain.{Bytes}
use Rattle.ucon_tell.specs.Told.{Told, lines_of}
use Rattle.ucon_converse.proofs.together.len_of_lines.Given as goal

-- so many bytes have the first lines
abbrev pub invariant-loop-line : goal.invariant-loop-line
invariant-loop-line l = record {
  within : l.at ≤ length l.came;
  so_far : (told : List Told) (rest : Bytes) → Each (λ t. IsBare t.line) told → l.came ≡ lines_of told ++ rest → l.count ≡ length told
      → l.at ≡ length (lines_of (take l._line told));
}
