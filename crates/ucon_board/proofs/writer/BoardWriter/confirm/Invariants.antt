use Rattle.std.proofs.Common.{◌≡◌}
use Rattle.ucon_board.specs.Board.{GoesOn}
use Rattle.ucon_board.proofs.writer.BoardWriter.confirm.Given as goal

abbrev pub invariant-loop : goal.invariant-loop
invariant-loop g l = record {
  which : l.reader.which ≡ l.fn.reader.which;
  later : GoesOn l.fn.reader.board l.reader.board;
}
