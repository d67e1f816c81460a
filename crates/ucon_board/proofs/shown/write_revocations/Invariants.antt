use Rattle.std.proofs.Common.{◌≡◌, map, drop}
use Rattle.ucon_board.specs.Board.{revocation}
use Rattle.ucon_board.specs.Rule.{after}
use Rattle.ucon_board.proofs.shown.write_revocations.Given as goal

-- what is left to say makes the whole
abbrev pub invariant-loop-r : goal.invariant-loop-r
invariant-loop-r l = after l.rows (map revocation (drop l.r-index l.revoked)) ≡ after l.fn.rows (map revocation l.revoked)
