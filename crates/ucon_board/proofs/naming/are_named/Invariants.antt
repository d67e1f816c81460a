use Rattle.std.proofs.Common.{take}
use Rattle.ucon_base.specs.Elements.{Each}
use Rattle.ucon_board.specs.Board.{IsSession}
use Rattle.ucon_board.proofs.naming.are_named.Given as goal

-- all before this one are named well
abbrev pub invariant-loop-r : goal.invariant-loop-r
invariant-loop-r l = Each (λ x. IsSession x.session) (take l.r-index l.revoked)
