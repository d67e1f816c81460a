use Rattle.std.proofs.Common.{◌⊎◌, ap, subst}
use mathlib.Core.List.{IsPrefix}
use Rattle.ucon_board.specs.Board.{Board, GoesOn, Known}
use Rattle.ucon_board.specs.Rule.{Told}
use Rattle.ucon_board.specs.Told.{board_of}
use Rattle.ucon_board.proofs.Boards.{beginnings_meet}
use Rattle.ucon_board.proofs.reader.BoardReader.meets.Goals as goal

pub returns : goal.returns
returns c =
    let whole = c.learn.new.self.log in
    let theirs : IsPrefix c.args.told.now.log whole = subst (λ (s : Told). IsPrefix s.log whole) c.again-both.ensures c.learn.ensures.2 in
    subst (λ (b : Board). GoesOn (board_of c.args.told.now.log) b ⊎ GoesOn b (board_of c.args.told.now.log)) (ap (λ (v : Known). v.board) c.self.view_is)
    (beginnings_meet c.args.told.now.log c.self.inside.told.log whole c.requires.opened c.self.invariant.1 theirs c.learn.ensures.3)
