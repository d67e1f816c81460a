use Rattle.std.proofs.Common.{◌≡◌, List, Some, ap, sym, ◌∙◌, subst}
use Rattle.ucon_board.specs.declared.history.Event.{Event}
use Rattle.ucon_board.specs.declared.shown.Shown.{Shown}
use Rattle.ucon_board.specs.Board.{Board, GoesOn, Known}
use Rattle.ucon_board.specs.Rule.{Told, Fits}
use Rattle.ucon_board.specs.Told.{board_of}
use Rattle.ucon_board.proofs.Boards.{longer_goes_on}
use Rattle.ucon_board.proofs.reader.BoardReader.looked.Goals as goal

pub returns-clause-later : goal.returns-clause-later
returns-clause-later g c =
    let x = c.enter-reading.result.part.value in
    let mine = c.self.inside.told in
    let fits : Fits x (Some mine) = subst (Fits x) c.self.invariant.0 c.enter-reading.ensures.1 in
    let log : c.again-told.result.log ≡ x.seen.log = ap (λ (s : Told). s.log) c.again-told.ensures ∙ ap (λ (s : Shown). s.seen.log) c.get-shown.ensures in
    subst (λ (b : Board). GoesOn b (board_of c.again-told.result.log)) (ap (λ (v : Known). v.board) c.self.view_is)
    (subst (λ (l : List Event). GoesOn (board_of mine.log) (board_of l)) (sym log) (longer_goes_on mine.log x.seen.log c.self.invariant.1 fits.1))
