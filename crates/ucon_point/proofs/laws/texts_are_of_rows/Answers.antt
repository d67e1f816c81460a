use Rattle.std.proofs.Common.{◌∙◌, ap}
use Rattle.ucon_point.specs.HeldRows.{point_held}
use Rattle.ucon_point.specs.PointRead.{point_read}
use Rattle.ucon_point.proofs.RowsHeld.{text_given}
use Rattle.ucon_point.proofs.laws.texts_are_of_rows.Goals as goal

pub returns-clause-text : goal.returns-clause-text
returns-clause-text c = λ entries text h. text_given h entries text

pub returns-clause-read : goal.returns-clause-read
returns-clause-read c = λ entries text h is.
    ap point_read (text_given h entries text) ∙ c.points_are_read_back.ensures.written (point_held entries text h) is
