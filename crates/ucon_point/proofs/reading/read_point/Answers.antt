use Rattle.ucon_point.proofs.PointsRefused.{place_told}
use Rattle.ucon_point.proofs.Told.{nothing_told, state_told, text_told}
use Rattle.ucon_point.proofs.reading.read_point.Goals as goal

pub returns-clause-text : goal.returns-clause-text
returns-clause-text c =
    text_told c.points_are_read_back.ensures.read c.texts_are_of_rows.ensures.text c.rows_make_what_they_say.ensures.held c.args.bytes.now c.point.result c.point.ensures

pub returns-clause-state : goal.returns-clause-state
returns-clause-state c = state_told c.points_are_read_back.ensures.read c.rows_make_what_they_say.ensures.followed c.args.bytes.now c.point.result c.point.ensures

pub returns-clause-held : goal.returns-clause-held
returns-clause-held c = nothing_told c.points_are_read_back.ensures.written c.texts_are_of_rows.ensures.text c.args.bytes.now c.point.result c.point.ensures

pub returns-clause-place : goal.returns-clause-place
returns-clause-place c = place_told c.points_are_read_back.ensures.written c.args.bytes.now c.point.result c.point.ensures
