use Rattle.ucon_point.proofs.LowerLaws.{RowsAreRead, RowsAreSpelled, TextsLack}
use Rattle.ucon_point.proofs.PointsRead.{point_back}
use Rattle.ucon_point.proofs.PointsSpelled.{point_is}
use Rattle.ucon_point.proofs.laws.points_are_read_back.Goals as goal

pub returns-clause-written : goal.returns-clause-written
returns-clause-written c =
    let texts = c.texts_lack_bytes.ensures in
    let lack : TextsLack = record { joined = texts.joined; tested = texts.tested; numbers = texts.numbers } in
    let rows = c.rows_are_read_back.ensures in
    let numbers = c.numbers_are_read_back.ensures in
    let read : RowsAreRead = record { rows = rows.written; lines = rows.one_line; counts = numbers.counts_written; integers = numbers.one_line } in
    point_back lack read

pub returns-clause-read : goal.returns-clause-read
returns-clause-read c =
    let spelled : RowsAreSpelled = record {
      rows = c.rows_are_read_back.ensures.read;
      counts = c.numbers_are_read_back.ensures.counts_read;
      integers = c.numbers_are_read_back.ensures.integers_read;
    } in
    point_is spelled
