use Rattle.ucon_point.proofs.RowLowerLaws.{TextsLack, ValuesAreSpelled}
use Rattle.ucon_point.proofs.RowLines.{row_one_line}
use Rattle.ucon_point.proofs.RowsRead.{row_back}
use Rattle.ucon_point.proofs.RowsSpelled.{row_is}
use Rattle.ucon_point.proofs.row_laws.rows_are_read_back.Goals as goal

pub returns : goal.returns
returns c =
    let texts = c.texts_lack_bytes.ensures in
    let lack : TextsLack = record { joined = texts.joined; tested = texts.tested; numbers = texts.numbers; names = texts.names } in
    let values : ValuesAreSpelled = c.values_are_read_back.ensures.read in
    record { written = row_back lack; read = row_is values; one_line = row_one_line lack }
