use Rattle.ucon_point.proofs.Digits.{count_is, count_read-decimal}
use Rattle.ucon_point.proofs.RowLowerLaws.{ValuesAreSpelled}
use Rattle.ucon_point.proofs.RowLines.{integer_one_line}
use Rattle.ucon_point.proofs.RowsSpelled.{integer_is}
use Rattle.ucon_point.proofs.row_laws.numbers_are_read_back.Goals as goal

pub returns : goal.returns
returns c =
    let values : ValuesAreSpelled = c.values_are_read_back.ensures.read in
    record { counts_written = count_read-decimal; counts_read = count_is; integers_read = integer_is values; one_line = integer_one_line }
