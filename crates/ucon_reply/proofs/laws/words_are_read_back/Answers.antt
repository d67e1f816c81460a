use Rattle.ucon_reply.proofs.ReadWords.{integer_back, integer_is, number_back, number_is, spelled_back, spelled_is}
use Rattle.ucon_reply.proofs.laws.words_are_read_back.Goals as goal

pub returns : goal.returns
returns c =
    let values = c.values_are_read_back.ensures in
    record {
      values_written = spelled_back values.written;
      values_read = spelled_is values.read;
      integers_written = integer_back values.written;
      integers_read = integer_is values.read;
      numbers_written = number_back values.written;
      numbers_read = number_is values.read;
    }
