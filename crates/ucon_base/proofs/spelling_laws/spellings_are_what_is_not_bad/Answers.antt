use Rattle.ucon_base.specs.Spelling.{value_spelling}
use Rattle.ucon_base.proofs.Whole.{not_refused, read_is_spelled, refused_somewhere}
use Rattle.ucon_base.proofs.spelling_laws.spellings_are_what_is_not_bad.Goals as goal

pub returns : goal.returns
returns c = record {
  spelled = not_refused;
  read = read_is_spelled;
  written = λ v is. read_is_spelled (value_spelling v) v (c.values_are_read_back.ensures.written v is);
  refused = refused_somewhere;
}
