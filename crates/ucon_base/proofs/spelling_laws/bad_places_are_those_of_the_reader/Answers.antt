use Rattle.ucon_base.proofs.Whole.{placed, refused_there, within_bytes, begun_before, begun_whole, ends_too_soon, not_refused, falls_for_good}
use Rattle.std.specs.Prelude.{length}
use Rattle.ucon_base.proofs.spelling_laws.bad_places_are_those_of_the_reader.Goals as goal

pub returns : goal.returns
returns c = record {
  place = λ bytes p. (placed bytes p, refused_there bytes p);
  within = λ bytes p h. within_bytes bytes p (placed bytes p h);
  begun = λ bytes p h. begun_before bytes p (placed bytes p h);
  short = λ bytes. (λ h. (begun_whole bytes h, λ s. not_refused bytes (length bytes) s h), λ h. ends_too_soon bytes h.0 h.1);
  falling = falls_for_good;
}
