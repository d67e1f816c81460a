use Rattle.std.proofs.Common.{false, length, refl, sym, ◌∙◌}
use Rattle.ucon_base.specs.Tokens.{spans_from, fault_from, next_token}
use Rattle.ucon_token.specs.Seen.{token_of}
use Rattle.ucon_token.specs.Reader.{spans_on}
use Rattle.ucon_token.proofs.Fuel.{tokens_step, spans_step, tail_all}
use Rattle.ucon_token.proofs.reader.Reader.new.Goals as goal

pub invariant_of-result : goal.invariant_of-result
unfolding next_token
invariant_of-result c = tail_all (spans_from false c.args.text.now) (spans_on (token_of c.token_from-token.result.0) (length (fault_from c.begin_of-begin.result.now)) c.token_from-token.result.1.now) (spans_step false c.args.text.now ∙ rw (← c.begin_of-begin.ensures, ← c.token_from-token.ensures) refl)

pub returns-clause-tokens : goal.returns-clause-tokens
unfolding next_token
returns-clause-tokens c = sym (tokens_step false c.args.text.now ∙ rw (← c.begin_of-begin.ensures, ← c.token_from-token.ensures) refl)
