use Rattle.std.proofs.Common.{◌≡◌, false, length, drop, refl, sym, ◌∙◌, Some}
use Rattle.ucon_base.specs.Tokens.{tokens_from, spans_from, fault_from, next_token}
use Rattle.ucon_token.specs.Seen.{token_of}
use Rattle.ucon_token.specs.Reader.{goes_on, tokens_on, spans_on}
use Rattle.ucon_token.proofs.Fuel.{tokens_step, spans_step, tokens_after, tail_after}
use Rattle.ucon_token.proofs.reader.Reader.advance.Goals as goal

pub invariant_of-self-in-Some : goal.invariant_of-self-in-Some
unfolding next_token
invariant_of-self-in-Some c =
    let is : goes_on (token_of c.self.inside.token) ≡ Some c.in-Some.behind = sym c.in-Some.ensures in
    let tail = tail_after (token_of c.self.inside.token) c.in-Some.behind (length (fault_from c.self.inside.begin.now)) c.self.inside.after.now (spans_from false c.self.inside.text.now) is c.self.invariant in
    let step : spans_from c.in-Some.behind c.self.inside.after.now ≡ spans_on (token_of c.token_from-token.result.0) (length (fault_from c.begin_of-self-inside.result.now)) c.token_from-token.result.1.now = spans_step c.in-Some.behind c.self.inside.after.now ∙ rw (← c.is_joined-joined.ensures, ← c.begin_of-self-inside.ensures, ← c.token_from-token.ensures) refl in
    rw (← step) tail

pub returns-in-Some-clause-tokens : goal.returns-in-Some-clause-tokens
unfolding next_token
returns-in-Some-clause-tokens c =
    let is : goes_on (token_of c.self.inside.token) ≡ Some c.in-Some.behind = sym c.in-Some.ensures in
    let step : tokens_from c.in-Some.behind c.self.inside.after.now ≡ tokens_on (token_of c.token_from-token.result.0) c.token_from-token.result.1.now = tokens_step c.in-Some.behind c.self.inside.after.now ∙ rw (← c.is_joined-joined.ensures, ← c.begin_of-self-inside.ensures, ← c.token_from-token.ensures) refl in
    let all : tokens_on (token_of c.token_from-token.result.0) c.token_from-token.result.1.now ≡ drop 1 (tokens_on (token_of c.self.inside.token) c.self.inside.after.now) = sym step ∙ sym (tokens_after (token_of c.self.inside.token) c.in-Some.behind c.self.inside.after.now is) in
    rw (← c.self.view_is) all
