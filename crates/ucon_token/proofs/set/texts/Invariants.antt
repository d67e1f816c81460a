use Rattle.std.proofs.Common.{◌≡◌, ◌-◌, [], length, true}
use Rattle.ucon_base.specs.Value.{is_rising}
use Rattle.ucon_token.specs.Literals.{texts_at}
use Rattle.ucon_token.proofs.set.texts.Given as goal

abbrev pub invariant-loop : goal.invariant-loop
invariant-loop l = (texts_at (64 - l.counter) l.set l.reader.tokens ≡ texts_at 64 [] l.fn.reader.tokens) × (l.reader.text ≡ l.fn.reader.text) × (is_rising l.set ≡ true) × (length l.set ≡ l.counter)
