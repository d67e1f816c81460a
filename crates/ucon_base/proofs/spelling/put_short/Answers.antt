use Rattle.std.proofs.Common.{append_assoc, refl}
use Rattle.ucon_base.proofs.Decimals.{of_three, of_four, of_five}
use Rattle.ucon_base.proofs.spelling.put_short.Goals as goal

pub returns-then-n-lt1000 : goal.returns-then-n-lt1000
returns-then-n-lt1000 c =
    rw (
      c.push_pair-then-n-lt1000.ensures.items,
      c.push_reserved-then-n-lt1000.ensures.items,
      append_assoc,
      of_three c.args.n c.if-n-lt100.false c.if-n-lt1000.true,
    ) refl

pub returns-then-n-lt10000 : goal.returns-then-n-lt10000
returns-then-n-lt10000 c =
    rw (
      c.push_pair-then-n-lt10000-2.ensures.items,
      c.push_pair-then-n-lt10000.ensures.items,
      append_assoc,
      of_four c.args.n c.if-n-lt1000.false c.if-n-lt10000.true,
    ) refl

pub returns-else-n-lt10000 : goal.returns-else-n-lt10000
returns-else-n-lt10000 c =
    rw (
      c.push_pair-else-n-lt10000-2.ensures.items,
      c.push_pair-else-n-lt10000.ensures.items,
      c.push_reserved-else-n-lt10000.ensures.items,
      append_assoc,
      append_assoc,
      of_five c.args.n c.if-n-lt10000.false c.requires.few,
    ) refl
