use Rattle.std.proofs.Common.{append_assoc, refl}
use Rattle.ucon_base.proofs.Decimals.{pair_at}
use Rattle.ucon_base.proofs.spelling.push_pair.Goals as goal

pub returns-clause-items : goal.returns-clause-items
returns-clause-items c =
    let p = pair_at c.args.n c.requires.few in
    rw (c.push_reserved-2.ensures.items, c.push_reserved.ensures.items, append_assoc, p.0, p.1) refl
