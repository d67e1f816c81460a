use Rattle.std.proofs.Common.{rules}
use Rattle.ucon_collections.proofs.BitLemmas.{IsLeastIn-lowest}
use Rattle.ucon_collections.proofs.level.Level.least_in.Goals as goal

pub returns : goal.returns
returns c =
    rw (← c.self.view_is) (IsLeastIn-lowest _ _ _ c.index.ensures (rw (← c.self.view_is) at c.requires.set) (search rules))
