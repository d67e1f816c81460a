use Rattle.ucon_collections.proofs.BitLemmas.{SetsBit-or}
use Rattle.ucon_collections.proofs.level.Level.set.Goals as goal

pub returns : goal.returns
returns c = rw (← c.self.view_is) (SetsBit-or _ _ _ c.index_mut.ensures.value (rw (← c.self.view_is) at c.requires))
