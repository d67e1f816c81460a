use Rattle.ucon_collections.proofs.BitLemmas.{SetsBit-and_not}
use Rattle.ucon_collections.proofs.level.Level.clear.Goals as goal

pub returns : goal.returns
returns c = rw (← c.self.view_is) (SetsBit-and_not _ _ _ c.index_mut.ensures.value (rw (← c.self.view_is) at c.requires))
