use Rattle.ucon_collections.proofs.SetLemmas.{IsRising-set_of, set_of-put, Contains-put, most-put, fresh-put, there-put}
use Rattle.ucon_collections.proofs.number_set.NumberSet.put.Goals as goal

pub returns-clause-put : goal.returns-clause-put
returns-clause-put c = rw (← c.self.view_is) (set_of-put _ _ _ _ (rw (← c.self.view_is) at c.requires) c.set.ensures)

pub returns-clause-members : goal.returns-clause-members
returns-clause-members c = rw (← c.self.view_is) (Contains-put _ _ _ _ (rw (← c.self.view_is) at c.requires) c.set.ensures)

pub returns-clause-rising : goal.returns-clause-rising
returns-clause-rising c = IsRising-set_of _ _

pub returns-clause-there : goal.returns-clause-there
returns-clause-there c = rw (← c.self.view_is) (there-put _ _ _ _ (rw (← c.self.view_is) at c.requires) c.set.ensures)

pub returns-clause-fresh : goal.returns-clause-fresh
returns-clause-fresh c = rw (← c.self.view_is) (fresh-put _ _ _ _ (rw (← c.self.view_is) at c.requires) c.set.ensures)

pub returns-clause-most : goal.returns-clause-most
returns-clause-most c = rw (← c.self.view_is) (most-put _ _ _ _ (rw (← c.self.view_is) at c.requires) c.set.ensures)
