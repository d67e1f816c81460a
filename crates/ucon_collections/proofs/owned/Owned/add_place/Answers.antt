use Rattle.ucon_collections.proofs.Changing.{undone-place}
use Rattle.ucon_collections.proofs.owned.Owned.add_place.Goals as goal

pub returns-clause-opening : goal.returns-clause-opening
returns-clause-opening c = rw (c.in_ok-push.ensures.items, ← c.self.view_is) (undone-place c.self.inside.changes.items c.self.inside.deadlines.items c.self.invariant)
