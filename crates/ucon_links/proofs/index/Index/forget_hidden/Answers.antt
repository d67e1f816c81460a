use Rattle.std.proofs.Common.{◌∙◌, ap}
use Rattle.ucon_links.specs.Dependents.{Dependents, stands_in, forget_hidden}
use Rattle.ucon_links.proofs.IndexGrowing.{sound_forgotten, seen_forgotten}
use Rattle.ucon_links.proofs.WhoStands.{forget-stands}
use Rattle.ucon_links.proofs.index.Index.forget_hidden.Goals as goal

pub invariant_of-self : goal.invariant_of-self
invariant_of-self c = rw (c.free_all.ensures, c.free_all-2.ensures) (sound_forgotten c.self.inside.places c.self.inside.sessions c.self.invariant)

pub returns-clause-forgotten : goal.returns-clause-forgotten
returns-clause-forgotten c = rw (c.free_all.ensures, c.free_all-2.ensures) (seen_forgotten c.self.inside.places c.self.inside.sessions c.self.invariant ∙ ap forget_hidden c.self.view_is)

pub returns-clause-stands : goal.returns-clause-stands
returns-clause-stands c place = ap (λ (v : Dependents). stands_in v place) (returns-clause-forgotten c) ∙ forget-stands c.args.self.now place
