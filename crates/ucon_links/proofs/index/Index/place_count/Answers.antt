use Rattle.std.proofs.Common.{ap, length, sym, ◌∙◌}
use Rattle.ucon_links.specs.Dependents.{Dependents}
use Rattle.ucon_links.proofs.Rows.{places-length}
use Rattle.ucon_links.proofs.index.Index.place_count.Goals as goal

pub returns : goal.returns
returns c = c.list_count.ensures ∙ sym (places-length 0 c.self.inside.places.lists c.self.inside.places.hidden) ∙ ap (λ (v : Dependents). length v.places) c.self.view_is
