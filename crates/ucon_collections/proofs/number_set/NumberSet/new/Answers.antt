use Rattle.std.proofs.Common.{ap, ◌∙◌}
use Rattle.ucon_collections.specs.Members.{set_of}
use Rattle.ucon_collections.proofs.SetLemmas.{set_of-clear}
use Rattle.ucon_collections.proofs.number_set.NumberSet.new.Goals as goal

pub returns : goal.returns
returns c = ap (λ row. set_of row c.args.limit) c.in_ok-new.ensures ∙ set_of-clear _ _
