use Rattle.std.proofs.Common.{◌≡◌, ap, ◌∙◌, rules}
use Rattle.ucon_base.specs.Value.{is_set}
use Rattle.ucon_base.specs.Arithmetic.{without_text}
use Rattle.ucon_base.proofs.Rising.{is_set-filter}
use Rattle.ucon_base.proofs.text_set.TextSet.without.Goals as goal

pub of_rising-requires : goal.of_rising-requires
of_rising-requires c =
    let t = c.args.t.now in
    let items : c.in_ok-collect.field-0.items ≡ without_text c.self.inside.texts.items t = search rules in
    ap is_set items ∙ is_set-filter _ c.self.inside.texts.items c.self.invariant
