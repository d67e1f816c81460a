use Rattle.std.proofs.Common.{◌∙◌, ◌&&◌, Bool, sym, ap}
use Rattle.std.specs.Str.{bytes_eq}
use Rattle.ucon_state.specs.declared.act.Act.{Act}
use Rattle.indexmap.specs.Layout.{set_value_at}
use Rattle.indexmap.specs.IndexMap.{insert_entry}
use Rattle.ucon_state.specs.Views.{lists_of}
use Rattle.ucon_state.proofs.Lists.{value_given_back}
use Rattle.ucon_state.proofs.tables.Tables.set_act.Goals as goal

pub returns-in-Some-clause-undone : goal.returns-in-Some-clause-undone
returns-in-Some-clause-undone c =
    let t = lists_of c.args.self.now in
    let before = c.in-Some.before in
    let eq : Act → Act → Bool = λ a b. bytes_eq a.subject b.subject && (bytes_eq a.action b.action && bytes_eq a.object b.object) in
    let written = insert_entry eq t.acts c.args.act t.tick in
    ap (λ acts. record t { acts = acts })
    (ap (λ es. set_value_at es c.in_ok-position.position before) c.in_ok-position.ensures.entries
    ∙ ap (λ i. set_value_at written i before) c.in_ok-position.ensures.index
    ∙ value_given_back eq t.acts c.args.act t.tick before (sym c.in_ok-position.ensures.old ∙ c.in-Some.is))
