use Rattle.std.proofs.Common.{◌∙◌, sym, ap}
use Rattle.std.specs.Map.{lookup}
use Rattle.ucon_state.specs.Undo.{front}
use Rattle.ucon_state.specs.Views.{lists_of}
use Rattle.ucon_state.proofs.Acts.{same_test}
use Rattle.ucon_state.proofs.Lists.{added_last, front_of_push}
use Rattle.ucon_state.proofs.tables.Tables.add_act.Goals as goal

pub returns-clause-ok : goal.returns-clause-ok
returns-clause-ok c =
    let t = lists_of c.args.self.now in
    let new = sym (ap (λ test. lookup test t.acts) (same_test c.args.act)) ∙ c.requires in
    ap (λ acts. record t { acts = acts }) (c.in_ok-insert.ensures.entries ∙ added_last _ t.acts c.args.act c.args.moment new)

pub returns-clause-undone : goal.returns-clause-undone
returns-clause-undone c =
    let t = lists_of c.args.self.now in
    let new = sym (ap (λ test. lookup test t.acts) (same_test c.args.act)) ∙ c.requires in
    ap (λ acts. record t { acts = front acts }) (c.in_ok-insert.ensures.entries ∙ added_last _ t.acts c.args.act c.args.moment new)
    ∙ ap (λ acts. record t { acts = acts }) (front_of_push t.acts (c.args.act, c.args.moment))
