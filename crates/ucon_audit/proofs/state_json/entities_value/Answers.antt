use Rattle.std.proofs.Common.{◌≡◌, ◌∙◌, ◌+◌, List, Some, sym, ap, drop, arith, rules}
use Rattle.std.proofs.lemmas.List.{drop_all}
use Rattle.serde_json.specs.Data.{Members, object, put}
use Rattle.serde_json.specs.View.{members_view, view}
use Rattle.serde_json.specs.declared.value.Value.{Object, the_lemmas}
use Rattle.ucon_model.specs.Plain.{Bytes}
use Rattle.ucon_state.specs.Held.{held}
use Rattle.ucon_audit.specs.Report.{entity_tree, with_members}
use Rattle.ucon_audit.proofs.Listed.{drop_there}
use Rattle.ucon_audit.proofs.state_json.entities_value.Goals as goal

pub loop-number-preserved : goal.loop-number-preserved
loop-number-preserved c =
    let h = held c.args.state.now in
    let side = c.args.side in
    let n = c.loop-number.number in
    let ms = members_view c.loop-number.members.entries in
    c.loop-number.invariant
    ∙ ap (λ (names : List Bytes). with_members (λ name. Some (entity_tree h side name)) names ms) (drop_there (h.names side) n c.in-Some.name (sym c.in-Some.ensures))
    ∙ sym (ap (λ (next : Members). with_members (λ name. Some (entity_tree h side name)) (drop (n + 1) (h.names side)) next)
    (c.in_ok-put.ensures.ok ∙ (λ i. put (c.name_text.ensures i) (c.in_ok-entity.ensures i) ms)))

pub returns : goal.returns
returns c =
    let h = held c.args.state.now in
    let side = c.args.side in
    let n = c.loop-number.number in
    let ms = members_view c.loop-number.members.entries in
    let opened : view (Object c.loop-number.members) ≡ object ms = search (rules, the_lemmas) in
    opened
    ∙ ap (λ (all : Members). object all)
    (sym (c.loop-number.invariant
    ∙ ap (λ (names : List Bytes). with_members (λ name. Some (entity_tree h side name)) names ms)
    (drop_all n (h.names side) (omega (arith, c.loop-number-test.false, c.entity_count-number-end.ensures)))))
