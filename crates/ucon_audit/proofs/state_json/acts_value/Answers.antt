use Rattle.std.proofs.Common.{◌≡◌, ◌∙◌, ◌+◌, ◌++◌, sym, ap, map, drop, arith, rules}
use Rattle.std.proofs.lemmas.List.{map_push}
use Rattle.serde_json.specs.Data.{array}
use Rattle.serde_json.specs.View.{items_of, view}
use Rattle.serde_json.specs.declared.value.Value.{Array, the_lemmas}
use Rattle.ucon_state.specs.Held.{held, names_of}
use Rattle.ucon_audit.specs.Report.{act_tree}
use Rattle.ucon_audit.proofs.Listed.{all_done, one_more}
use Rattle.ucon_audit.proofs.state_json.acts_value.Goals as goal

pub loop-number-preserved : goal.loop-number-preserved
loop-number-preserved c =
    let h = held c.args.state.now in
    let n = c.loop-number.number in
    let done = c.loop-number.acts.items in
    let value = c.in_ok-act_value.field-0 in
    ap (λ values. map view values ++ map (act_tree h) (drop (n + 1) h.acts)) c.in_ok-push.ensures.items
    ∙ ap (λ trees. trees ++ map (act_tree h) (drop (n + 1) h.acts)) (map_push view done value)
    ∙ one_more (act_tree h) (map view done) (view value) h.acts n (names_of c.in-Some.act) (sym c.in-Some.ensures.names)
    (c.in_ok-act_value.ensures h c.in-Some.ensures.moment) c.loop-number.invariant

pub returns : goal.returns
returns c =
    let h = held c.args.state.now in
    let n = c.loop-number.number in
    let values = c.loop-number.acts in
    let opened : view (Array values) ≡ array (items_of (map view values.items)) = search (rules, the_lemmas) in
    opened
    ∙ ap (λ trees. array (items_of trees))
    (all_done (act_tree h) (map view values.items) h.acts n (omega (arith, c.loop-number-test.false, c.act_count-number-end.ensures)) c.loop-number.invariant)
