use Rattle.std.proofs.Common.{◌≡◌, ◌∙◌, [], ◌∷◌, ◌++◌, false, ap}
use Rattle.serde_json.specs.View.{view}
use Rattle.serde_json.specs.Written.{compact_text, has_float}
use Rattle.ucon_state.specs.Held.{held}
use Rattle.ucon_audit.specs.Report.{tree_of}
use Rattle.ucon_audit.proofs.Whole.{tree_whole}
use Rattle.ucon_audit.proofs.state_json.line.Goals as goal

pub returns : goal.returns
returns c =
    let h = held c.args.state.now in
    let is : view c.in_ok-value.value ≡ tree_of c.args.entries h = c.in_ok-value.ensures in
    let whole : has_float (view c.in_ok-value.value) ≡ false = ap has_float is ∙ tree_whole c.args.entries h in
    c.in_ok-push.ensures.items ∙ ap (λ text. text ++ 10 ∷ []) (c.in_ok-bytes.ensures.text whole ∙ ap compact_text is)
