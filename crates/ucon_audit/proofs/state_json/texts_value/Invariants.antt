use Rattle.std.proofs.Common.{◌≡◌, ◌++◌, map, drop}
use Rattle.serde_json.specs.Data.{string}
use Rattle.serde_json.specs.View.{view}
use Rattle.ucon_audit.proofs.state_json.texts_value.Given as goal

abbrev pub invariant-loop-text : goal.invariant-loop-text
invariant-loop-text l = map view l.strings.items ++ map (λ t. string t) (drop l.text-index l.texts) ≡ map (λ t. string t) l.texts
