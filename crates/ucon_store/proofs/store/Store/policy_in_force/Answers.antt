use Rattle.std.proofs.Common.{rules, ◌≡◌, sym, ap, ◌∙◌}
use Rattle.ucon_model.specs.Plain.{Bytes}
use Rattle.ucon_store.specs.Points.{text_in_force}
use Rattle.ucon_store.specs.Starts.{text_at_start}
use Rattle.ucon_store.proofs.Stepping.{text_append}
use Rattle.ucon_store.proofs.store.Store.policy_in_force.Goals as goal

pub returns-clause-history : goal.returns-clause-history
returns-clause-history g c = λ none P G accepts front.
    let s = c.args.self.now in
    let behind : c.deref.result.now ≡ text_in_force (text_at_start s.policy s.point) s.entries = search (rules, none) in
    behind ∙ (ap (λ (t : Bytes). text_in_force t s.entries) (sym front.text) ∙ sym (text_append s.policy G s.entries))
