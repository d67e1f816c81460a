use Rattle.std.proofs.Common.{rules, ◌≡◌, ◌++◌, ◌-◌, ℕ, length, ap, ◌∙◌}
use Rattle.ucon_model.specs.History.{History, trace}
use Rattle.ucon_state.specs.Held.{held_after}
use Rattle.ucon_state.specs.Shown.{shown}
use Rattle.ucon_converse.specs.Due.{is_due, size_of}
use Rattle.ucon_converse.proofs.Tellings.{follows_whole, whole_count}
use Rattle.ucon_converse.proofs.pointing.is_due_after.Goals as goal

pub returns : goal.returns
returns g c = λ P G accepts front.
    let s = c.args.store.now in
    let H : History = G ++ s.entries in
    let size : c.size_of.result ≡ size_of (held_after P (trace P H)) =
    c.size_of.ensures P (trace P H) (follows_whole P s G (shown c.state.result.now) (c.state.ensures.follows c.requires P (trace P G) accepts front.starts)) in
    let count : c.place.result ≡ length H = c.place.ensures.place ∙ whole_count P s G front in
    let since : c.saturating_sub.result ≡ c.place.result - c.args.tried = search rules in
    let behind : c.saturating_sub.result ≡ length H - c.args.tried = since ∙ ap (λ (n : ℕ). n - c.args.tried) count in
    c.is_due.ensures ∙ (λ i. is_due (behind i) (size i))
