use Rattle.std.proofs.Common.{◌≡◌, ◌++◌, ◌+◌, ◌-◌, ◌≤◌, length, max, arith, ◌∙◌}
use Rattle.ucon_model.specs.History.{History, trace}
use Rattle.ucon_state.specs.Held.{held_after}
use Rattle.ucon_state.specs.Shown.{shown}
use Rattle.ucon_converse.specs.Due.{size_of}
use Rattle.ucon_converse.proofs.Growing.{due_later}
use Rattle.ucon_converse.proofs.Tellings.{follows_whole, whole_count}
use Rattle.ucon_converse.proofs.pointing.steps_until_due.Goals as goal

pub returns : goal.returns
returns g c = λ P G accepts front es few.
    let s = c.args.store.now in
    let H : History = G ++ s.entries in
    let size : c.size_of.result ≡ size_of (held_after P (trace P H)) =
    c.size_of.ensures P (trace P H) (follows_whole P s G (shown c.state.result.now) (c.state.ensures.follows c.requires.unmarked P (trace P G) accepts front.starts)) in
    let count : c.place.result ≡ length H = c.place.ensures.place ∙ whole_count P s G front in
    let within : c.saturating_sub.result ≤ max 4096 (c.size_of.result + 1) - (c.place.result - c.args.tried) = grind arith in
    due_later P c.args.tried c.saturating_sub.result c.place.result c.size_of.result H es count size few within
