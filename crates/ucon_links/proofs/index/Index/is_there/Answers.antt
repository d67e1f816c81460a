use Rattle.std.proofs.Common.{◌<◌, ◌≤◌, ◌∙◌, ap, sym, length, arith}
use Rattle.ucon_links.specs.Dependents.{Dependents, is_there}
use Rattle.ucon_links.proofs.There.{there_is, beyond_is_not}
use Rattle.ucon_links.proofs.index.Index.is_there.Goals as goal

pub returns-then-session-list_count : goal.returns-then-session-list_count
returns-then-session-list_count c =
    let beyond : length c.self.inside.sessions.lists ≤ c.args.session = omega (arith, c.if-session-list_count.true, c.list_count.ensures) in
    sym (beyond_is_not c.args.session c.self.inside.places c.self.inside.sessions c.self.invariant.paired beyond)
    ∙ ap (λ (v : Dependents). is_there c.args.session v.places) c.self.view_is

pub returns : goal.returns
returns c =
    let within : c.args.session < length c.self.inside.sessions.lists = omega (arith, c.if-session-list_count.false, c.list_count.ensures) in
    c.is_some.ensures
    ∙ there_is c.args.session c.self.inside.places c.self.inside.sessions c.first-first.result c.self.invariant.paired within c.first-first.ensures.first
    ∙ ap (λ (v : Dependents). is_there c.args.session v.places) c.self.view_is
