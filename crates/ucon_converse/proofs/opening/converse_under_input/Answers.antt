use Rattle.std.proofs.Common.{inr, subst}
use Rattle.std.specs.Prelude.{List, ℕ}
use Rattle.ucon_flow.specs.Lines.{Reading}
use Rattle.ucon_syntax.specs.Policies.{accepted}
use Rattle.ucon_tell.specs.Heard.{Hears}
use Rattle.ucon_converse.specs.Ended.{EndsUnderBy}
use Rattle.ucon_converse.specs.PolicyPart.{TakesPolicy}
use Rattle.ucon_converse.proofs.opening.converse_under_input.Goals as goal

pub returns-clause-ends : goal.returns-clause-ends
returns-clause-ends g c =
    let seen = g.D.Disk.seen in
    let left = (g.S.Source.seen c.args.input.now).left in
    let between = (g.S.Source.seen c.policy_text.new.input).left in
    let after = (g.S.Source.seen c.converse_under.new.input).left in
    let held = c.policy_text.new.lines.held in
    let held_after = c.converse_under.new.lines.held in
    inr (record {
      text = c.in-Ok.text.items;
      held = held;
      between = between;
      takes = subst (λ (l : Reading). TakesPolicy l.held held left between c.in-Ok.text.items) c.new-lines.ensures c.in-Ok.ensures.text;
      held_after = held_after;
      ends =
          subst (λ (t : List ℕ). EndsUnderBy accepted t c.converse_under.result.outcome (seen c.args.disk) (seen c.converse_under.result.disk)
          (g.V.Voice.seen c.args.out.now) (g.V.Voice.seen c.converse_under.new.out) (λ r heard. Hears r held held_after between after heard))
          c.deref-2.ensures.value c.converse_under.ensures.ends;
    })
