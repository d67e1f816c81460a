use Rattle.std.proofs.Common.{◌≡◌, true, false, sym, ◌∙◌}
use Rattle.std.specs.Prelude.{◌&&◌}
use Rattle.ucon_store.specs.Points.{is_point}
use Rattle.ucon_audit.proofs.Taking.{checkpoint_kept, step_kept}
use Rattle.ucon_audit.proofs.keeping.Keeping.take.Goals as goal

pub returns-then-is_point : goal.returns-then-is_point
returns-then-is_point g c =
    let point : (c.args.points && is_point c.args.payload.now) ≡ true = sym c.is_point.ensures ∙ c.if-is_point.true in
    record { taken = checkpoint_kept g.E.Engine.follows c.args.self.now c.args.points c.args.payload.now point c.requires.short c.is_checkpoint.result c.is_checkpoint.ensures }

pub returns : goal.returns
returns g c =
    let step : (c.args.points && is_point c.args.payload.now) ≡ false = sym c.is_point.ensures ∙ c.if-is_point.false in
    record { taken = step_kept g.E.Engine.follows c.args.self.now c.take_step.new.self c.args.points c.args.payload.now step c.take_step.result c.take_step.ensures.taken }
