use Rattle.std.proofs.Common.{arith}
use Rattle.ucon_model.specs.Checked.{checked_policy}
use Rattle.ucon_state.specs.Shown.{right_names}
use Rattle.ucon_state.specs.Views.{lists_of}
use Rattle.ucon_state.proofs.Sounds.{few_entities}
use Rattle.ucon_state.proofs.Stages.{sound_now}
use Rattle.ucon_state.proofs.state.State.find.Goals as goal

pub overflow_cast-result : goal.overflow_cast-result
overflow_cast-result c =
    let P = checked_policy c.args.self.now.planned.checked in
    let R = right_names c.args.self.now in
    let t = lists_of c.args.self.now.tables in
    let few = few_entities P t (sound_now P R c.args.self.now.changes.items t c.args.self.now.sound) c.args.side in
    omega (arith, few, c.in_ok-number.ensures.within)
