use Rattle.std.proofs.Common.{sym, subst}
use Rattle.ucon_model.specs.Checked.{checked_policy}
use Rattle.ucon_state.specs.Shown.{right_names}
use Rattle.ucon_state.specs.Sound.{AllSound}
use Rattle.ucon_state.specs.Views.{lists_of}
use Rattle.ucon_state.proofs.Stages.{kept_now, sound_alone}
use Rattle.ucon_state.proofs.state.State.keep.Goals as goal

pub invariant_of-self : goal.invariant_of-self
invariant_of-self c =
    let P = checked_policy c.args.self.now.planned.checked in
    let R = right_names c.args.self.now in
    let t = lists_of c.args.self.now.tables in
    let now = kept_now P R c.args.self.now.changes.items t c.args.self.now.sound in
    record { sound = subst (λ cs. AllSound P R cs t) (sym c.clear.ensures.items) (sound_alone P R t now c.args.self.now.has_rights); has_rights = c.args.self.now.has_rights; in_order = c.args.self.now.in_order }
