use Rattle.std.proofs.Common.{◌∙◌, sym, ap, subst}
use Rattle.ucon_model.specs.Checked.{checked_policy}
use Rattle.ucon_model.specs.Plain.{PlainPolicy}
use Rattle.ucon_state.specs.Shown.{right_names}
use Rattle.ucon_state.specs.Sound.{AllSound}
use Rattle.ucon_state.specs.Stored.{named}
use Rattle.ucon_state.specs.Undo.{all_undone, policy_before, policy_undone}
use Rattle.ucon_state.specs.Views.{lists_of}
use Rattle.ucon_state.proofs.Stages.{holds_now, newest_first, newest_policy, sound_without_one}
use Rattle.ucon_state.proofs.state.State.undo_all.Goals as goal

pub invariant_of-self-in-Some : goal.invariant_of-self-in-Some
invariant_of-self-in-Some c =
    let P = checked_policy c.loop-undo.self.planned.checked in
    let R = right_names c.loop-undo.self in
    let t = lists_of c.loop-undo.self.tables in
    let left = c.pop.new.self.items in
    let u = c.in-Some.undo in
    let all = subst (λ cs. AllSound P R cs t) c.in-Some.ensures.items c.loop-undo.self.sound in
    let back = subst (AllSound (policy_before u P) R left) (sym c.run.ensures.tables) (sound_without_one R P left u t all) in
    let sound = subst (λ (Q : PlainPolicy). AllSound Q R left (lists_of c.run.new.tables)) (sym c.run.ensures.policy) back in
    record { sound = sound; has_rights = (holds_now (checked_policy c.run.new.checked.checked) R left (lists_of c.run.new.tables) sound).1; in_order = λ so. (let no = c.loop-undo.invariant.in_no_order in absurd cc) }

pub loop-undo-preserved : goal.loop-undo-preserved
loop-undo-preserved c =
    let P = checked_policy c.loop-undo.self.planned.checked in
    let R = right_names c.loop-undo.self in
    let t = lists_of c.loop-undo.self.tables in
    let left = c.pop.new.self.items in
    let u = c.in-Some.undo in
    let policy = ap (policy_undone left) c.run.ensures.policy ∙ sym (newest_policy left u P) ∙ sym (ap (λ cs. policy_undone cs P) c.in-Some.ensures.items) in
    let back = ap (all_undone left) c.run.ensures.tables ∙ sym (newest_first left u t) ∙ sym (ap (λ cs. all_undone cs t) c.in-Some.ensures.items) in
    record { policy = policy ∙ c.loop-undo.invariant.policy; opening = ap (named R) back ∙ c.loop-undo.invariant.opening; rights = c.loop-undo.invariant.rights; in_no_order = c.loop-undo.invariant.in_no_order }
