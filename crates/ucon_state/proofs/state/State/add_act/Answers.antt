use Rattle.std.proofs.Common.{◌∙◌, sym, ap, subst, ◌++◌, ◌∷◌, []}
use Rattle.ucon_model.specs.Checked.{checked_policy}
use Rattle.ucon_state.specs.Shown.{right_names}
use Rattle.ucon_state.specs.Sound.{IsKept}
use Rattle.ucon_state.specs.Stored.{named}
use Rattle.ucon_state.specs.Views.{lists_of}
use Rattle.ucon_state.specs.declared.change.Undo.TheVariants.{Changed}
use Rattle.ucon_state.proofs.Stages.{noted_sound, noted_shown, numbered_now, sound_now}
use Rattle.ucon_state.proofs.Sounds.{act_sound}
use Rattle.ucon_state.proofs.state.State.add_act.Goals as goal

pub invariant_of-self-2 : goal.invariant_of-self-2
invariant_of-self-2 c =
    let P = checked_policy c.args.self.now.planned.checked in
    let R = right_names c.args.self.now in
    let t = lists_of c.args.self.now.tables in
    let added = c.push_reserved.ensures.items ∙ ap (λ cs. cs ++ Changed c.in_ok-change.change ∷ []) c.reserve.ensures.items in
    let before = sound_now P R c.args.self.now.changes.items t c.args.self.now.sound in
    let now = act_sound P t before (record { subject = c.args.subject.now; action = c.args.action.now; object = c.args.object.now }) c.requires in
    let numbered = numbered_now P R c.args.self.now.changes.items t c.args.self.now.sound in
    record { sound = noted_sound P R _ _ c.in_ok-change.change t _ added c.in_ok-change.ensures.undone c.args.self.now.sound (subst (IsKept P R) (sym c.in_ok-change.ensures.ok) (now, numbered)); has_rights = c.args.self.now.has_rights; in_order = c.args.self.now.in_order }

pub returns-clause-ok : goal.returns-clause-ok
returns-clause-ok c =
    let P = checked_policy c.args.self.now.planned.checked in
    let R = right_names c.args.self.now in
    let t = lists_of c.args.self.now.tables in
    let added = c.push_reserved.ensures.items ∙ ap (λ cs. cs ++ Changed c.in_ok-change.change ∷ []) c.reserve.ensures.items in
    noted_shown P R _ _ c.in_ok-change.change t _ _ added c.in_ok-change.ensures.undone (ap (named R) c.in_ok-change.ensures.ok)
