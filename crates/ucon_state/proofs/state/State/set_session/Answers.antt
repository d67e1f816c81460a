use Rattle.std.proofs.Common.{◌∙◌, sym, ap, subst, ◌++◌, ◌∷◌, []}
use Rattle.ucon_model.specs.Checked.{checked_policy}
use Rattle.ucon_state.specs.Shown.{right_names}
use Rattle.ucon_state.specs.Sound.{IsKept}
use Rattle.ucon_state.specs.Stored.{named}
use Rattle.ucon_state.specs.Views.{lists_of}
use Rattle.ucon_state.specs.declared.change.Undo.TheVariants.{Changed}
use Rattle.ucon_state.proofs.Stages.{noted_sound, noted_shown, numbered_now, sound_now}
use Rattle.ucon_state.proofs.Moves.{moved_length, state_moved}
use Rattle.ucon_state.proofs.Numbered.{numbered_moved}
use Rattle.ucon_state.proofs.Sounds.{sessions_sound}
use Rattle.ucon_state.proofs.state.State.set_session.Goals as goal

pub invariant_of-self-3 : goal.invariant_of-self-3
invariant_of-self-3 c =
    let P = checked_policy c.args.self.now.planned.checked in
    let R = right_names c.args.self.now in
    let t = lists_of c.args.self.now.tables in
    let added = c.push_reserved.ensures.items ∙ ap (λ cs. cs ++ Changed c.move_session-change.result ∷ []) c.reserve.ensures.items in
    let numbered = numbered_now P R c.args.self.now.changes.items t c.args.self.now.sound in
    let now = sessions_sound P t (sound_now P R c.args.self.now.changes.items t c.args.self.now.sound) _ (moved_length t.sessions _ _ _) in
    record { sound = noted_sound P R _ _ c.move_session-change.result t _ added c.move_session-change.ensures.undone c.args.self.now.sound (subst (IsKept P R) (sym c.move_session-change.ensures.tables) (now, numbered_moved R t numbered _ _ _)); has_rights = c.args.self.now.has_rights; in_order = c.args.self.now.in_order }

pub returns-clause-ok : goal.returns-clause-ok
returns-clause-ok c =
    let P = checked_policy c.args.self.now.planned.checked in
    let R = right_names c.args.self.now in
    let t = lists_of c.args.self.now.tables in
    let added = c.push_reserved.ensures.items ∙ ap (λ cs. cs ++ Changed c.move_session-change.result ∷ []) c.reserve.ensures.items in
    noted_shown P R _ _ c.move_session-change.result t _ _ added c.move_session-change.ensures.undone
    (ap (named R) c.move_session-change.ensures.tables ∙ state_moved R t c.args.session c.index.result.now c.args.state c.start_in-start.result _ c.requires c.index.ensures c.start_in-start.ensures)
