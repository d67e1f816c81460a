use Rattle.std.proofs.Common.{◌∙◌, sym, ap, subst, ◌++◌, ◌∷◌, [], ◌<◌, length}
use Rattle.std.proofs.lemmas.List.{length-map}
use Rattle.ucon_model.specs.Checked.{checked_policy}
use Rattle.ucon_state.specs.Shown.{right_names}
use Rattle.ucon_state.specs.Sound.{IsKept}
use Rattle.ucon_state.specs.Stored.{NumbersAreBelow, named, row_of}
use Rattle.ucon_state.specs.Views.{lists_of}
use Rattle.ucon_state.specs.declared.change.Undo.TheVariants.{Changed}
use Rattle.ucon_state.proofs.Stages.{noted_sound, noted_shown, numbered_now, sound_now}
use Rattle.ucon_state.specs.Applied.{with_new_session}
use Rattle.ucon_state.proofs.Numbered.{named_session, numbered_session}
use Rattle.ucon_state.proofs.Sounds.{session_sound}
use Rattle.ucon_state.proofs.state.State.push_session.Goals as goal

pub invariant_of-self-2 : goal.invariant_of-self-2
invariant_of-self-2 c =
    let P = checked_policy c.args.self.now.planned.checked in
    let R = right_names c.args.self.now in
    let t = lists_of c.args.self.now.tables in
    let added = c.push_reserved.ensures.items ∙ ap (λ cs. cs ++ Changed c.in_ok-change.change ∷ []) c.reserve.ensures.items in
    let before = sound_now P R c.args.self.now.changes.items t c.args.self.now.sound in
    let numbered = numbered_now P R c.args.self.now.changes.items t c.args.self.now.sound in
    let s = c.args.session in
    let is = c.in_ok-change.ensures.ok in
    let below : NumbersAreBelow (length R) (length t.subjects) (length t.objects) s =
    record { right = c.requires.there.right_below; subject = c.requires.there.subject_below; object = c.requires.there.object_below } in
    let few : length t.sessions < 1048576 = subst (λ n. n < 1048576) (length-map t.sessions (row_of R t.subjects t.objects)) c.requires.few in
    let now : IsKept P R (with_new_session t s) = (session_sound P t before s few, numbered_session R t numbered s below) in
    record { sound = noted_sound P R _ _ c.in_ok-change.change t _ added c.in_ok-change.ensures.undone c.args.self.now.sound (subst (IsKept P R) (sym is) now); has_rights = c.args.self.now.has_rights; in_order = c.args.self.now.in_order }

pub returns-clause-ok : goal.returns-clause-ok
returns-clause-ok c =
    let P = checked_policy c.args.self.now.planned.checked in
    let R = right_names c.args.self.now in
    let t = lists_of c.args.self.now.tables in
    let added = c.push_reserved.ensures.items ∙ ap (λ cs. cs ++ Changed c.in_ok-change.change ∷ []) c.reserve.ensures.items in
    noted_shown P R _ _ c.in_ok-change.change t _ _ added c.in_ok-change.ensures.undone (ap (named R) c.in_ok-change.ensures.ok ∙ named_session R t c.args.session)
