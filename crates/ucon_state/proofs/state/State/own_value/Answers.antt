use Rattle.std.proofs.Common.{option_copied, subst}
use Rattle.ucon_base.specs.declared.value.Side.{Side}
use Rattle.ucon_model.specs.Checked.{checked_policy}
use Rattle.ucon_state.specs.Planned.{StandsAt}
use Rattle.ucon_state.specs.Shown.{right_names}
use Rattle.ucon_state.specs.Views.{lists_of}
use Rattle.ucon_state.proofs.Meeting.{own_object, own_subject, some_too}
use Rattle.ucon_state.proofs.Stages.{numbered_now}
use Rattle.ucon_state.proofs.state.State.own_value.Goals as goal

pub returns-in-Subject : goal.returns-in-Subject
returns-in-Subject c =
    let s = c.args.self.now in
    let P = checked_policy s.planned.checked in
    let R = right_names s in
    let t = lists_of s.tables in
    let numbered = numbered_now P R s.changes.items t s.sound in
    some_too (option_copied c.value_at.result) _ _
    (λ v told place stands. own_subject P R t c.args.session.now c.args.position v numbered.subjects_differ c.requires.subject told place
    (subst (λ (side : Side). StandsAt P place side c.args.position) c.in-Subject.is stands))
    c.value_at.ensures

pub returns-in-Object : goal.returns-in-Object
returns-in-Object c =
    let s = c.args.self.now in
    let P = checked_policy s.planned.checked in
    let R = right_names s in
    let t = lists_of s.tables in
    let numbered = numbered_now P R s.changes.items t s.sound in
    some_too (option_copied c.value_at-in-Object.result) _ _
    (λ v told place stands. own_object P R t c.args.session.now c.args.position v numbered.objects_differ c.requires.object told place
    (subst (λ (side : Side). StandsAt P place side c.args.position) c.in-Object.is stands))
    c.value_at-in-Object.ensures
