use Rattle.std.proofs.Common.{◌∙◌, sym, ap, subst, ◌++◌, ◌∷◌, [], is_some, arith}
use Rattle.std.specs.Option.{option_map_or}
use Rattle.std.specs.Str.{bytes_eq}
use Rattle.ucon_model.specs.Checked.{checked_policy}
use Rattle.ucon_model.specs.Plain.{PlainPolicy}
use Rattle.ucon_model.specs.Readings.{env_position}
use Rattle.ucon_state.specs.Applied.{with_variable}
use Rattle.ucon_state.specs.Shown.{right_names}
use Rattle.ucon_state.specs.Sound.{IsKept}
use Rattle.ucon_state.specs.Stored.{named}
use Rattle.ucon_state.specs.Views.{lists_of}
use Rattle.ucon_state.proofs.Places.{found_place, position_within}
use Rattle.ucon_state.proofs.Sounds.{variable_sound}
use Rattle.ucon_state.specs.declared.change.Undo.TheVariants.{Changed}
use Rattle.ucon_state.proofs.Stages.{noted_sound, noted_shown, numbered_now, sound_now}
use Rattle.ucon_state.proofs.state.State.set_env.Goals as goal

pub unwrap-position-requires : goal.unwrap-position-requires
unwrap-position-requires c =
    let P = checked_policy c.args.self.now.planned.checked in
    let found = found_place (λ d. bytes_eq c.args.name.now d.name) P.envs _ c.requires in
    ap is_some ((c.env_position.ensures ∙ ap (λ (Q : PlainPolicy). env_position Q c.args.name.now) c.policy.ensures.policy) ∙ found.place)

pub set_variable-change-requires : goal.set_variable-change-requires
set_variable-change-requires c =
    let P = checked_policy c.args.self.now.planned.checked in
    let R = right_names c.args.self.now in
    let before = sound_now P R c.args.self.now.changes.items (lists_of c.args.self.now.tables) c.args.self.now.sound in
    let within = position_within (λ d. bytes_eq c.args.name.now d.name) P.envs c.unwrap-position.result (sym (c.env_position.ensures ∙ ap (λ (Q : PlainPolicy). env_position Q c.args.name.now) c.policy.ensures.policy) ∙ c.unwrap-position.ensures) in
    omega (arith, within, before.variables)

pub invariant_of-self-2 : goal.invariant_of-self-2
invariant_of-self-2 c =
    let P = checked_policy c.args.self.now.planned.checked in
    let R = right_names c.args.self.now in
    let t = lists_of c.args.self.now.tables in
    let added = c.push_reserved.ensures.items ∙ ap (λ cs. cs ++ Changed c.set_variable-change.result ∷ []) c.reserve.ensures.items in
    let now = variable_sound P t (sound_now P R c.args.self.now.changes.items t c.args.self.now.sound) _ _ in
    let numbered = numbered_now P R c.args.self.now.changes.items t c.args.self.now.sound in
    record { sound = noted_sound P R _ _ c.set_variable-change.result t _ added c.set_variable-change.ensures.undone c.args.self.now.sound (subst (IsKept P R) (sym c.set_variable-change.ensures.tables) (now, numbered)); has_rights = c.args.self.now.has_rights; in_order = c.args.self.now.in_order }

pub returns-clause-ok : goal.returns-clause-ok
returns-clause-ok c =
    let P = checked_policy c.args.self.now.planned.checked in
    let R = right_names c.args.self.now in
    let t = lists_of c.args.self.now.tables in
    let added = c.push_reserved.ensures.items ∙ ap (λ cs. cs ++ Changed c.set_variable-change.result ∷ []) c.reserve.ensures.items in
    let is = ap (named R) c.set_variable-change.ensures.tables ∙ ap (λ o. option_map_or (λ position. with_variable (named R t) position c.args.value) o (named R t)) (sym c.unwrap-position.ensures ∙ (c.env_position.ensures ∙ ap (λ (Q : PlainPolicy). env_position Q c.args.name.now) c.policy.ensures.policy)) in
    noted_shown P R _ _ c.set_variable-change.result t _ _ added c.set_variable-change.ensures.undone is
