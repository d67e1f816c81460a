use Rattle.std.proofs.Common.{◌∙◌, sym, ap, is_some, position}
use Rattle.std.specs.Str.{bytes_eq}
use Rattle.ucon_model.specs.Checked.{checked_policy}
use Rattle.ucon_model.specs.Decision.{right_named}
use Rattle.ucon_model.specs.Plain.{Bytes}
use Rattle.ucon_state.specs.Shown.{right_names}
use Rattle.ucon_state.proofs.Following.Places.{place_within}
use Rattle.ucon_state.proofs.Numbered.{right_of_number}
use Rattle.ucon_state.proofs.Rights.{none_has_it}
use Rattle.ucon_state.proofs.state.State.find_right.Goals as goal

pub right_numbered-requires : goal.right_numbered-requires
right_numbered-requires c =
    let name = c.args.name.now in
    place_within (bytes_eq name) (right_names c.args.self.now) c.in_ok-number.number (sym (c.in_ok-number.ensures ∙ ap (position (bytes_eq name)) c.deref.ensures.value))

pub returns-in_err-number-clause-there : goal.returns-in_err-number-clause-there
returns-in_err-number-clause-there c =
    let name = c.args.name.now in
    ap is_some c.from_residual.ensures
    ∙ sym (none_has_it (checked_policy c.args.self.now.planned.checked) (right_names c.args.self.now) name c.args.self.now.has_rights
    (sym (c.in_err-number.ensures ∙ ap (position (bytes_eq name)) c.deref.ensures.value)))

pub returns-in_err-right_numbered-clause-there : goal.returns-in_err-right_numbered-clause-there
returns-in_err-right_numbered-clause-there c =
    let P = checked_policy c.args.self.now.planned.checked in
    let R = right_names c.args.self.now in
    let name = c.args.name.now in
    let at = sym (c.in_ok-number.ensures ∙ ap (position (bytes_eq name)) c.deref.ensures.value) in
    ap is_some c.from_residual-in_err-right_numbered.ensures
    ∙ ap is_some (c.in_err-right_numbered.ensures ∙ ap (λ (e : Bytes). right_named P.rights e) (right_of_number R name c.in_ok-number.number at))

pub returns-clause-there : goal.returns-clause-there
returns-clause-there c =
    let P = checked_policy c.args.self.now.planned.checked in
    let R = right_names c.args.self.now in
    let name = c.args.name.now in
    let at = sym (c.in_ok-number.ensures ∙ ap (position (bytes_eq name)) c.deref.ensures.value) in
    ap is_some (c.in_ok-right_numbered.ensures ∙ ap (λ (e : Bytes). right_named P.rights e) (right_of_number R name c.in_ok-number.number at))

pub returns-clause-named : goal.returns-clause-named
returns-clause-named c =
    right_of_number (right_names c.args.self.now) c.args.name.now c.in_ok-number.number
    (sym (c.in_ok-number.ensures ∙ ap (position (bytes_eq c.args.name.now)) c.deref.ensures.value))
