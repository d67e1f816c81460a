use Rattle.std.proofs.Common.{◌∙◌, ap, sym}
use Rattle.ucon_model.specs.declared.formula.Ref.{Ref}
use Rattle.ucon_model.specs.Reach.{location_of}
use Rattle.ucon_state.specs.Shown.{shown}
use Rattle.ucon_cascade.specs.Numbering.{place_number}
use Rattle.ucon_cascade.proofs.places.place_of.Goals as goal

pub returns-in-Subject : goal.returns-in-Subject
returns-in-Subject c = λ row is.
    c.place_of_session.ensures row is ∙ ap (λ (place : Ref). place_number (shown c.args.state.now) (location_of row place)) (sym c.in-Subject.is)

pub returns-in-Object : goal.returns-in-Object
returns-in-Object c = λ row is.
    c.place_of_session-in-Object.ensures row is ∙ ap (λ (place : Ref). place_number (shown c.args.state.now) (location_of row place)) (sym c.in-Object.is)

pub returns-in-Env : goal.returns-in-Env
returns-in-Env c = λ row is.
    c.variable_place.ensures ∙ ap (λ (place : Ref). place_number (shown c.args.state.now) (location_of row place)) (sym c.in-Env.is)
