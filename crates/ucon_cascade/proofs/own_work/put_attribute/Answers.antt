use Rattle.std.proofs.Common.{◌∙◌, sym}
use Rattle.ucon_model.specs.Reach.{attribute_of}
use Rattle.ucon_state.specs.Shown.{shown}
use Rattle.ucon_cascade.specs.Putting.{StandsAt}
use Rattle.ucon_readers.specs.Readers.{first_of, readers_at}
use Rattle.ucon_cascade.proofs.Putting.{gains_none}
use Rattle.ucon_cascade.proofs.Targets.{gains_at, nobody_at}
use Rattle.ucon_cascade.proofs.own_work.put_attribute.Goals as goal

pub returns-in_default-clause-members : goal.returns-in_default-clause-members
returns-in_default-clause-members c =
    let s = shown c.args.state.now in
    let standing = readers_at c.args.readers.now in
    let first = first_of c.args.readers.now in
    let location = attribute_of c.args.side c.args.name.now c.args.attr.now in
    gains_none first c.args.work.now.members (StandsAt s standing location) (nobody_at s standing location (sym c.attribute_place.ensures ∙ c.in_default.is))

pub returns-clause-members : goal.returns-clause-members
returns-clause-members c =
    let s = shown c.args.state.now in
    let standing = readers_at c.args.readers.now in
    let first = first_of c.args.readers.now in
    let location = attribute_of c.args.side c.args.name.now c.args.attr.now in
    gains_at s standing first c.args.work.now.members c.put.new.work.members location c.in-Some.place (sym c.attribute_place.ensures ∙ c.in-Some.is) c.put.ensures.members
