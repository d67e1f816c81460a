use Rattle.std.proofs.Common.{◌∙◌, ℕ, ap, sym}
use Rattle.std.specs.Prelude.{Option, unwrap_or}
use Rattle.ucon_readers.specs.Listing.{Listing}
use Rattle.ucon_readers.specs.Lists.{first_in}
use Rattle.ucon_readers.proofs.Leading.{first_told}
use Rattle.ucon_readers.proofs.Listed.{first_alone, leader_some, told_least, told_none, told_there}
use Rattle.ucon_readers.proofs.standing.Standing.first.Goals as goal

pub returns-in_default : goal.returns-in_default
returns-in_default c =
    let v = c.self.inside.lists.members in
    sym (ap (λ (s : Listing). first_in s.lists.members c.args.session) (sym c.self.view_is) ∙ first_alone v c.args.session (sym c.in_default.ensures.leader))

pub returns : goal.returns
returns c =
    let v = c.self.inside.lists.members in
    let member = leader_some v c.args.session c.in-Some.leader (sym c.in-Some.ensures.leader) in
    let told = first_told v c.in-Some.leader c.first.result (told_there v c.in-Some.leader c.first.result c.first.ensures) (told_least v c.in-Some.leader c.first.result c.first.ensures)
    (told_none v c.in-Some.leader c.first.result c.first.ensures) c.args.session member in
    c.unwrap_or.ensures ∙ ap (λ (o : Option ℕ). unwrap_or o c.args.session) told ∙ ap (λ (s : Listing). first_in s.lists.members c.args.session) c.self.view_is
