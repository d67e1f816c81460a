use Rattle.ucon_cascade.proofs.Kindred.{of_kind}
use Rattle.ucon_cascade.proofs.kinds.is_of_kind.Goals as goal

pub returns-in-Some : goal.returns-in-Some
returns-in-Some c = λ has.
    of_kind c.args.state.now c.args.n c.in-Some.numbers c.args.kind.now c.numbers.result c.in-Some.is c.numbers.ensures
    (c.have_kind.ensures.right has) (c.have_kind.ensures.subject has) (c.have_kind.ensures.object has)
