use Rattle.std.proofs.Common.{Some, refl}
use Rattle.ucon_readers.specs.declared.kind.Kind.{Kind}
use Rattle.ucon_cascade.proofs.Kindred.{of_kind}
use Rattle.ucon_cascade.proofs.kinds.kind_of.Goals as goal

pub returns-clause-kind : goal.returns-clause-kind
returns-clause-kind c =
    let kind : Kind = record { right = c.in_ok-numbers.numbers.right; subject = c.if_read-subject.result; object = c.if_read-object.result } in
    of_kind c.args.state.now c.args.n c.in_ok-numbers.numbers kind (Some c.in_ok-numbers.numbers) refl c.in_ok-numbers.ensures refl
    c.if_read-subject.ensures.some c.if_read-object.ensures.some

pub returns-clause-subject : goal.returns-clause-subject
returns-clause-subject c = λ none. c.reads_of.ensures (c.if_read-subject.ensures.none none)

pub returns-clause-object : goal.returns-clause-object
returns-clause-object c = λ none. c.reads_of-2.ensures (c.if_read-object.ensures.none none)
