use Rattle.std.proofs.Common.{◌≡◌, ◌∙◌, rules, sym}
use Rattle.ucon_readers.specs.Readers.{first_of}
use Rattle.ucon_cascade.proofs.Putting.{gains_itself, gains_not_itself}
use Rattle.ucon_cascade.proofs.own_work.put_first.Goals as goal

pub returns-then-first-n-clause-members : goal.returns-then-first-n-clause-members
returns-then-first-n-clause-members c =
    let is : c.first.result ≡ c.args.n = search rules in
    gains_itself (first_of c.args.readers.now) c.args.work.now.members c.put.new.self.members c.args.n (sym c.first.ensures ∙ is) c.put.ensures.members

pub returns-else-first-n-clause-members : goal.returns-else-first-n-clause-members
returns-else-first-n-clause-members c =
    gains_not_itself (first_of c.args.readers.now) c.args.work.now.members c.args.n (λ is. c.if-first-n.false (c.first.ensures ∙ is))
