use Rattle.std.proofs.Common.{◌≡◌}
use Rattle.std.specs.Prelude.{None}
use Rattle.ucon_readers.proofs.Placed.{changes_give}
use Rattle.ucon_readers.proofs.readers.Readers.undo.Goals as goal

pub returns-in-None-clause-read : goal.returns-in-None-clause-read
returns-in-None-clause-read c = λ standing first gives.
    let none : c.args.self.now.replaced ≡ None = search in
    c.undo.ensures.read standing first (changes_give c.args.self.now standing first none gives)

pub returns-in-None-clause-firsts : goal.returns-in-None-clause-firsts
returns-in-None-clause-firsts c = λ standing first gives.
    let none : c.args.self.now.replaced ≡ None = search in
    c.undo.ensures.firsts standing first (changes_give c.args.self.now standing first none gives)
