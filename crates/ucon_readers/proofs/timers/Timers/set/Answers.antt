use Rattle.std.proofs.Common.{refl}
use Rattle.ucon_readers.specs.declared.timers.Timers.{Timers}
use Rattle.ucon_readers.proofs.Undoing.{gives_still}
use Rattle.ucon_readers.proofs.timers.Timers.set.Goals as goal

pub returns-clause-undo : goal.returns-clause-undo
returns-clause-undo c = λ before gives.
    let now : Timers = record { deadlines = c.set.new.self; replaced = c.args.self.now.replaced } in
    gives_still c.args.self.now now before refl c.set.ensures.opening gives
