use Rattle.std.proofs.Common.{refl}
use Rattle.ucon_readers.proofs.Placed.{undo_still}
use Rattle.ucon_readers.proofs.readers.Readers.remember.Goals as goal

pub returns-in_err-insert-clause-undo : goal.returns-in_err-insert-clause-undo
returns-in_err-insert-clause-undo c = λ standing first gives. undo_still c.args.self.now _ standing first refl refl gives

pub returns-clause-undo : goal.returns-clause-undo
returns-clause-undo c = λ standing first gives. undo_still c.args.self.now _ standing first refl refl gives
