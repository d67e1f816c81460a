use Rattle.std.proofs.Common.{refl}
use Rattle.ucon_readers.proofs.Placed.{undo_more}
use Rattle.ucon_readers.proofs.readers.Readers.hide.Goals as goal

pub returns-clause-undo : goal.returns-clause-undo
returns-clause-undo c = λ standing first gives. undo_more c.args.self.now _ standing first refl (c.hide.ensures.undo standing first) gives
