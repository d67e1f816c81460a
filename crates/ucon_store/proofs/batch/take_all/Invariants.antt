use Rattle.std.proofs.Common.{◌≡◌, length, take}
use Rattle.ucon_engine.specs.Engine.{IsIdle}
use Rattle.ucon_journal.specs.Journal.{batch_of, disk_of, gate_of, version_of, IsBatch, IsClosed}
use Rattle.ucon_model.specs.Action.{Trace}
use Rattle.ucon_model.specs.Plain.{PlainPolicy}
use Rattle.ucon_store.specs.Filling.{AreTakenUp, CanTakeUp, HasSure, IsSized, filled}
use Rattle.ucon_store.proofs.batch.take_all.Given as goal

abbrev pub invariant-loop-line : goal.invariant-loop-line
invariant-loop-line g l = record {
  idle : CanTakeUp g.E.Engine.follows l.engine;
  count : length l.batch.placed.items ≡ l.line-index;
  before : l.batch.before ≡ l.fn.batch.before;
  taken : (P : PlainPolicy) (T : Trace) → g.E.Engine.follows l.fn.engine P T
      → AreTakenUp g.E.Engine.follows P T (take l.line-index l.lines) (filled l.fn.batch l.fn.journal l.fn.in_force)
      (filled l.batch l.journal l.in_force) l.engine;
  sure : (P : PlainPolicy) (T : Trace) → g.E.Engine.follows l.fn.engine P T → HasSure P T l.lines l.batch.sure l.line-index;
  sized : IsSized l.batch.size l.batch.entries (batch_of l.journal);
  batch : IsBatch l.journal;
  disk : disk_of l.journal ≡ disk_of l.fn.journal;
  gate : gate_of l.journal ≡ gate_of l.fn.journal;
  version : version_of l.journal ≡ version_of l.fn.journal;
  closed : IsClosed g.D.Disk.seen l.fn.journal → IsClosed g.D.Disk.seen l.journal;
}
