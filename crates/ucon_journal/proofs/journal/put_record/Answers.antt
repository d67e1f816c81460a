use Rattle.ucon_journal.proofs.Batches.{batch_put}
use Rattle.ucon_journal.proofs.journal.put_record.Goals as goal

pub returns-clause-put : goal.returns-clause-put
returns-clause-put c = λ ps is.
    batch_put ps c.args.payload.now c.args.buffer.now.items c.open_last.new.buffer.items c.stage.new.buffer.items is c.open_last.ensures.none c.open_last.ensures.opened c.stage.ensures.staged
