use Rattle.std.proofs.Common.{◌^◌, ◌<◌, [], ◌∷◌, ◌++◌, length, ◌∙◌, arith}
use Rattle.ucon_journal.specs.Journal.{batch_of}
use Rattle.ucon_journal.proofs.Batches.{batch_is, batch_from, short_more}
use Rattle.ucon_journal.proofs.journal.Journal.put.Goals as goal

pub returns-clause-batch : goal.returns-clause-batch
returns-clause-batch g c =
    let ps = batch_of c.args.self.now in
    let p = c.args.payload.now in
    let one : length p < 2 ^ 32 = omega arith in
    let from = batch_from c.put_record.new.buffer.items (ps ++ p ∷ []) (short_more ps p c.requires.batch.short one) (c.put_record.ensures.put ps (c.in_ok-reserve.ensures.items ∙ c.requires.batch.bytes)) in
    record { bytes = from.0; short = from.1 }

pub returns-clause-put : goal.returns-clause-put
returns-clause-put g c =
    let ps = batch_of c.args.self.now in
    let p = c.args.payload.now in
    let one : length p < 2 ^ 32 = omega arith in
    batch_is c.put_record.new.buffer.items (ps ++ p ∷ []) (short_more ps p c.requires.batch.short one) (c.put_record.ensures.put ps (c.in_ok-reserve.ensures.items ∙ c.requires.batch.bytes))
