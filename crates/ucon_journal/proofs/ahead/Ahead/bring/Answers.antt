use Rattle.std.proofs.Common.{refl}
use Rattle.ucon_journal.specs.Ahead.{IsPartOf}
use Rattle.ucon_journal.proofs.Reading.{part_at}
use Rattle.ucon_journal.proofs.Told.{told_at, if_told}
use Rattle.ucon_journal.proofs.ahead.Ahead.bring.Goals as goal

pub returns-then-has-clause-there : goal.returns-then-has-clause-there
returns-then-has-clause-there g c = if_told (g.D.Disk.seen c.args.disk.now).contents _ (λ file is.
    let ahead = c.args.self.now in
    part_at file ahead.bytes.items ahead.place c.args.at c.args.n (told_at (IsPartOf ahead) file is c.requires) (c.if-has.ensures.place refl) (c.if-has.ensures.all refl))
