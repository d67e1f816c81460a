use Rattle.std.proofs.Common.{inl, refl}
use Rattle.ucon_journal.proofs.Leading.{led_left, led_stands}
use Rattle.ucon_journal.proofs.journal.Journal.go_to.Goals as goal

pub returns-clause-reading : goal.returns-clause-reading
returns-clause-reading g c = record {
  phase = inl refl;
  told = led_stands c.args.self.now.version c.args.self.now.gate c.args.gate (g.D.Disk.seen c.args.self.now.disk).contents c.requires.reading.told c.requires.leads;
  len = c.requires.reading.len;
  ahead = c.requires.reading.ahead;
}

pub returns-clause-left : goal.returns-clause-left
returns-clause-left g c =
    led_left c.args.self.now.version c.args.self.now.gate c.args.gate (g.D.Disk.seen c.args.self.now.disk).contents c.requires.reading.told
