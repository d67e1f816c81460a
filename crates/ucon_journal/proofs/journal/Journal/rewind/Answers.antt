use Rattle.std.proofs.Common.{inl, refl}
use Rattle.ucon_journal.proofs.Told.{all_read, rewound}
use Rattle.ucon_journal.proofs.journal.Journal.rewind.Goals as goal

pub returns-clause-reading : goal.returns-clause-reading
returns-clause-reading g c = record {
  phase = inl refl;
  told = rewound c.args.self.now.version c.args.self.now.gate (g.D.Disk.seen c.args.self.now.disk).contents c.requires.told;
  len = c.requires.len;
  ahead = c.requires.ahead;
}

pub returns-clause-all : goal.returns-clause-all
returns-clause-all g c =
    let version = c.args.self.now.version in
    all_read version (g.D.Disk.seen c.args.self.now.disk).contents (rewound version c.args.self.now.gate (g.D.Disk.seen c.args.self.now.disk).contents c.requires.told)
