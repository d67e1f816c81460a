use Rattle.std.proofs.Common.{None}
use Rattle.ucon_base.specs.Reading.{opened, members}
use Rattle.ucon_base.proofs.SetsRead.{told_long, told_many, told_found}
use Rattle.ucon_base.proofs.members.spelled.Goals as goal

pub returns-in-Some-clause-read : goal.returns-in-Some-clause-read
returns-in-Some-clause-read c =
    told_long (members None opened 1 c.args.bytes.now) c.in_ok-found.found c.in-Some.at c.in_ok-found.ensures c.in-Some.is

pub returns-in-None-clause-read : goal.returns-in-None-clause-read
returns-in-None-clause-read c =
    told_many (members None opened 1 c.args.bytes.now) c.in_ok-found.found c.in_ok-found.ensures c.in-None.is c.if-found-gt-MOST_TEXTS.true

pub returns-in-None-2-clause-read : goal.returns-in-None-2-clause-read
returns-in-None-2-clause-read c =
    told_found (members None opened 1 c.args.bytes.now) c.in_ok-found.found c.in_ok-found.ensures c.in-None-2.is c.if-found-gt-MOST_TEXTS.false
