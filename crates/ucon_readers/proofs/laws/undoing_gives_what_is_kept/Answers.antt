use Rattle.ucon_readers.proofs.Placed.{kept_gives}
use Rattle.ucon_readers.proofs.Undoing.{kept_gives_deadlines}
use Rattle.ucon_readers.proofs.laws.undoing_gives_what_is_kept.Goals as goal

pub returns-clause-readers : goal.returns-clause-readers
returns-clause-readers c = kept_gives

pub returns-clause-timers : goal.returns-clause-timers
returns-clause-timers c = kept_gives_deadlines
