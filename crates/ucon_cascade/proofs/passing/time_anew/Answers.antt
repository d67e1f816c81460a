use Rattle.std.proofs.Common.{ℤ, List, subst, sym}
use Rattle.std.specs.Prelude.{Option}
use Rattle.ucon_cascade.specs.Timely.{AreTimely}
use Rattle.ucon_cascade.proofs.passing.time_anew.Goals as goal

pub returns-in_err-all-clause-undo : goal.returns-in_err-all-clause-undo
returns-in_err-all-clause-undo c = c.undoing_gives_what_is_kept.ensures.timers c.args.timers.now c.requires

pub returns-clause-timely : goal.returns-clause-timely
returns-clause-timely c = λ P T h. subst (λ (ds : List (Option ℤ)). AreTimely ds P T) (sym c.replace.ensures.deadlines) (c.in_ok-all.ensures P T h)
