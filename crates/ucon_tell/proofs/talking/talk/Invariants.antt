use Rattle.std.proofs.Common.{◌≡◌, Ok}
use Rattle.ucon_tell.specs.Heard.{TakesLines}
use Rattle.ucon_tell.specs.Talk.{HasTalked}
use Rattle.ucon_tell.proofs.talking.talk.Given as goal

-- all rounds so far were answered, and their replies told
abbrev pub invariant-loop-round : goal.invariant-loop-round
invariant-loop-round g l = record {
  talked : HasTalked g.K.Keeper.seen g.K.Keeper.stays g.K.Keeper.answers g.K.Keeper.refuses l.fn.lines.limit (Ok tt) l.fn.keeper l.keeper (g.V.Voice.seen l.fn.out) (g.V.Voice.seen l.out)
      (TakesLines l._round l.fn.lines.held l.lines.held (g.S.Source.seen l.fn.input).left (g.S.Source.seen l.input).left);
  stays : g.K.Keeper.stays l.fn.keeper l.keeper;
  limit : l.lines.limit ≡ l.fn.lines.limit;
  source : (g.S.Source.seen l.input).faults ≡ (g.S.Source.seen l.fn.input).faults;
  sink : (g.V.Voice.seen l.out).faults ≡ (g.V.Voice.seen l.fn.out).faults;
}
