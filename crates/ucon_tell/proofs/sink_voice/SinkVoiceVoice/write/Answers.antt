use Rattle.ucon_tell.proofs.Dating.{held_is_told, nothing_else_told, still_told}
use Rattle.ucon_tell.proofs.sink_voice.SinkVoiceVoice.write.Goals as goal

pub returns-clause-noted : goal.returns-clause-noted
returns-clause-noted g c = held_is_told c.args.self.now.notes c.push.new.self (g.W.Sink.seen c.write.new.self) (g.K.Keeper.seen c.args.keeper.now) c.push.ensures

pub returns-clause-notes : goal.returns-clause-notes
returns-clause-notes g c = record {
  kept = λ b t told. still_told c.args.self.now.notes c.push.new.self (g.W.Sink.seen c.write.new.self) (g.K.Keeper.seen c.args.keeper.now) c.push.ensures b t told;
  nothing_else = λ b t told. nothing_else_told c.args.self.now.notes c.push.new.self (g.W.Sink.seen c.write.new.self) (g.K.Keeper.seen c.args.keeper.now) c.push.ensures b t told;
}
