use Rattle.std.proofs.Common.{ℕ, subst}
use Rattle.ucon_tell.specs.Noted.{HasNoted}
use Rattle.ucon_tell.proofs.Noting.{is_noted, nothing_else_noted, still_noted}
use Rattle.ucon_tell.proofs.memory.MemVoiceVoice.write.Given.{Over}
use Rattle.ucon_tell.proofs.memory.MemVoiceVoice.write.Goals as goal

-- what was held is noted by the moment of the keeper's disk
has_noted : (g : Over) (c : goal.In-Ok g) → HasNoted c.args.self.now.notes.items c.hold.new.self.notes.items c.hold.new.self.bytes.items (g.K.Keeper.seen c.args.keeper.now).moment
has_noted g c =
    subst (λ (t : ℕ). HasNoted c.args.self.now.notes.items c.hold.new.self.notes.items c.hold.new.self.bytes.items t) c.moment.ensures c.in-Ok.ensures.noted

pub returns-in-Ok-clause-noted : goal.returns-in-Ok-clause-noted
returns-in-Ok-clause-noted g c =
    is_noted c.args.self.now.notes.items c.hold.new.self.notes.items c.hold.new.self.bytes.items (g.K.Keeper.seen c.args.keeper.now).moment (has_noted g c)

pub returns-in-Ok-clause-notes : goal.returns-in-Ok-clause-notes
returns-in-Ok-clause-notes g c = record {
  kept = λ b t. still_noted c.args.self.now.notes.items c.hold.new.self.notes.items c.hold.new.self.bytes.items (g.K.Keeper.seen c.args.keeper.now).moment (has_noted g c) b t;
  nothing_else = λ b t. nothing_else_noted c.args.self.now.notes.items c.hold.new.self.notes.items c.hold.new.self.bytes.items (g.K.Keeper.seen c.args.keeper.now).moment (has_noted g c) b t;
}
