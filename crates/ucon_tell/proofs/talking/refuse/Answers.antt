use Rattle.std.proofs.Common.{Ok, Err, ℕ, List, [], refl, sym, subst}
use Rattle.ucon_tell.specs.Told.{IsReplied}
use Rattle.ucon_tell.specs.declared.talk_fault.TalkFault.TheVariants as faults
use Rattle.ucon_tell.proofs.Talked.{refusal_told}
use Rattle.ucon_tell.proofs.talking.refuse.Goals as goal

pub returns-in-Ok-clause-talked : goal.returns-in-Ok-clause-talked
returns-in-Ok-clause-talked g c = λ limit line bare long.
    let text = c.deref.result.now in
    let old = g.V.Voice.seen c.args.out.now in
    let new = g.V.Voice.seen c.tell_all.new.out in
    let refuses = g.K.Keeper.refuses c.args.keeper.now in
    let reply : IsReplied refuses [] text =
    subst (λ (z : List ℕ × List ℕ). IsReplied refuses z.0 z.1) (λ i. (c.clear.ensures.items i, sym c.deref.ensures.value i)) c.in_ok-too_long.ensures.reply in
    refusal_told g.K.Keeper.seen g.K.Keeper.stays g.met.K.Keeper.kept g.met.K.Keeper.onward g.met.K.Keeper.same g.met.K.Keeper.again g.K.Keeper.answers g.K.Keeper.refuses limit (Ok tt) c.args.keeper.now line text old new bare long reply c.in-Ok.ensures.ok c.tell_all.ensures.told refl

pub returns-in-Err-clause-talked : goal.returns-in-Err-clause-talked
returns-in-Err-clause-talked g c = λ limit line bare long.
    let text = c.deref.result.now in
    let old = g.V.Voice.seen c.args.out.now in
    let new = g.V.Voice.seen c.tell_all.new.out in
    let refuses = g.K.Keeper.refuses c.args.keeper.now in
    let reply : IsReplied refuses [] text =
    subst (λ (z : List ℕ × List ℕ). IsReplied refuses z.0 z.1) (λ i. (c.clear.ensures.items i, sym c.deref.ensures.value i)) c.in_ok-too_long.ensures.reply in
    refusal_told g.K.Keeper.seen g.K.Keeper.stays g.met.K.Keeper.kept g.met.K.Keeper.onward g.met.K.Keeper.same g.met.K.Keeper.again g.K.Keeper.answers g.K.Keeper.refuses limit (Err faults.SinkFault) c.args.keeper.now line text old new bare long reply c.in-Err.ensures.err c.tell_all.ensures.told refl
