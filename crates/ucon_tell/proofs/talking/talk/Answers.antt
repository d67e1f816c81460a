use Rattle.std.proofs.Common.{rules, ◌≡◌, ◌+◌, Ok, Err, Bool, true, false, ℕ, List, arith, refl, sym, subst}
use Rattle.std.specs.Prelude.{Result}
use Rattle.ucon_tell.specs.Heard.{Hears, HearsRound, TakesLines}
use Rattle.ucon_tell.specs.Talk.{HasTalked}
use Rattle.ucon_tell.specs.declared.talk_fault.TalkFault.{TalkFault}
use Rattle.ucon_tell.specs.declared.talk_fault.TalkFault.TheVariants as faults
use Rattle.ucon_tell.proofs.Hearing.{hears_endless, hears_on, none_taken, taken_on}
use Rattle.ucon_tell.proofs.Talked.{ended, not_begun, talked_on}
use Rattle.ucon_tell.proofs.talking.talk.Goals as goal

pub loop-round-init : goal.loop-round-init
loop-round-init g c =
    let held = c.args.lines.now.held in
    let left = (g.S.Source.seen c.args.input.now).left in
    record {
      talked =
          not_begun g.K.Keeper.seen g.K.Keeper.stays g.met.K.Keeper.kept g.met.K.Keeper.onward g.met.K.Keeper.same g.met.K.Keeper.again g.K.Keeper.answers g.K.Keeper.refuses c.args.lines.now.limit c.args.keeper.now (g.V.Voice.seen c.args.out.now)
          (TakesLines 0 held held left left) (none_taken held left);
      stays = g.met.K.Keeper.same c.args.keeper.now;
      limit = refl;
      source = refl;
      sink = refl;
    }

pub returns-in_err-round-clause-talked : goal.returns-in_err-round-clause-talked
returns-in_err-round-clause-talked g c =
    let e = c.in_err-round.field-0.0 in
    let n = c.loop-round._round in
    let limit = c.args.lines.now.limit in
    let h0 = c.args.lines.now.held in
    let h = c.loop-round.lines.held in
    let l0 = (g.S.Source.seen c.args.input.now).left in
    let l = (g.S.Source.seen c.loop-round.input).left in
    let first = c.args.keeper.now in
    let mid = c.loop-round.keeper in
    let v0 = g.V.Voice.seen c.args.out.now in
    let v1 = g.V.Voice.seen c.loop-round.out in
    let h1 = c.round.new.lines.held in
    let l1 = (g.S.Source.seen c.round.new.input).left in
    let last = c.round.new.keeper in
    let v2 = g.V.Voice.seen c.round.new.out in
    let so_far : List ℕ → Type 0 = TakesLines n h0 h l0 l in
    let r = c.from_residual.result in
    let is : r ≡ Err e = search rules in
    let one = subst (λ (k : ℕ). HasTalked g.K.Keeper.seen g.K.Keeper.stays g.K.Keeper.answers g.K.Keeper.refuses k (Err e) mid last v1 v2 (Hears (Err e) h h1 l l1)) c.loop-round.invariant.limit c.in_err-round.ensures.talked in
    let all : List ℕ → Type 0 = Hears (Err e) h0 h1 l0 l1 in
    subst (λ (s : Result (Unit {0}) TalkFault). HasTalked g.K.Keeper.seen g.K.Keeper.stays g.K.Keeper.answers g.K.Keeper.refuses limit s first last v0 v2 (Hears s h0 h1 l0 l1)) (sym is)
    (talked_on g.K.Keeper.seen g.K.Keeper.stays g.met.K.Keeper.kept g.met.K.Keeper.onward g.met.K.Keeper.same g.met.K.Keeper.again g.K.Keeper.answers g.K.Keeper.refuses limit (Err e) first mid last v0 v1 v2 so_far (Hears (Err e) h h1 l l1) all (λ ls more p q. hears_on (Err e) n h0 h h1 l0 l l1 ls more p q)
    c.round.ensures.stays c.loop-round.invariant.talked one)

pub returns-in_err-round-clause-stays : goal.returns-in_err-round-clause-stays
returns-in_err-round-clause-stays g c = g.met.K.Keeper.again c.args.keeper.now c.loop-round.keeper c.round.new.keeper c.loop-round.invariant.stays c.round.ensures.stays

pub returns-then-not-branch-clause-talked : goal.returns-then-not-branch-clause-talked
returns-then-not-branch-clause-talked g c =
    let n = c.loop-round._round in
    let limit = c.args.lines.now.limit in
    let h0 = c.args.lines.now.held in
    let h = c.loop-round.lines.held in
    let l0 = (g.S.Source.seen c.args.input.now).left in
    let l = (g.S.Source.seen c.loop-round.input).left in
    let first = c.args.keeper.now in
    let mid = c.loop-round.keeper in
    let v0 = g.V.Voice.seen c.args.out.now in
    let v1 = g.V.Voice.seen c.loop-round.out in
    let h1 = c.round.new.lines.held in
    let l1 = (g.S.Source.seen c.round.new.input).left in
    let last = c.round.new.keeper in
    let v2 = g.V.Voice.seen c.round.new.out in
    let so_far : List ℕ → Type 0 = TakesLines n h0 h l0 l in
    let over : c.in_ok-round.field-0 ≡ false = search rules in
    let one = subst (λ (z : Bool × ℕ). HasTalked g.K.Keeper.seen g.K.Keeper.stays g.K.Keeper.answers g.K.Keeper.refuses z.1 (Ok tt) mid last v1 v2 (HearsRound (Ok z.0) h h1 l l1)) (λ i. (over i, c.loop-round.invariant.limit i)) c.in_ok-round.ensures.talked in
    talked_on g.K.Keeper.seen g.K.Keeper.stays g.met.K.Keeper.kept g.met.K.Keeper.onward g.met.K.Keeper.same g.met.K.Keeper.again g.K.Keeper.answers g.K.Keeper.refuses limit (Ok tt) first mid last v0 v1 v2 so_far (Hears (Ok tt) h h1 l l1) (Hears (Ok tt) h0 h1 l0 l1) (λ ls more p q. hears_on (Ok tt) n h0 h h1 l0 l l1 ls more p q)
    c.round.ensures.stays c.loop-round.invariant.talked one

pub loop-round-preserved : goal.loop-round-preserved
loop-round-preserved g c =
    let n = c.loop-round._round in
    let limit = c.args.lines.now.limit in
    let h0 = c.args.lines.now.held in
    let h = c.loop-round.lines.held in
    let l0 = (g.S.Source.seen c.args.input.now).left in
    let l = (g.S.Source.seen c.loop-round.input).left in
    let first = c.args.keeper.now in
    let mid = c.loop-round.keeper in
    let v0 = g.V.Voice.seen c.args.out.now in
    let v1 = g.V.Voice.seen c.loop-round.out in
    let h1 = c.round.new.lines.held in
    let l1 = (g.S.Source.seen c.round.new.input).left in
    let last = c.round.new.keeper in
    let v2 = g.V.Voice.seen c.round.new.out in
    let so_far : List ℕ → Type 0 = TakesLines n h0 h l0 l in
    let going : c.in_ok-round.field-0 ≡ true = search rules in
    let one = subst (λ (z : Bool × ℕ). HasTalked g.K.Keeper.seen g.K.Keeper.stays g.K.Keeper.answers g.K.Keeper.refuses z.1 (Ok tt) mid last v1 v2 (HearsRound (Ok z.0) h h1 l l1)) (λ i. (going i, c.loop-round.invariant.limit i)) c.in_ok-round.ensures.talked in
    record {
      talked =
          talked_on g.K.Keeper.seen g.K.Keeper.stays g.met.K.Keeper.kept g.met.K.Keeper.onward g.met.K.Keeper.same g.met.K.Keeper.again g.K.Keeper.answers g.K.Keeper.refuses limit (Ok tt) first mid last v0 v1 v2 so_far (TakesLines 1 h h1 l l1) (TakesLines (n + 1) h0 h1 l0 l1)
          (λ ls more p q. taken_on n h0 h h1 l0 l l1 ls more p q) c.round.ensures.stays c.loop-round.invariant.talked one;
      stays = g.met.K.Keeper.again first mid last c.loop-round.invariant.stays c.round.ensures.stays;
      limit = search rules;
      source = search rules;
      sink = search rules;
    }

pub returns-clause-talked : goal.returns-clause-talked
returns-clause-talked g c =
    let n = c.loop-round._round in
    let limit = c.args.lines.now.limit in
    let h0 = c.args.lines.now.held in
    let h = c.loop-round.lines.held in
    let l0 = (g.S.Source.seen c.args.input.now).left in
    let l = (g.S.Source.seen c.loop-round.input).left in
    let first = c.args.keeper.now in
    let mid = c.loop-round.keeper in
    let v0 = g.V.Voice.seen c.args.out.now in
    let v1 = g.V.Voice.seen c.loop-round.out in
    ended g.K.Keeper.seen g.K.Keeper.stays g.met.K.Keeper.kept g.met.K.Keeper.onward g.met.K.Keeper.same g.met.K.Keeper.again g.K.Keeper.answers g.K.Keeper.refuses limit (Err faults.TooLong) first mid v0 v1 (TakesLines n h0 h l0 l) (Hears (Err faults.TooLong) h0 h l0 l)
    (λ ls p. hears_endless n h0 h l0 l ls (omega arith) p) (λ bad. absurd (cc bad)) c.loop-round.invariant.talked
