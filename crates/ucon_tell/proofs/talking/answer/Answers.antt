use Rattle.std.proofs.Common.{rules, ◌≡◌, inl, Ok, Err, ℕ, List, ◌++◌, drop, refl, sym, ap, subst, ◌∙◌}
use Rattle.std.specs.Prelude.{Result}
use Rattle.std.specs.Io.KnownBytes.{Appends}
use Rattle.ucon_base.specs.Elements.{Each}
use Rattle.ucon_flow.specs.Lines.{Reading}
use Rattle.ucon_flow.specs.Writing.{AppendsPrefix}
use Rattle.ucon_tell.specs.Heard.{TakesHeld}
use Rattle.ucon_tell.specs.Talk.{HasTalked}
use Rattle.ucon_tell.specs.Told.{IsWithin, TellsFronts, lines_of, replies_of}
use Rattle.ucon_tell.specs.declared.talk_fault.TalkFault.{TalkFault}
use Rattle.ucon_tell.specs.declared.talk_fault.TalkFault.TheVariants as faults
use Rattle.ucon_tell.proofs.Talked.{none_told, round_told, some_bytes, untold_held}
use Rattle.ucon_tell.proofs.talking.answer.Goals as goal

pub returns-in_err-taken-clause-talked : goal.returns-in_err-taken-clause-talked
returns-in_err-taken-clause-talked g c =
    let e = c.in_err-taken.field-0.0 in
    let limit = c.args.lines.now.limit in
    let held = c.args.lines.now.held in
    let is : c.from_residual.result ≡ Err (faults.NoMemory e) = search rules in
    let v = g.V.Voice.seen c.args.out.now in
    subst (λ (r : Result (Unit {0}) TalkFault). HasTalked g.K.Keeper.seen g.K.Keeper.stays g.K.Keeper.answers g.K.Keeper.refuses limit r c.args.keeper.now c.answer.new.self v v (TakesHeld r held held)) (sym is)
    (none_told g.K.Keeper.seen g.K.Keeper.stays g.met.K.Keeper.kept g.met.K.Keeper.onward g.met.K.Keeper.same g.met.K.Keeper.again g.K.Keeper.answers g.K.Keeper.refuses limit e c.args.keeper.now c.answer.new.self v (TakesHeld (Err (faults.NoMemory e)) held held) (held, refl)
    (untold_held g.K.Keeper.seen g.K.Keeper.stays g.met.K.Keeper.kept g.met.K.Keeper.onward g.met.K.Keeper.same g.met.K.Keeper.again g.K.Keeper.answers g.K.Keeper.refuses limit c.limit.result held c.held.result.now e c.args.keeper.now c.answer.new.self c.limit.ensures c.held.ensures c.in_err-taken.ensures.failed))

pub returns-in-Ok-clause-talked : goal.returns-in-Ok-clause-talked
returns-in-Ok-clause-talked g c =
    let limit = c.args.lines.now.limit in
    let before = c.args.lines.now.held in
    let held = c.give_out.new.self.held in
    let r = c.in_ok-taken.ensures.reply in
    let old = g.V.Voice.seen c.args.out.now in
    let new = g.V.Voice.seen c.tell_all.new.out in
    let is : c.deref.result.now ≡ replies_of r.told = c.deref.ensures.value ∙ (r.text ∙ ap (λ (l : List ℕ). l ++ replies_of r.told) c.clear.ensures.items) in
    let front : before ≡ lines_of r.told ++ drop c.in_ok-taken.taken before = subst (λ (l : List ℕ). l ≡ lines_of r.told ++ drop c.in_ok-taken.taken l) c.held.ensures r.front in
    let rest : held ≡ drop c.in_ok-taken.taken before = ap (λ (x : Reading). x.held) c.give_out.ensures in
    let all : before ≡ lines_of r.told ++ held = front ∙ ap (λ (l : List ℕ). lines_of r.told ++ l) (sym rest) in
    round_told g.K.Keeper.seen g.K.Keeper.stays g.met.K.Keeper.kept g.met.K.Keeper.onward g.met.K.Keeper.same g.met.K.Keeper.again g.K.Keeper.answers g.K.Keeper.refuses limit (Ok tt) c.args.keeper.now c.answer.new.self r.told old new (TakesHeld (Ok tt) before held)
    (inl (record { each = subst (λ (n : ℕ). Each (IsWithin n) r.told) c.limit.ensures r.each; answered = r.answered }))
    (subst (λ (l : List ℕ). Appends old.contents new.contents l) is c.in-Ok.ensures.ok)
    (subst (λ (l : List ℕ). TellsFronts old new l (g.K.Keeper.seen c.answer.new.self).moment) is c.tell_all.ensures.told)
    (all, some_bytes r.told r.some)

pub returns-in-Err-clause-talked : goal.returns-in-Err-clause-talked
returns-in-Err-clause-talked g c =
    let limit = c.args.lines.now.limit in
    let before = c.args.lines.now.held in
    let held = c.give_out.new.self.held in
    let r = c.in_ok-taken.ensures.reply in
    let old = g.V.Voice.seen c.args.out.now in
    let new = g.V.Voice.seen c.tell_all.new.out in
    let is : c.deref.result.now ≡ replies_of r.told = c.deref.ensures.value ∙ (r.text ∙ ap (λ (l : List ℕ). l ++ replies_of r.told) c.clear.ensures.items) in
    let front : before ≡ lines_of r.told ++ drop c.in_ok-taken.taken before = subst (λ (l : List ℕ). l ≡ lines_of r.told ++ drop c.in_ok-taken.taken l) c.held.ensures r.front in
    let rest : held ≡ drop c.in_ok-taken.taken before = ap (λ (x : Reading). x.held) c.give_out.ensures in
    let all : before ≡ lines_of r.told ++ held = front ∙ ap (λ (l : List ℕ). lines_of r.told ++ l) (sym rest) in
    round_told g.K.Keeper.seen g.K.Keeper.stays g.met.K.Keeper.kept g.met.K.Keeper.onward g.met.K.Keeper.same g.met.K.Keeper.again g.K.Keeper.answers g.K.Keeper.refuses limit (Err faults.SinkFault) c.args.keeper.now c.answer.new.self r.told old new (TakesHeld (Err faults.SinkFault) before held)
    (inl (record { each = subst (λ (n : ℕ). Each (IsWithin n) r.told) c.limit.ensures r.each; answered = r.answered }))
    (subst (λ (l : List ℕ). AppendsPrefix old.contents new.contents l) is c.in-Err.ensures.err)
    (subst (λ (l : List ℕ). TellsFronts old new l (g.K.Keeper.seen c.answer.new.self).moment) is c.tell_all.ensures.told)
    all
