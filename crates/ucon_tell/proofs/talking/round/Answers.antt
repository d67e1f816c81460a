use Rattle.std.proofs.Common.{rules, ◌≡◌, Ok, Err, Bool, ℕ, List, [], refl, sym, subst}
use Rattle.std.specs.Prelude.{Result}
use Rattle.ucon_tell.specs.Heard.{Hears, HearsNext, HearsRound, HoldsLines, SkipsLine, TakesHeld, TakesLines, adds_line, by_round}
use Rattle.ucon_tell.specs.Talk.{HasTalked}
use Rattle.ucon_tell.specs.declared.talk_fault.TalkFault.{TalkFault}
use Rattle.ucon_tell.specs.declared.talking.Heard.{Heard}
use Rattle.ucon_tell.proofs.Hearing.{held_ended, held_taken, next_fault, skip_ended, skip_taken}
use Rattle.ucon_tell.proofs.Talked.{ended, heard_so, no_sink, not_begun}
use Rattle.ucon_tell.proofs.talking.round.Goals as goal

pub returns-in_err-hear-clause-talked : goal.returns-in_err-hear-clause-talked
returns-in_err-hear-clause-talked g c =
    let e = c.in_err-hear.field-0.0 in
    let limit = c.args.lines.now.limit in
    let h = c.args.lines.now.held in
    let l = (g.S.Source.seen c.args.input.now).left in
    let l1 = (g.S.Source.seen c.hear.new.input).left in
    let first = c.args.keeper.now in
    let old = g.V.Voice.seen c.args.out.now in
    let h1 = c.hear.new.lines.held in
    let is : c.from_residual.result ≡ Err e = search rules in
    let next = next_fault e limit h h1 l l1 c.in_err-hear.ensures.next in
    subst (λ (s : Result Bool TalkFault). HasTalked g.K.Keeper.seen g.K.Keeper.stays g.K.Keeper.answers g.K.Keeper.refuses limit (by_round s) first first old old (HearsRound s h h1 l l1)) (sym is)
    (ended g.K.Keeper.seen g.K.Keeper.stays g.met.K.Keeper.kept g.met.K.Keeper.onward g.met.K.Keeper.same g.met.K.Keeper.again g.K.Keeper.answers g.K.Keeper.refuses limit (Err e) first first old old (λ ls. ls ≡ []) (Hears (Err e) h h1 l l1) (λ ls none. subst (λ (x : List ℕ). Hears (Err e) h h1 l l1 x) (sym none) next.0) (no_sink e next.1)
    (not_begun g.K.Keeper.seen g.K.Keeper.stays g.met.K.Keeper.kept g.met.K.Keeper.onward g.met.K.Keeper.same g.met.K.Keeper.again g.K.Keeper.answers g.K.Keeper.refuses limit first old (λ ls. ls ≡ []) refl))

pub returns-in_err-answer-in-Lines-clause-talked : goal.returns-in_err-answer-in-Lines-clause-talked
returns-in_err-answer-in-Lines-clause-talked g c =
    let e = c.in_err-answer-in-Lines.field-0.0 in
    let limit = c.args.lines.now.limit in
    let h = c.args.lines.now.held in
    let l = (g.S.Source.seen c.args.input.now).left in
    let l1 = (g.S.Source.seen c.hear.new.input).left in
    let first = c.args.keeper.now in
    let old = g.V.Voice.seen c.args.out.now in
    let p : HoldsLines limit h c.hear.new.lines.held l l1 = subst (λ (x : Heard). HearsNext (Ok x) limit h c.hear.new.lines.held l l1) c.in-Lines.is c.in_ok-hear.ensures.next in
    let m = c.hear.new.lines.held in
    let h1 = c.answer.new.lines.held in
    let last = c.answer.new.keeper in
    let new = g.V.Voice.seen c.answer.new.out in
    let is : c.from_residual-in_err-answer-in-Lines.result ≡ Err e = search rules in
    let talked = subst (λ (n : ℕ). HasTalked g.K.Keeper.seen g.K.Keeper.stays g.K.Keeper.answers g.K.Keeper.refuses n (Err e) first last old new (TakesHeld (Err e) m h1)) c.hear.ensures.limit c.in_err-answer-in-Lines.ensures.talked in
    subst (λ (s : Result Bool TalkFault). HasTalked g.K.Keeper.seen g.K.Keeper.stays g.K.Keeper.answers g.K.Keeper.refuses limit (by_round s) first last old new (HearsRound s h h1 l l1)) (sym is)
    (heard_so g.K.Keeper.seen g.K.Keeper.stays g.met.K.Keeper.kept g.met.K.Keeper.onward g.met.K.Keeper.same g.met.K.Keeper.again g.K.Keeper.answers g.K.Keeper.refuses limit (Err e) first last old new (TakesHeld (Err e) m h1) (Hears (Err e) h h1 l l1) (λ ls q. held_ended e limit h m h1 l l1 ls p q) talked)

pub returns-in_ok-answer-in-Lines-clause-talked : goal.returns-in_ok-answer-in-Lines-clause-talked
returns-in_ok-answer-in-Lines-clause-talked g c =
    let limit = c.args.lines.now.limit in
    let h = c.args.lines.now.held in
    let l = (g.S.Source.seen c.args.input.now).left in
    let l1 = (g.S.Source.seen c.hear.new.input).left in
    let first = c.args.keeper.now in
    let old = g.V.Voice.seen c.args.out.now in
    let p : HoldsLines limit h c.hear.new.lines.held l l1 = subst (λ (x : Heard). HearsNext (Ok x) limit h c.hear.new.lines.held l l1) c.in-Lines.is c.in_ok-hear.ensures.next in
    let m = c.hear.new.lines.held in
    let h1 = c.answer.new.lines.held in
    let last = c.answer.new.keeper in
    let new = g.V.Voice.seen c.answer.new.out in
    let talked = subst (λ (n : ℕ). HasTalked g.K.Keeper.seen g.K.Keeper.stays g.K.Keeper.answers g.K.Keeper.refuses n (Ok tt) first last old new (TakesHeld (Ok tt) m h1)) c.hear.ensures.limit c.in_ok-answer-in-Lines.ensures.talked in
    heard_so g.K.Keeper.seen g.K.Keeper.stays g.met.K.Keeper.kept g.met.K.Keeper.onward g.met.K.Keeper.same g.met.K.Keeper.again g.K.Keeper.answers g.K.Keeper.refuses limit (Ok tt) first last old new (TakesHeld (Ok tt) m h1) (TakesLines 1 h h1 l l1) (λ ls q. held_taken limit h m h1 l l1 ls p q) talked

pub returns-in_err-refuse-in-TooLong-clause-talked : goal.returns-in_err-refuse-in-TooLong-clause-talked
returns-in_err-refuse-in-TooLong-clause-talked g c =
    let e = c.in_err-refuse-in-TooLong.field-0.0 in
    let limit = c.args.lines.now.limit in
    let h = c.args.lines.now.held in
    let l = (g.S.Source.seen c.args.input.now).left in
    let l1 = (g.S.Source.seen c.hear.new.input).left in
    let first = c.args.keeper.now in
    let old = g.V.Voice.seen c.args.out.now in
    let p : SkipsLine limit h c.hear.new.lines.held l l1 = subst (λ (x : Heard). HearsNext (Ok x) limit h c.hear.new.lines.held l l1) c.in-TooLong.is c.in_ok-hear.ensures.next in
    let h1 = c.hear.new.lines.held in
    let new = g.V.Voice.seen c.refuse.new.out in
    let is : c.from_residual-in_err-refuse-in-TooLong.result ≡ Err e = search rules in
    subst (λ (s : Result Bool TalkFault). HasTalked g.K.Keeper.seen g.K.Keeper.stays g.K.Keeper.answers g.K.Keeper.refuses limit (by_round s) first first old new (HearsRound s h h1 l l1)) (sym is)
    (heard_so g.K.Keeper.seen g.K.Keeper.stays g.met.K.Keeper.kept g.met.K.Keeper.onward g.met.K.Keeper.same g.met.K.Keeper.again g.K.Keeper.answers g.K.Keeper.refuses limit (Err e) first first old new (adds_line (Err e) p.line) (Hears (Err e) h h1 l l1) (λ ls q. skip_ended e limit h h1 l l1 p ls q)
    (c.in_err-refuse-in-TooLong.ensures.talked limit p.line p.bare p.long))

pub returns-in_ok-refuse-in-TooLong-clause-talked : goal.returns-in_ok-refuse-in-TooLong-clause-talked
returns-in_ok-refuse-in-TooLong-clause-talked g c =
    let limit = c.args.lines.now.limit in
    let h = c.args.lines.now.held in
    let l = (g.S.Source.seen c.args.input.now).left in
    let l1 = (g.S.Source.seen c.hear.new.input).left in
    let first = c.args.keeper.now in
    let old = g.V.Voice.seen c.args.out.now in
    let p : SkipsLine limit h c.hear.new.lines.held l l1 = subst (λ (x : Heard). HearsNext (Ok x) limit h c.hear.new.lines.held l l1) c.in-TooLong.is c.in_ok-hear.ensures.next in
    let h1 = c.hear.new.lines.held in
    let new = g.V.Voice.seen c.refuse.new.out in
    heard_so g.K.Keeper.seen g.K.Keeper.stays g.met.K.Keeper.kept g.met.K.Keeper.onward g.met.K.Keeper.same g.met.K.Keeper.again g.K.Keeper.answers g.K.Keeper.refuses limit (Ok tt) first first old new (adds_line (Ok tt) p.line) (TakesLines 1 h h1 l l1) (λ ls q. skip_taken limit h h1 l l1 p ls q)
    (c.in_ok-refuse-in-TooLong.ensures.talked limit p.line p.bare p.long)
