use Rattle.std.proofs.Common.{[], inr, subst}
use Rattle.std.specs.Prelude.{List, ℕ, Result}
use Rattle.ucon_flow.specs.Lines.{Reading}
use Rattle.ucon_syntax.specs.Policies.{accepted}
use Rattle.ucon_tell.specs.Heard.{Hears}
use Rattle.ucon_tell.specs.declared.talk_fault.TalkFault.{TalkFault}
use Rattle.ucon_converse.specs.Answering.{Answering}
use Rattle.ucon_converse.specs.Ended.{IsTalkedOver}
use Rattle.ucon_converse.proofs.Behind.{held_over}
use Rattle.ucon_converse.proofs.Ended.{some_is}
use Rattle.ucon_converse.proofs.opening.converse_under.Goals as goal

pub returns-in-Ok-clause-ends : goal.returns-in-Ok-clause-ends
returns-in-Ok-clause-ends g c =
    let seen = g.D.Disk.seen in
    let text = c.args.text.now in
    let store = c.in-Ok.store in
    let told = c.in-Ok.ensures in
    let P = some_is (accepted text) c.requires in
    let old = g.V.Voice.seen c.args.out.now in
    let new = g.V.Voice.seen c.converse_over.new.out in
    let so : List ℕ → Result (Unit {0}) TalkFault → List ℕ → Type 0 =
    λ held r heard. Hears r held c.converse_over.new.lines.held (g.S.Source.seen c.args.input.now).left (g.S.Source.seen c.converse_over.new.input).left heard in
    let first : Answering g.row.D.Denot = record { store = store; made = []; tried = store.before } in
    let over : IsTalkedOver seen first c.converse_over.result.disk c.converse_over.result.outcome old new (so c.args.lines.now.held) =
    subst (λ (l : Reading). IsTalkedOver seen first c.converse_over.result.disk c.converse_over.result.outcome old new (so l.held)) c.limit_to.ensures c.converse_over.ensures.talked in
    inr (
    held_over seen g.met.D.Disk.only_now g.met.D.Disk.as_read text P.0 P.1 c.args.disk store told.store.0 told.store.2 told.since told.unfailed told.tells
    told.begins told.places told.old (told.leads P.0 P.1) (told.seen P.0 P.1)
    c.converse_over.result.disk c.converse_over.result.outcome old new (so c.args.lines.now.held) over
    (λ file H is found. told.founded P.0 file H P.1 is found)
    )
