use Rattle.std.proofs.Common.{sym, ◌∙◌, subst}
use Rattle.std.specs.Prelude.{IfSome, Option}
use Rattle.ucon_client.specs.declared.looks.Looks.{Looks}
use Rattle.ucon_client.specs.declared.part.Part.{Part}
use Rattle.ucon_client.specs.Answers.{HoldsLooks, ServesWith}
use Rattle.ucon_client.specs.Steps.{HasConfirmed, base_of}
use Rattle.ucon_client.proofs.Turning.{serves_on, serves_settled}
use Rattle.ucon_client.proofs.client.Client.confirm.Goals as goal

pub returns-then-confirmed-clause-serves : goal.returns-then-confirmed-clause-serves
returns-then-confirmed-clause-serves g c =
    let turn = c.args.turn.now in
    let was : Part = c.args.self.now.part in
    let called = c.call-confirmed.ensures in
    let d = called.did in
    let l : Looks = c.in-Some.looks in
    let k : Looks = c.call-confirmed.new.job.looks in
    let holds : HoldsLooks turn was l =
    subst (λ (o : Option Looks). IfSome o (HoldsLooks turn was)) (sym c.take.ensures.value ∙ c.in-Some.is) c.requires.1 in
    let s = c.settle.ensures in
    serves_settled turn was c.settle.new.part c.args.self.now.seat c.call-confirmed.new.seat l k c.settle.result d.0
    c.requires.0 holds called.turn called.kept.0 s.kept s.answers s.spare d.1 d.3.1
    (subst (HasConfirmed (base_of turn.opened) l k d.0) c.if-confirmed.true d.3.0) s.looks

pub returns-else-confirmed-clause-serves : goal.returns-else-confirmed-clause-serves
returns-else-confirmed-clause-serves g c =
    let called = c.call-confirmed.ensures in
    let d = called.did in
    subst (ServesWith c.args.turn.now c.args.self.now.part c.call-confirmed.new.seat) (sym c.take.ensures.after)
    (serves_on c.args.turn.now c.args.self.now.part c.args.self.now.seat c.call-confirmed.new.seat d.0 c.requires.0 called.turn called.kept.0 d.1 d.3.1 d.3.0.ends)
