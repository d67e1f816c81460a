use Rattle.std.proofs.Common.{rules, ◌≡◌, ◌+◌, ◌<◌, get_or, length, sym, ap, ◌∙◌, subst}
use Rattle.std.specs.Prelude.{IfSome, Option, Some}
use Rattle.ucon_script.specs.declared.document.Line.{Line}
use Rattle.ucon_client.specs.declared.looks.Looks.{Looks}
use Rattle.ucon_client.specs.declared.part.Part.{Part}
use Rattle.ucon_client.specs.Answers.{HoldsLooks, ServesWith, taken}
use Rattle.ucon_client.specs.Steps.{HasStepped, base_of}
use Rattle.ucon_client.proofs.Counting.{line_at}
use Rattle.ucon_client.proofs.Held.{still_held}
use Rattle.ucon_client.proofs.Turning.{serves_next, serves_on}
use Rattle.ucon_client.proofs.client.Client.answer_behind.Goals as goal

pub returns-in_default-said-clause-serves : goal.returns-in_default-said-clause-serves
returns-in_default-said-clause-serves g c =
    let turn = c.args.turn.now in
    let called = c.call-said.ensures in
    let d = called.did in
    let none = subst (HasStepped (base_of turn.opened) c.index-slice-place.result c.in-Some.looks c.call-said.new.job.looks d.0 c.call-said.new.seat.seen) c.in_default-said.is d.3 in
    subst (ServesWith turn c.args.self.now.part c.call-said.new.seat) (sym c.take.ensures.after)
    (serves_on turn c.args.self.now.part c.args.self.now.seat c.call-said.new.seat d.0 c.requires.serves.0 called.turn called.kept.0 d.1 none.0 none.1)

pub take_in-requires-clause-held : goal.take_in-requires-clause-held
take_in-requires-clause-held g c =
    let turn = c.args.turn.now in
    let was : Part = c.args.self.now.part in
    let d = c.call-said.ensures.did in
    let l : Looks = c.in-Some.looks in
    let k : Looks = c.call-said.new.job.looks in
    let holds : HoldsLooks turn was l = subst (λ (o : Option Looks). IfSome o (HoldsLooks turn was)) (sym c.take.ensures.value ∙ c.in-Some.is) c.requires.serves.1 in
    let some = subst (HasStepped (base_of turn.opened) c.index-slice-place.result l k d.0 c.call-said.new.seat.seen) c.in-Some-said.is d.3 in
    still_held was l k holds.held some.0.held some.0.last some.0.later

pub returns-clause-serves : goal.returns-clause-serves
returns-clause-serves g c =
    let turn = c.args.turn.now in
    let was : Part = c.args.self.now.part in
    let called = c.call-said.ensures in
    let d = called.did in
    let l : Looks = c.in-Some.looks in
    let k : Looks = c.call-said.new.job.looks in
    let line : Line = c.index-slice-place.result in
    let old : c.args.self.now.looks ≡ Some l = sym c.take.ensures.value ∙ c.in-Some.is in
    let holds : HoldsLooks turn was l = subst (λ (o : Option Looks). IfSome o (HoldsLooks turn was)) old c.requires.serves.1 in
    let more = subst (λ (o : Option Looks). taken was o < length was.lines.items) old c.requires.more in
    let here : c.taken-place.result ≡ length was.answers.items + length l.held.items = c.taken-place.ensures.taken ∙ ap (taken was) old in
    let at : line ≡ get_or was.lines.items (length was.answers.items + length l.held.items) line = search rules in
    let own = line_at (λ l. l.caller.0 ≡ was.number) was.lines.items (length was.answers.items + length l.held.items) line more at c.requires.serves.0.part.own in
    let some = subst (HasStepped (base_of turn.opened) line l k d.0 c.call-said.new.seat.seen) c.in-Some-said.is d.3 in
    let t = c.take_in.ensures in
    serves_next turn was c.take_in.new.part c.args.self.now.seat c.call-said.new.seat l k c.take_in.result line
    c.in-Some-said.answer d.0 c.requires.serves.0 holds called.turn called.kept.0 t.kept t.part t.answers more at own d.1 some.0 some.1 t.looks
