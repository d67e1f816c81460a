use Rattle.std.proofs.Common.{rules, ◌≡◌, ℕ, ◌+◌, List, get_or, length, ap, sym, ◌∙◌, subst, arith}
use Rattle.std.proofs.lemmas.List.{length_push}
use Rattle.std.specs.Prelude.{IfSome, Option}
use Rattle.ucon_base.specs.Elements.{Each}
use Rattle.ucon_base.specs.Seen.{Seen}
use Rattle.ucon_script.specs.declared.document.Line.{Line}
use Rattle.ucon_client.specs.declared.looks.Looks.{Looks}
use Rattle.ucon_client.specs.declared.part.Part.{Part}
use Rattle.ucon_client.specs.Answers.{HoldsLooks, IsPart}
use Rattle.ucon_client.proofs.Counting.{line_at}
use Rattle.ucon_client.proofs.Turning.{serves_alone}
use Rattle.ucon_client.proofs.client.Client.answer_next.Goals as goal

pub returns-clause-serves : goal.returns-clause-serves
returns-clause-serves g c =
    let turn = c.args.turn.now in
    let was : Part = c.args.self.now.part in
    let now : Part = c.add.new.self in
    let s = c.requires.serves.0 in
    let called = c.call-answer.ensures in
    let d = called.did in
    let line : Line = c.index-slice-len.result in
    let at : line ≡ get_or was.lines.items (length was.answers.items) line = search rules in
    let own = line_at (λ l. l.caller.0 ≡ was.number) was.lines.items (length was.answers.items) line c.requires.more at s.part.own in
    let kept = c.add.ensures.kept in
    let longer : length now.answers.items ≡ length was.answers.items + 1 =
    ap length c.add.ensures.answers ∙ length_push was.answers.items c.call-answer.result in
    let lines : length now.lines.items ≡ length was.lines.items = ap (λ (x : Seen Line). length x.items) kept.1 in
    let part : IsPart now = record {
      few = omega (arith, kept.0, s.part.few);
      own = subst (λ (z : ℕ × List Line). Each (λ l. l.caller.0 ≡ z.0) z.1) (λ i. (sym kept.0 i, (sym kept.1 i).items)) s.part.own;
      first = omega (arith, longer, lines, c.requires.more);
      room = omega (arith, longer, lines, s.part.room, c.add.ensures.spare);
    } in (
      serves_alone turn was now c.args.self.now.seat c.call-answer.new.seat line c.call-answer.result d.0 s called.turn called.kept.0 kept part
          c.add.ensures.answers c.requires.more at own d.1 d.3,
      subst (λ (o : Option Looks). IfSome o (HoldsLooks turn now)) (sym c.requires.alone) tt,
    )

pub returns-clause-answers : goal.returns-clause-answers
returns-clause-answers g c =
    let was : Part = c.args.self.now.part in
    let d = c.call-answer.ensures.did in
    let line : Line = c.index-slice-len.result in
    let at : line ≡ get_or was.lines.items (length was.answers.items) line = search rules in
    record {
      line = line;
      answer = c.call-answer.result;
      before = d.0;
      next = at;
      answers = c.add.ensures.answers;
      others = d.1;
      step = d.3;
    }
