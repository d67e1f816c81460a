use Rattle.std.proofs.Common.{◌≡◌, ◌+◌, [], ◌∷◌, length, arith, sym, ap, ◌∙◌}
use Rattle.std.proofs.lemmas.List.{append-nil, length_push}
use Rattle.ucon_client.specs.Live.{as_of}
use Rattle.ucon_client.proofs.Taking.{one_answered, serves_alone, serves_more}
use Rattle.ucon_client.proofs.live_client.answer.Goals as goal

pub answer_next-requires-clause-serves : goal.answer_next-requires-clause-serves
answer_next-requires-clause-serves g c =
    let client = c.args.client.now in
    serves_alone c.args.turn.now c.add_line.new.self client.seat client.looks
    (serves_more c.args.turn.now client.part c.add_line.new.self client.seat (as_of client.part.number c.args.line ∷ []) c.requires.serves c.requires.answered
    c.add_line.ensures.part c.add_line.ensures.number c.in-Ok.ensures.ok c.add_line.ensures.answers)
    c.requires.alone

pub returns-clause-answered : goal.returns-clause-answered
returns-clause-answered g c =
    let old = c.args.client.now.part in
    let was = c.add_line.new.self in
    let line = as_of old.number c.args.line in
    let lines : length was.lines.items ≡ length old.lines.items + 1 = ap (λ ls. length ls) c.in-Ok.ensures.ok ∙ length_push old.lines.items line in
    let long : length was.lines.items ≡ length was.answers.items + 1 =
    omega (arith, lines, c.requires.answered, ap (λ answers. length answers) c.add_line.ensures.answers) in
    one_answered c.args.turn.now was c.answer_next.new.self.part c.args.client.now.seat c.answer_next.new.self.seat.seen c.answer_next.ensures.answers
    c.answer_next.ensures.kept long

-- there was no room, so no line is there that wasn't
pub returns-in-Err-clause-serves : goal.returns-in-Err-clause-serves
returns-in-Err-clause-serves g c =
    let was = c.args.client.now.part in
    serves_more c.args.turn.now was c.add_line.new.self c.args.client.now.seat [] c.requires.serves c.requires.answered c.add_line.ensures.part
    c.add_line.ensures.number (c.in-Err.ensures.err ∙ sym (append-nil was.lines.items)) c.add_line.ensures.answers
