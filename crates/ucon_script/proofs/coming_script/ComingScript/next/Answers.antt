use Rattle.std.proofs.Common.{◌≡◌, Err, Ok, sym, ap, ◌∙◌}
use Rattle.std.specs.Prelude.{None, Some, Option, option_map}
use Rattle.ucon_script.specs.declared.line_text.LineText.{LineText}
use Rattle.ucon_script.specs.Coming.{text_of}
use Rattle.ucon_script.specs.Document.{line_of, spelled_line}
use Rattle.ucon_model.specs.Document.{ScriptLine}
use Rattle.ucon_script.proofs.Judging.{line_stops, memory_stops, one_said, reading_stops}
use Rattle.ucon_script.proofs.coming_script.ComingScript.next.Goals as goal

pub returns-in-Err-clause-stops : goal.returns-in-Err-clause-stops
returns-in-Err-clause-stops g c =
    rw c.from.ensures (reading_stops g.S.Source.seen _ _ _ _ c.in-Err.fault c.in-Err.ensures.err (λ e. c.in-Err.ensures.too_long (ap Err e)) (λ e. c.in-Err.ensures.bare (ap Err e)))

pub returns-in-Ok-None-clause-says : goal.returns-in-Ok-None-clause-says
returns-in-Ok-None-clause-says g c =
    let cut : c.cut.result.0.now ≡ text_of c.in-Ok.line.items = c.cut.ensures.front ∙ ap text_of c.deref.ensures.value in
    one_said g.S.Source.seen _ _ _ _ c.in-Ok.line.items c.cut.result.0.now None c.requires c.in-Ok.ensures.line cut
    (c.in-Ok-None.ensures.told ∙ ap (λ (o : Option LineText). Ok (option_map spelled_line o)) c.in-Ok-None.field-0-is)
    c.in-Ok-None.ensures.number c.in-Ok-None.ensures.client c.in-Ok-None.ensures.said

pub returns-in-Err-line-clause-stops : goal.returns-in-Err-line-clause-stops
returns-in-Err-line-clause-stops g c =
    let cut : c.cut.result.0.now ≡ text_of c.in-Ok.line.items = c.cut.ensures.front ∙ ap text_of c.deref.ensures.value in
    rw c.from-in-Err-line.ensures (line_stops g.S.Source.seen _ _ _ _ c.in-Ok.line.items c.cut.result.0.now c.in-Err-line.fault c.requires c.in-Ok.ensures.line cut
    c.in-Err-line.ensures.told)

pub returns-in-Ok-line-clause-says : goal.returns-in-Ok-line-clause-says
returns-in-Ok-line-clause-says g c =
    let cut : c.cut.result.0.now ≡ text_of c.in-Ok.line.items = c.cut.ensures.front ∙ ap text_of c.deref.ensures.value in
    one_said g.S.Source.seen _ _ _ _ c.in-Ok.line.items c.cut.result.0.now (Some (line_of c.in-Ok-line.line)) c.requires c.in-Ok.ensures.line cut
    (c.in-Ok-Some.ensures.told ∙ (ap (λ (o : Option LineText). Ok (option_map spelled_line o)) c.in-Ok-Some.field-0-is
    ∙ ap (λ (l : ScriptLine). Ok (Some l)) (sym c.in-Ok-line.ensures)))
    c.in-Ok-Some.ensures.number c.in-Ok-Some.ensures.client c.in-Ok-Some.ensures.said

pub returns-clause-stops : goal.returns-clause-stops
returns-clause-stops g c = memory_stops g.S.Source.seen _ _ _ _ c.in-Ok.line.items c.in-Err-line-2.want c.in-Ok.ensures.line
