use Rattle.std.proofs.Common.{◌∙◌, Some, ap, sym}
use Rattle.ucon_top.specs.declared.form.Form.{Form}
use Rattle.ucon_top.specs.declared.form.Form.TheVariants.{Board, Live, Serve}
use Rattle.ucon_top.proofs.Reading.{words_cause, words_complete, words_leave, words_make}
use Rattle.ucon_top.proofs.top.run.Goals as goal

pub returns-in-Some-Serve : goal.returns-in-Some-Serve
returns-in-Some-Serve g c =
    let law = c.accepted_texts_spell_typed_policies.ensures in
    let is = sym c.read_form.ensures.form ∙ c.in-Some-Serve.is ∙ ap (λ (f : Form). Some f) c.in-Some-Serve.field-0-is in
    record {
      status = c.serve_input.ensures.status;
      causes = words_cause Serve _ _ _ law is c.serve_input.ensures.causes;
      made = words_make Serve _ _ _ law is c.serve_input.ensures.made;
      left = words_leave Serve _ _ _ law is c.serve_input.ensures.left;
      complete = words_complete Serve _ _ _ law is c.serve_input.ensures.complete;
    }

pub returns-in-Some-Board : goal.returns-in-Some-Board
returns-in-Some-Board g c =
    let law = c.accepted_texts_spell_typed_policies.ensures in
    let is = sym c.read_form.ensures.form ∙ c.in-Some-Board.is ∙ ap (λ (f : Form). Some f) c.in-Some-Board.field-0-is in
    record {
      status = c.serve_input-in-Some-Board.ensures.status;
      causes = words_cause Board _ _ _ law is c.serve_input-in-Some-Board.ensures.causes;
      made = words_make Board _ _ _ law is c.serve_input-in-Some-Board.ensures.made;
      left = words_leave Board _ _ _ law is c.serve_input-in-Some-Board.ensures.left;
      complete = words_complete Board _ _ _ law is c.serve_input-in-Some-Board.ensures.complete;
    }

pub returns-in-Some-Live : goal.returns-in-Some-Live
returns-in-Some-Live g c =
    let law = c.accepted_texts_spell_typed_policies.ensures in
    let is = sym c.read_form.ensures.form ∙ c.in-Some-Live.is ∙ ap (λ (f : Form). Some f) c.in-Some-Live.field-0-is in
    record {
      status = c.live_input.ensures.status;
      causes = words_cause Live _ _ _ law is c.live_input.ensures.causes;
      made = words_make Live _ _ _ law is c.live_input.ensures.made;
      left = words_leave Live _ _ _ law is c.live_input.ensures.left;
      complete = words_complete Live _ _ _ law is c.live_input.ensures.complete;
    }

pub returns-in-Some : goal.returns-in-Some
returns-in-Some g c =
    let law = c.accepted_texts_spell_typed_policies.ensures in
    let is = sym c.read_form.ensures.form ∙ c.in-Some.is in
    record {
      status = c.run_alone.ensures.status;
      causes = words_cause c.in-Some.form _ _ _ law is c.run_alone.ensures.causes;
      made = words_make c.in-Some.form _ _ _ law is c.run_alone.ensures.made;
      left = words_leave c.in-Some.form _ _ _ law is c.run_alone.ensures.left;
      complete = words_complete c.in-Some.form _ _ _ law is c.run_alone.ensures.complete;
    }
