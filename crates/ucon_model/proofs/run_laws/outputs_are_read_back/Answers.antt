use Rattle.ucon_model.proofs.ReadBack.{TextsLack, answers_read-output}
use Rattle.ucon_model.proofs.run_laws.outputs_are_read_back.Goals as goal

pub returns : goal.returns
returns c =
    let texts = c.texts_lack_bytes.ensures in
    let lack : TextsLack = record { joined = texts.joined; tested = texts.tested; numbers = texts.numbers } in
    answers_read-output lack
