use Rattle.std.proofs.Common.{refl}
use Rattle.ucon_model.specs.Output.{Lacks}
use Rattle.ucon_converse.specs.Readings.{row_words}
use Rattle.ucon_converse.proofs.Bare.{row_lacks}
use Rattle.ucon_converse.proofs.Tellings.{always_ok}
use Rattle.ucon_converse.proofs.reading_texts.put_row.Goals as goal

pub returns-clause-bare : goal.returns-clause-bare
returns-clause-bare c =
    let names = c.texts_lack_bytes.ensures.names in
    let row = c.args.row.now in
    always_ok c.put_standing.result (Lacks 10 (row_words c.args.n row))
    (row_lacks c.args.n row (names 10 row.subject refl c.in_ok-put_name.ensures.in_form) (names 10 row.right refl c.in_ok-put_name-2.ensures.in_form)
    (names 10 row.object refl c.in_ok-put_name-3.ensures.in_form))
