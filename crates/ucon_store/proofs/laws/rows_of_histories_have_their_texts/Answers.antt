use Rattle.std.proofs.Common.{[]}
use Rattle.ucon_model.specs.History.{trace}
use Rattle.ucon_store.proofs.Seeing.SpelledRows.{rows_spelled}
use Rattle.ucon_store.proofs.Spelled.Blocks.{trace_spelled}
use Rattle.ucon_store.proofs.Spelled.Policies.{spelled_names}
use Rattle.ucon_store.proofs.laws.rows_of_histories_have_their_texts.Goals as goal

pub returns : goal.returns
returns c = λ text P H accepts clients.
    let names = spelled_names text P ((c.accepted_texts_spell_typed_policies.ensures text P).0 accepts).0 in
    rows_spelled c.values_are_read_back.ensures.written P names (trace P H) (trace_spelled P names [] tt H clients)
