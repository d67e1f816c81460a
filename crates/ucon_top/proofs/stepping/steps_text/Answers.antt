use Rattle.std.proofs.Common.{false, map, sym, subst}
use Rattle.std.specs.Prelude.{Result, Ok, Err, OnErr, ⊤}
use Rattle.ucon_model.specs.LegalRun.{in_text_order}
use Rattle.ucon_store.specs.Kept.{Kept}
use Rattle.ucon_store.specs.Whole.{whole}
use Rattle.ucon_trial.specs.OneAnswer.{entry_of}
use Rattle.ucon_top.specs.Stepping.{AreAnswered, told_line}
use Rattle.ucon_top.proofs.Answering.{AreLegal, run_after_steps, run_of_steps, text_read, unanswered, untold}
use Rattle.ucon_top.proofs.stepping.steps_text.Goals as goal

pub returns-clause-text : goal.returns-clause-text
returns-clause-text g c = λ P accepts.
    let answers = c.in_ok-text.ensures in
    let law = c.runs_over_a_store_are_legal.ensures in
    let laws : AreLegal = record { legal = law.legal; made = law.made; failed = law.failed } in
    let lines = map entry_of c.args.lines.now in
    let told = map told_line c.in_ok-answered.answered.items in
    let old = c.args.store.now in
    let new = c.answer_lines.new.store in
    text_read in_text_order false P old new lines told c.in_ok-answered.ensures.lines
    (λ T starts. run_after_steps P T old new told (c.in_ok-answered.ensures.serial P T accepts starts).answers)
    (λ G front. run_of_steps laws P (whole G old) (whole G new) lines told (c.in_ok-answered.ensures.steps P G accepts front))
    c.outputs_are_read_back.ensures _
    (rw c.slice.ensures at answers.text) (rw c.slice.ensures at answers.fits) (rw c.slice.ensures at answers.clients)

on_err : {T E : Type 0} (r : Result T E) (P : Type 0) → P → OnErr r P
on_err (Ok v) P p = tt
on_err (Err e) P p = p

pub returns-in_err-answered-clause-no_memory : goal.returns-in_err-answered-clause-no_memory
returns-in_err-answered-clause-no_memory g c =
    let law = c.runs_over_a_store_are_legal.ensures in
    let laws : AreLegal = record { legal = law.legal; made = law.made; failed = law.failed } in
    let lines = map entry_of c.args.lines.now in
    let old = c.args.store.now in
    on_err c.from_residual.result _ (λ P accepts.
    subst (λ (new : Kept g.row.D.Denot). AreAnswered in_text_order false P old new lines (λ told. ⊤)) (sym c.in_err-answered.ensures.err)
    (unanswered laws P in_text_order false old lines c.requires))

pub returns-in_err-text-clause-no_memory : goal.returns-in_err-text-clause-no_memory
returns-in_err-text-clause-no_memory g c =
    let law = c.runs_over_a_store_are_legal.ensures in
    let laws : AreLegal = record { legal = law.legal; made = law.made; failed = law.failed } in
    let lines = map entry_of c.args.lines.now in
    let told = map told_line c.in_ok-answered.answered.items in
    let old = c.args.store.now in
    let new = c.answer_lines.new.store in
    on_err c.from_residual-in_err-text.result _ (λ P accepts.
    untold in_text_order false P old new lines told c.in_ok-answered.ensures.lines
    (λ T starts. run_after_steps P T old new told (c.in_ok-answered.ensures.serial P T accepts starts).answers)
    (λ G front. run_of_steps laws P (whole G old) (whole G new) lines told (c.in_ok-answered.ensures.steps P G accepts front)))
