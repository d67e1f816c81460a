use Rattle.std.proofs.Common.{◌≡◌, ℕ, List, [], ◌∷◌, ◌++◌, map, get_or, take, sym, subst, ◌∙◌, ap, arith}
use Rattle.std.specs.Prelude.{Option}
use Rattle.std.proofs.lemmas.List.{length-map, map-append, take_all, take_more}
use Rattle.std.proofs.Math.ListN.{get_or-map}
use Rattle.ucon_model.specs.declared.command.Entry.{Entry}
use Rattle.ucon_model.specs.LegalRun.{Answered}
use Rattle.ucon_model.specs.Plain.{Bytes}
use Rattle.ucon_store.specs.Starts.{IsStart}
use Rattle.ucon_store.specs.Stays.{stays_again}
use Rattle.ucon_store.specs.Whole.{whole}
use Rattle.ucon_syntax.specs.Policies.{accepted}
use Rattle.ucon_trial.specs.OneAnswer.{entry_of}
use Rattle.ucon_top.specs.Stepping.{HaveSteps, told_line}
use Rattle.ucon_top.proofs.Behind.{front_same}
use Rattle.ucon_top.proofs.Stepwise.{one_line_more, one_more_after}
use Rattle.ucon_top.proofs.stepping.answer_lines.Goals as goal

pub loop-line-preserved : goal.loop-line-preserved
loop-line-preserved g c =
    let lines = map entry_of c.args.lines.now in
    let line = entry_of c.line-item.result in
    let i = c.loop-line.line-index in
    let so_far = c.loop-line.invariant in
    let is : line ≡ get_or lines i line = ap entry_of c.line-item.is ∙ sym (get_or-map entry_of c.args.lines.now i c.line-item.result) in
    record {
      stays = stays_again g.D.Disk.seen g.met.D.Disk.counts_now
          c.args.store.now c.loop-line.store c.answer_line-answer.new.store so_far.stays c.answer_line-answer.ensures.stays;
      room = omega (arith, so_far.room, c.in-Ok.ensures.spare);
      steps = λ P G accepts front.
          rw (c.in-Ok.ensures.ok, map-append told_line c.loop-line.answered.items) (
          one_line_more P (whole G c.args.store.now) (whole G c.loop-line.store) (whole G c.answer_line-answer.new.store) lines i (map told_line c.loop-line.answered.items) line _
          (omega (arith, length-map c.args.lines.now entry_of, c.loop-line-test.true)) is (so_far.steps P G accepts front)
          (c.answer_line-answer.ensures.steps P G (ap accepted so_far.stays.policy ∙ accepts)
          (front_same P c.args.store.now c.loop-line.store G so_far.stays.policy so_far.stays.point so_far.stays.before front))
          );
      serial = λ P T accepts starts.
          rw (c.in-Ok.ensures.ok, map-append told_line c.loop-line.answered.items) (
          one_more_after P T c.args.store.now c.loop-line.store c.answer_line-answer.new.store (map told_line c.loop-line.answered.items) line _
          (so_far.serial P T accepts starts)
          (c.answer_line-answer.ensures.serial P T (ap accepted so_far.stays.policy ∙ accepts)
          (subst (λ (z : Option Bytes × ℕ). IsStart P z.0 z.1 T) (λ i. (sym so_far.stays.point i, sym so_far.stays.before i)) starts))
          );
      lines =
          rw (c.in-Ok.ensures.ok, map-append told_line c.loop-line.answered.items) (
          map-append (λ (t : Answered). t.line) (map told_line c.loop-line.answered.items) _
          ∙ ap (λ (es : List Entry). es ++ line ∷ []) so_far.lines
          ∙ ap (λ (x : Entry). take i lines ++ x ∷ []) is
          ∙ sym (take_more lines i line (omega (arith, length-map c.args.lines.now entry_of, c.loop-line-test.true)))
          );
    }

pub returns-clause-steps : goal.returns-clause-steps
returns-clause-steps g c = λ P G accepts front.
    subst (λ (es : List Entry). HaveSteps P (whole G c.args.store.now) (whole G c.loop-line.store) es (map told_line c.loop-line.answered.items))
    (take_all c.loop-line.line-index (map entry_of c.args.lines.now) (omega (arith, length-map c.args.lines.now entry_of, c.loop-line-test.false)))
    (c.loop-line.invariant.steps P G accepts front)

pub returns-clause-lines : goal.returns-clause-lines
returns-clause-lines g c =
    c.loop-line.invariant.lines
    ∙ take_all c.loop-line.line-index (map entry_of c.args.lines.now) (omega (arith, length-map c.args.lines.now entry_of, c.loop-line-test.false))
