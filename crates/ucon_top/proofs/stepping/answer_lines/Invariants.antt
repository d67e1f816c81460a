use Rattle.std.proofs.Common.{◌≡◌, ◌≤◌, ◌+◌, length, map, take}
use Rattle.std.specs.Prelude.{Some}
use Rattle.ucon_model.specs.Action.{Trace}
use Rattle.ucon_model.specs.History.{History}
use Rattle.ucon_model.specs.LegalRun.{Answered}
use Rattle.ucon_model.specs.Plain.{PlainPolicy}
use Rattle.ucon_syntax.specs.Policies.{accepted}
use Rattle.ucon_store.specs.Starts.{IsStart}
use Rattle.ucon_store.specs.Stays.{Stays}
use Rattle.ucon_store.specs.Whole.{IsFront, whole}
use Rattle.ucon_trial.specs.OneAnswer.{entry_of}
use Rattle.ucon_top.specs.Stepping.{HaveSteps, HaveStepsAfter, told_line}
use Rattle.ucon_top.proofs.stepping.answer_lines.Given as goal

abbrev pub invariant-loop-line : goal.invariant-loop-line
invariant-loop-line g l = record {
  stays : Stays g.D.Disk.seen l.fn.store l.store;
  room : length l.lines ≤ l.line-index + l.answered.spare;
  steps : (P : PlainPolicy) (G : History) → accepted l.fn.store.policy ≡ Some P → IsFront P l.fn.store G
      → HaveSteps P (whole G l.fn.store) (whole G l.store) (take l.line-index (map entry_of l.lines)) (map told_line l.answered.items);
  serial : (P : PlainPolicy) (T : Trace) → accepted l.fn.store.policy ≡ Some P → IsStart P l.fn.store.point l.fn.store.before T
      → HaveStepsAfter P T l.fn.store l.store (map told_line l.answered.items);
  lines : map (λ (t : Answered). t.line) (map told_line l.answered.items) ≡ take l.line-index (map entry_of l.lines);
}
