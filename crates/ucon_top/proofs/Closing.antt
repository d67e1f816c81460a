-- How a run over a store ends, by how its output was written.
use Rattle.std.proofs.Common.{◌≡◌, ℕ, Bool, false, List, refl, sym, subst, ◌∙◌}
use Rattle.std.specs.Prelude.{Option, Some, None, is_some}
use Rattle.std.specs.Io.KnownBytes.{Appends}
use Rattle.ucon_flow.specs.Writing.{AppendsPrefix}
use Rattle.ucon_model.specs.declared.command.Caller.{Caller}
use Rattle.ucon_model.specs.declared.command.Entry.{Entry}
use Rattle.ucon_model.specs.History.{History}
use Rattle.ucon_model.specs.Plain.{Bytes, PlainPolicy}
use Rattle.ucon_store.specs.Kept.{Kept}
use Rattle.ucon_outcome.specs.declared.outcome.Outcome.{Outcome}
use Rattle.ucon_outcome.specs.declared.outcome.Outcome.TheVariants as outcomes
use Rattle.ucon_top.specs.Closing.{IsMarkedBy, IsOfRun, IsToldBy, IsWritten}
use Rattle.ucon_top.specs.Ending.{IsCounted}
use Rattle.ucon_top.specs.Stepping.{AreAnswered, HaveOutput}

no_mark : (mark : Option History) → is_some mark ≡ false → mark ≡ None
no_mark None is = refl
no_mark (Some es) is = absurd (cc is)

-- an output was written in one of these ways
pub of_run : (outcome : Outcome) (text : Bytes) (stopped : Bool) (before now : Option Bytes) (failed fails : ℕ) → IsWritten outcome text stopped before now failed fails → IsOfRun outcome
of_run outcomes.Done text stopped before now failed fails w = (refl, refl)
of_run outcomes.SinkFault text stopped before now failed fails w = (refl, refl)
of_run outcomes.DiskFault text stopped before now failed fails w = (refl, refl)
of_run outcome text stopped before now failed fails w = absurd w

-- and the sink's count tells whether it failed
pub counted : (outcome : Outcome) (text : Bytes) (stopped : Bool) (before now : Option Bytes) (failed fails : ℕ) → IsWritten outcome text stopped before now failed fails
    → IsCounted outcome outcomes.SinkFault failed fails
counted outcomes.Done text stopped before now failed fails w = ((λ is. absurd (cc is)), (λ other. w.1.1))
counted outcomes.DiskFault text stopped before now failed fails w = ((λ is. absurd (cc is)), (λ other. w.1.1))
counted outcomes.SinkFault text stopped before now failed fails w = ((λ is. w.0), (λ other. absurd (other refl)))
counted outcome text stopped before now failed fails w = absurd w

-- and it tells of the store's mark
pub marked_so : (outcome : Outcome) (mark : Option History) (text : Bytes) (stopped : Bool) (before now : Option Bytes) (failed fails : ℕ)
    → is_some mark ≡ stopped → IsWritten outcome text stopped before now failed fails → IsMarkedBy outcome mark
marked_so outcomes.Done mark text stopped before now failed fails is w = no_mark mark (is ∙ w.0)
marked_so outcomes.DiskFault mark text stopped before now failed fails is w = is ∙ w.0
marked_so outcome mark text stopped before now failed fails is w = tt

module _ {D : Type 0} (sees : Caller → Caller → Bool) (threads : Bool) (P : PlainPolicy) (store closed : Kept D) (lines : List Entry) (text : Bytes)
    (stopped : Bool) (before now : Option Bytes) (failed fails : ℕ) (answers : AreAnswered sees threads P store closed lines (HaveOutput (λ out. out ≡ text) lines)) where
  went_out : (so : Bytes → Type 0) → so text → AreAnswered sees threads P store closed lines (HaveOutput so lines)
  went_out so holds = record {
    told = answers.told;
    lines_are = answers.lines_are;
    after = answers.after;
    run = answers.run;
    is_so = (answers.is_so.0, subst so (sym answers.is_so.1) holds);
  }

  pub ends_so : (outcome : Outcome) → IsWritten outcome text stopped before now failed fails
      → AreAnswered sees threads P store closed lines (IsToldBy lines before now outcome)
  ends_so outcomes.Done w = went_out (Appends before now) w.1.0
  ends_so outcomes.DiskFault w = went_out (Appends before now) w.1.0
  ends_so outcomes.SinkFault w = went_out (AppendsPrefix before now) w.1
  ends_so outcome w = absurd w
