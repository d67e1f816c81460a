-- How the counts of faults stand, by how a conversation ends.
use Rattle.std.proofs.Common.{◌≡◌, true, false, ℕ, refl}
use Rattle.std.specs.Prelude.{Bool, IsErrOf, Option, Some, None, IsSome, Result, Ok, Err}
use Rattle.ucon_flow.specs.Causes.{raised}
use Rattle.ucon_outcome.specs.declared.outcome.Outcome.TheVariants as outcomes
use Rattle.ucon_outcome.specs.Ending.{IsCounted}
use Rattle.ucon_tell.specs.declared.talk_fault.TalkFault.{TalkFault}
use Rattle.ucon_tell.specs.declared.talk_fault.TalkFault.TheVariants as faults
use Rattle.ucon_converse.specs.Ended.{ended_so}

pub some_is : {A : Type 0} (o : Option A) → IsSome o → (a : A) × (o ≡ Some a)
some_is None some = absurd (let no : false ≡ true = some in cc no)
some_is (Some a) some = (a, refl)

module _ (before now : ℕ) where
  pub source_counted : (r : Result (Unit {0}) TalkFault) (failed : Bool) → (IsErrOf r faults.SourceFault → now ≡ raised before) → ((r ≡ Err faults.SourceFault → ⊥) → now ≡ before)
      → IsCounted (ended_so r failed) outcomes.SourceFault before now
  source_counted (Ok done) true rose same = (λ is. absurd (cc is), λ not. same (λ bad. absurd (cc bad)))
  source_counted (Ok done) false rose same = (λ is. absurd (cc is), λ not. same (λ bad. absurd (cc bad)))
  source_counted (Err faults.SourceFault) failed rose same = (λ is. rose refl, λ not. absurd (not refl))
  source_counted (Err faults.SinkFault) failed rose same = (λ is. absurd (cc is), λ not. same (λ bad. absurd (cc bad)))
  source_counted (Err faults.TooLong) failed rose same = (λ is. absurd (cc is), λ not. same (λ bad. absurd (cc bad)))
  source_counted (Err (faults.NoMemory e)) failed rose same = (λ is. absurd (cc is), λ not. same (λ bad. absurd (cc bad)))

  pub sink_counted : (r : Result (Unit {0}) TalkFault) (failed : Bool) → (IsErrOf r faults.SinkFault → now ≡ raised before) → ((r ≡ Err faults.SinkFault → ⊥) → now ≡ before)
      → IsCounted (ended_so r failed) outcomes.SinkFault before now
  sink_counted (Ok done) true rose same = (λ is. absurd (cc is), λ not. same (λ bad. absurd (cc bad)))
  sink_counted (Ok done) false rose same = (λ is. absurd (cc is), λ not. same (λ bad. absurd (cc bad)))
  sink_counted (Err faults.SourceFault) failed rose same = (λ is. absurd (cc is), λ not. same (λ bad. absurd (cc bad)))
  sink_counted (Err faults.SinkFault) failed rose same = (λ is. rose refl, λ not. absurd (not refl))
  sink_counted (Err faults.TooLong) failed rose same = (λ is. absurd (cc is), λ not. same (λ bad. absurd (cc bad)))
  sink_counted (Err (faults.NoMemory e)) failed rose same = (λ is. absurd (cc is), λ not. same (λ bad. absurd (cc bad)))
