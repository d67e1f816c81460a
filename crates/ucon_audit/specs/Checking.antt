-- How far a full check has come, and what it has found.
use Rattle.std.specs.Prelude.{◌≡◌, ℕ, ◌*◌, ◌≤◌, ◌<◌, List, ◌++◌, length, take, Option, Some, IfSome}
use Rattle.ucon_journal.specs.Found.{counted, payloads_from}
use Rattle.ucon_model.specs.Action.{Trace}
use Rattle.ucon_model.specs.Found.{found_in, holds}
use Rattle.ucon_model.specs.History.{History}
use Rattle.ucon_model.specs.Plain.{Bytes, PlainPolicy}
use Rattle.ucon_store.specs.Found.{IsFoundAs}
use Rattle.ucon_store.specs.Points.{has_points, takes_with}
use Rattle.ucon_syntax.specs.Policies.{accepted}
use Rattle.ucon_audit.specs.declared.chain.Chain.{Chain}
use Rattle.ucon_audit.specs.declared.check.Check.{Check}
use Rattle.ucon_audit.specs.declared.head.Kept.{Kept}
use Rattle.ucon_audit.specs.Head.{IsChain}
use Rattle.ucon_audit.specs.Keeping.{Keeps}

-- The records up to a gate are the file's first, and in their payloads this history is found under the policy of this text; the head stands behind
-- them.
pub record IsUpTo (kept : Option Kept) (text : Bytes) (P : PlainPolicy) (H : History) (chain : Chain) (gate : ℕ) (file : Bytes) : Type 0 where
  pub front : List Bytes
  pub are : counted file ≡ front ++ payloads_from file gate
  pub found : found_in accepted (takes_with (has_points file)) front ≡ holds text P H gate
  pub chained : IsChain kept (take 8 file) front chain

-- A history is kept under the policy of this text, of fewer entries than there were records, five bytes at least each; and if the disk tells, it
-- is that of the records up to the gate.
pub record IsChecking {E : Type 0} (follows : E → PlainPolicy → Trace → Type 0) (kept : Option Kept) (text : Bytes) (P : PlainPolicy)
    (check : Check E) (gate : ℕ) (contents : Option Bytes) : Type 0 where
  pub H : History
  pub accepts : accepted text ≡ Some P
  pub keeps : Keeps follows check.keeping text P H
  pub few : length H < check.chain.records
  pub small : 5 * check.chain.records ≤ gate
  pub told : IfSome contents (IsUpTo kept text P H check.chain gate)

-- the same, whatever the policy, and whatever head was kept
abbrev pub IsSomeCheck : {E : Type 0} → (E → PlainPolicy → Trace → Type 0) → Check E → ℕ → Option Bytes → Type 0
IsSomeCheck follows check gate contents =
    (kept : Option Kept) × (text : Bytes) × (P : PlainPolicy) × IsChecking follows kept text P check gate contents

-- All records are right, and the policy is the one of this text. The file is found as a history, which is kept, and the head stands behind all its
-- records.
pub record IsWhole {E : Type 0} (follows : E → PlainPolicy → Trace → Type 0) (kept : Option Kept) (text : Bytes) (check : Check E) (file : Bytes) : Type 0 where
  pub P : PlainPolicy
  pub H : History
  pub accepts : accepted text ≡ Some P
  pub found : IsFoundAs text file H
  pub keeps : Keeps follows check.keeping text P H
  pub chained : IsChain kept (take 8 file) (counted file) check.chain
