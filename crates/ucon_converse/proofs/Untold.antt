-- Lines that were answered and not told, seen otherwise.
use Rattle.std.proofs.Common.{◌≡◌, ⊎_elim, inl, inr, ℕ, List, ap}
use Rattle.std.specs.Prelude.{Result, Ok, Err}
use Rattle.ucon_model.specs.Plain.{Bytes}
use Rattle.ucon_tell.specs.Talk.{ends_by}
use Rattle.ucon_tell.specs.Told.{AreAnsweredUntold, Told, lines_of}
use Rattle.ucon_tell.specs.declared.talk_fault.TalkFault.{TalkFault}
use Rattle.ucon_tell.specs.declared.talk_fault.TalkFault.TheVariants as faults

module _ {K L : Type 0} (seen : K → L) (limit : ℕ) (A : K → K → List Told → Type 0) (B : L → L → List Told → Type 0) (comes goes : Bytes → Type 0)
    (onto : (l : Bytes) → comes l → goes l) (reached last : K) (so : (told : List Told) → A reached last told → B (seen reached) (seen last) told) where
  pub ends_onto : (r : Result (Unit {0}) TalkFault) → ends_by limit A comes r reached last → ends_by limit B goes r (seen reached) (seen last)
  ends_onto (Ok done) e = ap seen e
  ends_onto (Err faults.SourceFault) e = ap seen e
  ends_onto (Err faults.SinkFault) e = ap seen e
  ends_onto (Err faults.TooLong) e = ap seen e
  ends_onto (Err (faults.NoMemory m)) e = ⊎_elim
      (λ (same : reached ≡ last). inl (ap seen same))
      (λ (u : AreAnsweredUntold limit A comes reached last).
      inr (record { told = u.told; each = u.each; came = onto (lines_of u.told) u.came; answer = so u.told u.answer })) e
