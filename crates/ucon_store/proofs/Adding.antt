-- What steps or a checkpoint put into a file, whatever it is found as.
use Rattle.std.proofs.Common.{◌≡◌, inl, inr, ⊎_elim, ℕ, List, ◌++◌, Option, Some, None, refl, sym, ap, ◌∙◌, subst}
use Rattle.ucon_model.specs.Action.{Trace}
use Rattle.ucon_model.specs.Plain.{Bytes, PlainPolicy}
use Rattle.ucon_disk.specs.Disk.{Only}
use Rattle.ucon_disk.specs.Run.{LeavesAfter, LeavesOnly, started, weaker}
use Rattle.ucon_journal.specs.declared.journal.Journal.{Journal}
use Rattle.ucon_journal.specs.Found.{counted}
use Rattle.ucon_journal.specs.Journal.{disk_of, told_payloads}
use Rattle.ucon_journal.specs.Opened.{PerhapsAllAdded, StillHolds}
use Rattle.ucon_syntax.specs.Policies.{accepted}
use Rattle.ucon_store.specs.Kept.{Kept}
use Rattle.ucon_store.specs.Starts.{IsStart}
use Rattle.ucon_store.specs.Steps.{AddsTogether}
use Rattle.ucon_store.proofs.Recorded.{IsAppended, some_told}
use Rattle.ucon_disk.specs.Seen.{DiskSeen}

adds_perhaps : (payloads : List Bytes) (file c : Bytes) → PerhapsAllAdded payloads file c → AddsTogether payloads file c
adds_perhaps payloads file c perhaps = ⊎_elim
    (λ (same : StillHolds file (counted file) c). record { magic = same.magic; payloads = inl same.payloads })
    (λ (more : StillHolds file (counted file ++ payloads) c). record { magic = more.magic; payloads = inr more.payloads })
    perhaps

module _ {D : Type 0} (seen : D → DiskSeen) (x : Kept D) (says : PlainPolicy → Trace → List Bytes) where
  -- behind each trace that leads to the store's beginning, each image since a call began has the payloads more that it says there, or none
  abbrev pub Adds : D → Type 0
  Adds new = (P : PlainPolicy) (T : Trace) (file : List ℕ) → accepted x.policy ≡ Some P → IsStart P x.point x.before T → x.mark ≡ None
      → (seen x.disk).contents ≡ Some file → LeavesOnly (seen x.disk) (seen new) (AddsTogether (says P T) file)

  -- before a call of the disk
  pub adds_nothing : ((d : D) (c : List ℕ) → (seen d).images_since (seen d).moment c → (seen d).images c) → (x.mark ≡ None → Only (seen x.disk).contents (seen x.disk).images)
      → (new : D) → new ≡ x.disk → Adds new
  adds_nothing only_now rests new same P T file accepts start none is =
      let only : Only (Some file) (seen x.disk).images = subst (λ (o : Option (List ℕ)). Only o (seen x.disk).images) is (rests none) in
      subst (λ (d : D). LeavesOnly (seen x.disk) (seen d) (AddsTogether (says P T) file)) (sym same)
      (started (seen x.disk) (AddsTogether (says P T) file)
      (λ c since. subst (AddsTogether (says P T) file) (sym (only c (only_now x.disk c since)))
      (record { magic = refl; payloads = inl refl })))

  module _ (k : Journal D) {payloads : List Bytes} (same : disk_of k ≡ x.disk) (rests : Only (seen x.disk).contents (seen x.disk).images)
      (spelled : (P : PlainPolicy) (T : Trace) → accepted x.policy ≡ Some P → IsStart P x.point x.before T → payloads ≡ says P T) where
    -- once the records' making has begun
    pub adds_payload : {new : D} → LeavesAfter (seen (disk_of k)) (seen new) (PerhapsAllAdded payloads) → Adds new
    adds_payload {new} run P T file accepts start none is =
        let only : Only (seen (disk_of k)).contents (seen (disk_of k)).images = subst (λ (d : D). Only (seen d).contents (seen d).images) (sym same) rests in
        let here : (seen (disk_of k)).contents ≡ Some file = ap (λ d. (seen d).contents) same ∙ is in
        let left = run.each file (record { told = here; only = subst (λ (o : Option (List ℕ)). Only o (seen (disk_of k)).images) here only }) in
        subst (λ (z : D × List Bytes). LeavesOnly (seen z.0) (seen new) (AddsTogether z.1 file))
        (λ i. (same i, spelled P T accepts start i))
        (weaker (seen (disk_of k)) (seen new) (PerhapsAllAdded payloads file) (AddsTogether payloads file) (adds_perhaps payloads file) left)

    -- and once they are there
    pub added_payload : {next : Journal D} → IsAppended seen k next payloads
        → (P : PlainPolicy) (T : Trace) (file : List ℕ) → accepted x.policy ≡ Some P → IsStart P x.point x.before T
        → (seen x.disk).contents ≡ Some file → told_payloads (seen (disk_of next)).contents ≡ counted file ++ says P T
    added_payload {next} appended P T file accepts start is =
        let here : (seen (disk_of k)).contents ≡ Some file = ap (λ d. (seen d).contents) same ∙ is in
        some_told (λ _. told_payloads (seen (disk_of next)).contents ≡ told_payloads (seen (disk_of k)).contents ++ payloads)
        (seen (disk_of k)).contents file here appended.added
        ∙ (ap (λ (o : Option (List ℕ)). told_payloads o ++ payloads) here
        ∙ ap (λ (ps : List Bytes). counted file ++ ps) (spelled P T accepts start))
