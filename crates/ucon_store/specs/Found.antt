-- What is found in a file: the payloads of its records that count, and what they say. Behind record 0 each payload of version 1 tells a step,
-- and each of version 2 tells a step or is a checkpoint. It is said by a reading of policies' texts, and then by the program's own.
use Rattle.std.proofs.Common.{inl, inr, refl, sym, subst}
use Rattle.std.specs.Prelude.{◌≡◌, ◌⊎◌, ℕ, Option, Some, None, [], ◌∷◌, ◌++◌}
use Rattle.ucon_model.specs.declared.command.Entry.{Entry}
use Rattle.ucon_model.specs.Plain.{Bytes, PlainPolicy}
use Rattle.ucon_model.specs.History.{History}
use Rattle.ucon_model.specs.Found.{Finding, Takes, fresh, not_journal, damaged, holds, found_in}
use Rattle.ucon_journal.specs.Found as journal
use Rattle.ucon_syntax.specs.Policies.{accepted}
use Rattle.ucon_store.specs.Marks.{marked}
use Rattle.ucon_store.specs.Points.{has_points, takes_by, PolicyReading}

-- what the payloads that were found say
abbrev pub finding_by : PolicyReading → Takes → journal.Found → Finding
finding_by reads takes journal.Fresh = fresh
finding_by reads takes journal.NotJournal = not_journal
finding_by reads takes (journal.Holds payloads gate) = found_in reads takes payloads

-- what is found in the bytes of a file
unfoldable pub found_by : PolicyReading → Bytes → Finding
found_by reads file = finding_by reads (takes_by reads (has_points file)) (journal.found file)

-- this is the policy's text and this the history; where nothing was recorded yet, the history is empty
abbrev pub Tells : Finding → Bytes → History → Type 0
Tells fresh text H = H ≡ []
Tells not_journal text H = ⊥
Tells (damaged number place) text H = ⊥
Tells (holds other P G gate) text H = (other ≡ text) × (G ≡ H)

-- a file is found as this history under the policy of this text
abbrev pub IsFoundBy : PolicyReading → Bytes → Bytes → History → Type 0
IsFoundBy reads text file H = Tells (found_by reads file) text H

-- ---- by the program's own reading

abbrev pub finding_of : Takes → journal.Found → Finding
finding_of = finding_by accepted

abbrev pub found : Bytes → Finding
found = found_by accepted

abbrev pub IsFoundAs : Bytes → Bytes → History → Type 0
IsFoundAs = IsFoundBy accepted

-- a file holds the policy of this text and this history
pub record Holds (text : Bytes) (P : PlainPolicy) (H : History) (file : Bytes) : Type 0 where
  pub gate : ℕ
  pub is : found file ≡ holds text P H gate

-- what it holds it is found as
pub found_as : (text : Bytes) (P : PlainPolicy) (H : History) (file : Bytes) → Holds text P H file → IsFoundAs text file H
found_as text P H file h = subst (λ (f : Finding). Tells f text H) (sym h.is) (refl, refl)

-- it is found as this history, or as the history with the entry of the step that failed, if there is one
abbrev pub IsFoundWithBy : PolicyReading → Bytes → History → Option Entry → Bytes → Type 0
IsFoundWithBy reads text H mark file =
    IsFoundBy reads text file H ⊎ ((e : Entry) × (mark ≡ Some e) × IsFoundBy reads text file (H ++ e ∷ []))

abbrev pub IsFoundWith : Bytes → History → Option Entry → Bytes → Type 0
IsFoundWith = IsFoundWithBy accepted

-- it is found as this history, or as the history with the entries of a mark behind it, if there is one
abbrev pub IsFoundMarkedBy : PolicyReading → Bytes → History → Option History → Bytes → Type 0
IsFoundMarkedBy reads text H mark file =
    IsFoundBy reads text file H ⊎ ((es : History) × (mark ≡ Some es) × IsFoundBy reads text file (H ++ es))

abbrev pub IsFoundMarked : Bytes → History → Option History → Bytes → Type 0
IsFoundMarked = IsFoundMarkedBy accepted

-- with the mark of one step a file is found so if it is found with the step
pub found_with : (reads : PolicyReading) (text : Bytes) (H : History) (failed : Option Entry) (file : Bytes)
    → IsFoundMarkedBy reads text H (marked failed) file → IsFoundWithBy reads text H failed file
found_with reads text H failed file (inl found) = inl found
found_with reads text H None file (inr more) = absurd (cc (more.1))
found_with reads text H (Some e) file (inr more) =
    let is : e ∷ [] ≡ more.0 = cc (more.1) in
    inr (e, refl, subst (λ (es : History). IsFoundBy reads text file (H ++ es)) (sym is) more.2)

pub found_marked : (reads : PolicyReading) (text : Bytes) (H : History) (failed : Option Entry) (file : Bytes)
    → IsFoundWithBy reads text H failed file → IsFoundMarkedBy reads text H (marked failed) file
found_marked reads text H failed file (inl found) = inl found
found_marked reads text H None file (inr more) = absurd (cc (more.1))
found_marked reads text H (Some e) file (inr more) =
    let is : e ≡ more.0 = cc (more.1) in
    inr (e ∷ [], refl, subst (λ (a : Entry). IsFoundBy reads text file (H ++ a ∷ [])) (sym is) more.2)
