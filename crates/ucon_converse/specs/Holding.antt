-- What each image of a store's disk holds once a line was answered.
use Rattle.std.specs.Prelude.{◌≡◌, ◌⊎◌, ℕ, List, [], ◌∷◌, ◌++◌, length, Some, None, IsSome, IfSome}
use Rattle.ucon_disk.specs.Seen.{DiskSeen}
use Rattle.ucon_journal.specs.Found.{counted}
use Rattle.ucon_model.specs.History.{History}
use Rattle.ucon_model.specs.Plain.{Bytes, PlainPolicy}
use Rattle.ucon_store.specs.Found.{IsFoundBy, IsFoundMarkedBy}
use Rattle.ucon_store.specs.Kept.{Kept}
use Rattle.ucon_store.specs.Points.{PolicyReading, point_places}
use Rattle.ucon_store.specs.Whole.{IsFounded}
use Rattle.ucon_syntax.specs.Policies.{accepted}
use Rattle.ucon_turn.specs.Lists.{Begins}
use Rattle.ucon_converse.specs.Answering.{Answering}
use Rattle.ucon_converse.specs.Replies.{Standing}

-- ---- files

-- the first record that counts in a file has this payload
abbrev pub HasFirst : Bytes → Bytes → Type 0
HasFirst text file = (others : List Bytes) × (counted file ≡ text ∷ others)

-- a file has the policy of this text, and checkpoints at these places, perhaps with others behind
pub record HasPointsPast (text : Bytes) (points : List ℕ) (file : Bytes) : Type 0 where
  pub recorded : HasFirst text file
  pub kept : Begins points (point_places file)

-- it is found as a history that begins with a standing's, and has the policy and the checkpoints that there were
pub record IsFoundPastBy (reads : PolicyReading) (text : Bytes) (s : Standing) (file : Bytes) : Type 0 where
  pub history : History
  pub found : IsFoundBy reads text file history
  pub begun : Begins s.history history
  pub points : HasPointsPast text s.points file

abbrev pub IsFoundPast : Bytes → Standing → Bytes → Type 0
IsFoundPast = IsFoundPastBy accepted

-- its checkpoints are those of a standing; or, if a checkpoint met a disk fault, there is one more, behind all steps
abbrev pub HasPointsOf : Standing → Bytes → Type 0
HasPointsOf s file = (point_places file ≡ s.points) ⊎ ((s.failed ≡ Some []) × (point_places file ≡ s.points ++ length s.history ∷ []))

-- it has the policy, the history and the checkpoints of a standing, but for what a call that met a disk fault was writing
pub record IsLeftBy (reads : PolicyReading) (text : Bytes) (s : Standing) (file : Bytes) : Type 0 where
  pub found : IsFoundMarkedBy reads text s.history s.failed file
  pub recorded : HasFirst text file
  pub points : HasPointsOf s file

-- ---- stores

-- what a store stands for with this history before its entries, where checkpoints stand so, and one was last tried behind so many steps
abbrev pub stands : {D : Type 0} → History → List ℕ → ℕ → Kept D → Standing
stands G points tried s = record { history = G ++ s.entries; failed = s.mark; points = points; tried = tried }

-- the same of one that answers lines, with these checkpoints before those that it made
abbrev pub standing : {D : Type 0} → History → List ℕ → Answering D → Standing
standing G places a = stands G (places ++ a.made) a.tried a.store

-- it is founded on a history, and its file has these checkpoints and those that were made since
pub record IsFoundedAt {D : Type 0} (seen : D → DiskSeen) (P : PlainPolicy) (a : Answering D) (G : History) (places : List ℕ) : Type 0 where
  pub founded : IsFounded seen P a.store G
  pub told : IsSome (seen a.store.disk).contents
  pub points : IfSome (seen a.store.disk).contents (λ file. point_places file ≡ places ++ a.made)

-- A history stands before the store's entries, and these checkpoints before its own. Without a mark the store is founded on it. A crash leaves what
-- the store stands for.
pub record IsBased {D : Type 0} (seen : D → DiskSeen) (P : PlainPolicy) (a : Answering D) (G : History) (places : List ℕ) : Type 0 where
  pub founded : a.store.mark ≡ None → IsFoundedAt seen P a G places
  pub told : IsSome (seen a.store.disk).contents
  pub each : (c : Bytes) → (seen a.store.disk).images c → IsLeftBy accepted a.store.policy (standing G places a) c

-- this image holds all that the store has answered, behind each history that stands before its entries
abbrev pub HoldsAll : {D : Type 0} → (D → DiskSeen) → Answering D → Bytes → Type 0
HoldsAll seen a c = (P : PlainPolicy) (G : History) (places : List ℕ) → IsBased seen P a G places → IsFoundPast a.store.policy (standing G places a) c
