-- A store that answers lines, as the keeper of a conversation.
use Rattle.std.specs.Prelude.{◌≡◌, ℕ, ◌≤◌, List, ◌++◌, Option, Some, None, IfSome, false, codes}
use Rattle.ucon_disk.specs.Run.{LeavesOnly}
use Rattle.ucon_disk.specs.Seen.{DiskSeen}
use Rattle.ucon_model.specs.Action.{Trace}
use Rattle.ucon_model.specs.History.{History}
use Rattle.ucon_model.specs.Plain.{Bytes, PlainPolicy}
use Rattle.ucon_store.specs.Kept.{Kept}
use Rattle.ucon_store.specs.Points.{SameKind, has_points}
use Rattle.ucon_store.specs.Starts.{IsStart}
use Rattle.ucon_store.specs.Stays.{Stays}
use Rattle.ucon_store.specs.Whole.{IsFront}
use Rattle.ucon_syntax.specs.Policies.{accepted}
use Rattle.ucon_tell.specs.Seen.{KeeperSeen}
use Rattle.ucon_tell.specs.Told.{Told}
use Rattle.ucon_turn.specs.Lists.{Begins}
use Rattle.ucon_converse.specs.Answering.{Answering}
use Rattle.ucon_converse.specs.Holding.{HasFirst, HasPointsOf, HasPointsPast, HoldsAll, IsFoundedAt, standing}
use Rattle.ucon_converse.specs.Reached.{AreGivenAtBy, GivesReplyAtBy, reached_by}
use Rattle.ucon_converse.specs.Replies.{AreGivenBy, GivesReplyBy, refusal_line}

-- some trace leads to where a store begins, under its policy
pub record IsLed {D : Type 0} (s : Kept D) : Type 0 where
  pub P : PlainPolicy
  pub accepts : accepted s.policy ≡ Some P
  pub begun : Trace
  pub starts : IsStart P s.point s.before begun

-- The moment of a disk, as far as is said of a store. If the disk tells nothing, no clause of a store tells of moments, and nothing is said of
-- images.
abbrev pub moment_by : Option Bytes → ℕ → ℕ
moment_by None moment = 0
moment_by (Some file) moment = moment

abbrev pub moment_of : DiskSeen → ℕ
moment_of d = moment_by d.contents d.moment

-- what is seen of a store as a keeper
abbrev pub kept_seen : {D : Type 0} → (D → DiskSeen) → Answering D → KeeperSeen
kept_seen seen a = record {
  moment = moment_of (seen a.store.disk);
  images_since = (seen a.store.disk).images_since;
  holds = HoldsAll seen a;
}

-- its journal is an old one, which has no checkpoints, if the disk tells
abbrev pub IsDated : Option Bytes → Type 0
IsDated contents = IfSome contents (λ file. has_points file ≡ false)

-- Each image since the first has that one's policy and checkpoints. Each image now has the last one's policy and checkpoints.
pub record KeepsPoints {D : Type 0} (seen : D → DiskSeen) (x y : Answering D) (G : History) (places : List ℕ) : Type 0 where
  pub since : LeavesOnly (seen x.store.disk) (seen y.store.disk) (HasPointsPast x.store.policy (places ++ x.made))
  pub now : (c : Bytes) → (seen y.store.disk).images c → HasFirst y.store.policy c × HasPointsOf (standing G places y) c

-- Its runs leave true what a store's do, and its moment doesn't fall. One that is stopped stays as it is. An old journal stays one. Checkpoints are only
-- added, and stay.
pub record Keeps {D : Type 0} (seen : D → DiskSeen) (x y : Answering D) : Type 0 where
  pub stays : Stays seen x.store y.store
  pub later : moment_of (seen x.store.disk) ≤ moment_of (seen y.store.disk)
  pub still : (es : History) → x.store.mark ≡ Some es → y ≡ x
  pub kind : SameKind (seen x.store.disk).contents (seen y.store.disk).contents
  pub made : Begins x.made y.made
  pub points : (P : PlainPolicy) (G : History) (places : List ℕ) → IsFoundedAt seen P x G places → KeepsPoints seen x y G places

-- From one store to the next a line was given this reply, behind each history that leads to where the first one begins, and behind each trace.
pub record GivesReply {D : Type 0} (seen : D → DiskSeen) (x y : Answering D) (line reply : Bytes) : Type 0 where
  pub keeps : Keeps seen x y
  pub said : (P : PlainPolicy) (G : History) (places : List ℕ) → accepted x.store.policy ≡ Some P → IsFront P x.store G
      → GivesReplyBy accepted P x.store.policy (IsDated (seen x.store.disk).contents) (standing G places x) (standing G places y) line reply
  pub said_at : (P : PlainPolicy) (T : Trace) → accepted x.store.policy ≡ Some P → IsStart P x.store.point x.store.before T
      → GivesReplyAtBy accepted P (reached_by P T x.store) (reached_by P T y.store) line reply

-- From one store to the next these lines were given these replies, one after the other. That holds behind each history that leads to where the first
-- one begins, and behind each trace.
pub record GivesReplies {D : Type 0} (seen : D → DiskSeen) (x y : Answering D) (told : List Told) : Type 0 where
  pub keeps : Keeps seen x y
  pub said : (P : PlainPolicy) (G : History) (places : List ℕ) → accepted x.store.policy ≡ Some P → IsFront P x.store G
      → AreGivenBy accepted P x.store.policy (IsDated (seen x.store.disk).contents) (standing G places x) (standing G places y) told
  pub said_at : (P : PlainPolicy) (T : Trace) → accepted x.store.policy ≡ Some P → IsStart P x.store.point x.store.before T
      → AreGivenAtBy accepted P (reached_by P T x.store) (reached_by P T y.store) told

-- a line that is too long is told so, whatever the store
abbrev pub Refuses : {D : Type 0} → Answering D → Bytes → Type 0
Refuses a reply = reply ≡ refusal_line (codes "too long")
