-- A run of clients that were served at once, from the opened store to the closed one.
use Rattle.std.proofs.Common.{◌≡◌, ℕ, Bool, true, List, map, refl}
use Rattle.std.specs.Prelude.{◌<◌, Option, None, is_some, ⊤}
use Rattle.ucon_base.specs.Elements.{Each}
use Rattle.ucon_model.specs.declared.command.Caller.{Caller}
use Rattle.ucon_model.specs.declared.command.Entry.{Entry}
use Rattle.ucon_model.specs.Action.{Trace}
use Rattle.ucon_model.specs.History.{History}
use Rattle.ucon_model.specs.Plain.{Bytes, PlainPolicy}
use Rattle.ucon_model.specs.LegalRun.{Answered}
use Rattle.ucon_model.specs.Output.{FitsLine, output}
use Rattle.ucon_store.specs.Kept.{Kept}
use Rattle.ucon_store.specs.Starts.{IsStart}
use Rattle.ucon_store.specs.Stays.{Stays, stays_same}
use Rattle.ucon_store.specs.Whole.{IsFront, whole}
use Rattle.ucon_outcome.specs.declared.outcome.Outcome.{Outcome}
use Rattle.ucon_top.specs.Closing.{IsClosedRun, IsMarkedBy, IsToldBy, IsWritten}
use Rattle.ucon_top.specs.Stepping.{AreAnswered, IsRunAfter, IsRunBetween}
use Rattle.ucon_top.proofs.Answering.{AreLegal, AreReadBack, text_read, unanswered, untold}
use Rattle.ucon_top.proofs.Closing.{ends_so, marked_so}
use Rattle.ucon_disk.specs.Seen.{DiskSeen}

module _ {D : Type 0} (seen : D → DiskSeen)
    (sees : Caller → Caller → Bool) (P : PlainPolicy) (before now : Option Bytes) where
  -- the store was closed without a line
  pub closed_at_once : ((d : D) (c : List ℕ) → (seen d).images_since (seen d).moment c → (seen d).images c) → AreLegal → (store : Kept D) (lines : List Entry) (disk : D) (outcome : Outcome)
      → store.mark ≡ None → disk ≡ store.disk → IsMarkedBy outcome store.mark
      → (AreAnswered sees true P store store lines (λ told. ⊤) → AreAnswered sees true P store store lines (IsToldBy lines before now outcome))
      → IsClosedRun seen sees true P store lines outcome disk before now
  closed_at_once only laws store lines disk outcome unmarked disk_is marked ends = record {
    closed = store;
    closes = record { stays = stays_same seen only store; disk_is = disk_is };
    marked = marked;
    answered = ends (unanswered laws P sees true store lines unmarked);
  }

  -- it was closed behind these answers, whose output was written so
  module _ (opened closed : Kept D) (told : List Answered) (disk : D) (stays : Stays seen opened closed)
      (after : (T : Trace) → IsStart P opened.point opened.before T → IsRunAfter sees true P T opened closed told)
      (run : (G : History) → IsFront P opened G → IsRunBetween sees P (whole G opened) (whole G closed) told) (disk_is : disk ≡ closed.disk) where
    abbrev Lines : List Entry
    Lines = map (λ (t : Answered). t.line) told

    closed_behind : (outcome : Outcome) → IsMarkedBy outcome closed.mark
        → AreAnswered sees true P opened closed Lines (IsToldBy Lines before now outcome)
        → IsClosedRun seen sees true P opened Lines outcome disk before now
    closed_behind outcome marked answered =
        record { closed = closed; closes = record { stays = stays; disk_is = disk_is }; marked = marked; answered = answered }

    pub closed_written : AreReadBack → (outcome : Outcome) (text : Bytes) (stopped : Bool) (failed fails : ℕ) → text ≡ output told
        → Each (λ t. FitsLine t.answer) told → Each (λ t. t.line.caller.0 < 256) told → is_some closed.mark ≡ stopped
        → IsWritten outcome text stopped before now failed fails
        → IsClosedRun seen sees true P opened Lines outcome disk before now
    closed_written back outcome text stopped failed fails is fits clients is_stopped written =
        closed_behind outcome (marked_so outcome closed.mark text stopped before now failed fails is_stopped written)
        (ends_so sees true P opened closed Lines text stopped before now failed fails
        (text_read sees true P opened closed Lines told refl after run back text is fits clients) outcome written)

    pub closed_untold : (outcome : Outcome) → IsMarkedBy outcome closed.mark
        → (AreAnswered sees true P opened closed Lines (λ told. ⊤) → AreAnswered sees true P opened closed Lines (IsToldBy Lines before now outcome))
        → IsClosedRun seen sees true P opened Lines outcome disk before now
    closed_untold outcome marked ends = closed_behind outcome marked (ends (untold sees true P opened closed Lines told refl after run))
