-- What putting a checkpoint on the disk leaves there.
use Rattle.std.proofs.Common.{◌≡◌, inl, inr, ⊎_elim, ℕ, ◌≤◌, Bool, List, [], ◌∷◌, ◌++◌, length, Option, Some, None, refl, sym, ap, ◌∙◌, subst, true, false, arith, ◌+◌, length-append}
use Rattle.std.specs.Prelude.{◌&&◌, is_some, nat_lt, IfSome, if◌then◌else◌}
use Rattle.std.specs.Str.{bytes_eq}
use Rattle.std.proofs.lemmas.Slice.Eq.{bytes_eq-Decides}
use Rattle.ucon_model.specs.Found.{found_in, holds}
use Rattle.ucon_model.specs.Action.{Trace}
use Rattle.ucon_model.specs.History.{History, trace, trace_from}
use Rattle.ucon_model.specs.Payload.{most_payload}
use Rattle.ucon_model.specs.Plain.{Bytes, PlainPolicy}
use Rattle.ucon_disk.specs.Causes.{raised}
use Rattle.ucon_disk.specs.Disk.{Only}
use Rattle.ucon_disk.specs.Run.{IsAtRest, LeavesOnly, LeavesAfter, started, weaker}
use Rattle.ucon_journal.specs.declared.journal.Journal.{Journal}
use Rattle.ucon_journal.specs.Journal.{disk_of, version_of, told_payloads, IsClosed}
use Rattle.ucon_journal.specs.Found as journalled
use Rattle.ucon_journal.specs.Opened.{StillHolds, PerhapsAdded}
use Rattle.ucon_point.specs.PointText.{point_text}
use Rattle.ucon_state.specs.Held.{held_after}
use Rattle.ucon_turn.specs.Lists.{begins_refl}
use Rattle.ucon_syntax.specs.Policies.{accepted}
use Rattle.ucon_store.specs.Found.{Holds, IsFoundMarked, found_as}
use Rattle.ucon_store.specs.declared.beginning.Beginning.{Beginning}
use Rattle.ucon_store.specs.Keeping.{GrowsFrom}
use Rattle.ucon_store.specs.Kept.{Kept, IsKept, payload_in}
use Rattle.ucon_store.specs.declared.fault.PointFault.{PointFault}
use Rattle.ucon_store.specs.declared.fault.PointFault.TheVariants.{DiskFault, Stopped, OldJournal, TooLarge, NoMemory}
use Rattle.ucon_store.specs.Pointing.{IsFoundPointed, IsUnpointed, IsUnprepared}
use Rattle.ucon_store.specs.Points.{checkpoint, has_points, is_point, places_in, point_places, point_taken, points_of, steps_and_points, takes_with, text_behind, text_in_force}
use Rattle.ucon_store.specs.Starts.{IsStart, checkpoint_behind, point_behind, text_at_start}
use Rattle.ucon_store.specs.Stays.{Stays}
use Rattle.ucon_store.specs.Whole.{IsFounded, found_founded, left_founded}
use Rattle.ucon_store.proofs.Adding.{Adds, adds_payload, added_payload}
use Rattle.ucon_store.proofs.Finding.{Together, counted_hold, holds_more, holds_same, takes_of}
use Rattle.ucon_store.proofs.Versions.{closed_kind, takes_as}
use Rattle.ucon_store.proofs.Places.{place_added}
use Rattle.ucon_store.proofs.SamePlaces.{places_same}
use Rattle.ucon_store.proofs.Recorded.{HoldsAtRest, IsAppended, at_rest_as, counted_then, holds_now, kind_now, kind_then, leaves_grown, rest_with, rests_grown, same_kind, stays_marked, told_file, with_mark}
use Rattle.ucon_store.proofs.Stepped.{holds_founded, parts}
use Rattle.ucon_store.proofs.Stepping.{stands_as, text_append, trace_append}
use Rattle.ucon_disk.specs.Seen.{DiskSeen}

pub point_begins : (text : Bytes) (P : PlainPolicy) (H : History) → is_point (checkpoint text P H) ≡ true
point_begins text P H = refl

fits : (m n : ℕ) → n ≤ m → nat_lt m n ≡ false
fits m n le = grind arith

-- a payload that isn't too long is taken where it is the checkpoint
pub point_told : (text : Bytes) (P : PlainPolicy) (H : History) (payload : Bytes) → length payload ≤ most_payload
    → point_taken text P H payload ≡ (if bytes_eq payload (checkpoint text P H) then Some H else None)
unfolding point_taken
point_told text P H payload short = ap (λ (b : Bool). if b then None else if bytes_eq payload (checkpoint text P H) then Some H else None) (fits most_payload (length payload) short)

-- so the checkpoint of the entries before it is
pub point_here : (text : Bytes) (P : PlainPolicy) (H : History) (payload : Bytes) → payload ≡ checkpoint text P H → length payload ≤ most_payload → point_taken text P H payload ≡ Some H
point_here text P H payload is short =
    point_told text P H payload short
    ∙ ap (λ (b : Bool). if b then Some H else None) ((bytes_eq-Decides payload (checkpoint text P H)).1 is)

module _ (together : Together) (text : Bytes) (P : PlainPolicy) (H : History) (payload : Bytes) (is : payload ≡ checkpoint text P H) (short : length payload ≤ most_payload) where
  begins : is_point payload ≡ true
  begins = ap is_point is ∙ point_begins text P H

  takes : (file : Bytes) → has_points file ≡ true → takes_of file text P H payload ≡ Some H
  takes file kind = takes_as (has_points file) text P H payload true (ap (λ (b : Bool). b && is_point payload) kind ∙ begins) ∙ point_here text P H payload is short

  -- with the checkpoint more, it stands behind all entries
  pub places_more : (file c : Bytes) → has_points file ≡ true → Holds text P H file → has_points c ≡ has_points file → journalled.counted c ≡ journalled.counted file ++ payload ∷ []
      → point_places c ≡ point_places file ++ length H ∷ []
  places_more file c points h kind more =
      let held : found_in accepted (steps_and_points accepted) (journalled.counted file) ≡ holds text P H h.gate = ap (λ (b : Bool). found_in accepted (takes_with b) (journalled.counted file)) (sym points) ∙ counted_hold text P H file h in
      let here : point_places file ≡ places_in (journalled.counted file) = ap (λ (b : Bool). if b then places_in (journalled.counted file) else []) points in
      ap (λ (b : Bool). if b then places_in (journalled.counted c) else []) (kind ∙ points)
      ∙ (ap places_in more ∙ (place_added payload begins text P H h.gate (journalled.counted file) held ∙ ap (λ (l : List ℕ). l ++ length H ∷ []) (sym here)))

  pub holds_point : (file c : Bytes) → has_points file ≡ true → Holds text P H file → has_points c ≡ has_points file → journalled.counted c ≡ journalled.counted file ++ payload ∷ [] → Holds text P H c
  holds_point file c points h kind more = holds_more together text P H H (payload ∷ []) file c (H, takes file points, refl) h kind more

  -- the payloads of before, or those with the checkpoint
  pub pointed_perhaps : (file c : Bytes) → has_points file ≡ true → Holds text P H file → PerhapsAdded payload file c → IsFoundPointed text H (point_places file) c
  pointed_perhaps file c points h perhaps = ⊎_elim
      (λ (same : StillHolds file (journalled.counted file) c).
      let kind = same_kind file c same.magic in
      (found_as text P H c (holds_same text P H file c h kind same.payloads), inl (places_same file c kind same.payloads)))
      (λ (more : StillHolds file (journalled.counted file ++ payload ∷ []) c).
      let kind = same_kind file c more.magic in
      (found_as text P H c (holds_point file c points h kind more.payloads), inr (places_more file c points h kind more.payloads)))
      perhaps

  module _ {D : Type 0} {seen : D → DiskSeen} {journal : Journal D}
      (rest : HoldsAtRest seen journal text P H)
      (second : points_of (version_of journal) ≡ true) where
    kind_of : (file : Bytes) → (seen (disk_of journal)).contents ≡ Some file → has_points file ≡ true
    kind_of file told = kind_now rest file told ∙ second

    -- each image inside the call is found as the history, with the checkpoint or without
    pub run_pointed : (new : D) → LeavesAfter (seen (disk_of journal)) (seen new) (PerhapsAdded payload)
        → (file : Bytes) → (seen (disk_of journal)).contents ≡ Some file → LeavesOnly (seen (disk_of journal)) (seen new) (IsFoundPointed text H (point_places file))
    run_pointed new run file told =
        weaker (seen (disk_of journal)) (seen new) (PerhapsAdded payload file) (IsFoundPointed text H (point_places file))
        (λ c. pointed_perhaps file c (kind_of file told) (holds_now rest file told)) (run.each file (at_rest_as rest file told))

    module _ {next : Journal D} (appended : IsAppended seen journal next (payload ∷ [])) where
      -- where the checkpoints stand then
      pub added_places : (file c : Bytes) → (seen (disk_of journal)).contents ≡ Some file → (seen (disk_of next)).contents ≡ Some c → point_places c ≡ point_places file ++ length H ∷ []
      added_places file c was now =
          places_more file c (kind_of file was) (holds_now rest file was) (kind_then rest appended file c was now)
          (counted_then rest appended file c was now)

      -- the journal is at rest with the same entries
      pub rest_pointed : HoldsAtRest seen next text P H
      rest_pointed = rest_with rest appended together H (λ file told. (H, takes file (kind_of file told), refl))

-- ---- behind a history that a store is founded on

-- the checkpoint behind a history and entries is the one behind the history's trace and them
checkpoint_whole : (text start : Bytes) (before : ℕ) (P : PlainPolicy) (G H : History) → start ≡ text_in_force text G → length G ≡ before
    → point_behind start before P (trace P G) H ≡ checkpoint text P (G ++ H)
checkpoint_whole text start before P G H is count =
    let number : before + length H ≡ length (G ++ H) = sym (length-append G H ∙ ap (λ (n : ℕ). n + length H) count) in
    let in_force : text_in_force start H ≡ text_in_force text (G ++ H) = ap (λ (t : Bytes). text_in_force t H) is ∙ sym (text_append text G H) in
    let traces : trace_from P (trace P G) H ≡ trace P (G ++ H) = sym (trace_append P [] G H) in
    λ i. point_text (number i) (in_force i) (held_after P (traces i))

-- A checkpoint of a store is ready for the disk: no call has met a disk fault, the journal is closed over the store's disk, of which a crash leaves
-- nothing but the file, and may have checkpoints, and the payload isn't too long, and is the store's checkpoint behind each trace that leads to its
-- beginning.
pub record IsPointReady {D : Type 0} (seen : D → DiskSeen) (x : Kept D) (k : Journal D) (payload : Bytes) : Type 0 where
  pub unmarked : x.mark ≡ None
  pub closed : IsClosed seen k
  pub same : disk_of k ≡ x.disk
  pub only : Only (seen x.disk).contents (seen x.disk).images
  pub second : points_of (version_of k) ≡ true
  pub short : length payload ≤ most_payload
  pub writes : (P : PlainPolicy) (T : Trace) → accepted x.policy ≡ Some P → IsStart P x.point x.before T
      → payload ≡ checkpoint_behind x.policy x.point x.before P T x.entries

same_points : (o : Option Bytes) (points b : Bool) → points ≡ b → IfSome o (λ file. has_points file ≡ points)
    → IfSome o (λ file. has_points file ≡ b)
same_points o points b is kind = subst (λ (x : Bool). IfSome o (λ file. has_points file ≡ x)) is kind

-- why a checkpoint wasn't prepared is why the store has none more
unpointed : {D : Type 0} (seen : D → DiskSeen) (P : PlainPolicy) (T : Trace) (store : Kept D) (refusal : PointFault) (points : Bool)
    (payload : Bytes)
    → IsUnprepared points payload refusal → payload ≡ checkpoint_behind store.policy store.point store.before P T store.entries → IfSome (seen store.disk).contents (λ file. has_points file ≡ points)
    → IsUnpointed seen P T store refusal
unpointed seen P T store DiskFault points payload h is kind = absurd h
unpointed seen P T store Stopped points payload h is kind = absurd h
unpointed seen P T store OldJournal points payload h is kind = same_points (seen store.disk).contents points false h kind
unpointed seen P T store (TooLarge size) points payload h is kind = (same_points (seen store.disk).contents points true h.0 kind, h.1 ∙ ap (λ (l : Bytes). length l) is, h.2)
unpointed seen P T store (NoMemory e) points payload h is kind = tt

module _ {E D : Type 0} {follows : E → PlainPolicy → Trace → Type 0} {seen : D → DiskSeen} {engine : E}
    {j : Journal D} {text : Bytes} {point : Option Beginning} {before opening : ℕ} {now : Bytes} {H : History} {mark : Option History}
    (kept : IsKept follows seen engine j text point before now H mark)
    {x : Kept D} (is : parts text point before opening H mark (disk_of j) ≡ x) (none : mark ≡ None) where
  -- the checkpoint after the entries, in the text that is kept
  abbrev point_now : PlainPolicy → Trace → Bytes
  point_now P T = point_text (before + length H) now (held_after P (trace_from P T H))

  point_is : (P : PlainPolicy) (T : Trace) → point_now P T ≡ checkpoint_behind text (payload_in point) before P T H
  point_is P T = ap (λ (t : Bytes). point_text (before + length H) t (held_after P (trace_from P T H))) (kept.in_force none)

  -- a store's checkpoint is ready where it was written after what the engine follows
  pub point_ready : {k : Journal D} → (IsClosed seen j → IsClosed seen k) → disk_of k ≡ disk_of j → version_of k ≡ version_of j
      → points_of (version_of j) ≡ true
      → {payload written : Bytes} → payload ≡ written → length written ≤ most_payload
      → {count : ℕ} → count ≡ before + length H → {shown : Bytes} → shown ≡ now
      → ((P : PlainPolicy) (T : Trace) → follows engine P T → written ≡ point_text count shown (held_after P T))
      → IsPointReady seen x k payload
  point_ready {k} closed same version second {payload} is_written short is_count is_shown writes =
      subst (λ (s : Kept D). IsPointReady seen s k payload) is (record {
        unmarked = none;
        closed = closed (kept.rests none).closed;
        same = same;
        only = (kept.rests none).only;
        second = ap points_of version ∙ second;
        short = subst (λ (l : Bytes). length l ≤ most_payload) (sym is_written) short;
        writes = λ P T accepts leads.
            is_written ∙ (writes P (trace_from P T H) (stands_as kept none P accepts T leads)
            ∙ ((λ i. point_text (is_count i) (is_shown i) (held_after P (trace_from P T H))) ∙ point_is P T));
      })

  -- and why it wasn't prepared is why the store has none more
  pub point_refused : (refusal : PointFault) {count : ℕ} → count ≡ before + length H → {shown : Bytes} → shown ≡ now
      → ((P : PlainPolicy) (T : Trace) → follows engine P T
      → IsUnprepared (points_of (version_of j)) (point_text count shown (held_after P T)) refusal)
      → (P : PlainPolicy) (T : Trace) → accepted x.policy ≡ Some P → IsStart P x.point x.before T → IsUnpointed seen P T x refusal
  point_refused refusal {count} is_count {shown} is_shown refused =
      subst (λ (s : Kept D). (P : PlainPolicy) (T : Trace) → accepted s.policy ≡ Some P → IsStart P s.point s.before T
      → IsUnpointed seen P T s refusal) is
      (λ P T accepts leads.
      unpointed seen P T (parts text point before opening H mark (disk_of j)) refusal (points_of (version_of j))
      (point_text count shown (held_after P (trace_from P T H)))
      (refused P (trace_from P T H) (stands_as kept none P accepts T leads))
      ((λ i. point_text (is_count i) (is_shown i) (held_after P (trace_from P T H))) ∙ point_is P T) (closed_kind seen j (kept.rests none).closed))

-- the store on this disk
abbrev pub on_disk : {D : Type 0} → Kept D → D → Kept D
on_disk x disk = record x { disk = disk }

-- a crash leaves what a store is founded on, with its entries, and its checkpoints with one more, behind all entries, or without
abbrev pub LeavesPoint : {D : Type 0} → (D → DiskSeen) → Kept D → D → Type 0
LeavesPoint seen x new = (P : PlainPolicy) (G : History) (file : List ℕ) → IsFounded seen P x G
    → (seen x.disk).contents ≡ Some file
    → LeavesOnly (seen x.disk) (seen new) (IsFoundPointed x.policy (G ++ x.entries) (point_places file))

-- before a call of the disk
pub points_nothing : {D : Type 0} (seen : D → DiskSeen) (x : Kept D) → ((d : D) (c : List ℕ) → (seen d).images_since (seen d).moment c → (seen d).images c)
    → (new : D) → new ≡ x.disk → LeavesPoint seen x new
points_nothing {D} seen x only new same P G file f told =
    let all : Only (Some file) (seen x.disk).images = subst (λ (o : Option Bytes). Only o (seen x.disk).images) told f.only in
    subst (λ (d : D). LeavesOnly (seen x.disk) (seen d) (IsFoundPointed x.policy (G ++ x.entries) (point_places file))) (sym same)
    (started (seen x.disk) (IsFoundPointed x.policy (G ++ x.entries) (point_places file))
    (λ c since.
    let image = only x.disk c since in
    (found_founded seen P x G f (ap is_some told) c image, inl (ap point_places (all c image)))))

module _ {D : Type 0} {seen : D → DiskSeen} {x : Kept D} {k : Journal D} {payload : Bytes}
    (ready : IsPointReady seen x k payload) where
  -- the file may have checkpoints
  pub points_ready : IfSome (seen x.disk).contents (λ file. has_points file ≡ true)
  points_ready =
      subst (λ (d : D). IfSome (seen d).contents (λ file. has_points file ≡ true)) ready.same
      (same_points (seen (disk_of k)).contents (points_of (version_of k)) true ready.second (closed_kind seen k ready.closed))

  -- the checkpoint isn't too long
  pub fits_ready : (P : PlainPolicy) (T : Trace) → accepted x.policy ≡ Some P → IsStart P x.point x.before T
      → length (checkpoint_behind x.policy x.point x.before P T x.entries) ≤ most_payload
  fits_ready P T accepts leads = subst (λ (l : Bytes). length l ≤ most_payload) (ready.writes P T accepts leads) ready.short

  -- since its record's making has begun, each image has it at most more, whatever is found in them
  pub adds_point : {new : D} → LeavesAfter (seen (disk_of k)) (seen new) (PerhapsAdded payload)
      → Adds seen x (λ P T. checkpoint_behind x.policy x.point x.before P T x.entries ∷ []) new
  adds_point = adds_payload seen x (λ P T. checkpoint_behind x.policy x.point x.before P T x.entries ∷ []) k ready.same ready.only
      (λ P T accepts leads. ap (λ (l : Bytes). l ∷ []) (ready.writes P T accepts leads))

  -- once it is there, it stands behind the payloads of before
  pub written_point : {next : Journal D} → IsAppended seen k next (payload ∷ [])
      → (P : PlainPolicy) (T : Trace) (file : Bytes) → accepted x.policy ≡ Some P → IsStart P x.point x.before T → (seen x.disk).contents ≡ Some file
      → told_payloads (seen (disk_of next)).contents ≡ journalled.counted file ++ checkpoint_behind x.policy x.point x.before P T x.entries ∷ []
  written_point = added_payload seen x (λ P T. checkpoint_behind x.policy x.point x.before P T x.entries ∷ []) k ready.same ready.only
      (λ P T accepts leads. ap (λ (l : Bytes). l ∷ []) (ready.writes P T accepts leads))

  module _ (P : PlainPolicy) (G : History) (f : IsFounded seen P x G) where
    is_checkpoint : payload ≡ checkpoint x.policy P (G ++ x.entries)
    is_checkpoint =
        ready.writes P (trace P G) f.accepts f.front.starts
        ∙ checkpoint_whole x.policy (text_at_start x.policy x.point) x.before P G x.entries (sym f.front.text) f.front.count

    rest : HoldsAtRest seen k x.policy P (G ++ x.entries)
    rest = holds_founded seen x k ready.closed ready.same P G f

  module _ (together : Together) where
    -- what a crash inside leaves
    pub leaves_point : {new : D} → LeavesAfter (seen (disk_of k)) (seen new) (PerhapsAdded payload)
        → LeavesPoint seen x new
    leaves_point {new} run P G file f told =
        subst (λ (d : D). (seen d).contents ≡ Some file
        → LeavesOnly (seen d) (seen new) (IsFoundPointed x.policy (G ++ x.entries) (point_places file))) ready.same
        (run_pointed together x.policy P (G ++ x.entries) payload (is_checkpoint P G f) ready.short
        (rest P G f) ready.second new run file) told

    -- where the disk failed, the store stays with a mark of no entries
    pub stays_stopped : {new : D} → LeavesAfter (seen (disk_of k)) (seen new) (PerhapsAdded payload)
        → is_some (seen new).contents ≡ is_some (seen (disk_of k)).contents
        → (seen new).faults ≡ raised (seen (disk_of k)).faults
        → ((d : D) (t : ℕ) (c : List ℕ) → t ≤ (seen d).moment → (seen d).images c → (seen d).images_since t c)
        → {y : Kept D} → y ≡ with_mark x [] new → Stays seen x y
    stays_stopped {new} run tells failed counts is =
        stays_marked seen x [] new is ready.unmarked (failed ∙ ap (λ (d : D). raised (seen d).faults) ready.same)
        (tells ∙ ap (λ (d : D). is_some (seen d).contents) ready.same) counts
        (λ P G f told.
        let file = told_file (seen x.disk).contents told in
        weaker (seen x.disk) (seen new) (IsFoundPointed x.policy (G ++ x.entries) (point_places file.0)) (IsFoundMarked x.policy (G ++ x.entries) (Some []))
        (λ c h. inl h.0) (leaves_point run P G file.0 f file.1))
        (subst (λ (d : D). LeavesAfter (seen d) (seen new) GrowsFrom) ready.same (leaves_grown seen (payload ∷ []) (disk_of k) new run))

    module _ {next : Journal D} (appended : IsAppended seen k next (payload ∷ [])) where
      -- where the checkpoints stand then
      pub places_point : (P : PlainPolicy) (G : History) (was file : Bytes) → IsFounded seen P x G → (seen x.disk).contents ≡ Some was
          → (seen (disk_of next)).contents ≡ Some file
          → point_places file ≡ point_places was ++ length (G ++ x.entries) ∷ []
      places_point P G was file f told now =
          added_places together x.policy P (G ++ x.entries) payload (is_checkpoint P G f) ready.short (rest P G f) ready.second appended was file
          (ap (λ d. (seen d).contents) ready.same ∙ told) now

      -- the store is founded still
      pub founded_point : {y : Kept D} → y ≡ on_disk x (disk_of next) → (P : PlainPolicy) (G : History) → IsFounded seen P x G
          → IsFounded seen P y G
      founded_point is P G f =
          let now = rest_pointed together x.policy P (G ++ x.entries) payload (is_checkpoint P G f) ready.short (rest P G f) ready.second appended in
          subst (λ (s : Kept D). IsFounded seen P s G) (sym is) (record {
            accepts = f.accepts;
            front = record { starts = f.front.starts; count = f.front.count; text = f.front.text };
            unmarked = f.unmarked;
            holds = now.holds;
            only = now.only;
          })

      -- and it stays
      pub stays_point : LeavesAfter (seen (disk_of k)) (seen (disk_of next)) (PerhapsAdded payload)
          → (seen (disk_of next)).faults ≡ (seen (disk_of k)).faults
          → {y : Kept D} → y ≡ on_disk x (disk_of next) → Stays seen x y
      stays_point run unfailed is =
          subst (Stays seen x) (sym is) (record {
            policy = refl;
            point = refl;
            before = refl;
            opening = refl;
            entries = begins_refl x.entries;
            mark = λ es some. let no : None ≡ Some es = sym ready.unmarked ∙ some in absurd (cc no);
            unfailed = λ _. unfailed ∙ ap (λ d. (seen d).faults) ready.same;
            failed = λ _ es some. let no : None ≡ Some es = sym ready.unmarked ∙ some in absurd (cc no);
            tells = λ told. appended.tells ∙ (ap (λ (d : D). is_some (seen d).contents) ready.same ∙ told);
            left = λ P G f told.
                let file = told_file (seen x.disk).contents told in
                weaker (seen x.disk) (seen (disk_of next)) (IsFoundPointed x.policy (G ++ x.entries) (point_places file.0)) _
                (λ c h.
                let all = begins_refl (G ++ x.entries) in
                inr (record { history = G ++ x.entries; found = h.0; begun = all; within = inl all }))
                (leaves_point run P G file.0 f file.1);
            founded = λ P G f _. founded_point refl P G f;
            left_now = λ P G f. left_founded seen P (on_disk x (disk_of next)) G (founded_point refl P G f);
            grows = subst (λ (d : D). LeavesAfter (seen d) (seen (disk_of next)) GrowsFrom) ready.same
                (leaves_grown seen (payload ∷ []) (disk_of k) (disk_of next) run);
            rests = λ _ file rest. rests_grown seen (payload ∷ []) k next ready.closed appended file (subst (λ (d : D). IsAtRest (seen d) file) (sym ready.same) rest);
          })
