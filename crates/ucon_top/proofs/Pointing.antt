-- From the opening of a journal to its closing: the checkpoint that was written over it.
use Rattle.std.proofs.Common.{◌≡◌, ◌≢◌, ◌⊎◌, ⊎_elim, ℕ, ◌+◌, ◌<◌, ◌≤◌, Bool, false, true, List, [], ◌∷◌, ◌++◌, length, length-append, refl, sym, ap, subst, ◌∙◌, inl, inr, arith}
use Rattle.std.specs.Prelude.{Option, Some, None, IsSome, IfSome, Result, Ok, IfOk, is_some, nat_le, if◌then◌else◌, ⊤}
use Rattle.std.specs.Io.KnownBytes.{Appends}
use Rattle.ucon_flow.specs.Writing.{AppendsPrefix}
use Rattle.ucon_disk.specs.Causes.{raised}
use Rattle.ucon_disk.specs.Disk.{Only}
use Rattle.ucon_disk.specs.Run.{LeavesAfter, LeavesOnly, joined, weaker}
use Rattle.ucon_journal.specs.Found as journal
use Rattle.ucon_journal.specs.JournalBytes.{records}
use Rattle.ucon_model.specs.Document.{policy_part}
use Rattle.ucon_model.specs.Action.{Trace}
use Rattle.ucon_model.specs.History.{History, trace}
use Rattle.ucon_model.specs.Plain.{Bytes, PlainPolicy}
use Rattle.ucon_store.specs.Found.{Holds, IsFoundAs, found_as}
use Rattle.ucon_store.specs.Keeping.{GrowsFrom, HasSameRecords}
use Rattle.ucon_store.specs.Kept.{Kept}
use Rattle.ucon_store.specs.Opening.{Opens}
use Rattle.ucon_store.specs.Pointing.{IsFoundPointed, IsSameStore, IsUnpointed}
use Rattle.ucon_store.specs.declared.fault.PointFault.{PointFault}
use Rattle.ucon_store.specs.declared.fault.PointFault.TheVariants as faults
use Rattle.ucon_store.specs.Points.{IsOld, SamePlaces, has_points, places_in, point_places}
use Rattle.ucon_point.specs.PointRead.{point_read}
use Rattle.ucon_store.specs.Opened.{IsPointOf, text_said}
use Rattle.ucon_store.specs.Starts.{IsStart, checkpoint_behind, text_at_start}
use Rattle.ucon_store.specs.Stays.{Stays, stays_same}
use Rattle.ucon_store.specs.Whole.{IsFounded, IsFront, trace_behind, whole}
use Rattle.ucon_syntax.specs.Policies.{accepted}
use Rattle.ucon_outcome.specs.declared.outcome.Outcome.{Outcome}
use Rattle.ucon_outcome.specs.declared.outcome.Outcome.TheVariants as outcomes
use Rattle.ucon_top.specs.Accepted.{HasPolicy}
use Rattle.ucon_top.specs.Closing.{IsWritten}
use Rattle.ucon_outcome.specs.Ending.{by_point}
use Rattle.ucon_top.specs.Own.{LeadsThereBy}
use Rattle.ucon_top.specs.Pointed.{FitsRecord, HasItsPoints, IsCheckpointSize, IsFullBy, IsNotOld, IsPointedAt, MayBePointed, point_line}
use Rattle.ucon_top.specs.PointEnding.{BehindEach, EndsPoint, HasPut, IsOfNoPoint, IsOfPoint, IsPut, LeavesPointed, MayHavePoints}
use Rattle.ucon_top.specs.Seen.{as_it_was}
use Rattle.ucon_top.specs.Unread.{IsUnread}
use Rattle.ucon_top.specs.OwnReading.{HasNoPoint, HasPoint, HasPointed, HasPointedInput, IsPointOver, IsStillFound, MayHavePoint}
use Rattle.ucon_top.proofs.Behind.{checkpoint_whole}
use Rattle.ucon_top.proofs.Playing.{HasMoments, IsOpened, keeps_file, told_file}
use Rattle.ucon_disk.specs.Seen.{DiskSeen}
use Rattle.ucon_flow.specs.Seen.{SinkSeen}

-- the law of the text that a checkpoint says
abbrev pub TextsAreSaid : Type 0
TextsAreSaid = (entries : ℕ) (P : PlainPolicy) (T : Trace) (payload : Bytes) → (point : IsPointOf entries P T payload) → (text : Bytes)
    → text_said text (point_read payload) ≡ point.text

-- where a disk tells its file, something is so of it
if_told : (o : Option Bytes) (so : Bytes → Type 0) → ((file : Bytes) → o ≡ Some file → so file) → IfSome o so
if_told None so each = tt
if_told (Some file) so each = each file refl

so_told : (o : Option Bytes) (so : Bytes → Type 0) (file : Bytes) → o ≡ Some file → IfSome o so → so file
so_told o so file is h = subst (λ (p : Option Bytes). IfSome p so) is h

places_told : (o n : Option Bytes) (before now : Bytes) → o ≡ Some before → n ≡ Some now → SamePlaces o n → point_places now ≡ point_places before
places_told o n before now was is same = subst (λ (p : Option Bytes). SamePlaces (Some before) p) is (subst (λ (p : Option Bytes). SamePlaces p n) was same)

-- an image that opening may leave has the checkpoints of the file
no_places : (b : Bool) (l : List Bytes) → places_in l ≡ [] → (if b then places_in l else []) ≡ []
no_places true l none = none
no_places false l none = refl

long_or_not : (file : Bytes) → (9 < length file) ⊎ (journal.counted file ≡ [])
long_or_not file = by (nat_le (length file) 9) refl
  where
    above : (n : ℕ) → nat_le n 9 ≡ false → 9 < n
    above n long = grind arith

    by : (b : Bool) → nat_le (length file) 9 ≡ b → (9 < length file) ⊎ (journal.counted file ≡ [])
    by true short =
        inr (ap (λ (t : Bool). journal.payloads_found (if t then journal.Fresh
        else if is_some (journal.version_told file) then journal.Holds (journal.payloads_from file 8) (8 + length (records (journal.payloads_from file 8)))
        else journal.NotJournal)) short)
    by false long = inl (above (length file) long)

-- and a file without a record has none
empty_places : (file : Bytes) (l : List Bytes) → journal.counted file ≡ l → places_in l ≡ [] → point_places file ≡ []
empty_places file l is none = no_places (has_points file) (journal.counted file) (ap places_in is ∙ none)

opens_places : (text file c : Bytes) → Opens text file c → point_places c ≡ point_places file
opens_places text file c o = by o.records
  where
    by : HasSameRecords text file c → point_places c ≡ point_places file
    by (inr made) = empty_places c (text ∷ []) made.1 refl ∙ sym (empty_places file [] made.0 refl)
    by (inl same) = ⊎_elim
        (λ (long : 9 < length file). λ i. if o.kind long i then places_in (same i) else [])
        (λ (none : journal.counted file ≡ []). empty_places c [] (same ∙ none) refl ∙ sym (empty_places file [] none refl))
        (long_or_not file)

module _ {D : Type 0} (seen : D → DiskSeen)
    (moments : HasMoments seen) (bytes : Bytes) (P : PlainPolicy) (has_policy : HasPolicy bytes P) (disk : D) (store : Kept D)
    (opened : IsOpened seen P (policy_part bytes) disk store) where
  abbrev text : Bytes
  text = policy_part bytes

  abbrev count : ℕ
  count = store.before + length store.entries

  -- the file of the open store
  abbrev file_of : (before : Bytes) → (seen disk).contents ≡ Some before → (file : Bytes) × ((seen store.disk).contents ≡ Some file)
  file_of before told = told_file (seen store.disk).contents (opened.tells (ap is_some told))

  -- ---- behind a history on which the store is founded, and as which with its entries the file was found

  module _ (before : Bytes) (told : (seen disk).contents ≡ Some before) (G : History) (f : IsFounded seen P store G)
      (found : IsFoundAs text before (G ++ store.entries)) where
    abbrev IsStillAs : Bytes → Type 0
    IsStillAs c = IsFoundAs text c (G ++ store.entries)

    abbrev opened_file : Bytes
    opened_file = (file_of before told).0

    opened_told : (seen store.disk).contents ≡ Some opened_file
    opened_told = (file_of before told).1

    pub as_many : length (G ++ store.entries) ≡ count
    as_many = length-append G store.entries ∙ ap (λ (n : ℕ). n + length store.entries) f.front.count

    opened_found : IsStillAs opened_file
    opened_found = subst (λ (t : Bytes). IsFoundAs t opened_file (G ++ store.entries)) opened.policy
        (found_as store.policy P (G ++ store.entries) opened_file (so_told (seen store.disk).contents (Holds store.policy P (G ++ store.entries)) opened_file opened_told f.holds))

    opened_only : (c : Bytes) → (seen store.disk).images c → c ≡ opened_file
    opened_only = subst (λ (o : Option Bytes). Only o (seen store.disk).images) opened_told f.only

    opened_places : point_places opened_file ≡ point_places before
    opened_places = places_told (seen disk).contents (seen store.disk).contents before opened_file told opened_told opened.places

    pointed_found : (c : Bytes) → IsFoundPointed store.policy (G ++ store.entries) (point_places opened_file) c → IsStillAs c
    pointed_found c h = subst (λ (t : Bytes). IsFoundAs t c (G ++ store.entries)) opened.policy h.0

    -- while the store is opened, with its checkpoints
    abbrev IsStillWhole : Bytes → Type 0
    IsStillWhole c = IsStillAs c × HasItsPoints before c

    abbrev WholeOr : Bytes → Type 0
    WholeOr c = (seen disk).images c ⊎ IsStillWhole c

    since_opened : LeavesOnly (seen disk) (seen store.disk) WholeOr
    since_opened =
        weaker (seen disk) (seen store.disk) (λ c. (seen disk).images c ⊎ Opens text before c) WholeOr
        (λ c. ⊎_elim inl (λ o. inr (o.same (G ++ store.entries) found, opens_places text before c o))) (opened.images_kept.each before told)

    -- no call of the disk behind the opening: no image has a checkpoint more
    pub still_unpointed : (now : D) → now ≡ store.disk → IsStillFound text before (G ++ store.entries) (seen disk) (seen now) HasItsPoints HasItsPoints
    still_unpointed now same = record {
      since = subst (λ (d : D). LeavesOnly (seen disk) (seen d) WholeOr) (sym same) since_opened;
      now = λ c image.
          let is = opened_only c (subst (λ (d : D). (seen d).images c) same image) in
          (subst IsStillAs (sym is) opened_found, ap point_places is ∙ opened_places);
    }

    -- a checkpoint behind the opening
    module _ (now : D) (inside : LeavesPointed seen (whole G store) now) where
      abbrev MayBeMore : Bytes → Type 0
      MayBeMore c = IsStillAs c × MayBePointed count before c

      may_pointed : (c : Bytes) → IsFoundPointed store.policy (G ++ store.entries) (point_places opened_file) c → MayBeMore c
      may_pointed c h = (
        pointed_found c h,
        ⊎_elim (λ same. inl (same ∙ opened_places)) (λ more. inr (more ∙ (λ i. opened_places i ++ as_many i ∷ []))) h.1,
      )

      run_pointed : LeavesOnly (seen store.disk) (seen now) MayBeMore
      run_pointed =
          weaker (seen store.disk) (seen now) (IsFoundPointed store.policy (G ++ store.entries) (point_places opened_file)) MayBeMore may_pointed
          (inside opened_file opened_told)

      abbrev MoreOr : Bytes → Type 0
      MoreOr c = (seen disk).images c ⊎ MayBeMore c

      since_pointed : LeavesOnly (seen disk) (seen now) MoreOr
      since_pointed =
          joined (seen disk) (seen store.disk) (seen now) MoreOr
          (weaker (seen disk) (seen store.disk) WholeOr MoreOr (λ c. ⊎_elim inl (λ h. inr (h.0, inl h.1))) since_opened)
          (weaker (seen store.disk) (seen now) MayBeMore MoreOr (λ c. inr) run_pointed)

      still_pointed : (leaves : Bytes → Bytes → Type 0) → ((c : Bytes) → (seen now).images c → IsStillAs c × leaves before c)
          → IsStillFound text before (G ++ store.entries) (seen disk) (seen now) (MayBePointed count) leaves
      still_pointed leaves left = record { since = since_pointed; now = left }

      -- each image now may have it
      perhaps_pointed : (c : Bytes) → (seen now).images c → MayBeMore c
      perhaps_pointed c image = run_pointed.each c (moments.counts_now now (seen store.disk).moment c run_pointed.later image)

    written_there : (now : D) → HasPut seen P (whole G store) now
        → (c : Bytes) → (seen now).images c → IsStillAs c × IsPointedAt count before c
    written_there now put c image =
        let left = put.left opened_file opened_told c image in
        (subst (λ (t : Bytes). IsFoundAs t c (G ++ store.entries)) opened.policy left.0, left.1 ∙ (λ i. opened_places i ++ as_many i ∷ []))

  -- ---- all of it

  -- what is there once the store is opened
  abbrev actions : Trace
  actions = trace_behind P opened.begun store

  module _ (now : D) (grows : LeavesAfter (seen store.disk) (seen now) GrowsFrom) (went : PlainPolicy → ℕ → Trace → Type 0)
      (may leaves : ℕ → Bytes → Bytes → Type 0) (so : PlainPolicy → History → Type 0) (goes : went P count actions) where
    point_over : ((before : Bytes) (told : (seen disk).contents ≡ Some before) (G : History) → IsFounded seen P store G → IsFoundAs text before (G ++ store.entries)
        → IsStillFound text before (G ++ store.entries) (seen disk) (seen now) (may count) (leaves count) × so P (G ++ store.entries))
        → IsPointOver bytes (seen disk) (seen now) went may leaves so
    point_over still = record {
      policy = P;
      has_policy = has_policy;
      entries = count;
      actions = actions;
      own = opened.own;
      goes = goes;
      keeps = keeps_file seen moments P text disk store opened now grows;
      still = λ before opening told found.
          let from = opened.founded before opening told found in
          let G = from.before in
          let here = subst (λ (H : History). IsFoundAs text before H) from.all found in
          let is = still before told G from.founded here in
          subst (λ (H : History). (length H ≡ count) × IsStillFound text before H (seen disk) (seen now) (may count) (leaves count) × so P H) (sym from.all)
          (as_many before told G from.founded here, is.0, is.1);
    }

  unpointed : (now : D) → now ≡ store.disk → (why : PlainPolicy → ℕ → Trace → Type 0) → why P count actions → (so : PlainPolicy → History → Type 0)
      → ((G : History) → IsFounded seen P store G → so P (G ++ store.entries))
      → HasNoPoint bytes (seen disk) (seen now) why so
  unpointed now same why holds so is = point_over now
      (subst (λ (d : D). LeavesAfter (seen store.disk) (seen d) GrowsFrom) (sym same) (stays_same seen moments.only_now store).grows)
      (λ Q entries T. ((seen now).faults ≡ (seen disk).faults) × why Q entries T) (λ entries. HasItsPoints) (λ entries. HasItsPoints) so
      (ap (λ d. (seen d).faults) same ∙ opened.unfailed, holds)
      (λ before told G f found. (still_unpointed before told G f found now same, is G f))

  -- a file that may have checkpoints wasn't old
  not_old : MayHavePoints seen store → IfSome (seen disk).contents IsNotOld
  not_old may = if_told (seen disk).contents IsNotOld (λ before told was.
      let file = file_of before told in
      let is : has_points file.0 ≡ true = so_told (seen store.disk).contents (λ f. has_points f ≡ true) file.0 file.1 may in
      let bad : true ≡ false = sym is ∙ (opened.old before file.0 told file.1).1 was in absurd (cc bad))

  fits_so : (G : History) → FitsRecord store.policy P (G ++ store.entries) → FitsRecord text P (G ++ store.entries)
  fits_so G is = subst (λ (t : Bytes). FitsRecord t P (G ++ store.entries)) opened.policy is

  written : (now : D) → LeavesAfter (seen store.disk) (seen now) GrowsFrom → IsPut seen P store now → (went : Bytes → Type 0) → went (point_line count)
      → HasPoint bytes (seen disk) (seen now) went
  written now grows put went told = point_over now grows
      (λ Q entries T. ((seen now).faults ≡ (seen disk).faults) × IfSome (seen disk).contents IsNotOld × went (point_line entries)) MayBePointed IsPointedAt
      (FitsRecord text)
      (put.2 ∙ opened.unfailed, not_old put.1, told)
      (λ before is G f found. let has = put.0 G f in
      (still_pointed before is G f found now has.inside (IsPointedAt count) (written_there before is G f found now has), fits_so G has.fits))

  failed : (now : D) → LeavesAfter (seen store.disk) (seen now) GrowsFrom → BehindEach seen P store (λ s. LeavesPointed seen s now)
      → (seen now).faults ≡ raised (seen store.disk).faults → MayHavePoint bytes (seen disk) (seen now)
  failed now grows inside fails = point_over now grows (λ Q entries T. (seen now).faults ≡ raised (seen disk).faults) MayBePointed MayBePointed (λ Q H. ⊤)
      (fails ∙ ap raised opened.unfailed)
      (λ before is G f found. (
        still_pointed before is G f found now (inside G f) (MayBePointed count) (perhaps_pointed before is G f found now (inside G f)),
        tt,
      ))

  -- ---- a checkpoint that is too long

  abbrev size_behind : Trace → ℕ
  size_behind T = length (checkpoint_behind store.policy store.point store.before P T store.entries)

  size_so : (size : ℕ) → ((T : Trace) → IsStart P store.point store.before T → size ≡ size_behind T) → (G : History) → IsFounded seen P store G
      → IsCheckpointSize text P (G ++ store.entries) size
  size_so size is G f = subst (λ (t : Bytes). IsCheckpointSize t P (G ++ store.entries) size) opened.policy
      (is (trace P G) f.front.starts ∙ ap (λ (l : Bytes). length l) (checkpoint_whole P store G f.front))

  leads_there : TextsAreSaid → (point : Option Bytes) (before : ℕ) (T : Trace) → IsStart P point before T
      → LeadsThereBy accepted text P point before T (text_at_start text point)
  leads_there said None before T starts = (starts.0, starts.1, refl)
  leads_there said (Some payload) before T starts = (starts, said before P T payload starts text)

  full : TextsAreSaid → (size : ℕ) → MayHavePoints seen store → 16777215 < size → ((T : Trace) → IsStart P store.point store.before T → size ≡ size_behind T)
      → IsFullBy accepted text (seen disk).contents size P count actions
  full said size may large is = record {
    young = not_old may;
    large = large;
    payload = checkpoint_behind store.policy store.point store.before P opened.begun store.entries;
    is = record {
      point = store.point;
      before = store.before;
      begun = opened.begun;
      begun_text = text_at_start text store.point;
      behind = store.entries;
      begins = opened.begins;
      leads = leads_there said store.point store.before opened.begun opened.starts;
      count = refl;
      all = refl;
      is = ap (λ (t : Bytes). checkpoint_behind t store.point store.before P opened.begun store.entries) opened.policy;
    };
    size_is = is opened.begun opened.starts;
  }

  old_file : IfSome (seen store.disk).contents (λ file. has_points file ≡ false) → IfSome (seen disk).contents IsOld
  old_file none = if_told (seen disk).contents IsOld (λ before told.
      let file = file_of before told in
      (opened.old before file.0 told file.1).0 (so_told (seen store.disk).contents (λ f. has_points f ≡ false) file.0 file.1 none))

  -- how it ends, by how it ends over the open store
  module _ (said : TextsAreSaid) (was got : SinkSeen) (now : D) (grows : LeavesAfter (seen store.disk) (seen now) GrowsFrom) where
    pub pointed : (outcome : Outcome) → (outcome ≡ outcomes.DiskFault → got ≡ was)
        → EndsPoint seen P store now was.contents got.contents outcome
        → HasPointed outcome bytes (seen disk) (seen now) was got
    pointed outcomes.Done silent e = written now grows e.0 (Appends was.contents got.contents) e.1
    pointed outcomes.SinkFault silent e = written now grows e.0 (AppendsPrefix was.contents got.contents) e.1
    pointed outcomes.DiskFault silent e = (inl (failed now grows e.0 e.1), silent refl)
    pointed (outcomes.NoMemory m) silent e = inr (inr (unpointed now e (λ Q entries T. ⊤) tt (λ Q H. ⊤) (λ G f. tt)))
    pointed (outcomes.FullPoint size) silent e =
        unpointed now e.0 (IsFullBy accepted text (seen disk).contents size) (full said size e.1 e.2 e.3) (λ Q H. IsCheckpointSize text Q H size) (size_so size e.3)
    pointed outcomes.OldJournal silent e = unpointed now e.0 (λ Q entries T. IfSome (seen disk).contents IsOld) (old_file e.1) (λ Q H. ⊤) (λ G f. tt)
    pointed outcomes.Usage silent e = absurd e
    pointed (outcomes.Policy f) silent e = absurd e
    pointed (outcomes.Script f) silent e = absurd e
    pointed outcomes.SourceFault silent e = absurd e
    pointed (outcomes.Damaged number place) silent e = absurd e
    pointed outcomes.NotJournal silent e = absurd e
    pointed (outcomes.OtherPolicy place) silent e = absurd e
    pointed outcomes.TooLong silent e = absurd e

-- no checkpoint is written where the document wasn't read
pub unread_pointed : (outcome : Outcome) (input : Option Bytes) (before now : ℕ) (disk : DiskSeen) (was : SinkSeen) → IsUnread input before now outcome
    → HasPointedInput outcome input disk disk was was
unread_pointed outcome input before now disk was unread = over_input input (λ bytes. by_outcome outcome bytes unread)
  where
    by_outcome : (o : Outcome) (bytes : Bytes) → IsUnread input before now o → HasPointed o bytes disk disk was was
    by_outcome outcomes.SourceFault bytes u = as_it_was disk
    by_outcome outcomes.TooLong bytes u = as_it_was disk
    by_outcome (outcomes.NoMemory e) bytes u = inl (as_it_was disk)
    by_outcome o bytes u = absurd u

    over_input : (o : Option Bytes) → ((bytes : Bytes) → HasPointed outcome bytes disk disk was was)
        → HasPointedInput outcome o disk disk was was
    over_input None so = record { bytes = []; are = tt; pointed = so [] }
    over_input (Some bytes) so = record { bytes = bytes; are = refl; pointed = so bytes }

-- how it ended without the checkpoint, whatever a sink held before and holds now
pub same_end : {D : Type 0} (seen : D → DiskSeen)
    (P : PlainPolicy) (store : Kept D) (disk : D) (before now : Option Bytes) (outcome : Outcome) → IsOfNoPoint outcome
    → EndsPoint seen P store disk None None outcome → EndsPoint seen P store disk before now outcome
same_end seen P store disk before now outcomes.Done none e = absurd (none.1 refl)
same_end seen P store disk before now outcomes.SinkFault none e = absurd (none.2 refl)
same_end seen P store disk before now outcomes.DiskFault none e = e
same_end seen P store disk before now (outcomes.NoMemory m) none e = e
same_end seen P store disk before now (outcomes.FullPoint size) none e = e
same_end seen P store disk before now outcomes.OldJournal none e = e
same_end seen P store disk before now outcomes.Usage none e = absurd e
same_end seen P store disk before now (outcomes.Policy f) none e = absurd e
same_end seen P store disk before now (outcomes.Script f) none e = absurd e
same_end seen P store disk before now outcomes.SourceFault none e = absurd e
same_end seen P store disk before now (outcomes.Damaged number place) none e = absurd e
same_end seen P store disk before now outcomes.NotJournal none e = absurd e
same_end seen P store disk before now (outcomes.OtherPolicy place) none e = absurd e
same_end seen P store disk before now outcomes.TooLong none e = absurd e

-- And by why the store was given no checkpoint more, which is told by each trace that leads to where it begins, of which there is one. But by a disk
-- fault the disk is as it was; by one it may have the checkpoint, and its count rose.
pub refused_end : {D : Type 0} (seen : D → DiskSeen)
    (P : PlainPolicy) (store : Kept D) (disk : D) (fault : PointFault) → (fault ≢ faults.DiskFault → disk ≡ store.disk) → store.mark ≡ None
    → (T : Trace) → IsStart P store.point store.before T
    → ((T : Trace) → IsStart P store.point store.before T → IsUnpointed seen P T store fault)
    → BehindEach seen P store (λ s. LeavesPointed seen s disk)
    → (fault ≡ faults.DiskFault → (seen disk).faults ≡ raised (seen store.disk).faults)
    → EndsPoint seen P store disk None None (by_point fault)
refused_end seen P store disk faults.DiskFault same none T starts why inside rose = (inside, rose refl)
refused_end seen P store disk faults.Stopped same none T starts why inside rose =
    absurd (let no : false ≡ true = subst (λ m. IsSome m) none (why T starts) in (cc))
refused_end seen P store disk faults.OldJournal same none T starts why inside rose = (same (λ is. cc is), why T starts)
refused_end seen P store disk (faults.TooLarge size) same none T starts why inside rose = (
  same (λ is. cc is),
  (why T starts).0,
  (why T starts).2,
  λ U leads. (why U leads).1,
)
refused_end seen P store disk (faults.NoMemory e) same none T starts why inside rose = same (λ is. cc is)

-- how it ended with it, by how the line was written
module _ {D : Type 0} (seen : D → DiskSeen)
    (P : PlainPolicy) (store : Kept D) (disk : D) (before now : Option Bytes) (failed fails : ℕ) where
  pub told_end : (outcome : Outcome) (entries : ℕ) → entries ≡ store.before + length store.entries → IsPut seen P store disk
      → IsWritten outcome (point_line entries) false before now failed fails → EndsPoint seen P store disk before now outcome
  told_end outcomes.Done entries is put w = (put, subst (λ (n : ℕ). Appends before now (point_line n)) is w.1.0)
  told_end outcomes.SinkFault entries is put w = (put, subst (λ (n : ℕ). AppendsPrefix before now (point_line n)) is w.1)
  told_end outcomes.DiskFault entries is put w = absurd (let bad : false ≡ true = w.0 in cc bad)
  told_end outcome entries is put w = absurd w

-- a run that told of its checkpoint ends so
pub of_told : (outcome : Outcome) (text : Bytes) (before now : Option Bytes) (failed fails : ℕ) → IsWritten outcome text false before now failed fails
    → IsOfPoint outcome × (outcome ≡ outcomes.DiskFault → ⊥)
of_told outcomes.Done text before now failed fails w = (refl, λ is. cc is)
of_told outcomes.SinkFault text before now failed fails w = (refl, λ is. cc is)
of_told outcomes.DiskFault text before now failed fails w = absurd (let bad : false ≡ true = w.0 in cc bad)
of_told outcome text before now failed fails w = absurd w

-- what is said of an answer that is there
pub ok_so : {T E : Type 0} (r : Result T E) (t : T) (so : T → Type 0) → r ≡ Ok t → IfOk r so → so t
ok_so {T} {E} r t so is h = subst (λ (x : Result T E). IfOk x so) is h

-- the checkpoint was written, and the store closed
pub put_so : {D : Type 0} (seen : D → DiskSeen)
    (G : History) (store next : Kept D) (disk : D) → disk ≡ next.disk → IsSameStore store next → Stays seen store next
    → ((file : Bytes) → (seen store.disk).contents ≡ Some file → LeavesOnly (seen store.disk) (seen next.disk) (IsFoundPointed store.policy (G ++ store.entries) (point_places file)))
    → ((before file : Bytes) → (seen store.disk).contents ≡ Some before → (seen next.disk).contents ≡ Some file → point_places file ≡ point_places before ++ length (G ++ store.entries) ∷ [])
    → (P : PlainPolicy) → IsFounded seen P next G
    → IsFront P store G → length (checkpoint_behind store.policy store.point store.before P (trace P G) store.entries) ≤ 16777215
    → HasPut seen P (whole G store) disk
put_so seen G store next disk is same stays inside added P founded front fits = record {
  fits = subst (λ (l : Bytes). length l ≤ 16777215) (checkpoint_whole P store G front) fits;
  inside = λ file told. subst (λ d. LeavesOnly (seen store.disk) (seen d) (IsFoundPointed store.policy (G ++ store.entries) (point_places file))) (sym is) (inside file told);
  left = λ file told c image.
      let here = told_file (seen next.disk).contents (stays.tells (ap is_some told)) in
      let only = subst (λ (o : Option Bytes). Only o (seen next.disk).images) here.1 founded.only in
      let same_file : c ≡ here.0 = only c (subst (λ d. (seen d).images c) is image) in
      let holds = so_told (seen next.disk).contents (Holds next.policy P (G ++ next.entries)) here.0 here.1 founded.holds in
      let found = subst (λ (z : Bytes × History). IsFoundAs z.0 here.0 z.1) (λ i. (same.policy i, G ++ same.entries i)) (found_as next.policy P (G ++ next.entries) here.0 holds) in
      (subst (λ (f : Bytes). IsFoundAs store.policy f (G ++ store.entries)) (sym same_file) found, ap point_places same_file ∙ added file here.0 told here.1);
}
