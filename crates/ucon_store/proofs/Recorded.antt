-- What putting the records of steps on the disk leaves there.
use Rattle.std.proofs.Common.{◌≡◌, inl, inr, ⊎_elim, ℕ, ◌≤◌, List, [], ◌∷◌, ◌++◌, length, Option, Some, None, refl, sym, ap, ◌∙◌, subst, true, false, ◌+◌, ◌*◌, append_assoc}
use Rattle.std.proofs.lemmas.List.{map-append}
use Rattle.std.specs.Prelude.{is_some, take, IsSome, IfSome}
use Rattle.std.specs.Str.{bytes_eq}
use Rattle.ucon_model.specs.declared.command.Entry.{Entry}
use Rattle.ucon_model.specs.Plain.{Bytes, PlainPolicy}
use Rattle.ucon_model.specs.History.{History}
use Rattle.ucon_model.specs.Batches.{AreTaken}
use Rattle.ucon_model.specs.Found.{only_steps}
use Rattle.ucon_disk.specs.Disk.{Only}
use Rattle.ucon_disk.specs.Run.{IsAtRest, LeavesOnly, LeavesAfter, started, weaker}
use Rattle.ucon_journal.specs.declared.journal.Journal.{Journal}
use Rattle.ucon_journal.specs.Journal.{disk_of, gate_of, version_of, told_payloads, IsClosed}
use Rattle.ucon_journal.specs.JournalBytes.{magic}
use Rattle.ucon_journal.specs.Found as journalled
use Rattle.ucon_journal.specs.Opened.{StillHolds, PerhapsAllAdded}
use Rattle.ucon_turn.specs.Lists.{Begins, Continues, begins_refl}
use Rattle.ucon_store.specs.declared.event.Event.TheVariants.{Done, Failed}
use Rattle.ucon_store.specs.Events.{events, events_of, number_of}
use Rattle.ucon_syntax.specs.Policies.{accepted}
use Rattle.ucon_store.specs.Found.{Holds, IsFoundAs, IsFoundMarked, IsFoundWith, found_as, found_with}
use Rattle.ucon_store.specs.Kept.{Kept}
use Rattle.ucon_store.specs.Keeping.{GrowsFrom}
use Rattle.ucon_store.specs.Stays.{IsFoundBetween, RestsGrown, Stays}
use Rattle.ucon_store.specs.Whole.{IsFounded, found_founded, left_founded, whole}
use Rattle.ucon_store.specs.Points.{has_points, points_of}
use Rattle.ucon_store.proofs.Finding.{Together, holds_same, holds_more, takes_of}
use Rattle.ucon_store.proofs.Versions.{closed_kind, steps_taken}
use Rattle.ucon_disk.specs.Causes.{raised}
use Rattle.ucon_disk.specs.Seen.{DiskSeen}

-- a closed journal whose file holds the policy and the history, where the disk tells, of which a crash leaves nothing else
pub record HoldsAtRest {D : Type 0} (seen : D → DiskSeen) (journal : Journal D) (text : Bytes) (P : PlainPolicy) (H : History) : Type 0 where
  pub closed : IsClosed seen journal
  pub only : Only (seen (disk_of journal)).contents (seen (disk_of journal)).images
  pub holds : IfSome (seen (disk_of journal)).contents (Holds text P H)

-- The records of payloads are on the disk: the journal is closed again, at the same version, its next gate is five bytes further at least for each,
-- and where the disk tells, they count behind those of before, and a crash leaves nothing else.
pub record IsAppended {D : Type 0} (seen : D → DiskSeen) (old new : Journal D)
    (payloads : List Bytes) : Type 0 where
  pub closed : IsClosed seen new
  pub version : version_of new ≡ version_of old
  pub gate : gate_of old + 5 * length payloads ≤ gate_of new
  pub only : Only (seen (disk_of new)).contents (seen (disk_of new)).images
  pub tells : is_some (seen (disk_of new)).contents ≡ is_some (seen (disk_of old)).contents
  pub added : IfSome (seen (disk_of old)).contents
      (λ file. told_payloads (seen (disk_of new)).contents ≡ told_payloads (seen (disk_of old)).contents ++ payloads)

pub told_file : (o : Option Bytes) → IsSome o → (file : Bytes) × (o ≡ Some file)
told_file None told = absurd (cc told)
told_file (Some file) told = (file, refl)

pub some_told : (P : Bytes → Type 0) (o : Option Bytes) (file : Bytes) → o ≡ Some file → IfSome o P → P file
some_told P o file is h = let g : IfSome (Some file) P = subst (λ (x : Option Bytes). IfSome x P) is h in g

-- files with one magic are of one kind
pub same_kind : (file c : Bytes) → take 8 c ≡ take 8 file → has_points c ≡ has_points file
same_kind file c same = ap (λ (front : Bytes). bytes_eq front (magic 2)) same

-- the payloads of before, or those with the entries' behind them, are found as the history, or as it with all of them
pub found_perhaps : Together → (text : Bytes) (P : PlainPolicy) (H es : History) (payloads : List Bytes) (file c : Bytes)
    → AreTaken (only_steps accepted) text P H payloads (H ++ es) → Holds text P H file → PerhapsAllAdded payloads file c
    → IsFoundMarked text H (Some es) c
found_perhaps together text P H es payloads file c takes h perhaps = ⊎_elim
    (λ (same : StillHolds file (journalled.counted file) c).
    inl (found_as text P H c (holds_same text P H file c h (same_kind file c same.magic) same.payloads)))
    (λ (more : StillHolds file (journalled.counted file ++ payloads) c).
    let taken = together.steps (takes_of file) text P H (H ++ es) payloads (steps_taken (has_points file)) takes in
    inr (
      es,
      refl,
      found_as text P (H ++ es) c
          (holds_more together text P H (H ++ es) payloads file c taken h (same_kind file c more.magic) more.payloads),
    ))
    perhaps

module _ {D : Type 0} {seen : D → DiskSeen} {journal : Journal D} {text : Bytes} {P : PlainPolicy}
    {H : History} (rest : HoldsAtRest seen journal text P H) where
  pub at_rest_as : (file : Bytes) → (seen (disk_of journal)).contents ≡ Some file → IsAtRest (seen (disk_of journal)) file
  at_rest_as file is = record { told = is; only = subst (λ (o : Option Bytes). Only o (seen (disk_of journal)).images) is rest.only }

  pub holds_now : (file : Bytes) → (seen (disk_of journal)).contents ≡ Some file → Holds text P H file
  holds_now file is = some_told (Holds text P H) (seen (disk_of journal)).contents file is rest.holds

  pub kind_now : (file : Bytes) → (seen (disk_of journal)).contents ≡ Some file → has_points file ≡ points_of (version_of journal)
  kind_now file is =
      some_told (λ f. has_points f ≡ points_of (version_of journal)) (seen (disk_of journal)).contents file is (closed_kind seen journal rest.closed)

  -- each image inside the call is found as the history, or as it with all entries
  pub run_perhaps : Together → (es : History) (payloads : List Bytes) → AreTaken (only_steps accepted) text P H payloads (H ++ es)
      → (new : D)
      → LeavesAfter (seen (disk_of journal)) (seen new) (PerhapsAllAdded payloads) → IsSome (seen (disk_of journal)).contents
      → LeavesOnly (seen (disk_of journal)) (seen new) (IsFoundMarked text H (Some es))
  run_perhaps together es payloads takes new run told =
      let f = told_file (seen (disk_of journal)).contents told in
      weaker (seen (disk_of journal)) (seen new) (PerhapsAllAdded payloads f.0) (IsFoundMarked text H (Some es))
      (λ c. found_perhaps together text P H es payloads f.0 c takes (holds_now f.0 f.1)) (run.each f.0 (at_rest_as f.0 f.1))

  -- ---- once the records of payloads are there

  module _ {payloads : List Bytes} {next : Journal D} (appended : IsAppended seen journal next payloads) where
    -- the file is of the kind that it was
    pub kind_then : (file c : Bytes) → (seen (disk_of journal)).contents ≡ Some file → (seen (disk_of next)).contents ≡ Some c → has_points c ≡ has_points file
    kind_then file c was now =
        some_told (λ f. has_points f ≡ points_of (version_of next)) (seen (disk_of next)).contents c now (closed_kind seen next appended.closed)
        ∙ (ap points_of appended.version ∙ sym (kind_now file was))

    -- its payloads are those of before and these
    pub counted_then : (file c : Bytes) → (seen (disk_of journal)).contents ≡ Some file → (seen (disk_of next)).contents ≡ Some c
        → journalled.counted c ≡ journalled.counted file ++ payloads
    counted_then file c was now =
        sym (ap told_payloads now)
        ∙ (some_told (λ _. told_payloads (seen (disk_of next)).contents ≡ told_payloads (seen (disk_of journal)).contents ++ payloads)
        (seen (disk_of journal)).contents file was appended.added
        ∙ ap (λ (x : Option Bytes). told_payloads x ++ payloads) was)

    -- and where they are taken, the journal is at rest with what they are taken as
    pub rest_with : Together → (later : History)
        → ((file : Bytes) → (seen (disk_of journal)).contents ≡ Some file → AreTaken (takes_of file) text P H payloads later)
        → HoldsAtRest seen next text P later
    rest_with together later takes =
        record { closed = appended.closed; only = appended.only; holds = each (seen (disk_of journal)).contents (seen (disk_of next)).contents refl refl }
      where
        each : (o n : Option Bytes) → (seen (disk_of journal)).contents ≡ o → (seen (disk_of next)).contents ≡ n → IfSome n (Holds text P later)
        each None None was now = tt
        each (Some file) None was now = tt
        each None (Some c) was now = absurd (let bad : true ≡ false = sym (ap is_some now) ∙ (appended.tells ∙ ap is_some was) in cc bad)
        each (Some file) (Some c) was now =
            holds_more together text P H later payloads file c (takes file was) (holds_now file was) (kind_then file c was now)
            (counted_then file c was now)

-- ---- the records of before, whatever they are found as

-- the payloads of before with others behind
pub more_grows : (payloads : List Bytes) (file c : Bytes) → StillHolds file (journalled.counted file ++ payloads) c → GrowsFrom file c
more_grows payloads file c more = record { kind = same_kind file c more.magic; records = (payloads, sym more.payloads) }

pub same_grows : (file c : Bytes) → StillHolds file (journalled.counted file) c → GrowsFrom file c
same_grows file c same = record {
  kind = same_kind file c same.magic;
  records = subst (Begins (journalled.counted file)) (sym same.payloads) (begins_refl (journalled.counted file));
}

module _ {D : Type 0} (seen : D → DiskSeen) (payloads : List Bytes) where
  -- while records are written
  pub leaves_grown : (old new : D) → LeavesAfter (seen old) (seen new) (PerhapsAllAdded payloads) → LeavesAfter (seen old) (seen new) GrowsFrom
  leaves_grown old new run = record {
    each = λ file rest. weaker (seen old) (seen new) (PerhapsAllAdded payloads file) (GrowsFrom file)
        (λ c. ⊎_elim (same_grows file c) (more_grows payloads file c)) (run.each file rest);
  }

  -- and once they are there
  pub rests_grown : (journal next : Journal D) → IsClosed seen journal → IsAppended seen journal next payloads
      → (file : Bytes) → IsAtRest (seen (disk_of journal)) file → RestsGrown seen (disk_of next) file
  rests_grown journal next closed appended file rest =
      let o = (seen (disk_of journal)).contents in
      let n = (seen (disk_of next)).contents in
      let there = told_file n (appended.tells ∙ ap is_some rest.told) in
      let counts : journalled.counted there.0 ≡ journalled.counted file ++ payloads =
      sym (ap told_payloads there.1)
      ∙ (some_told (λ _. told_payloads n ≡ told_payloads o ++ payloads) o file rest.told appended.added
      ∙ ap (λ (x : Option Bytes). told_payloads x ++ payloads) rest.told) in record {
        now = there.0;
        rest = record { told = there.1; only = subst (λ (x : Option Bytes). Only x (seen (disk_of next)).images) there.1 appended.only };
        grown = record {
          kind = some_told (λ f. has_points f ≡ points_of (version_of next)) n there.0 there.1 (closed_kind seen next appended.closed)
              ∙ (ap points_of appended.version
              ∙ sym (some_told (λ f. has_points f ≡ points_of (version_of journal)) o file rest.told (closed_kind seen journal closed)));
          records = (payloads, sym counts);
        };
      }

-- ---- what becomes of a store

-- the store with these entries more, on this disk
abbrev pub with_entries : {D : Type 0} → Kept D → History → D → Kept D
with_entries x es disk = record x { entries = x.entries ++ es; mark = None; disk = disk }

-- the store with this mark, on this disk
abbrev pub with_mark : {D : Type 0} → Kept D → History → D → Kept D
with_mark x es disk = record x { mark = Some es; disk = disk }

-- a crash inside a step of x leaves the history that x is founded on with x's entries, or with the step's entry behind them
abbrev pub LeavesStep : {D : Type 0} → (D → DiskSeen) → Kept D → Entry → D → Type 0
LeavesStep seen x e new = (P : PlainPolicy) (G : History) → IsFounded seen P x G → IsSome (seen x.disk).contents
    → LeavesOnly (seen x.disk) (seen new) (IsFoundWith x.policy (G ++ x.entries) (Some e))

module _ {D : Type 0} (seen : D → DiskSeen) (x : Kept D) (es : History) where
  -- the same of a call that writes these entries, or none
  abbrev pub LeavesWith : D → Type 0
  LeavesWith new = (P : PlainPolicy) (G : History) → IsFounded seen P x G → IsSome (seen x.disk).contents
      → LeavesOnly (seen x.disk) (seen new) (IsFoundMarked x.policy (G ++ x.entries) (Some es))

  -- before a call of the disk
  pub unbegun : ((d : D) (c : List ℕ) → (seen d).images_since (seen d).moment c → (seen d).images c) → (new : D) → new ≡ x.disk → LeavesWith new
  unbegun only new same P G f told =
      subst (λ (d : D). LeavesOnly (seen x.disk) (seen d) (IsFoundMarked x.policy (G ++ x.entries) (Some es))) (sym same)
      (started (seen x.disk) (IsFoundMarked x.policy (G ++ x.entries) (Some es))
      (λ c since. inl (found_founded seen P x G f told c (only x.disk c since))))

  -- what a call did that put records on the disk, or met a fault there
  goes : (y : Kept D) → x.mark ≡ None → y.policy ≡ x.policy → y.point ≡ x.point → y.before ≡ x.before → y.opening ≡ x.opening
      → Begins x.entries y.entries
      → (is_some y.mark ≡ is_some x.mark → (seen y.disk).faults ≡ (seen x.disk).faults)
      → ((m : History) → y.mark ≡ Some m → (seen y.disk).faults ≡ raised (seen x.disk).faults)
      → is_some (seen y.disk).contents ≡ is_some (seen x.disk).contents
      → ((G : History) (c : Bytes) → IsFoundMarked x.policy (G ++ x.entries) (Some es) c → IsFoundBetween (whole G x) (whole G y) c)
      → LeavesWith y.disk
      → ((P : PlainPolicy) (G : History) → IsFounded seen P x G → y.mark ≡ None → IsFounded seen P y G)
      → ((P : PlainPolicy) (G : History) → IsFounded seen P x G → IsSome (seen y.disk).contents
      → (c : Bytes) → (seen y.disk).images c → IsFoundMarked y.policy (G ++ y.entries) y.mark c)
      → LeavesAfter (seen x.disk) (seen y.disk) GrowsFrom → (y.mark ≡ None → (file : Bytes) → IsAtRest (seen x.disk) file → RestsGrown seen y.disk file)
      → Stays seen x y
  goes y none policy point before opening entries unfailed failed tells found run founded now grows rests = record {
    policy = policy;
    point = point;
    before = before;
    opening = opening;
    entries = entries;
    mark = λ m some. let no : None ≡ Some m = sym none ∙ some in absurd (cc no);
    unfailed = unfailed;
    failed = λ _. failed;
    tells = λ told. tells ∙ told;
    left = λ P G f told. weaker (seen x.disk) (seen y.disk) (IsFoundMarked x.policy (G ++ x.entries) (Some es)) _ (λ c h. inr (found G c h)) (run P G f told);
    founded = founded;
    left_now = now;
    grows = grows;
    rests = rests;
  }

  -- a store stays with these entries more
  pub stays_more : {y : Kept D} (new : D) → y ≡ with_entries x es new → x.mark ≡ None → (seen new).faults ≡ (seen x.disk).faults
      → is_some (seen new).contents ≡ is_some (seen x.disk).contents
      → LeavesWith new → ((P : PlainPolicy) (G : History) → IsFounded seen P x G → IsFounded seen P (with_entries x es new) G)
      → LeavesAfter (seen x.disk) (seen new) GrowsFrom → ((file : Bytes) → IsAtRest (seen x.disk) file → RestsGrown seen new file)
      → Stays seen x y
  stays_more new is none unfailed tells run founded grows rests =
      subst (Stays seen x) (sym is)
      (goes (with_entries x es new) none refl refl refl refl (es, refl) (λ _. unfailed)
      (λ m some. let no : None ≡ Some m = some in absurd (cc no)) tells found run
      (λ P G f _. founded P G f) (λ P G f. left_founded seen P (with_entries x es new) G (founded P G f))
      grows (λ _. rests))
    where
      found : (G : History) (c : Bytes) → IsFoundMarked x.policy (G ++ x.entries) (Some es) c
          → IsFoundBetween (whole G x) (whole G (with_entries x es new)) c
      found G c h = ⊎_elim
          (λ (old : IsFoundAs x.policy c (G ++ x.entries)).
          record {
            history = G ++ x.entries;
            found = old;
            begun = begins_refl (G ++ x.entries);
            within = inl (es, append_assoc G x.entries es);
          })
          (λ (more : (m : History) × (Some es ≡ Some m) × IsFoundAs x.policy c ((G ++ x.entries) ++ m)).
          let same : more.0 ≡ es = cc (more.1) in
          let all : (G ++ x.entries) ++ more.0 ≡ G ++ (x.entries ++ es) =
          ap (λ (m : History). (G ++ x.entries) ++ m) same ∙ append_assoc G x.entries es in
          record {
            history = (G ++ x.entries) ++ more.0;
            found = more.2;
            begun = (more.0, refl);
            within = inl (subst (Begins ((G ++ x.entries) ++ more.0)) all (begins_refl ((G ++ x.entries) ++ more.0)));
          })
          h

  -- and with them as its mark
  pub stays_marked : {y : Kept D} (new : D) → y ≡ with_mark x es new → x.mark ≡ None → (seen new).faults ≡ raised (seen x.disk).faults
      → is_some (seen new).contents ≡ is_some (seen x.disk).contents
      → ((d : D) (t : ℕ) (c : List ℕ) → t ≤ (seen d).moment → (seen d).images c → (seen d).images_since t c) → LeavesWith new
      → LeavesAfter (seen x.disk) (seen new) GrowsFrom → Stays seen x y
  stays_marked new is none failed tells counts run grows =
      subst (Stays seen x) (sym is)
      (goes (with_mark x es new) none refl refl refl refl (begins_refl x.entries)
      (λ alike. absurd (let bad : true ≡ false = alike ∙ ap is_some none in cc bad)) (λ _ _. failed) tells found run
      (λ P G f unmarked. absurd (let no : None ≡ Some es = sym unmarked in cc no))
      (λ P G f told c image. let left = run P G f (sym tells ∙ told) in left.each c (counts new (seen x.disk).moment c left.later image))
      grows (λ unmarked. absurd (let no : None ≡ Some es = sym unmarked in cc no)))
    where
      found : (G : History) (c : Bytes) → IsFoundMarked x.policy (G ++ x.entries) (Some es) c
          → IsFoundBetween (whole G x) (whole G (with_mark x es new)) c
      found G c h = ⊎_elim
          (λ (old : IsFoundAs x.policy c (G ++ x.entries)).
          record { history = G ++ x.entries; found = old; begun = begins_refl (G ++ x.entries); within = inl (begins_refl (G ++ x.entries)) })
          (λ (more : (m : History) × (Some es ≡ Some m) × IsFoundAs x.policy c ((G ++ x.entries) ++ m)).
          record { history = (G ++ x.entries) ++ more.0; found = more.2; begun = (more.0, refl); within = inr (more.0, more.1, refl) })
          h

-- what a call leaves that writes one entry is what its step does
pub leaves_step : {D : Type 0} {seen : D → DiskSeen} {x : Kept D} {e : Entry} {new : D} → LeavesWith seen x (e ∷ []) new → LeavesStep seen x e new
leaves_step {D} {seen} {x} {e} {new} run P G f told =
    weaker (seen x.disk) (seen new) (IsFoundMarked x.policy (G ++ x.entries) (Some (e ∷ []))) (IsFoundWith x.policy (G ++ x.entries) (Some e))
    (found_with accepted x.policy (G ++ x.entries) (Some e)) (run P G f told)

-- ---- the list of a turn's store

module _ {D : Type 0} (x : Kept D) (e : Entry) (none : x.mark ≡ None) (new : D) where
  pub events_more : {y : Kept D} → y ≡ with_entries x (e ∷ []) new → Continues (λ v. number_of v ≡ e.caller.0 + 1) (events_of x) (events_of y)
  events_more is =
      subst (λ (z : Option History × Kept D). Continues (λ v. number_of v ≡ e.caller.0 + 1) (events x.entries z.0) (events_of z.1))
      (λ i. (sym none i, sym is i))
      (Done e ∷ [], sym (map-append Done x.entries (e ∷ [])), (refl, tt))

  pub events_marked : {y : Kept D} → y ≡ with_mark x (e ∷ []) new → Continues (λ v. number_of v ≡ e.caller.0 + 1) (events_of x) (events_of y)
  events_marked is =
      subst (λ (z : Option History × Kept D). Continues (λ v. number_of v ≡ e.caller.0 + 1) (events x.entries z.0) (events_of z.1))
      (λ i. (sym none i, sym is i))
      (Failed e ∷ [], refl, (refl, tt))
