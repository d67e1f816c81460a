-- How a live run ends, from the first byte that was read to the closing of the journal.
use Rattle.std.proofs.Common.{◌≡◌, ◌≢◌, ◌⊎◌, ⊎_elim, ℕ, zero, suc, Bool, true, false, List, [], ◌∷◌, ◌++◌, append_assoc, append-nil, refl, sym, ap, ◌∙◌, subst, inl, inr}
use Rattle.std.specs.Prelude.{Option, Some, None, IfSome, Result, Ok, Err, ⊤}
use Rattle.std.specs.Io.KnownBytes.{Consumes, IsAtEnd}
use Rattle.std.proofs.KnownBytes.{Consumes-trans}
use Rattle.ucon_base.specs.declared.no_memory.NoMemory.{NoMemory as Want}
use Rattle.ucon_flow.specs.Seen.{SinkSeen, SourceSeen}
use Rattle.ucon_disk.specs.Causes.{raised}
use Rattle.ucon_disk.specs.Seen.{DiskSeen}
use Rattle.ucon_model.specs.declared.command.Entry.{Entry}
use Rattle.ucon_model.specs.Document.{ScriptLine, entries_of, lines_of, policy_part, script_lines}
use Rattle.ucon_model.specs.LegalRun.{own_answers}
use Rattle.ucon_model.specs.Plain.{Bytes, PlainPolicy}
use Rattle.ucon_script.specs.declared.coming_script.ComingScript.{ComingScript}
use Rattle.ucon_script.specs.declared.doc_fault.DocFault.{DocFault}
use Rattle.ucon_script.specs.declared.script_stop.ScriptStop.{ScriptStop}
use Rattle.ucon_script.specs.declared.script_stop.ScriptStop.TheVariants as stops
use Rattle.ucon_script.specs.Coming.{Coming, HasOpened, MayCome}
use Rattle.ucon_script.specs.ComingScript.{IsFedBy, IsFedToFaultBy, IsFedToLimitBy, IsFedToRefusalBy, IsFedWholeBy, Says, Stops}
use Rattle.ucon_syntax.specs.Policies.{accepted}
use Rattle.ucon_store.specs.Kept.{Kept}
use Rattle.ucon_client.specs.Dividing.{by_client, lines_below, own_lines}
use Rattle.ucon_client.specs.Live.{AreJudged}
use Rattle.ucon_outcome.specs.declared.outcome.Outcome.{Outcome}
use Rattle.ucon_outcome.specs.declared.outcome.Outcome.TheVariants as outcomes
use Rattle.ucon_top.specs.declared.form.Form.TheVariants.{Live}
use Rattle.ucon_top.specs.Accepted.{HasPolicy}
use Rattle.ucon_top.specs.Closing.{IsClosedRun, IsOfRun}
use Rattle.ucon_top.specs.Ending.{IsCounted}
use Rattle.ucon_top.specs.LiveEnding.{HasMemory, HasRunLive, IsEndOf, IsLiveRun, IsOfMemory, IsUnbegunRun, stopped_by}
use Rattle.ucon_top.specs.OwnReading.{HasLived, HasLivedInput, IsFedTo}
use Rattle.ucon_top.specs.Seen.{Seen, all_seen}
use Rattle.ucon_top.proofs.LiveEnds.{disk_end}
use Rattle.ucon_top.proofs.Playing.{HasMoments, IsOpened, RunEnds, over_store, run_raised}

-- ---- what was read of an input

pub all_read : (input left : Option Bytes) (read : Bytes) → Consumes input left read → IsAtEnd left → IfSome input (λ known. known ≡ read)
all_read None left read c e = tt
all_read (Some x) None read c e = absurd c
all_read (Some x) (Some y) read c e = c ∙ (ap (λ (l : Bytes). read ++ l) e ∙ append-nil read)

-- what is read of it, and what comes behind
pub record ReadsOf (input : Option Bytes) (read : Bytes) : Type 0 where
  pub rest : Bytes
  pub are : IfSome input (λ known. known ≡ read ++ rest)

pub reads_of : (input left : Option Bytes) (read : Bytes) → Consumes input left read → ReadsOf input read
reads_of None left read c = record { rest = []; are = tt }
reads_of (Some x) None read c = absurd c
reads_of (Some x) (Some y) read c = record { rest = y; are = c }

if_some : (o : Option Bytes) {P Q : Bytes → Type 0} → ((b : Bytes) → P b → Q b) → IfSome o P → IfSome o Q
if_some None f h = tt
if_some (Some b) f h = f b h

-- nothing comes behind the last line
pub record MayFollow (input : Option Bytes) (left : Coming) (read : Bytes) : Type 0 where
  pub rest : Bytes
  pub may : MayCome left rest
  pub are : IfSome input (λ known. known ≡ read ++ rest)

pub may_follow : (input rest : Option Bytes) (left : Coming) (read : Bytes) → Consumes input rest read → (left.over ≡ true → IsAtEnd rest) → MayFollow input left read
may_follow input rest left read c ended = by_over left.over refl
  where
    by_over : (over : Bool) → left.over ≡ over → MayFollow input left read
    by_over true e = record {
      rest = [];
      may = λ _. refl;
      are = if_some input (λ b is. is ∙ sym (append-nil read)) (all_read input rest read c (ended e));
    }
    by_over false e = let r = reads_of input rest read c in record { rest = r.rest; may = λ over. absurd (cc (e, over)); are = r.are }

-- ---- what was judged

-- what the laws of a document that comes line by line say
pub record AreComing {S : Type 0} (source : S → SourceSeen) : Type 0 where
  pub fed : (policy : Bytes) (a b : ComingScript) (first mid last : S) (told : List ScriptLine) (more : Bytes)
      → (o : HasOpened source policy a.lines a.reader.number first mid) → a.reader.client ≡ None → a.reader.said ≡ 0
      → (s : Says source a b mid last told) → MayCome b.lines more → IsFedBy accepted (o.read ++ (s.come.read ++ more)) told
  pub whole : (policy : Bytes) (a b : ComingScript) (first mid last : S) (told : List ScriptLine)
      → (o : HasOpened source policy a.lines a.reader.number first mid) → a.reader.client ≡ None → a.reader.said ≡ 0
      → (s : Says source a b mid last told) → b.lines.over ≡ true → IsFedWholeBy accepted (source first).left (o.read ++ s.come.read) told
  pub refused : (policy : Bytes) (a b c : ComingScript) (first mid at last : S) (told : List ScriptLine) (f : DocFault) (more : Bytes)
      → (o : HasOpened source policy a.lines a.reader.number first mid) → a.reader.client ≡ None → a.reader.said ≡ 0
      → (s : Says source a b mid at told) → b.lines.over ≡ false → (r : Stops source b c at last (stops.Refused f)) → MayCome c.lines more
      → IsFedToRefusalBy accepted (o.read ++ (s.come.read ++ (r.read ++ more))) f told
  pub long : (policy : Bytes) (a b c : ComingScript) (first mid at last : S) (told : List ScriptLine)
      → (o : HasOpened source policy a.lines a.reader.number first mid) → a.reader.client ≡ None → a.reader.said ≡ 0
      → (s : Says source a b mid at told) → b.lines.over ≡ false → (r : Stops source b c at last stops.TooLong)
      → IsFedToLimitBy accepted (o.read ++ (s.come.read ++ r.read)) told
  pub failed : (policy : Bytes) (a b c : ComingScript) (first mid at last : S) (told : List ScriptLine)
      → (o : HasOpened source policy a.lines a.reader.number first mid) → a.reader.client ≡ None → a.reader.said ≡ 0
      → (s : Says source a b mid at told) → b.lines.over ≡ false → (r : Stops source b c at last stops.SourceFault)
      → IsFedToFaultBy accepted (o.read ++ (s.come.read ++ r.read)) told

-- the document's bytes, what was read of them, and which lines were fed
pub record IsFedOf {S : Type 0} (source : S → SourceSeen) (text : Bytes) (first last : S) (stop : Result (Unit {0}) ScriptStop) (lines : List ScriptLine) : Type 0 where
  pub bytes : Bytes
  pub read : Bytes
  pub rest : Bytes
  pub are : IfSome (source first).left (λ known. known ≡ bytes)
  pub consumed : Consumes (source first).left (source last).left read
  pub begins : bytes ≡ read ++ rest
  pub part : policy_part bytes ≡ text
  pub to : IsFedTo (stopped_by stop) bytes read lines

module _ {S : Type 0} (source : S → SourceSeen) (laws : AreComing source) (text : Bytes) (first mid last : S) (script judged : ComingScript)
    (o : HasOpened source text script.lines script.reader.number first mid) (client : script.reader.client ≡ None) (said : script.reader.said ≡ 0) where
  all_fed : (lines : List ScriptLine) → (s : Says source script judged mid last lines) → judged.lines.over ≡ true → IsFedOf source text first last (Ok tt) lines
  all_fed lines s over =
      let read : Bytes = o.read ++ s.come.read in
      let w = laws.whole text script judged first mid last lines o client said s over in
      record {
        bytes = read;
        read = read;
        rest = [];
        are = w.all;
        consumed = Consumes-trans (source first).left (source mid).left (source last).left o.read s.come.read o.consumed s.come.takes.consumed;
        begins = sym (append-nil read);
        part = o.opens.part s.come.read (λ begun. (s.come.ended begun).1);
        to = record { all = refl; short = w.short; says = w.says };
      }

  module _ (lines : List ScriptLine) (b : ComingScript) (at : S) (s : Says source script b mid at lines) (running : b.lines.over ≡ false) where
    before_end : script.lines.over ≡ true → ⊥
    before_end over = cc (running, ap (λ (c : Coming). c.over) (s.come.ended over).0, over)

    module _ (stop : ScriptStop) (r : Stops source b judged at last stop) where
      abbrev Read : Bytes
      Read = o.read ++ (s.come.read ++ r.read)

      read_so : Consumes (source first).left (source last).left Read
      read_so = Consumes-trans (source first).left (source mid).left (source last).left o.read (s.come.read ++ r.read) o.consumed
          (Consumes-trans (source mid).left (source at).left (source last).left s.come.read r.read s.come.takes.consumed r.takes.consumed)

      follows : MayFollow (source first).left judged.lines Read
      follows = may_follow (source first).left (source last).left judged.lines Read read_so (λ over. (r.at_end running over).1)

      abbrev All : Bytes
      All = o.read ++ (s.come.read ++ (r.read ++ follows.rest))

      all_is : All ≡ Read ++ follows.rest
      all_is = ap (λ (x : Bytes). o.read ++ x) (sym (append_assoc s.come.read r.read follows.rest)) ∙ sym (append_assoc o.read (s.come.read ++ r.read) follows.rest)

      fed_to : IsFedTo (stopped_by (Err stop)) All Read lines → IsFedOf source text first last (Err stop) lines
      fed_to to = record {
        bytes = All;
        read = Read;
        rest = follows.rest;
        are = if_some (source first).left (λ b is. is ∙ sym all_is) follows.are;
        consumed = read_so;
        begins = all_is;
        part = o.opens.part (s.come.read ++ (r.read ++ follows.rest)) (λ over. absurd (before_end over));
        to = to;
      }

    fed_up_to : (stop : ScriptStop) → Stops source b judged at last stop → IsFedOf source text first last (Err stop) lines
    fed_up_to (stops.Refused f) r = let follow = follows (stops.Refused f) r in
        fed_to (stops.Refused f) r (laws.refused text script b judged first mid at last lines f follow.rest o client said s running r follow.may)
    fed_up_to stops.TooLong r = fed_to stops.TooLong r (laws.long text script b judged first mid at last lines o client said s running r)
    fed_up_to stops.SourceFault r = fed_to stops.SourceFault r (laws.failed text script b judged first mid at last lines o client said s running r)
    fed_up_to (stops.NoMemory e) r = let follow = follows (stops.NoMemory e) r in
        fed_to (stops.NoMemory e) r (laws.fed text script b first mid at lines (r.read ++ follow.rest) o client said s (λ over. absurd (cc (running, over))))

  pub judged_fed : (stop : Result (Unit {0}) ScriptStop) (lines : List ScriptLine) → AreJudged source script judged mid last stop lines → IsFedOf source text first last stop lines
  judged_fed (Ok u) lines j = all_fed lines j.0 j.1
  judged_fed (Err stop) lines j = fed_up_to lines j.mid j.at j.says j.running stop j.stops

-- ---- how it ended

-- something else than want of memory stopped the script
off_memory : (stop : Result (Unit {0}) ScriptStop) → HasMemory stop → (e : Want) → stopped_by stop ≢ outcomes.NoMemory e
off_memory (Ok u) has e is = cc is
off_memory (Err (stops.Refused f)) has e is = cc is
off_memory (Err stops.SourceFault) has e is = cc is
off_memory (Err stops.TooLong) has e is = cc is
off_memory (Err (stops.NoMemory m)) has e is = has

module _ (before after : Seen) (bytes read : Bytes) where
  -- the lines up to what stopped the script were run, and the run over the store ended so
  abbrev EndsSo : (stop over : Outcome) → Type 0
  EndsSo stop over = RunEnds Live bytes (IsFedTo stop bytes read) before.disk after.disk before.sink.contents after.sink.contents over

  abbrev Counts : Outcome → Type 0
  Counts stop = IsCounted stop outcomes.SourceFault before.source.faults after.source.faults

  -- the run over the store is whole
  whole_so : (stop : Result (Unit {0}) ScriptStop) → HasMemory stop → Counts (stopped_by stop) → EndsSo (stopped_by stop) outcomes.Done
      → HasLived (stopped_by stop) bytes read before after
  whole_so (Ok u) has counted e = (record { source = counted; run = e.0 }, e.1)
  whole_so (Err (stops.Refused f)) has counted e = (record { source = counted; run = e.0 }, e.1)
  whole_so (Err stops.SourceFault) has counted e = inr (record { source = counted; run = e.0 }, e.1)
  whole_so (Err stops.TooLong) has counted e = inr (record { source = counted; run = e.0 }, e.1)
  whole_so (Err (stops.NoMemory m)) has counted e = absurd has

  ends_so : (over : Outcome) (stop : Result (Unit {0}) ScriptStop) (outcome : Outcome) → IsOfRun over → IsEndOf over stop outcome
      → Counts (stopped_by stop) → (IsOfMemory outcome → after.sink ≡ before.sink) → EndsSo (stopped_by stop) over → HasLived outcome bytes read before after
  ends_so outcomes.Done stop outcome of ends counted unwritten e =
      subst (λ (o : Outcome). HasLived o bytes read before after) (sym ends.1) (whole_so stop ends.0 counted e)
  ends_so outcomes.SinkFault stop outcome of ends counted unwritten e =
      subst (λ (o : Outcome). HasLived o bytes read before after) (sym ends.1) (stopped_by stop, off_memory stop ends.0, record { source = counted; run = e })
  ends_so outcomes.DiskFault stop outcome of ends counted unwritten e =
      subst (λ (o : Outcome). HasLived o bytes read before after) (sym ends.1) (inl (stopped_by stop, off_memory stop ends.0, record { source = counted; run = e }))
  ends_so (outcomes.NoMemory m) stop outcome of ends counted unwritten e =
      subst (λ (o : Outcome). HasLived o bytes read before after) (sym ends)
      (inr (inr (unwritten (subst IsOfMemory (sym ends) tt), stopped_by stop, record { source = counted; run = e })))
  ends_so over stop outcome of ends counted unwritten e = absurd (cc (of.0, of.1))

none_below : (n : ℕ) → lines_below n [] ≡ []
none_below zero = refl
none_below (suc n) = ap (λ (l : List Entry). l ++ own_lines n []) (none_below n)

module _ {S D : Type 0} (source : S → SourceSeen) (seen : D → DiskSeen) (moments : HasMoments seen) (laws : AreComing source) (P : PlainPolicy) (text : Bytes)
    (disk : D) (store : Kept D)
    (opened : IsOpened seen P text disk store) (typed : (bytes : Bytes) → policy_part bytes ≡ text → HasPolicy bytes P)
    (first mid last : S) (script judged : ComingScript)
    (o : HasOpened source text script.lines script.reader.number first mid) (client : script.reader.client ≡ None) (said : script.reader.said ≡ 0)
    (works : (source mid).faults ≡ (source first).faults) (now : D) (was written : SinkSeen) (outcome : Outcome)
    (unwritten : IsOfMemory outcome → written ≡ was) where
  abbrev Before : Seen
  Before = all_seen (source first) was (seen disk)

  abbrev After : Seen
  After = all_seen (source last) written (seen now)

  live_run : IsLiveRun source seen P store script judged mid last outcome now was.contents written.contents → HasLivedInput outcome Before After
  live_run r =
      let f = judged_fed source laws text first mid last script judged o client said r.stop r.lines r.are_judged in
      let counted : IsCounted (stopped_by r.stop) outcomes.SourceFault (source first).faults (source last).faults =
      subst (λ (n : ℕ). IsCounted (stopped_by r.stop) outcomes.SourceFault n (source last).faults) works r.source_faults in
      record {
        bytes = f.bytes;
        read = f.read;
        rest = f.rest;
        are = f.are;
        consumed = f.consumed;
        begins = f.begins;
        lived = ends_so Before After f.bytes f.read r.over r.stop outcome r.of_run r.ends counted unwritten
            (over_store seen moments P text disk store opened Live f.bytes (IsFedTo (stopped_by r.stop) f.bytes f.read) r.lines (sym f.part) (typed f.bytes f.part) f.to
            now was written r.over r.of_run r.run);
      }

  nothing_fed : (bytes : Bytes) → IsFedBy accepted bytes []
  nothing_fed bytes = record { given = []; rest = script_lines (lines_of bytes); script_is = refl; says = refl }

  unbegun_run : IsUnbegunRun source seen P store script judged mid last outcome now was.contents written.contents → HasLivedInput outcome Before After
  unbegun_run r =
      let consumed : Consumes (source first).left (source last).left o.read = subst (λ (s : S). Consumes (source first).left (source s).left o.read) (sym r.unread.1) o.consumed in
      let f = may_follow (source first).left (source mid).left script.lines o.read o.consumed (λ over. (o.at_end over).1) in
      let part = o.opens.part f.rest f.may in
      let works_on : (source last).faults ≡ (source first).faults = ap (λ (s : S). (source s).faults) r.unread.1 ∙ works in
      record {
        bytes = o.read ++ f.rest;
        read = o.read;
        rest = f.rest;
        are = f.are;
        consumed = consumed;
        begins = refl;
        lived = by_memory outcome r.of_memory (o.read ++ f.rest) part unwritten works_on
            (λ of. over_store seen moments P text disk store opened Live (o.read ++ f.rest) (IsFedBy accepted (o.read ++ f.rest)) [] (sym part) (typed (o.read ++ f.rest) part)
            (nothing_fed (o.read ++ f.rest)) now was written outcome of
            (subst (λ (es : List Entry). IsClosedRun seen own_answers true P store es outcome now was.contents written.contents) (sym (none_below 64)) r.run));
      }
    where
      by_memory : (over : Outcome) → IsOfMemory over → (bytes : Bytes) → policy_part bytes ≡ text → (IsOfMemory over → written ≡ was)
          → (source last).faults ≡ (source first).faults
          → (IsOfRun over → RunEnds Live bytes (IsFedBy accepted bytes) (seen disk) (seen now) was.contents written.contents over)
          → HasLived over bytes o.read Before After
      by_memory (outcomes.NoMemory e) of bytes part none works_on run =
          inr (inr (none tt, outcomes.NoMemory e, record { source = ((λ is. absurd (cc is)), λ other. works_on); run = run (refl, refl) }))
      by_memory over of bytes part none works_on run = absurd of

  pub run_lived : HasRunLive source seen P store script judged mid last outcome now was.contents written.contents → HasLivedInput outcome Before After
  run_lived r = ⊎_elim live_run unbegun_run r

-- a live run that met a disk fault raised the disk's count
module _ {S D : Type 0} (source : S → SourceSeen) (seen : D → DiskSeen) (P : PlainPolicy) (disk : D) (store : Kept D) (unmarked : store.mark ≡ None)
    (unfailed : (seen store.disk).faults ≡ (seen disk).faults) (script judged : ComingScript) (mid last : S) (now : D) (outcome : Outcome) (was written : Option Bytes) where
  raised_by : (over : Outcome) (lines : List Entry) → over ≡ outcomes.DiskFault → IsClosedRun seen own_answers true P store lines over now was written
      → (seen now).faults ≡ raised (seen disk).faults
  raised_by over lines is run = run_raised seen own_answers true P disk store unmarked unfailed lines now was written
      (subst (λ (o : Outcome). IsClosedRun seen own_answers true P store lines o now was written) is run)

  pub live_raised : HasRunLive source seen P store script judged mid last outcome now was written → outcome ≡ outcomes.DiskFault
      → (seen now).faults ≡ raised (seen disk).faults
  live_raised r is = ⊎_elim
      (λ l. raised_by l.over (by_client (entries_of l.lines)) (disk_end l.over l.stop outcome l.of_run l.ends is) l.run)
      (λ u. absurd (subst IsOfMemory is u.of_memory)) r
