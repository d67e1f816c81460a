-- How a live run ends that answers no line: its document isn't read up to the divider, its policy is refused, or its journal isn't opened.
use Rattle.std.proofs.Common.{◌≡◌, ◌≢◌, ◌++◌, refl, sym, subst, inl, inr}
use Rattle.std.specs.Prelude.{Option, IfSome}
use Rattle.std.specs.Io.KnownBytes.{Consumes}
use Rattle.ucon_flow.specs.Causes.{raised}
use Rattle.ucon_flow.specs.Reading.{ReadsFront}
use Rattle.ucon_flow.specs.Seen.{SinkSeen, SourceSeen}
use Rattle.ucon_flow.specs.declared.source.ReadFault.{ReadFault}
use Rattle.ucon_flow.specs.declared.source.ReadFault.TheVariants as reads
use Rattle.ucon_disk.specs.Seen.{DiskSeen}
use Rattle.ucon_model.specs.Document.{policy_part}
use Rattle.ucon_model.specs.Plain.{Bytes}
use Rattle.ucon_script.specs.declared.coming_script.ComingScript.{ComingScript}
use Rattle.ucon_script.specs.Coming.{HasOpened, IsLongPart, IsUndivided}
use Rattle.ucon_store.specs.declared.fault.StoreFault.{StoreFault}
use Rattle.ucon_store.specs.declared.fault.StoreFault.TheVariants as stores
use Rattle.ucon_outcome.specs.declared.outcome.Outcome.{Outcome}
use Rattle.ucon_outcome.specs.declared.outcome.Outcome.TheVariants as outcomes
use Rattle.ucon_outcome.specs.declared.outcome.Refused.{Refused}
use Rattle.ucon_outcome.specs.declared.outcome.Refused.TheVariants as refusals
use Rattle.ucon_top.specs.Ending.{by_opening, by_reading, outcome_of}
use Rattle.ucon_top.specs.Lived.{IsUntoldBy}
use Rattle.ucon_top.specs.LiveEnding.{IsPolicyRefusal}
use Rattle.ucon_top.specs.OwnReading.{HasLived, HasLivedInput, IsUnopened}
use Rattle.ucon_top.specs.Seen.{IsAsBefore, Seen, all_seen, same_disk}
use Rattle.ucon_top.proofs.Living.{may_follow, reads_of}

untold : (before after : Seen) (outcome : Outcome) → outcome ≢ outcomes.SourceFault → after.sink ≡ before.sink → after.source.faults ≡ before.source.faults
    → IsUntoldBy outcome before after
untold before after outcome other unwritten works = record { unwritten = unwritten; source = ((λ is. absurd (other is)), λ _. works) }

-- ---- the policy part wasn't read

module _ (before after : Seen) (unwritten : after.sink ≡ before.sink) (same : IsAsBefore before.disk after.disk) where
  over_read : (outcome : Outcome) (read : Bytes) → Consumes before.source.left after.source.left read → ((bytes : Bytes) → HasLived outcome bytes read before after)
      → HasLivedInput outcome before after
  over_read outcome read consumed lived = let r = reads_of before.source.left after.source.left read consumed in record {
    bytes = read ++ r.rest;
    read = read;
    rest = r.rest;
    are = r.are;
    consumed = consumed;
    begins = refl;
    lived = lived (read ++ r.rest);
  }

  pub unread_lived : (fault : ReadFault) → ReadsFront before.source.left after.source.left
      → (fault ≡ reads.TooLong → (read : Bytes) × Consumes before.source.left after.source.left read × IsLongPart read)
      → (fault ≡ reads.SourceFault → (read : Bytes) × Consumes before.source.left after.source.left read × IsUndivided read)
      → (fault ≡ reads.SourceFault → after.source.faults ≡ raised before.source.faults)
      → (fault ≢ reads.SourceFault → after.source.faults ≡ before.source.faults) → HasLivedInput (by_reading fault) before after
  unread_lived reads.SourceFault front long undivided failed works = let u = undivided refl in
      over_read outcomes.SourceFault u.0 u.1 (λ bytes.
      inl (u.2, (record { unwritten = unwritten; source = ((λ _. failed refl), λ other. absurd (other refl)) }, same)))
  unread_lived reads.TooLong front long undivided failed works = let l = long refl in
      over_read outcomes.TooLong l.0 l.1 (λ bytes.
      inl (l.2, (untold before after outcomes.TooLong (λ is. cc is) unwritten (works (λ is. cc is)), same)))
  unread_lived (reads.NoMemory e) front long undivided failed works =
      over_read (outcomes.NoMemory e) front.0 front.1 (λ bytes.
      inl (untold before after (outcomes.NoMemory e) (λ is. cc is) unwritten (works (λ is. cc is)), same))

-- ---- it was read, and no line behind it

module _ {S D : Type 0} (source : S → SourceSeen) (seen : D → DiskSeen) (text : Bytes) (first last : S) (script : ComingScript)
    (o : HasOpened source text script.lines script.reader.number first last) (works : (source last).faults ≡ (source first).faults) (disk now : D) (sink : SinkSeen) where
  abbrev Before : Seen
  Before = all_seen (source first) sink (seen disk)

  abbrev After : Seen
  After = all_seen (source last) sink (seen now)

  over_part : (outcome : Outcome) → ((bytes : Bytes) → policy_part bytes ≡ text → HasLived outcome bytes o.read Before After) → HasLivedInput outcome Before After
  over_part outcome lived =
      let f = may_follow (source first).left (source last).left script.lines o.read o.consumed (λ over. (o.at_end over).1) in record {
        bytes = o.read ++ f.rest;
        read = o.read;
        rest = f.rest;
        are = f.are;
        consumed = o.consumed;
        begins = refl;
        lived = lived (o.read ++ f.rest) (o.opens.part f.rest f.may);
      }

  silent : (outcome : Outcome) → outcome ≢ outcomes.SourceFault → IsUntoldBy outcome Before After
  silent outcome other = untold Before After outcome other refl works

  pub refused_lived : (r : Refused) → now ≡ disk → ((bytes : Bytes) → policy_part bytes ≡ text → IsPolicyRefusal r bytes) → HasLivedInput (outcome_of r) Before After
  refused_lived (refusals.Policy f) same refused =
      over_part (outcomes.Policy f) (λ bytes part. (refused bytes part, (silent (outcomes.Policy f) (λ is. cc is), same_disk seen disk now same)))
  refused_lived (refusals.Script f) same refused = over_part (outcomes.Script f) (λ bytes part. absurd (refused bytes part))
  refused_lived (refusals.NoMemory e) same refused =
      over_part (outcomes.NoMemory e) (λ bytes part. inl (silent (outcomes.NoMemory e) (λ is. cc is), same_disk seen disk now same))

  pub unopened_lived : (fault : StoreFault) → IsUnopened fault text (seen disk) (seen now) → HasLivedInput (by_opening fault) Before After
  unopened_lived fault unopened = over_part (by_opening fault) (λ bytes part.
      by_fault fault bytes (subst (λ (t : Bytes). IsUnopened fault t (seen disk) (seen now)) (sym part) unopened))
    where
      by_fault : (f : StoreFault) (bytes : Bytes) → IsUnopened f (policy_part bytes) (seen disk) (seen now) → HasLived (by_opening f) bytes o.read Before After
      by_fault stores.NotJournal bytes u = (silent outcomes.NotJournal (λ is. cc is), u)
      by_fault (stores.Damaged number place) bytes u = (silent (outcomes.Damaged number place) (λ is. cc is), u)
      by_fault (stores.OtherPolicy place) bytes u = (silent (outcomes.OtherPolicy place) (λ is. cc is), u)
      by_fault stores.DiskFault bytes u = inr (silent outcomes.DiskFault (λ is. cc is), u)
      by_fault (stores.NoMemory e) bytes u = inr (inl (silent (outcomes.NoMemory e) (λ is. cc is), u))
