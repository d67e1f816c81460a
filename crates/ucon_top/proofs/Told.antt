-- From the opening of a journal to its closing, where no line was run: what was told of it.
use Rattle.std.proofs.Common.{◌≡◌, ℕ, ◌+◌, false, true, [], length, refl, sym, subst, inl, inr}
use Rattle.std.specs.Prelude.{Option, Some, None, IfSome, Result, Ok, Err, IfOk, OnErr}
use Rattle.std.specs.Io.KnownBytes.{Appends}
use Rattle.ucon_flow.specs.Writing.{AppendsPrefix}
use Rattle.ucon_disk.specs.Run.{LeavesAfter}
use Rattle.ucon_disk.specs.Seen.{DiskSeen}
use Rattle.ucon_flow.specs.Seen.{SinkSeen}
use Rattle.ucon_model.specs.Document.{policy_part}
use Rattle.ucon_model.specs.Action.{Trace}
use Rattle.ucon_model.specs.History.{History, trace, trace_from}
use Rattle.ucon_model.specs.Plain.{Bytes, PlainPolicy}
use Rattle.ucon_store.specs.declared.fault.StoreFault.{StoreFault}
use Rattle.ucon_store.specs.declared.fault.StoreFault.TheVariants as stores
use Rattle.ucon_store.specs.Found.{IsFoundAs}
use Rattle.ucon_store.specs.Keeping.{GrowsFrom}
use Rattle.ucon_store.specs.Kept.{Kept}
use Rattle.ucon_store.specs.Opening.{IsSeenAs}
use Rattle.ucon_store.specs.Starts.{IsStart}
use Rattle.ucon_store.specs.Stays.{stays_same}
use Rattle.ucon_outcome.specs.declared.outcome.Outcome.{Outcome}
use Rattle.ucon_outcome.specs.declared.outcome.Outcome.TheVariants as outcomes
use Rattle.ucon_outcome.specs.Ending.{by_opening}
use Rattle.ucon_top.specs.declared.form.Form.{Form}
use Rattle.ucon_top.specs.declared.form.Form.TheVariants as forms
use Rattle.ucon_top.specs.Accepted.{HasPolicy}
use Rattle.ucon_top.specs.Closing.{IsWritten}
use Rattle.ucon_top.specs.OwnReading.{HasTold, HasToldInput, IsOpenedState, IsStillFound, Tells, TellsNothing}
use Rattle.ucon_top.specs.Seen.{as_it_was}
use Rattle.ucon_top.specs.Pointed.{HasItsPoints}
use Rattle.ucon_top.specs.Unread.{IsUnread}
use Rattle.ucon_top.proofs.Behind.{trace_append}
use Rattle.ucon_top.proofs.Playing.{HasMoments, IsOpened, if_so, keeps_file, own_state}
use Rattle.ucon_top.proofs.Pointing.{as_many, still_unpointed}

-- ---- over a store that was opened

module _ {D : Type 0} (seen : D → DiskSeen) (moments : HasMoments seen) (bytes : Bytes) (P : PlainPolicy) (has_policy : HasPolicy bytes P)
    (disk : D) (store : Kept D) (opened : IsOpened seen P (policy_part bytes) disk store)
    (saw : IfSome (seen disk).contents (IsSeenAs P store.policy store.point store.before store.entries)) where
  abbrev count : ℕ
  count = store.before + length store.entries

  -- what is so of each trace that leads to where the store begins, with its entries behind, is so of what was opened
  pub opened_state : (now : D) → now ≡ store.disk → (so : PlainPolicy → Trace → Type 0) → (T : Trace) → IsStart P store.point store.before T
      → ((T : Trace) → IsStart P store.point store.before T → so P (trace_from P T store.entries))
      → IsOpenedState bytes (seen disk) (seen now) so
  opened_state now same so T starts each = record {
    policy = P;
    has_policy = has_policy;
    entries = count;
    actions = trace_from P T store.entries;
    own = if_so (seen disk).contents (own_state P (policy_part bytes) store opened.policy T starts) saw;
    is_so = each T starts;
    keeps = keeps_file seen moments P (policy_part bytes) disk store opened now
        (subst (λ (d : D). LeavesAfter (seen store.disk) (seen d) GrowsFrom) (sym same) (stays_same seen moments.only_now store).grows);
    still = λ file opening told found.
        let from = opened.founded file opening told found in
        let G = from.before in
        let here = subst (λ (H : History). IsFoundAs (policy_part bytes) file H) from.all found in
        let it = subst (λ (U : Trace). so P U) (sym (trace_append P [] G store.entries)) (each (trace P G) from.founded.front.starts) in
        subst (λ (H : History). (length H ≡ count) × IsStillFound (policy_part bytes) file H (seen disk) (seen now) HasItsPoints HasItsPoints × so P (trace P H)) (sym from.all) (
          as_many seen moments bytes P has_policy disk store opened file told G from.founded here,
          still_unpointed seen moments bytes P has_policy disk store opened file told G from.founded here now same,
          it,
        );
  }

-- what is so of an answer, by what was so of it, or of its want
pub if_ok : {T E : Type 0} (r : Result T E) (so then : T → Type 0) → ((t : T) → so t → then t) → IfOk r so → IfOk r then
if_ok (Ok t) so then each h = each t h
if_ok (Err e) so then each h = tt

pub on_err : {T E : Type 0} (r : Result T E) (P : Type 0) → P → OnErr r P
on_err (Ok t) P p = tt
on_err (Err e) P p = p

-- ---- by the form

module _ (bytes : Bytes) (old new : DiskSeen) where
  -- what is less is told, too
  pub tells_so : (form : Form) (so more : Bytes → Type 0) → ((text : Bytes) → so text → more text) → Tells form bytes old new so → Tells form bytes old new more
  tells_so (forms.Explain s r o) so more then t = record {
    policy = t.policy;
    has_policy = t.has_policy;
    entries = t.entries;
    actions = t.actions;
    own = t.own;
    is_so = then _ t.is_so;
    keeps = t.keeps;
    still = λ file opening told found. let is = t.still file opening told found in (is.0, is.1, then _ is.2);
  }
  tells_so (forms.Audit kept) so more then t = record {
    policy = t.policy;
    has_policy = t.has_policy;
    found = if_so old.contents (λ file p. record { P = p.P; H = p.H; accepts = p.accepts; found = p.found; is = then _ p.is }) t.found;
    as_it_was = t.as_it_was;
    at_rest = t.at_rest;
    images_kept = t.images_kept;
    still = t.still;
  }
  tells_so forms.Report so more then t = record {
    policy = t.policy;
    has_policy = t.has_policy;
    found = if_so old.contents (λ file p. record { P = p.P; H = p.H; accepts = p.accepts; found = p.found; is = then _ p.is }) t.found;
    as_it_was = t.as_it_was;
    at_rest = t.at_rest;
    images_kept = t.images_kept;
    still = t.still;
  }
  tells_so form so more then t = absurd t

  -- ---- by how it ended

  -- the text was written so
  pub told_written : (form : Form) (text : Bytes) (was got : SinkSeen) → Tells form bytes old new (λ told. told ≡ text) → new.faults ≡ old.faults
      → (outcome : Outcome) → IsWritten outcome text false was.contents got.contents was.faults got.faults → HasTold form outcome bytes old new was got
  told_written form text was got tells unfailed outcomes.Done w = (
    tells_so form (λ told. told ≡ text) (Appends was.contents got.contents)
        (λ told is. subst (λ (t : Bytes). Appends was.contents got.contents t) (sym is) w.1.0) tells,
    unfailed,
  )
  told_written form text was got tells unfailed outcomes.SinkFault w = (
    tells_so form (λ told. told ≡ text) (AppendsPrefix was.contents got.contents)
        (λ told is. subst (λ (t : Bytes). AppendsPrefix was.contents got.contents t) (sym is) w.1) tells,
    unfailed,
  )
  told_written form text was got tells unfailed outcomes.DiskFault w = absurd (let bad : false ≡ true = w.0 in cc bad)
  told_written form text was got tells unfailed outcome w = absurd w

  -- nothing was told, for this reason
  pub told_nothing : (form : Form) (was : SinkSeen) (fault : StoreFault) → TellsNothing form fault bytes old new
      → HasTold form (by_opening fault) bytes old new was was
  told_nothing form was stores.NotJournal nothing = nothing
  told_nothing form was (stores.Damaged number place) nothing = nothing
  told_nothing form was (stores.OtherPolicy place) nothing = nothing
  told_nothing form was stores.DiskFault nothing = (nothing, refl)
  told_nothing form was (stores.NoMemory e) nothing = inr (inl nothing)

-- nothing is told where the document wasn't read
pub unread_told : (form : Form) (outcome : Outcome) (input : Option Bytes) (before now : ℕ) (disk : DiskSeen) (was : SinkSeen) → IsUnread input before now outcome
    → HasToldInput form outcome input disk disk was was
unread_told form outcome input before now disk was unread = over_input input (λ bytes. by_outcome outcome bytes unread)
  where
    by_outcome : (o : Outcome) (bytes : Bytes) → IsUnread input before now o → HasTold form o bytes disk disk was was
    by_outcome outcomes.SourceFault bytes u = as_it_was disk
    by_outcome outcomes.TooLong bytes u = as_it_was disk
    by_outcome (outcomes.NoMemory e) bytes u = inl (as_it_was disk)
    by_outcome o bytes u = absurd u

    over_input : (o : Option Bytes) → ((bytes : Bytes) → HasTold form outcome bytes disk disk was was)
        → HasToldInput form outcome o disk disk was was
    over_input None so = record { bytes = []; are = tt; told = so [] }
    over_input (Some bytes) so = record { bytes = bytes; are = refl; told = so bytes }
