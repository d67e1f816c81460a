-- A live run that nothing hinders is complete, and one that ends by too long an input had one.
use Rattle.std.proofs.Common.{◌≡◌, ◌≢◌, ◌⊎◌, ⊎_elim, true, false, ◌+◌, ◌<◌, ◌≤◌, ◌++◌, length, length-append, length-take, min, refl, ap, subst, ◌∙◌, sym, arith}
use Rattle.std.specs.Prelude.{List, Option, Some, None, IfSome, Ok}
use Rattle.ucon_flow.specs.Lines.{first_line, newline}
use Rattle.ucon_disk.specs.Causes.{raised}
use Rattle.ucon_model.specs.Document.{ScriptLine, document_read, policy_part}
use Rattle.ucon_model.specs.Plain.{Bytes}
use Rattle.ucon_script.specs.declared.doc_fault.DocFault.{DocFault}
use Rattle.ucon_script.specs.declared.doc_fault.DocFault.TheVariants as faults
use Rattle.ucon_script.specs.ComingScript.{IsRefusal}
use Rattle.ucon_syntax.specs.Policies.{accepted}
use Rattle.ucon_outcome.specs.declared.outcome.Outcome.{Outcome}
use Rattle.ucon_outcome.specs.declared.outcome.Outcome.TheVariants as outcomes
use Rattle.ucon_top.specs.declared.form.Form.TheVariants.{Live, Point}
use Rattle.ucon_top.specs.Complete.{IsComplete}
use Rattle.ucon_top.specs.Ending.{IsCounted, IsUnrefused, MayEnd}
use Rattle.ucon_top.specs.Form.{ReadsWhole}
use Rattle.ucon_top.specs.Ran.{HasCauses, HasLeft, HasMade}
use Rattle.ucon_top.specs.OwnReading.{HasLived, HasLivedInput, IsAccepted, IsRefusedBy, IsScriptFault, IsUnhindered}
use Rattle.ucon_top.specs.Seen.{Seen}
use Rattle.ucon_top.proofs.Completing.{SeesOneThing, not_damaged, not_foreign, not_others, rose, too_much}

-- ---- too long an input

long_so : (bytes front rest : Bytes) → bytes ≡ front ++ rest → 4194304 < length front + length (first_line rest) → 4194304 < length bytes
long_so bytes front rest is long =
    let size : length bytes ≡ length front + length rest = ap (λ (l : Bytes). length l) is ∙ length-append front rest in
    let first : length (first_line rest) ≡ min (newline rest + 1) (length rest) = length-take (newline rest + 1) rest in
    omega (arith, size, first, long)

module _ (before after : Seen) where
  too_long_read : (bytes read : Bytes) → HasLived outcomes.TooLong bytes read before after → 4194304 < length read
  too_long_read bytes read lived = ⊎_elim
      (λ l. long_so read l.0.front l.0.rest l.0.bytes_are l.0.long)
      (λ l. let f = l.0.run.says in long_so read f.front f.rest f.read_is f.long) lived

  if_told : (input : Option Bytes) (bytes : Bytes) (so : Bytes → Type 0) → IfSome input (λ known. known ≡ bytes) → so bytes → IfSome input so
  if_told None bytes so is h = tt
  if_told (Some known) bytes so is h = subst so (sym is) h

  pub too_long_lived : (outcome : Outcome) → HasLivedInput outcome before after → outcome ≡ outcomes.TooLong → IfSome before.source.left (λ bytes. 4194304 < length bytes)
  too_long_lived outcome l is =
      let lived = subst (λ (o : Outcome). HasLived o l.bytes l.read before after) is l.lived in
      let read = too_long_read l.bytes l.read lived in
      let size : length l.bytes ≡ length l.read + length l.rest = ap (λ (b : Bytes). length b) l.begins ∙ length-append l.read l.rest in
      if_told before.source.left l.bytes (λ bytes. 4194304 < length bytes) l.are (omega (arith, read, size))

  -- ---- nothing hinders it

  script_fault : (bytes : Bytes) (f : DocFault) → IsAccepted bytes → IsRefusal (document_read accepted bytes) f → IsScriptFault f bytes
  script_fault bytes (faults.NoMemory e) a refusal = absurd refusal
  script_fault bytes (faults.BadHeading n) a refusal = record { policy = a.policy; has_policy = a.has_policy; cause = refusal }
  script_fault bytes (faults.BadLine n f) a refusal = record { policy = a.policy; has_policy = a.has_policy; cause = refusal }
  script_fault bytes (faults.TooManyClients n) a refusal = record { policy = a.policy; has_policy = a.has_policy; cause = refusal }
  script_fault bytes (faults.TooManyLines n) a refusal = record { policy = a.policy; has_policy = a.has_policy; cause = refusal }

  module _ (sees_one : SeesOneThing) (never : (bytes : Bytes) (outcome : Outcome) → IsAccepted bytes → IsRefusedBy outcome bytes → IsUnrefused outcome)
      (bytes read : Bytes) (u : IsUnhindered Live bytes before after) where
    by_outcome : (outcome : Outcome) → HasLived outcome bytes read before after → IsCounted outcome outcomes.SinkFault before.sink.faults after.sink.faults
        → (outcome ≡ outcomes.DiskFault → after.disk.faults ≡ raised before.disk.faults) → (outcome ≡ outcomes.TooLong → 4194304 < length bytes) → IsComplete outcome
    by_outcome outcomes.Done l sink disk long = refl
    by_outcome (outcomes.NoMemory e) l sink disk long = refl
    by_outcome (outcomes.Policy f) l sink disk long = absurd (cc (never bytes (outcomes.Policy f) u.accepted (u.accepted.short, l.0)))
    by_outcome (outcomes.Script f) l sink disk long =
        absurd (cc (never bytes (outcomes.Script f) u.accepted (u.accepted.short, script_fault bytes f u.accepted l.0.run.says.refused)))
    by_outcome outcomes.SourceFault l sink disk long =
        absurd (u.source_works (rose _ _ (⊎_elim (λ e. e.1.0.source.0 refl) (λ e. e.0.source.0 refl) l)))
    by_outcome outcomes.TooLong l sink disk long = absurd (too_much (length bytes) u.accepted.short (long refl))
    by_outcome outcomes.SinkFault l sink disk long = absurd (u.sink_works (rose _ _ (sink.0 refl)))
    by_outcome outcomes.DiskFault l sink disk long = absurd (u.disk_works (rose _ _ (disk refl)))
    by_outcome (outcomes.Damaged number place) l sink disk long =
        absurd (not_damaged sees_one (policy_part bytes) before.disk.contents u.journal number place l.1.reason.0)
    by_outcome outcomes.NotJournal l sink disk long = absurd (not_foreign sees_one (policy_part bytes) before.disk.contents u.journal l.1.reason.0)
    by_outcome (outcomes.OtherPolicy place) l sink disk long =
        absurd (not_others sees_one (policy_part bytes) before.disk.contents u.journal place l.1.reason.0)
    by_outcome outcome l sink disk long = absurd l

  pub lived_complete : SeesOneThing → ((bytes : Bytes) (outcome : Outcome) → IsAccepted bytes → IsRefusedBy outcome bytes → IsUnrefused outcome)
      → (outcome : Outcome) → HasLivedInput outcome before after → IsCounted outcome outcomes.SinkFault before.sink.faults after.sink.faults
      → (outcome ≡ outcomes.DiskFault → after.disk.faults ≡ raised before.disk.faults)
      → IfSome before.source.left (λ bytes. IsUnhindered Live bytes before after → IsComplete outcome)
  lived_complete sees_one never outcome l sink disk = over before.source.left l.are (too_long_lived outcome l)
    where
      over : (input : Option Bytes) → IfSome input (λ known. known ≡ l.bytes) → (outcome ≡ outcomes.TooLong → IfSome input (λ bytes. 4194304 < length bytes))
          → IfSome input (λ bytes. IsUnhindered Live bytes before after → IsComplete outcome)
      over None is long = tt
      over (Some known) is long = λ u. by_outcome sees_one never known l.read u outcome
          (subst (λ (b : Bytes). HasLived outcome b l.read before after) (sym is) l.lived) sink disk long

  -- ---- what the clause says of it

  may_live : (bytes read : Bytes) (outcome : Outcome) → HasLived outcome bytes read before after → MayEnd Live outcome
  may_live bytes read (outcomes.FullPoint size) e = absurd e
  may_live bytes read outcomes.OldJournal e = absurd e
  may_live bytes read outcome e = (tt, tt, refl)

  not_usage : (outcome : Outcome) → HasLivedInput outcome before after → outcome ≢ outcomes.Usage
  not_usage outcome l is = let none : ⊥ = subst (λ (o : Outcome). HasLived o l.bytes l.read before after) is l.lived in none

  not_whole : {A : Type 0} → ReadsWhole Live → A
  not_whole whole = absurd (let none : false ≡ true = whole in cc none)

  pub live_causes : (outcome : Outcome) → HasLivedInput outcome before after → IsCounted outcome outcomes.SinkFault before.sink.faults after.sink.faults
      → (outcome ≡ outcomes.DiskFault → after.disk.faults ≡ raised before.disk.faults) → HasCauses accepted Live outcome before after
  live_causes outcome l sink disk = record {
    usage = not_usage outcome l;
    form = may_live l.bytes l.read outcome l.lived;
    source = λ whole. not_whole whole;
    too_long = too_long_lived outcome l;
    refused = λ whole. not_whole whole;
    accepted = λ whole. not_whole whole;
    sink = sink;
    fault = disk;
  }

  pub live_made : (outcome : Outcome) → HasLivedInput outcome before after → HasMade accepted Live outcome before after
  live_made outcome l = record {
    done = λ _ alone. absurd (let none : true ≡ false = alone in cc none);
    cut_short = λ _ alone. absurd (let none : true ≡ false = alone in cc none);
    unwritten = λ whole. not_whole whole;
    played = λ runs whole. not_whole whole;
    lived = λ _. l;
    pointed = λ is. absurd (let none : Live ≡ Point = is in cc none);
    told = λ tells. absurd (let none : false ≡ true = tells in cc none);
  }

  pub live_left : (outcome : Outcome) → HasLeft accepted Live outcome before after
  live_left outcome = record {
    read = λ whole. not_whole whole;
    reads = λ whole. not_whole whole;
    unread = λ no. absurd (no refl);
    untouched = λ whole. not_whole whole;
    unaccepted = λ whole. not_whole whole;
    alone = λ alone. absurd (let none : true ≡ false = alone in cc none);
  }
