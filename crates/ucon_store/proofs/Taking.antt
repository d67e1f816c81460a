-- Whether a payload is the one that the next step spells.
use Rattle.std.proofs.Common.{◌≡◌, ◌≢◌, ℕ, ◌+◌, ◌≤◌, ◌<◌, List, [], ◌∷◌, ◌++◌, length, Bool, Option, Some, None, Ok, Err, refl, sym, ap, ◌∙◌, cond, subst, true, false, arith}
use Rattle.std.specs.Prelude.{nat_lt, IfSome, Result}
use Rattle.std.specs.Str.{bytes_eq}
use Rattle.std.proofs.lemmas.Slice.Eq.{bytes_eq-Decides}
use Rattle.ucon_disk.specs.Causes.{raised}
use Rattle.ucon_journal.specs.declared.fault.TakeFault.{TakeFault}
use Rattle.ucon_journal.specs.declared.fault.TakeFault.TheVariants as taking
use Rattle.ucon_journal.specs.Found.{counted, payloads_from}
use Rattle.ucon_model.specs.declared.command.Entry.{Entry}
use Rattle.ucon_model.specs.Action.{Trace}
use Rattle.ucon_model.specs.Block.{reply as reply_to}
use Rattle.ucon_model.specs.Found.{Finding, first_gate, next_gate, taken}
use Rattle.ucon_model.specs.History.{History, said, changes, trace_from}
use Rattle.ucon_model.specs.Payload.{most_payload, Told, entry_told, told, payload_spelling, payload_read}
use Rattle.ucon_model.specs.Plain.{Bytes, PlainPolicy, PlainReply}
use Rattle.ucon_model.specs.ReplyText.{tells_change}
use Rattle.ucon_model.specs.Spelling.{reply_spelling}
use Rattle.ucon_syntax.specs.Policies.{accepted}
use Rattle.ucon_store.specs.declared.fault.StoreFault.{StoreFault}
use Rattle.ucon_store.specs.declared.record_fault.RecordFault.{RecordFault}
use Rattle.ucon_store.specs.declared.record_fault.RecordFault.TheVariants as records
use Rattle.ucon_store.specs.Reaching.{IsUnpassed}
use Rattle.ucon_store.specs.Walking.{HasLong}
use Rattle.ucon_store.specs.Faults.{of_record, of_take}
use Rattle.ucon_store.specs.Found.{found}
use Rattle.ucon_store.specs.Opened.{Sees, SeesIn, SeesPast, damaged, first_long, parted_with, steps_after}
use Rattle.ucon_store.specs.Opening.{HasReason}
use Rattle.ucon_store.specs.Points.{has_points}
use Rattle.ucon_store.proofs.After.{taken_after, tested, unread_after}

module _ {A : Type 0} (x : A) where
  pub same_taken : (spelled payload : List ℕ) (changes : Bool) → changes ≡ true → spelled ≡ payload → tested x changes (bytes_eq spelled payload) ≡ Some x
  same_taken spelled payload changes does is =
      ap (λ b. tested x b (bytes_eq spelled payload)) does ∙ ap (λ b. tested x true b) ((bytes_eq-Decides spelled payload).1 is)

  pub other_refused : (spelled payload : List ℕ) (changes : Bool) → changes ≡ true → spelled ≢ payload → tested x changes (bytes_eq spelled payload) ≡ None
  other_refused spelled payload changes does isnt =
      ap (λ b. tested x b (bytes_eq spelled payload)) does ∙ ap (λ b. tested x true b) (not_true (bytes_eq spelled payload) (λ e. isnt ((bytes_eq-Decides spelled payload).0 e)))
    where
      not_true : (b : Bool) → (b ≡ true → ⊥) → b ≡ false
      not_true true doesnt = absurd (doesnt refl)
      not_true false doesnt = refl

  pub unchanged_refused : (same changes : Bool) → changes ≡ false → tested x changes same ≡ None
  unchanged_refused same changes doesnt = ap (λ b. tested x b same) doesnt

-- what the law on payloads that are taken says of those that tell a step
abbrev pub TakenAsSpelled : Type 0
TakenAsSpelled = (P : PlainPolicy) (H : History) (payload : Bytes) (t : Told) → length payload ≤ most_payload → payload_read accepted payload ≡ Ok t
    → taken accepted P H payload ≡ tested (H ++ entry_told t ∷ []) (changes (said P H t.caller t.command)) (bytes_eq (payload_spelling (told (entry_told t) (said P H t.caller t.command))) payload)

-- a payload that tells an entry behind a trace, beside the reply r that is said there to the entry
module _ (tells : (r : PlainReply) → tells_change (reply_spelling r) ≡ changes r) (back : (bytes : Bytes) (t : Told) → payload_read accepted bytes ≡ Ok t → (payload_spelling t ≡ bytes) × (t.caller.0 < 64))
    (T : Trace) (text : Bytes) (P : PlainPolicy) (H : History) (payload : Bytes) (e : Entry) (reply r : PlainReply) (short : length payload ≤ most_payload)
    (read : payload_read accepted payload ≡ Ok (told e reply)) (is : r ≡ reply_to P (trace_from P T H) e.caller e.command) where
  by_reply : steps_after T text P H payload ≡ tested (H ++ e ∷ []) (changes r) (bytes_eq (payload_spelling (told e r)) payload)
  by_reply = subst (λ (x : PlainReply). steps_after T text P H payload ≡ tested (H ++ e ∷ []) (changes x) (bytes_eq (payload_spelling (told e x)) payload)) (sym is)
      (taken_after T text P H payload tells back (told e reply) short read)

  pub drafted_taken : changes r ≡ true → payload_spelling (told e r) ≡ payload → steps_after T text P H payload ≡ Some (H ++ e ∷ [])
  drafted_taken does spelled = by_reply ∙ same_taken (H ++ e ∷ []) (payload_spelling (told e r)) payload (changes r) does spelled

  pub drafted_refused : changes r ≡ true → payload_spelling (told e r) ≢ payload → steps_after T text P H payload ≡ None
  drafted_refused does differs = by_reply ∙ other_refused (H ++ e ∷ []) (payload_spelling (told e r)) payload (changes r) does differs

  pub unchanged_drafted : changes r ≡ false → steps_after T text P H payload ≡ None
  unchanged_drafted doesnt = by_reply ∙ unchanged_refused (H ++ e ∷ []) (bytes_eq (payload_spelling (told e r)) payload) (changes r) doesnt

-- a payload that tells no step but one of this entry isn't taken, where it isn't if it does
pub refused_unless : (T : Trace) (text : Bytes) (P : PlainPolicy) (H : History) (payload : Bytes) (e : Entry) → ((t : Told) → payload_read accepted payload ≡ Ok t → e ≡ entry_told t)
    → ((reply : PlainReply) → payload_read accepted payload ≡ Ok (told e reply) → steps_after T text P H payload ≡ None) → steps_after T text P H payload ≡ None
refused_unless T text P H payload e tells refused = by_read (payload_read accepted payload) refl
  where
    by_read : (r : Result Told ℕ) → payload_read accepted payload ≡ r → steps_after T text P H payload ≡ None
    by_read (Ok t) read = refused t.reply (read ∙ ap (λ (x : Entry). Ok (told x t.reply)) (sym (tells t read)))
    by_read (Err place) read = unread_after T text P H payload place read

-- what opening sees where a record is wrong, as a walk has told
pub long_seen : (points : Bool) (number gate : ℕ) (payloads : List Bytes) (f : Finding) (long place : ℕ) → first_long 0 first_gate payloads ≡ Some (long, place) → SeesIn points payloads f (damaged long place)
long_seen points number gate [] f long place is = absurd (let no : None ≡ Some (long, place) = is in cc no)
long_seen points number gate (text ∷ payloads) f long place is =
    subst (λ (o : Option (ℕ × ℕ)). SeesPast o text (accepted text) (parted_with points payloads) f (damaged long place)) (sym is) refl

long_yes : (m n : ℕ) → m < n → nat_lt m n ≡ true
long_yes m n less = grind arith

-- a record that is too long is the first such
pub long_here : (number gate : ℕ) (file : Bytes) (p : Bytes) (ps : List Bytes) → payloads_from file gate ≡ p ∷ ps → most_payload < length p
    → first_long number gate (payloads_from file gate) ≡ Some (number, gate)
long_here number gate file p ps is long =
    ap (first_long number gate) is ∙ ap (λ (b : Bool). cond b (Some (number, gate)) (first_long (number + 1) (next_gate gate p) ps)) (long_yes most_payload (length p) long)

-- why a walk stopped is why the journal isn't opened
long_record : (fault : RecordFault) (text : Bytes) (o : Option Bytes) (before now : ℕ) → IfSome o (λ file. payloads_from file 8 ≡ counted file) → HasLong fault o 0 8 before now
    → HasReason (of_record fault) text o before now
long_record (records.Damaged long place) text o before now all h = (told o all h.0, h.1)
  where
    told : (o : Option Bytes) → IfSome o (λ file. payloads_from file 8 ≡ counted file) → IfSome o (λ file. first_long 0 8 (payloads_from file 8) ≡ Some (long, place))
        → IfSome o (λ file. Sees file (damaged long place))
    told None all h = tt
    told (Some file) all h = long_seen (has_points file) 0 8 (counted file) (found file) long place (ap (first_long 0 8) (sym all) ∙ h)
long_record records.DiskFault text o before now all h = h
long_record (records.NoMemory e) text o before now all h = h

pub long_unopened : (stored : StoreFault) (fault : RecordFault) (text : Bytes) (o : Option Bytes) (before now : ℕ) → stored ≡ of_record fault
    → IfSome o (λ file. payloads_from file 8 ≡ counted file) → HasLong fault o 0 8 before now → HasReason stored text o before now
long_unopened stored fault text o before now is all h =
    subst (λ (f : StoreFault). HasReason f text o before now) (sym is) (long_record fault text o before now all h)

-- and so is why a record wasn't passed that can be
unpassed_record : (fault : RecordFault) (text : Bytes) (o : Option Bytes) (before now : ℕ) → IsUnpassed fault o before now → HasReason (of_record fault) text o before now
unpassed_record (records.Damaged number place) text o before now h =
    (subst (λ (x : Option Bytes). IfSome x (λ file. Sees file (damaged number place))) (sym h.0) tt, h.1)
unpassed_record records.DiskFault text o before now h = h
unpassed_record (records.NoMemory e) text o before now h = h

pub unpassed_unopened : (stored : StoreFault) (fault : RecordFault) (text : Bytes) (o : Option Bytes) (before now : ℕ) → stored ≡ of_record fault → IsUnpassed fault o before now
    → HasReason stored text o before now
unpassed_unopened stored fault text o before now is h =
    subst (λ (f : StoreFault). HasReason f text o before now) (sym is) (unpassed_record fault text o before now h)

-- why a record could not be taken
pub taking_reason : (fault : TakeFault) (text : Bytes) (o : Option Bytes) (number gate before now : ℕ)
    → ((place : ℕ) → fault ≡ taking.TooLong place → (place ≡ gate) × IfSome o (λ file. Sees file (damaged number gate)))
    → (fault ≡ taking.DiskFault → now ≡ raised before) → (fault ≢ taking.DiskFault → now ≡ before)
    → HasReason (of_take number fault) text o before now
taking_reason (taking.TooLong place) text o number gate before now long failed unfailed =
    let l = long place refl in
    (subst (λ (at : ℕ). IfSome o (λ file. Sees file (damaged number at))) (sym l.0) l.1, unfailed (λ e. absurd (cc e)))
taking_reason taking.DiskFault text o number gate before now long failed unfailed = failed refl
taking_reason (taking.NoMemory m) text o number gate before now long failed unfailed = unfailed (λ e. absurd (cc e))
