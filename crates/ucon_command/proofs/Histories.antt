-- What is found in a history's payloads is the history, and payloads in which a history is found are the history's.
use Rattle.std.proofs.Common.{◌≡◌, ℕ, ◌+◌, ◌<◌, ◌≤◌, Bool, true, false, cond, List, [], ◌∷◌, ◌++◌, length, drop, Some, None, Ok, Err, is_some, subst, refl, sym, ap, ◌∙◌, arith, append_assoc, append-nil}
use Rattle.std.specs.Prelude.{◌&&◌, IsTrue, Option, Result, option_map, option_and_then, unwrap_or, nat_lt, if◌then◌else◌}
use Rattle.std.specs.Fmt.{decimal}
use Rattle.std.specs.Result.{result_ok}
use Rattle.std.specs.Str.{bytes_eq}
use Rattle.std.proofs.Math.Seq.{drop-append_seam}
use Rattle.std.proofs.lemmas.Bool.{le-ltb, lt-ltb, ltb-true, ltb-false, and_parts, false≢true}
use Rattle.std.proofs.lemmas.Slice.Eq.{bytes_eq-Decides}
use Rattle.ucon_model.specs.declared.command.Entry.{Entry}
use Rattle.ucon_model.specs.CommandLine.{command_spelling}
use Rattle.ucon_model.specs.Found.{Finding, damaged, holds, first_gate, next_gate, gate_behind, with_step, Takes, TakesSteps, taken, only_steps, policy_taken, found_behind, found_in, payloads_behind, payloads_of}
use Rattle.ucon_model.specs.History.{History, IsProper, IsProperFrom, changes, said}
use Rattle.ucon_model.specs.Payload.{Told, entry_told, most_payload, payload_read, payload_spelling, told}
use Rattle.ucon_model.specs.Plain.{Bytes, PlainPolicy, PlainReply}
use Rattle.ucon_model.specs.ReplyText.{tells_change}
use Rattle.ucon_model.specs.Spelling.{reply_spelling}
use Rattle.ucon_command.specs.Payloads.{AreSteps, IsStep, most_told}
use Rattle.ucon_command.proofs.Lengths.{CommandsAreShort}
use Rattle.ucon_command.proofs.LowerLaws.{RepliesAreShort}
use Rattle.ucon_command.proofs.Payloads.{StepsAreSpelled, payload_short}

-- ---- the texts of steps

pub step_short : CommandsAreShort → RepliesAreShort → (t : Told) → IsStep t → length (payload_spelling t) ≤ most_told t.reply
step_short commands replies t is = payload_short commands replies t (omega (arith, is.client)) is.command is.reply

-- each step's payload fits its record
abbrev pub StepsFit : Type 0
StepsFit = (t : Told) → IsStep t → length (payload_spelling t) ≤ most_payload

pub step_fits : CommandsAreShort → RepliesAreShort → StepsFit
step_fits commands replies t is = omega (arith, step_short commands replies t is, is.few)

-- what stands before a step's reply
abbrev front_of : Entry → Bytes
front_of e = decimal e.caller.0 ++ 32 ∷ (command_spelling e.command ++ 10 ∷ [])

payload_spelling-told : (e : Entry) (r : PlainReply) → payload_spelling (told e r) ≡ front_of e ++ reply_spelling r
payload_spelling-told e r =
    ap (λ (bs : Bytes). decimal e.caller.0 ++ 32 ∷ bs) (sym (append_assoc (command_spelling e.command) (10 ∷ []) (reply_spelling r)))
    ∙ sym (append_assoc (decimal e.caller.0) (32 ∷ (command_spelling e.command ++ 10 ∷ [])) (reply_spelling r))

same_bytes : (xs : Bytes) → bytes_eq xs xs ≡ true
same_bytes xs = (bytes_eq-Decides xs xs).1 refl

-- with one entry, payloads are equal only where the replies' texts are
same_reply : (e : Entry) (r s : PlainReply) → payload_spelling (told e r) ≡ payload_spelling (told e s) → reply_spelling r ≡ reply_spelling s
same_reply e r s h =
    sym (drop-append_seam (front_of e) (reply_spelling r))
    ∙ ap (drop (length (front_of e))) (sym (payload_spelling-told e r) ∙ h ∙ payload_spelling-told e s)
    ∙ drop-append_seam (front_of e) (reply_spelling s)

either_none : (b : Bool) → cond {A = Option History} b None None ≡ None
either_none true = refl
either_none false = refl

and_false : (b : Bool) → (b && false) ≡ false
and_false true = refl
and_false false = refl

-- ---- one record

pub untaken : (reads : Bytes → Option PlainPolicy) (P : PlainPolicy) (H : History) (payload : Bytes) (place : ℕ) → payload_read reads payload ≡ Err place → taken reads P H payload ≡ None
unfolding taken
untaken reads P H payload place h =
    ap (λ r. cond (nat_lt most_payload (length payload)) None (option_and_then (with_step P H) (result_ok r))) h ∙ either_none (nat_lt most_payload (length payload))

pub untaken_long : (reads : Bytes → Option PlainPolicy) (P : PlainPolicy) (H : History) (payload : Bytes) → most_payload < length payload → taken reads P H payload ≡ None
unfolding taken
untaken_long reads P H payload lt = ap (λ b. cond b None (option_and_then (with_step P H) (result_ok (payload_read reads payload)))) (lt-ltb most_payload (length payload) lt)

-- each step's payload is read as the step
abbrev pub StepsAreRead : (Bytes → Option PlainPolicy) → Type 0
StepsAreRead reads = (t : Told) → IsStep t → payload_read reads (payload_spelling t) ≡ Ok t

-- a reply's text tells whether it changes something
abbrev pub TextsTell : Type 0
TextsTell = (r : PlainReply) → tells_change (reply_spelling r) ≡ changes r

module _ (reads : Bytes → Option PlainPolicy) (tells : TextsTell) (as_read : StepsAreSpelled reads) where
  same_changes : (r s : PlainReply) → reply_spelling r ≡ reply_spelling s → changes r ≡ changes s
  same_changes r s h = sym (tells r) ∙ ap tells_change h ∙ tells s

  tests_from : (e : Entry) (r s : PlainReply) (texts payloads : Bool)
      → bytes_eq (reply_spelling r) (reply_spelling s) ≡ texts → bytes_eq (payload_spelling (told e s)) (payload_spelling (told e r)) ≡ payloads
      → (changes r && texts) ≡ (changes s && payloads)
  tests_from e r s true payloads t p =
      let same : reply_spelling r ≡ reply_spelling s = (bytes_eq-Decides (reply_spelling r) (reply_spelling s)).0 t in
      let whole : payload_spelling (told e s) ≡ payload_spelling (told e r) =
      payload_spelling-told e s ∙ ap (λ (bs : Bytes). front_of e ++ bs) (sym same) ∙ sym (payload_spelling-told e r) in
      let is : payloads ≡ true = sym p ∙ (bytes_eq-Decides (payload_spelling (told e s)) (payload_spelling (told e r))).1 whole in
      ap (λ b. b && true) (same_changes r s same) ∙ ap (λ b. changes s && b) (sym is)
  tests_from e r s false true t p =
      let same = same_reply e s r ((bytes_eq-Decides (payload_spelling (told e s)) (payload_spelling (told e r))).0 p) in
      absurd (false≢true (sym t ∙ (bytes_eq-Decides (reply_spelling r) (reply_spelling s)).1 (sym same)))
  tests_from e r s false false t p = and_false (changes r) ∙ sym (and_false (changes s))

  -- the reply is the next step's where the payload is
  tests_agree : (t : Told) (s : PlainReply) (payload : Bytes) → payload_spelling t ≡ payload
      → (changes t.reply && bytes_eq (reply_spelling t.reply) (reply_spelling s)) ≡ (changes s && bytes_eq (payload_spelling (told (entry_told t) s)) payload)
  tests_agree t s payload is = tests_from (entry_told t) t.reply s _ _ refl refl ∙ ap (λ (bs : Bytes). changes s && bytes_eq (payload_spelling (told (entry_told t) s)) bs) is

  pub taken_as_spelled : (P : PlainPolicy) (H : History) (payload : Bytes) (t : Told) → length payload ≤ most_payload → payload_read reads payload ≡ Ok t
      → taken reads P H payload ≡ (if changes (said P H t.caller t.command) && bytes_eq (payload_spelling (told (entry_told t) (said P H t.caller t.command))) payload then Some (H ++ entry_told t ∷ []) else None)
  unfolding taken
  taken_as_spelled P H payload t short read =
      let fits : nat_lt most_payload (length payload) ≡ false = le-ltb most_payload (length payload) short in
      let tests = tests_agree t (said P H t.caller t.command) payload (as_read payload t read).0 in
      ap (λ b. cond b None (option_and_then (with_step P H) (result_ok (payload_read reads payload)))) fits
      ∙ ap (λ r. option_and_then (with_step P H) (result_ok r)) read
      ∙ ap (λ b. cond b (Some (H ++ entry_told t ∷ [])) None) tests

  pub taken_next : StepsFit → StepsAreRead reads → (P : PlainPolicy) (H : History) (e : Entry) → IsStep (told e (said P H e.caller e.command)) → IsTrue (changes (said P H e.caller e.command))
      → taken reads P H (payload_spelling (told e (said P H e.caller e.command))) ≡ Some (H ++ e ∷ [])
  taken_next fits back P H e is changing =
      let t : Told = told e (said P H e.caller e.command) in
      taken_as_spelled P H (payload_spelling t) t (fits t is) (back t is)
      ∙ ap (λ b. cond (b && bytes_eq (payload_spelling t) (payload_spelling t)) (Some (H ++ e ∷ [])) None) changing
      ∙ ap (λ b. cond b (Some (H ++ e ∷ [])) None) (same_bytes (payload_spelling t))

  -- ---- what is written is found

  found-behind : StepsFit → StepsAreRead reads → (takes : Takes) → TakesSteps reads takes → (text : Bytes) (P : PlainPolicy) (rest front : History) (number gate : ℕ) → IsProperFrom P front rest → AreSteps P front rest
      → found_behind takes text P front number gate (payloads_behind P front rest) ≡ holds text P (front ++ rest) (gate_behind gate (payloads_behind P front rest))
  found-behind fits back takes each text P [] front number gate proper steps = ap (λ H. holds text P H gate) (sym (append-nil front))
  found-behind fits back takes each text P (e ∷ rest) front number gate proper steps =
      let payload : Bytes = payload_spelling (told e (said P front e.caller e.command)) in
      ap (λ o. unwrap_or (option_map (λ later. found_behind takes text P later (number + 1) (next_gate gate payload) (payloads_behind P (front ++ e ∷ []) rest)) o) (damaged number gate))
      (each text P front (front ++ e ∷ []) payload (taken_next fits back P front e steps.0 proper.0))
      ∙ found-behind fits back takes each text P rest (front ++ e ∷ []) (number + 1) (next_gate gate payload) proper.1 steps.1
      ∙ ap (λ H. holds text P H (gate_behind (next_gate gate payload) (payloads_behind P (front ++ e ∷ []) rest))) (append_assoc front (e ∷ []) rest)

  pub history_found : StepsFit → StepsAreRead reads → (takes : Takes) (text : Bytes) (P : PlainPolicy) (H : History) → TakesSteps reads takes
      → reads text ≡ Some P → length text ≤ most_payload → IsProper P H → AreSteps P [] H
      → found_in reads takes (payloads_of text P H) ≡ holds text P H (gate_behind first_gate (payloads_of text P H))
  history_found fits back takes text P H each read short proper steps =
      ap (λ o. unwrap_or (option_map (λ Q. found_behind takes text Q [] 1 (next_gate first_gate text) (payloads_behind P [] H)) o) (damaged 0 first_gate))
      (ap (λ b. cond b None (reads text)) (le-ltb most_payload (length text) short) ∙ read)
      ∙ found-behind fits back takes each text P H [] 1 (next_gate first_gate text) proper steps

  -- ---- what is found was written

  nothing : {A : Type 0} {x : A} → None ≡ Some x → ⊥
  nothing h = false≢true (ap is_some h)

  -- what a taken payload tells: one entry more, with the serial run's reply, which changes something
  record IsTaken (P : PlainPolicy) (H : History) (payload : Bytes) (later : History) : Type 0 where
    entry : Entry
    grown : later ≡ H ++ entry ∷ []
    spelled : payload ≡ payload_spelling (told entry (said P H entry.caller entry.command))
    changing : IsTrue (changes (said P H entry.caller entry.command))

  taken_from : (P : PlainPolicy) (H : History) (payload : Bytes) (t : Told) (later : History) (next : Bool)
      → (changes (said P H t.caller t.command) && bytes_eq (payload_spelling (told (entry_told t) (said P H t.caller t.command))) payload) ≡ next
      → cond next (Some (H ++ entry_told t ∷ [])) None ≡ Some later → IsTaken P H payload later
  taken_from P H payload t later true is h =
      let r : PlainReply = said P H t.caller t.command in
      let parts = and_parts (changes r) (bytes_eq (payload_spelling (told (entry_told t) r)) payload) is in
      record {
        entry = entry_told t;
        grown = ap (λ o. unwrap_or o later) (sym h);
        spelled = sym ((bytes_eq-Decides (payload_spelling (told (entry_told t) r)) payload).0 parts.1);
        changing = parts.0;
      }
  taken_from P H payload t later false is h = absurd (nothing h)

  taken_read : (P : PlainPolicy) (H : History) (payload : Bytes) (later : History) (r : Result Told ℕ) → payload_read reads payload ≡ r → length payload ≤ most_payload
      → taken reads P H payload ≡ Some later → IsTaken P H payload later
  taken_read P H payload later (Ok t) read short h = taken_from P H payload t later _ refl (sym (taken_as_spelled P H payload t short read) ∙ h)
  taken_read P H payload later (Err place) read short h = absurd (nothing (sym (untaken reads P H payload place read) ∙ h))

  taken_by_length : (P : PlainPolicy) (H : History) (payload : Bytes) (later : History) (long : Bool) → nat_lt most_payload (length payload) ≡ long
      → taken reads P H payload ≡ Some later → IsTaken P H payload later
  taken_by_length P H payload later true is h = absurd (nothing (sym (untaken_long reads P H payload (ltb-true most_payload (length payload) is)) ∙ h))
  taken_by_length P H payload later false is h = taken_read P H payload later (payload_read reads payload) refl (ltb-false most_payload (length payload) is) h

  is_taken : (P : PlainPolicy) (H : History) (payload : Bytes) (later : History) → taken reads P H payload ≡ Some later → IsTaken P H payload later
  is_taken P H payload later h = taken_by_length P H payload later (nat_lt most_payload (length payload)) refl h

  -- the parts of what is found
  abbrev text_in : Bytes → Finding → Bytes
  text_in other (holds text P H gate) = text
  text_in other found = other

  abbrev policy_in : PlainPolicy → Finding → PlainPolicy
  policy_in other (holds text P H gate) = P
  policy_in other found = other

  abbrev history_in : Finding → History
  history_in (holds text P H gate) = H
  history_in found = []

  abbrev gate_in : Finding → ℕ
  gate_in (holds text P H gate) = gate
  gate_in found = 0

  abbrev is_held : Finding → Bool
  is_held (holds text P H gate) = true
  is_held found = false

  -- payloads behind some entries, in which this is found
  record IsFoundBehind (text : Bytes) (P : PlainPolicy) (front : History) (gate : ℕ) (payloads : List Bytes) (found_text : Bytes) (Q : PlainPolicy) (H : History) (end : ℕ) : Type 0 where
    rest : History
    same_text : text ≡ found_text
    same_policy : P ≡ Q
    whole : H ≡ front ++ rest
    written : payloads ≡ payloads_behind P front rest
    place : end ≡ gate_behind gate payloads
    proper : IsProperFrom P front rest

  behind_taken : (text : Bytes) (P : PlainPolicy) (front : History) (number gate : ℕ) (payload : Bytes) (payloads : List Bytes) (found_text : Bytes) (Q : PlainPolicy) (H : History) (end : ℕ)
      → ((later : History) → found_behind (only_steps reads) text P later (number + 1) (next_gate gate payload) payloads ≡ holds found_text Q H end → IsFoundBehind text P later (next_gate gate payload) payloads found_text Q H end)
      → (o : Option History) → taken reads P front payload ≡ o
      → unwrap_or (option_map (λ later. found_behind (only_steps reads) text P later (number + 1) (next_gate gate payload) payloads) o) (damaged number gate) ≡ holds found_text Q H end
      → IsFoundBehind text P front gate (payload ∷ payloads) found_text Q H end
  behind_taken text P front number gate payload payloads found_text Q H end next None is h = absurd (false≢true (ap is_held h))
  behind_taken text P front number gate payload payloads found_text Q H end next (Some later) is h =
      let step = is_taken P front payload later is in
      let more = next later h in
      let e : Entry = step.entry in
      record {
        rest = e ∷ more.rest;
        same_text = more.same_text;
        same_policy = more.same_policy;
        whole = more.whole ∙ ap (λ (l : History). l ++ more.rest) step.grown ∙ append_assoc front (e ∷ []) more.rest;
        written = ap (λ (ps : List Bytes). payload ∷ ps) (more.written ∙ ap (λ (l : History). payloads_behind P l more.rest) step.grown)
            ∙ ap (λ (p : Bytes). p ∷ payloads_behind P (front ++ e ∷ []) more.rest) step.spelled;
        place = more.place;
        proper = (step.changing, (let Proper : History → Type 0 = λ l. IsProperFrom P l more.rest in subst Proper step.grown more.proper));
      }

  behind_found : (text : Bytes) (P : PlainPolicy) (payloads : List Bytes) (front : History) (number gate : ℕ) (found_text : Bytes) (Q : PlainPolicy) (H : History) (end : ℕ)
      → found_behind (only_steps reads) text P front number gate payloads ≡ holds found_text Q H end → IsFoundBehind text P front gate payloads found_text Q H end
  behind_found text P [] front number gate found_text Q H end h = record {
    rest = [];
    same_text = ap (text_in text) h;
    same_policy = ap (policy_in P) h;
    whole = sym (ap history_in h) ∙ sym (append-nil front);
    written = refl;
    place = sym (ap gate_in h);
    proper = tt;
  }
  behind_found text P (payload ∷ payloads) front number gate found_text Q H end h =
      behind_taken text P front number gate payload payloads found_text Q H end
      (λ later. behind_found text P payloads later (number + 1) (next_gate gate payload) found_text Q H end) (taken reads P front payload) refl h

  read_from : (text : Bytes) (P : PlainPolicy) (long : Bool) → cond long None (reads text) ≡ Some P → reads text ≡ Some P
  read_from text P true h = absurd (nothing h)
  read_from text P false h = h

  -- all that is known where a history is found
  abbrev IsJournalOf : List Bytes → Bytes → PlainPolicy → History → ℕ → Type 0
  IsJournalOf payloads text P H gate = (payloads ≡ payloads_of text P H) × (gate ≡ gate_behind first_gate payloads) × (reads text ≡ Some P) × IsProper P H

  from_first : (first : Bytes) (payloads : List Bytes) (text : Bytes) (P : PlainPolicy) (H : History) (gate : ℕ)
      → (o : Option PlainPolicy) → policy_taken reads first ≡ o
      → unwrap_or (option_map (λ Q. found_behind (only_steps reads) first Q [] 1 (next_gate first_gate first) payloads) o) (damaged 0 first_gate) ≡ holds text P H gate
      → IsJournalOf (first ∷ payloads) text P H gate
  from_first first payloads text P H gate None is h = absurd (false≢true (ap is_held h))
  from_first first payloads text P H gate (Some Q) is h =
      let found = behind_found first Q payloads [] 1 (next_gate first_gate first) text P H gate h in
      let Found : Bytes × PlainPolicy × History → Type 0 = λ x. IsJournalOf (first ∷ payloads) x.0 x.1 x.2 gate in
      let same : (first, Q, found.rest) ≡ (text, P, H) =
      ap (λ (x : Bytes). (x, Q, found.rest)) found.same_text ∙ ap (λ (x : PlainPolicy). (text, x, found.rest)) found.same_policy ∙ ap (λ (x : History). (text, P, x)) (sym found.whole) in
      subst Found same (
        ap (λ (ps : List Bytes). first ∷ ps) found.written,
        found.place,
        read_from first Q (nat_lt most_payload (length first)) is,
        found.proper,
      )

  pub found_history : (payloads : List Bytes) (text : Bytes) (P : PlainPolicy) (H : History) (gate : ℕ)
      → found_in reads (only_steps reads) payloads ≡ holds text P H gate → IsJournalOf payloads text P H gate
  found_history [] text P H gate h = absurd (false≢true (ap is_held h))
  found_history (first ∷ payloads) text P H gate h = from_first first payloads text P H gate (policy_taken reads first) refl h
