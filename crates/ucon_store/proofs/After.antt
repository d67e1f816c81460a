-- What a payload tells behind a trace, by the text that the reply there has.
use Rattle.std.proofs.Common.{◌≡◌, ◌∙◌, ℕ, ◌<◌, ◌≤◌, Bool, true, false, cond, [], ◌∷◌, ◌++◌, length, drop, append_assoc, Option, Some, None, Ok, Err, refl, sym, ap}
use Rattle.std.specs.Prelude.{◌&&◌, nat_lt, option_and_then}
use Rattle.std.specs.Fmt.{decimal}
use Rattle.std.specs.Result.{result_ok}
use Rattle.std.specs.Str.{bytes_eq}
use Rattle.std.proofs.Math.Seq.{drop-append_seam}
use Rattle.std.proofs.lemmas.Bool.{le-ltb, lt-ltb, false≢true}
use Rattle.std.proofs.lemmas.Slice.Eq.{bytes_eq-Decides}
use Rattle.ucon_model.specs.declared.command.Entry.{Entry}
use Rattle.ucon_model.specs.Action.{Trace}
use Rattle.ucon_model.specs.Block.{reply}
use Rattle.ucon_model.specs.CommandLine.{command_spelling}
use Rattle.ucon_model.specs.History.{History, changes, trace_from}
use Rattle.ucon_model.specs.Payload.{Told, entry_told, most_payload, payload_read, payload_spelling, told}
use Rattle.ucon_model.specs.Plain.{Bytes, PlainPolicy, PlainReply}
use Rattle.ucon_model.specs.ReplyText.{tells_change}
use Rattle.ucon_model.specs.Spelling.{reply_spelling}
use Rattle.ucon_syntax.specs.Policies.{accepted}
use Rattle.ucon_store.specs.Opened.{steps_after, with_next, steps_by}

-- the test by which a payload is taken
abbrev pub tested : {A : Type 0} → A → Bool → Bool → Option A
tested x changes same = cond (changes && same) (Some x) None

-- what stands before a step's reply
abbrev front_of : Entry → Bytes
front_of e = decimal e.caller.0 ++ 32 ∷ (command_spelling e.command ++ 10 ∷ [])

front_told : (e : Entry) (r : PlainReply) → payload_spelling (told e r) ≡ front_of e ++ reply_spelling r
front_told e r =
    ap (λ (bs : Bytes). decimal e.caller.0 ++ 32 ∷ bs) (sym (append_assoc (command_spelling e.command) (10 ∷ []) (reply_spelling r)))
    ∙ sym (append_assoc (decimal e.caller.0) (32 ∷ (command_spelling e.command ++ 10 ∷ [])) (reply_spelling r))

-- with one entry, payloads are equal only where the replies' texts are
same_reply : (e : Entry) (r s : PlainReply) → payload_spelling (told e r) ≡ payload_spelling (told e s) → reply_spelling r ≡ reply_spelling s
same_reply e r s h =
    sym (drop-append_seam (front_of e) (reply_spelling r)) ∙ ap (drop (length (front_of e))) (sym (front_told e r) ∙ h ∙ front_told e s)
    ∙ drop-append_seam (front_of e) (reply_spelling s)

and_false : (b : Bool) → (b && false) ≡ false
and_false true = refl
and_false false = refl

either_none : (b : Bool) → cond {A = Option History} b None None ≡ None
either_none true = refl
either_none false = refl

module _ (T : Trace) (text : Bytes) (P : PlainPolicy) (H : History) (payload : Bytes) where
  -- what isn't read as a step isn't taken
  pub unread_after : (place : ℕ) → payload_read accepted payload ≡ Err place → steps_after T text P H payload ≡ None
  unfolding steps_by
  unread_after place read =
      ap (λ r. cond (nat_lt most_payload (length payload)) None (option_and_then (with_next T P H) (result_ok r))) read ∙ either_none (nat_lt most_payload (length payload))

  -- nor what is too long
  pub long_after : most_payload < length payload → steps_after T text P H payload ≡ None
  unfolding steps_by
  long_after long = ap (λ b. cond b None (option_and_then (with_next T P H) (result_ok (payload_read accepted payload)))) (lt-ltb most_payload (length payload) long)

  module _ (tells : (r : PlainReply) → tells_change (reply_spelling r) ≡ changes r)
      (back : (bytes : Bytes) (t : Told) → payload_read accepted bytes ≡ Ok t → (payload_spelling t ≡ bytes) × (t.caller.0 < 64)) where
    same_changes : (r s : PlainReply) → reply_spelling r ≡ reply_spelling s → changes r ≡ changes s
    same_changes r s h = sym (tells r) ∙ ap tells_change h ∙ tells s

    tests_from : (e : Entry) (r s : PlainReply) (texts payloads : Bool) → bytes_eq (reply_spelling r) (reply_spelling s) ≡ texts
        → bytes_eq (payload_spelling (told e s)) (payload_spelling (told e r)) ≡ payloads → (changes r && texts) ≡ (changes s && payloads)
    tests_from e r s true payloads t p =
        let same : reply_spelling r ≡ reply_spelling s = (bytes_eq-Decides (reply_spelling r) (reply_spelling s)).0 t in
        let whole : payload_spelling (told e s) ≡ payload_spelling (told e r) = front_told e s ∙ ap (λ (bs : Bytes). front_of e ++ bs) (sym same) ∙ sym (front_told e r) in
        let is : payloads ≡ true = sym p ∙ (bytes_eq-Decides (payload_spelling (told e s)) (payload_spelling (told e r))).1 whole in
        ap (λ b. b && true) (same_changes r s same) ∙ ap (λ b. changes s && b) (sym is)
    tests_from e r s false true t p =
        let same = same_reply e s r ((bytes_eq-Decides (payload_spelling (told e s)) (payload_spelling (told e r))).0 p) in
        absurd (false≢true (sym t ∙ (bytes_eq-Decides (reply_spelling r) (reply_spelling s)).1 (sym same)))
    tests_from e r s false false t p = and_false (changes r) ∙ sym (and_false (changes s))

    -- a payload that is read as a step is taken where it is the one that the reply there spells, which changes something
    pub taken_after : (t : Told) → length payload ≤ most_payload → payload_read accepted payload ≡ Ok t
        → let r = reply P (trace_from P T H) t.caller t.command in
        steps_after T text P H payload ≡ tested (H ++ entry_told t ∷ []) (changes r) (bytes_eq (payload_spelling (told (entry_told t) r)) payload)
    unfolding steps_by
    taken_after t short read =
        let r = reply P (trace_from P T H) t.caller t.command in
        let fits : nat_lt most_payload (length payload) ≡ false = le-ltb most_payload (length payload) short in
        let agree : (changes t.reply && bytes_eq (reply_spelling t.reply) (reply_spelling r)) ≡ (changes r && bytes_eq (payload_spelling (told (entry_told t) r)) payload) =
        tests_from (entry_told t) t.reply r _ _ refl refl ∙ ap (λ (bs : Bytes). changes r && bytes_eq (payload_spelling (told (entry_told t) r)) bs) (back payload t read).0 in
        ap (λ b. cond b None (option_and_then (with_next T P H) (result_ok (payload_read accepted payload)))) fits
        ∙ ap (λ o. option_and_then (with_next T P H) (result_ok o)) read ∙ ap (λ b. cond b (Some (H ++ entry_told t ∷ [])) None) agree
