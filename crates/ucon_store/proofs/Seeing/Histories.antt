-- Histories that are found: what their entries are, and which policy is in force behind them.
use Rattle.std.proofs.Common.{◌≡◌, ◌∙◌, ℕ, ◌<◌, ◌≤◌, Bool, true, false, cond, [], ◌∷◌, ◌++◌, length, Some, None, Ok, Err, is_some, refl, sym, ap, subst, append_assoc, arith}
use Rattle.std.specs.Prelude.{Result, ◌↔◌, ◌&&◌, nat_lt, option_and_then, option_map, unwrap_or}
use Rattle.std.specs.Result.{result_ok}
use Rattle.std.specs.Str.{bytes_eq}
use Rattle.std.proofs.lemmas.Bool.{false≢true}
use Rattle.std.proofs.lemmas.Bool.Decides.{nat_tests}
use Rattle.ucon_base.specs.Elements.{each_append}
use Rattle.ucon_model.specs.declared.command.Caller.{Caller}
use Rattle.ucon_model.specs.declared.command.Command.{Command}
use Rattle.ucon_model.specs.declared.command.Command.TheVariants.{Amend}
use Rattle.ucon_model.specs.declared.command.Entry.{Entry}
use Rattle.ucon_model.specs.Action.{Trace}
use Rattle.ucon_model.specs.Block.{after, reply}
use Rattle.ucon_model.specs.CommandLine.{IsCommand}
use Rattle.ucon_model.specs.Found.{taken, with_step, is_next_step}
use Rattle.ucon_model.specs.History.{History, changes, said, trace}
use Rattle.ucon_model.specs.Payload.{Told, entry_told, most_payload, payload_read, payload_spelling}
use Rattle.ucon_model.specs.Plain.{Bytes, PlainPolicy}
use Rattle.ucon_model.specs.Readings.{in_force}
use Rattle.ucon_model.specs.Spelling.{reply_spelling}
use Rattle.ucon_model.specs.Spells.{Spells}
use Rattle.ucon_model.specs.Typing.{IsTyped}
use Rattle.ucon_command.specs.Payloads.{AreOfClients}
use Rattle.ucon_syntax.specs.Policies.{accepted}
use Rattle.ucon_store.specs.Opened.{is_next_after, steps_after, with_next, steps_by}
use Rattle.ucon_store.specs.Points.{text_behind, text_in_force}
use Rattle.ucon_store.proofs.Stepping.{text_longer, trace_append}
use Rattle.ucon_store.proofs.After.{tested}
use Rattle.ucon_store.proofs.Taking.{TakenAsSpelled}
use Rattle.ucon_store.proofs.Seeing.InForce.{amended_after, left_after}
use Rattle.ucon_store.proofs.Spelled.ReadCommands.{payload_gives}

pub nothing : {A : Type 0} {v : A} → None ≡ Some v → ⊥
nothing h = false≢true (ap is_some h)

pub same_some : {A : Type 0} (x y : A) → Some x ≡ Some y → x ≡ y
same_some x y h = ap (λ o. unwrap_or o x) h

-- ---- one entry more

-- the laws on payloads and texts that are built on
pub record PayloadLaws : Type 0 where
  pub accepts : (text : Bytes) (p : PlainPolicy) → (accepted text ≡ Some p) ↔ (Spells text p × IsTyped p)
  pub read : (bytes : Bytes) (t : Told) → payload_read accepted bytes ≡ Ok t → (payload_spelling t ≡ bytes) × (t.caller.0 < 64)
  pub taken_as : TakenAsSpelled
  pub unread : (P : PlainPolicy) (H : History) (payload : Bytes) (place : ℕ) → payload_read accepted payload ≡ Err place → taken accepted P H payload ≡ None
  pub long : (P : PlainPolicy) (H : History) (payload : Bytes) → most_payload < length payload → taken accepted P H payload ≡ None

-- the entries are of commands and clients, and the text of the policy in force is accepted as it
pub record IsGood (text : Bytes) (P : PlainPolicy) (H : History) : Type 0 where
  pub accepts : accepted (text_in_force text H) ≡ Some (in_force P (trace P H))
  pub clients : AreOfClients H

-- a payload tells a step of these entries, with which there are those
pub record Tells (P : PlainPolicy) (H : History) (payload : Bytes) (later : History) : Type 0 where
  pub step : Told
  pub read : payload_read accepted payload ≡ Ok step
  pub made : changes (said P H step.caller step.command) ≡ true
  pub is : later ≡ H ++ entry_told step ∷ []

tested_parts : (x later : History) (b c : Bool) → tested x b c ≡ Some later → (b ≡ true) × (later ≡ x)
tested_parts x later true true h = (refl, sym (same_some x later h))
tested_parts x later true false h = absurd (nothing h)
tested_parts x later false c h = absurd (nothing h)

above_if : (m n : ℕ) → nat_lt m n ≡ true → m < n
above_if m n h = grind (arith, nat_tests)

within_if : (m n : ℕ) → nat_lt m n ≡ false → n ≤ m
within_if m n h = grind (arith, nat_tests)

module _ (laws : PayloadLaws) where
  pub told_step : (P : PlainPolicy) (H later : History) (payload : Bytes) → taken accepted P H payload ≡ Some later → Tells P H payload later
  told_step P H later payload h = by (payload_read accepted payload) refl (nat_lt most_payload (length payload)) refl
    where
      by : (r : Result Told ℕ) → payload_read accepted payload ≡ r → (b : Bool) → nat_lt most_payload (length payload) ≡ b → Tells P H payload later
      by (Err place) read b is = absurd (nothing (sym (laws.unread P H payload place read) ∙ h))
      by (Ok t) read true is = absurd (nothing (sym (laws.long P H payload (above_if most_payload (length payload) is)) ∙ h))
      by (Ok t) read false is =
          let spelled = laws.taken_as P H payload t (within_if most_payload (length payload) is) read in
          let parts = tested_parts (H ++ entry_told t ∷ []) later (changes (said P H t.caller t.command)) _ (sym spelled ∙ h) in
          record { step = t; read = read; made = parts.0; is = parts.1 }

  behind_command : (text : Bytes) (P : PlainPolicy) (T : Trace) (caller : Caller) (c : Command) → IsCommand c → changes (reply P T caller c) ≡ true
      → accepted text ≡ Some (in_force P T) → accepted (text_behind text c) ≡ Some (in_force P (after P T caller c))
  behind_command text P T caller (Amend a) is made h =
      (laws.accepts a.text a.policy).1 (is.spells, is.typed) ∙ ap (λ (Q : PlainPolicy). Some Q) (sym (amended_after P T caller a made))
  behind_command text P T caller c is made h = h ∙ ap (λ (Q : PlainPolicy). Some Q) (sym (left_after P T caller c (λ a e. absurd (cc e))))

  pub more_good : (text : Bytes) (P : PlainPolicy) (H later : History) (payload : Bytes) → IsGood text P H → taken accepted P H payload ≡ Some later → IsGood text P later
  more_good text P H later payload good h =
      let tells = told_step P H later payload h in
      let t : Told = tells.step in
      let command = payload_gives accepted (λ x Q accepts. (laws.accepts x Q).0 accepts) payload t tells.read in
      let behind = behind_command (text_in_force text H) P (trace P H) t.caller t.command command tells.made good.accepts in
      let here : accepted (text_in_force text (H ++ entry_told t ∷ [])) ≡ Some (in_force P (trace P (H ++ entry_told t ∷ []))) =
      ap accepted (text_longer text H (entry_told t)) ∙ behind ∙ ap (λ (T : Trace). Some (in_force P T)) (sym (trace_append P [] H (entry_told t ∷ []))) in
      subst (IsGood text P) (sym tells.is) (record {
        accepts = here;
        clients = each_append (λ e. (e.caller.0 < 64) × IsCommand e.command) H (entry_told t ∷ []) good.clients (((laws.read payload t tells.read).1, command), tt);
      })

-- ---- the same step behind a part of the entries

module _ (text : Bytes) (P : PlainPolicy) (G H : History) where
  next_same : (t : Told) → is_next_step P (G ++ H) t ≡ is_next_after (trace P G) P H t
  next_same t =
      ap (λ (T : Trace). changes t.reply && bytes_eq (reply_spelling t.reply) (reply_spelling (reply P T t.caller t.command))) (trace_append P [] G H)

  grown_by : (e : Entry) (b : Bool) → cond b (Some ((G ++ H) ++ e ∷ [])) None ≡ option_map (λ (l : History). G ++ l) (cond b (Some (H ++ e ∷ [])) None)
  grown_by e true = ap (λ (l : History). Some l) (append_assoc G H (e ∷ []))
  grown_by e false = refl

  read_same : (r : Result Told ℕ) → option_and_then (with_step P (G ++ H)) (result_ok r) ≡ option_map (λ (l : History). G ++ l) (option_and_then (with_next (trace P G) P H) (result_ok r))
  read_same (Err place) = refl
  read_same (Ok t) =
      ap (λ (b : Bool). cond b (Some ((G ++ H) ++ entry_told t ∷ [])) None) (next_same t) ∙ grown_by (entry_told t) (is_next_after (trace P G) P H t)

  fits_same : (b : Bool) (r : Result Told ℕ) → cond b None (option_and_then (with_step P (G ++ H)) (result_ok r))
      ≡ option_map (λ (l : History). G ++ l) (cond b None (option_and_then (with_next (trace P G) P H) (result_ok r)))
  fits_same true r = refl
  fits_same false r = read_same r

  pub step_same : (payload : Bytes) → taken accepted P (G ++ H) payload ≡ option_map (λ (l : History). G ++ l) (steps_after (trace P G) text P H payload)
  unfolding taken steps_by
  step_same payload = fits_same (nat_lt most_payload (length payload)) (payload_read accepted payload)
