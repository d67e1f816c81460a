-- Whether a payload is right behind a history: the next step's, or the checkpoint there.
use Rattle.std.proofs.Common.{◌≡◌, ℕ, ◌+◌, ◌≤◌, Bool, true, false, [], ◌∷◌, ◌++◌, length, Some, None, Ok, Err, refl, sym, ap, ◌∙◌, subst, arith}
use Rattle.std.specs.Prelude.{◌&&◌, nat_lt, if◌then◌else◌, IfOk, MatchBool, Result}
use Rattle.std.specs.Str.{bytes_eq}
use Rattle.std.proofs.lemmas.List.{length_push}
use Rattle.std.proofs.lemmas.Slice.Eq.{bytes_eq-Decides}
use Rattle.ucon_model.specs.declared.command.Entry.{Entry}
use Rattle.ucon_model.specs.Action.{Trace}
use Rattle.ucon_model.specs.Block.{after}
use Rattle.ucon_model.specs.Found.{taken}
use Rattle.ucon_model.specs.History.{History, changes, said, trace, trace_from}
use Rattle.ucon_model.specs.Payload.{Told, entry_told, most_payload, payload_read, payload_spelling, told}
use Rattle.ucon_model.specs.Plain.{Bytes, PlainPolicy, PlainReply}
use Rattle.ucon_store.specs.Points.{checkpoint, is_point, point_taken, takes_with, text_behind, text_in_force}
use Rattle.ucon_syntax.specs.Policies.{accepted}
use Rattle.ucon_audit.specs.declared.keeping.Keeping.{Keeping}
use Rattle.ucon_audit.specs.Keeping.{Keeps}

-- ---- one entry more

trace_from-push : (P : PlainPolicy) (T : Trace) (H : History) (e : Entry) → trace_from P T (H ++ e ∷ []) ≡ after P (trace_from P T H) e.caller e.command
trace_from-push P T [] e = refl
trace_from-push P T (d ∷ H) e = trace_from-push P (after P T d.caller d.command) H e

text_in_force-push : (text : Bytes) (H : History) (e : Entry) → text_in_force text (H ++ e ∷ []) ≡ text_behind (text_in_force text H) e.command
text_in_force-push text [] e = refl
text_in_force-push text (d ∷ H) e = text_in_force-push (text_behind text d.command) H e

pub keeps_more : {E : Type 0} (follows : E → PlainPolicy → Trace → Type 0) (old new : Keeping E) (text : Bytes) (P : PlainPolicy) (H : History) (e : Entry)
    → Keeps follows old text P H → follows new.engine P (after P (trace P H) e.caller e.command) → new.entries ≡ old.entries + 1
    → new.in_force.items ≡ text_behind old.in_force.items e.command → Keeps follows new text P (H ++ e ∷ [])
keeps_more follows old new text P H e h stands count in_force = record {
  stands = subst (follows new.engine P) (sym (trace_from-push P [] H e)) stands;
  count = count ∙ (ap (λ n. n + 1) h.count ∙ sym (length_push H e));
  in_force = in_force ∙ (ap (λ (t : Bytes). text_behind t e.command) h.in_force ∙ sym (text_in_force-push text H e));
}

-- ---- the next step

-- what the law on payloads that are taken says
abbrev pub TakenAsSpelled : Type 0
TakenAsSpelled = (P : PlainPolicy) (H : History) (payload : Bytes) (t : Told) → length payload ≤ most_payload → payload_read accepted payload ≡ Ok t
    → let reply = said P H t.caller t.command in
    taken accepted P H payload ≡ (if changes reply && bytes_eq (payload_spelling (told (entry_told t) reply)) payload then Some (H ++ entry_told t ∷ []) else None)

abbrev pub UntakenUnread : Type 0
UntakenUnread = (P : PlainPolicy) (H : History) (payload : Bytes) (place : ℕ) → payload_read accepted payload ≡ Err place → taken accepted P H payload ≡ None

not_true : (b : Bool) → (b ≡ true → ⊥) → b ≡ false
not_true true isnt = absurd (isnt refl)
not_true false isnt = refl

and_false : (b : Bool) → (b && false) ≡ false
and_false true = refl
and_false false = refl

-- a payload that tells no step but one of this entry, and the reply r to the entry there
module _ (law : TakenAsSpelled) (unread : UntakenUnread) (P : PlainPolicy) (H : History) (payload : Bytes) (e : Entry) (r : PlainReply)
    (short : length payload ≤ most_payload) (tells : (t : Told) → payload_read accepted payload ≡ Ok t → e ≡ entry_told t)
    (is : r ≡ said P H e.caller e.command) where
  abbrev test : PlainReply → Bool
  test x = changes x && bytes_eq (payload_spelling (told e x)) payload

  by_reply : (t : Told) → payload_read accepted payload ≡ Ok t → taken accepted P H payload ≡ (if test r then Some (H ++ e ∷ []) else None)
  by_reply t read =
      let here = subst (λ (x : Entry). let s = said P H x.caller x.command in
      taken accepted P H payload ≡ (if changes s && bytes_eq (payload_spelling (told x s)) payload then Some (H ++ x ∷ []) else None))
      (sym (tells t read)) (law P H payload t short read) in
      subst (λ (s : PlainReply). taken accepted P H payload ≡ (if test s then Some (H ++ e ∷ []) else None)) (sym is) here

  by_read : (o : Result Told ℕ) → payload_read accepted payload ≡ o → test r ≡ false → taken accepted P H payload ≡ None
  by_read (Ok t) read isnt = by_reply t read ∙ ap (λ b. if b then Some (H ++ e ∷ []) else None) isnt
  by_read (Err place) read isnt = unread P H payload place read

  -- the reply changes nothing
  pub unchanged : changes r ≡ false → taken accepted P H payload ≡ None
  unchanged doesnt = by_read (payload_read accepted payload) refl (ap (λ b. b && bytes_eq (payload_spelling (told e r)) payload) doesnt)

  -- or it changes something: then by whether the payload is that of the entry with it
  pub told_so : changes r ≡ true → (same : Bool) → same ≡ bytes_eq (payload_spelling (told e r)) payload → (same ≡ true → payload_read accepted payload ≡ Ok (told e r))
      → taken accepted P H payload ≡ (if same then Some (H ++ e ∷ []) else None)
  told_so does same by_bytes read = by_same same by_bytes read
    where
      one_test : test r ≡ bytes_eq (payload_spelling (told e r)) payload
      one_test = ap (λ b. b && bytes_eq (payload_spelling (told e r)) payload) does

      by_same : (b : Bool) → b ≡ bytes_eq (payload_spelling (told e r)) payload → (b ≡ true → payload_read accepted payload ≡ Ok (told e r))
          → taken accepted P H payload ≡ (if b then Some (H ++ e ∷ []) else None)
      by_same true is reads = by_reply (told e r) (reads refl) ∙ ap (λ b. if b then Some (H ++ e ∷ []) else None) (one_test ∙ sym is)
      by_same false is reads = by_read (payload_read accepted payload) refl (one_test ∙ sym is)

-- what follows from two facts of what is given
pub both_ok : {A E : Type 0} (o : Result A E) (P Q R : A → Type 0) → ((x : A) → P x → Q x → R x) → IfOk o P → IfOk o Q → IfOk o R
both_ok (Ok x) P Q R f p q = f x p q
both_ok (Err e) P Q R f p q = tt

-- ---- a step or a checkpoint

both_true : (a b : Bool) → (a && b) ≡ true → (a ≡ true) × (b ≡ true)
both_true true true is = (refl, refl)
both_true true false is = absurd (cc is)
both_true false b is = absurd (cc is)

fits : (n : ℕ) → n ≤ 16777215 → nat_lt most_payload n ≡ false
fits n le = grind arith

point_taken_so : (text : Bytes) (P : PlainPolicy) (H : History) (payload : Bytes) → length payload ≤ 16777215
    → point_taken text P H payload ≡ (if bytes_eq payload (checkpoint text P H) then Some H else None)
unfolding point_taken
point_taken_so text P H payload short = rw (fits (length payload) short) refl

module _ (points : Bool) (text : Bytes) (P : PlainPolicy) (H : History) (payload : Bytes) where
  pub takes_point : (points && is_point payload) ≡ true → length payload ≤ 16777215
      → takes_with points text P H payload ≡ (if bytes_eq payload (checkpoint text P H) then Some H else None)
  takes_point is short =
      let both = both_true points (is_point payload) is in
      ap (λ b. takes_with b text P H payload) both.0
      ∙ (ap (λ b. if b then point_taken text P H payload else taken accepted P H payload) both.1 ∙ point_taken_so text P H payload short)

  -- the same by what the comparison answered
  pub pointed : (points && is_point payload) ≡ true → length payload ≤ 16777215 → (same : Bool) → same ≡ bytes_eq payload (checkpoint text P H)
      → MatchBool same (takes_with points text P H payload ≡ Some H) (takes_with points text P H payload ≡ None)
  pointed is short true by_bytes = takes_point is short ∙ ap (λ b. if b then Some H else None) (sym by_bytes)
  pointed is short false by_bytes = takes_point is short ∙ ap (λ b. if b then Some H else None) (sym by_bytes)

pub takes_step : (points : Bool) (text : Bytes) (P : PlainPolicy) (H : History) (payload : Bytes) → (points && is_point payload) ≡ false
    → takes_with points text P H payload ≡ taken accepted P H payload
takes_step true text P H payload isnt = ap (λ b. if b then point_taken text P H payload else taken accepted P H payload) isnt
takes_step false text P H payload isnt = refl

-- ---- what is kept behind either

module _ {E : Type 0} (follows : E → PlainPolicy → Trace → Type 0) (old : Keeping E) where
  -- behind a checkpoint what was kept
  pub checkpoint_kept : {F : Type 0} (points : Bool) (payload : Bytes) → (points && is_point payload) ≡ true → length payload ≤ 16777215 → (r : Result Bool F)
      → IfOk r (λ same. (text : Bytes) (P : PlainPolicy) (H : History) → Keeps follows old text P H → same ≡ bytes_eq payload (checkpoint text P H))
      → IfOk r (λ right. (text : Bytes) (P : PlainPolicy) (H : History) → Keeps follows old text P H
      → MatchBool right ((G : History) × (takes_with points text P H payload ≡ Some G) × (length G ≤ length H + 1) × Keeps follows old text P G)
      (takes_with points text P H payload ≡ None))
  checkpoint_kept points payload is short (Err e) h = tt
  checkpoint_kept points payload is short (Ok true) h = λ text P H keeps.
      (H, pointed points text P H payload is short true (h text P H keeps), omega arith, keeps)
  checkpoint_kept points payload is short (Ok false) h = λ text P H keeps. pointed points text P H payload is short false (h text P H keeps)

  -- behind a step one entry more
  pub step_kept : {F : Type 0} (new : Keeping E) (points : Bool) (payload : Bytes) → (points && is_point payload) ≡ false → (r : Result Bool F)
      → IfOk r (λ right. (text : Bytes) (P : PlainPolicy) (H : History) → Keeps follows old text P H
      → MatchBool right ((e : Entry) × (taken accepted P H payload ≡ Some (H ++ e ∷ [])) × Keeps follows new text P (H ++ e ∷ []))
      (taken accepted P H payload ≡ None))
      → IfOk r (λ right. (text : Bytes) (P : PlainPolicy) (H : History) → Keeps follows old text P H
      → MatchBool right ((G : History) × (takes_with points text P H payload ≡ Some G) × (length G ≤ length H + 1) × Keeps follows new text P G)
      (takes_with points text P H payload ≡ None))
  step_kept new points payload isnt (Err e) h = tt
  step_kept new points payload isnt (Ok true) h = λ text P H keeps.
      let more = h text P H keeps in
      let longer = length_push H more.0 in
      (H ++ more.0 ∷ [], takes_step points text P H payload isnt ∙ more.1, omega (arith, longer), more.2)
  step_kept new points payload isnt (Ok false) h = λ text P H keeps. takes_step points text P H payload isnt ∙ h text P H keeps
