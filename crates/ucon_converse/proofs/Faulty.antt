-- Lines that aren't taken.
use Rattle.std.proofs.Common.{◌≡◌, true, false, Result, Ok, Err, ℕ, List, ◌∷◌, ◌++◌, refl, sym, ap, subst, ◌∙◌, inl, inr}
use Rattle.std.proofs.lemmas.List.{append_cancel_left}
use Rattle.std.specs.Prelude.{Bool, IsFalse, IsOk, Option, Some, None, is_some, codes}
use Rattle.std.specs.Fmt.{decimal}
use Rattle.ucon_command.specs.declared.line_fault.LineFault.{LineFault}
use Rattle.ucon_command.specs.declared.line_fault.LineFault.TheVariants as lines
use Rattle.ucon_command.specs.declared.request.RequestFault.{RequestFault}
use Rattle.ucon_command.specs.declared.request.RequestFault.TheVariants.{BadClient, BadCommand}
use Rattle.ucon_command.specs.Faults.{amends}
use Rattle.ucon_command.specs.Requests.{IsAskedBy, IsOfClient, IsRefusedTo}
use Rattle.ucon_model.specs.declared.command.Caller.{Caller}
use Rattle.ucon_model.specs.declared.command.Command.{Command}
use Rattle.ucon_model.specs.declared.command.Entry.{Entry}
use Rattle.ucon_model.specs.CommandLine.{LineRefusal, line_read, line_too_long, no_word, unknown_word, wrong_count, bad_word}
use Rattle.ucon_model.specs.History.{History}
use Rattle.ucon_model.specs.LegalRun.{Answered}
use Rattle.ucon_model.specs.Plain.{Bytes, PlainPolicy}
use Rattle.ucon_syntax.specs.Policies.{accepted}
use Rattle.ucon_converse.specs.Readings.{IsNoReading}
use Rattle.ucon_converse.specs.Replies.{GivesReplyBy, IsStep, Rests, Standing, client_line, refusal_line, unheard}
use Rattle.ucon_converse.specs.Requests.{refusal_words}
use Rattle.ucon_converse.specs.Said.{fault_line, line_told, unheard_so}

-- a client's text is one
pub one_text : (line : Bytes) (one other : Caller) (text more : Bytes) → one ≡ other → IsAskedBy line one text → IsAskedBy line other more → more ≡ text
one_text line one other text more same p q =
    let lines : decimal one.0 ++ 32 ∷ more ≡ decimal one.0 ++ 32 ∷ text = ap (λ (c : Caller). decimal c.0 ++ 32 ∷ more) same ∙ (sym q.line_is ∙ p.line_is) in
    let behind : 32 ∷ more ≡ 32 ∷ text = append_cancel_left (decimal one.0) (32 ∷ more) (32 ∷ text) lines in
    cc behind

pub said_otherwise : {A B : Type 0} (r : Result A B) (a : A) (b : B) → r ≡ Ok a → r ≡ Err b → ⊥
said_otherwise r a b ok err = let bad : Ok a ≡ Err b = sym ok ∙ err in cc bad

-- what is told where no memory was there, as it is done
pub unheard_is : (failed : Option History) (stopped : Bool) → is_some failed ≡ stopped → unheard_so stopped ≡ unheard failed
unheard_is None stopped is = ap unheard_so (sym is)
unheard_is (Some e) stopped is = ap unheard_so (sym is)

-- to be told so is a step that changes nothing
unheard_step : (P : PlainPolicy) (history : History) (failed : Option History) (points : List ℕ) (tried : ℕ) (e : Entry)
    → IsStep P (record { history = history; failed = failed; points = points; tried = tried })
    (record { history = history; failed = failed; points = points; tried = tried }) (record { line = e; answer = unheard failed })
unheard_step P history None points tried e = inl (refl, record { failed = None; mark = refl; leads = inl (tt, (refl, refl)); points = refl; tried = refl })
unheard_step P history (Some f) points tried e = inr (refl, refl, inl refl)

unheard_rests : (old : Type 0) (P : PlainPolicy) (text : Bytes) (failed : Option History) (s : Standing) → Rests old P text (unheard failed) s s
unheard_rests old P text None s = refl
unheard_rests old P text (Some f) s = refl

module _ (line : Bytes) (P : PlainPolicy) (policy : Bytes) (old : Type 0) (before : Standing) (stopped : Bool) (is : is_some before.failed ≡ stopped)
    (unread : IsNoReading line) (unpointed : line ≡ codes "point" → ⊥) where
  abbrev Gives : Bytes → Type 0
  Gives reply = GivesReplyBy accepted P policy old before before line reply

  -- its text is no command, for this reason
  refused_for : (whose : Caller) (text : Bytes) (refusal : LineRefusal) → IsAskedBy line whose text → line_read accepted text ≡ Err refusal
      → ((caller : Caller) (other : Bytes) → IsAskedBy line caller other → whose ≡ caller) → Gives (refusal_line (refusal_words refusal))
  refused_for whose text refusal by refused one = inr (inl (record {
    none = λ e q.
        let same : q.text ≡ text = one_text line whose e.caller text q.text (one e.caller q.text q.by) by q.by in
        said_otherwise (line_read accepted text) e.command refusal (sym (ap (line_read accepted) same) ∙ q.says) refused;
    unread = unread;
    unpointed = unpointed;
    words = refusal_words refusal;
    why = inr (record { caller = whose; text = text; by = by; refusal = refusal; refused = refused; words_are = refl });
    reply_is = refl;
    same = refl;
  }))

  -- there was no memory to judge it
  unjudged : (whose : Caller) (text : Bytes) → IsAskedBy line whose text → ((caller : Caller) (other : Bytes) → IsAskedBy line caller other → whose ≡ caller)
      → (IsFalse (amends text) → IsOk (line_read accepted text)) → Gives (client_line whose (unheard_so stopped))
  unjudged whose text by one sure = by_said (line_read accepted text) refl
    where
      told_is : client_line whose (unheard_so stopped) ≡ client_line whose (unheard before.failed)
      told_is = ap (client_line whose) (unheard_is before.failed stopped is)

      not_sure : (a : Bool) → amends text ≡ a → (refusal : LineRefusal) → line_read accepted text ≡ Err refusal → amends text ≡ true
      not_sure true e refusal refused = e
      not_sure false e refusal refused = absurd (let ok : IsOk (line_read accepted text) = sure e in let bad : false ≡ true = subst (λ (r : Result Command LineRefusal). IsOk r) refused ok in cc bad)

      by_said : (r : Result Command LineRefusal) → line_read accepted text ≡ r → Gives (client_line whose (unheard_so stopped))
      by_said (Ok command) says =
          let e : Entry = record { caller = whose; command = command } in
          let told : Answered = record { line = e; answer = unheard before.failed } in
          inl (record {
            told = told;
            request = record { text = text; by = by; says = says };
            steps = record {
              between = before;
              step = unheard_step P before.history before.failed before.points before.tried e;
              rests = unheard_rests old P policy before.failed before;
            };
            reply_is = told_is;
          })
      by_said (Err refusal) refused = inr (inr (inl (record {
        none = λ e q.
            let same : q.text ≡ text = one_text line whose e.caller text q.text (one e.caller q.text q.by) by q.by in
            said_otherwise (line_read accepted text) e.command refusal (sym (ap (line_read accepted) same) ∙ q.says) refused;
        caller = whose;
        text = text;
        by = by;
        amending = not_sure (amends text) refl refusal refused;
        reply_is = told_is;
        same = refl;
      })))

  by_fault : (whose : Caller) (text : Bytes) (fault : LineFault) → IsAskedBy line whose text → ((caller : Caller) (other : Bytes) → IsAskedBy line caller other → whose ≡ caller)
      → IsRefusedTo whose text (BadCommand whose fault) → Gives (line_told stopped whose fault)
  by_fault whose text (lines.TooLong n) by one to = refused_for whose text (line_too_long n) by to.1 one
  by_fault whose text lines.NoWord by one to = refused_for whose text no_word by to.1 one
  by_fault whose text lines.UnknownWord by one to = refused_for whose text unknown_word by to.1 one
  by_fault whose text (lines.WrongCount n) by one to = refused_for whose text (wrong_count n) by to.1 one
  by_fault whose text (lines.BadWord place) by one to = refused_for whose text (bad_word place) by to.1 one
  by_fault whose text (lines.NoMemory e) by one to = unjudged whose text by one to.2

  -- a line that isn't taken is told why
  pub fault_told : (fault : RequestFault) → IsOfClient line fault → ((caller : Caller) (text : Bytes) → IsAskedBy line caller text → IsRefusedTo caller text fault)
      → Gives (fault_line fault stopped)
  fault_told BadClient of to = inr (inl (record {
    none = λ e q. to e.caller q.text q.by;
    unread = unread;
    unpointed = unpointed;
    words = codes "bad client";
    why = inl (record { nobody = to; words_are = refl });
    reply_is = refl;
    same = refl;
  }))
  fault_told (BadCommand whose fault) of to = by_fault whose of.0 fault of.1 (λ caller other by. (to caller other by).0) (to whose of.0 of.1)
