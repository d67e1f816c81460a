-- Answers in an old journal.
use Rattle.std.proofs.Common.{◌≡◌, inl, inr, true, false, ℕ, List, [], ◌∷◌, ◌++◌, refl, sym, ◌∙◌}
use Rattle.std.specs.Prelude.{Option, Some, None, IsSome, Result, Ok, Err, ⊤}
use Rattle.ucon_disk.specs.Seen.{DiskSeen}
use Rattle.ucon_model.specs.LegalRun.{Answer, no_memory, disk_fault, stopped, placed}
use Rattle.ucon_model.specs.Plain.{Bytes, PlainPolicy}
use Rattle.ucon_store.specs.declared.fault.PointFault.{PointFault}
use Rattle.ucon_store.specs.declared.fault.PointFault.TheVariants as faults
use Rattle.ucon_store.specs.Points.{PolicyReading, SameKind}
use Rattle.ucon_tell.specs.Seen.{VoiceSeen}
use Rattle.ucon_tell.specs.Talk.{ends_by}
use Rattle.ucon_tell.specs.Told.{Told}
use Rattle.ucon_converse.specs.Exchanges.{AnswersEach, Exchange, lines_in}
use Rattle.ucon_tell.specs.declared.talk_fault.TalkFault.{TalkFault}
use Rattle.ucon_tell.specs.declared.talk_fault.TalkFault.TheVariants as talks
use Rattle.ucon_converse.specs.Conversation.{HasConversedBy}
use Rattle.ucon_converse.specs.Keeping.{IsDated}
use Rattle.ucon_converse.specs.Replies.{AreGivenBy, GivesReplyBy, GoesOn, IsPointed, IsTooLong, Rests, Standing}

-- a journal that is an old one was one before
pub dated_before : (o p : Option Bytes) → (IsSome o → IsSome p) → SameKind o p → IsDated p → IsDated o
dated_before None p tells same dated = tt
dated_before (Some f) None tells same dated = absurd (let no : false ≡ true = tells refl in cc no)
dated_before (Some f) (Some g) tells same dated = sym same ∙ dated

module _ (reads : PolicyReading) (P : PlainPolicy) (text : Bytes) (A B : Type 0) (then : A → B) where
  pointed_as : (before after : Standing) (said : Result ℕ PointFault) → IsPointed A P text before after said → IsPointed B P text before after said
  pointed_as before after (Ok n) is = is
  pointed_as before after (Err faults.DiskFault) is = is
  pointed_as before after (Err faults.Stopped) is = is
  pointed_as before after (Err faults.OldJournal) is = (is.0, then is.1, is.2)
  pointed_as before after (Err (faults.TooLarge size)) is = is
  pointed_as before after (Err (faults.NoMemory e)) is = is

  pub goes_as : (before after : Standing) → GoesOn A P text before after → GoesOn B P text before after
  goes_as before after goes = record {
    due = λ due. let tried = goes.due due in (tried.0, pointed_as before after tried.0 tried.1);
    not_due = goes.not_due;
  }

  rests_as : (answer : Answer) (before after : Standing) → Rests A P text answer before after → Rests B P text answer before after
  rests_as (placed place reply) before after goes = goes_as before after goes
  rests_as no_memory before after is = is
  rests_as disk_fault before after is = is
  rests_as stopped before after is = is

  pub answered_as : (before after : Standing) (line reply : Bytes) → GivesReplyBy reads P text A before after line reply → GivesReplyBy reads P text B before after line reply
  answered_as before after line reply (inl a) = inl (record {
    told = a.told;
    request = a.request;
    steps = record { between = a.steps.between; step = a.steps.step; rests = rests_as a.told.answer a.steps.between after a.steps.rests };
    reply_is = a.reply_is;
  })
  answered_as before after line reply (inr (inl a)) = inr (inl a)
  answered_as before after line reply (inr (inr (inl a))) = inr (inr (inl a))
  answered_as before after line reply (inr (inr (inr (inl a)))) = inr (inr (inr (inl a)))
  answered_as before after line reply (inr (inr (inr (inr a)))) =
      inr (inr (inr (inr (record { asks = a.asks; said = a.said; pointed = pointed_as before after a.said a.pointed; reply_is = a.reply_is }))))

  pub given_as : (before after : Standing) (told : List Told) → AreGivenBy reads P text A before after told → AreGivenBy reads P text B before after told
  given_as before after [] is = is
  given_as before after (t ∷ told) is = (is.0, answered_as before is.0 t.line t.reply is.1, given_as is.0 after told is.2)

  pub each_as : (limit : ℕ) (first last : Standing) (xs : List (Exchange Standing)) → AnswersEach limit (GivesReplyBy reads P text A) IsTooLong first xs last
      → AnswersEach limit (GivesReplyBy reads P text B) IsTooLong first xs last
  each_as limit first last [] run = run
  each_as limit first last (x ∷ xs) run = (
    record {
      line = run.0.line;
      reply = run.0.reply;
      answer = λ lt. answered_as first x.after x.line x.reply (run.0.answer lt);
      refusal = run.0.refusal;
    },
    each_as limit x.after last xs run.1,
  )

  ends_as : (limit : ℕ) (comes : Bytes → Type 0) (r : Result (Unit {0}) TalkFault) (reached last : Standing)
      → ends_by limit (AreGivenBy reads P text A) comes r reached last → ends_by limit (AreGivenBy reads P text B) comes r reached last
  ends_as limit comes (Ok done) reached last e = e
  ends_as limit comes (Err talks.SourceFault) reached last e = e
  ends_as limit comes (Err talks.SinkFault) reached last e = e
  ends_as limit comes (Err talks.TooLong) reached last e = e
  ends_as limit comes (Err (talks.NoMemory m)) reached last (inl same) = inl same
  ends_as limit comes (Err (talks.NoMemory m)) reached last (inr u) =
      inr (record { told = u.told; each = u.each; came = u.came; answer = given_as reached last u.told u.answer })

  -- a conversation over a journal that is an old one only if this is so, where what is premised of the disk is met
  pub conversed_as : (limit : ℕ) (result : Result (Unit {0}) TalkFault) (opening last : Standing) (before now : VoiceSeen) (disk : DiskSeen) (tells : Type 0) (hears : Bytes → Type 0)
      → tells → HasConversedBy reads P text A limit result opening last before now disk tells hears
      → HasConversedBy reads P text B limit result opening last before now disk ⊤ hears
  conversed_as limit result opening last before now disk tells hears met h = record {
    exchanges = h.exchanges;
    heard = h.heard;
    reached = h.reached;
    answered = each_as limit opening h.reached h.exchanges h.answered;
    ends = ends_as limit (λ more. hears (lines_in h.exchanges ++ more)) result h.reached last h.ends;
    output = h.output;
    told = h.told;
    among = h.among;
    runs = h.runs;
    kept = λ nothing. h.kept met;
  }
