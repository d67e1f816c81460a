-- From a keeper that talked to answers behind a trace that leads to where its store begins.
use Rattle.std.proofs.Common.{◌≡◌, ◌⊎◌, inl, inr, ℕ, ◌+◌, ◌≤◌, arith, List, [], ◌∷◌, ◌++◌, length, refl, sym, ap, subst, ◌∙◌}
use Rattle.std.proofs.lemmas.List.{append-nil}
use Rattle.std.specs.Prelude.{Option, Some, IfSome, Result, Ok, Err}
use Rattle.ucon_disk.specs.Seen.{DiskSeen}
use Rattle.ucon_flow.specs.Writing.{AppendsPrefix}
use Rattle.ucon_model.specs.Action.{Trace}
use Rattle.ucon_model.specs.History.{trace_from}
use Rattle.ucon_model.specs.Plain.{Bytes, PlainPolicy}
use Rattle.ucon_store.specs.Kept.{Kept}
use Rattle.ucon_store.specs.Opened.{Sees, holds}
use Rattle.ucon_store.specs.Opening.{IsSeenAs}
use Rattle.ucon_store.specs.Starts.{IsStart}
use Rattle.ucon_state.specs.Held.{held_after}
use Rattle.ucon_store.specs.Stays.{Stays}
use Rattle.ucon_syntax.specs.Policies.{accepted}
use Rattle.ucon_tell.specs.Seen.{VoiceSeen}
use Rattle.ucon_tell.specs.Talk.{AreAnswered, AreRounds, HasTalked, IsRefused, Round, told_in}
use Rattle.ucon_tell.specs.Told.{lines_of, replies_of}
use Rattle.ucon_converse.specs.Exchanges.{lines_in}
use Rattle.ucon_tell.specs.declared.talk_fault.TalkFault.{TalkFault}
use Rattle.ucon_tell.specs.declared.talk_fault.TalkFault.TheVariants as faults
use Rattle.ucon_converse.specs.Answering.{Answering}
use Rattle.ucon_converse.specs.Conversation.{goes_out}
use Rattle.ucon_converse.specs.Greeting.{HasGreeted}
use Rattle.ucon_converse.specs.Keeping.{GivesReplies, Keeps, Refuses, kept_seen, moment_of}
use Rattle.ucon_converse.specs.Reached.{AreGivenAtBy, GivesReplyAtBy, HasAnsweredBy, IsSeenAtBy, Reached, reached_by}
use Rattle.ucon_converse.specs.Replies.{ready_line}
use Rattle.ucon_converse.proofs.Conversing.{keeps_along, keeps_one, went_out}
use Rattle.ucon_converse.proofs.Rounds.{AllAlong, Along, given_along, no_rounds, one_more, refused_along}
use Rattle.ucon_converse.proofs.Untold.{ends_onto}

-- a trace that leads to where a store begins leads to where it begins later
start_later : {D : Type 0} (seen : D → DiskSeen) (P : PlainPolicy) (T : Trace) (x y : Kept D) → Stays seen x y → IsStart P x.point x.before T → IsStart P y.point y.before T
start_later seen P T x y stays starts = subst (λ (z : Option Bytes × ℕ). IsStart P z.0 z.1 T) (λ i. (sym stays.point i, sym stays.before i)) starts

module _ {D : Type 0} (P : PlainPolicy) (T : Trace) where
  abbrev at : Answering D → Reached
  at a = reached_by P T a.store

  -- opening saw in a file what the store has that it made
  pub seen_at : (text : Bytes) (s : Kept D) (file : Bytes) → s.policy ≡ text → IsStart P s.point s.before T → IsSeenAs P s.policy s.point s.before s.entries file
      → IsSeenAtBy accepted P text (reached_by P T s) file
  seen_at text s file policy starts (inl is) =
      let all = is.1 in
      let begun : (s.before ≡ 0) × (T ≡ []) = subst (λ (o : Option Bytes). IsStart P o s.before T) all.0 starts in
      inl (is.0, λ i. begun.0 i + length (is.2 i), ap (trace_from P T) is.2 ∙ begun.1)
  seen_at text s file policy starts (inr is) = inr (
    is.0,
    subst (λ (t : Bytes). Sees file (holds t (s.before + length s.entries) (held_after P (trace_from P T s.entries)) is.0)) policy (is.1 T starts),
  )

module _ {D : Type 0} (seen : D → DiskSeen) (only : (d : D) (c : List ℕ) → (seen d).images_since (seen d).moment c → (seen d).images c)
    (read : (d : D) → IfSome (seen d).contents (seen d).images)
    (counts : (d : D) (t : ℕ) (c : List ℕ) → t ≤ (seen d).moment → (seen d).images c → (seen d).images_since t c)
    (sooner : (d : D) (t u : ℕ) (c : List ℕ) → t ≤ u → u ≤ (seen d).moment → (seen d).images_since u c → (seen d).images_since t c)
    (P : PlainPolicy) (T : Trace) where
  abbrev Rounds' : Answering D → List (Round (Answering D)) → Answering D → Type 0
  Rounds' first rounds last = AreRounds 65546 (GivesReplies seen) Refuses first rounds last

  along_at : (before : Answering D) (r : Round (Answering D)) → accepted before.store.policy ≡ Some P → IsStart P before.store.point before.store.before T
      → AreAnswered 65546 (GivesReplies seen) before r ⊎ IsRefused 65546 Refuses before r → Along (GivesReplyAtBy accepted P) (at P T before) (at P T r.after) r.told
  along_at before r accepts starts (inl a) =
      given_along (GivesReplyAtBy accepted P) (at P T before) (at P T r.after) r.told a.each (a.answered.said_at P T accepts starts)
  along_at before r accepts starts (inr a) =
      refused_along (GivesReplyAtBy accepted P) (at P T before) (at P T r.after) r.told a.one a.alone (record {
        line = a.line;
        reply = a.reply;
        answer = λ lt. let le = a.long in absurd (let no : ⊥ = omega arith in no);
        refusal = λ le. (ap (at P T) a.same, a.refused);
      })

  answers_at : (first last : Answering D) (rounds : List (Round (Answering D))) → accepted first.store.policy ≡ Some P
      → IsStart P first.store.point first.store.before T → Rounds' first rounds last
      → AllAlong (GivesReplyAtBy accepted P) (at P T) (at P T first) (at P T last) rounds
  answers_at first last [] accepts starts run = no_rounds (GivesReplyAtBy accepted P) (at P T) (at P T first) (at P T last) (ap (at P T) run)
  answers_at first last (r ∷ rounds) accepts starts run =
      let s = (keeps_one seen only read counts sooner first r run.0).stays in
      one_more (GivesReplyAtBy accepted P) (at P T) (at P T first) (at P T last) r rounds (along_at first r accepts starts run.0)
      (answers_at r.after last rounds (ap accepted s.policy ∙ accepts) (start_later seen P T first.store r.after.store s starts) run.1)

  module _ (first last : Answering D) (v0 v1 v2 : VoiceSeen) (hears : Bytes → Type 0) where
    abbrev steps : ℕ
    steps = first.store.before + length first.store.entries

    abbrev Answered : Result (Unit {0}) TalkFault → Type 0
    Answered r = HasAnsweredBy accepted P 65546 r (at P T first) (at P T last) v0 v2 hears

    pub answered_at : (r : Result (Unit {0}) TalkFault) → accepted first.store.policy ≡ Some P → IsStart P first.store.point first.store.before T
        → HasGreeted (Ok tt) steps (moment_of (seen first.store.disk)) v0 v1
        → HasTalked (kept_seen seen) (Keeps seen) (GivesReplies seen) Refuses 65546 r first last v1 v2 hears → Answered r
    answered_at r accepts starts greeted h =
        let s = (keeps_along seen only read counts sooner first h.reached h.rounds h.answered).stays in
        let a = answers_at first h.reached h.rounds accepts starts h.answered in
        record {
          exchanges = a.exchanges;
          heard = subst hears (sym a.lines) h.heard;
          reached = at P T h.reached;
          answered = a.answered;
          ends = ends_onto (at P T) 65546 (GivesReplies seen) (AreGivenAtBy accepted P) (λ more. hears (lines_of (told_in h.rounds) ++ more))
              (λ more. hears (lines_in a.exchanges ++ more)) (λ more heard. subst (λ (l : Bytes). hears (l ++ more)) (sym a.lines) heard) h.reached last
              (λ told gives. gives.said_at P T (ap accepted s.policy ∙ accepts) (start_later seen P T first.store h.reached.store s starts)) r h.ends;
          output = subst (λ (l : Bytes). goes_out r v0.contents v2.contents (ready_line steps) l) (sym a.replies)
              (went_out r v0.contents v1.contents v2.contents (ready_line steps) (replies_of (told_in h.rounds)) greeted.0 h.output);
        }

    -- the first line wasn't told whole
    pub not_greeted_at : (r : Result (Unit {0}) TalkFault) → last ≡ first → hears [] → HasGreeted r steps (moment_of (seen first.store.disk)) v0 v2
        → (r ≡ Ok tt → ⊥) → Answered r
    not_greeted_at (Ok done) same none greeted bad = absurd (bad refl)
    not_greeted_at (Err faults.SourceFault) same none greeted bad = absurd greeted
    not_greeted_at (Err faults.TooLong) same none greeted bad = absurd greeted
    not_greeted_at (Err faults.SinkFault) same none greeted bad = record {
      exchanges = [];
      heard = none;
      reached = at P T first;
      answered = refl;
      ends = ap (at P T) (sym same);
      output = subst (λ (l : Bytes). AppendsPrefix v0.contents v2.contents l) (sym (append-nil (ready_line steps))) greeted.0;
    }
    not_greeted_at (Err (faults.NoMemory e)) same none greeted bad = record {
      exchanges = [];
      heard = none;
      reached = at P T first;
      answered = refl;
      ends = inl (ap (at P T) (sym same));
      output = inr (greeted.0, refl);
    }
