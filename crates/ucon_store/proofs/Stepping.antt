-- What holds of a store after steps.
use Rattle.std.proofs.Common.{◌≡◌, ℕ, ◌+◌, ◌*◌, ◌<◌, ◌≤◌, ◌^◌, List, [], ◌∷◌, ◌++◌, length, length-append, Option, Some, None, refl, sym, ap, ◌∙◌, subst, false, arith}
use Rattle.std.specs.Prelude.{is_some}
use Rattle.ucon_model.specs.declared.command.Caller.{Caller}
use Rattle.ucon_model.specs.declared.command.Command.{Command}
use Rattle.ucon_model.specs.declared.command.Entry.{Entry}
use Rattle.ucon_model.specs.Action.{Trace}
use Rattle.ucon_model.specs.Block.{after, reply}
use Rattle.ucon_model.specs.History.{History, trace, trace_from, said}
use Rattle.ucon_model.specs.Payload.{revocations_in}
use Rattle.ucon_model.specs.Plain.{Bytes, PlainPolicy}
use Rattle.ucon_model.specs.Work.{NobodyFails}
use Rattle.ucon_journal.specs.declared.journal.Journal.{Journal}
use Rattle.ucon_journal.specs.Journal.{gate_of}
use Rattle.ucon_syntax.specs.Policies.{accepted}
use Rattle.ucon_store.specs.declared.beginning.Beginning.{Beginning}
use Rattle.ucon_store.specs.Kept.{IsKept, IsAtRestWith, RevokesFew, payload_in}
use Rattle.ucon_store.specs.Points.{text_behind, text_in_force}
use Rattle.ucon_store.specs.Starts.{IsStart, text_at_start}
use Rattle.ucon_store.proofs.Recorded.{IsAppended}
use Rattle.ucon_disk.specs.Seen.{DiskSeen}

pub unmarked : {A : Type 0} (o : Option A) → is_some o ≡ false → o ≡ None
unmarked None e = refl
unmarked (Some a) e = absurd (cc e)

-- the trace of entries in two parts
pub trace_append : (P : PlainPolicy) (T : Trace) (G H : History) → trace_from P T (G ++ H) ≡ trace_from P (trace_from P T G) H
trace_append P T [] H = refl
trace_append P T (e ∷ G) H = trace_append P (after P T e.caller e.command) G H

-- and with an entry more
pub trace_longer : (P : PlainPolicy) (T : Trace) (H : History) (e : Entry) → trace_from P T (H ++ e ∷ []) ≡ after P (trace_from P T H) e.caller e.command
trace_longer P T H e = trace_append P T H (e ∷ [])

-- no reply behind entries has too many revocations, if none behind the trace before them has
pub few_behind : (P : PlainPolicy) (T : Trace) (H : History) → RevokesFew P T → RevokesFew P (trace_from P T H)
few_behind P T H few G caller command =
    subst (λ (U : Trace). length (revocations_in (reply P U caller command)) ≤ 65536) (trace_append P T H G) (few (H ++ G) caller command)

-- the text of the policy in force after entries in two parts
pub text_append : (text : Bytes) (G H : History) → text_in_force text (G ++ H) ≡ text_in_force (text_in_force text G) H
text_append text [] H = refl
text_append text (e ∷ G) H = text_append (text_behind text e.command) G H

-- and with an entry more
pub text_longer : (text : Bytes) (H : History) (e : Entry) → text_in_force text (H ++ e ∷ []) ≡ text_behind (text_in_force text H) e.command
text_longer text H e = text_append text H (e ∷ [])

-- a text is accepted as one policy
pub one_policy : (text : Bytes) (P Q : PlainPolicy) → accepted text ≡ Some P → accepted text ≡ Some Q → P ≡ Q
one_policy text P Q p q = let e : Some P ≡ Some Q = sym p ∙ q in cc (e)

-- the reply after a history in two parts is the one after the trace of the first part and the entries of the second
pub said_behind : (P : PlainPolicy) (G H : History) (caller : Caller) (c : Command) → said P (G ++ H) caller c ≡ reply P (trace_from P (trace P G) H) caller c
said_behind P G H caller c = ap (λ (T : Trace). reply P T caller c) (trace_append P [] G H)

module _ {E D : Type 0} {follows : E → PlainPolicy → Trace → Type 0} {seen : D → DiskSeen} {engine : E}
    {journal : Journal D} {text : Bytes} {point : Option Beginning} {before : ℕ} {now : Bytes} {H : History} {mark : Option History}
    (kept : IsKept follows seen engine journal text point before now H mark) where
  -- without a mark its engine follows the entries behind each trace that leads to where the store begins
  pub stands_as : mark ≡ None → (P : PlainPolicy) → accepted text ≡ Some P → (T : Trace) → IsStart P (payload_in point) before T
      → follows engine P (trace_from P T H)
  stands_as none P accepts =
      subst (λ (Q : PlainPolicy). (T : Trace) → IsStart Q (payload_in point) before T → follows engine Q (trace_from Q T H))
      (one_policy text kept.P P kept.accepts accepts) (kept.stands none)

  -- a store goes on from where it began, with another engine, journal, text in force, entries and mark
  pub kept_as : {next : E} {k : Journal D} {later : Bytes} {items : History} {m : Option History}
      → (m ≡ None → (T : Trace) → IsStart kept.P (payload_in point) before T → follows next kept.P (trace_from kept.P T items))
      → (m ≡ None → (T : Trace) → IsStart kept.P (payload_in point) before T → NobodyFails kept.P (trace_from kept.P T items))
      → (m ≡ None → later ≡ text_in_force (text_at_start text (payload_in point)) items)
      → 5 * (before + length items) < 2 ^ 63 → (m ≡ None → IsAtRestWith seen k (before + length items))
      → IsKept follows seen next k text point before later items m
  kept_as stands settled in_force few rests = record {
    P = kept.P;
    accepts = kept.accepts;
    begun = kept.begun;
    starts = kept.starts;
    stands = stands;
    settled = settled;
    revokes = kept.revokes;
    in_force = in_force;
    few = few;
    rests = rests;
  }

  -- payloads more that are no step leave it kept
  pub kept_on : mark ≡ None → {prepared k : Journal D} {payloads : List Bytes} → gate_of prepared ≡ gate_of journal
      → IsAppended seen prepared k payloads → IsKept follows seen engine k text point before now H mark
  kept_on none {prepared} {k} {payloads} same appended =
      let few : 5 * (before + length H) ≤ gate_of k = omega (arith, (kept.rests none).few, same, appended.gate) in
      kept_as kept.stands kept.settled kept.in_force kept.few (λ _. record { closed = appended.closed; few = few; only = appended.only })

  -- and so does a mark, whatever becomes of the engine and of the text that is kept
  pub kept_stopped : {next : E} {k : Journal D} {later : Bytes} {items : History} → items ≡ H → {failed : History}
      → IsKept follows seen next k text point before later items (Some failed)
  kept_stopped {next} {k} {later} same {failed} =
      subst (λ (l : History). IsKept follows seen next k text point before later l (Some failed)) (sym same)
      (kept_as (λ none. absurd (cc none)) (λ none. absurd (cc none)) (λ none. absurd (cc none)) kept.few (λ none. absurd (cc none)))

  -- and so do entries whose records were appended, and which the engine has kept
  pub kept_more : (es : History) {next : E} {k : Journal D} → mark ≡ None → {prepared : Journal D} {payloads : List Bytes}
      → gate_of prepared ≡ gate_of journal → IsAppended seen prepared k payloads → length es ≤ length payloads → gate_of k < 2 ^ 63
      → ((T : Trace) → IsStart kept.P (payload_in point) before T → follows next kept.P (trace_from kept.P (trace_from kept.P T H) es))
      → ((T : Trace) → IsStart kept.P (payload_in point) before T → NobodyFails kept.P (trace_from kept.P (trace_from kept.P T H) es))
      → {later : Bytes} → later ≡ text_in_force now es → {items : History} → items ≡ H ++ es
      → IsKept follows seen next k text point before later items mark
  kept_more es {next} {k} none {prepared} {payloads} same appended many small follow settle {later} text_is grown =
      let few : 5 * (before + length (H ++ es)) ≤ gate_of k =
      omega (arith, (kept.rests none).few, same, appended.gate, many, length-append H es) in
      subst (λ (l : History). IsKept follows seen next k text point before later l mark) (sym grown)
      (kept_as
      (λ _ T start. subst (follows next kept.P) (sym (trace_append kept.P T H es)) (follow T start))
      (λ _ T start. subst (NobodyFails kept.P) (sym (trace_append kept.P T H es)) (settle T start))
      (λ _. text_is ∙ (ap (λ (t : Bytes). text_in_force t es) (kept.in_force none) ∙ sym (text_append (text_at_start text (payload_in point)) H es)))
      (omega (arith, few, small)) (λ _. record { closed = appended.closed; few = few; only = appended.only }))

  -- and so does an entry that was pending
  pub kept_one : (has_pending : PlainPolicy → Trace → Entry → Type 0) (e : Entry)
      → ((P : PlainPolicy) (T : Trace) → follows engine P T → has_pending P T e) → {next : E} {k : Journal D}
      → mark ≡ None → {prepared : Journal D} {payload : Bytes} → gate_of prepared ≡ gate_of journal
      → IsAppended seen prepared k (payload ∷ []) → gate_of k < 2 ^ 63
      → ((P : PlainPolicy) (T : Trace) (a : Entry) → has_pending P T a → follows next P (after P T a.caller a.command))
      → ((P : PlainPolicy) (T : Trace) (a : Entry) → has_pending P T a → NobodyFails P (after P T a.caller a.command)) → {later : Bytes}
      → later ≡ text_behind now e.command → {items : History} → items ≡ H ++ e ∷ [] → IsKept follows seen next k text point before later items mark
  kept_one has_pending e pending none same appended small follow settle text_is grown =
      let pends : (T : Trace) → IsStart kept.P (payload_in point) before T → has_pending kept.P (trace_from kept.P T H) e =
      λ T start. pending kept.P (trace_from kept.P T H) (kept.stands none T start) in
      kept_more (e ∷ []) none same appended (omega arith) small
      (λ T start. follow kept.P (trace_from kept.P T H) e (pends T start))
      (λ T start. settle kept.P (trace_from kept.P T H) e (pends T start)) text_is grown
