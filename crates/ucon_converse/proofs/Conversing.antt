-- From a keeper that talked to a conversation over its store.
use Rattle.std.proofs.Common.{◌≡◌, ◌⊎◌, inl, inr, ⊎_elim, ℕ, ◌+◌, ◌≤◌, List, [], ◌∷◌, ◌++◌, length, take, append_assoc, length-append, refl, sym, ap, subst, ◌∙◌, arith}
use Rattle.std.proofs.lemmas.List.{append-nil}
use Rattle.std.proofs.KnownBytes.{Appends-trans, Consumes-nil}
use Rattle.std.proofs.Math.Seq.{take-append-add}
use Rattle.std.specs.Prelude.{Option, Some, None, IfSome, Result, Ok, Err}
use Rattle.std.specs.Io.KnownBytes.{Appends}
use Rattle.ucon_disk.specs.Seen.{DiskSeen}
use Rattle.ucon_flow.specs.Writing.{AppendsPrefix}
use Rattle.ucon_model.specs.declared.command.Entry.{Entry}
use Rattle.ucon_model.specs.History.{History, trace}
use Rattle.ucon_model.specs.LegalRun.{Answered, IsLegalRun, history_made, in_text_order}
use Rattle.ucon_model.specs.Plain.{Bytes, PlainPolicy}
use Rattle.ucon_model.specs.StoredRun.{LeadsTo, failed_line}
use Rattle.ucon_store.specs.Kept.{Kept}
use Rattle.ucon_store.specs.Points.{text_in_force}
use Rattle.ucon_store.specs.Starts.{IsStart, text_at_start}
use Rattle.ucon_store.specs.Whole.{IsFront}
use Rattle.ucon_syntax.specs.Policies.{accepted}
use Rattle.ucon_tell.specs.Heard.{Hears}
use Rattle.ucon_tell.specs.Seen.{VoiceSeen}
use Rattle.ucon_tell.specs.Talk.{AreAnswered, AreRounds, HasTalked, IsRefused, IsToldOnceKept, Round, ends_by, told_in, writes_by}
use Rattle.ucon_tell.specs.Told.{AreAnsweredUntold, IsCut, IsFrontOf, Told, lines_of, replies_of}
use Rattle.ucon_tell.specs.declared.talk_fault.TalkFault.{TalkFault}
use Rattle.ucon_tell.specs.declared.talk_fault.TalkFault.TheVariants as faults
use Rattle.ucon_turn.specs.Lists.{Begins}
use Rattle.ucon_converse.specs.Answering.{Answering}
use Rattle.ucon_converse.specs.Conversation.{HasConversedBy, IsMarkOf, IsRunOver, IsStoppedBy, IsToldOnceKeptBy, goes_out}
use Rattle.ucon_converse.specs.Exchanges.{Exchange, lines_in, replies_in}
use Rattle.ucon_converse.specs.Greeting.{HasGreeted}
use Rattle.ucon_converse.specs.Holding.{IsFoundPast, IsFoundedAt, standing}
use Rattle.ucon_converse.specs.Keeping.{GivesReplies, IsDated, Keeps, Refuses, kept_seen, moment_of}
use Rattle.ucon_converse.specs.KeeperLaws.{based_later, keeps_again, keeps_kept, keeps_same}
use Rattle.ucon_converse.specs.Replies.{AreGivenBy, GivesReplyBy, Standing, ready_line}
use Rattle.ucon_converse.proofs.Dated.{dated_before, given_as}
use Rattle.ucon_converse.proofs.Leads.{LeadsOver, exchanges_lead}
use Rattle.ucon_converse.proofs.Long.{long_lines_ask_nothing}
use Rattle.ucon_converse.proofs.Rounds.{AllAlong, Along, given_along, no_rounds, one_more, refused_along}

-- a history that leads to where a store begins leads to where another begins that begins there
pub front_same : {D : Type 0} (P : PlainPolicy) (x y : Kept D) (G : History) → y.policy ≡ x.policy → y.point ≡ x.point → y.before ≡ x.before → IsFront P x G → IsFront P y G
front_same P x y G policy point before front = record {
  starts = subst (λ (z : Option Bytes × ℕ). IsStart P z.0 z.1 (trace P G)) (λ i. (sym point i, sym before i)) front.starts;
  count = front.count ∙ sym before;
  text = ap (λ (t : Bytes). text_in_force t G) policy ∙ (front.text ∙ (λ i. text_at_start (sym policy i) (sym point i)));
}

-- entries that begin with others do behind more
pub begins_behind : (G xs ys : History) → Begins xs ys → Begins (G ++ xs) (G ++ ys)
begins_behind G xs ys b = (b.0, append_assoc G xs b.0 ∙ ap (λ (l : History). G ++ l) b.1)

-- ---- what went out

-- the first line went out, and then the replies
pub went_out : (r : Result (Unit {0}) TalkFault) (before between now : Option Bytes) (ready replies : Bytes) → Appends before between ready → writes_by r between now replies
    → goes_out r before now ready replies
went_out (Ok done) before between now xs ys p q = Appends-trans before between now xs ys p q
went_out (Err faults.SinkFault) before between now xs ys p q = (
  length xs + q.0,
  omega (arith, q.1, length-append xs ys),
  rw (take-append-add xs ys q.0) (Appends-trans before between now xs (take q.0 ys) p q.2),
)
went_out (Err faults.SourceFault) before between now xs ys p q = Appends-trans before between now xs ys p q
went_out (Err faults.TooLong) before between now xs ys p q = Appends-trans before between now xs ys p q
went_out (Err (faults.NoMemory e)) before between now xs ys p q = inl (Appends-trans before between now xs ys p q)

-- what a cut told is a front of all that went out so far
front_of_cut : (before reply b : Bytes) → IsCut before reply b → IsFrontOf b (before ++ reply)
front_of_cut before reply b cut =
    (cut.1.0, ap (λ (l : Bytes). before ++ l) cut.1.1 ∙ (sym (append_assoc before cut.0 cut.1.0) ∙ ap (λ (l : Bytes). l ++ cut.1.0) (sym cut.2)))

-- where the first line wasn't told whole nothing was heard
pub nothing_heard : (r : Result (Unit {0}) TalkFault) (steps moment : ℕ) (old new : VoiceSeen) → HasGreeted r steps moment old new → (r ≡ Ok tt → ⊥) → (held : Bytes) (left : Option Bytes)
    → Hears r held held left left []
nothing_heard (Ok done) steps moment old new greeted bad held left = absurd (bad refl)
nothing_heard (Err faults.SourceFault) steps moment old new greeted bad held left = absurd greeted
nothing_heard (Err faults.TooLong) steps moment old new greeted bad held left = absurd greeted
nothing_heard (Err faults.SinkFault) steps moment old new greeted bad held left =
    record { read = []; consumed = Consumes-nil left; rest = held; all = append-nil held; left_over = refl }
nothing_heard (Err (faults.NoMemory e)) steps moment old new greeted bad held left =
    record { read = []; consumed = Consumes-nil left; rest = held; all = append-nil held; left_over = tt }

module _ {D : Type 0} (seen : D → DiskSeen) (only : (d : D) (c : List ℕ) → (seen d).images_since (seen d).moment c → (seen d).images c)
    (read : (d : D) → IfSome (seen d).contents (seen d).images)
    (counts : (d : D) (t : ℕ) (c : List ℕ) → t ≤ (seen d).moment → (seen d).images c → (seen d).images_since t c)
    (sooner : (d : D) (t u : ℕ) (c : List ℕ) → t ≤ u → u ≤ (seen d).moment → (seen d).images_since u c → (seen d).images_since t c) where
  abbrev Rounds' : Answering D → List (Round (Answering D)) → Answering D → Type 0
  Rounds' first rounds last = AreRounds 65546 (GivesReplies seen) Refuses first rounds last

  -- a round leaves what a store's runs do
  pub keeps_one : (before : Answering D) (r : Round (Answering D)) → AreAnswered 65546 (GivesReplies seen) before r ⊎ IsRefused 65546 Refuses before r → Keeps seen before r.after
  keeps_one before r (inl a) = a.answered.keeps
  keeps_one before r (inr a) = subst (λ (s : Answering D). Keeps seen before s) (sym a.same) (keeps_same seen only before)

  pub keeps_along : (first last : Answering D) (rounds : List (Round (Answering D))) → Rounds' first rounds last → Keeps seen first last
  keeps_along first last [] run = subst (λ (s : Answering D). Keeps seen first s) run (keeps_same seen only first)
  keeps_along first last (r ∷ rounds) run = keeps_again seen only read counts first r.after last (keeps_one first r run.0) (keeps_along r.after last rounds run.1)

  front_part : (first last : Answering D) (rounds : List (Round (Answering D))) (one : Round (Answering D)) (later : List (Round (Answering D)))
      → Rounds' first (rounds ++ one ∷ later) last → Rounds' first (rounds ++ one ∷ []) one.after
  front_part first last [] one later run = (run.0, refl)
  front_part first last (r ∷ rounds) one later run = (run.0, front_part r.after last rounds one later run.1)

  module _ (P : PlainPolicy) (G : History) (places : List ℕ) where
    -- the journal that the first one has is an old one if that of a later one is
    said_one : (old : Type 0) (before after : Answering D) (told : List Told) → (IsDated (seen before.store.disk).contents → old) → accepted before.store.policy ≡ Some P
        → IsFront P before.store G → GivesReplies seen before after told
        → AreGivenBy accepted P before.store.policy old (standing G places before) (standing G places after) told
    said_one old before after told dated accepts front gives =
        given_as accepted P before.store.policy (IsDated (seen before.store.disk).contents) old dated (standing G places before) (standing G places after) told
        (gives.said P G places accepts front)

    along_one : (old : Type 0) (before : Answering D) (r : Round (Answering D)) → (IsDated (seen before.store.disk).contents → old) → accepted before.store.policy ≡ Some P
        → IsFront P before.store G → AreAnswered 65546 (GivesReplies seen) before r ⊎ IsRefused 65546 Refuses before r
        → Along (GivesReplyBy accepted P before.store.policy old) (standing G places before) (standing G places r.after) r.told
    along_one old before r dated accepts front (inl a) =
        given_along (GivesReplyBy accepted P before.store.policy old) (standing G places before) (standing G places r.after) r.told a.each (said_one old before r.after r.told dated accepts front a.answered)
    along_one old before r dated accepts front (inr a) =
        refused_along (GivesReplyBy accepted P before.store.policy old) (standing G places before) (standing G places r.after) r.told a.one a.alone
        (record {
          line = a.line;
          reply = a.reply;
          answer = λ lt. let le = a.long in absurd (let no : ⊥ = omega arith in no);
          refusal = λ le. (ap (standing G places) a.same, a.refused);
        })

    said_along : (old : Type 0) (first last : Answering D) (rounds : List (Round (Answering D))) → (IsDated (seen first.store.disk).contents → old)
        → accepted first.store.policy ≡ Some P → IsFront P first.store G → Rounds' first rounds last
        → AllAlong (GivesReplyBy accepted P first.store.policy old) (standing G places) (standing G places first) (standing G places last) rounds
    said_along old first last [] dated accepts front run =
        no_rounds (GivesReplyBy accepted P first.store.policy old) (standing G places) (standing G places first) (standing G places last) (ap (standing G places) run)
    said_along old first last (r ∷ rounds) dated accepts front run =
        let keeps = keeps_one first r run.0 in
        let s = keeps.stays in
        one_more (GivesReplyBy accepted P first.store.policy old) (standing G places) (standing G places first) (standing G places last) r rounds (along_one old first r dated accepts front run.0)
        (subst (λ (text : Bytes). AllAlong (GivesReplyBy accepted P text old) (standing G places) (standing G places r.after) (standing G places last) rounds) s.policy
        (said_along old r.after last rounds (λ d. dated (dated_before (seen first.store.disk).contents (seen r.after.store.disk).contents s.tells keeps.kind d))
        (ap accepted s.policy ∙ accepts) (front_same P first.store r.after.store G s.policy s.point s.before front) run.1))

    module _ (first last : Answering D) (keeps : Keeps seen first last) (v0 v1 v2 : VoiceSeen) (steps : ℕ) (count : steps ≡ length (G ++ first.store.entries)) where
      abbrev Told' : Bytes → List (Exchange Standing) → Bytes → ℕ → Type 0
      Told' held exchanges b t = IsToldOnceKeptBy accepted first.store.policy (seen last.store.disk) held (standing G places first) exchanges b t

      abbrev ready : Bytes
      ready = ready_line (length (G ++ first.store.entries))

      module _ (f : IsFoundedAt seen P first G places) where
        -- the first line was told
        greeted_once_kept : (o : Option Bytes) (exchanges : List (Exchange Standing)) (b : Bytes) (t : ℕ) → t ≡ moment_of (seen first.store.disk)
            → IfSome o (λ held. IsCut held (ready_line steps) b) → IfSome o (λ held. Told' held exchanges b t)
        greeted_once_kept None exchanges b t at cut = tt
        greeted_once_kept (Some held) exchanges b t at cut =
            let later = keeps.later in
            record {
              by_then = [];
              later = exchanges;
              all = refl;
              bytes =
                  let is : held ++ ready_line steps ≡ (held ++ ready) ++ [] = ap (λ (n : ℕ). held ++ ready_line n) count ∙ sym (append-nil (held ++ ready)) in
                  subst (λ (l : Bytes). IsFrontOf b l) is (front_of_cut held (ready_line steps) b cut);
              kept = λ c since. keeps_kept seen only read sooner first last t c keeps (omega (arith, at)) (omega (arith, at, later)) since P G places
                  (based_later seen only read first first P G places (keeps_same seen only first) f);
            }

        -- a round was told, or a front of it
        replied_once_kept : (held held' : Bytes) → held' ≡ held ++ ready → (old : Type 0) (reached : Answering D) (rounds : List (Round (Answering D))) → Rounds' first rounds reached
            → (a : AllAlong (GivesReplyBy accepted P first.store.policy old) (standing G places) (standing G places first) (standing G places reached) rounds)
            → (b : Bytes) (t : ℕ) → IsToldOnceKept (kept_seen seen) (Keeps seen) held' rounds last b t → Told' held a.exchanges b t
        replied_once_kept held held' wrote old reached rounds run a b t h =
            let so_far = front_part first reached h.earlier h.one h.later (subst (λ (l : List (Round (Answering D))). Rounds' first l reached) h.among run) in
            let kept = keeps_along first h.one.after (h.earlier ++ h.one ∷ []) so_far in
            let u = a.cut h.earlier h.one h.later h.among in
            record {
              by_then = u.by_then;
              later = u.later;
              all = u.all;
              bytes =
                  let before : Bytes = replies_of (told_in h.earlier) in
                  let told : Bytes = replies_of h.one.told in
                  let so_far_out : Bytes = (held ++ ready) ++ before in
                  let cut : IsCut so_far_out told b = subst (λ (l : Bytes). IsCut l told b) (ap (λ (l : Bytes). l ++ before) wrote) h.bytes in
                  let is : so_far_out ++ told ≡ (held ++ ready) ++ replies_in u.by_then =
                  append_assoc (held ++ ready) before told ∙ ap (λ (l : Bytes). (held ++ ready) ++ l) (sym u.replies) in
                  subst (λ (l : Bytes). IsFrontOf b l) is (front_of_cut so_far_out told b cut);
              kept = λ c since.
                  let past : IsFoundPast h.one.after.store.policy (standing G places h.one.after) c =
                  h.kept c since P G places (based_later seen only read first h.one.after P G places kept f) in
                  subst (λ (z : Bytes × Standing). IsFoundPast z.0 z.1 c) (λ i. (kept.stays.policy i, sym u.ends i)) past;
            }

        by_voice : (o u : Option Bytes) → Appends o u ready → (old : Type 0) (reached : Answering D) (rounds : List (Round (Answering D))) → Rounds' first rounds reached
            → (a : AllAlong (GivesReplyBy accepted P first.store.policy old) (standing G places) (standing G places first) (standing G places reached) rounds) → (b : Bytes) (t : ℕ)
            → IfSome u (λ held. IsToldOnceKept (kept_seen seen) (Keeps seen) held rounds last b t) → IfSome o (λ held. Told' held a.exchanges b t)
        by_voice None u wrote old reached rounds run a b t h = tt
        by_voice (Some held) None wrote old reached rounds run a b t h = absurd wrote
        by_voice (Some held) (Some held') wrote old reached rounds run a b t h = replied_once_kept held held' wrote old reached rounds run a b t h

      module _ (accepts : accepted first.store.policy ≡ Some P) (front : IsFront P first.store G) (unmarked : first.store.mark ≡ None)
          (legal : (told : List Answered) (H : History) (failed : Option Entry) → LeadsTo P (G ++ first.store.entries) told H failed
          → IsLegalRun P in_text_order (G ++ first.store.entries) told)
          (made : (told : List Answered) (H : History) (failed : Option Entry) → LeadsTo P (G ++ first.store.entries) told H failed
          → history_made (G ++ first.store.entries) told ≡ H)
          (fault : (told : List Answered) (H : History) (failed : Option Entry) → LeadsTo P (G ++ first.store.entries) told H failed → failed_line told ≡ failed)
          (hears : Bytes → Type 0) where
        abbrev Old : Type 0
        Old = IsDated (seen first.store.disk).contents

        abbrev Conversed : Result (Unit {0}) TalkFault → Type 0
        Conversed r = HasConversedBy accepted P first.store.policy Old 65546 r (standing G places first) (standing G places last) v0 v2 (seen last.store.disk)
            (IsFoundedAt seen P first G places) hears

        -- how it is stopped, by its last line
        stopped_so : (reached : Standing) (run over : List Answered) (failed : Option Entry) → failed_line run ≡ failed
            → (IsMarkOf P reached.history reached.failed run × (over ≡ [])) ⊎ ((reached.failed ≡ Some []) × (failed ≡ None))
            → IsStoppedBy P reached.history reached.failed run over
        stopped_so reached run over failed is (inl by_line) = inl by_line
        stopped_so reached run over failed is (inr by_point) = inr (by_point.0, is ∙ by_point.1)

        runs_so : (reached : Standing) (told : List Answered) → LeadsOver P (standing G places first) reached told
            → IsRunOver P (G ++ first.store.entries) told reached
        runs_so reached told l = record {
          run = l.run;
          over = l.over;
          all = l.all;
          legal = legal l.run reached.history l.failed l.leads;
          made = made l.run reached.history l.failed l.leads;
          stops = l.stops;
          failed = stopped_so reached l.run l.over l.failed (fault l.run reached.history l.failed l.leads) l.mark;
        }

        ends_so : (lines shown : Bytes) → shown ≡ lines → (r : Result (Unit {0}) TalkFault) (reached : Answering D) → accepted reached.store.policy ≡ Some P → IsFront P reached.store G
            → (IsDated (seen reached.store.disk).contents → Old) → reached.store.policy ≡ first.store.policy
            → ends_by 65546 (GivesReplies seen) (λ more. hears (lines ++ more)) r reached last
            → ends_by 65546 (AreGivenBy accepted P first.store.policy Old) (λ more. hears (shown ++ more)) r (standing G places reached) (standing G places last)
        ends_so lines shown is (Ok done) reached accepts' front' dated policy e = ap (standing G places) e
        ends_so lines shown is (Err faults.SourceFault) reached accepts' front' dated policy e = ap (standing G places) e
        ends_so lines shown is (Err faults.SinkFault) reached accepts' front' dated policy e = ap (standing G places) e
        ends_so lines shown is (Err faults.TooLong) reached accepts' front' dated policy e = ap (standing G places) e
        ends_so lines shown is (Err (faults.NoMemory m)) reached accepts' front' dated policy e = ⊎_elim
            (λ (same : reached ≡ last). inl (ap (standing G places) same))
            (λ (u : AreAnsweredUntold 65546 (GivesReplies seen) (λ more. hears (lines ++ more)) reached last). inr (record {
              told = u.told;
              each = u.each;
              came = subst (λ (l : Bytes). hears (l ++ lines_of u.told)) (sym is) u.came;
              answer =
                  subst (λ (text : Bytes). AreGivenBy accepted P text Old (standing G places reached) (standing G places last) u.told) policy
                  (said_one Old reached last u.told dated accepts' front' u.answer);
            })) e

        pub conversed : (r : Result (Unit {0}) TalkFault) → HasGreeted (Ok tt) steps (moment_of (seen first.store.disk)) v0 v1
            → HasTalked (kept_seen seen) (Keeps seen) (GivesReplies seen) Refuses 65546 r first last v1 v2 hears → Conversed r
        conversed r greeted h =
            let a = said_along Old first h.reached h.rounds (λ d. d) accepts front h.answered in
            let lead = exchanges_lead accepted P first.store.policy Old 65546 (long_lines_ask_nothing accepted) (standing G places first) (standing G places h.reached)
            a.exchanges unmarked a.answered in
            let wrote : Appends v0.contents v1.contents ready = subst (λ (n : ℕ). Appends v0.contents v1.contents (ready_line n)) count greeted.0 in
            let along = keeps_along first h.reached h.rounds h.answered in
            let s = along.stays in
            record {
              exchanges = a.exchanges;
              heard = subst hears (sym a.lines) h.heard;
              reached = standing G places h.reached;
              answered = a.answered;
              ends = ends_so (lines_of (told_in h.rounds)) (lines_in a.exchanges) a.lines r h.reached (ap accepted s.policy ∙ accepts) (front_same P first.store h.reached.store G s.policy s.point s.before front)
                  (dated_before (seen first.store.disk).contents (seen h.reached.store.disk).contents s.tells along.kind) s.policy h.ends;
              output = subst (λ (l : Bytes). goes_out r v0.contents v2.contents ready l) (sym a.replies)
                  (went_out r v0.contents v1.contents v2.contents ready (replies_of (told_in h.rounds)) wrote h.output);
              told = lead.told;
              among = lead.among;
              runs = runs_so (standing G places h.reached) lead.told lead.is_so;
              kept = λ founded b t is. ⊎_elim
                  (λ (m : v1.told b t). ⊎_elim inl
                  (λ (g : (t ≡ moment_of (seen first.store.disk)) × IfSome v0.contents (λ held. IsCut held (ready_line steps) b)).
                  inr (greeted_once_kept founded v0.contents a.exchanges b t g.0 g.1)) (greeted.1.nothing_else b t m))
                  (λ (x : IfSome v1.contents (λ held. IsToldOnceKept (kept_seen seen) (Keeps seen) held h.rounds last b t)).
                  inr (by_voice founded v0.contents v1.contents wrote Old h.reached h.rounds h.answered a b t x)) (h.told b t is);
            }

        -- nothing was answered
        no_run : IsRunOver P (G ++ first.store.entries) [] (standing G places first)
        no_run =
            let base : LeadsTo P (G ++ first.store.entries) [] (G ++ first.store.entries) None = (refl, refl) in
            record {
              run = [];
              over = [];
              all = refl;
              legal = legal [] (G ++ first.store.entries) None base;
              made = made [] (G ++ first.store.entries) None base;
              stops = tt;
              failed = inl (unmarked, refl);
            }

        -- nothing was heard: the first line wasn't told whole
        pub not_greeted : (r : Result (Unit {0}) TalkFault) → last ≡ first → hears [] → HasGreeted r steps (moment_of (seen first.store.disk)) v0 v2 → ((r ≡ Ok tt) → ⊥)
            → Conversed r
        not_greeted (Ok done) same none greeted bad = absurd (bad refl)
        not_greeted (Err faults.SourceFault) same none greeted bad = absurd greeted
        not_greeted (Err faults.TooLong) same none greeted bad = absurd greeted
        not_greeted (Err faults.SinkFault) same none greeted bad = record {
          exchanges = [];
          heard = none;
          reached = standing G places first;
          answered = refl;
          ends = ap (standing G places) (sym same);
          output = subst (λ (l : Bytes). AppendsPrefix v0.contents v2.contents l) (ap ready_line count ∙ sym (append-nil ready)) greeted.0;
          told = [];
          among = refl;
          runs = no_run;
          kept = λ founded b t is. ⊎_elim inl
              (λ (g : (t ≡ moment_of (seen first.store.disk)) × IfSome v0.contents (λ held. IsCut held (ready_line steps) b)).
              inr (greeted_once_kept founded v0.contents [] b t g.0 g.1)) (greeted.1.nothing_else b t is);
        }
        not_greeted (Err (faults.NoMemory e)) same none greeted bad = record {
          exchanges = [];
          heard = none;
          reached = standing G places first;
          answered = refl;
          ends = inl (ap (standing G places) (sym same));
          output = inr (greeted.0, refl);
          told = [];
          among = refl;
          runs = no_run;
          kept = λ founded b t is. inl (greeted.1 b t is);
        }
