-- From the opening of a journal to its closing: a conversation behind the history as which the file was found.
use Rattle.std.proofs.Common.{⊎_elim, ◌≡◌, ◌⊎◌, true, false, ℕ, List, [], ◌++◌, refl, sym, ap, subst, ◌∙◌, inl, inr}
use Rattle.std.proofs.lemmas.List.{append-nil}
use Rattle.std.specs.Prelude.{Option, Some, None, is_some, IsSome, IfSome, ◌↔◌, Result, ⊤}
use Rattle.ucon_disk.specs.Causes.{raised}
use Rattle.ucon_disk.specs.Run.{LeavesFrom, LeavesOnly, joined, weaker}
use Rattle.ucon_disk.specs.Seen.{DiskSeen}
use Rattle.ucon_model.specs.Action.{Trace}
use Rattle.ucon_model.specs.History.{History}
use Rattle.ucon_model.specs.Plain.{Bytes, PlainPolicy}
use Rattle.ucon_outcome.specs.declared.outcome.Outcome.{Outcome}
use Rattle.ucon_store.specs.Found.{IsFoundAs}
use Rattle.ucon_store.specs.Kept.{Kept}
use Rattle.ucon_store.specs.Opened.{Parted, last_point}
use Rattle.ucon_store.specs.Opening.{IsSeenAs, Opens}
use Rattle.ucon_store.specs.Points.{IsOld, SamePlaces, has_points, point_places}
use Rattle.ucon_store.specs.Starts.{BeginsAt, IsStart}
use Rattle.ucon_store.specs.Stays.{IsFoundBetween}
use Rattle.ucon_store.specs.Whole.{GoesOnFrom, IsFounded, found_founded, whole}
use Rattle.ucon_syntax.specs.Policies.{accepted}
use Rattle.ucon_tell.specs.Seen.{VoiceSeen}
use Rattle.ucon_tell.specs.declared.talk_fault.TalkFault.{TalkFault}
use Rattle.ucon_turn.specs.Lists.{begins_refl}
use Rattle.ucon_converse.specs.Answering.{Answering}
use Rattle.ucon_converse.specs.Conversation.{HasConversedBy}
use Rattle.ucon_converse.specs.Ended.{IsAnsweredOverBy, IsFoundSinceBy, IsHeldBehindBy, IsHeldBy, IsTalkedOver, opened_on, steps_before}
use Rattle.ucon_converse.specs.Holding.{IsFoundedAt, IsLeftBy, standing}
use Rattle.ucon_converse.specs.Keeping.{IsDated, IsLed}
use Rattle.ucon_converse.specs.KeeperLaws.{based_later}
use Rattle.ucon_converse.specs.Reached.{IsSeenAtBy, reached_by}
use Rattle.ucon_converse.specs.Replies.{Standing}
use Rattle.ucon_converse.proofs.Conversing.{begins_behind}
use Rattle.ucon_converse.proofs.Dated.{conversed_as}
use Rattle.ucon_converse.proofs.Overall.{seen_at}

begun_at : (p : Option Parted) (point : Option Bytes) (before : ℕ) → BeginsAt p point before → before ≡ steps_before p
begun_at None point before begins = begins.1
begun_at (Some p) point before begins = begins.1

if_told : (o : Option Bytes) (A : Bytes → Type 0) (file : Bytes) → o ≡ Some file → IfSome o A → A file
if_told o A file is h = let there : IfSome (Some file) A = subst (λ (p : Option Bytes). IfSome p A) is h in there

same_told : (o p : Option Bytes) (file : Bytes) → o ≡ Some file → SamePlaces o p → IfSome p (λ now. point_places now ≡ point_places file)
same_told o p file is same = by p (subst (λ (q : Option Bytes). SamePlaces q p) is same)
  where
    by : (q : Option Bytes) → SamePlaces (Some file) q → IfSome q (λ now. point_places now ≡ point_places file)
    by None s = tt
    by (Some now) s = s

old_told : (o p : Option Bytes) (file : Bytes) → o ≡ Some file → IsSome p
    → ((before now : Bytes) → o ≡ Some before → p ≡ Some now → (has_points now ≡ false) ↔ IsOld before) → IsDated p → IsOld file
old_told o None file is told old dated = absurd (let no : false ≡ true = told in cc no)
old_told o (Some now) file is told old dated = (old file now is refl).0 dated

if_places : (o : Option Bytes) (A B : Bytes → Type 0) → ((c : Bytes) → A c → B c) → IfSome o A → IfSome o B
if_places None A B f a = tt
if_places (Some c) A B f a = f c a

module _ {D : Type 0} (seen : D → DiskSeen) (only : (d : D) (c : List ℕ) → (seen d).images_since (seen d).moment c → (seen d).images c)
    (read : (d : D) → IfSome (seen d).contents (seen d).images)
    (text : Bytes) (P : PlainPolicy) (accepts : accepted text ≡ Some P) (disk : D) (store : Kept D)
    (policy : store.policy ≡ text) (unmarked : store.mark ≡ None) (images_kept : LeavesFrom (seen disk) (seen store.disk) (Opens text))
    (unfailed : (seen store.disk).faults ≡ (seen disk).faults) (tells : is_some (seen store.disk).contents ≡ is_some (seen disk).contents)
    (begins : IfSome (seen disk).contents (λ file. BeginsAt (last_point file) store.point store.before))
    (same_places : SamePlaces (seen disk).contents (seen store.disk).contents)
    (old : (before now : Bytes) → (seen disk).contents ≡ Some before → (seen store.disk).contents ≡ Some now → (has_points now ≡ false) ↔ IsOld before)
    (led : (T : Trace) × IsStart P store.point store.before T)
    (shown : IfSome (seen disk).contents (IsSeenAs P store.policy store.point store.before store.entries))
    (now : D) (outcome : Outcome) (before after : VoiceSeen) (hears : Result (Unit {0}) TalkFault → Bytes → Type 0)
    (over : IsTalkedOver seen (record { store = store; made = []; tried = store.before }) now outcome before after hears) where
  abbrev First : Answering D
  First = record { store = store; made = []; tried = store.before }

  module _ (file : Bytes) (told : (seen disk).contents ≡ Some file) (G : History) (f : IsFounded seen P store G) (found : IsFoundAs text file (G ++ store.entries)) where
    abbrev Since : Bytes → Type 0
    Since c = IsFoundSinceBy accepted text (G ++ store.entries) (G ++ over.closed.store.entries) over.closed.store.mark c

    abbrev Last : Standing
    Last = standing G (point_places file) over.closed

    told_opened : IsSome (seen store.disk).contents
    told_opened = tells ∙ ap is_some told

    at : IsFoundedAt seen P First G (point_places file)
    at = record {
      founded = f;
      told = told_opened;
      points = if_places (seen store.disk).contents (λ there. point_places there ≡ point_places file) (λ there. point_places there ≡ point_places file ++ [])
          (λ c is. is ∙ sym (append-nil (point_places file))) (same_told (seen disk).contents (seen store.disk).contents file told same_places);
    }

    found_at_first : (c : Bytes) → IsFoundAs text c (G ++ store.entries) → Since c
    found_at_first c found = record {
      history = G ++ store.entries;
      found = found;
      begun = begins_refl (G ++ store.entries);
      within = inl (begins_behind G store.entries over.closed.store.entries over.keeps.stays.entries);
    }

    found_between : (c : Bytes) → IsFoundBetween (whole G store) (whole G over.closed.store) c → Since c
    found_between c b = record {
      history = b.history;
      found = subst (λ (t : Bytes). IsFoundAs t c b.history) (over.keeps.stays.policy ∙ policy) b.found;
      begun = b.begun;
      within = b.within;
    }

    -- what a crash leaves where the store was opened
    found_resting : (c : Bytes) → (seen store.disk).images c → IsFoundAs text c (G ++ store.entries)
    found_resting c image = subst (λ (t : Bytes). IsFoundAs t c (G ++ store.entries)) policy (found_founded seen P store G f told_opened c image)

    abbrev SinceOr : Bytes → Type 0
    SinceOr c = (seen disk).images c ⊎ Since c

    since_opened : LeavesOnly (seen disk) (seen over.closed.store.disk) SinceOr
    since_opened =
        joined (seen disk) (seen store.disk) (seen over.closed.store.disk) SinceOr
        (weaker (seen disk) (seen store.disk) (λ c. (seen disk).images c ⊎ Opens text file c) SinceOr
        (λ c. ⊎_elim inl (λ o. inr (found_at_first c (o.same (G ++ store.entries) found)))) (images_kept.each file told))
        (weaker (seen store.disk) (seen over.closed.store.disk) (λ c. (seen store.disk).images c ⊎ IsFoundBetween (whole G store) (whole G over.closed.store) c) SinceOr
        (λ c. ⊎_elim (λ image. inr (found_at_first c (found_resting c image))) (λ b. inr (found_between c b))) (over.keeps.stays.left P G f told_opened))

    -- what the store stands for as it was opened
    opened_so : standing G (point_places file) First ≡ opened_on file (G ++ store.entries)
    opened_so = λ i. record {
      history = G ++ store.entries;
      failed = unmarked i;
      points = append-nil (point_places file) i;
      tried = begun_at (last_point file) store.point store.before
          (if_told (seen disk).contents (λ there. BeginsAt (last_point there) store.point store.before) file told begins) i;
    }

    held : IsHeldBehindBy accepted text P file (G ++ store.entries) outcome (seen disk) (seen now) before after hears
    held =
        let talked = over.conversed P G (point_places file) (ap accepted policy ∙ accepts) f.front unmarked in
        let met = conversed_as accepted P store.policy (IsDated (seen store.disk).contents) (IsOld file)
        (old_told (seen disk).contents (seen store.disk).contents file told told_opened old)
        65546 over.result (standing G (point_places file) First) Last before after (seen over.closed.store.disk) (IsFoundedAt seen P First G (point_places file))
        (hears over.result) at talked in
        record {
          result = over.result;
          last = Last;
          outcome_is = over.outcome_is;
          conversed = subst (λ (z : Bytes × Standing × D). HasConversedBy accepted P z.0 (IsOld file) 65546 over.result z.1 Last before after (seen z.2) ⊤ (hears over.result))
              (λ i. (policy i, opened_so i, sym over.disk_is i)) met;
          unfailed = λ none. ap (λ (d : D). (seen d).faults) over.disk_is ∙ (over.keeps.stays.unfailed (ap is_some (none ∙ sym unmarked)) ∙ unfailed);
          failed = λ es is. ap (λ (d : D). (seen d).faults) over.disk_is ∙ (over.keeps.stays.failed unmarked es is ∙ ap raised unfailed);
          since = subst (λ (d : D). LeavesOnly (seen disk) (seen d) SinceOr) (sym over.disk_is) since_opened;
          left = λ c image.
              subst (λ (t : Bytes). IsLeftBy accepted t Last c) (over.keeps.stays.policy ∙ policy)
              ((based_later seen only read First over.closed P G (point_places file) over.keeps at).each c (subst (λ (d : D). (seen d).images c) over.disk_is image));
        }

  -- what was answered, whatever the disk tells
  answers : IsAnsweredOverBy accepted text P outcome (seen disk) (seen now) before after hears
  answers = record {
    first = reached_by P led.0 store;
    seen = if_places (seen disk).contents (IsSeenAs P store.policy store.point store.before store.entries) (IsSeenAtBy accepted P text (reached_by P led.0 store))
        (λ file is. seen_at P led.0 text store file policy led.1 is) shown;
    unmarked = unmarked;
    result = over.result;
    last = reached_by P led.0 over.closed.store;
    outcome_is = over.outcome_is;
    answered = over.answered P led.0 (ap accepted policy ∙ accepts) led.1;
    unfailed = λ none. ap (λ (d : D). (seen d).faults) over.disk_is ∙ (over.keeps.stays.unfailed (ap is_some (none ∙ sym unmarked)) ∙ unfailed);
    failed = λ es is. ap (λ (d : D). (seen d).faults) over.disk_is ∙ (over.keeps.stays.failed unmarked es is ∙ ap raised unfailed);
  }

  -- a conversation over a store that was opened
  pub held_over : ((file : Bytes) (H : History) → (seen disk).contents ≡ Some file → IsFoundAs text file H → GoesOnFrom seen P store H)
      → IsHeldBy accepted text outcome (seen disk) (seen now) before after hears
  held_over founded = record {
    policy = P;
    reads_so = accepts;
    answers = answers;
    run = λ file opening is found.
        let goes = founded file opening is found in
        subst (λ (H : History). IsHeldBehindBy accepted text P file H outcome (seen disk) (seen now) before after hears) (sym goes.all)
        (held file is goes.before goes.founded (subst (λ (H : History). IsFoundAs text file H) goes.all found));
  }

-- an opened store has a trace that leads to where it begins
pub led_so : {D : Type 0} (text : Bytes) (store : Kept D) → store.policy ≡ text → IsSome (accepted text)
    → ((P : PlainPolicy) → accepted text ≡ Some P → (T : Trace) × IsStart P store.point store.before T) → IsLed store
led_so text store policy some leads = by (accepted text) refl some
  where
    by : (o : Option PlainPolicy) → accepted text ≡ o → IsSome o → IsLed store
    by None is some = absurd (let no : false ≡ true = some in cc no)
    by (Some P) is some = let start = leads P is in record { P = P; accepts = ap accepted policy ∙ is; begun = start.0; starts = start.1 }
