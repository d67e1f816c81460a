-- A store that makes checkpoints: what is told of them, and what a crash leaves of them.
use Rattle.std.proofs.Common.{◌≡◌, ◌≢◌, ◌↔◌, ◌⊎◌, inl, inr, ⊎_elim, true, false, Result, Ok, Err, ℕ, ◌+◌, ◌<◌, ◌≤◌, List, [], ◌∷◌, ◌++◌, length, append_assoc, refl, sym, ap, subst, ◌∙◌}
use Rattle.std.specs.Prelude.{Option, Some, None, IsSome, IfSome, IfOk, IfErr, OnOk, IsErrOf, bytes_eq}
use Rattle.ucon_disk.specs.Disk.{Only}
use Rattle.ucon_disk.specs.Run.{LeavesOnly, weaker}
use Rattle.ucon_disk.specs.Seen.{DiskSeen}
use Rattle.ucon_journal.specs.Found.{counted}
use Rattle.ucon_journal.specs.JournalBytes.{magic}
use Rattle.ucon_model.specs.Action.{Trace}
use Rattle.ucon_model.specs.History.{History, trace}
use Rattle.ucon_model.specs.Payload.{most_payload}
use Rattle.ucon_model.specs.Plain.{Bytes, PlainPolicy}
use Rattle.ucon_point.specs.PointText.{point_text}
use Rattle.ucon_state.specs.Held.{held_after}
use Rattle.ucon_syntax.specs.Policies.{accepted}
use Rattle.ucon_turn.specs.Lists.{Begins, begins_refl}
use Rattle.ucon_store.specs.declared.fault.PointFault.{PointFault}
use Rattle.ucon_store.specs.declared.fault.PointFault.TheVariants as faults
use Rattle.ucon_store.specs.Kept.{Kept}
use Rattle.ucon_store.specs.Pointing.{HasFailedPoint, IsFoundPointed, IsSameStore, IsUnpointed}
use Rattle.ucon_store.specs.Points.{SameKind, checkpoint, has_points, point_places, text_behind, text_in_force}
use Rattle.ucon_store.specs.Starts.{IsStart, checkpoint_behind, text_at_start}
use Rattle.ucon_store.specs.Stays.{Stays}
use Rattle.ucon_store.specs.Steps.{AddsAtMost, AddsTogether}
use Rattle.ucon_store.specs.Whole.{IsFounded, IsFront}
use Rattle.ucon_converse.specs.declared.points.Points.{Points}
use Rattle.ucon_converse.specs.Answering.{Answering, answering}
use Rattle.ucon_converse.specs.Holding.{HasFirst, HasPointsOf, HasPointsPast, IsFoundedAt, standing, stands}
use Rattle.ucon_converse.specs.Keeping.{IsDated, Keeps, KeepsPoints}
use Rattle.ucon_converse.specs.KeeperLaws.{keeps_same, left_founded}
use Rattle.ucon_converse.specs.Noted.{noted}
use Rattle.ucon_converse.specs.Replies.{IsPointed}
use Rattle.ucon_converse.proofs.Stepping.{moments_rise, not_marked}
use Rattle.ucon_converse.proofs.Tellings.{whole_count, whole_trace}

-- ---- a checkpoint behind a history

text_append : (text : Bytes) (G H : History) → text_in_force text (G ++ H) ≡ text_in_force (text_in_force text G) H
text_append text [] H = refl
text_append text (e ∷ G) H = text_append (text_behind text e.command) G H

-- behind a history that leads to where a store begins, its checkpoint is that of the history with its entries
pub checkpoint_whole : {D : Type 0} (P : PlainPolicy) (s : Kept D) (G : History) → IsFront P s G
    → checkpoint_behind s.policy s.point s.before P (trace P G) s.entries ≡ checkpoint s.policy P (G ++ s.entries)
checkpoint_whole P s G front =
    let count : s.before + length s.entries ≡ length (G ++ s.entries) = whole_count P s G front in
    let text : text_in_force (text_at_start s.policy s.point) s.entries ≡ text_in_force s.policy (G ++ s.entries) =
    sym (text_append s.policy G s.entries ∙ ap (λ (t : Bytes). text_in_force t s.entries) front.text) in
    λ i. point_text (count i) (text i) (held_after P (whole_trace P s G i))

-- ---- what is told

module _ {D : Type 0} (seen : D → DiskSeen) (P : PlainPolicy) (old new : Kept D) (points : Points) (G : History) (places : List ℕ) (front : IsFront P old G) where
  -- the same store, with what was noted
  same_but : (tried : ℕ) → new ≡ old → tried ≡ length (G ++ old.entries)
      → standing G places (answering new (record { made = points.made; tried = tried }))
      ≡ record { history = G ++ old.entries; failed = old.mark; points = places ++ points.made; tried = length (G ++ old.entries) }
  same_but tried same is = λ i. stands G (places ++ points.made) (is i) (same i)

  pub pointed_so : (said : Result ℕ PointFault) → (IsErrOf said faults.Stopped ↔ IsSome old.mark) → IfErr said (λ fault. fault ≢ faults.DiskFault → new ≡ old)
      → IfErr said (λ fault. IsUnpointed seen P (trace P G) old fault)
      → IfOk said (λ entries. IsSameStore old new × (entries ≡ old.before + length old.entries) × (old.mark ≡ None))
      → (IsErrOf said faults.DiskFault → HasFailedPoint seen old new)
      → (steps : ℕ) → steps ≡ new.before + length new.entries → new.before ≡ old.before
      → IsPointed (IsDated (seen old.disk).contents) P old.policy (standing G places (answering old points)) (standing G places (answering new (noted said steps points))) said
  pointed_so (Ok n) halted same why pointed failed steps at before =
      let is = pointed.0 in
      let count : n ≡ length (G ++ old.entries) = pointed.1 ∙ whole_count P old G front in (
        pointed.2,
        count,
        λ i. record {
          history = G ++ is.entries i;
          failed = is.mark i;
          points = (sym (append_assoc places points.made (n ∷ [])) ∙ ap (λ (k : ℕ). (places ++ points.made) ++ k ∷ []) count) i;
          tried = count i;
        },
      )
  pointed_so (Err faults.DiskFault) halted same why pointed failed steps at before =
      let f = failed refl in
      let count : steps ≡ length (G ++ old.entries) = at ∙ ((λ i. before i + length (f.entries i)) ∙ whole_count P old G front) in
      (f.unmarked, λ i. record { history = G ++ f.entries i; failed = f.mark i; points = places ++ points.made; tried = count i })
  pointed_so (Err faults.Stopped) halted same why pointed failed steps at before =
      (halted.0 refl, ap (λ (s : Kept D). standing G places (answering s points)) (same (λ bad. absurd (cc bad))))
  pointed_so (Err faults.OldJournal) halted same why pointed failed steps at before =
      let still : new ≡ old = same (λ bad. absurd (cc bad)) in
      let none : old.mark ≡ None = not_marked old.mark (λ some. let no : Err faults.OldJournal ≡ Err faults.Stopped = halted.1 some in absurd (cc no)) in
      let count : steps ≡ length (G ++ old.entries) = at ∙ (ap (λ (s : Kept D). s.before + length s.entries) still ∙ whole_count P old G front) in
      (none, why, same_but steps still count)
  pointed_so (Err (faults.TooLarge size)) halted same why pointed failed steps at before =
      let still : new ≡ old = same (λ bad. absurd (cc bad)) in
      let none : old.mark ≡ None = not_marked old.mark (λ some. let no : Err (faults.TooLarge size) ≡ Err faults.Stopped = halted.1 some in absurd (cc no)) in
      let count : steps ≡ length (G ++ old.entries) = at ∙ (ap (λ (s : Kept D). s.before + length s.entries) still ∙ whole_count P old G front) in
      let long : most_payload < length (checkpoint old.policy P (G ++ old.entries)) =
      subst (λ (n : ℕ). most_payload < n) (why.1 ∙ ap length (checkpoint_whole P old G front)) why.2 in
      (none, long, same_but steps still count)
  pointed_so (Err (faults.NoMemory e)) halted same why pointed failed steps at before =
      let still : new ≡ old = same (λ bad. absurd (cc bad)) in
      let none : old.mark ≡ None = not_marked old.mark (λ some. let no : Err (faults.NoMemory e) ≡ Err faults.Stopped = halted.1 some in absurd (cc no)) in
      let count : steps ≡ length (G ++ old.entries) = at ∙ (ap (λ (s : Kept D). s.before + length s.entries) still ∙ whole_count P old G front) in
      (none, same_but steps still count)

-- ---- what is left

-- both of what a run leaves
both_left : (old new : DiskSeen) (P Q : Bytes → Type 0) → LeavesOnly old new P → LeavesOnly old new Q → LeavesOnly old new (λ c. P c × Q c)
both_left old new P Q p q = record {
  later = p.later;
  each = λ c since. (p.each c since, q.each c since);
  before = λ t c le since. ⊎_elim inl (λ x. ⊎_elim inl (λ y. inr (x, y)) (q.before t c le since)) (p.before t c le since);
}

kind_added : (added : List Bytes) (file c : Bytes) → AddsTogether added file c → has_points c ≡ has_points file
kind_added added file c adds = ap (λ (m : Bytes). bytes_eq m (magic 2)) adds.magic

first_added : (text : Bytes) (added : List Bytes) (file c : Bytes) → AddsTogether added file c → HasFirst text file → HasFirst text c
first_added text added file c adds first = ⊎_elim
    (λ (same : counted c ≡ counted file). (first.0, same ∙ first.1))
    (λ (more : counted c ≡ counted file ++ added). (first.0 ++ added, more ∙ ap (λ (l : List Bytes). l ++ added) first.1)) adds.payloads

told_is : (o : Option Bytes) → IsSome o → (file : Bytes) × (o ≡ Some file)
told_is None some = absurd (let no : false ≡ true = some in cc no)
told_is (Some file) some = (file, refl)

-- a disk that tells only this file
only_file : (o : Option Bytes) (images : Bytes → Type 0) (file : Bytes) → o ≡ Some file → Only o images → (c : Bytes) → images c → c ≡ file
only_file o images file is only c image = let there : Only (Some file) images = subst (λ (p : Option Bytes). Only p images) is only in there c image

if_told : (o : Option Bytes) (A : Bytes → Type 0) (file : Bytes) → o ≡ Some file → IfSome o A → A file
if_told o A file is h = let there : IfSome (Some file) A = subst (λ (p : Option Bytes). IfSome p A) is h in there

module _ {D : Type 0} (seen : D → DiskSeen) (only : (d : D) (c : List ℕ) → (seen d).images_since (seen d).moment c → (seen d).images c)
    (read : (d : D) → IfSome (seen d).contents (seen d).images)
    (counts : (d : D) (t : ℕ) (c : List ℕ) → t ≤ (seen d).moment → (seen d).images c → (seen d).images_since t c) where
  -- a run that adds payloads at most leaves the journal of its version
  same_kind_by : (old new : D) (added : List Bytes) → ((file : Bytes) → (seen old).contents ≡ Some file → LeavesOnly (seen old) (seen new) (AddsTogether added file))
      → SameKind (seen old).contents (seen new).contents
  same_kind_by old new added adds = by (seen old).contents (seen new).contents refl (read new)
    where
      by : (o p : Option Bytes) → (seen old).contents ≡ o → IfSome p (seen new).images → SameKind o p
      by None p is image = tt
      by (Some file) None is image = tt
      by (Some file) (Some now) is image =
          let run = adds file is in kind_added added file now (run.each now (counts new (seen old).moment now run.later image))

  -- ---- over a step

  module _ (old new : Kept D) (made : List ℕ) (tried : ℕ) where
    abbrev Was : Answering D
    Was = record { store = old; made = made; tried = tried }

    abbrev Is : Answering D
    Is = record { store = new; made = made; tried = tried }

    pub keeps_nothing : new ≡ old → Keeps seen Was Is
    keeps_nothing same = subst (λ (s : Kept D). Keeps seen Was (record { store = s; made = made; tried = tried })) (sym same) (keeps_same seen only Was)

    -- these payloads were added together at most, of which none is a checkpoint
    pub keeps_steps : (added : List Bytes) → ((file c : Bytes) → AddsTogether added file c → point_places c ≡ point_places file) → Stays seen old new
        → ((es : History) → old.mark ≡ Some es → new ≡ old)
        → ((file : Bytes) → old.mark ≡ None → (seen old.disk).contents ≡ Some file → LeavesOnly (seen old.disk) (seen new.disk) (AddsTogether added file))
        → old.mark ≡ None → Keeps seen Was Is
    keeps_steps added same stays still adds none = record {
      stays = stays;
      later = moments_rise (seen old.disk) (seen new.disk) (λ file told. (adds file none told).later) stays.tells;
      still = λ es is. λ i. record { store = still es is i; made = made; tried = tried };
      kind = same_kind_by old.disk new.disk added (λ file told. adds file none told);
      made = begins_refl made;
      points = points;
    }
      where
        points : (P : PlainPolicy) (G : History) (places : List ℕ) → IsFoundedAt seen P Was G places → KeepsPoints seen Was Is G places
        points P G places f =
            let told = told_is (seen old.disk).contents f.told in
            let run = adds told.0 none told.1 in
            let at : HasFirst old.policy told.0 × (point_places told.0 ≡ places ++ made) =
            left_founded seen only P Was G places f told.0 (if_told (seen old.disk).contents (seen old.disk).images told.0 told.1 (read old.disk)) in
            let there : (c : Bytes) → AddsTogether added told.0 c → HasFirst old.policy c × (point_places c ≡ places ++ made) =
            λ c a. (first_added old.policy added told.0 c a at.0, same told.0 c a ∙ at.1) in
            record {
              since = weaker (seen old.disk) (seen new.disk) (AddsTogether added told.0) (HasPointsPast old.policy (places ++ made))
                  (λ c a.
                  let h = there c a in
                  record { recorded = h.0; kept = subst (λ (l : List ℕ). Begins (places ++ made) l) (sym h.1) (begins_refl (places ++ made)) }) run;
              now = λ c image.
                  let h = there c (run.each c (counts new.disk (seen old.disk).moment c run.later image)) in
                  (subst (λ (text : Bytes). HasFirst text c) (sym stays.policy) h.0, inl h.1);
            }

  -- ---- over a checkpoint

  module _ (old new : Kept D) (points : Points) where
    -- what is left where a checkpoint was tried
    pub keeps_point : (payload : Bytes) (said : Result ℕ PointFault) (steps : ℕ) → Stays seen old new → old.mark ≡ None
        → ((file : Bytes) → (seen old.disk).contents ≡ Some file → LeavesOnly (seen old.disk) (seen new.disk) (AddsAtMost payload file))
        → ((P : PlainPolicy) (G : History) (file : Bytes) → IsFounded seen P old G → (seen old.disk).contents ≡ Some file
        → LeavesOnly (seen old.disk) (seen new.disk) (IsFoundPointed old.policy (G ++ old.entries) (point_places file)))
        → IfErr said (λ fault. fault ≢ faults.DiskFault → new ≡ old)
        → (IsErrOf said faults.DiskFault → HasFailedPoint seen old new)
        → OnOk said (Only (seen new.disk).contents (seen new.disk).images)
        → OnOk said ((P : PlainPolicy) (G : History) (before file : Bytes) → IsFounded seen P old G → (seen old.disk).contents ≡ Some before
        → (seen new.disk).contents ≡ Some file → point_places file ≡ point_places before ++ length (G ++ old.entries) ∷ [])
        → IfOk said (λ entries. IsSameStore old new × (entries ≡ old.before + length old.entries) × (old.mark ≡ None))
        → Keeps seen (answering old points) (answering new (noted said steps points))
    keeps_point payload said steps stays none adds inside same failed rest added pointed = record {
      stays = stays;
      later = moments_rise (seen old.disk) (seen new.disk) (λ file told. (adds file told).later) stays.tells;
      still = λ es is. let no : None ≡ Some es = sym none ∙ is in absurd (cc no);
      kind = same_kind_by old.disk new.disk (payload ∷ []) adds;
      made = more said;
      points = λ P G places f.
          let told = told_is (seen old.disk).contents f.told in
          let at : HasFirst old.policy told.0 × (point_places told.0 ≡ places ++ points.made) =
          left_founded seen only P (answering old points) G places f told.0 (if_told (seen old.disk).contents (seen old.disk).images told.0 told.1 (read old.disk)) in
          let run = adds told.0 told.1 in
          let found = inside P G told.0 f.founded told.1 in
          record {
            since = weaker (seen old.disk) (seen new.disk)
                (λ c. AddsAtMost payload told.0 c × IsFoundPointed old.policy (G ++ old.entries) (point_places told.0) c) (HasPointsPast old.policy (places ++ points.made))
                (λ c h. record {
                  recorded = first_added old.policy (payload ∷ []) told.0 c h.0 at.0;
                  kept = past (places ++ points.made) (point_places told.0) (length (G ++ old.entries)) c at.1 h.1.1;
                })
                (both_left (seen old.disk) (seen new.disk) (AddsAtMost payload told.0) (IsFoundPointed old.policy (G ++ old.entries) (point_places told.0)) run found);
            now = λ c image.
                let since = counts new.disk (seen old.disk).moment c run.later image in (
                  subst (λ (text : Bytes). HasFirst text c) (sym stays.policy) (first_added old.policy (payload ∷ []) told.0 c (run.each c since) at.0),
                  places_now P G places f told.0 told.1 at.1 c (found.each c since).1 image said same failed rest added pointed,
                );
          };
    }
      where
        more : (r : Result ℕ PointFault) → Begins points.made (noted r steps points).made
        more (Ok n) = (n ∷ [], refl)
        more (Err faults.DiskFault) = begins_refl points.made
        more (Err faults.Stopped) = begins_refl points.made
        more (Err faults.OldJournal) = begins_refl points.made
        more (Err (faults.TooLarge size)) = begins_refl points.made
        more (Err (faults.NoMemory e)) = begins_refl points.made

        past : (places there : List ℕ) (n : ℕ) (c : Bytes) → there ≡ places → (point_places c ≡ there) ⊎ (point_places c ≡ there ++ n ∷ []) → Begins places (point_places c)
        past places there n c is (inl e) = subst (λ (l : List ℕ). Begins places l) (sym (e ∙ is)) (begins_refl places)
        past places there n c is (inr e) = (n ∷ [], ap (λ (l : List ℕ). l ++ n ∷ []) (sym is) ∙ sym e)

        refused : (P : PlainPolicy) (G : History) (places : List ℕ) → IsFoundedAt seen P (answering old points) G places → (c : Bytes) → (seen new.disk).images c → new ≡ old
            → point_places c ≡ places ++ points.made
        refused P G places f c image still = (left_founded seen only P (answering old points) G places f c (subst (λ (s : Kept D). (seen s.disk).images c) still image)).1

        places_now : (P : PlainPolicy) (G : History) (places : List ℕ) → IsFoundedAt seen P (answering old points) G places → (file : Bytes)
            → (seen old.disk).contents ≡ Some file → point_places file ≡ places ++ points.made
            → (c : Bytes) → (point_places c ≡ point_places file) ⊎ (point_places c ≡ point_places file ++ length (G ++ old.entries) ∷ []) → (seen new.disk).images c
            → (r : Result ℕ PointFault) → IfErr r (λ fault. fault ≢ faults.DiskFault → new ≡ old)
            → (IsErrOf r faults.DiskFault → HasFailedPoint seen old new)
            → OnOk r (Only (seen new.disk).contents (seen new.disk).images)
            → OnOk r ((Q : PlainPolicy) (F : History) (before now : Bytes) → IsFounded seen Q old F → (seen old.disk).contents ≡ Some before
            → (seen new.disk).contents ≡ Some now → point_places now ≡ point_places before ++ length (F ++ old.entries) ∷ [])
            → IfOk r (λ entries. IsSameStore old new × (entries ≡ old.before + length old.entries) × (old.mark ≡ None))
            → HasPointsOf (standing G places (answering new (noted r steps points))) c
        places_now P G places f file is at c either image (Ok n) same' failed' rest' added' pointed' =
            let there = told_is (seen new.disk).contents (stays.tells f.told) in
            let read : c ≡ there.0 = only_file (seen new.disk).contents (seen new.disk).images there.0 there.1 rest' c image in
            let count : length (G ++ old.entries) ≡ n = sym (pointed'.1 ∙ whole_count P old G f.founded.front) in
            inl (ap point_places read ∙ (added' P G file there.0 f.founded is there.1
            ∙ ((λ i. at i ++ count i ∷ []) ∙ append_assoc places points.made (n ∷ []))))
        places_now P G places f file is at c either image (Err faults.DiskFault) same' failed' rest' added' pointed' =
            let h = failed' refl in
            ⊎_elim (λ (e : point_places c ≡ point_places file). inl (e ∙ at))
            (λ (e : point_places c ≡ point_places file ++ length (G ++ old.entries) ∷ []).
            inr (h.mark, e ∙ (λ i. at i ++ length (G ++ sym h.entries i) ∷ []))) either
        places_now P G places f file is at c either image (Err faults.Stopped) same' failed' rest' added' pointed' =
            inl (refused P G places f c image (same' (λ bad. absurd (cc bad))))
        places_now P G places f file is at c either image (Err faults.OldJournal) same' failed' rest' added' pointed' =
            inl (refused P G places f c image (same' (λ bad. absurd (cc bad))))
        places_now P G places f file is at c either image (Err (faults.TooLarge size)) same' failed' rest' added' pointed' =
            inl (refused P G places f c image (same' (λ bad. absurd (cc bad))))
        places_now P G places f file is at c either image (Err (faults.NoMemory e)) same' failed' rest' added' pointed' =
            inl (refused P G places f c image (same' (λ bad. absurd (cc bad))))

    -- the same, whether the store was stopped or not
    pub keeps_tried : (payload : Bytes) (said : Result ℕ PointFault) (steps : ℕ) → Stays seen old new → (IsErrOf said faults.Stopped ↔ IsSome old.mark)
        → ((file : Bytes) → old.mark ≡ None → (seen old.disk).contents ≡ Some file → LeavesOnly (seen old.disk) (seen new.disk) (AddsAtMost payload file))
        → ((P : PlainPolicy) (G : History) (file : Bytes) → IsFounded seen P old G → (seen old.disk).contents ≡ Some file
        → LeavesOnly (seen old.disk) (seen new.disk) (IsFoundPointed old.policy (G ++ old.entries) (point_places file)))
        → IfErr said (λ fault. fault ≢ faults.DiskFault → new ≡ old)
        → (IsErrOf said faults.DiskFault → HasFailedPoint seen old new)
        → OnOk said (Only (seen new.disk).contents (seen new.disk).images)
        → OnOk said ((P : PlainPolicy) (G : History) (before file : Bytes) → IsFounded seen P old G → (seen old.disk).contents ≡ Some before
        → (seen new.disk).contents ≡ Some file → point_places file ≡ point_places before ++ length (G ++ old.entries) ∷ [])
        → IfOk said (λ entries. IsSameStore old new × (entries ≡ old.before + length old.entries) × (old.mark ≡ None))
        → Keeps seen (answering old points) (answering new (noted said steps points))
    keeps_tried payload said steps stays halted adds inside same failed rest added pointed = ⊎_elim
        (λ (none : old.mark ≡ None). keeps_point payload said steps stays none (λ file told. adds file none told) inside same failed rest added pointed)
        (λ (some : IsSome old.mark). stopped_before said (halted.1 some) same)
        (none_or_is old.mark)
      where
        none_or_is : (m : Option History) → (m ≡ None) ⊎ IsSome m
        none_or_is None = inl refl
        none_or_is (Some es) = inr refl

        stopped_before : (r : Result ℕ PointFault) → IsErrOf r faults.Stopped → IfErr r (λ fault. fault ≢ faults.DiskFault → new ≡ old)
            → Keeps seen (answering old points) (answering new (noted r steps points))
        stopped_before (Ok n) is still = absurd (cc is)
        stopped_before (Err faults.DiskFault) is still = absurd (cc is)
        stopped_before (Err faults.Stopped) is still =
            subst (λ (s : Kept D). Keeps seen (answering old points) (answering s points)) (sym (still (λ bad. absurd (cc bad)))) (keeps_same seen only (answering old points))
        stopped_before (Err faults.OldJournal) is still = absurd (cc is)
        stopped_before (Err (faults.TooLarge size)) is still = absurd (cc is)
        stopped_before (Err (faults.NoMemory e)) is still = absurd (cc is)

-- why none was made, behind a trace
pub why_behind : {D : Type 0} (seen : D → DiskSeen) (P : PlainPolicy) (T : Trace) (old : Kept D) (said : Result ℕ PointFault) → accepted old.policy ≡ Some P
    → IsStart P old.point old.before T
    → IfErr said (λ fault. (Q : PlainPolicy) (U : Trace) → accepted old.policy ≡ Some Q → IsStart Q old.point old.before U → IsUnpointed seen Q U old fault)
    → IfErr said (λ fault. IsUnpointed seen P T old fault)
why_behind seen P T old (Ok n) accepts starts why = tt
why_behind seen P T old (Err fault) accepts starts why = why P T accepts starts
