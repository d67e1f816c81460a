-- What a store's batch says, line by line.
use Rattle.std.proofs.Common.{zero, suc, ◌≡◌, ◌≢◌, inl, ℕ, ◌+◌, ◌≤◌, ◌<◌, true, false, List, [], ◌∷◌, ◌++◌, length, take, drop, refl, sym, ap, subst, ◌∙◌, arith}
use Rattle.std.proofs.lemmas.List.{append-nil}
use Rattle.std.specs.Prelude.{Option, Some, None, IsSome}
use Rattle.ucon_model.specs.declared.command.Entry.{Entry}
use Rattle.ucon_model.specs.Batches.{changing}
use Rattle.ucon_model.specs.History.{History, serial}
use Rattle.ucon_model.specs.LegalRun.{Answered, no_memory}
use Rattle.ucon_model.specs.Plain.{Bytes, PlainPolicy}
use Rattle.ucon_store.specs.Batched.{answers}
use Rattle.ucon_store.specs.declared.batch.BatchEnd.{BatchEnd}
use Rattle.ucon_store.specs.declared.batch.BatchEnd.TheVariants as ends
use Rattle.ucon_store.specs.declared.placed.Placed.{Placed}
use Rattle.ucon_store.specs.Kept.{Kept}
use Rattle.ucon_converse.specs.Holding.{stands}
use Rattle.ucon_converse.specs.Replies.{GoesOn, Standing}
use Rattle.ucon_converse.specs.Together.{IsNoneDueBefore, StepEach, answered_so, broken_off, is_answered, replied, unheard_first}
use Rattle.ucon_converse.proofs.Batches.{at, breaks_off, first_of, steps_all, steps_append, steps_on}

one_more : (n : ℕ) → n + 1 ≡ suc n
one_more n = omega arith

module _ {D : Type 0} (dated : Type 0) (P : PlainPolicy) (text : Bytes) (G : History) (points : List ℕ) (tried : ℕ) (old new : Kept D) (lines : List Entry) (none : old.mark ≡ None)
    (due : IsNoneDueBefore P tried (G ++ old.entries) (length lines)) where
  abbrev H : History
  H = G ++ old.entries

  abbrev Steps : List Answered → Standing → Type 0
  Steps told last = StepEach dated P text (stands G points tried old) told last

  from_here : (told : List Answered) (last : Standing) → StepEach dated P text (at dated P text points tried H None) told last → Steps told last
  from_here told last steps =
      subst (λ (m : Option History). StepEach dated P text (record { history = H; failed = m; points = points; tried = tried }) told last) (sym none) steps

  to_there : (K : History) (m : Option History) → new.mark ≡ m → G ++ new.entries ≡ K → at dated P text points tried K m ≡ stands G points tried new
  to_there K m mark all = λ i. record { history = sym all i; failed = sym mark i; points = points; tried = tried }

  -- replies were given, and behind the last a checkpoint is made, if one is due
  some_replied : (p : Placed) (ps : List Placed) (taken : ℕ) → answers (p ∷ ps) ≡ serial P H (take (length (p ∷ ps)) lines) → length (p ∷ ps) ≡ taken → taken ≤ length lines
      → G ++ new.entries ≡ H ++ changing P H (take taken lines) → new.mark ≡ None → (last : Standing) → GoesOn dated P text (stands G points tried new) last
      → Steps (replied lines (p ∷ ps)) last
  some_replied p ps taken is count within all mark last goes =
      let end : G ++ new.entries ≡ H ++ changing P H (take (length (p ∷ ps)) lines) = all ∙ ap (λ (n : ℕ). H ++ changing P H (take n lines)) (sym count) in
      from_here (replied lines (p ∷ ps)) last
      (steps_on dated P text points tried H lines p ps is (λ es lt. due es (omega arith)) last
      (subst (λ (s : Standing). GoesOn dated P text s last) (sym (to_there (H ++ changing P H (take (length (p ∷ ps)) lines)) None mark end)) goes))

  -- lines had replies, and a checkpoint is made behind the last one, if one is due
  pub steps_answered : (end : BatchEnd) (ps : List Placed) (taken : ℕ) → is_answered end ps ≡ true → answers ps ≡ serial P H (take (length ps) lines)
      → (end ≢ ends.DiskFault → length ps ≡ taken) → taken ≤ length lines → (end ≢ ends.DiskFault → G ++ new.entries ≡ H ++ changing P H (take taken lines))
      → (end ≢ ends.DiskFault → new.mark ≡ None) → (last : Standing) → GoesOn dated P text (stands G points tried new) last → Steps (answered_so end lines ps taken) last
  steps_answered ends.All [] taken holds is count within all mark last goes = absurd (cc holds)
  steps_answered ends.Full [] taken holds is count within all mark last goes = absurd (cc holds)
  steps_answered (ends.NoMemory e) [] taken holds is count within all mark last goes = absurd (cc holds)
  steps_answered ends.DiskFault [] taken holds is count within all mark last goes = absurd (cc holds)
  steps_answered ends.Stopped [] taken holds is count within all mark last goes = absurd (cc holds)
  steps_answered ends.DiskFault (p ∷ ps) taken holds is count within all mark last goes = absurd (cc holds)
  steps_answered ends.Stopped (p ∷ ps) taken holds is count within all mark last goes = absurd (cc holds)
  steps_answered ends.All (p ∷ ps) taken holds is count within all mark last goes =
      some_replied p ps taken is (count (λ bad. cc bad)) within (all (λ bad. cc bad)) (mark (λ bad. cc bad)) last goes
  steps_answered ends.Full (p ∷ ps) taken holds is count within all mark last goes =
      some_replied p ps taken is (count (λ bad. cc bad)) within (all (λ bad. cc bad)) (mark (λ bad. cc bad)) last goes
  steps_answered (ends.NoMemory e) (p ∷ ps) taken holds is count within all mark last goes =
      some_replied p ps taken is (count (λ bad. cc bad)) within (all (λ bad. cc bad)) (mark (λ bad. cc bad)) last goes

  -- there was no memory for the first line
  unheard_steps : (ls : List Entry) → lines ≡ ls → 0 < length lines → (taken : ℕ) → 0 ≡ taken → G ++ new.entries ≡ H ++ changing P H (take taken lines) → new.mark ≡ None
      → Steps (unheard_first ls) (stands G points tried new)
  unheard_steps [] is some taken count all mark = let none' : length lines ≡ 0 = ap (λ (l : List Entry). length l) is in absurd (let no : ⊥ = omega arith in no)
  unheard_steps (e ∷ ls) is some taken count all mark =
      let same : G ++ new.entries ≡ H = all ∙ (ap (λ (n : ℕ). H ++ changing P H (take n lines)) (sym count) ∙ append-nil H) in
      let there : at dated P text points tried H None ≡ stands G points tried new = to_there H None mark same in
      from_here (record { line = e; answer = no_memory } ∷ []) (stands G points tried new) (
        stands G points tried new,
        record {
          between = stands G points tried new;
          step = inl (refl, record { failed = None; mark = mark; leads = inl (tt, (same, refl)); points = refl; tried = refl });
          rests = refl;
        },
        refl,
      )

  -- the disk failed
  failed_steps : (ps : List Placed) (taken : ℕ) → answers ps ≡ serial P H (take (length ps) lines) → length ps < taken → taken ≤ length lines
      → new.entries ≡ old.entries → new.mark ≡ Some (changing P H (take taken lines)) → changing P H (take (length ps) lines) ≡ []
      → changing P H (take (length ps + 1) lines) ≢ [] → Steps (answered_so ends.DiskFault lines ps taken) (stands G points tried new)
  failed_steps ps taken is few within same mark sure first =
      let next : changing P H (take (suc (length ps)) lines) ≢ [] = subst (λ (n : ℕ). changing P H (take n lines) ≢ []) (one_more (length ps)) first in
      let f = first_of P H (length ps) taken lines few within sure next in
      let mid : Standing = at dated P text points tried H None in
      let doubt : new.mark ≡ Some (f.0 ∷ changing P (H ++ f.0 ∷ []) f.1) = mark ∙ ap Some f.4 in
      let last = to_there H (Some (f.0 ∷ changing P (H ++ f.0 ∷ []) f.1)) doubt (ap (λ (es : History). G ++ es) same) in
      let surely = steps_all dated P text points tried H lines ps is (λ es lt. due es (omega arith)) sure in
      let broken = subst (λ (z : List Entry × Standing). StepEach dated P text mid (broken_off z.0) z.1) (λ i. (sym f.2 i, last i))
      (breaks_off dated P text points tried H f.0 f.1 f.3) in
      from_here (answered_so ends.DiskFault lines ps taken) (stands G points tried new)
      (steps_append dated P text points tried mid mid (stands G points tried new) (replied lines ps) (broken_off (drop (length ps) (take taken lines))) surely broken)

  -- no line had a reply that holds, or the disk failed
  pub steps_unanswered : (end : BatchEnd) (ps : List Placed) (taken : ℕ) → is_answered end ps ≡ false → 0 < length lines → (end ≡ ends.Stopped → ⊥)
      → (end ≡ ends.All → taken ≡ length lines) → (end ≡ ends.Full → 0 < taken)
      → answers ps ≡ serial P H (take (length ps) lines) → (end ≢ ends.DiskFault → length ps ≡ taken) → (end ≡ ends.DiskFault → length ps < taken) → taken ≤ length lines
      → (end ≢ ends.DiskFault → G ++ new.entries ≡ H ++ changing P H (take taken lines)) → (end ≢ ends.DiskFault → new.mark ≡ None)
      → (end ≡ ends.DiskFault → new.entries ≡ old.entries) → (end ≡ ends.DiskFault → new.mark ≡ Some (changing P H (take taken lines)))
      → (end ≡ ends.DiskFault → changing P H (take (length ps) lines) ≡ []) → (end ≡ ends.DiskFault → changing P H (take (length ps + 1) lines) ≢ [])
      → Steps (answered_so end lines ps taken) (stands G points tried new)
  steps_unanswered ends.All (p ∷ ps) taken fails some halted all_taken full is count few within all mark same failed sure first = absurd (cc fails)
  steps_unanswered ends.Full (p ∷ ps) taken fails some halted all_taken full is count few within all mark same failed sure first = absurd (cc fails)
  steps_unanswered (ends.NoMemory e) (p ∷ ps) taken fails some halted all_taken full is count few within all mark same failed sure first = absurd (cc fails)
  steps_unanswered ends.Stopped ps taken fails some halted all_taken full is count few within all mark same failed sure first = absurd (halted refl)
  steps_unanswered ends.All [] taken fails some halted all_taken full is count few within all mark same failed sure first =
      let none' : 0 ≡ taken = count (λ bad. cc bad) in let every = all_taken refl in absurd (let bad : ⊥ = omega arith in bad)
  steps_unanswered ends.Full [] taken fails some halted all_taken full is count few within all mark same failed sure first =
      let none' : 0 ≡ taken = count (λ bad. cc bad) in let one = full refl in absurd (let bad : ⊥ = omega arith in bad)
  steps_unanswered (ends.NoMemory e) [] taken fails some halted all_taken full is count few within all mark same failed sure first =
      unheard_steps lines refl some taken (count (λ bad. cc bad)) (all (λ bad. cc bad)) (mark (λ bad. cc bad))
  steps_unanswered ends.DiskFault ps taken fails some halted all_taken full is count few within all mark same failed sure first =
      failed_steps ps taken is (few refl) within (same refl) (failed refl) (sure refl) (first refl)

-- ---- some line is answered

some_replied_is : (lines : List Entry) (ps : List Placed) → 0 < length lines → 0 < length ps → 0 < length (replied lines ps)
some_replied_is [] ps some more = absurd (let no : ⊥ = omega arith in no)
some_replied_is (e ∷ lines) [] some more = absurd (let no : ⊥ = omega arith in no)
some_replied_is (e ∷ lines) (p ∷ ps) some more = omega arith

some_unheard : (lines : List Entry) → 0 < length lines → 0 < length (unheard_first lines)
some_unheard [] some = absurd (let no : ⊥ = omega arith in no)
some_unheard (e ∷ lines) some = omega arith

some_failed : (lines : List Entry) (ps : List Placed) (taken : ℕ) → length ps < taken → taken ≤ length lines → 0 < length (replied lines ps ++ broken_off (drop (length ps) (take taken lines)))
some_failed [] ps taken few within = absurd (let no : ⊥ = omega arith in no)
some_failed (e ∷ lines) (p ∷ ps) taken few within = omega arith
some_failed (e ∷ lines) [] zero few within = absurd (let no : ⊥ = omega arith in no)
some_failed (e ∷ lines) [] (suc taken) few within = omega arith

pub some_answered : (end : BatchEnd) (lines : List Entry) (ps : List Placed) (taken : ℕ) → 0 < length lines → (end ≡ ends.Stopped → ⊥) → (end ≡ ends.All → taken ≡ length lines)
    → (end ≡ ends.Full → 0 < taken) → (end ≢ ends.DiskFault → length ps ≡ taken) → (end ≡ ends.DiskFault → length ps < taken) → taken ≤ length lines
    → 0 < length (answered_so end lines ps taken)
some_answered ends.All lines ps taken some halted all full count few within =
    let every = all refl in let same : length ps ≡ taken = count (λ bad. cc bad) in some_replied_is lines ps some (omega arith)
some_answered ends.Full lines ps taken some halted all full count few within =
    let one = full refl in let same : length ps ≡ taken = count (λ bad. cc bad) in some_replied_is lines ps some (omega arith)
some_answered (ends.NoMemory e) lines [] taken some halted all full count few within = some_unheard lines some
some_answered (ends.NoMemory e) lines (p ∷ ps) taken some halted all full count few within = some_replied_is lines (p ∷ ps) some (omega arith)
some_answered ends.DiskFault lines ps taken some halted all full count few within = some_failed lines ps taken (few refl) within
some_answered ends.Stopped lines ps taken some halted all full count few within = absurd (halted refl)

never_failed : (ps : List Placed) → is_answered ends.DiskFault ps ≡ true → ⊥
never_failed [] is = cc is
never_failed (p ∷ ps) is = cc is

-- replies that hold were given where the disk hadn't failed
pub answered_no_fault : (end : BatchEnd) (ps : List Placed) → is_answered end ps ≡ true → end ≡ ends.DiskFault → ⊥
answered_no_fault end ps holds is = never_failed ps (subst (λ (e : BatchEnd). is_answered e ps ≡ true) is holds)

pub never_stopped : {A : Type 0} (o : Option A) → o ≡ None → IsSome o → ⊥
never_stopped None none some = let no : false ≡ true = some in cc no
never_stopped (Some a) none some = cc none
