-- What the runs of a store leave true between it and what it becomes.
use Rattle.std.proofs.Common.{◌≡◌, ◌⊎◌, inl, inr, ⊎_elim, ℕ, ◌≤◌, List, ◌++◌, append_assoc, Option, Some, None, IsSome, true, false, arith, sym, ap, ◌∙◌, refl, subst}
use Rattle.std.specs.Prelude.{is_some}
use Rattle.ucon_model.specs.History.{History}
use Rattle.ucon_model.specs.Plain.{Bytes, PlainPolicy}
use Rattle.ucon_disk.specs.Causes.{raised}
use Rattle.ucon_disk.specs.Run.{IsAtRest, LeavesAfter, LeavesOnly, joined, started, weaker}
use Rattle.ucon_turn.specs.Lists.{Begins, begins_refl, begins_trans}
use Rattle.ucon_store.specs.Found.{IsFoundAs, IsFoundMarked}
use Rattle.ucon_store.specs.Keeping.{GrowsFrom, grows_on, grows_same}
use Rattle.ucon_store.specs.Kept.{Kept}
use Rattle.ucon_store.specs.Whole.{IsFounded, left_founded, whole}
use Rattle.ucon_disk.specs.Seen.{DiskSeen}

-- found as a beginning of y's entries that isn't shorter than x's, or as them with y's mark
pub record IsFoundBetween {D : Type 0} (x y : Kept D) (c : Bytes) : Type 0 where
  pub history : History
  pub found : IsFoundAs y.policy c history
  pub begun : Begins x.entries history
  pub within : Begins history y.entries ⊎ ((es : History) × (y.mark ≡ Some es) × (history ≡ y.entries ++ es))

-- the disk is at rest, with a file that keeps this one's records before all else
pub record RestsGrown {D : Type 0} (seen : D → DiskSeen) (disk : D) (file : Bytes) : Type 0 where
  pub now : Bytes
  pub rest : IsAtRest (seen disk) now
  pub grown : GrowsFrom file now

-- The policy, where the store begins and the opening stay, entries are only added, and a store with a mark stays as it is. The disk's count of
-- faults is one more where there is a mark now and was none, and otherwise as it was. Where the disk tells, it still does. Behind each history
-- that x is founded on, each image since is one of those at first, or is found between the two; y is founded on that history, too, if it has no
-- mark; and each image now is found as that history with y's entries behind it, or as these with y's mark. Whatever is found: if x's disk was at
-- rest, each image since keeps the records of x's file before all else, and its version; without a mark y's disk is at rest with such a file.
pub record Stays {D : Type 0} (seen : D → DiskSeen) (x y : Kept D) : Type 0 where
  pub policy : y.policy ≡ x.policy
  pub point : y.point ≡ x.point
  pub before : y.before ≡ x.before
  pub opening : y.opening ≡ x.opening
  pub entries : Begins x.entries y.entries
  pub mark : (es : History) → x.mark ≡ Some es → y ≡ x
  pub unfailed : is_some y.mark ≡ is_some x.mark → (seen y.disk).faults ≡ (seen x.disk).faults
  pub failed : x.mark ≡ None → (es : History) → y.mark ≡ Some es → (seen y.disk).faults ≡ raised (seen x.disk).faults
  pub tells : IsSome (seen x.disk).contents → IsSome (seen y.disk).contents
  pub left : (P : PlainPolicy) (G : History) → IsFounded seen P x G → IsSome (seen x.disk).contents
      → LeavesOnly (seen x.disk) (seen y.disk) (λ c. (seen x.disk).images c ⊎ IsFoundBetween (whole G x) (whole G y) c)
  pub founded : (P : PlainPolicy) (G : History) → IsFounded seen P x G → y.mark ≡ None → IsFounded seen P y G
  pub left_now : (P : PlainPolicy) (G : History) → IsFounded seen P x G → IsSome (seen y.disk).contents
      → (c : Bytes) → (seen y.disk).images c → IsFoundMarked y.policy (G ++ y.entries) y.mark c
  pub grows : LeavesAfter (seen x.disk) (seen y.disk) GrowsFrom
  pub rests : y.mark ≡ None → (file : Bytes) → IsAtRest (seen x.disk) file → RestsGrown seen y.disk file

none_or_some : {A : Type 0} (o : Option A) → (o ≡ None) ⊎ ((a : A) × (o ≡ Some a))
none_or_some None = inl refl
none_or_some (Some a) = inr (a, refl)

-- entries that begin with others still do behind more
begins_behind : (G xs ys : History) → Begins xs ys → Begins (G ++ xs) (G ++ ys)
begins_behind G xs ys b = (b.0, append_assoc G xs b.0 ∙ ap (λ (l : History). G ++ l) b.1)

-- it is reflexive and composes, for disks whose images keep these laws
module _ {D : Type 0} (seen : D → DiskSeen) where
  pub stays_same : ((d : D) (c : List ℕ) → (seen d).images_since (seen d).moment c → (seen d).images c) → (x : Kept D)
      → Stays seen x x
  stays_same only x = record {
    policy = refl;
    point = refl;
    before = refl;
    opening = refl;
    entries = begins_refl x.entries;
    mark = λ es is. refl;
    unfailed = λ same. refl;
    failed = λ none es some. let no : None ≡ Some es = sym none ∙ some in absurd (cc no);
    tells = λ told. told;
    left = λ P G f told. record { later = omega arith; each = λ c since. inl (only x.disk c since); before = λ t c le since. inl since };
    founded = λ P G f none. f;
    left_now = λ P G f. left_founded seen P x G f;
    grows = record {
      each = λ file rest. started (seen x.disk) (GrowsFrom file) (λ c since. subst (GrowsFrom file) (sym (rest.only c (only x.disk c since))) (grows_same file));
    };
    rests = λ none file rest. record { now = file; rest = rest; grown = grows_same file };
  }

  module _ (counts : (d : D) (t : ℕ) (c : List ℕ) → t ≤ (seen d).moment → (seen d).images c → (seen d).images_since t c) (x y z : Kept D)
      (p : Stays seen x y) (q : Stays seen y z) where
    module _ (G : History) where
      found_later : (c : List ℕ) → IsFoundBetween (whole G x) (whole G y) c → y.mark ≡ None → IsFoundBetween (whole G x) (whole G z) c
      found_later c f none = record {
        history = f.history;
        found = subst (λ (text : Bytes). IsFoundAs text c f.history) (sym q.policy) f.found;
        begun = f.begun;
        within = ⊎_elim
            (λ (b : Begins f.history (G ++ y.entries)).
            inl (begins_trans f.history (G ++ y.entries) (G ++ z.entries) b (begins_behind G y.entries z.entries q.entries)))
            (λ (b : (es : History) × (y.mark ≡ Some es) × (f.history ≡ (G ++ y.entries) ++ es)).
            let no : None ≡ Some b.0 = sym none ∙ b.1 in absurd (cc no))
            f.within;
      }

      found_sooner : (c : List ℕ) → IsFoundBetween (whole G y) (whole G z) c → IsFoundBetween (whole G x) (whole G z) c
      found_sooner c f = record {
        history = f.history;
        found = f.found;
        begun = begins_trans (G ++ x.entries) (G ++ y.entries) f.history (begins_behind G x.entries y.entries p.entries) f.begun;
        within = f.within;
      }

      first : y.mark ≡ None → (c : List ℕ) → (seen x.disk).images c ⊎ IsFoundBetween (whole G x) (whole G y) c
          → (seen x.disk).images c ⊎ IsFoundBetween (whole G x) (whole G z) c
      first none c h = ⊎_elim inl (λ f. inr (found_later c f none)) h

      second : y.mark ≡ None → LeavesOnly (seen x.disk) (seen y.disk) (λ c. (seen x.disk).images c ⊎ IsFoundBetween (whole G x) (whole G y) c)
          → (c : List ℕ) → (seen y.disk).images c ⊎ IsFoundBetween (whole G y) (whole G z) c → (seen x.disk).images c ⊎ IsFoundBetween (whole G x) (whole G z) c
      second none run c h =
          ⊎_elim (λ i. first none c (run.each c (counts y.disk (seen x.disk).moment c run.later i))) (λ f. inr (found_sooner c f)) h

      left_unmarked : (P : PlainPolicy) → IsFounded seen P x G → y.mark ≡ None → IsSome (seen x.disk).contents
          → LeavesOnly (seen x.disk) (seen z.disk) (λ c. (seen x.disk).images c ⊎ IsFoundBetween (whole G x) (whole G z) c)
      left_unmarked P f none told =
          let run = p.left P G f told in
          let next = q.left P G (p.founded P G f none) (p.tells told) in record {
            later = omega (arith, run.later, next.later);
            each = λ c since. ⊎_elim (λ s. first none c (run.each c s)) (second none run c) (next.before (seen x.disk).moment c run.later since);
            before = λ t c le since. ⊎_elim (λ s. ⊎_elim (λ i. inl i) (λ h. inr (first none c h)) (run.before t c le s))
                (λ h. inr (second none run c h)) (next.before t c (omega (arith, le, run.later)) since);
          }

    -- what y leaves where it is stopped stays
    stopped : (Q : Kept D → Type 0) (es : History) → y.mark ≡ Some es → Q y → Q z
    stopped Q es is h = subst Q (sym (q.mark es is)) h

    left_again : (P : PlainPolicy) (G : History) → IsFounded seen P x G → IsSome (seen x.disk).contents
        → LeavesOnly (seen x.disk) (seen z.disk) (λ c. (seen x.disk).images c ⊎ IsFoundBetween (whole G x) (whole G z) c)
    left_again P G f told = ⊎_elim
        (λ (unmarked : y.mark ≡ None). left_unmarked G P f unmarked told)
        (λ (marked : (es : History) × (y.mark ≡ Some es)).
        stopped (λ (s : Kept D). LeavesOnly (seen x.disk) (seen s.disk) (λ c. (seen x.disk).images c ⊎ IsFoundBetween (whole G x) (whole G s) c))
        marked.0 marked.1 (p.left P G f told))
        (none_or_some y.mark)

    unmarked_before : z.mark ≡ None → y.mark ≡ None
    unmarked_before none = ⊎_elim
        (λ (unmarked : y.mark ≡ None). unmarked)
        (λ (marked : (es : History) × (y.mark ≡ Some es)). ap (λ (s : Kept D). s.mark) (sym (q.mark marked.0 marked.1)) ∙ none)
        (none_or_some y.mark)

    left_now_again : (P : PlainPolicy) (G : History) → IsFounded seen P x G → IsSome (seen z.disk).contents
        → (c : Bytes) → (seen z.disk).images c → IsFoundMarked z.policy (G ++ z.entries) z.mark c
    left_now_again P G f = ⊎_elim
        (λ (unmarked : y.mark ≡ None). q.left_now P G (p.founded P G f unmarked))
        (λ (marked : (es : History) × (y.mark ≡ Some es)).
        stopped
        (λ (s : Kept D). IsSome (seen s.disk).contents → (c : Bytes) → (seen s.disk).images c → IsFoundMarked s.policy (G ++ s.entries) s.mark c)
        marked.0 marked.1 (p.left_now P G f))
        (none_or_some y.mark)

    grows_again : (file : Bytes) → IsAtRest (seen x.disk) file → LeavesOnly (seen x.disk) (seen z.disk) (GrowsFrom file)
    grows_again file rest = ⊎_elim
        (λ (unmarked : y.mark ≡ None).
        let there = p.rests unmarked file rest in
        joined (seen x.disk) (seen y.disk) (seen z.disk) (GrowsFrom file) (p.grows.each file rest)
        (weaker (seen y.disk) (seen z.disk) (GrowsFrom there.now) (GrowsFrom file) (λ c. grows_on file there.now c there.grown) (q.grows.each there.now there.rest)))
        (λ (marked : (es : History) × (y.mark ≡ Some es)).
        stopped (λ (s : Kept D). LeavesOnly (seen x.disk) (seen s.disk) (GrowsFrom file)) marked.0 marked.1 (p.grows.each file rest))
        (none_or_some y.mark)

    rests_again : z.mark ≡ None → (file : Bytes) → IsAtRest (seen x.disk) file → RestsGrown seen z.disk file
    rests_again none file rest =
        let there = p.rests (unmarked_before none) file rest in
        let last = q.rests none there.now there.rest in
        record { now = last.now; rest = last.rest; grown = grows_on file there.now last.now there.grown last.grown }

    unfailed_again : is_some z.mark ≡ is_some x.mark → (seen z.disk).faults ≡ (seen x.disk).faults
    unfailed_again same = by_mark x.mark refl
      where
        by_mark : (m : Option History) → x.mark ≡ m → (seen z.disk).faults ≡ (seen x.disk).faults
        by_mark (Some es) is =
            let here : y ≡ x = p.mark es is in
            let there : z ≡ y = q.mark es (ap (λ (s : Kept D). s.mark) here ∙ is) in
            ap (λ (s : Kept D). (seen s.disk).faults) (there ∙ here)
        by_mark None is = ⊎_elim
            (λ (unmarked : y.mark ≡ None). q.unfailed (same ∙ ap is_some (is ∙ sym unmarked)) ∙ p.unfailed (ap is_some (unmarked ∙ sym is)))
            (λ (marked : (es : History) × (y.mark ≡ Some es)).
            let there : z.mark ≡ Some marked.0 = ap (λ (s : Kept D). s.mark) (q.mark marked.0 marked.1) ∙ marked.1 in
            let bad : true ≡ false = sym (ap is_some there) ∙ (same ∙ ap is_some is) in absurd (cc bad))
            (none_or_some y.mark)

    failed_again : x.mark ≡ None → (es : History) → z.mark ≡ Some es → (seen z.disk).faults ≡ raised (seen x.disk).faults
    failed_again none es some = ⊎_elim
        (λ (unmarked : y.mark ≡ None). q.failed unmarked es some ∙ ap raised (p.unfailed (ap is_some (unmarked ∙ sym none))))
        (λ (marked : (es : History) × (y.mark ≡ Some es)).
        ap (λ (s : Kept D). (seen s.disk).faults) (q.mark marked.0 marked.1) ∙ p.failed none marked.0 marked.1)
        (none_or_some y.mark)

    pub stays_again : Stays seen x z
    stays_again = record {
      policy = q.policy ∙ p.policy;
      point = q.point ∙ p.point;
      before = q.before ∙ p.before;
      opening = q.opening ∙ p.opening;
      entries = begins_trans x.entries y.entries z.entries p.entries q.entries;
      mark = λ es is. let here : y ≡ x = p.mark es is in q.mark es (ap (λ (s : Kept D). s.mark) here ∙ is) ∙ here;
      unfailed = unfailed_again;
      failed = failed_again;
      tells = λ told. q.tells (p.tells told);
      left = left_again;
      founded = λ P G f none. q.founded P G (p.founded P G f (unmarked_before none)) none;
      left_now = left_now_again;
      grows = record { each = grows_again };
      rests = rests_again;
    }
