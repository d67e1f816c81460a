-- What a crash may leave over several calls.
use Rattle.std.proofs.Common.{◌≡◌, ◌⊎◌, inl, inr, ⊎_elim, ℕ, ◌≤◌, List, Option, Some, arith, subst, sym}
use Rattle.ucon_disk.specs.Disk.{Elapses}
use Rattle.ucon_disk.specs.Seen.{DiskSeen}

-- what is read is on the disk, and a crash leaves nothing else
pub record IsAtRest (disk : DiskSeen) (file : List ℕ) : Type 0 where
  pub told : disk.contents ≡ Some file
  pub only : (c : List ℕ) → disk.images c → c ≡ file

-- A crash at any moment since old leaves a file that has P.
pub record LeavesOnly (old new : DiskSeen) (P : List ℕ → Type 0) : Type 0 where
  pub later : old.moment ≤ new.moment
  pub each : (c : List ℕ) → new.images_since old.moment c → P c
  -- for a run that began earlier
  pub before : (t : ℕ) (c : List ℕ) → t ≤ old.moment → new.images_since t c → old.images_since t c ⊎ P c

-- If all that is read was on the disk, a crash at any moment since old leaves that file after a step.
pub record LeavesAfter (old new : DiskSeen) (step : List ℕ → List ℕ → Type 0) : Type 0 where
  pub each : (file : List ℕ) → IsAtRest old file → LeavesOnly old new (step file)

-- A crash at any moment since old leaves one of the files that it could leave at old, or what a step makes of all that was read then. So it is also
-- of a disk that isn't at rest.
pub record LeavesFrom (old new : DiskSeen) (step : List ℕ → List ℕ → Type 0) : Type 0 where
  pub each : (file : List ℕ) → old.contents ≡ Some file → LeavesOnly old new (λ c. old.images c ⊎ step file c)

-- before the first call
pub started : (old : DiskSeen) (P : List ℕ → Type 0) → ((c : List ℕ) → old.images_since old.moment c → P c) → LeavesOnly old old P
started old P here = record { later = omega arith; each = here; before = λ t c le since. inl since }

-- one call more, after which a crash leaves what has P
pub goes_on : (old mid new : DiskSeen) (P images : List ℕ → Type 0) → LeavesOnly old mid P
    → Elapses mid.moment new.moment mid.images_since new.images_since images → ((c : List ℕ) → images c → P c) → LeavesOnly old new P
goes_on old mid new P images so_far time here = record {
  later = omega (arith, so_far.later, time.later);
  each = λ c since. ⊎_elim (so_far.each c) (here c) (time.nothing_else old.moment c so_far.later since);
  before = λ t c le since. ⊎_elim (so_far.before t c le) (λ now. inr (here c now)) (time.nothing_else t c (omega (arith, le, so_far.later)) since);
}

-- a run after a run
pub joined : (old mid new : DiskSeen) (P : List ℕ → Type 0) → LeavesOnly old mid P → LeavesOnly mid new P → LeavesOnly old new P
joined old mid new P first second = record {
  later = omega (arith, first.later, second.later);
  each = λ c since. ⊎_elim (first.each c) (λ p. p) (second.before old.moment c first.later since);
  before = λ t c le since. ⊎_elim (first.before t c le) inr (second.before t c (omega (arith, le, first.later)) since);
}

pub weaker : (old new : DiskSeen) (P Q : List ℕ → Type 0) → ((c : List ℕ) → P c → Q c) → LeavesOnly old new P → LeavesOnly old new Q
weaker old new P Q then run = record {
  later = run.later;
  each = λ c since. then c (run.each c since);
  before = λ t c le since. ⊎_elim inl (λ p. inr (then c p)) (run.before t c le since);
}

-- what is so from any disk is so after one at rest, if nothing need be done
pub from_rest : (old new : DiskSeen) (step : List ℕ → List ℕ → Type 0) → ((file : List ℕ) → step file file) → LeavesFrom old new step
    → LeavesAfter old new step
from_rest old new step stays run = record {
  each = λ file rest.
      weaker old new (λ c. old.images c ⊎ step file c) (step file)
      (λ c. ⊎_elim (λ image. subst (λ (x : List ℕ). step file x) (sym (rest.only c image)) (stays file)) (λ p. p)) (run.each file rest.told);
}

-- a step more
pub then_from : (old new : DiskSeen) (step next : List ℕ → List ℕ → Type 0) → ((file c : List ℕ) → step file c → next file c) → LeavesFrom old new step
    → LeavesFrom old new next
then_from old new step next then run = record {
  each = λ file told.
      weaker old new (λ c. old.images c ⊎ step file c) (λ c. old.images c ⊎ next file c) (λ c. ⊎_elim inl (λ p. inr (then file c p))) (run.each file told);
}
