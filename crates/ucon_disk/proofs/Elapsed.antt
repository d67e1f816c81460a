-- What a recorded call does to the images since a moment.
use Rattle.std.proofs.Common.{◌≡◌, inl, inr, ℕ, ◌+◌, ◌≤◌, List, [], ◌∷◌, length, sym, ap, subst, arith, length-append}
use Rattle.std.proofs.lemmas.Bool.{cases_lt}
use Rattle.std.proofs.lemmas.List.{take-append-le, take_all}
use Rattle.ucon_disk.specs.Disk.{Elapses}
use Rattle.ucon_disk.specs.Image.{State, IsImage, Change, at_rest, step, after}
use Rattle.ucon_disk.specs.History.{History, recorded, state_at, state_now, IsImageSince}
use Rattle.ucon_disk.proofs.Histories.{after-append}

pub now_recorded : (h : History) (change : Change) → state_now (recorded h change) ≡ step (state_now h) change
now_recorded h change = after-append (at_rest h.start) h.changes change

-- the past stays
past_recorded : (h : History) (change : Change) (k : ℕ) → k ≤ length h.changes → state_at (recorded h change) k ≡ state_at h k
past_recorded h change k le = ap (λ (changes : List Change). after (at_rest h.start) changes) (take-append-le k h.changes (change ∷ []) le)

length-recorded : (h : History) (change : Change) → length (recorded h change).changes ≡ length h.changes + 1
length-recorded h change = length-append h.changes (change ∷ [])

pub elapses_same : (h : History) → Elapses (length h.changes) (length h.changes) (IsImageSince h) (IsImageSince h) (IsImage (state_now h))
elapses_same h = record { later = omega arith; nothing_else = λ t c le since. inl since; keeps = λ t c le since. since }

pub elapses_recorded : (h : History) (change : Change) → Elapses (length h.changes) (length (recorded h change).changes) (IsImageSince h) (IsImageSince (recorded h change)) (IsImage (state_now (recorded h change)))
elapses_recorded h change = record {
  later = omega (arith, length-recorded h change);
  nothing_else = λ t c le since. elim (cases_lt (length h.changes) since.0) [
    | inl last ↦ inr (subst (λ (s : State). IsImage s c) (ap (λ (changes : List Change). after (at_rest h.start) changes) (take_all since.0 (recorded h change).changes (omega (arith, last, length-recorded h change)))) since.3)
    | inr earlier ↦ inl (since.0, since.1, earlier, subst (λ (s : State). IsImage s c) (past_recorded h change since.0 earlier) since.3)
  ];
  keeps = λ t c le since. (since.0, since.1, omega (arith, since.2, length-recorded h change), subst (λ (s : State). IsImage s c) (sym (past_recorded h change since.0 since.2)) since.3);
}
