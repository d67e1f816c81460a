-- The laws of the images of a disk in memory.
use Rattle.std.proofs.Common.{◌≡◌, ℕ, ◌≤◌, List, length, sym, ap, subst, arith}
use Rattle.std.proofs.lemmas.List.{take_all}
use Rattle.ucon_disk.specs.Image.{State, IsImage, Change, at_rest, after}
use Rattle.ucon_disk.specs.History.{History, state_at, state_now, IsImageSince}

state_at_end : (h : History) (k : ℕ) → length h.changes ≤ k → state_at h k ≡ state_now h
state_at_end h k le = ap (λ (changes : List Change). after (at_rest h.start) changes) (take_all k h.changes le)

pub image_since : (h : History) (t : ℕ) (c : List ℕ) → t ≤ length h.changes → IsImage (state_now h) c → IsImageSince h t c
image_since h t c le image =
    (length h.changes, le, omega arith, subst (λ (s : State). IsImage s c) (sym (state_at_end h (length h.changes) (omega arith))) image)

pub image_now : (h : History) (c : List ℕ) → IsImageSince h (length h.changes) c → IsImage (state_now h) c
image_now h c since = subst (λ (s : State). IsImage s c) (state_at_end h since.0 since.1) since.3

pub image_earlier : (h : History) (t u : ℕ) (c : List ℕ) → t ≤ u → IsImageSince h u c → IsImageSince h t c
image_earlier h t u c le since = (since.0, omega (arith, le, since.1), since.2, since.3)
