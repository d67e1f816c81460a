-- What a call that a disk in memory records, or not, does to its images.
use Rattle.std.proofs.Common.{◌≡◌, ◌⊎◌, inl, inr, ℕ, ◌≤◌, Bool, true, false, ◌&&◌, List, length, take, Some, Result, Ok, Err, is_ok, OnOk, OnErr, refl, sym, ◌∙◌, ap, subst}
use Rattle.std.proofs.lemmas.Bool.{true≢false}
use Rattle.ucon_disk.specs.Disk.{overwritten, Torn, Shortened, Follows, Reaches, SameImages, NoneNew, Elapses}
use Rattle.ucon_disk.specs.Image.{State, IsImage, Change, looked, wrote, cut_to, synced_all, at_rest, step}
use Rattle.ucon_disk.specs.History.{History, recorded, state_now, IsImageSince}
use Rattle.ucon_disk.proofs.Elapsed.{now_recorded, elapses_same, elapses_recorded}
use Rattle.ucon_disk.proofs.Writes.{torn_same, torn_overwritten, write_reaches, write_follows}
use Rattle.ucon_disk.proofs.Cuts.{shortened_same, shortened_take, cut_reaches, cut_follows, at_rest_image, at_rest_only}

-- the history has the call, or is as it was
abbrev pub IsKept : History → History → Change → Type 0
IsKept old new change = (new ≡ recorded old change) ⊎ (new ≡ old)

pub kept : {T E : Type 0} (r : Result T E) (old new : History) (change : Change) → OnOk r (new ≡ recorded old change) → OnErr r (new ≡ old) → IsKept old new change
kept (Ok x) old new change ok err = inl ok
kept (Err e) old new change ok err = inr err

-- a call that answers Ok was to succeed, and was recorded
pub done_if_ok : {T U E F : Type 0} (done : Bool) (kept : Result T E) (result : Result U F) (P : Type 0) → is_ok result ≡ (done && is_ok kept) → OnOk kept P → OnOk result ((done ≡ true) × P)
done_if_ok done kept (Err e) P outcome ok = tt
done_if_ok true (Ok x) (Ok y) P outcome ok = (refl, ok)
done_if_ok true (Err e) (Ok y) P outcome ok = absurd (true≢false outcome)
done_if_ok false kept (Ok y) P outcome ok = absurd (true≢false outcome)

-- the model now follows from the model before
pub now_kept : (old new : History) (change : Change) → new ≡ recorded old change → state_now new ≡ step (state_now old) change
now_kept old new change is = ap state_now is ∙ now_recorded old change

module _ (old new : History) where
  pub time_kept : (change : Change) → IsKept old new change → Elapses (length old.changes) (length new.changes) (IsImageSince old) (IsImageSince new) (IsImage (state_now new))
  time_kept change (inl is) = subst (λ (h : History). Elapses (length old.changes) (length h.changes) (IsImageSince old) (IsImageSince h) (IsImage (state_now h))) (sym is) (elapses_recorded old change)
  time_kept change (inr is) = subst (λ (h : History). Elapses (length old.changes) (length h.changes) (IsImageSince old) (IsImageSince h) (IsImage (state_now h))) (sym is) (elapses_same old)

  -- what holds of each state after the call holds now
  by_step : (P : State → Type 0) (change : Change) → IsKept old new change → P (state_now old) → P (step (state_now old) change) → P (state_now new)
  by_step P change (inl is) same stepped = subst P (sym (now_kept old new change is)) stepped
  by_step P change (inr is) same stepped = subst P (sym (ap state_now is)) same

  -- a look
  pub look_same : IsKept old new looked → state_now new ≡ state_now old
  look_same made = let P : State → Type 0 = λ s. s ≡ state_now old in by_step P looked made refl refl

  pub look_images : IsKept old new looked → SameImages (IsImage (state_now old)) (IsImage (state_now new))
  look_images made = let P : State → Type 0 = λ s. SameImages (IsImage (state_now old)) (IsImage s) in by_step P looked made (record { no_more = λ c image. image; no_fewer = λ c image. image }) (record { no_more = λ c image. image; no_fewer = λ c image. image })

  -- a write
  pub write_sound : (at : ℕ) (bytes : List ℕ) (done : Bool) → IsKept old new (wrote at bytes done) → IsImage (state_now old) (state_now old).file → at ≤ length (state_now old).file → IsImage (state_now new) (state_now new).file
  write_sound at bytes done made sound place =
      let P : State → Type 0 = λ s. IsImage s s.file in
      let s = state_now old in
      let stepped : (b : Bool) → P (step s (wrote at bytes b)) = elim [
        | true ↦ write_reaches s at bytes true s.file (overwritten at bytes s.file) sound (torn_overwritten at bytes s.file place)
        | false ↦ write_reaches s at bytes false s.file s.file sound (torn_same at (length bytes) s.file)
      ] in
      by_step P (wrote at bytes done) made sound (stepped done)

  pub write_images : (at : ℕ) (bytes : List ℕ) (done : Bool) → IsKept old new (wrote at bytes done) → IsImage (state_now old) (state_now old).file → at ≤ length (state_now old).file → Follows (Torn at (length bytes)) (IsImage (state_now old)) (IsImage (state_now new))
  write_images at bytes done made sound place =
      let P : State → Type 0 = λ s. Follows (Torn at (length bytes)) (IsImage (state_now old)) (IsImage s) in
      by_step P (wrote at bytes done) made (λ c image. (c, image, torn_same at (length bytes) c)) (λ c image. write_follows (state_now old) at bytes done sound place c image)

  pub write_all : (at : ℕ) (bytes : List ℕ) (done : Bool) → new ≡ recorded old (wrote at bytes done) → Reaches (Torn at (length bytes)) (IsImage (state_now old)) (IsImage (state_now new))
  write_all at bytes done is d c image torn = subst (λ (s : State). IsImage s c) (sym (now_kept old new (wrote at bytes done) is)) (write_reaches (state_now old) at bytes done d c image torn)

  pub write_now : (at : ℕ) (bytes : List ℕ) (done : Bool) → done ≡ true → new ≡ recorded old (wrote at bytes done) → Some (state_now new).file ≡ Some (overwritten at bytes (state_now old).file)
  write_now at bytes done e is = ap (λ (s : State). Some s.file) (now_kept old new (wrote at bytes done) is) ∙ ap (λ b. Some (step (state_now old) (wrote at bytes b)).file) e

  -- a cut
  pub cut_sound : (n : ℕ) (done : Bool) → IsKept old new (cut_to n done) → IsImage (state_now old) (state_now old).file → n ≤ length (state_now old).file → IsImage (state_now new) (state_now new).file
  cut_sound n done made sound place =
      let P : State → Type 0 = λ s. IsImage s s.file in
      let s = state_now old in
      let stepped : (b : Bool) → P (step s (cut_to n b)) = elim [
        | true ↦ cut_reaches s n true s.file (take n s.file) sound (shortened_take n s.file place)
        | false ↦ cut_reaches s n false s.file s.file sound (shortened_same n s.file)
      ] in
      by_step P (cut_to n done) made sound (stepped done)

  pub cut_images : (n : ℕ) (done : Bool) → IsKept old new (cut_to n done) → IsImage (state_now old) (state_now old).file → Follows (Shortened n) (IsImage (state_now old)) (IsImage (state_now new))
  cut_images n done made sound =
      let P : State → Type 0 = λ s. Follows (Shortened n) (IsImage (state_now old)) (IsImage s) in
      by_step P (cut_to n done) made (λ c image. (c, image, shortened_same n c)) (cut_follows (state_now old) n done sound)

  pub cut_all : (n : ℕ) (done : Bool) → new ≡ recorded old (cut_to n done) → Reaches (Shortened n) (IsImage (state_now old)) (IsImage (state_now new))
  cut_all n done is d c image short = subst (λ (s : State). IsImage s c) (sym (now_kept old new (cut_to n done) is)) (cut_reaches (state_now old) n done d c image short)

  pub cut_now : (n : ℕ) (done : Bool) → done ≡ true → new ≡ recorded old (cut_to n done) → Some (state_now new).file ≡ Some (take n (state_now old).file)
  cut_now n done e is = ap (λ (s : State). Some s.file) (now_kept old new (cut_to n done) is) ∙ ap (λ b. Some (step (state_now old) (cut_to n b)).file) e

  -- a sync
  pub sync_sound : (done : Bool) → IsKept old new (synced_all done) → IsImage (state_now old) (state_now old).file → IsImage (state_now new) (state_now new).file
  sync_sound done made sound =
      let P : State → Type 0 = λ s. IsImage s s.file in
      let stepped : (b : Bool) → P (step (state_now old) (synced_all b)) = elim [ true ↦ at_rest_image (state_now old).file | false ↦ sound ] in
      by_step P (synced_all done) made sound (stepped done)

  pub sync_images : (done : Bool) → IsKept old new (synced_all done) → IsImage (state_now old) (state_now old).file → NoneNew (IsImage (state_now old)) (IsImage (state_now new))
  sync_images done made sound =
      let P : State → Type 0 = λ s. NoneNew (IsImage (state_now old)) (IsImage s) in
      let stepped : (b : Bool) → P (step (state_now old) (synced_all b)) = elim [
        | true ↦ λ c image. subst (λ (l : List ℕ). IsImage (state_now old) l) (sym (at_rest_only (state_now old).file c image)) sound
        | false ↦ λ c image. image
      ] in
      by_step P (synced_all done) made (λ c image. image) (stepped done)

  sync_now : (done : Bool) → done ≡ true → new ≡ recorded old (synced_all done) → state_now new ≡ at_rest (state_now old).file
  sync_now done e is = now_kept old new (synced_all done) is ∙ ap (λ b. step (state_now old) (synced_all b)) e

  pub sync_contents : (done : Bool) → done ≡ true → new ≡ recorded old (synced_all done) → Some (state_now new).file ≡ Some (state_now old).file
  sync_contents done e is = ap (λ (s : State). Some s.file) (sync_now done e is)

  pub sync_only : (done : Bool) → done ≡ true → new ≡ recorded old (synced_all done) → (c : List ℕ) → IsImage (state_now new) c → c ≡ (state_now old).file
  sync_only done e is c image = at_rest_only (state_now old).file c (subst (λ (s : State). IsImage s c) (sync_now done e is) image)
