-- What a crash may leave after a cut, and after a sync.
use Rattle.std.proofs.Common.{◌≡◌, ℕ, ◌<◌, ◌≤◌, max, Bool, List, length, get_or, take, refl, sym, ◌∙◌, ap, arith, length-take}
use Rattle.std.proofs.lemmas.Bool.{lt-ltb, and_from}
use Rattle.std.proofs.lemmas.List.{ext_get_or, get_or-take, take_all}
use Rattle.ucon_disk.specs.Disk.{Shortened}
use Rattle.ucon_disk.specs.Image.{State, IsImage, step, cut_to, at_rest}
use Rattle.ucon_disk.proofs.Settled.{settle, length-settle, settle_same, settle_image}

pub shortened_same : (n : ℕ) (file : List ℕ) → Shortened n file file
shortened_same n file = record { no_shorter = omega arith; front = take_all (length file) file (omega arith) }

pub shortened_take : (n : ℕ) (file : List ℕ) → n ≤ length file → Shortened n file (take n file)
shortened_take n file le =
    let size : length (take n file) ≡ n = omega (arith, length-take n file) in
    record { no_shorter = omega (arith, size); front = ap (λ k. take k file) size }

module _ (s : State) (n : ℕ) (done : Bool) where
  pub cut_reaches : (d c : List ℕ) → IsImage s d → Shortened n d c → IsImage (step s (cut_to n done)) c
  cut_reaches d c image short =
      let shorter : length c ≤ length d = omega (arith, ap length short.front, length-take (length c) d) in
      record {
        least = omega (arith, image.least, short.no_shorter);
        greatest = omega (arith, image.greatest, shorter);
        settled = λ k lt e. ap (λ (l : List ℕ). get_or l k 0) (sym short.front) ∙ get_or-take (length c) d k 0 lt ∙ image.settled k (omega (arith, lt, shorter)) e;
      }

  pub cut_follows : IsImage s s.file → (c : List ℕ) → IsImage (step s (cut_to n done)) c → (d : List ℕ) × IsImage s d × Shortened n d c
  cut_follows sound c image =
      let size = max (length c) s.least in
      let was = settle s size c in
      let length-was : length was ≡ max (length c) s.least = length-settle s size c in
      let lengths : length (take (length c) was) ≡ length c = omega (arith, length-take (length c) was, length-was) in (
        was,
        settle_image s size c (omega arith) (omega (arith, image.greatest, sound.least, sound.greatest)),
        record {
          no_shorter = omega (arith, length-was, image.least);
          front = ext_get_or 0 (take (length c) was) c lengths (λ k lt.
              let within : k < length c = omega (arith, lt, lengths) in
              get_or-take (length c) was k 0 within ∙ settle_same s size c k (omega arith) (image.settled k within));
        },
      )

pub at_rest_image : (file : List ℕ) → IsImage (at_rest file) file
at_rest_image file = record { least = omega arith; greatest = omega arith; settled = λ k lt e. refl }

-- after a sync there is one image
pub at_rest_only : (file c : List ℕ) → IsImage (at_rest file) c → c ≡ file
at_rest_only file c image =
    let lengths : length c ≡ length file = omega (arith, image.least, image.greatest) in
    ext_get_or 0 c file lengths (λ k lt. image.settled k lt (and_from _ _ (lt-ltb k (length file) (omega (arith, lt, lengths))) refl))
