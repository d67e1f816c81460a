-- What a crash may leave after a write.
use Rattle.std.proofs.Common.{◌≡◌, inl, inr, ℕ, ◌+◌, ◌-◌, ◌<◌, ◌≤◌, min, Bool, List, ◌++◌, length, get_or, take, drop, refl, sym, ◌∙◌, ap, arith, length-append, length-drop, length-take}
use Rattle.std.proofs.lemmas.List.{ext_get_or, get_or-take, get_or-drop, take_at, drop_at, append_assoc}
use Rattle.ucon_disk.specs.Disk.{overwritten, Torn}
use Rattle.ucon_disk.specs.Image.{State, IsImage, step, wrote}
use Rattle.ucon_disk.proofs.Settled.{IsOutside, settled_before, settled_after, settle, length-settle, settle_same, settle_image}

pub torn_same : (at n : ℕ) (file : List ℕ) → Torn at n file file
torn_same at n file = record { before = refl; after = refl; no_shorter = omega arith; no_longer = omega arith }

pub torn_overwritten : (at : ℕ) (bytes file : List ℕ) → at ≤ length file → Torn at (length bytes) file (overwritten at bytes file)
torn_overwritten at bytes file le =
    let front : length (take at file) ≡ at = omega (arith, length-take at file) in
    let size : length (overwritten at bytes file) ≡ at + length bytes + (length file - (at + length bytes)) = omega (arith, length-append (take at file ++ bytes) (drop (at + length bytes) file), length-append (take at file) bytes, length-drop (at + length bytes) file, front) in
    record {
      before = ap (λ (l : List ℕ). take at l) (append_assoc (take at file) bytes (drop (at + length bytes) file)) ∙ take_at (take at file) (bytes ++ drop (at + length bytes) file) at front;
      after = drop_at (take at file ++ bytes) (drop (at + length bytes) file) (at + length bytes) (omega (arith, length-append (take at file) bytes, front));
      no_shorter = omega (arith, size);
      no_longer = omega (arith, size);
    }

-- outside its range a torn write leaves each byte
torn_outside : (at n : ℕ) (d c : List ℕ) → Torn at n d c → (k : ℕ) → IsOutside at n k → get_or c k 0 ≡ get_or d k 0
torn_outside at n d c torn k (inl below) = sym (get_or-take at c k 0 below) ∙ ap (λ (l : List ℕ). get_or l k 0) torn.before ∙ get_or-take at d k 0 below
torn_outside at n d c torn k (inr above) =
    let place : at + n + (k - (at + n)) ≡ k = omega arith in
    let there : (l : List ℕ) → get_or l k 0 ≡ get_or (drop (at + n) l) (k - (at + n)) 0 = λ l. sym (get_or-drop (at + n) l (k - (at + n)) 0 ∙ ap (λ j. get_or l j 0) place) in
    there c ∙ ap (λ (l : List ℕ). get_or l (k - (at + n)) 0) torn.after ∙ sym (there d)

-- and the place was there
torn_within : (at n : ℕ) (d c : List ℕ) → Torn at n d c → (k : ℕ) → IsOutside at n k → k < length c → k < length d
torn_within at n d c torn k (inl below) lt = omega (arith, ap length torn.before, length-take at c, length-take at d)
torn_within at n d c torn k (inr above) lt = omega (arith, torn.no_longer)

module _ (s : State) (at : ℕ) (bytes : List ℕ) (done : Bool) where
  pub write_reaches : (d c : List ℕ) → IsImage s d → Torn at (length bytes) d c → IsImage (step s (wrote at bytes done)) c
  write_reaches d c image torn = record {
    least = omega (arith, image.least, torn.no_shorter);
    greatest = omega (arith, image.greatest, torn.no_longer);
    settled = λ k lt e.
        let before = settled_before s at bytes done k e in
        torn_outside at (length bytes) d c torn k before.1 ∙ image.settled k (torn_within at (length bytes) d c torn k before.1 lt) before.0;
  }

  module _ (sound : IsImage s s.file) (place : at ≤ length s.file) (c : List ℕ) (image : IsImage (step s (wrote at bytes done)) c) where
    size : ℕ
    size = min (length c) s.greatest

    was : List ℕ
    was = settle s size c

    length-was : length was ≡ min (length c) s.greatest
    unfolding was size
    length-was = length-settle s size c

    same_outside : (k : ℕ) → k < length was → IsOutside at (length bytes) k → get_or c k 0 ≡ get_or was k 0
    unfolding was size
    same_outside k lt outside =
        let lt' : k < size = omega (arith, length-was, lt) in
        sym (settle_same s size c k lt' (λ e. image.settled k (omega (arith, lt')) (settled_after s at bytes done k e outside)))

    same_front : take at c ≡ take at was
    same_front =
        let lengths : length (take at c) ≡ length (take at was) = omega (arith, length-take at c, length-take at was, length-was, sound.greatest, place) in
        ext_get_or 0 (take at c) (take at was) lengths (λ k lt.
        let below : k < at = omega (arith, lt, length-take at c) in
        get_or-take at c k 0 below ∙ same_outside k (omega (arith, lt, lengths, length-take at was)) (inl below) ∙ sym (get_or-take at was k 0 below))

    same_back : drop (at + length bytes) c ≡ drop (at + length bytes) was
    same_back =
        let e = at + length bytes in
        let lengths : length (drop e c) ≡ length (drop e was) = omega (arith, length-drop e c, length-drop e was, length-was, image.greatest, sound.greatest) in
        ext_get_or 0 (drop e c) (drop e was) lengths (λ k lt.
        get_or-drop e c k 0 ∙ same_outside (e + k) (omega (arith, lt, lengths, length-drop e was)) (inr (omega arith)) ∙ sym (get_or-drop e was k 0))

    pub write_follows : (d : List ℕ) × IsImage s d × Torn at (length bytes) d c
    unfolding was size
    write_follows = (
      was,
      settle_image s size c (omega (arith, image.least, sound.least, sound.greatest)) (omega arith),
      record {
        before = same_front;
        after = same_back;
        no_shorter = omega (arith, length-was);
        no_longer = omega (arith, length-was, image.greatest);
      },
    )
