-- Reads and writes that are done part by part.
use Rattle.std.proofs.Common.{◌≡◌, ℕ, ◌+◌, ◌-◌, ◌≤◌, List, ◌++◌, length, take, drop, Option, None, Some, IfSome, refl, sym, ◌∙◌, ap, subst, arith, append_assoc, length-append, length-take, length-drop, take-append-drop}
use Rattle.std.specs.Option.{option_map}
use Rattle.std.proofs.Math.Seq.{take-add}
use Rattle.std.proofs.lemmas.List.{take_at, drop_all, drop_at, drop-drop, append-nil}
use Rattle.ucon_disk.specs.Disk.{overwritten, HasPlace, ReadsPart}

-- the front of a buffer was read
pub record IsFront (file : List ℕ) (at done : ℕ) (buf : List ℕ) : Type 0 where
  pub within : done ≤ length file - at
  pub bytes : take done buf ≡ take done (drop at file)

-- a part put back behind the front, where it had all the rest of the buffer
pub put_all : (done : ℕ) (buf part : List ℕ) → done ≤ length buf → take done buf ++ (part ++ drop (length buf - done) (drop done buf)) ≡ take done buf ++ part
put_all done buf part within = ap (λ (l : List ℕ). take done buf ++ (part ++ l)) (drop_all (length buf - done) (drop done buf) (omega (arith, length-drop done buf))) ∙ ap (λ (l : List ℕ). take done buf ++ l) (append-nil part)

pub read_begins : (o : Option (List ℕ)) (at : ℕ) (buf : List ℕ) → IfSome o (λ file. IsFront file at 0 buf)
read_begins None at buf = tt
read_begins (Some file) at buf = record { within = omega arith; bytes = refl }

module _ (file : List ℕ) (at done n : ℕ) (buf part all : List ℕ) (front : IsFront file at done buf) (more : ReadsPart file (at + done) n part) (small : done ≤ length buf) (is : all ≡ take done buf ++ part) where
  size : length (take done buf) ≡ done
  size = omega (arith, length-take done buf)

  front_on : IsFront file at (done + n) all
  front_on = record {
    within = omega (arith, front.within, more.within);
    bytes =
        take-add done n all
        ∙ (λ i. take done (is i) ++ take n (drop done (is i)))
        ∙ (λ i. take_at (take done buf) part done size i ++ take n (drop_at (take done buf) part done size i))
        ∙ (λ i. front.bytes i ++ more.bytes i)
        ∙ ap (λ (l : List ℕ). take done (drop at file) ++ take n l) (sym (drop-drop done at file))
        ∙ sym (take-add done n (drop at file));
  }

pub read_goes_on : (o : Option (List ℕ)) (at done n : ℕ) (buf part all : List ℕ) → IfSome o (λ file. IsFront file at done buf) → IfSome o (λ file. ReadsPart file (at + done) n part) → done ≤ length buf → all ≡ take done buf ++ part
    → IfSome o (λ file. IsFront file at (done + n) all)
read_goes_on None at done n buf part all front more small is = tt
read_goes_on (Some file) at done n buf part all front more small is = front_on file at done n buf part all front more small is

-- nothing was written
pub write_begins : (o : Option (List ℕ)) (at : ℕ) (bytes : List ℕ) → o ≡ option_map (overwritten at (take 0 bytes)) o
write_begins None at bytes = refl
write_begins (Some file) at bytes =
    let zeroth : at ≡ at + 0 = omega arith in
    ap Some (sym (take-append-drop at file) ∙ (λ i. sym (append-nil (take at file)) i ++ drop (zeroth i) file))

-- bytes are written behind those that were written
written_on : (file a x : List ℕ) (at : ℕ) → at ≤ length file → overwritten (at + length a) x (overwritten at a file) ≡ overwritten at (a ++ x) file
written_on file a x at le =
    let front = take at file in
    let rest = drop (at + length a) file in
    let size : length (front ++ a) ≡ at + length a = omega (arith, length-append front a, length-take at file) in
    let end : at + length a + length x ≡ at + length (a ++ x) = omega (arith, length-append a x) in
    let behind : drop (at + length a + length x) (front ++ a ++ rest) ≡ drop (at + length (a ++ x)) file =
    sym (drop-drop (length x) (at + length a) (front ++ a ++ rest))
    ∙ ap (λ (l : List ℕ). drop (length x) l) (drop_at (front ++ a) rest (at + length a) size)
    ∙ drop-drop (length x) (at + length a) file
    ∙ ap (λ k. drop k file) end in
    (λ i. take_at (front ++ a) rest (at + length a) size i ++ x ++ behind i)
    ∙ ap (λ (l : List ℕ). l ++ drop (at + length (a ++ x)) file) (append_assoc front a x)

module _ (at done : ℕ) (bytes rest : List ℕ) (within : done ≤ length bytes) (is : rest ≡ drop done bytes) where
  size_of : length (take done bytes) ≡ done
  size_of = omega (arith, length-take done bytes)

  written_more : (n : ℕ) (file : List ℕ) → at ≤ length file → overwritten (at + done) (take n rest) (overwritten at (take done bytes) file) ≡ overwritten at (take (done + n) bytes) file
  written_more n file le =
      ap (λ k. overwritten (at + k) (take n rest) (overwritten at (take done bytes) file)) (sym size_of)
      ∙ written_on file (take done bytes) (take n rest) at le
      ∙ ap (λ (l : List ℕ). overwritten at l file) (ap (λ (l : List ℕ). take done bytes ++ take n l) is ∙ sym (take-add done n bytes))

  pub write_goes_on : (n : ℕ) (o now new : Option (List ℕ)) → HasPlace o at (length bytes) → now ≡ option_map (overwritten at (take done bytes)) o → new ≡ option_map (overwritten (at + done) (take n rest)) now → new ≡ option_map (overwritten at (take (done + n) bytes)) o
  write_goes_on n None now new place was wrote = wrote ∙ ap (option_map (overwritten (at + done) (take n rest))) was
  write_goes_on n (Some file) now new place was wrote = wrote ∙ ap (option_map (overwritten (at + done) (take n rest))) was ∙ ap Some (written_more n file place.0)

  pub place_on : (o now : Option (List ℕ)) → HasPlace o at (length bytes) → now ≡ option_map (overwritten at (take done bytes)) o → HasPlace now (at + done) (length rest)
  place_on None now place was = subst (λ p. HasPlace p (at + done) (length rest)) (sym was) tt
  place_on (Some file) now place was =
      let there : HasPlace (Some (overwritten at (take done bytes) file)) (at + done) (length rest) = (
        omega (arith, place, size_of, length-append (take at file ++ take done bytes) (drop (at + length (take done bytes)) file), length-append (take at file) (take done bytes), length-take at file),
        omega (arith, place, ap length is, length-drop done bytes, within),
      ) in
      subst (λ p. HasPlace p (at + done) (length rest)) (sym was) there
