-- Two lists in arrays of one size, with zeros behind them: they are the same where their lengths and their arrays are.
use Rattle.std.specs.Prelude.{◌≡◌, ◌≢◌, ℕ, ◌-◌, ◌≤◌, false, List, length, take, drop, replicate}
use Rattle.std.specs.Str.{bytes_eq}
use Rattle.std.proofs.Common.{sym, ap, ◌∙◌}
use Rattle.std.proofs.lemmas.Bool.{false_from_ne_true}
use Rattle.std.proofs.lemmas.Bool.Decides.{same_from_decides}
use Rattle.std.proofs.lemmas.Slice.Eq.{bytes_eq-Decides}
use Rattle.ucon_base.specs.Padded.{padded, padded_back, length-front}

-- a list of n bytes in an array of a size, with zeros behind it
pub record IsIn (size n : ℕ) (all : List ℕ) : Type 0 where
  pub le : n ≤ size
  pub full : length all ≡ size
  pub zeros : drop n all ≡ replicate (size - n) 0

-- the array is the list with zeros
whole : (size n : ℕ) (all : List ℕ) → IsIn size n all → padded size (take n all) ≡ all
whole size n all is = padded_back size n all is.le is.full is.zeros

-- of one length, they are the same where their arrays are
pub same_arrays : (size n : ℕ) (a b : List ℕ) → IsIn size n a → IsIn size n b → bytes_eq a b ≡ bytes_eq (take n a) (take n b)
same_arrays size n a b a_is b_is =
    let arrays = bytes_eq-Decides a b in
    let lists = bytes_eq-Decides (take n a) (take n b) in
    same_from_decides (bytes_eq a b) (bytes_eq (take n a) (take n b))
    (λ e. ap (take n) (arrays.0 e), λ e. arrays.1 (sym (whole size n a a_is) ∙ ap (padded size) e ∙ whole size n b b_is)) lists

-- of two lengths they aren't
pub other_lengths : (size m n : ℕ) (a b : List ℕ) → m ≢ n → IsIn size m a → IsIn size n b → bytes_eq (take m a) (take n b) ≡ false
other_lengths size m n a b other a_is b_is =
    false_from_ne_true (bytes_eq (take m a) (take n b))
    (λ same. other (sym (length-front size m a a_is.le a_is.full)
    ∙ ap length ((bytes_eq-Decides (take m a) (take n b)).0 same)
    ∙ length-front size n b b_is.le b_is.full))
