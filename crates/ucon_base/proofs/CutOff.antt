-- What is left of bytes with a front and zeros put behind them, where the zeros are cut off.
use Rattle.std.proofs.Common.{◌≡◌, ℕ, ◌+◌, List, ◌++◌, length, take, sym, ap, ◌∙◌, arith, append_assoc}
use Rattle.std.proofs.lemmas.List.{length-append, take-append-le, take_all}

pub front_kept : (n : ℕ) (before front zeros : List ℕ) → n ≡ length before + length front → take n (before ++ (front ++ zeros)) ≡ before ++ front
front_kept n before front zeros is =
    let long : length (before ++ front) ≡ n = length-append before front ∙ sym is in
    ap (take n) (sym (append_assoc before front zeros))
    ∙ take-append-le n (before ++ front) zeros (omega (arith, long))
    ∙ take_all n (before ++ front) (omega (arith, long))
