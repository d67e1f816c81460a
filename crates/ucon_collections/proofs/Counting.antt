-- How many deadlines are below a tick, where one of them changes.
use Rattle.std.proofs.Common.{◌≡◌, ◌+◌, ◌<◌, ℕ, ℤ, List, Option, Some, None, length, set, get_or, ap, arith, ◌<ℤ◌}
use Rattle.std.proofs.lemmas.Int.{ints}
use Rattle.std.proofs.lemmas.List.Sums.{length-filter, sum_by-set}
use Rattle.std.proofs.lemmas.Option.{slice_get-get_or}
use Rattle.ucon_collections.specs.Deadlines.{count_below, deadline_of, is_passed, or_none, passed}

pub count_below-set : (ds : List (Option ℤ)) (n : ℕ) (deadline : Option ℤ) (tick : ℤ) → n < length ds → count_below (set ds n deadline) tick + passed tick (deadline_of ds n) ≡ count_below ds tick + passed tick deadline
count_below-set ds n deadline tick h =
    let own : deadline_of ds n ≡ get_or ds n None = ap or_none (slice_get-get_or ds n None h) in
    let after = length-filter (is_passed tick) (set ds n deadline) in
    let before = length-filter (is_passed tick) ds in
    let both = sum_by-set (passed tick) ds n deadline None h in
    omega (arith, after, before, both, ap (passed tick) own)

-- a deadline below the tick counts
pub passed-below : (tick deadline : ℤ) → deadline <ℤ tick → passed tick (Some deadline) ≡ 1
passed-below tick deadline below = grind (arith, ints)
