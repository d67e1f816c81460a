-- The exchange that adds a reply keeps the rule of the history.
use Rattle.std.specs.Prelude.{⊤}
use Rattle.std.proofs.Common.{◌≡◌, ℕ, ◌+◌, ◌<◌, ◌==◌, Bool, true, false, List, [], ◌∷◌, ◌++◌, length, refl, ap, sym, subst, arith, inl, length-append, None}
use Rattle.std.proofs.lemmas.List.{append-nil}
use Rattle.std.proofs.lemmas.Bool.Decides.{nat_tests}
use mathlib.Core.List.{IsPrefix}
use prog.Atomic.{either}
use Rattle.logbook.specs.Pages.{Cell, cell, keeps, no_nib, step, Moves, Goes}
use Rattle.ucon_board.specs.declared.history.Event.{Event}
use Rattle.ucon_board.specs.declared.history.Event.TheVariants.{Replied}
use Rattle.ucon_board.specs.declared.history.Published.{Published}
use Rattle.ucon_board.specs.Told.{IsCounted, IsOpened, Adds}
use Rattle.ucon_board.proofs.Prefixes.{prefix_whole}
use Rattle.ucon_board.proofs.Boards.{opened_more}

abbrev pub shown : List Event → List Event
shown log = []

abbrev pub moved : List Event → List Event → ℕ → Type 0
moved xs ys n = ⊤

pub adds_goes : (log v : List Event) (p : Published) (old count : ℕ) → old + 1 ≡ length v → count + 1 ≡ length log → IsOpened log → IsPrefix v log
    → (b : Bool) → (count == old) ≡ b
    → Goes IsCounted shown moved 0 (v, (no_nib, None)) (λ n. either (n == old) (old + 1) n) (Adds (step 0 old (old + 1) (Replied p)) (v, (no_nib, None))) ((count, true) ∷ []) log
adds_goes log v p old count len counted opened pre true is =
    let here : count ≡ old = grind (arith, nat_tests) in
    let same : v ≡ log = prefix_whole v log pre (omega (arith, len, counted, here)) in
    let long : length (log ++ Replied p ∷ []) ≡ length log + 1 = omega (arith, length-append log (Replied p ∷ [])) in (
      keeps,
      Replied p ∷ [],
      None,
      tt,
      rw is (record { opened = opened_more log p opened; count = old + 1; words = refl; counted = omega (arith, long, counted, here) }),
      inl (refl, refl),
      rw is (ap (λ w. w ++ Replied p ∷ []) (sym same)),
    )
adds_goes log v p old count len counted opened pre false is =
    let all : log ++ [] ≡ log = append-nil log in (
      keeps,
      [],
      None,
      tt,
      rw is (record { opened = subst IsOpened (sym all) opened; count = count; words = refl; counted = rw all counted }),
      inl (refl, refl),
      rw is tt,
    )

pub adds_moves : (v : List Event) (p : Published) (old : ℕ) → old + 1 ≡ length v
    → Moves IsCounted shown moved 0 (v, (no_nib, None)) (λ n. either (n == old) (old + 1) n) (Adds (step 0 old (old + 1) (Replied p)) (v, (no_nib, None)))
adds_moves v p old len cs log kept pre away =
    let P : List Cell → Type 0 = λ c. (0 < length c) × ((cell c 0).1 ≡ true) × Goes IsCounted shown moved 0 (v, (no_nib, None)) (λ n. either (n == old) (old + 1) n) (Adds (step 0 old (old + 1) (Replied p)) (v, (no_nib, None))) c log in
    subst P (sym kept.words) (omega arith, refl, adds_goes log v p old kept.count len kept.counted kept.opened pre (kept.count == old) refl)
