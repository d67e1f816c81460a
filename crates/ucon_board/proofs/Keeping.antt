-- Each step of the two copies keeps their rule.
use Rattle.std.proofs.Common.{◌≡◌, ◌≢◌, ℕ, ◌+◌, ◌≤◌, ◌<◌, List, [], ◌∷◌, ◌++◌, map, replicate, length, length-append, set, Option, Some, None, refl, sym, ap, ◌∙◌, subst, ⊎_elim, arith}
use Rattle.std.proofs.lemmas.List.{length-map, length-replicate}
use mathlib.Core.List.{IsPrefix}
use mathlib.Core.Option.{some}
use lib.ListN.{get_elem?}
use Rattle.crossbeam_utils.specs.Register.{Admits, TurnsAt, Forks, Merges}
use Rattle.atomic_table.proofs.Lists.{at_set, at_snoc}
use Rattle.ucon_model.specs.declared.session.SessionState.{SessionState}
use Rattle.ucon_base.specs.Elements.{Each}
use Rattle.ucon_board.specs.declared.history.Published.{Published}
use Rattle.ucon_board.specs.declared.shown.Mark.{Mark}
use Rattle.ucon_board.specs.declared.shown.Shown.{Shown}
use Rattle.ucon_board.specs.Board.{Board, Naming, sayings, place_of, posted, state_in}
use Rattle.ucon_board.specs.Told.{events, board_of, IsOpened, reply_in, replied}
use Rattle.ucon_board.specs.Rule.{Rows, Told, Tied, Fits, Keeps, SeesOn, after, row_at}
use Rattle.ucon_board.proofs.Prefixes.{prefix_self, prefix_trans}
use Rattle.ucon_board.proofs.Boards.{opened_more, posted_more}
use Rattle.ucon_board.proofs.RowsKept.{after_length, rows_posted, rows_opened}

abbrev All : Shown → List (Option Told) → Type 0
All x views = (seat : ℕ) (v : Option Told) → get_elem? views seat ≡ some v → Fits x v

all_set : (x : Shown) (views : List (Option Told)) (seat : ℕ) (w : Option Told) → Fits x w → All x views → All x (set views seat w)
all_set x views seat w mine all j u e = ⊎_elim (λ (t : (j ≡ seat) × (w ≡ u)). subst (Fits x) t.1 mine) (λ (t : (j ≢ seat) × (get_elem? views j ≡ some u)). all j u t.1) (at_set views seat j w u e)

all_more : (x : Shown) (views : List (Option Told)) (w : Option Told) → Fits x w → All x views → All x (views ++ w ∷ [])
all_more x views w mine all j u e = ⊎_elim (λ t. all j u t) (λ (t : w ≡ u). subst (Fits x) t mine) (at_snoc views w u j e)

-- what begins the history that was shown begins one that goes on from it
fits_on : (x y : Shown) → y.seen.book ≡ x.seen.book → IsPrefix x.seen.log y.seen.log → (v : Option Told) → Fits x v → Fits y v
fits_on x y book more None f = tt
fits_on x y book more (Some s) f = (f.0 ∙ sym book, prefix_trans s.log x.seen.log y.seen.log f.1 more)

pub admits : Admits Keeps None
admits x views h = (h.0, all_more x views None tt h.1)

-- a step after which the history that is shown goes on, and the end knows it
pub sees : (seat : ℕ) (v : Option Told) (x y : Shown) → (Tied x → Tied y) → y.seen.book ≡ x.seen.book → IsPrefix x.seen.log y.seen.log → TurnsAt Keeps seat v x y SeesOn
sees seat v x y tied book more views h at =
    let now : All y views = λ j u e. fits_on x y book more u (h.1 j u e) in (
      Some y.seen,
      (tied h.0, all_set y views seat (Some y.seen) (refl, prefix_self y.seen.log) now),
      (tied h.0, now seat v at, refl),
    )

pub forks : (seat : ℕ) (v : Option Told) → Forks Keeps seat v v v
forks seat v x views h at = (h.0, all_more x (set views seat v) v (h.1 seat v at) (all_set x views seat v (h.1 seat v at) h.1))

pub merges : (seat : ℕ) (v : Option Told) (other : ℕ) (w : Option Told) → Merges Keeps seat v other w w None
merges seat v other w x views h at apart there =
    let mine : Fits x w = ⊎_elim (λ (t : (other ≡ seat) × (w ≡ w)). absurd (apart t.0)) (λ (t : (other ≢ seat) × (get_elem? views other ≡ some w)). h.1 other w t.1) (at_set views seat other w w there) in
    (h.0, all_set x (set views seat w) other None tt (all_set x views seat w mine h.1))

-- a reply more keeps the tie
pub tied_on : (x y : Shown) (m : Mark) → y.place ≡ m.place → y.rows.items ≡ after x.rows.items (sayings m.head m.revoked.items) → y.seen.log ≡ x.seen.log ++ replied m ∷ []
    → m.place ≡ place_of (board_of x.seen.log) + 1 → Each (λ (s : Naming). (0 < s.0) × (s.0 ≤ 1048576)) (sayings m.head m.revoked.items) → Tied x → Tied y
tied_on x y m place rows log next each t =
    let p : Published = record { head = m.head; revoked = m.revoked.items } in
    let board : board_of y.seen.log ≡ posted (board_of x.seen.log) (reply_in p) = ap board_of log ∙ posted_more x.seen.log p t.opened in
    record {
      opened = subst IsOpened (sym log) (opened_more x.seen.log p t.opened);
      place = place ∙ (next ∙ (omega (arith, length-append (board_of x.seen.log).replies (reply_in p ∷ [])) ∙ sym (ap place_of board)));
      wide = ap length rows ∙ (after_length (sayings m.head m.revoked.items) x.rows.items ∙ t.wide);
      states = λ n. ap (λ (r : Rows). row_at r n) rows ∙ (rows_posted 1048576 x.rows.items (board_of x.seen.log) (reply_in p) n t.wide each (t.states n) ∙ sym (ap (λ (b : Board). state_in b n) board));
    }

-- what is shown at the opening
pub tied_first : (x : Shown) (place : ℕ) (sessions : List SessionState) (m : ℕ) → length sessions + m ≡ 1048576
    → x.place ≡ place → x.rows.items ≡ map Some sessions ++ replicate m None → x.seen.log ≡ events place sessions [] → Tied x
tied_first x place sessions m wide at rows log = record {
  opened = (place, sessions, [], log);
  place = at ∙ (omega arith ∙ sym (ap (λ l. place_of (board_of l)) log));
  wide = ap length rows ∙ (length-append (map Some sessions) (replicate m None) ∙ omega (arith, wide, length-map sessions Some, length-replicate {A = Option SessionState} m None));
  states = λ n. ap (λ (r : Rows). row_at r n) rows ∙ (rows_opened sessions m n ∙ sym (ap (λ l. state_in (board_of l) n) log));
}

-- what is shown stays tied where nothing of it changes
pub tied_still : (x y : Shown) → y.place ≡ x.place → y.rows.items ≡ x.rows.items → y.seen ≡ x.seen → Tied x → Tied y
tied_still x y place rows seen t = record {
  opened = subst (λ (s : Told). IsOpened s.log) (sym seen) t.opened;
  place = place ∙ (t.place ∙ ap (λ (s : Told). place_of (board_of s.log)) (sym seen));
  wide = ap length rows ∙ t.wide;
  states = λ n. ap (λ (r : Rows). row_at r n) rows ∙ (t.states n ∙ ap (λ (s : Told). state_in (board_of s.log) n) (sym seen));
}
