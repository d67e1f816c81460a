-- Sessions that go into another state.
use Rattle.std.proofs.Common.{◌≡◌, ◌∙◌, ◌≤◌, ◌<◌, ◌-◌, ℕ, ℤ, zero, suc, refl, sym, ap, List, [], ◌∷◌, length, map, get_or, slice_get, slice_index_or, slice_set, Option, Some, None, IsSomeAnd, option_map, arith}
use Rattle.std.specs.Option.{option_map_or}
use Rattle.std.proofs.lemmas.List.{length-map}
use Rattle.std.proofs.lemmas.Option.{same_Some, slice_get-get_or, slice_get-map, slice_get_within}
use Rattle.ucon_model.specs.declared.session.SessionRow.{SessionRow}
use Rattle.ucon_model.specs.declared.session.SessionState.{SessionState}
use Rattle.ucon_model.specs.declared.session.SessionState.TheVariants.{Requesting, Denied, Accessing, Revoked, Ended}
use Rattle.ucon_model.specs.Plain.{Bytes}
use Rattle.ucon_state.specs.declared.session.Session.{Session}
use Rattle.ucon_state.specs.Applied.{moved_to, with_row, with_state}
use Rattle.ucon_state.specs.Stored.{Stored, moved_at, named, row_of, start_in, with_moved}
use Rattle.ucon_state.specs.Tables.{session_in}

-- what is written at a place is what stood there, with another state and start
pub written_is_moved : (xs : List Session) (i : ℕ) (d : Session) (state : SessionState) (start : ℤ)
    → slice_set xs i (record (get_or xs i d) { state = state; start = start }) ≡ moved_at state start i xs
written_is_moved [] i d state start = refl
written_is_moved (x ∷ xs) zero d state start = refl
written_is_moved (x ∷ xs) (suc i) d state start = ap (λ rest. x ∷ rest) (written_is_moved xs i d state start)

-- the state and start that a session had are written back
pub moved_back : (xs : List Session) (i : ℕ) (d : Session) (state : SessionState) (start : ℤ)
    → moved_at (get_or xs i d).state (get_or xs i d).start i (moved_at state start i xs) ≡ xs
moved_back [] i d state start = refl
moved_back (x ∷ xs) zero d state start = refl
moved_back (x ∷ xs) (suc i) d state start = ap (λ rest. x ∷ rest) (moved_back xs i d state start)

pub moved_length : (xs : List Session) (i : ℕ) (state : SessionState) (start : ℤ) → length (moved_at state start i xs) ≡ length xs
moved_length [] i state start = refl
moved_length (x ∷ xs) zero state start = refl
moved_length (x ∷ xs) (suc i) state start = ap suc (moved_length xs i state start)

-- behind the last session nothing moves
pub moved_past : (xs : List Session) (i : ℕ) (state : SessionState) (start : ℤ) → length xs ≤ i → moved_at state start i xs ≡ xs
moved_past [] i state start past = refl
moved_past (x ∷ xs) zero state start past = absurd (omega (arith, past))
moved_past (x ∷ xs) (suc i) state start past = ap (λ rest. x ∷ rest) (moved_past xs i state start (omega (arith, past)))

-- a session with its names moves as it does without
pub row_moved : (state : SessionState) (now : ℤ) (row : SessionRow)
    → record row { state = state; start = start_in state now row.start } ≡ moved_to state now row
row_moved Requesting now row = refl
row_moved Denied now row = refl
row_moved Accessing now row = refl
row_moved Revoked now row = refl
row_moved Ended now row = refl

pub rows_moved : (R : List Bytes) (S O : List (Bytes × ℕ)) (xs : List Session) (i : ℕ) (x : Session) (state : SessionState) (start : ℤ) → slice_get xs i ≡ Some x
    → map (row_of R S O) (moved_at state start i xs) ≡ slice_set (map (row_of R S O) xs) i (record (row_of R S O x) { state = state; start = start })
rows_moved R S O [] i x state start at = cc
rows_moved R S O (y ∷ ys) zero x state start at =
    ap (λ (z : Session). record (row_of R S O z) { state = state; start = start } ∷ map (row_of R S O) ys) (same_Some y x at)
rows_moved R S O (y ∷ ys) (suc i) x state start at = ap (λ rest. row_of R S O y ∷ rest) (rows_moved R S O ys i x state start at)

row_in : (f : Session → SessionRow) (xs : List Session) (i : ℕ) (x : Session) (Q : SessionRow → Type 0) (o : Option SessionRow) → slice_get (map f xs) i ≡ o → IsSomeAnd o Q
    → x ≡ slice_index_or xs i x → slice_get xs i ≡ Some x
row_in f xs i x Q None at there is = absurd there
row_in f xs i x Q (Some row) at there is =
    let lt : i < length xs = omega (arith, slice_get_within (map f xs) i row at, length-map xs f) in
    slice_get-get_or xs i x lt ∙ ap Some (sym is)

-- session n, which stands at place n - 1, moves with its names
pub state_moved : (R : List Bytes) (t : Stored) (n : ℕ) (x : Session) (state : SessionState) (start : ℤ) (Q : SessionRow → Type 0) → IsSomeAnd (session_in (named R t) n) Q
    → x ≡ slice_index_or t.sessions (n - 1) x → start ≡ start_in state t.tick x.start → named R (with_moved t (n - 1) state start) ≡ with_state (named R t) n state
state_moved R t zero x state start Q there is starts = absurd there
state_moved R t (suc m) x state start Q there is starts =
    let f : Session → SessionRow = row_of R t.subjects t.objects in
    let xs = t.sessions in
    let e : suc m - 1 ≡ m = omega arith in
    let here : slice_get xs m ≡ Some x = row_in f xs m x Q (slice_get (map f xs) m) refl there (is ∙ ap (λ i. slice_index_or xs i x) e) in
    let here' : slice_get xs (suc m - 1) ≡ Some x = ap (slice_get xs) e ∙ here in
    let row : record (f x) { state = state; start = start } ≡ moved_to state t.tick (f x) =
    ap (λ s. record (f x) { state = state; start = s }) starts ∙ row_moved state t.tick (f x) in
    let rows : map f (moved_at state start (suc m - 1) xs) ≡ slice_set (map f xs) (suc m - 1) (moved_to state t.tick (f x)) =
    rows_moved R t.subjects t.objects xs (suc m - 1) x state start here' ∙ ap (slice_set (map f xs) (suc m - 1)) row in
    (λ j. record (named R t) { sessions = rows j })
    ∙ sym (ap (λ o. option_map_or (λ row. with_row (named R t) (suc m - 1) (moved_to state t.tick row)) o (named R t)) (slice_get-map f xs m ∙ ap (option_map f) here))
