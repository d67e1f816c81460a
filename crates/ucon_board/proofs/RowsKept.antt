-- What the rows say after an opening, and after a reply more.
use Rattle.std.proofs.Common.{◌≡◌, ℕ, zero, suc, ◌-◌, ◌≤◌, ◌<◌, ◌==◌, ◌≢◌, Bool, true, false, subst, List, [], ◌∷◌, ◌++◌, map, replicate, length, append_assoc, take, drop, take_all, slice_get, slice_set, Option, Some, None, refl, ap, sym, ◌∙◌, arith, if◌then◌else◌}
use Rattle.std.proofs.lemmas.List.{length-set, length-map, append-nil, set_past}
use Rattle.std.proofs.lemmas.Bool.Decides.{nat_tests}
use Rattle.std.specs.Option.{option_or, option_flatten}
use Rattle.ucon_base.specs.Elements.{Each}
use Rattle.ucon_model.specs.declared.session.SessionState.{SessionState}
use Rattle.ucon_model.specs.Plain.{PlainReply}
use Rattle.ucon_board.specs.Board.{Board, Naming, namings, all_namings, last_state, opening_state, state_in, posted}
use Rattle.ucon_board.specs.Rule.{Rows, row_at, set_row, named, after}

pub set_row_at : (rows : Rows) (n : ℕ) (s : SessionState) → 0 < n → set_row rows n s ≡ slice_set rows (n - 1) (Some s)
set_row_at rows zero s pos = absurd (omega (arith, pos))
set_row_at rows (suc n) s pos = let less : n ≡ suc n - 1 = omega arith in ap (λ m. slice_set rows m (Some s)) less

pub set_row_none : (rows : Rows) (n : ℕ) (s : SessionState) → n ≡ 0 → set_row rows n s ≡ rows
set_row_none rows zero s z = refl
set_row_none rows (suc n) s z = absurd (omega (arith, z))

pub set_row_past : (rows : Rows) (n : ℕ) (s : SessionState) → length rows < n → set_row rows n s ≡ rows
set_row_past rows zero s past = refl
set_row_past rows (suc n) s past = set_past rows n (Some s) (omega (arith, past))

pub row_at_within : (rows : Rows) (n : ℕ) → 0 < n → row_at rows n ≡ option_flatten (slice_get rows (n - 1))
row_at_within rows zero pos = absurd (omega (arith, pos))
row_at_within rows (suc n) pos = let less : n ≡ suc n - 1 = omega arith in ap (λ m. option_flatten (slice_get rows m)) less

or_assoc : {A : Type 0} (a b c : Option A) → option_or (option_or a b) c ≡ option_or a (option_or b c)
or_assoc None b c = refl
or_assoc (Some x) b c = refl

or_none : {A : Type 0} (a : Option A) → option_or a None ≡ a
or_none None = refl
or_none (Some x) = refl

set_same : (rows : Rows) (n : ℕ) (s : SessionState) → n < length rows → slice_get (slice_set rows n (Some s)) n ≡ Some (Some s)
set_same [] n s le = absurd (omega (arith, le))
set_same (r ∷ rows) zero s le = refl
set_same (r ∷ rows) (suc n) s le = set_same rows n s (omega (arith, le))

set_other : (rows : Rows) (n k : ℕ) (s : SessionState) → n ≢ k → slice_get (slice_set rows n (Some s)) k ≡ slice_get rows k
set_other [] n k s apart = refl
set_other (r ∷ rows) zero zero s apart = absurd (apart refl)
set_other (r ∷ rows) zero (suc k) s apart = refl
set_other (r ∷ rows) (suc n) zero s apart = refl
set_other (r ∷ rows) (suc n) (suc k) s apart = set_other rows n k s (λ e. apart (ap suc e))

row_same : (rows : Rows) (n : ℕ) (s : SessionState) → 0 < n → n ≤ length rows → row_at (set_row rows n s) n ≡ Some s
row_same rows zero s pos le = absurd (omega (arith, pos))
row_same rows (suc n) s pos le = ap option_flatten (set_same rows n s (omega (arith, le)))

row_other : (rows : Rows) (n k : ℕ) (s : SessionState) → n ≢ k → row_at (set_row rows n s) k ≡ row_at rows k
row_other rows zero k s apart = refl
row_other rows (suc n) zero s apart = refl
row_other rows (suc n) (suc k) s apart = ap option_flatten (set_other rows n k s (λ e. apart (ap suc e)))

-- one row written, as each row then reads
named_by : (rows : Rows) (n k : ℕ) (s : SessionState) → 0 < n → n ≤ length rows → (b : Bool) → (n == k) ≡ b
    → row_at (set_row rows n s) k ≡ option_or (if b then Some s else None) (row_at rows k)
named_by rows n k s pos le true is =
    let same : n ≡ k = grind (arith, nat_tests) in
    subst (λ j. row_at (set_row rows n s) j ≡ Some s) same (row_same rows n s pos le)
named_by rows n k s pos le false is =
    let apart : n ≢ k = grind (arith, nat_tests) in
    row_other rows n k s apart

named_reads : (rows : Rows) (n k : ℕ) (s : SessionState) → 0 < n → n ≤ length rows → row_at (set_row rows n s) k ≡ option_or (if n == k then Some s else None) (row_at rows k)
named_reads rows n k s pos le = named_by rows n k s pos le (n == k) refl

named_length : (rows : Rows) (n : ℕ) (s : SessionState) → length (set_row rows n s) ≡ length rows
named_length rows zero s = refl
named_length rows (suc n) s = length-set rows n (Some s)

pub after_length : (xs : List Naming) (rows : Rows) → length (after rows xs) ≡ length rows
after_length [] rows = refl
after_length (x ∷ xs) rows = after_length xs (named rows x) ∙ named_length rows x.0 x.1

after_reads : (w : ℕ) (xs : List Naming) (rows : Rows) (k : ℕ) → Each (λ (x : Naming). (0 < x.0) × (x.0 ≤ w)) xs → length rows ≡ w
    → row_at (after rows xs) k ≡ option_or (last_state xs k) (row_at rows k)
after_reads w [] rows k each wide = refl
after_reads w (x ∷ xs) rows k each wide =
    let one = named_reads rows x.0 k x.1 each.0.0 (omega (arith, each.0.1, wide)) in
    after_reads w xs (named rows x) k each.1 (named_length rows x.0 x.1 ∙ wide)
    ∙ (ap (λ o. option_or (last_state xs k) o) one ∙ sym (or_assoc (last_state xs k) (if x.0 == k then Some x.1 else None) (row_at rows k)))

last_append : (xs ys : List Naming) (n : ℕ) → last_state (xs ++ ys) n ≡ option_or (last_state ys n) (last_state xs n)
last_append [] ys n = sym (or_none (last_state ys n))
last_append (x ∷ xs) ys n = ap (λ o. option_or o (if x.0 == n then Some x.1 else None)) (last_append xs ys n) ∙ or_assoc (last_state ys n) (last_state xs n) (if x.0 == n then Some x.1 else None)

all_append : (rs : List PlainReply) (r : PlainReply) → all_namings (rs ++ r ∷ []) ≡ all_namings rs ++ namings r
all_append [] r = append-nil (namings r)
all_append (x ∷ rs) r = ap (λ l. namings x ++ l) (all_append rs r) ∙ sym (append_assoc (namings x) (all_namings rs) (namings r))

-- what a reply says of a session stands before what was said before
state_posted : (b : Board) (r : PlainReply) (n : ℕ) → state_in (posted b r) n ≡ option_or (last_state (namings r) n) (state_in b n)
state_posted b r n =
    let said = ap (λ l. last_state l n) (all_append b.replies r) ∙ last_append (all_namings b.replies) (namings r) n in
    ap (λ o. option_or o (opening_state b.sessions n)) said ∙ or_assoc (last_state (namings r) n) (last_state (all_namings b.replies) n) (opening_state b.sessions n)

-- the rows with what a reply says
pub rows_posted : (w : ℕ) (rows : Rows) (b : Board) (r : PlainReply) (k : ℕ) → length rows ≡ w → Each (λ (x : Naming). (0 < x.0) × (x.0 ≤ w)) (namings r)
    → row_at rows k ≡ state_in b k → row_at (after rows (namings r)) k ≡ state_in (posted b r) k
rows_posted w rows b r k wide each was =
    after_reads w (namings r) rows k each wide ∙ (ap (λ o. option_or (last_state (namings r) k) o) was ∙ sym (state_posted b r k))

none_there : (m k : ℕ) → option_flatten (slice_get (replicate {A = Option SessionState} m None) k) ≡ None
none_there zero k = refl
none_there (suc m) zero = refl
none_there (suc m) (suc k) = none_there m k

opened_reads : (sessions : List SessionState) (m k : ℕ) → option_flatten (slice_get (map Some sessions ++ replicate m None) k) ≡ slice_get sessions k
opened_reads [] m k = none_there m k
opened_reads (s ∷ sessions) m zero = refl
opened_reads (s ∷ sessions) m (suc k) = opened_reads sessions m k

-- the rows at the opening
pub rows_opened : (sessions : List SessionState) (m k : ℕ) → row_at (map Some sessions ++ replicate m None) k ≡ opening_state sessions k
rows_opened sessions m zero = refl
rows_opened sessions m (suc k) = opened_reads sessions m k

-- room is filled up with rows of nobody
pub filled_up : (n m : ℕ) (sessions : List SessionState) (rows new : Rows) → rows ≡ map Some sessions → length sessions ≤ n → m ≡ length rows
    → new ≡ take n rows ++ replicate (n - m) None → new ≡ map Some sessions ++ replicate (n - length sessions) None
filled_up n m sessions rows new is few count made =
    let long : length rows ≡ length sessions = ap length is ∙ length-map sessions Some in
    made ∙ (ap (λ k. take n rows ++ replicate (n - k) None) (count ∙ long) ∙ ap (λ r. r ++ replicate (n - length sessions) None) (take_all n rows (omega (arith, long, few)) ∙ is))

drop_all : {A : Type 0} (n : ℕ) (xs : List A) → length xs ≤ n → drop n xs ≡ []
drop_all zero [] le = refl
drop_all zero (x ∷ xs) le = absurd (omega (arith, le))
drop_all (suc n) [] le = refl
drop_all (suc n) (x ∷ xs) le = drop_all n xs (omega (arith, le))

-- when all sessions were gone through, each has its row
pub all_through : (n : ℕ) (sessions : List SessionState) (rows : Rows) → rows ++ map Some (drop n sessions) ≡ map Some sessions → length sessions ≤ n → rows ≡ map Some sessions
all_through n sessions rows so le = sym (append-nil rows) ∙ (ap (λ l. rows ++ map Some l) (sym (drop_all n sessions le)) ∙ so)
