-- Who reads what, and shares whose judgement, is read anew, session by session.
use Rattle.std.proofs.Common.{◌≡◌, ◌↔◌, ◌∙◌, ◌⊎◌, ◌+◌, ◌<◌, inl, inr, ℕ, zero, suc, List, [], length, refl, sym, ap, subst, arith}
use Rattle.std.specs.Prelude.{Option, Some, None, IsSome, is_some, option_map, Bool, true, false, cond}
use Rattle.std.specs.List.{Contains}
use Rattle.std.proofs.lemmas.Bool.Decides.{eqb_tells}
use Rattle.ucon_model.specs.declared.session.SessionRow.{SessionRow}
use Rattle.ucon_model.specs.declared.session.SessionState.{SessionState}
use Rattle.ucon_model.specs.Readings.{is_accessing_state}
use Rattle.ucon_model.specs.Usages.{going_on}
use Rattle.ucon_state.specs.Shown.{Shown}
use Rattle.ucon_state.specs.Tables.{session_in}
use Rattle.ucon_cascade.specs.Grouping.{AreGrouped, AreGroupedBelow, GetsFirst}
use Rattle.ucon_cascade.specs.Putting.{GoesOn}
use Rattle.ucon_cascade.specs.Reading.{AreReadBelow, StandAsTheyRead}
use Rattle.ucon_readers.specs.Readers.{first_of, readers_at}
use Rattle.ucon_readers.specs.declared.readers.Readers.{Readers}
use Rattle.ucon_cascade.proofs.Grouped.{among_like, grouped_all, grouped_fewer, grouped_more}
use Rattle.ucon_cascade.specs.Numbering.{AreNumbered, IsExact, IsExactBelow, place_numbers}
use Rattle.ucon_readers.specs.Listing.{ComesTo, StandsNowhere}
use Rattle.ucon_cascade.proofs.Putting.{usage_below}

nothing_in : (n : ℕ) → Contains [] n → ⊥
nothing_in n (i, within, is) = omega (arith, within)

-- there is no session 0
no_first : (s : Shown) (n : ℕ) (row : SessionRow) → n < 1 → going_on (session_in s.tables n) ≡ Some row → ⊥
no_first s zero row below is = let no : None ≡ Some row = is in cc
no_first s (suc n) row below is = omega (arith, below)

-- at first nobody reads anything
pub nobody_yet : (s : Shown) (standing : ℕ → List ℕ) → ((place : ℕ) → standing place ≡ []) → IsExactBelow s standing 1
nobody_yet s standing nobody = record {
  below = λ n place stands. absurd (nowhere n place stands);
  sound = λ n place stands. absurd (nowhere n place stands);
  complete = λ n place below reads. absurd (no_first s n reads.row below reads.is);
  numbered = λ n row below is. absurd (no_first s n row below is);
}
  where
    nowhere : (n place : ℕ) → Contains (standing place) n → ⊥
    nowhere n place stands = nothing_in n (subst (λ (xs : List ℕ). Contains xs n) (nobody place) stands)

-- who comes later stands nowhere yet
pub not_yet : (s : Shown) (standing : ℕ → List ℕ) (n : ℕ) → IsExactBelow s standing n → StandsNowhere standing n
not_yet s standing n exact place stands = let below = exact.below n place stands in omega (arith, below)

pub last_or_before : (n k : ℕ) → k < n + 1 → (k ≡ n) ⊎ (k < n)
last_or_before n k below = elim (eqb_tells k n) [ inl last ↦ inl last.1 | inr other ↦ (let apart = other.1 in inr (omega (arith, below, apart))) ]

-- the next session reads its places
pub one_comes : (s : Shown) (standing standing' : ℕ → List ℕ) (n : ℕ) (row : SessionRow) → IsExactBelow s standing n → going_on (session_in s.tables n) ≡ Some row
    → AreNumbered s row → ComesTo standing standing' n (place_numbers s row) → IsExactBelow s standing' (n + 1)
one_comes s standing standing' n row exact goes_on numbered comes = record {
  below = λ m place stands. elim ((comes m place).0 stands) [
    | inl here ↦ (let last : m ≡ n = here.0 in omega (arith, last))
    | inr stood ↦ (let before = exact.below m place stood in omega (arith, before))
  ];
  sound = λ m place stands. elim ((comes m place).0 stands) [
    | inl here ↦ record { row = row; is = ap (λ (k : ℕ). going_on (session_in s.tables k)) here.0 ∙ goes_on; reads = here.1 }
    | inr stood ↦ exact.sound m place stood
  ];
  complete = λ m place below reads. elim (last_or_before n m below) [
    | inl last ↦ (comes m place).1 (inl (last, subst (λ (r : SessionRow). Contains (place_numbers s r) place) (one_row m reads.row last reads.is) reads.reads))
    | inr before ↦ (comes m place).1 (inr (exact.complete m place before reads))
  ];
  numbered = λ m other below is. elim (last_or_before n m below) [
    | inl last ↦ subst (AreNumbered s) (sym (one_row m other last is)) numbered
    | inr before ↦ exact.numbered m other before is
  ];
}
  where
    one_row : (m : ℕ) (other : SessionRow) → m ≡ n → going_on (session_in s.tables m) ≡ Some other → other ≡ row
    one_row m other last is =
        let both : Some other ≡ Some row = sym is ∙ ap (λ (k : ℕ). going_on (session_in s.tables k)) last ∙ goes_on in
        cc

-- the next session reads nothing
pub none_comes : (s : Shown) (standing : ℕ → List ℕ) (n : ℕ) → IsExactBelow s standing n → going_on (session_in s.tables n) ≡ None → IsExactBelow s standing (n + 1)
none_comes s standing n exact over = record {
  below = λ m place stands. (let before = exact.below m place stands in omega (arith, before));
  sound = exact.sound;
  complete = λ m place below reads. elim (last_or_before n m below) [
    | inl last ↦ absurd (none_reads m reads.row last reads.is)
    | inr before ↦ exact.complete m place before reads
  ];
  numbered = λ m row below is. elim (last_or_before n m below) [
    | inl last ↦ absurd (none_reads m row last is)
    | inr before ↦ exact.numbered m row before is
  ];
}
  where
    none_reads : (m : ℕ) (row : SessionRow) → m ≡ n → going_on (session_in s.tables m) ≡ Some row → ⊥
    none_reads m row last is =
        let no : None ≡ Some row = sym over ∙ sym (ap (λ (k : ℕ). going_on (session_in s.tables k)) last) ∙ is in
        cc

-- the same who stand
pub below_like : (s : Shown) (standing standing' : ℕ → List ℕ) (n : ℕ) → ((m place : ℕ) → Contains (standing' place) m ↔ Contains (standing place) m)
    → IsExactBelow s standing n → IsExactBelow s standing' n
below_like s standing standing' n same exact = record {
  below = λ m place stands. exact.below m place ((same m place).0 stands);
  sound = λ m place stands. exact.sound m place ((same m place).0 stands);
  complete = λ m place below reads. (same m place).1 (exact.complete m place below reads);
  numbered = exact.numbered;
}

-- when all are read
pub all_read : (s : Shown) (standing : ℕ → List ℕ) (limit : ℕ) → length s.tables.sessions < limit → IsExactBelow s standing limit → IsExact s standing
all_read s standing limit all exact = record {
  sound = exact.sound;
  complete = λ n place reads. exact.complete n place (within n (usage_below s n (ap is_some reads.is))) reads;
  numbered = λ n row is. exact.numbered n row (within n (usage_below s n (ap is_some is))) is;
}
  where
    within : (n : ℕ) → n < length s.tables.sessions + 1 → n < limit
    within n below = omega (arith, below, all)

-- ---- readers

some_row : (o : Option SessionRow) → IsSome o → (row : SessionRow) × (o ≡ Some row)
some_row None some = let no : ⊥ = cc in absurd no
some_row (Some row) some = (row, refl)

-- at first nobody is in a list
pub none_read : (s : Shown) (r : Readers) → ((place : ℕ) → readers_at r place ≡ []) → AreReadBelow s 1 r
none_read s r nobody = record {
  exact = nobody_yet s (readers_at r) nobody;
  grouped = record {
    low = λ n below goes. absurd (none n below goes);
    on = λ n below goes. absurd (none n below goes);
    itself = λ n below goes. absurd (none n below goes);
    like = λ n below goes. absurd (none n below goes);
  };
}
  where
    none : (n : ℕ) → n < 1 → GoesOn s n → ⊥
    none n below goes = let row = some_row (going_on (session_in s.tables n)) goes in no_first s n row.0 below row.1

-- those who stand somewhere stand where they read
pub all_stand : (s : Shown) (r : Readers) (n : ℕ) → AreReadBelow s n r → StandAsTheyRead s r n
all_stand s r n read m row apart stood is =
    let below = read.exact.below m stood.0 stood.1 in (
      read.exact.numbered m row below is,
      λ place. (
        λ stands. (
            let reads = read.exact.sound m place stands in
            let both : Some reads.row ≡ Some row = sym reads.is ∙ is in
            let one : reads.row ≡ row = cc in
            subst (λ (other : SessionRow). Contains (place_numbers s other) place) one reads.reads),
        λ reads. read.exact.complete m place below (record { row = row; is = is; reads = reads }),
      ),
    )

-- the next session reads nothing
pub none_reads_next : (s : Shown) (r : Readers) (n : ℕ) → AreReadBelow s n r → going_on (session_in s.tables n) ≡ None → AreReadBelow s (n + 1) r
none_reads_next s r n read over = record {
  exact = none_comes s (readers_at r) n read.exact over;
  grouped = grouped_fewer s (λ m. m < n) (λ m. m < n + 1) (first_of r) read.grouped
      (λ m below goes. elim (last_or_before n m below) [
        | inl last ↦
            let none : going_on (session_in s.tables m) ≡ None = ap (λ (k : ℕ). going_on (session_in s.tables k)) last ∙ over in
            let no : IsSome {T = SessionRow} None = subst (λ (o : Option SessionRow). IsSome o) none goes in
            let not : false ≡ true = no in
            absurd cc
        | inr before ↦ before
      ]);
}

-- the next session reads its places
pub one_reads_next : (s : Shown) (r r' : Readers) (n : ℕ) (row : SessionRow) → AreReadBelow s n r → going_on (session_in s.tables n) ≡ Some row → AreNumbered s row
    → ComesTo (readers_at r) (readers_at r') n (place_numbers s row) → GetsFirst s (first_of r) (first_of r') n → AreReadBelow s (n + 1) r'
one_reads_next s r r' n row read goes_on numbered comes gets = record {
  exact = one_comes s (readers_at r) (readers_at r') n row read.exact goes_on numbered comes;
  grouped = grouped_fewer s (λ m. (m ≡ n) ⊎ (m < n)) (λ m. m < n + 1) (first_of r')
      (grouped_more s (λ m. m < n) (first_of r) (first_of r') n read.grouped
      (λ m below goes. (let low = read.grouped.low m below goes in (λ same. omega (arith, below, same), λ same. omega (arith, below, same, low))))
      (subst (λ (o : Option SessionRow). IsSome o) (sym goes_on) refl) gets)
      (λ m below goes. last_or_before n m below);
}

-- the same who stand, with the same firsts
pub read_like : (s : Shown) (r r' : Readers) (n : ℕ) → ((m place : ℕ) → Contains (readers_at r' place) m ↔ Contains (readers_at r place) m)
    → ((m : ℕ) → first_of r' m ≡ first_of r m) → AreReadBelow s n r → AreReadBelow s n r'
read_like s r r' n same firsts read = record {
  exact = below_like s (readers_at r) (readers_at r') n same read.exact;
  grouped = among_like s (λ m. m < n) (first_of r) (first_of r') firsts read.grouped;
}

-- when all are grouped
pub all_grouped : (s : Shown) (first : ℕ → ℕ) (limit : ℕ) → length s.tables.sessions < limit → AreGroupedBelow s limit first → AreGrouped s first
all_grouped s first limit all grouped = grouped_all s (λ n. n < limit) first grouped (λ n goes. (let below = usage_below s n goes in omega (arith, below, all)))

-- ---- whether a usage goes on

pub none_on : (o : Option SessionRow) → (IsSome o → ⊥) → o ≡ None
none_on None never = refl
none_on (Some row) never = absurd (never refl)

on_state : (b : Bool) (row : SessionRow) → b ≡ true → cond b (Some row) None ≡ Some row
on_state true row is = refl
on_state false row is = absurd cc

off_state : (b : Bool) (row : SessionRow) → b ≡ false → cond b (Some row) None ≡ None
off_state true row is = absurd cc
off_state false row is = refl

-- by the state alone
pub goes_on_in : (o : Option SessionRow) (state : SessionState) → option_map (λ row. row.state) o ≡ Some state → is_accessing_state state ≡ true → IsSome (going_on o)
goes_on_in None state is on = absurd cc
goes_on_in (Some row) state is on =
    let same : row.state ≡ state = cc in
    ap is_some (on_state (is_accessing_state row.state) row (ap is_accessing_state same ∙ on))

pub is_over_in : (o : Option SessionRow) (state : SessionState) → option_map (λ row. row.state) o ≡ Some state → is_accessing_state state ≡ false → IsSome (going_on o) → ⊥
is_over_in None state is off some = absurd cc
is_over_in (Some row) state is off some =
    let same : row.state ≡ state = cc in
    let over : going_on (Some row) ≡ None = off_state (is_accessing_state row.state) row (ap is_accessing_state same ∙ off) in
    let no : false ≡ true = sym (ap is_some over) ∙ some in
    cc

pub no_session : (o : Option SessionRow) → option_map (λ row. row.state) o ≡ None → IsSome (going_on o) → ⊥
no_session None is some = cc
no_session (Some row) is some = absurd cc
