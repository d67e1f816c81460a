-- The readers are exact, and the sessions grouped, after a usage has begun.
use Rattle.std.proofs.Common.{◌≡◌, ◌≢◌, ◌↔◌, ◌⊎◌, ◌∙◌, inl, inr, ℕ, Bool, true, false, List, [], refl, sym, ap, subst, arith}
use Rattle.std.specs.Prelude.{Option, Some, None, IsSome, cond}
use Rattle.std.specs.List.{Contains}
use Rattle.std.proofs.lemmas.Bool.Decides.{eqb_tells}
use Rattle.ucon_model.specs.declared.reply.Head.TheVariants as heads
use Rattle.ucon_model.specs.declared.session.SessionRow.{SessionRow}
use Rattle.ucon_model.specs.Groups.{JudgedAlike}
use Rattle.ucon_model.specs.declared.formula.Ref.{Ref}
use Rattle.ucon_model.specs.Reach.{places_of}
use Rattle.ucon_model.specs.Readings.{is_accessing_state}
use Rattle.ucon_model.specs.Usages.{going_on}
use Rattle.ucon_state.specs.Shown.{Shown}
use Rattle.ucon_state.specs.Tables.{session_in}
use Rattle.ucon_cascade.specs.Cascading.{WereExact}
use Rattle.ucon_cascade.specs.Grouping.{AreGrouped, AreGroupedAmong, GetsFirst, MayLead}
use Rattle.ucon_readers.specs.Joining.{StandsAlone}
use Rattle.ucon_readers.specs.Listing.{ComesTo, StandsNowhere, StandsSomewhere}
use Rattle.ucon_cascade.specs.Numbering.{AreNumbered, HaveNumbers, IsExact, numbers_of, place_numbers}
use Rattle.ucon_cascade.specs.Putting.{GoesOn}
use Rattle.ucon_cascade.specs.Reading.{StandAsTheyRead}
use Rattle.ucon_readers.specs.Readers.{first_of, readers_at}
use Rattle.ucon_readers.specs.declared.readers.Readers.{Readers}
use Rattle.ucon_cascade.proofs.Exact.{exact_with, numbered_still, numbers_stay}
use Rattle.ucon_cascade.proofs.Grouped.{among_still, goes_same, grouped_all, grouped_more, numbered_alike, numbers_alike}

pub begun_row : (o : Option SessionRow) (row : SessionRow) → o ≡ Some row → IsSome (going_on o) → going_on o ≡ Some row
begun_row None row is some = absurd cc
begun_row (Some other) row is some = by (is_accessing_state other.state) some
  where
    by : (b : Bool) → IsSome (cond b (Some other) None) → cond b (Some other) None ≡ Some row
    by true some = is
    by false some = absurd cc

one_row_of : (o : Option SessionRow) (row other : SessionRow) → o ≡ Some row → o ≡ Some other → row ≡ other
one_row_of o row other is told = let both : Some row ≡ Some other = sym is ∙ told in cc

pub row_there : (o : Option SessionRow) → IsSome (going_on o) → (row : SessionRow) × (o ≡ Some row)
row_there None some = absurd cc
row_there (Some row) some = (row, refl)

-- ---- coming to places

-- the same places, told otherwise
pub comes_like : (standing standing' : ℕ → List ℕ) (k : ℕ) (places others : List ℕ) → ((n : ℕ) → Contains places n ↔ Contains others n)
    → ComesTo standing standing' k places → ComesTo standing standing' k others
comes_like standing standing' k places others same comes n place = (
  λ stands. elim ((comes n place).0 stands) [ inl here ↦ inl (here.0, (same place).0 here.1) | inr stood ↦ inr stood ],
  λ either. (comes n place).1 (elim either [ inl here ↦ inl (here.0, (same place).1 here.1) | inr stood ↦ inr stood ]),
)

-- where another's places are a session's
pub joined_comes : (s : Shown) (r r' : Readers) (n m : ℕ) (row : SessionRow) → session_in s.tables n ≡ Some row → MayLead s (first_of r) n m
    → StandsSomewhere (readers_at r) m → StandAsTheyRead s r n
    → ((k place : ℕ) → Contains (readers_at r' place) k ↔ (((k ≡ n) × Contains (readers_at r place) m) ⊎ Contains (readers_at r place) k))
    → ComesTo (readers_at r) (readers_at r') n (place_numbers s row) × AreNumbered s row
joined_comes s r r' n m row is may stood exact comes =
    let apart : m ≢ n = λ same. (let below = may.below in omega (arith, same, below)) in
    let reads = exact m may.like.row apart stood (begun_row (session_in s.tables m) may.like.row may.like.is may.on) in
    let mine : may.like.other ≡ row = one_row_of (session_in s.tables n) may.like.other row may.like.other_is is in
    let alike : JudgedAlike s.policy may.like.row row = subst (λ (other : SessionRow). JudgedAlike s.policy may.like.row other) mine may.like.alike in
    let places = numbers_alike s may.like.row row alike in (
      λ k place. (
        λ stands. elim ((comes k place).0 stands) [
          | inl here ↦ inl (here.0, subst (λ (ns : List ℕ). Contains ns place) places ((reads.1 place).0 here.1))
          | inr stood ↦ inr stood
        ],
        λ either. (comes k place).1 (elim either [
          | inl here ↦ inl (here.0, (reads.1 place).1 (subst (λ (ns : List ℕ). Contains ns place) (sym places) here.1))
          | inr stood ↦ inr stood
        ]),
      ),
      numbered_alike s may.like.row row alike reads.0,
    )

-- ---- a usage begins

module _ (s : Shown) (r : Readers) (k : ℕ) (were : WereExact s (readers_at r) (first_of r) (heads.Permitted k)) where
  others_same : (n : ℕ) → n ≢ k → going_on (session_in s.tables n) ≡ going_on (session_in were.before.tables n)
  others_same n other = (were.told n).same (λ h. (let back : k ≡ n = cc in other (sym back))) (λ h. cc)

  -- whoever begins stood nowhere
  pub begins_from_nowhere : StandsNowhere (readers_at r) k
  begins_from_nowhere place stood =
      let reads = were.exact.sound k place stood in
      let no : None ≡ Some reads.row = sym ((were.told k).begun refl).0 ∙ reads.is in
      cc

  -- the others stand where they read
  pub others_stand : StandAsTheyRead s r k
  others_stand m row apart stood is =
      let was : going_on (session_in were.before.tables m) ≡ Some row = sym (others_same m apart) ∙ is in
      let numbered = were.exact.numbered m row was in
      let same = numbers_stay were.before s were.base row numbered in (
        numbered_still were.before s were.base row numbered,
        λ place. (
          λ stands. (
              let reads = were.exact.sound m place stands in
              let both : Some reads.row ≡ Some row = sym reads.is ∙ was in
              let one : reads.row ≡ row = cc in
              subst (λ (ns : List ℕ). Contains ns place) (sym same) (subst (λ (other : SessionRow). Contains (place_numbers were.before other) place) one reads.reads)),
          λ reads. were.exact.complete m place (record { row = row; is = was; reads = subst (λ (ns : List ℕ). Contains ns place) same reads }),
        ),
      )

  -- it is there
  pub begun_there : (row : SessionRow) × (session_in s.tables k ≡ Some row)
  begun_there = row_there (session_in s.tables k) ((were.told k).begun refl).1

  -- session k's usage has begun, which reads its places
  pub exact_begun : (standing' : ℕ → List ℕ) (row : SessionRow) → session_in s.tables k ≡ Some row → AreNumbered s row
      → ComesTo (readers_at r) standing' k (place_numbers s row) → IsExact s standing'
  exact_begun standing' row is numbered comes =
      exact_with were.before s (readers_at r) standing' k row were.base were.exact ((were.told k).begun refl).0
      (begun_row (session_in s.tables k) row is ((were.told k).begun refl).1) numbered others_same
      (λ n place. (comes n place).0) (λ place reads. (comes k place).1 (inl (refl, reads))) (λ n place stood. (comes n place).1 (inr stood))

  reads_nothing : (standing' : ℕ → List ℕ) (o : Option SessionRow) → session_in s.tables k ≡ o
      → ((row : SessionRow) → session_in s.tables k ≡ Some row → places_of s.policy row ≡ []) → ComesTo (readers_at r) standing' k [] → IsExact s standing'
  reads_nothing standing' None is none comes =
      let some : IsSome {T = SessionRow} (going_on None) = subst (λ (o : Option SessionRow). IsSome (going_on o)) is ((were.told k).begun refl).1 in
      absurd cc
  reads_nothing standing' (Some row) is none comes =
      let back = sym (none row is) in
      exact_begun standing' row is (subst (HaveNumbers s row) back tt)
      (subst (λ (places : List Ref). ComesTo (readers_at r) standing' k (numbers_of s row places)) back comes)

  -- a session whose usage has begun, and that reads nothing
  pub exact_reading_nothing : (standing' : ℕ → List ℕ) → ((row : SessionRow) → session_in s.tables k ≡ Some row → places_of s.policy row ≡ [])
      → ComesTo (readers_at r) standing' k [] → IsExact s standing'
  exact_reading_nothing standing' none comes = reads_nothing standing' (session_in s.tables k) refl none comes

  goes_not : (n : ℕ) → GoesOn were.before n → n ≢ k
  goes_not n goes same =
      let none : going_on (session_in were.before.tables n) ≡ None = ap (λ (m : ℕ). going_on (session_in were.before.tables m)) same ∙ ((were.told k).begun refl).0 in
      let no : IsSome {T = SessionRow} None = subst (λ (o : Option SessionRow). IsSome o) none goes in
      let not : false ≡ true = no in
      cc

  others_grouped : AreGroupedAmong s (λ n. n ≢ k) (first_of r)
  others_grouped =
      among_still were.before s (λ n. n ≢ k) (first_of r) were.base were.grouped others_same
      (λ n apart goes. others_same (first_of r n) (goes_not (first_of r n) (were.grouped.on n goes)))

  -- nobody else is led by it
  led_by_others : (n : ℕ) → n ≢ k → GoesOn s n → first_of r n ≢ k
  led_by_others n apart goes = goes_not (first_of r n) (were.grouped.on n (goes_same were.before s n (others_same n apart) goes))

  pub grouped_begun : (first' : ℕ → ℕ) → GetsFirst s (first_of r) first' k → AreGrouped s first'
  grouped_begun first' gets =
      grouped_all s (λ n. (n ≡ k) ⊎ (n ≢ k)) first'
      (grouped_more s (λ n. n ≢ k) (first_of r) first' k others_grouped (λ n apart goes. (apart, led_by_others n apart goes)) ((were.told k).begun refl).1 gets)
      (λ n goes. elim (eqb_tells n k) [ inl here ↦ inl here.1 | inr other ↦ inr other.1 ])

  -- where it is its own first
  pub grouped_itself : (first' : ℕ → ℕ) → StandsAlone (first_of r) first' k → AreGrouped s first'
  grouped_itself first' alone = grouped_begun first' (record { first = k; joins = alone; may = inl refl })

  pub alone_begun : (first' : ℕ → ℕ) → GetsFirst s (first_of r) first' k → (n : ℕ) → GoesOn s n → first' n ≡ k → n ≡ k
  alone_begun first' gets n goes is = elim (eqb_tells n k) [
    | inl here ↦ here.1
    | inr other ↦ absurd (led_by_others n other.1 goes (sym (gets.joins.others n other.1) ∙ is))
  ]

  pub alone_itself : (first' : ℕ → ℕ) → StandsAlone (first_of r) first' k → (n : ℕ) → GoesOn s n → first' n ≡ k → n ≡ k
  alone_itself first' alone = alone_begun first' (record { first = k; joins = alone; may = inl refl })
