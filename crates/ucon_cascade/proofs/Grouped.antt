-- Sessions stay grouped, and sessions that are judged alike read the same.
use Rattle.std.proofs.Common.{◌≡◌, ◌≢◌, ◌∙◌, ◌≤◌, ◌⊎◌, ◌||◌, inl, inr, ℕ, Bool, true, false, List, [], ◌∷◌, ◌++◌, refl, sym, ap, subst, arith}
use Rattle.std.specs.Prelude.{Option, IsSome, ⊤}
use Rattle.std.specs.List.{flat_map, list_any}
use Rattle.std.specs.Option.{option_to_list}
use Rattle.ucon_actions.specs.Leads.{KeepsBase}
use Rattle.ucon_base.specs.Elements.{Each}
use Rattle.ucon_base.specs.declared.value.Side.{Side}
use Rattle.ucon_base.specs.declared.value.Side.TheVariants as sides
use Rattle.ucon_model.specs.declared.formula.Ref.{Ref}
use Rattle.ucon_model.specs.declared.formula.Ref.TheVariants.{Subject, Object, Env}
use Rattle.ucon_model.specs.declared.session.SessionRow.{SessionRow}
use Rattle.ucon_model.specs.Groups.{JudgedAlike, is_of_side}
use Rattle.ucon_model.specs.Plain.{Bytes}
use Rattle.ucon_model.specs.Reach.{Location, attribute_of, location_of, places_of}
use Rattle.ucon_model.specs.Updates.{entity_of}
use Rattle.ucon_model.specs.Usages.{going_on}
use Rattle.ucon_state.specs.Shown.{Shown}
use Rattle.ucon_state.specs.Tables.{session_in}
use Rattle.ucon_cascade.specs.Grouping.{AreAlike, AreGrouped, AreGroupedAmong, GetsFirst}
use Rattle.ucon_cascade.specs.Numbering.{AreNumbered, place_number, place_numbers}
use Rattle.ucon_cascade.specs.Putting.{GoesOn}
use Rattle.ucon_cascade.proofs.Leaving.{alike_still, same_places}

-- ---- judged alike

-- on each side that is read at these places the two have one entity
abbrev AreOfOneEntity : SessionRow → SessionRow → List Ref → Type 0
AreOfOneEntity row other places = (side : Side) → list_any (is_of_side side) places ≡ true → entity_of side row ≡ entity_of side other

or_later : (a b : Bool) → b ≡ true → (a || b) ≡ true
or_later true b is = refl
or_later false b is = is

of_rest : (row other : SessionRow) (place : Ref) (rest : List Ref) → AreOfOneEntity row other (place ∷ rest) → AreOfOneEntity row other rest
of_rest row other place rest one side reads = one side (or_later (is_of_side side place) (list_any (is_of_side side) rest) reads)

located_alike : (row other : SessionRow) (place : Ref) (rest : List Ref) → AreOfOneEntity row other (place ∷ rest) → location_of row place ≡ location_of other place
located_alike row other (Subject attr) rest one = ap (λ (name : Bytes). attribute_of sides.Subject name attr) (one sides.Subject refl)
located_alike row other (Object attr) rest one = ap (λ (name : Bytes). attribute_of sides.Object name attr) (one sides.Object refl)
located_alike row other (Env name) rest one = refl

numbers_of_alike : (s : Shown) (row other : SessionRow) (places : List Ref) → AreOfOneEntity row other places
    → flat_map (λ place. option_to_list (place_number s (location_of row place))) places ≡ flat_map (λ place. option_to_list (place_number s (location_of other place))) places
numbers_of_alike s row other [] one = refl
numbers_of_alike s row other (place ∷ rest) one =
    ap (λ (l : Location). option_to_list (place_number s l) ++ flat_map (λ place. option_to_list (place_number s (location_of row place))) rest)
    (located_alike row other place rest one)
    ∙ ap (λ (ns : List ℕ). option_to_list (place_number s (location_of other place)) ++ ns) (numbers_of_alike s row other rest (of_rest row other place rest one))

have_numbers_alike : (s : Shown) (row other : SessionRow) (places : List Ref) → AreOfOneEntity row other places
    → Each (λ place. IsSome (place_number s (location_of row place))) places → Each (λ place. IsSome (place_number s (location_of other place))) places
have_numbers_alike s row other [] one each = tt
have_numbers_alike s row other (place ∷ rest) one each = (
  subst (λ (l : Location). IsSome (place_number s l)) (located_alike row other place rest one) each.0,
  have_numbers_alike s row other rest (of_rest row other place rest one) each.1,
)

-- they read the same places
pub numbers_alike : (s : Shown) (row other : SessionRow) → JudgedAlike s.policy row other → place_numbers s row ≡ place_numbers s other
numbers_alike s row other alike =
    numbers_of_alike s row other (places_of s.policy row) alike.entities
    ∙ ap (λ (places : List Ref). flat_map (λ place. option_to_list (place_number s (location_of other place))) places) (same_places s.policy row other alike.right)

pub numbered_alike : (s : Shown) (row other : SessionRow) → JudgedAlike s.policy row other → AreNumbered s row → AreNumbered s other
numbered_alike s row other alike numbered =
    subst (λ (places : List Ref). Each (λ place. IsSome (place_number s (location_of other place))) places) (same_places s.policy row other alike.right)
    (have_numbers_alike s row other (places_of s.policy row) alike.entities numbered)

-- ---- where usages go on as before

pub goes_same : (s s' : Shown) (n : ℕ) → going_on (session_in s'.tables n) ≡ going_on (session_in s.tables n) → GoesOn s' n → GoesOn s n
goes_same s s' n same goes = subst (λ (o : Option SessionRow). IsSome o) same goes

pub goes_still : (s s' : Shown) (n : ℕ) → going_on (session_in s'.tables n) ≡ going_on (session_in s.tables n) → GoesOn s n → GoesOn s' n
goes_still s s' n same goes = subst (λ (o : Option SessionRow). IsSome o) (sym same) goes

-- these go on as before, and so do their firsts
pub among_still : (s s' : Shown) (Among : ℕ → Type 0) (first : ℕ → ℕ) → KeepsBase s s' → AreGrouped s first
    → ((n : ℕ) → Among n → going_on (session_in s'.tables n) ≡ going_on (session_in s.tables n))
    → ((n : ℕ) → Among n → GoesOn s n → going_on (session_in s'.tables (first n)) ≡ going_on (session_in s.tables (first n)))
    → AreGroupedAmong s' Among first
among_still s s' Among first base grouped same firsts = record {
  low = λ n among goes. grouped.low n (goes_same s s' n (same n among) goes);
  on = λ n among goes. (let was = goes_same s s' n (same n among) goes in goes_still s s' (first n) (firsts n among was) (grouped.on n was));
  itself = λ n among goes. grouped.itself n (goes_same s s' n (same n among) goes);
  like = λ n among goes. (let was = goes_same s s' n (same n among) goes in elim (grouped.like n was) [
    | inl itself ↦ inl itself
    | inr alike ↦ inr (alike_still s s' (first n) n base (grouped.on n was) was (firsts n among was) (same n among) alike)
  ]);
}

pub grouped_still : (s s' : Shown) (first : ℕ → ℕ) → KeepsBase s s' → AreGrouped s first
    → ((n : ℕ) → going_on (session_in s'.tables n) ≡ going_on (session_in s.tables n)) → AreGrouped s' first
grouped_still s s' first base grouped same =
    let all = among_still s s' (λ n. ⊤) first base grouped (λ n among. same n) (λ n among goes. same (first n)) in
    record { low = λ n. all.low n tt; on = λ n. all.on n tt; itself = λ n. all.itself n tt; like = λ n. all.like n tt }

-- ---- session n comes

module _ (s : Shown) (Among : ℕ → Type 0) (old new : ℕ → ℕ) (n : ℕ) (grouped : AreGroupedAmong s Among old)
    (apart : (k : ℕ) → Among k → GoesOn s k → (k ≢ n) × (old k ≢ n)) (goes_on : GoesOn s n) (gets : GetsFirst s old new n) where
  same_first : (k : ℕ) → Among k → GoesOn s k → new k ≡ old k
  same_first k among goes = gets.joins.others k (apart k among goes).0

  its_low : new n ≤ n
  its_low = elim gets.may [
    | inl itself ↦ (let first = gets.joins.first in omega (arith, first, itself))
    | inr may ↦ (let first = gets.joins.first in let below = may.below in omega (arith, first, below))
  ]

  its_on : GoesOn s (new n)
  its_on = elim gets.may [
    | inl itself ↦ subst (GoesOn s) (sym (gets.joins.first ∙ itself)) goes_on
    | inr may ↦ subst (GoesOn s) (sym gets.joins.first) may.on
  ]

  its_own : new (new n) ≡ new n
  its_own = elim gets.may [
    | inl itself ↦ ap new (gets.joins.first ∙ itself)
    | inr may ↦ ap new gets.joins.first ∙ gets.joins.others gets.first (λ same. (let below = may.below in omega (arith, same, below))) ∙ may.itself ∙ sym gets.joins.first
  ]

  its_like : (new n ≡ n) ⊎ AreAlike s (new n) n
  its_like = elim gets.may [
    | inl itself ↦ inl (gets.joins.first ∙ itself)
    | inr may ↦ inr (subst (λ (m : ℕ). AreAlike s m n) (sym gets.joins.first) may.like)
  ]

  -- the others are grouped as before, and it with its first
  pub grouped_more : AreGroupedAmong s (λ k. (k ≡ n) ⊎ Among k) new
  grouped_more = record {
    low = λ k either goes. elim either [
      | inl here ↦ subst (λ (m : ℕ). new m ≤ m) (sym here) its_low
      | inr among ↦ subst (λ (m : ℕ). m ≤ k) (sym (same_first k among goes)) (grouped.low k among goes)
    ];
    on = λ k either goes. elim either [
      | inl here ↦ subst (λ (m : ℕ). GoesOn s (new m)) (sym here) its_on
      | inr among ↦ subst (GoesOn s) (sym (same_first k among goes)) (grouped.on k among goes)
    ];
    itself = λ k either goes. elim either [
      | inl here ↦ subst (λ (m : ℕ). new (new m) ≡ new m) (sym here) its_own
      | inr among ↦
          let is = same_first k among goes in
          ap new is ∙ gets.joins.others (old k) (apart k among goes).1 ∙ grouped.itself k among goes ∙ sym is
    ];
    like = λ k either goes. elim either [
      | inl here ↦ subst (λ (m : ℕ). (new m ≡ m) ⊎ AreAlike s (new m) m) (sym here) its_like
      | inr among ↦
          let is = same_first k among goes in
          elim (grouped.like k among goes) [
            | inl itself ↦ inl (is ∙ itself)
            | inr alike ↦ inr (subst (λ (m : ℕ). AreAlike s m k) (sym is) alike)
          ]
    ];
  }

pub among_all : (s : Shown) (first : ℕ → ℕ) → AreGrouped s first → AreGroupedAmong s (λ n. ⊤) first
among_all s first grouped = record {
  low = λ n among. grouped.low n;
  on = λ n among. grouped.on n;
  itself = λ n among. grouped.itself n;
  like = λ n among. grouped.like n;
}

-- fewer of them
pub grouped_fewer : (s : Shown) (Among Fewer : ℕ → Type 0) (first : ℕ → ℕ) → AreGroupedAmong s Among first → ((n : ℕ) → Fewer n → GoesOn s n → Among n)
    → AreGroupedAmong s Fewer first
grouped_fewer s Among Fewer first grouped within = record {
  low = λ n fewer goes. grouped.low n (within n fewer goes) goes;
  on = λ n fewer goes. grouped.on n (within n fewer goes) goes;
  itself = λ n fewer goes. grouped.itself n (within n fewer goes) goes;
  like = λ n fewer goes. grouped.like n (within n fewer goes) goes;
}

-- all of them
pub grouped_all : (s : Shown) (Among : ℕ → Type 0) (first : ℕ → ℕ) → AreGroupedAmong s Among first → ((n : ℕ) → GoesOn s n → Among n) → AreGrouped s first
grouped_all s Among first grouped all = record {
  low = λ n goes. grouped.low n (all n goes) goes;
  on = λ n goes. grouped.on n (all n goes) goes;
  itself = λ n goes. grouped.itself n (all n goes) goes;
  like = λ n goes. grouped.like n (all n goes) goes;
}

-- the same firsts
pub among_like : (s : Shown) (Among : ℕ → Type 0) (first first' : ℕ → ℕ) → ((n : ℕ) → first' n ≡ first n) → AreGroupedAmong s Among first → AreGroupedAmong s Among first'
among_like s Among first first' same grouped = record {
  low = λ n among goes. subst (λ (m : ℕ). m ≤ n) (sym (same n)) (grouped.low n among goes);
  on = λ n among goes. subst (GoesOn s) (sym (same n)) (grouped.on n among goes);
  itself = λ n among goes. ap first' (same n) ∙ same (first n) ∙ grouped.itself n among goes ∙ sym (same n);
  like = λ n among goes. elim (grouped.like n among goes) [
    | inl itself ↦ inl (same n ∙ itself)
    | inr alike ↦ inr (subst (λ (m : ℕ). AreAlike s m n) (sym (same n)) alike)
  ];
}
