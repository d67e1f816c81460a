-- Who is in a list, and who is its first.
use Rattle.std.proofs.Common.{◌≡◌, ◌≢◌, ◌∙◌, ◌⊎◌, inl, inr, ◌+◌, ℕ, zero, suc, ◌<◌, ◌≤◌, Bool, true, false, cond, List, [], ◌∷◌, refl, sym, ap, subst, arith}
use Rattle.std.specs.Prelude.{Option, Some, None, IfNone, IfSome, min}
use Rattle.std.specs.List.{Contains, flat_map}
use Rattle.std.specs.Option.{option_map_or}
use Rattle.std.proofs.lemmas.Bool.Decides.{eqb_tells}
use Rattle.std.proofs.lemmas.List.Elements.{Contains-append_left, Contains-append_right, Contains-append_cases}
use Rattle.ucon_collections.specs.Lists.{IsLed, IsNext, Members, leader_in, member_at}
use Rattle.ucon_collections.specs.Undoing.{Who, who_in}
use Rattle.ucon_collections.specs.declared.table.Member.{Member}
use Rattle.ucon_readers.specs.Lists.{first_in, is_of, least_of, members_from, members_in}

-- ---- elements

pub some_of : {A : Type 0} {x y : A} → Some x ≡ Some y → x ≡ y
some_of is = cc

module _ {X : Type 0} where
  pub further : (x : X) (xs : List X) (y : X) → Contains xs y → Contains (x ∷ xs) y
  further x xs y (i, within, is) = (suc i, omega (arith, within), is)

  pub first_or_later : (x : X) (xs : List X) (y : X) → Contains (x ∷ xs) y → (y ≡ x) ⊎ Contains xs y
  first_or_later x xs y (zero, within, is) = inl (sym is)
  first_or_later x xs y (suc i, within, is) = inr (i, omega (arith, within), is)

  pub nothing_in : (x : X) → Contains [] x → ⊥
  nothing_in x (i, within, is) = omega (arith, within)

  pub only_in : (x y : X) → Contains (x ∷ []) y → y ≡ x
  only_in x y has = elim (first_or_later x [] y has) [ inl is ↦ is | inr rest ↦ absurd (nothing_in y rest) ]

module _ {X Y : Type 0} (f : X → List Y) where
  pub in_flat_map : (xs : List X) (y : Y) → Contains (flat_map f xs) y → (x : X) × Contains xs x × Contains (f x) y
  in_flat_map [] y has = absurd (nothing_in y has)
  in_flat_map (x ∷ xs) y has = elim (Contains-append_cases (f x) (flat_map f xs) y has) [
    | inl here ↦ (x, (0, omega arith, refl), here)
    | inr later ↦ (let rest = in_flat_map xs y later in (rest.0, further x xs rest.0 rest.1, rest.2))
  ]

  pub flat_map_has : (xs : List X) (x : X) (y : Y) → Contains xs x → Contains (f x) y → Contains (flat_map f xs) y
  flat_map_has [] x y among has = absurd (nothing_in x among)
  flat_map_has (z ∷ xs) x y among has = elim (first_or_later z xs x among) [
    | inl here ↦ Contains-append_left (f z) (flat_map f xs) y (subst (λ (w : X). Contains (f w) y) here has)
    | inr later ↦ Contains-append_right (f z) (flat_map f xs) y (flat_map_has xs x y later has)
  ]

-- ---- members and their leaders

is_of_tells : (leader : ℕ) (told : Option ℕ) → ((is_of leader told ≡ true) × (told ≡ Some leader)) ⊎ ((is_of leader told ≡ false) × (told ≢ Some leader))
is_of_tells leader None = inr (refl, λ is. cc)
is_of_tells leader (Some l) = elim (eqb_tells l leader) [
  | inl same ↦ inl (same.0, ap Some same.1)
  | inr other ↦ inr (other.0, λ is. other.1 (some_of is))
]

-- a row of these, by its place, is of a leader's list
abbrev IsRow : ℕ → ℕ → List Member → ℕ → Type 0
IsRow leader start rows n = (k : ℕ) × (n ≡ start + k) × ((member_at rows k).leader ≡ Some leader)

from_members : (leader start : ℕ) (rows : List Member) (n : ℕ) → Contains (members_from leader start rows) n → IsRow leader start rows n
from_members leader start [] n has = absurd (nothing_in n has)
from_members leader start (row ∷ rows) n has = by (is_of_tells leader row.leader) has (λ later. from_members leader (suc start) rows n later)
  where
    one_on : IsRow leader (suc start) rows n → IsRow leader start (row ∷ rows) n
    one_on is = let at = is.1 in (suc is.0, omega (arith, at), is.2)

    by : ((is_of leader row.leader ≡ true) × (row.leader ≡ Some leader)) ⊎ ((is_of leader row.leader ≡ false) × (row.leader ≢ Some leader))
        → Contains (cond (is_of leader row.leader) (start ∷ members_from leader (suc start) rows) (members_from leader (suc start) rows)) n
        → (Contains (members_from leader (suc start) rows) n → IsRow leader (suc start) rows n) → IsRow leader start (row ∷ rows) n
    by (inl of) inside rest = elim (first_or_later start (members_from leader (suc start) rows) n
        (subst (λ (b : Bool). Contains (cond b (start ∷ members_from leader (suc start) rows) (members_from leader (suc start) rows)) n) of.0 inside)) [
          | inl here ↦ (zero, omega (arith, here), of.1)
          | inr later ↦ one_on (rest later)
        ]
    by (inr other) inside rest = one_on (rest (subst (λ (b : Bool). Contains (cond b (start ∷ members_from leader (suc start) rows) (members_from leader (suc start) rows)) n) other.0 inside))

among_members : (leader start : ℕ) (rows : List Member) (k : ℕ) → (member_at rows k).leader ≡ Some leader → Contains (members_from leader start rows) (start + k)
among_members leader start [] k is = absurd (let no : None ≡ Some leader = is in cc)
among_members leader start (row ∷ rows) zero is = by (is_of_tells leader row.leader)
  where
    by : ((is_of leader row.leader ≡ true) × (row.leader ≡ Some leader)) ⊎ ((is_of leader row.leader ≡ false) × (row.leader ≢ Some leader))
        → Contains (cond (is_of leader row.leader) (start ∷ members_from leader (suc start) rows) (members_from leader (suc start) rows)) (start + zero)
    by (inl of) = subst (λ (b : Bool). Contains (cond b (start ∷ members_from leader (suc start) rows) (members_from leader (suc start) rows)) (start + zero)) (sym of.0)
        (0, omega arith, omega arith)
    by (inr other) = absurd (other.1 is)
among_members leader start (row ∷ rows) (suc k) is =
    by (is_of_tells leader row.leader)
    (subst (Contains (members_from leader (suc start) rows)) (let same : suc start + k ≡ start + suc k = omega arith in same) (among_members leader (suc start) rows k is))
  where
    by : ((is_of leader row.leader ≡ true) × (row.leader ≡ Some leader)) ⊎ ((is_of leader row.leader ≡ false) × (row.leader ≢ Some leader))
        → Contains (members_from leader (suc start) rows) (start + suc k)
        → Contains (cond (is_of leader row.leader) (start ∷ members_from leader (suc start) rows) (members_from leader (suc start) rows)) (start + suc k)
    by (inl of) rest = subst (λ (b : Bool). Contains (cond b (start ∷ members_from leader (suc start) rows) (members_from leader (suc start) rows)) (start + suc k)) (sym of.0)
        (further start (members_from leader (suc start) rows) (start + suc k) rest)
    by (inr other) rest = subst (λ (b : Bool). Contains (cond b (start ∷ members_from leader (suc start) rows) (members_from leader (suc start) rows)) (start + suc k)) (sym other.0) rest

-- whoever is a member of a list has its leader, so that nobody is in two; and whoever has that leader is a member
pub of_one : (v : Members) (l n : ℕ) → Contains (members_in v l) n → leader_in v n ≡ Some l
of_one v l n has =
    let is = from_members l zero v.rows n has in
    let at : n ≡ is.0 = let same = is.1 in omega (arith, same) in
    ap (leader_in v) at ∙ is.2

pub leader_some : (v : Members) (n l : ℕ) → leader_in v n ≡ Some l → Contains (members_in v l) n
leader_some v n l is = subst (Contains (members_in v l)) (let same : zero + n ≡ n = omega arith in same) (among_members l zero v.rows n is)

pub leader_none : (v : Members) (n l : ℕ) → leader_in v n ≡ None → Contains (members_in v l) n → ⊥
leader_none v n l is has = let no : None ≡ Some l = sym is ∙ of_one v l n has in cc

-- a member's leader, or none
pub leader_cases : (v : Members) (n : ℕ) → (leader_in v n ≡ None) ⊎ ((l : ℕ) × (leader_in v n ≡ Some l) × Contains (members_in v l) n)
leader_cases v n = by (leader_in v n) refl
  where
    by : (o : Option ℕ) → leader_in v n ≡ o → (leader_in v n ≡ None) ⊎ ((l : ℕ) × (leader_in v n ≡ Some l) × Contains (members_in v l) n)
    by None is = inl is
    by (Some l) is = inr (l, is, leader_some v n l is)

pub is_none_if : (v : Members) (n : ℕ) → ((l : ℕ) → Contains (members_in v l) n → ⊥) → leader_in v n ≡ None
is_none_if v n nowhere = elim (leader_cases v n) [ inl none ↦ none | inr some ↦ absurd (nowhere some.0 some.2) ]

-- ---- members of lists that are alike

rows_alike : (leader start : ℕ) (rows rows' : List Member) → ((k : ℕ) → (member_at rows' k).leader ≡ (member_at rows k).leader)
    → members_from leader start rows' ≡ members_from leader start rows
rows_alike leader start [] [] same = refl
rows_alike leader start [] (row' ∷ rows') same =
    ap (λ (o : Option ℕ). cond (is_of leader o) (start ∷ members_from leader (suc start) rows') (members_from leader (suc start) rows')) (same zero)
    ∙ rows_alike leader (suc start) [] rows' (λ k. same (suc k))
rows_alike leader start (row ∷ rows) [] same =
    rows_alike leader (suc start) rows [] (λ k. same (suc k))
    ∙ ap (λ (o : Option ℕ). cond (is_of leader o) (start ∷ members_from leader (suc start) rows) (members_from leader (suc start) rows)) (same zero)
rows_alike leader start (row ∷ rows) (row' ∷ rows') same =
    ap (λ (o : Option ℕ). cond (is_of leader o) (start ∷ members_from leader (suc start) rows') (members_from leader (suc start) rows')) (same zero)
    ∙ ap (λ (ms : List ℕ). cond (is_of leader row.leader) (start ∷ ms) ms) (rows_alike leader (suc start) rows rows' (λ k. same (suc k)))

pub members_alike : (v w : Members) → who_in w ≡ who_in v → (l : ℕ) → members_in w l ≡ members_in v l
members_alike v w same l = rows_alike l zero v.rows w.rows (λ n. ap (λ (who : Who). who.leader n) same)

-- ---- the least

min_low : (a b : ℕ) → (min a b ≤ a) × (min a b ≤ b)
min_low a b = (omega arith, omega arith)

pub least_low : (n : ℕ) (ms : List ℕ) → least_of n ms ≤ n
least_low n [] = omega arith
least_low n (m ∷ ms) = let rest = least_low n ms in let two = min_low m (least_of n ms) in omega (arith, rest, two.1)

pub least_below : (n : ℕ) (ms : List ℕ) (m : ℕ) → Contains ms m → least_of n ms ≤ m
least_below n [] m has = absurd (nothing_in m has)
least_below n (k ∷ ms) m has = elim (first_or_later k ms m has) [
  | inl here ↦ (let two = min_low k (least_of n ms) in omega (arith, two.0, here))
  | inr later ↦ (let rest = least_below n ms m later in let two = min_low k (least_of n ms) in omega (arith, two.1, rest))
]

pub least_there : (n : ℕ) (ms : List ℕ) → (least_of n ms ≡ n) ⊎ Contains ms (least_of n ms)
least_there n [] = inl refl
least_there n (k ∷ ms) = elim (which k (least_of n ms)) [
  | inl here ↦ inr (0, omega arith, sym here)
  | inr later ↦ elim (least_there n ms) [ inl last ↦ inl (later ∙ last) | inr there ↦ inr (subst (Contains (k ∷ ms)) (sym later) (further k ms (least_of n ms) there)) ]
]
  where
    which : (a b : ℕ) → (min a b ≡ a) ⊎ (min a b ≡ b)
    which a b = elim (eqb_tells (min a b) a) [ inl here ↦ inl here.1 | inr other ↦ (let apart = other.1 in inr (omega (arith, apart))) ]

-- ---- firsts

-- who is in no list is its own first
pub first_alone : (v : Members) (n : ℕ) → leader_in v n ≡ None → first_in v n ≡ n
first_alone v n none = ap (λ (o : Option ℕ). option_map_or (λ leader. least_of n (members_in v leader)) o n) none

pub first_listed : (v : Members) (n l : ℕ) → leader_in v n ≡ Some l → first_in v n ≡ least_of n (members_in v l)
first_listed v n l is = ap (λ (o : Option ℕ). option_map_or (λ leader. least_of n (members_in v leader)) o n) is

pub first_is_low : (v : Members) (n : ℕ) → first_in v n ≤ n
first_is_low v n = elim (leader_cases v n) [
  | inl none ↦ (let is = first_alone v n none in omega (arith, is))
  | inr some ↦ (let is = first_listed v n some.0 some.1 in let low = least_low n (members_in v some.0) in omega (arith, is, low))
]

-- the first of a member is a member of its list, and not above any
pub first_there : (v : Members) → (l n : ℕ) → Contains (members_in v l) n → Contains (members_in v l) (first_in v n)
first_there v l n has =
    let is = first_listed v n l (of_one v l n has) in
    elim (least_there n (members_in v l)) [
      | inl itself ↦ subst (Contains (members_in v l)) (sym (is ∙ itself)) has
      | inr there ↦ subst (Contains (members_in v l)) (sym is) there
    ]

pub first_below : (v : Members) → (l n m : ℕ) → Contains (members_in v l) n → Contains (members_in v l) m → first_in v n ≤ m
first_below v l n m has other =
    let is = first_listed v n l (of_one v l n has) in
    let low = least_below n (members_in v l) m other in
    omega (arith, is, low)

-- and that is the only one of those
pub first_if : (v : Members) → (l n m : ℕ) → Contains (members_in v l) n → Contains (members_in v l) m
    → ((k : ℕ) → Contains (members_in v l) k → m ≤ k) → first_in v n ≡ m
first_if v l n m has there least =
    let low = first_below v l n m has there in
    let high = least (first_in v n) (first_there v l n has) in
    omega (arith, low, high)

-- members of one list have one first
pub one_first : (v : Members) → (l n m : ℕ) → Contains (members_in v l) n → Contains (members_in v l) m → first_in v n ≡ first_in v m
one_first v l n m has other =
    first_if v l n (first_in v m) has (first_there v l m other) (λ k among_them. first_below v l m k other among_them)

-- whoever is in no list leads nobody else
pub alone_leads : (v : Members) (k : ℕ) → leader_in v k ≡ None → (n : ℕ) → n ≢ k → first_in v n ≡ k → ⊥
alone_leads v k none n apart is = elim (leader_cases v n) [
  | inl alone ↦ apart (sym (first_alone v n alone) ∙ is)
  | inr some ↦ leader_none v k some.0 none (subst (Contains (members_in v some.0)) is (first_there v some.0 n some.2))
]

pub first_alike : (v w : Members) → who_in w ≡ who_in v → (n : ℕ) → first_in w n ≡ first_in v n
first_alike v w same n =
    ap (λ (o : Option ℕ). option_map_or (λ leader. least_of n (members_in w leader)) o n) (ap (λ (who : Who). who.leader n) same)
    ∙ ap (λ (f : ℕ → List ℕ). option_map_or (λ leader. least_of n (f leader)) (leader_in v n) n) (λ i l. members_alike v w same l i)

-- ---- what is told of a list's members

module _ (v : Members) (leader : ℕ) where
  pub told_there : (x : Option ℕ) → IsNext (IsLed v leader) None x → IfSome x (λ m. Contains (members_in v leader) m)
  told_there None is = tt
  told_there (Some m) is = leader_some v m leader is.0

  pub told_least : (x : Option ℕ) → IsNext (IsLed v leader) None x → IfSome x (λ m. (n : ℕ) → Contains (members_in v leader) n → m ≤ n)
  told_least None is = tt
  told_least (Some m) is = λ n has. (let not : n < m → ⊥ = is.2 n (of_one v leader n has) tt in omega (arith, not))

  pub told_none : (x : Option ℕ) → IsNext (IsLed v leader) None x → IfNone x ((n : ℕ) → Contains (members_in v leader) n → ⊥)
  told_none None is = λ n has. is n (of_one v leader n has) tt
  told_none (Some m) is = tt

  module _ (session : ℕ) where
    pub next_there : (x : Option ℕ) → IsNext (IsLed v leader) (Some session) x → IfSome x (λ m. Contains (members_in v leader) m × (session < m))
    next_there None is = tt
    next_there (Some m) is = (leader_some v m leader is.0, is.1)

    pub next_least : (x : Option ℕ) → IsNext (IsLed v leader) (Some session) x
        → IfSome x (λ m. (n : ℕ) → Contains (members_in v leader) n → session < n → m ≤ n)
    next_least None is = tt
    next_least (Some m) is = λ n has later. (let not : n < m → ⊥ = is.2 n (of_one v leader n has) later in omega (arith, not))

    pub next_none : (x : Option ℕ) → IsNext (IsLed v leader) (Some session) x → IfNone x ((n : ℕ) → Contains (members_in v leader) n → session < n → ⊥)
    next_none None is = λ n has later. is n (of_one v leader n has) later
    next_none (Some m) is = tt
