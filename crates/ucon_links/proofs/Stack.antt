-- Which sessions are hidden, and that none of them stands anywhere.
use Rattle.std.proofs.Common.{◌≡◌, ◌≢◌, ℕ, zero, suc, ◌+◌, ◌<◌, ◌≤◌, List, [], ◌∷◌, length, set, map, Some, Bool, true, false, eqb, cond, ◌||◌, refl, ap, ◌∙◌, subst, arith}
use Rattle.std.proofs.lemmas.Bool.{eqb-true, eqb-false, ne_eqb, eq-eqb}
use Rattle.ucon_links.specs.Lists.{Item, Lists, list_at, IsAbsent}
use Rattle.ucon_links.specs.Dependents.{Place, place_at, has_session, is_there, one_if}
use Rattle.ucon_links.specs.Tables.{stood_at, places_from, on_top, sessions_of, weight_from, weight_of, by_session, IsPaired, IsGone, AreGone, newest_owner}
use Rattle.ucon_links.proofs.Weights.{weight_from-zero}
use Rattle.ucon_links.proofs.Rows.{each_set, each_at}
use Rattle.ucon_links.proofs.Standing.{sessions_in, sessions_out, has_session-absent, absent_of}

abbrev pub owners_of : List Item → List ℕ
owners_of hidden = map (λ item. item.owner) hidden

pub on_top-other : (session : ℕ) (hidden : List ℕ) → IsAbsent session hidden → on_top session hidden ≡ session ∷ hidden
on_top-other session [] absent = refl
on_top-other session (first ∷ rest) absent = rw (ne_eqb first session absent.0)

pub on_top-same : (session : ℕ) (rest : List ℕ) → on_top session (session ∷ rest) ≡ session ∷ rest
on_top-same session rest = rw (eq-eqb session session refl)

on_top_first : (session first : ℕ) (rest : List ℕ) (test : Bool) → eqb first session ≡ test → on_top session (cond test (first ∷ rest) (session ∷ first ∷ rest)) ≡ cond test (first ∷ rest) (session ∷ first ∷ rest)
on_top_first session first rest true is = rw is
on_top_first session first rest false is = on_top-same session (first ∷ rest)

pub on_top-twice : (session : ℕ) (hidden : List ℕ) → on_top session (on_top session hidden) ≡ on_top session hidden
on_top-twice session [] = on_top-same session []
on_top-twice session (first ∷ rest) = on_top_first session first rest (eqb first session) refl

-- what isn't on the stack with a session on top isn't on the stack, and isn't the session
pub record Beside (other session : ℕ) (hidden : List ℕ) : Type 0 where
  pub differs : session ≢ other
  pub absent : IsAbsent other hidden

beside_first : (other session first : ℕ) (rest : List ℕ) (test : Bool) → eqb first session ≡ test → IsAbsent other (cond test (first ∷ rest) (session ∷ first ∷ rest)) → Beside other session (first ∷ rest)
beside_first other session first rest true is absent = record { differs = λ e. absent.0 (eqb-true first session is ∙ e); absent = absent }
beside_first other session first rest false is absent = record { differs = absent.0; absent = absent.1 }

pub beside : (other session : ℕ) (hidden : List ℕ) → IsAbsent other (on_top session hidden) → Beside other session hidden
beside other session [] absent = record { differs = absent.0; absent = tt }
beside other session (first ∷ rest) absent = beside_first other session first rest (eqb first session) refl absent

-- a session that isn't hidden has no hidden node
pub owners_absent : (session : ℕ) (hidden : List Item) → IsAbsent session (sessions_of hidden) → IsAbsent session (owners_of hidden)
owners_absent session [] absent = tt
owners_absent session (item ∷ rest) absent =
    let other = beside session item.owner (sessions_of rest) absent in
    (other.differs, owners_absent session rest other.absent)

stood_first : (session place : ℕ) (item : Item) (rest : List Item) (test : Bool) → eqb item.list place ≡ test → item.owner ≢ session → IsAbsent session (sessions_out (stood_at place rest)) → IsAbsent session (sessions_out (cond test (record { node = item.node; session = item.owner; before = item.before; after = item.after } ∷ stood_at place rest) (stood_at place rest)))
stood_first session place item rest true is differs absent = (differs, absent)
stood_first session place item rest false is differs absent = absent

pub stood_absent : (session place : ℕ) (hidden : List Item) → IsAbsent session (owners_of hidden) → IsAbsent session (sessions_out (stood_at place hidden))
stood_absent session place [] absent = tt
stood_absent session place (item ∷ rest) absent = stood_first session place item rest (eqb item.list place) refl absent.0 (stood_absent session place rest absent.1)

-- the sessions that the second table hides are those of the first
pub lists_absent : (session : ℕ) (places sessions : Lists) → IsPaired places sessions → IsAbsent session (owners_of places.hidden) → IsAbsent session (map (λ item. item.list) sessions.hidden)
lists_absent session places sessions paired absent = subst (IsAbsent session) (owners_are places.hidden sessions.hidden paired.in_step) absent
  where
    owners_are : (xs ys : List Item) → map {B = ℕ × ℕ} (λ item. (item.node, item.owner)) xs ≡ map (λ item. (item.owner, item.list)) ys → owners_of xs ≡ map (λ item. item.list) ys
    owners_are [] [] same = refl
    owners_are [] (y ∷ ys) same = let no : ⊥ = cc in absurd no
    owners_are (x ∷ xs) [] same = let no : ⊥ = cc in absurd no
    owners_are (x ∷ xs) (y ∷ ys) same =
        let X : ℕ × ℕ = (x.node, x.owner) in
        let Y : ℕ × ℕ = (y.owner, y.list) in
        let pair : X ≡ Y = cc in
        let owner : x.owner ≡ y.list = ap (λ (p : ℕ × ℕ). p.1) pair in
        let rest : map {B = ℕ × ℕ} (λ item. (item.node, item.owner)) xs ≡ map (λ item. (item.owner, item.list)) ys = cc in
        ap (λ n. n ∷ owners_of xs) owner ∙ ap (λ ns. y.list ∷ ns) (owners_are xs ys rest)

pub gone-not_there : (session : ℕ) (places : List Place) → IsGone session places → is_there session places ≡ false
gone-not_there session [] gone = refl
gone-not_there session (place ∷ rest) gone = rw (has_session-absent session place.listed gone.0) (gone-not_there session rest gone.1)

or_false : (a b : Bool) → (a || b) ≡ false → (a ≡ false) × (b ≡ false)
or_false true b none = let no : ⊥ = cc in absurd no
or_false false b none = (refl, none)

pub not_there-gone : (session : ℕ) (places : List Place) → is_there session places ≡ false → IsGone session places
not_there-gone session [] none = tt
not_there-gone session (place ∷ rest) none =
    let both = or_false (has_session session place.listed) (is_there session rest) none in
    (absent_of session place.listed both.0, not_there-gone session rest both.1)

-- a session that stands at a place isn't hidden
pub there-not_hidden : (session : ℕ) (hidden : List ℕ) (places : List Place) → AreGone hidden places → is_there session places ≡ true → IsAbsent session hidden
there-not_hidden session [] places gone there = tt
there-not_hidden session (first ∷ rest) places gone there = (
  λ e. let none = gone-not_there session places (subst (λ s. IsGone s places) e gone.0) in let no : ⊥ = cc in absurd no,
  there-not_hidden session rest places gone.1 there,
)

-- one place changes, and no other session comes to it
pub are_gone_set : (coming : ℕ) (hidden : List ℕ) (places : List Place) (i : ℕ) (place : Place) → IsAbsent coming hidden → ((session : ℕ) → session ≢ coming → IsAbsent session (sessions_in (place_at places i).listed) → IsAbsent session (sessions_in place.listed)) → i < length places → AreGone hidden places → AreGone hidden (set places i place)
are_gone_set coming [] places i place apart fewer within gone = tt
are_gone_set coming (session ∷ rest) places i place apart fewer within gone =
    let P : Place → Type 0 = λ p. IsAbsent session (sessions_in p.listed) in (
      each_set P places i place gone.0 (fewer session apart.0 (each_at P places i within gone.0)),
      are_gone_set coming rest places i place apart.1 fewer within gone.1,
    )

weight_of-none : (weigh : ℕ × ℕ → ℕ) (xs : List (ℕ × ℕ)) → ((x : ℕ × ℕ) → weigh x ≡ 0) → weight_of weigh xs ≡ 0
weight_of-none weigh [] none = refl
weight_of-none weigh (x ∷ xs) none = let first = none x in let rest = weight_of-none weigh xs none in omega arith

-- 1 for each node of the session
abbrev pub weight_session : ℕ → ℕ → ℕ → ℕ
weight_session session n s = one_if (eqb s session)

light_first : (session : ℕ) (x : ℕ × ℕ) (xs : List (ℕ × ℕ)) (test : Bool) → eqb x.1 session ≡ test → one_if test + weight_of (λ y. one_if (eqb y.1 session)) xs ≡ 0 → (weight_of (λ y. one_if (eqb y.1 session)) xs ≡ 0 → IsAbsent session (sessions_in xs)) → IsAbsent session (sessions_in (x ∷ xs))
light_first session x xs true is none later = absurd (omega arith)
light_first session x xs false is none later = (eqb-false x.1 session is, later (omega arith))

light_absent : (session : ℕ) (xs : List (ℕ × ℕ)) → weight_of (λ y. one_if (eqb y.1 session)) xs ≡ 0 → IsAbsent session (sessions_in xs)
light_absent session [] none = tt
light_absent session (x ∷ xs) none = light_first session x xs (eqb x.1 session) refl none (light_absent session xs)

light_gone : (session from : ℕ) (lists : List (List (ℕ × ℕ))) (hidden : List Item) → weight_from (λ place xs. weight_of (λ x. one_if (eqb x.1 session)) xs) from lists ≡ 0 → IsGone session (places_from from lists hidden)
light_gone session from [] hidden none = tt
light_gone session from (xs ∷ rest) hidden none = (light_absent session xs (omega arith), light_gone session (suc from) rest hidden (omega arith))

weighs_none : (session : ℕ) (lists : List (List (ℕ × ℕ))) (i : ℕ) (test : Bool) → eqb i session ≡ test → list_at lists session ≡ [] → weight_of (λ x. one_if (eqb i session)) (list_at lists i) ≡ 0
weighs_none session lists i true is none = ap (λ n. weight_of (λ x. one_if (eqb i session)) (list_at lists n)) (eqb-true i session is) ∙ ap (weight_of (λ x. one_if (eqb i session))) none
weighs_none session lists i false is none = weight_of-none (λ x. one_if (eqb i session)) (list_at lists i) (λ x. ap one_if is)

-- a session without items stands nowhere
pub no_items-gone : (session : ℕ) (places sessions : Lists) → IsPaired places sessions → list_at sessions.lists session ≡ [] → IsGone session (places_from 0 places.lists places.hidden)
no_items-gone session places sessions paired none =
    let light : by_session (weight_session session) sessions.lists ≡ 0 =
    weight_from-zero (λ s xs. weight_of (λ x. one_if (eqb s session)) xs) 0 sessions.lists
    (λ i at is within. subst (λ n. weight_of (λ x. one_if (eqb n session)) (list_at sessions.lists i) ≡ 0) (same i at is) (weighs_none session sessions.lists i (eqb i session) refl none)) in
    light_gone session 0 places.lists places.hidden (paired.same (weight_session session) ∙ light)
  where
    same : (i at : ℕ) → at ≡ 0 + i → i ≡ at
    same i at is = omega arith

beyond : (lists : List (List (ℕ × ℕ))) (i : ℕ) → length lists ≤ i → list_at lists i ≡ []
beyond [] i past = refl
beyond (xs ∷ rest) zero past = absurd (omega arith)
beyond (xs ∷ rest) (suc i) past = beyond rest i (omega arith)

-- the items of a session that stands somewhere are in a list
pub there-within : (session : ℕ) (places sessions : Lists) → IsPaired places sessions → is_there session (places_from 0 places.lists places.hidden) ≡ true → session < length sessions.lists
there-within session places sessions paired there = grind (arith, outside)
  where
    outside : length sessions.lists ≤ session → ⊥
    outside past =
        let none = gone-not_there session (places_from 0 places.lists places.hidden) (no_items-gone session places sessions paired (beyond sessions.lists session past)) in
        let no : ⊥ = cc in no

-- the node that was hidden last
pub record NewestOf (hidden : List Item) (owner : ℕ) : Type 0 where
  pub item : Item
  pub rest : List Item
  pub hidden_is : hidden ≡ item ∷ rest
  pub owner_is : item.owner ≡ owner

pub newest_of : (hidden : List Item) (owner : ℕ) → newest_owner hidden ≡ Some owner → NewestOf hidden owner
newest_of [] owner is = let no : ⊥ = cc in absurd no
newest_of (item ∷ rest) owner is = record { item = item; rest = rest; hidden_is = refl; owner_is = cc }

abbrev pub below : List ℕ → List ℕ
below [] = []
below (first ∷ rest) = rest

top_first : (session first : ℕ) (rest : List ℕ) (test : Bool) → eqb first session ≡ test → cond test (first ∷ rest) (session ∷ first ∷ rest) ≡ session ∷ below (cond test (first ∷ rest) (session ∷ first ∷ rest))
top_first session first rest true is = ap (λ s. s ∷ rest) (eqb-true first session is)
top_first session first rest false is = refl

pub on_top-first : (session : ℕ) (hidden : List ℕ) → on_top session hidden ≡ session ∷ below (on_top session hidden)
on_top-first session [] = refl
on_top-first session (first ∷ rest) = top_first session first rest (eqb first session) refl

-- the session of the newest hidden node is the first of the hidden ones
pub newest_is_first : (hidden : List Item) (session : ℕ) → newest_owner hidden ≡ Some session → sessions_of hidden ≡ session ∷ below (sessions_of hidden)
newest_is_first [] session is = let no : ⊥ = cc in absurd no
newest_is_first (item ∷ rest) session is =
    let owner : item.owner ≡ session = cc in
    on_top-first item.owner (sessions_of rest) ∙ ap (λ s. s ∷ below (sessions_of (item ∷ rest))) owner
