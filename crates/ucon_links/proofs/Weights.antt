-- What lists weigh when one of them changes, and what a weight tells of them.
use Rattle.std.proofs.Common.{◌≡◌, ℕ, zero, suc, ◌+◌, ◌<◌, ◌≤◌, List, [], ◌∷◌, ◌++◌, length, set, Bool, true, false, eqb, ◌&&◌, refl, sym, ap, ◌∙◌, subst, arith}
use Rattle.std.proofs.lemmas.Bool.{eqb-true, eq-eqb}
use Rattle.ucon_links.specs.Lists.{list_at}
use Rattle.ucon_links.specs.Dependents.{one_if}
use Rattle.ucon_links.specs.Tables.{weight_from, weight_of, by_place, by_session}

pub weight_of-append : (weigh : ℕ × ℕ → ℕ) (xs ys : List (ℕ × ℕ)) → weight_of weigh (xs ++ ys) ≡ weight_of weigh xs + weight_of weigh ys
weight_of-append weigh [] ys = omega arith
weight_of-append weigh (x ∷ xs) ys = let rest = weight_of-append weigh xs ys in omega arith

module _ (weigh : ℕ → List (ℕ × ℕ) → ℕ) where
  pub weight_from-set : (from : ℕ) (lists : List (List (ℕ × ℕ))) (i at : ℕ) (ys : List (ℕ × ℕ)) → at ≡ from + i → i < length lists → weight_from weigh from (set lists i ys) + weigh at (list_at lists i) ≡ weight_from weigh from lists + weigh at ys
  weight_from-set from [] i at ys is within = absurd (omega arith)
  weight_from-set from (xs ∷ rest) zero at ys is within =
      let same : at ≡ from = omega arith in
      subst (λ n. (weigh from ys + weight_from weigh (suc from) rest) + weigh n xs ≡ (weigh from xs + weight_from weigh (suc from) rest) + weigh n ys) (sym same) (omega arith)
  weight_from-set from (xs ∷ rest) (suc i) at ys is within =
      let later = weight_from-set (suc from) rest i at ys (omega arith) (omega arith) in
      omega arith

  pub weight_from-zero : (from : ℕ) (lists : List (List (ℕ × ℕ))) → ((i at : ℕ) → at ≡ from + i → i < length lists → weigh at (list_at lists i) ≡ 0) → weight_from weigh from lists ≡ 0
  weight_from-zero from [] none = refl
  weight_from-zero from (xs ∷ rest) none =
      let first = none 0 from (omega arith) (omega arith) in
      let later = weight_from-zero (suc from) rest (λ i at is within. none (suc i) at (omega arith) (omega arith)) in
      omega arith

  pub weight_from-at : (from : ℕ) (lists : List (List (ℕ × ℕ))) (i at : ℕ) → at ≡ from + i → i < length lists → weigh at (list_at lists i) ≤ weight_from weigh from lists
  weight_from-at from [] i at is within = absurd (omega arith)
  weight_from-at from (xs ∷ rest) zero at is within =
      let same : at ≡ from = omega arith in
      subst (λ n. weigh n xs ≤ weigh from xs + weight_from weigh (suc from) rest) (sym same) (omega arith)
  weight_from-at from (xs ∷ rest) (suc i) at is within =
      let later = weight_from-at (suc from) rest i at (omega arith) (omega arith) in
      omega arith

-- a list that weighs something
pub record Heavy (weigh : ℕ → List (ℕ × ℕ) → ℕ) (from : ℕ) (lists : List (List (ℕ × ℕ))) : Type 0 where
  pub index : ℕ
  pub within : index < length lists
  pub weighs : 0 < weigh (from + index) (list_at lists index)

heavy_first : (weigh : ℕ → List (ℕ × ℕ) → ℕ) (from : ℕ) (xs : List (ℕ × ℕ)) (rest : List (List (ℕ × ℕ))) (first : ℕ) → weigh from xs ≡ first → 0 < first + weight_from weigh (suc from) rest → (0 < weight_from weigh (suc from) rest → Heavy weigh (suc from) rest) → Heavy weigh from (xs ∷ rest)
heavy_first weigh from xs rest zero is some later =
    let more = later (omega arith) in
    let within = more.within in
    let same : suc from + more.index ≡ from + suc more.index = omega arith in
    record { index = suc more.index; within = omega arith; weighs = subst (λ at. 0 < weigh at (list_at rest more.index)) same more.weighs }
heavy_first weigh from xs rest (suc first) is some later =
    let same : from ≡ from + 0 = omega arith in
    record { index = 0; within = omega arith; weighs = subst (λ at. 0 < weigh at xs) same (omega arith) }

pub heavy_of : (weigh : ℕ → List (ℕ × ℕ) → ℕ) (from : ℕ) (lists : List (List (ℕ × ℕ))) → 0 < weight_from weigh from lists → Heavy weigh from lists
heavy_of weigh from [] some = absurd (omega arith)
heavy_of weigh from (xs ∷ rest) some = heavy_first weigh from xs rest (weigh from xs) refl some (heavy_of weigh (suc from) rest)

-- 1 for this node of this session
abbrev pub weight_pair : ℕ → ℕ → ℕ → ℕ → ℕ
weight_pair node session n s = one_if (eqb n node && eqb s session)

-- a pair in the middle of a list
pub record Among (xs : List (ℕ × ℕ)) (x : ℕ × ℕ) : Type 0 where
  pub front : List (ℕ × ℕ)
  pub back : List (ℕ × ℕ)
  pub there : xs ≡ front ++ x ∷ back

among_first : (node session : ℕ) (x : ℕ × ℕ) (xs : List (ℕ × ℕ)) (first second : Bool) → eqb x.0 node ≡ first → eqb x.1 session ≡ second → 0 < one_if (first && second) + weight_of (λ y. weight_pair node session y.0 y.1) xs → (0 < weight_of (λ y. weight_pair node session y.0 y.1) xs → Among xs (node, session)) → Among (x ∷ xs) (node, session)
among_first node session x xs true true is is2 some later =
    let pair : ℕ → ℕ → ℕ × ℕ = λ n s. (n, s) in
    let same : x ≡ (node, session) = ap (λ n. pair n x.1) (eqb-true x.0 node is) ∙ ap (λ s. pair node s) (eqb-true x.1 session is2) in
    record { front = []; back = xs; there = ap (λ y. y ∷ xs) same }
among_first node session x xs true false is is2 some later = let more = later (omega arith) in record { front = x ∷ more.front; back = more.back; there = ap (λ ys. x ∷ ys) more.there }
among_first node session x xs false second is is2 some later = let more = later (omega arith) in record { front = x ∷ more.front; back = more.back; there = ap (λ ys. x ∷ ys) more.there }

pub among_of : (node session : ℕ) (xs : List (ℕ × ℕ)) → 0 < weight_of (λ y. weight_pair node session y.0 y.1) xs → Among xs (node, session)
among_of node session [] some = absurd (omega arith)
among_of node session (x ∷ xs) some = among_first node session x xs (eqb x.0 node) (eqb x.1 session) refl refl some (among_of node session xs)

module _ (weight : ℕ → ℕ → ℕ) (lists : List (List (ℕ × ℕ))) (i : ℕ) (front back : List (ℕ × ℕ)) (node session : ℕ) (within : i < length lists) where
  parts : weight_of (λ x. weight x.0 x.1) (front ++ (node, session) ∷ back) ≡ weight_of (λ x. weight x.0 x.1) (front ++ back) + weight node session
  parts =
      let whole = weight_of-append (λ x. weight x.0 x.1) front ((node, session) ∷ back) in
      let left = weight_of-append (λ x. weight x.0 x.1) front back in
      omega arith

  -- a node more in the list of its place
  pub place_in : list_at lists i ≡ front ++ back → by_place weight (set lists i (front ++ (node, session) ∷ back)) ≡ by_place weight lists + weight node session
  place_in there =
      let change = weight_from-set (λ place xs. weight_of (λ x. weight x.0 x.1) xs) 0 lists i i (front ++ (node, session) ∷ back) (omega arith) within in
      let before = ap (weight_of (λ x. weight x.0 x.1)) there in
      let more = parts in
      omega arith

  -- a node less
  pub place_out : list_at lists i ≡ front ++ (node, session) ∷ back → by_place weight (set lists i (front ++ back)) + weight node session ≡ by_place weight lists
  place_out there =
      let change = weight_from-set (λ place xs. weight_of (λ x. weight x.0 x.1) xs) 0 lists i i (front ++ back) (omega arith) within in
      let before = ap (weight_of (λ x. weight x.0 x.1)) there in
      let more = parts in
      omega arith

module _ (weight : ℕ → ℕ → ℕ) (lists : List (List (ℕ × ℕ))) (session : ℕ) (item node : ℕ) (rest : List (ℕ × ℕ)) (within : session < length lists) where
  -- an item more in the list of its session
  pub session_in : list_at lists session ≡ rest → by_session weight (set lists session ((item, node) ∷ rest)) ≡ by_session weight lists + weight node session
  session_in there =
      let change = weight_from-set (λ s xs. weight_of (λ x. weight x.1 s) xs) 0 lists session session ((item, node) ∷ rest) (omega arith) within in
      let before = ap (weight_of (λ x. weight x.1 session)) there in
      omega arith

  -- an item less
  pub session_out : list_at lists session ≡ (item, node) ∷ rest → by_session weight (set lists session rest) + weight node session ≡ by_session weight lists
  session_out there =
      let change = weight_from-set (λ s xs. weight_of (λ x. weight x.1 s) xs) 0 lists session session rest (omega arith) within in
      let before = ap (weight_of (λ x. weight x.1 session)) there in
      omega arith

-- an item of a session names a node that stands at a place
pub record Spot (lists : List (List (ℕ × ℕ))) (node session : ℕ) : Type 0 where
  pub place : ℕ
  pub within : place < length lists
  pub front : List (ℕ × ℕ)
  pub back : List (ℕ × ℕ)
  pub there : list_at lists place ≡ front ++ (node, session) ∷ back

pub spot_of : (places sessions : List (List (ℕ × ℕ))) (session item node : ℕ) (rest : List (ℕ × ℕ)) → ((weight : ℕ → ℕ → ℕ) → by_place weight places ≡ by_session weight sessions) → session < length sessions → list_at sessions session ≡ (item, node) ∷ rest → Spot places node session
spot_of places sessions session item node rest same within there =
    let w = weight_pair node session in
    let weigh = λ (s : ℕ) (xs : List (ℕ × ℕ)). weight_of (λ x. w x.1 s) xs in
    let least = weight_from-at weigh 0 sessions session session (omega arith) within in
    let here = ap (weight_of (λ x. w x.1 session)) there in
    let first : w node session ≡ 1 = one node session in
    let equal = same w in
    let heavy = heavy_of (λ place xs. weight_of (λ x. w x.0 x.1) xs) 0 places (omega arith) in
    let among = among_of node session (list_at places heavy.index) heavy.weighs in
    record { place = heavy.index; within = heavy.within; front = among.front; back = among.back; there = among.there }
  where
    one : (n s : ℕ) → weight_pair n s n s ≡ 1
    one n s = rw (eq-eqb n n refl, eq-eqb s s refl)
