-- Sums over the places.
use Rattle.std.proofs.Common.{◌≡◌, ℕ, zero, suc, ◌+◌, ◌<◌, List, [], ◌∷◌, length, set, map, sum_by, refl, ap, ◌∙◌, arith}
use Rattle.std.proofs.lemmas.List.Sums.{sum_by-cons}
use Rattle.ucon_links.specs.Layout.{InLists}
use Rattle.ucon_links.specs.Lists.{Item, Lists, list_at}
use Rattle.ucon_links.specs.Lists as links
use Rattle.ucon_links.specs.Dependents.{Place, place_at}
use Rattle.ucon_links.specs.Tables.{stood_at, places_from, weight_from, weight_of, IsPaired}
use Rattle.ucon_links.proofs.Rows.{seen_at, stood_at-other, stood_at-same, places-kept}

pub sum_set : (f : Place → ℕ) (places : List Place) (i : ℕ) (place : Place) → i < length places → sum_by f (set places i place) + f (place_at places i) ≡ sum_by f places + f place
sum_set f [] i place within = absurd (omega arith)
sum_set f (first ∷ rest) zero place within =
    let new = sum_by-cons f place rest in
    let old = sum_by-cons f first rest in
    omega arith
sum_set f (first ∷ rest) (suc i) place within =
    let new = sum_by-cons f first (set rest i place) in
    let old = sum_by-cons f first rest in
    let later = sum_set f rest i place (omega arith) in
    omega arith

abbrev pub hidden_sum : List Place → ℕ
hidden_sum places = sum_by (λ place. length place.hidden) places

abbrev pub listed_sum : List Place → ℕ
listed_sum places = sum_by (λ place. length place.listed) places

none_hidden : (from : ℕ) (lists : List (List (ℕ × ℕ))) → hidden_sum (places_from from lists []) ≡ 0
none_hidden from [] = refl
none_hidden from (xs ∷ rest) =
    let first = sum_by-cons (λ place. length place.hidden) (seen_at from xs []) (places_from (suc from) rest []) in
    let later = none_hidden (suc from) rest in
    omega arith

one_hidden : (from : ℕ) (lists : List (List (ℕ × ℕ))) (item : Item) (rest : List Item) (i : ℕ) → item.list ≡ from + i → i < length lists → hidden_sum (places_from from lists (item ∷ rest)) ≡ suc (hidden_sum (places_from from lists rest))
one_hidden from [] item rest i is within = absurd (omega arith)
one_hidden from (xs ∷ lists) item rest zero is within =
    let here : item.list ≡ from = omega arith in
    let new = sum_by-cons (λ place. length place.hidden) (seen_at from xs (item ∷ rest)) (places_from (suc from) lists (item ∷ rest)) in
    let old = sum_by-cons (λ place. length place.hidden) (seen_at from xs rest) (places_from (suc from) lists rest) in
    let more : length (stood_at from (item ∷ rest)) ≡ suc (length (stood_at from rest)) = ap length (stood_at-same item rest from here) in
    let kept = ap hidden_sum (places-kept (suc from) lists rest (item ∷ rest) (λ place above. stood_at-other item rest place (λ e. omega arith))) in
    omega arith
one_hidden from (xs ∷ lists) item rest (suc i) is within =
    let new = sum_by-cons (λ place. length place.hidden) (seen_at from xs (item ∷ rest)) (places_from (suc from) lists (item ∷ rest)) in
    let old = sum_by-cons (λ place. length place.hidden) (seen_at from xs rest) (places_from (suc from) lists rest) in
    let kept : length (stood_at from (item ∷ rest)) ≡ length (stood_at from rest) = ap length (stood_at-other item rest from (λ e. omega arith)) in
    let later = one_hidden (suc from) lists item rest i (omega arith) (omega arith) in
    omega arith

-- the places share the hidden nodes among them
pub hidden_shared : (lists : List (List (ℕ × ℕ))) (hidden : List Item) → InLists (length lists) hidden → hidden_sum (places_from 0 lists hidden) ≡ length hidden
hidden_shared lists [] all = none_hidden 0 lists
hidden_shared lists (item ∷ rest) all =
    one_hidden 0 lists item rest item.list (omega arith) all.0 ∙ ap suc (hidden_shared lists rest all.1)

listed_shared : (from : ℕ) (lists : List (List (ℕ × ℕ))) (hidden : List Item) → listed_sum (places_from from lists hidden) ≡ sum_by length lists
listed_shared from [] hidden = refl
listed_shared from (xs ∷ rest) hidden =
    let new = sum_by-cons (λ place. length place.listed) (seen_at from xs hidden) (places_from (suc from) rest hidden) in
    let old = sum_by-cons length xs rest in
    let later = listed_shared (suc from) rest hidden in
    omega arith

sum_both : (places : List Place) → sum_by (λ place. length place.listed + length place.hidden) places ≡ listed_sum places + hidden_sum places
sum_both [] = refl
sum_both (place ∷ rest) =
    let whole = sum_by-cons (λ place. length place.listed + length place.hidden) place rest in
    let listed = sum_by-cons (λ place. length place.listed) place rest in
    let hidden = sum_by-cons (λ place. length place.hidden) place rest in
    let later = sum_both rest in
    omega arith

one_each : (xs : List (ℕ × ℕ)) → weight_of (λ x. 1) xs ≡ length xs
one_each [] = refl
one_each (x ∷ xs) = let rest = one_each xs in omega arith

each_list : (from : ℕ) (lists : List (List (ℕ × ℕ))) → weight_from (λ i xs. weight_of (λ x. 1) xs) from lists ≡ sum_by length lists
each_list from [] = refl
each_list from (xs ∷ rest) =
    let whole = sum_by-cons length xs rest in
    let first = one_each xs in
    let later = each_list (suc from) rest in
    omega arith

pub places_count : (places sessions : Lists) → IsPaired places sessions → links.node_count places ≡ sum_by (λ place. length place.listed + length place.hidden) (places_from 0 places.lists places.hidden)
places_count places sessions paired =
    let both = sum_both (places_from 0 places.lists places.hidden) in
    let listed = listed_shared 0 places.lists places.hidden in
    let hidden = hidden_shared places.lists places.hidden paired.in_places in
    omega arith

pub hidden_length : (places sessions : Lists) → IsPaired places sessions → length sessions.hidden ≡ length places.hidden
hidden_length places sessions paired = as_long places.hidden sessions.hidden paired.in_step
  where
    as_long : (xs ys : List Item) → map {B = ℕ × ℕ} (λ i. (i.node, i.owner)) xs ≡ map (λ i. (i.owner, i.list)) ys → length ys ≡ length xs
    as_long [] [] same = refl
    as_long [] (y ∷ ys) same = let no : ⊥ = cc in absurd no
    as_long (x ∷ xs) [] same = let no : ⊥ = cc in absurd no
    as_long (x ∷ xs) (y ∷ ys) same =
        let rest : map {B = ℕ × ℕ} (λ i. (i.node, i.owner)) xs ≡ map (λ i. (i.owner, i.list)) ys = cc in
        ap suc (as_long xs ys rest)

-- both tables have as many nodes
pub sessions_count : (places sessions : Lists) → IsPaired places sessions → links.node_count sessions ≡ links.node_count places
sessions_count places sessions paired =
    let same = paired.same (λ n s. 1) in
    let left = each_list 0 places.lists in
    let right = each_list 0 sessions.lists in
    let hidden = hidden_length places sessions paired in
    omega arith
