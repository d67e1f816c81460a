-- The places as they are seen: reads, writes, and facts of each of them.
use Rattle.std.proofs.Common.{◌≡◌, ◌≢◌, ℕ, zero, suc, ◌+◌, ◌<◌, ◌≤◌, List, [], ◌∷◌, length, set, map, refl, sym, ap, ◌∙◌, arith}
use Rattle.std.proofs.lemmas.Bool.{ne_eqb, eq-eqb}
use Rattle.ucon_base.specs.Elements.{Each}
use Rattle.ucon_links.specs.Lists.{Item, list_at}
use Rattle.ucon_links.specs.Dependents.{Stood, Place, place_at}
use Rattle.ucon_links.specs.Tables.{stood_at, places_from}

abbrev pub seen_at : ℕ → List (ℕ × ℕ) → List Item → Place
seen_at place xs hidden = record { listed = xs; hidden = stood_at place hidden }

abbrev pub stood_of : Item → Stood
stood_of item = record { node = item.node; session = item.owner; before = item.before; after = item.after }

pub stood_at-other : (item : Item) (rest : List Item) (place : ℕ) → place ≢ item.list → stood_at place (item ∷ rest) ≡ stood_at place rest
stood_at-other item rest place other = rw (ne_eqb item.list place (λ e. other (sym e)))

pub stood_at-same : (item : Item) (rest : List Item) (place : ℕ) → item.list ≡ place → stood_at place (item ∷ rest) ≡ stood_of item ∷ stood_at place rest
stood_at-same item rest place same = rw (eq-eqb item.list place same)

pub places-length : (from : ℕ) (lists : List (List (ℕ × ℕ))) (hidden : List Item) → length (places_from from lists hidden) ≡ length lists
places-length from [] hidden = refl
places-length from (xs ∷ rest) hidden = ap suc (places-length (suc from) rest hidden)

pub places-at : (from : ℕ) (lists : List (List (ℕ × ℕ))) (hidden : List Item) (i at : ℕ) → at ≡ from + i → i < length lists → place_at (places_from from lists hidden) i ≡ seen_at at (list_at lists i) hidden
places-at from [] hidden i at is within = absurd (omega arith)
places-at from (xs ∷ rest) hidden zero at is within = let same : from ≡ at = omega arith in ap (λ n. seen_at n xs hidden) same
places-at from (xs ∷ rest) hidden (suc i) at is within = places-at (suc from) rest hidden i at (omega arith) (omega arith)

pub places-kept : (from : ℕ) (lists : List (List (ℕ × ℕ))) (old new : List Item) → ((place : ℕ) → from ≤ place → stood_at place new ≡ stood_at place old) → places_from from lists new ≡ places_from from lists old
places-kept from [] old new kept = refl
places-kept from (xs ∷ rest) old new kept =
    let first = kept from (omega arith) in
    let later = places-kept (suc from) rest old new (λ place above. kept place (omega arith)) in
    ap (λ stood. record { listed = xs; hidden = stood } ∷ places_from (suc from) rest new) first
    ∙ ap (λ places. seen_at from xs old ∷ places) later

-- one place changes
pub places-set : (from : ℕ) (lists : List (List (ℕ × ℕ))) (i at : ℕ) (ys : List (ℕ × ℕ)) (old new : List Item) → at ≡ from + i → i < length lists → ((place : ℕ) → place ≢ at → stood_at place new ≡ stood_at place old) → places_from from (set lists i ys) new ≡ set (places_from from lists old) i (seen_at at ys new)
places-set from [] i at ys old new is within kept = absurd (omega arith)
places-set from (xs ∷ rest) zero at ys old new is within kept =
    let same : from ≡ at = omega arith in
    ap (λ places. seen_at from ys new ∷ places) (places-kept (suc from) rest old new (λ place above. kept place (λ e. omega arith)))
    ∙ ap (λ n. seen_at n ys new ∷ places_from (suc from) rest old) same
places-set from (xs ∷ rest) (suc i) at ys old new is within kept =
    ap (λ stood. record { listed = xs; hidden = stood } ∷ places_from (suc from) (set rest i ys) new) (kept from (λ e. omega arith))
    ∙ ap (λ places. seen_at from xs old ∷ places) (places-set (suc from) rest i at ys old new (omega arith) (omega arith) kept)

-- the lists of the places are the lists
pub places-listed : (from : ℕ) (lists : List (List (ℕ × ℕ))) (hidden : List Item) → map (λ place. place.listed) (places_from from lists hidden) ≡ lists
places-listed from [] hidden = refl
places-listed from (xs ∷ rest) hidden = ap (λ lists. xs ∷ lists) (places-listed (suc from) rest hidden)

module _ (P : Place → Type 0) where
  pub each_set : (places : List Place) (i : ℕ) (place : Place) → Each P places → P place → Each P (set places i place)
  each_set [] i place each here = tt
  each_set (first ∷ rest) zero place each here = (here, each.1)
  each_set (first ∷ rest) (suc i) place each here = (each.0, each_set rest i place each.1 here)

  pub each_at : (places : List Place) (i : ℕ) → i < length places → Each P places → P (place_at places i)
  each_at [] i within each = absurd (omega arith)
  each_at (first ∷ rest) zero within each = each.0
  each_at (first ∷ rest) (suc i) within each = each_at rest i (omega arith) each.1

pub each_map : (P Q : Place → Type 0) (places : List Place) → ((place : Place) → P place → Q place) → Each P places → Each Q places
each_map P Q [] change each = tt
each_map P Q (first ∷ rest) change each = (change first each.0, each_map P Q rest change each.1)
