-- To put back is to undo a hide.
use Rattle.std.proofs.Common.{◌≡◌, ℕ, suc, List, [], ◌∷◌, ◌++◌, map, Bool, true, false, eqb, ◌⊎◌, inl, inr, refl, sym, ap, ◌∙◌, subst}
use Rattle.std.proofs.lemmas.Bool.{eqb-true, eqb-false}
use Rattle.ucon_base.specs.Elements.{Each}
use Rattle.ucon_links.specs.Lists.{Item, Lists, listed_nodes, nodes_of, IsAbsent, IsDistinct}
use Rattle.ucon_links.specs.Dependents.{Stood, Place, is_there, hide_at, unhide_at, hide, Fits, UnhideGives}
use Rattle.ucon_links.specs.Tables.{places_from, sessions_of, seen, IsOnce, IsSound}
use Rattle.ucon_links.specs.OneList.{distinct_front, distinct_back, ids, front_of}
use Rattle.ucon_links.proofs.Standing.{sessions_in, sessions_out, alone, hide_at-there, hide_at-absent, unhide_at-there, unhide_at-absent, fits_not}
use Rattle.ucon_links.proofs.Stack.{owners_of, owners_absent, stood_absent, there-not_hidden}

-- a place at which the session isn't hidden
record IsRestorable (session : ℕ) (place : Place) : Type 0 where
  pub once : IsOnce place
  pub nodes : IsDistinct (ids place.listed)
  pub not_hidden : IsAbsent session (sessions_out place.hidden)

record Standing (session : ℕ) (xs : List (ℕ × ℕ)) : Type 0 where
  pub node : ℕ
  pub front : List (ℕ × ℕ)
  pub back : List (ℕ × ℕ)
  pub there : xs ≡ front ++ (node, session) ∷ back

standing_first : (session : ℕ) (x : ℕ × ℕ) (xs : List (ℕ × ℕ)) (test : Bool) → eqb x.1 session ≡ test → IsAbsent session (sessions_in xs) ⊎ Standing session xs → IsAbsent session (sessions_in (x ∷ xs)) ⊎ Standing session (x ∷ xs)
standing_first session x xs true is rest = let pair : ℕ → ℕ × ℕ = λ s. (x.0, s) in inr (record { node = x.0; front = []; back = xs; there = ap (λ s. pair s ∷ xs) (eqb-true x.1 session is) })
standing_first session x xs false is rest =
    elim rest [
      | inl absent ↦ inl (eqb-false x.1 session is, absent)
      | inr more ↦ inr (record { node = more.node; front = x ∷ more.front; back = more.back; there = ap (λ ys. x ∷ ys) more.there })
    ]

standing : (session : ℕ) (xs : List (ℕ × ℕ)) → IsAbsent session (sessions_in xs) ⊎ Standing session xs
standing session [] = inl tt
standing session (x ∷ xs) = standing_first session x xs (eqb x.1 session) refl (standing session xs)

record Restores (session : ℕ) (place : Place) : Type 0 where
  pub fits : Fits session (hide_at session place)
  pub back : unhide_at session (hide_at session place) ≡ place

restores_absent : (session : ℕ) (place : Place) → IsRestorable session place → IsAbsent session (sessions_in place.listed) → Restores session place
restores_absent session place can absent =
    let same = hide_at-absent session place absent in
    record {
      fits = subst (Fits session) (sym same) (fits_not session place place.hidden can.not_hidden);
      back = ap (unhide_at session) same ∙ unhide_at-absent session place can.not_hidden;
    }

restores_there : (session node : ℕ) (front back : List (ℕ × ℕ)) (hidden : List Stood) → IsRestorable session (record { listed = front ++ (node, session) ∷ back; hidden = hidden }) → Restores session (record { listed = front ++ (node, session) ∷ back; hidden = hidden })
restores_there session node front back hidden can =
    let one = alone session node front back hidden can.once in
    let hides = hide_at-there session node front back hidden one.front_absent in
    let parts = front_of front back (node, session) can.nodes in
    record {
      fits = subst (Fits session) (sym hides) (λ same. record { front = front; back = back; parts = refl; front_ends = refl; back_begins = refl });
      back = ap (unhide_at session) hides ∙ unhide_at-there session node front back hidden parts.distinct;
    }

restores : (session : ℕ) (place : Place) → IsRestorable session place → Restores session place
restores session place can =
    elim (standing session place.listed) [
      | inl absent ↦ restores_absent session place can absent
      | inr there ↦ let same : place ≡ record { listed = there.front ++ (there.node, session) ∷ there.back; hidden = place.hidden } = ap (λ xs. record { listed = xs; hidden = place.hidden }) there.there in subst (Restores session) (sym same) (restores_there session there.node there.front there.back place.hidden (subst (IsRestorable session) same can))
    ]

record AllRestored (session : ℕ) (places : List Place) : Type 0 where
  pub fits : Each (Fits session) (map (hide_at session) places)
  pub back : map (unhide_at session) (map (hide_at session) places) ≡ places

all_restored : (session : ℕ) (places : List Place) → Each (IsRestorable session) places → AllRestored session places
all_restored session [] each = record { fits = tt; back = refl }
all_restored session (place ∷ rest) each =
    let first = restores session place each.0 in
    let later = all_restored session rest each.1 in
    record {
      fits = (first.fits, later.fits);
      back = ap (λ p. p ∷ map (unhide_at session) (map (hide_at session) rest)) first.back ∙ ap (λ ps. place ∷ ps) later.back;
    }

each_restorable : (session from : ℕ) (lists : List (List (ℕ × ℕ))) (hidden : List Item) → Each IsOnce (places_from from lists hidden) → IsDistinct (listed_nodes lists) → IsAbsent session (owners_of hidden) → Each (IsRestorable session) (places_from from lists hidden)
each_restorable session from [] hidden once distinct absent = tt
each_restorable session from (xs ∷ rest) hidden once distinct absent = (
  record { once = once.0; nodes = distinct_front (ids xs) (listed_nodes rest) distinct; not_hidden = stood_absent session from hidden absent },
  each_restorable session (suc from) rest hidden once.1 (distinct_back (ids xs) (listed_nodes rest) distinct) absent,
)

pub undone : (session : ℕ) (places sessions : Lists) → IsSound places sessions → IsDistinct (nodes_of places) → is_there session (places_from 0 places.lists places.hidden) ≡ true → UnhideGives 1 (hide (seen places sessions) session) (seen places sessions)
undone session places sessions sound distinct there =
    let absent = owners_absent session places.hidden (there-not_hidden session (sessions_of places.hidden) (places_from 0 places.lists places.hidden) sound.gone there) in
    let all = all_restored session (places_from 0 places.lists places.hidden) (each_restorable session 0 places.lists places.hidden sound.paired.once (distinct_front (listed_nodes places.lists) (map (λ item. item.node) places.hidden) distinct) absent) in
    (all.fits, ap (λ ps. record (seen places sessions) { places = ps }) all.back)
