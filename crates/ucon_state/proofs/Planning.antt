-- Checks that are enough for predicates, and plans, one after the other.
use Rattle.std.proofs.Common.{◌≡◌, ◌∙◌, ◌+◌, ◌<◌, ℕ, refl, ap, Bool, true, false, cond, List, [], ◌∷◌, ◌++◌, length, map, take, get_or, Some, None}
use Rattle.std.specs.Prelude.{◌&&◌, not}
use Rattle.std.proofs.lemmas.List.{map_more}
use Rattle.std.proofs.lemmas.List.Elements.{All-pop}
use Rattle.ucon_model.specs.declared.policy.Predicate.{Predicate}
use Rattle.ucon_model.specs.declared.session.SessionRow.{SessionRow}
use Rattle.ucon_model.specs.Decision.{first_false, ongoing}
use Rattle.ucon_model.specs.Plain.{PlainPolicy, PlainPredicate}
use Rattle.ucon_model.specs.Truth.{Readings, truth}
use Rattle.ucon_model.specs.Views.{predicate_of}
use Rattle.ucon_state.specs.declared.planned.Check.{Check}
use Rattle.ucon_state.specs.Planned.{AreEnough, IsEnough, IsMet}

-- ---- one predicate more

module _ (R : Readings) (row : SessionRow) where
  -- none is false with one more that isn't
  none_false_more : (ps : List PlainPredicate) (p : PlainPredicate) → first_false R row ongoing ps ≡ None → (ongoing p && not (truth R row p.test)) ≡ false
      → first_false R row ongoing (ps ++ p ∷ []) ≡ None
  none_false_more [] p none last = ap (λ (b : Bool). cond b (Some p.label) None) last
  none_false_more (q ∷ ps) p none last = by (ongoing q && not (truth R row q.test)) (λ rest. none_false_more ps p rest last) none
    where
      by : (b : Bool) → (first_false R row ongoing ps ≡ None → first_false R row ongoing (ps ++ p ∷ []) ≡ None)
          → cond b (Some q.label) (first_false R row ongoing ps) ≡ None → cond b (Some q.label) (first_false R row ongoing (ps ++ p ∷ [])) ≡ None
      by true more h = absurd cc
      by false more h = more h

asked_not : (b c : Bool) → (b ≡ true → c ≡ true) → (b && not c) ≡ false
asked_not true c h = ap not (h refl)
asked_not false c h = refl

module _ (P : PlainPolicy) (checks : List Check) where
  -- one more check, which is enough for one predicate more
  pub enough_more : (preds : List Predicate) (i : ℕ) (d : Predicate) (check : Check) → i < length preds → AreEnough P checks (map predicate_of (take i preds))
      → IsEnough P check (λ R row. truth R row (predicate_of (get_or preds i d)).test) → AreEnough P (checks ++ check ∷ []) (map predicate_of (take (i + 1) preds))
  enough_more preds i d check within so_far enough R row all =
      let split = All-pop (IsMet P R row) (checks ++ check ∷ []) checks (Some check) refl all in
      let p = predicate_of (get_or preds i d) in
      let last = asked_not (ongoing p) (truth R row p.test) (λ asked. enough R row split.1) in
      ap (first_false R row ongoing) (map_more predicate_of preds i d within)
      ∙ none_false_more R row (map predicate_of (take i preds)) p (so_far R row split.0) last

  -- one predicate more that isn't ongoing
  pub enough_still : (preds : List Predicate) (i : ℕ) (d : Predicate) → i < length preds → AreEnough P checks (map predicate_of (take i preds))
      → ongoing (predicate_of (get_or preds i d)) ≡ false → AreEnough P checks (map predicate_of (take (i + 1) preds))
  enough_still preds i d within so_far other R row all =
      let p = predicate_of (get_or preds i d) in
      let last = ap (λ (b : Bool). b && not (truth R row p.test)) other in
      ap (first_false R row ongoing) (map_more predicate_of preds i d within)
      ∙ none_false_more R row (map predicate_of (take i preds)) p (so_far R row all) last
