-- Without timed parts so far, and of one predicate more.
use Rattle.std.proofs.Common.{◌≡◌, ◌∙◌, ◌+◌, ◌<◌, ℕ, Bool, true, false, cond, List, [], ◌∷◌, ◌++◌, append_assoc, filter, get_or, length, map, take, ap, refl, sym}
use Rattle.std.specs.List.{flat_map}
use Rattle.std.proofs.lemmas.List.{map_more}
use Rattle.ucon_model.specs.declared.policy.Predicate.{Predicate}
use Rattle.ucon_model.specs.Decision.{ongoing}
use Rattle.ucon_model.specs.Plain.{PlainPredicate}
use Rattle.ucon_model.specs.Reach.{Timed, test_timed}
use Rattle.ucon_model.specs.Views.{predicate_of}
use Rattle.ucon_readers.specs.Limits.{timed_parts}

timed_append : (ps qs : List PlainPredicate) → timed_parts (ps ++ qs) ≡ timed_parts ps ++ timed_parts qs
timed_append [] qs = refl
timed_append (p ∷ ps) qs = by (ongoing p) (timed_append ps qs)
  where
    by : (b : Bool) → timed_parts (ps ++ qs) ≡ timed_parts ps ++ timed_parts qs
        → flat_map (λ p. test_timed p.test) (cond b (p ∷ filter ongoing (ps ++ qs)) (filter ongoing (ps ++ qs)))
        ≡ flat_map (λ p. test_timed p.test) (cond b (p ∷ filter ongoing ps) (filter ongoing ps)) ++ timed_parts qs
    by true rest = ap (λ (more : List Timed). test_timed p.test ++ more) rest ∙ sym (append_assoc (test_timed p.test) (timed_parts ps) (timed_parts qs))
    by false rest = rest

pub untimed_more : (ps : List Predicate) (i : ℕ) (d : Predicate) → i < length ps → timed_parts (map predicate_of (take i ps)) ≡ []
    → timed_parts (predicate_of (get_or ps i d) ∷ []) ≡ [] → timed_parts (map predicate_of (take (i + 1) ps)) ≡ []
untimed_more ps i d within none last =
    ap timed_parts (map_more predicate_of ps i d within) ∙ timed_append (map predicate_of (take i ps)) (predicate_of (get_or ps i d) ∷ [])
    ∙ ap (λ (more : List Timed). timed_parts (map predicate_of (take i ps)) ++ more) last ∙ ap (λ (parts : List Timed). parts ++ []) none
