-- Which places an expression, a predicate or an update reads, from left to right.
use Rattle.std.specs.Prelude.{Bool, false, filter, fold, List, [], ◌∷◌, ◌++◌, if◌then◌else◌}
use Rattle.std.specs.List.{list_any, flat_map}
use Rattle.std.specs.Str.{bytes_eq}
use Rattle.ucon_base.specs.declared.value.Side.{Side}
use Rattle.ucon_base.specs.declared.value.Side.TheVariants as sides
use Rattle.ucon_model.specs.declared.formula.Ref.{Ref}
use Rattle.ucon_model.specs.declared.formula.Ref.TheVariants.{Subject, Object, Env}
use Rattle.ucon_model.specs.Plain.{Bytes, PlainExpr, lit, read, plus, minus, times, size, PlainFormula, both, either, negation, compare, lasts}
use Rattle.ucon_model.specs.Plain.{PlainTest, authorisation, duty, condition, PlainUpdate, PlainRight}
use Rattle.ucon_model.specs.Decision.{ongoing}

-- the places that an expression reads
abbrev pub expr_places : PlainExpr → List Ref
expr_places (lit v) = []
expr_places (read place) = place ∷ []
expr_places (plus a b) = expr_places a ++ expr_places b
expr_places (minus a b) = expr_places a ++ expr_places b
expr_places (times a b) = expr_places a ++ expr_places b
expr_places (size a) = expr_places a

-- the places that a formula reads
abbrev pub formula_places : PlainFormula → List Ref
formula_places (both f g) = formula_places f ++ formula_places g
formula_places (either f g) = formula_places f ++ formula_places g
formula_places (negation f) = formula_places f
formula_places (compare op a b) = expr_places a ++ expr_places b
formula_places (lasts n) = []

-- the places that a test reads; an obligation reads none
abbrev pub test_places : PlainTest → List Ref
test_places (authorisation f) = formula_places f
test_places (duty o) = []
test_places (condition f) = formula_places f

-- the place of an attribute of a side
abbrev pub attr_place : Side → Bytes → Ref
attr_place sides.Subject attr = Subject attr
attr_place sides.Object attr = Object attr

-- the place that an update writes, and then those that it reads
abbrev pub update_places : PlainUpdate → List Ref
update_places u = attr_place u.side u.attr ∷ expr_places u.value

-- ---- the places of a right

-- whether two places are the same
abbrev pub same_place : Ref → Ref → Bool
same_place (Subject a) (Subject b) = bytes_eq a b
same_place (Object a) (Object b) = bytes_eq a b
same_place (Env a) (Env b) = bytes_eq a b
same_place p q = false

-- a place behind the others, if it isn't there yet
abbrev pub with_place : List Ref → Ref → List Ref
with_place places p = if list_any (same_place p) places then places else places ++ p ∷ []

-- each place once, in the order of their first
abbrev pub distinct : List Ref → List Ref
distinct places = fold with_place [] places

-- the distinct places that a right's ongoing predicates read, in the order of their first reading
abbrev pub places_read : PlainRight → List Ref
places_read r = distinct (flat_map (λ p. test_places p.test) (filter ongoing r.preds))
