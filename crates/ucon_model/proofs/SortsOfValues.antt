-- Under a well typed policy each value is of the sort of its expression.
use Rattle.std.proofs.Common.{◌≡◌, ◌∙◌, sym, refl, ap, inl, inr, Bool, true, false, cond, [], arith}
use Rattle.std.specs.Prelude.{ℤ, ◌⊎◌, ◌≤ℤ◌, ◌&&◌, int_le, Option, Some, None, is_some, option_map, IsTrue, IsSomeAnd}
use Rattle.std.specs.Option.{option_map_or}
use Rattle.std.proofs.lemmas.Int.{ints, clamps}
use Rattle.std.proofs.lemmas.Option.{same_Some}
use Rattle.ucon_base.specs.declared.value.Side.{Side}
use Rattle.ucon_base.specs.declared.value.Side.TheVariants as sides
use Rattle.ucon_base.specs.declared.value.Kind.{Kind}
use Rattle.ucon_base.specs.declared.value.Kind.TheVariants as kinds
use Rattle.ucon_base.specs.declared.value.Value.{Value}
use Rattle.ucon_base.specs.declared.value.Value.TheVariants as values
use Rattle.ucon_base.specs.Admits.{admits}
use Rattle.ucon_base.specs.Arithmetic.{sum_of, difference_of, product_of, size_of, fitted}
use Rattle.ucon_base.specs.Numbers.{clamp}
use Rattle.ucon_model.specs.declared.formula.Ref.{Ref}
use Rattle.ucon_model.specs.declared.formula.Ref.TheVariants.{Subject, Object, Env}
use Rattle.ucon_model.specs.declared.formula.Sort.{Sort}
use Rattle.ucon_model.specs.declared.formula.Sort.TheVariants.{Integer, Text, Set}
use Rattle.ucon_model.specs.declared.policy.AttrDecl.{AttrDecl}
use Rattle.ucon_model.specs.declared.policy.EnvDecl.{EnvDecl}
use Rattle.ucon_model.specs.declared.session.SessionRow.{SessionRow}
use Rattle.ucon_model.specs.Plain.{Bytes, PlainExpr, lit, read, plus, minus, times, size, PlainUpdate, PlainRight, PlainPolicy}
use Rattle.ucon_model.specs.Action.{Trace}
use Rattle.ucon_model.specs.Readings.{in_force, has_entity, declared_attr, declared_env, given_attr, attribute, given_env}
use Rattle.ucon_model.specs.Truth.{place_of, value_of, read_or_zero}
use Rattle.ucon_model.specs.Decision.{right_named}
use Rattle.ucon_model.specs.Updates.{fitted_to}
use Rattle.ucon_base.specs.Elements.{Each, each_map}
use Rattle.ucon_model.specs.Places.{attr_place}
use Rattle.ucon_model.specs.Fitting.{ValuesFit, ResultFits, UpdatesFit, PlacesFit}
use Rattle.ucon_model.specs.Typing.{sort_of, value_sort, same_sort, is_of, are_of_one_sort, sum_sort, product_sort, size_sort, place_sort, expr_sort, is_range, is_typed_update, IsTyped}
use Rattle.ucon_model.proofs.TypedParts.{typed_attr, typed_updates}
use Rattle.ucon_model.proofs.ValuesGiven.{attr_given, env_given}

-- ---- tests that hold

pub left_true : (a b : Bool) → (a && b) ≡ true → a ≡ true
left_true true b h = refl
left_true false b h = h

pub right_true : (a b : Bool) → (a && b) ≡ true → b ≡ true
right_true true b h = h
right_true false b h = absurd cc

pub both_true : (a b : Bool) → a ≡ true → b ≡ true → (a && b) ≡ true
both_true a b h k = rw (h, k) refl

same_sort_is : (s t : Sort) → same_sort s t ≡ true → s ≡ t
same_sort_is Integer Integer h = refl
same_sort_is Text Text h = refl
same_sort_is Set Set h = refl
same_sort_is Integer Text h = absurd cc
same_sort_is Integer Set h = absurd cc
same_sort_is Text Integer h = absurd cc
same_sort_is Text Set h = absurd cc
same_sort_is Set Integer h = absurd cc
same_sort_is Set Text h = absurd cc

pub is_of_some : (s : Sort) (k : Option Sort) → is_of s k ≡ true → k ≡ Some s
is_of_some s None h = absurd cc
is_of_some s (Some t) h = ap Some (sym (same_sort_is s t h))

pub one_sort : (k l : Option Sort) → are_of_one_sort k l ≡ true → (s : Sort) × ((k ≡ Some s) × (l ≡ Some s))
one_sort None l h = absurd cc
one_sort (Some s) l h = (s, (refl, is_of_some s l h))

-- ---- a value that is admitted is of the sort of its kind

pub admitted_sort : (k : Kind) (v : Value) → admits k v ≡ true → value_sort v ≡ sort_of k
admitted_sort (kinds.Int low high) (values.Int n) h = refl
admitted_sort (kinds.Int low high) (values.Text t) h = absurd cc
admitted_sort (kinds.Int low high) (values.Set s) h = absurd cc
admitted_sort kinds.Text (values.Int n) h = absurd cc
admitted_sort kinds.Text (values.Text t) h = refl
admitted_sort kinds.Text (values.Set s) h = absurd cc
admitted_sort kinds.Set (values.Int n) h = absurd cc
admitted_sort kinds.Set (values.Text t) h = absurd cc
admitted_sort kinds.Set (values.Set s) h = refl

-- ---- places

-- a value that is admitted by what is declared is of the declared sort
attr_admits : (o : Option AttrDecl) (s : Sort) (v : Value) → option_map (λ d. sort_of d.kind) o ≡ Some s → IsSomeAnd o (λ d. IsTrue (admits d.kind v)) → value_sort v ≡ s
attr_admits None s v declared h = absurd h
attr_admits (Some d) s v declared h = admitted_sort d.kind v h ∙ same_Some (sort_of d.kind) s declared

env_admits : (o : Option EnvDecl) (s : Sort) (v : Value) → option_map (λ d. sort_of d.kind) o ≡ Some s → IsSomeAnd o (λ d. IsTrue (admits d.kind v)) → value_sort v ≡ s
env_admits None s v declared h = absurd h
env_admits (Some d) s v declared h = admitted_sort d.kind v h ∙ same_Some (sort_of d.kind) s declared

pub places_fit : (P : PlainPolicy) (T : Trace) → ValuesFit P T → (row : SessionRow) → PlacesFit (in_force P T) (place_of P T row)
places_fit P T h row (Subject attr) s v declared is =
    attr_admits (declared_attr (in_force P T).attrs sides.Subject attr) s v declared (h.attributes sides.Subject row.subject attr v is)
places_fit P T h row (Object attr) s v declared is =
    attr_admits (declared_attr (in_force P T).attrs sides.Object attr) s v declared (h.attributes sides.Object row.object attr v is)
places_fit P T h row (Env name) s v declared is = env_admits (declared_env (in_force P T).envs name) s v declared (h.variables name v is)

-- where the session's subject and object are there, so is each place that is declared
is_declared_so : {D : Type 0} (sort : D → Sort) (o : Option D) (s : Sort) → option_map sort o ≡ Some s → is_some o ≡ true
is_declared_so sort None s declared = absurd cc
is_declared_so sort (Some d) s declared = refl

given_where : (there declared : Bool) (given : Option Value) → there ≡ true → declared ≡ true → is_some given ≡ true → is_some (cond (there && declared) given None) ≡ true
given_where true true given here known is = is
given_where true false given here known is = absurd cc
given_where false declared given here known is = absurd cc

entity_value : (P : PlainPolicy) (T : Trace) (side : Side) (e attr : Bytes) → IsTrue (has_entity side e T)
    → is_some (declared_attr (in_force P T).attrs side attr) ≡ true → is_some (attribute P T side e attr) ≡ true
entity_value P T side e attr there known =
    given_where (has_entity side e T) (is_some (declared_attr (in_force P T).attrs side attr)) (given_attr P side e attr T) there known
    (attr_given P T side e attr there known)

pub places_there : (P : PlainPolicy) (T : Trace) (row : SessionRow) → IsTrue (has_entity sides.Subject row.subject T) → IsTrue (has_entity sides.Object row.object T)
    → (place : Ref) (s : Sort) → place_sort (in_force P T) place ≡ Some s → is_some (place_of P T row place) ≡ true
places_there P T row subject object (Subject attr) s declared =
    entity_value P T sides.Subject row.subject attr subject (is_declared_so (λ d. sort_of d.kind) (declared_attr (in_force P T).attrs sides.Subject attr) s declared)
places_there P T row subject object (Object attr) s declared =
    entity_value P T sides.Object row.object attr object (is_declared_so (λ d. sort_of d.kind) (declared_attr (in_force P T).attrs sides.Object attr) s declared)
places_there P T row subject object (Env name) s declared =
    let known = is_declared_so (λ d. sort_of d.kind) (declared_env (in_force P T).envs name) s declared in
    given_where true (is_some (declared_env (in_force P T).envs name)) (given_env P name T) refl known (env_given P T name known)

-- what is read at a place that is there is of the declared sort
pub read_sort : (o : Option Value) (s : Sort) → is_some o ≡ true → ((v : Value) → o ≡ Some v → value_sort v ≡ s) → value_sort (read_or_zero o) ≡ s
read_sort None s there each = absurd cc
read_sort (Some v) s there each = each v refl

-- ---- expressions

pub sum_by : (ints sets : Bool) (s : Sort) → cond ints (Some Integer) (cond sets (Some Set) None) ≡ Some s
    → ((ints ≡ true) × (s ≡ Integer)) ⊎ ((sets ≡ true) × (s ≡ Set))
sum_by true sets s h = inl (refl, cc)
sum_by false true s h = inr (refl, cc)
sum_by false false s h = absurd cc

pub size_by : (b : Bool) (s : Sort) → cond b (Some Integer) None ≡ Some s → (b ≡ true) × (s ≡ Integer)
size_by true s h = (refl, cc)
size_by false s h = absurd cc

ints_sum : (v w : Value) → value_sort v ≡ Integer → value_sort w ≡ Integer → value_sort (sum_of v w) ≡ Integer
ints_sum (values.Int a) (values.Int b) h k = refl
ints_sum (values.Int a) (values.Text t) h k = absurd cc
ints_sum (values.Int a) (values.Set t) h k = absurd cc
ints_sum (values.Text t) w h k = absurd cc
ints_sum (values.Set t) w h k = absurd cc

ints_difference : (v w : Value) → value_sort v ≡ Integer → value_sort w ≡ Integer → value_sort (difference_of v w) ≡ Integer
ints_difference (values.Int a) (values.Int b) h k = refl
ints_difference (values.Int a) (values.Text t) h k = absurd cc
ints_difference (values.Int a) (values.Set t) h k = absurd cc
ints_difference (values.Text t) w h k = absurd cc
ints_difference (values.Set t) w h k = absurd cc

ints_product : (v w : Value) → value_sort v ≡ Integer → value_sort w ≡ Integer → value_sort (product_of v w) ≡ Integer
ints_product (values.Int a) (values.Int b) h k = refl
ints_product (values.Int a) (values.Text t) h k = absurd cc
ints_product (values.Int a) (values.Set t) h k = absurd cc
ints_product (values.Text t) w h k = absurd cc
ints_product (values.Set t) w h k = absurd cc

set_sum : (v w : Value) → value_sort v ≡ Set → value_sort w ≡ Text → value_sort (sum_of v w) ≡ Set
set_sum (values.Set s) (values.Text t) h k = refl
set_sum (values.Set s) (values.Int t) h k = absurd cc
set_sum (values.Set s) (values.Set t) h k = absurd cc
set_sum (values.Int t) w h k = absurd cc
set_sum (values.Text t) w h k = absurd cc

set_difference : (v w : Value) → value_sort v ≡ Set → value_sort w ≡ Text → value_sort (difference_of v w) ≡ Set
set_difference (values.Set s) (values.Text t) h k = refl
set_difference (values.Set s) (values.Int t) h k = absurd cc
set_difference (values.Set s) (values.Set t) h k = absurd cc
set_difference (values.Int t) w h k = absurd cc
set_difference (values.Text t) w h k = absurd cc

set_size : (v : Value) → value_sort v ≡ Set → value_sort (size_of v) ≡ Integer
set_size (values.Set s) h = refl
set_size (values.Int n) h = absurd cc
set_size (values.Text t) h = absurd cc

-- a sum or a difference is of its sort, where both sides are of theirs
sum_sorted : (op : Value → Value → Value) → ((v w : Value) → value_sort v ≡ Integer → value_sort w ≡ Integer → value_sort (op v w) ≡ Integer)
    → ((v w : Value) → value_sort v ≡ Set → value_sort w ≡ Text → value_sort (op v w) ≡ Set)
    → (u : Bool) (k l : Option Sort) (s : Sort) (v w : Value) → ((t : Sort) → k ≡ Some t → value_sort v ≡ t) → ((t : Sort) → l ≡ Some t → value_sort w ≡ t)
    → sum_sort u k l ≡ Some s → value_sort (op v w) ≡ s
sum_sorted op of_ints of_set u k l s v w left right h =
    elim (sum_by (is_of Integer k && is_of Integer l) (u && is_of Set k && is_of Text l) s h) [
      | inl p ↦ of_ints v w (left Integer (is_of_some Integer k (left_true (is_of Integer k) (is_of Integer l) p.0)))
          (right Integer (is_of_some Integer l (right_true (is_of Integer k) (is_of Integer l) p.0))) ∙ sym p.1
      | inr p ↦ of_set v w (left Set (is_of_some Set k (right_true u (is_of Set k) (left_true (u && is_of Set k) (is_of Text l) p.0))))
          (right Text (is_of_some Text l (right_true (u && is_of Set k) (is_of Text l) p.0))) ∙ sym p.1
    ]

product_sorted : (k l : Option Sort) (s : Sort) (v w : Value) → ((t : Sort) → k ≡ Some t → value_sort v ≡ t) → ((t : Sort) → l ≡ Some t → value_sort w ≡ t)
    → product_sort k l ≡ Some s → value_sort (product_of v w) ≡ s
product_sorted k l s v w left right h =
    let p = size_by (is_of Integer k && is_of Integer l) s h in
    ints_product v w (left Integer (is_of_some Integer k (left_true (is_of Integer k) (is_of Integer l) p.0)))
    (right Integer (is_of_some Integer l (right_true (is_of Integer k) (is_of Integer l) p.0))) ∙ sym p.1

size_sorted : (k : Option Sort) (s : Sort) (v : Value) → ((t : Sort) → k ≡ Some t → value_sort v ≡ t) → size_sort k ≡ Some s → value_sort (size_of v) ≡ s
size_sorted k s v of h = let p = size_by (is_of Set k) s h in set_size v (of Set (is_of_some Set k p.0)) ∙ sym p.1

pub value_sorted : (P : PlainPolicy) (at : Ref → Option Value) → ((place : Ref) (s : Sort) → place_sort P place ≡ Some s → value_sort (read_or_zero (at place)) ≡ s)
    → (u : Bool) (e : PlainExpr) (s : Sort) → expr_sort P u e ≡ Some s → value_sort (value_of at e) ≡ s
value_sorted P at reads u (lit v) s h = cc
value_sorted P at reads u (read place) s h = reads place s h
value_sorted P at reads u (plus a b) s h =
    sum_sorted sum_of ints_sum set_sum u (expr_sort P u a) (expr_sort P u b) s (value_of at a) (value_of at b) (value_sorted P at reads u a) (value_sorted P at reads u b) h
value_sorted P at reads u (minus a b) s h =
    sum_sorted difference_of ints_difference set_difference u (expr_sort P u a) (expr_sort P u b) s (value_of at a) (value_of at b)
    (value_sorted P at reads u a) (value_sorted P at reads u b) h
value_sorted P at reads u (times a b) s h =
    product_sorted (expr_sort P u a) (expr_sort P u b) s (value_of at a) (value_of at b) (value_sorted P at reads u a) (value_sorted P at reads u b) h
value_sorted P at reads u (size a) s h = size_sorted (expr_sort P u a) s (value_of at a) (value_sorted P at reads u a) h

-- ---- results of updates

pub at_most : (a b : ℤ) → a ≤ℤ b → int_le a b ≡ true
at_most a b le = grind (arith, ints)

pub is_at_most : (a b : ℤ) → int_le a b ≡ true → a ≤ℤ b
is_at_most a b h = grind (arith, ints)

clamp_fits : (low high z : ℤ) → low ≤ℤ high → admits (kinds.Int low high) (fitted (kinds.Int low high) (values.Int z)) ≡ true
clamp_fits low high z le =
    both_true (int_le low (clamp low high z)) (int_le (clamp low high z) high)
    (at_most low (clamp low high z) (omega (arith, ints, clamps))) (at_most (clamp low high z) high (omega (arith, ints, clamps)))

fitted_admitted : (k : Kind) (v : Value) → is_range k ≡ true → value_sort v ≡ sort_of k → admits k (fitted k v) ≡ true
fitted_admitted (kinds.Int low high) (values.Int n) range h = clamp_fits low high n (is_at_most low high range)
fitted_admitted (kinds.Int low high) (values.Text t) range h = absurd cc
fitted_admitted (kinds.Int low high) (values.Set s) range h = absurd cc
fitted_admitted kinds.Text (values.Int n) range h = absurd cc
fitted_admitted kinds.Text (values.Text t) range h = refl
fitted_admitted kinds.Text (values.Set s) range h = absurd cc
fitted_admitted kinds.Set (values.Int n) range h = absurd cc
fitted_admitted kinds.Set (values.Text t) range h = absurd cc
fitted_admitted kinds.Set (values.Set s) range h = refl

result_admitted : (o : Option AttrDecl) (v : Value) (s : Sort) → ((d : AttrDecl) → o ≡ Some d → is_range d.kind ≡ true)
    → option_map (λ d. sort_of d.kind) o ≡ Some s → value_sort v ≡ s → IsSomeAnd o (λ d. IsTrue (admits d.kind (fitted_to o v)))
result_admitted None v s range declared h = absurd cc
result_admitted (Some d) v s range declared h = let kind : sort_of d.kind ≡ s = cc in fitted_admitted d.kind v (range d refl) (h ∙ sym kind)

attr_place_sort : (P : PlainPolicy) (side : Side) (attr : Bytes) → place_sort P (attr_place side attr) ≡ option_map (λ d. sort_of d.kind) (declared_attr P.attrs side attr)
attr_place_sort P sides.Subject attr = refl
attr_place_sort P sides.Object attr = refl

result_fits : (P : PlainPolicy) (T : Trace) → IsTyped (in_force P T) → ValuesFit P T → (row : SessionRow) → IsTrue (has_entity sides.Subject row.subject T)
    → IsTrue (has_entity sides.Object row.object T) → (u : PlainUpdate) → is_typed_update (in_force P T) u ≡ true → ResultFits P T row u
result_fits P T typed h row subject object u ok =
    let Q : PlainPolicy = in_force P T in
    let both = one_sort (place_sort Q (attr_place u.side u.attr)) (expr_sort Q true u.value) ok in
    let at = place_of P T row in
    let reads = λ (place : Ref) (s : Sort) (declared : place_sort Q place ≡ Some s).
    read_sort (at place) s (places_there P T row subject object place s declared) (λ v is. places_fit P T h row place s v declared is) in
    result_admitted (declared_attr Q.attrs u.side u.attr) (value_of at u.value) both.0
    (λ d there. left_true (is_range d.kind) (admits d.kind d.start) (typed_attr Q typed u.side u.attr d there))
    (sym (attr_place_sort Q u.side u.attr) ∙ both.1.0) (value_sorted Q at reads true u.value both.0 both.1.1)

each_update : (Q : PlainUpdate → Type 0) (o : Option PlainRight) → ((r : PlainRight) → o ≡ Some r → Each Q r.updates)
    → Each Q (option_map_or (λ (right : PlainRight). right.updates) o [])
each_update Q None h = tt
each_update Q (Some r) h = h r refl

-- the updates of a well typed policy give what their attributes admit
pub typed_updates_fit : (P : PlainPolicy) (T : Trace) → IsTyped (in_force P T) → UpdatesFit P T
typed_updates_fit P T typed row h subject object =
    each_update (ResultFits P T row) (right_named (in_force P T).rights row.right)
    (λ r is. each_map (λ u. is_typed_update (in_force P T) u ≡ true) (ResultFits P T row) (result_fits P T typed h row subject object) r.updates
    (typed_updates (in_force P T) typed row.right r is))
