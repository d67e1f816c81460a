-- The attributes of entities are those of the trace.
use Rattle.std.proofs.Common.{◌≡◌, ◌∙◌, sym, ap, subst, ℕ, ◌+◌, Bool, true, false, cond, ◌&&◌, ◌++◌, length, refl}
use Rattle.std.specs.Prelude.{◌||◌, Option, Some, None, is_some, option_map, option_and_then, slice_get, slice_set}
use Rattle.std.specs.Str.{bytes_eq}
use Rattle.std.proofs.lemmas.Bool.{and_parts, and_from, both_ways}
use Rattle.std.proofs.lemmas.Option.{slice_get-map}
use Rattle.ucon_base.specs.declared.value.Side.{Side}
use Rattle.ucon_base.specs.declared.value.Side.TheVariants as sides
use Rattle.ucon_base.specs.declared.value.Value.{Value}
use Rattle.ucon_model.specs.declared.policy.AttrDecl.{AttrDecl}
use Rattle.ucon_model.specs.Plain.{Bytes, PlainPolicy}
use Rattle.ucon_model.specs.Action.{Trace}
use Rattle.ucon_model.specs.Readings.{in_force, has_entity, same_side, declared_attr, attribute, attrs_of, attr_position, attr_default, given_attr}
use Rattle.ucon_state.specs.Tables.{Tables, first_cell, cell_of, attribute_in}
use Rattle.ucon_state.specs.Applied.{defaults_of, with_entity, with_cell}
use Rattle.ucon_state.specs.Following.{HaveOwnCells}
use Rattle.ucon_state.proofs.Following.Places.{set_here, set_elsewhere, still_there, added_there}
use Rattle.ucon_state.proofs.Following.Names.{same_name, own_name}
use Rattle.ucon_state.proofs.Following.Cells.{from_first, cell_of-first_cell, declared_there, same_sides, first_cell-with_entity, cells-with_entity, first_cell-with_cell, parts_of_cell, cell_within, whose_cell}

-- ---- after an entity came

start_of : AttrDecl → Value
start_of d = d.start

-- a new entity has the defaults
new_has_defaults : (P : PlainPolicy) (t : Tables) (s : Side) (attr : Bytes) (o : Option ℕ) → attr_position P s attr ≡ o
    → option_and_then (slice_get (t.cells ++ defaults_of P s)) (option_map (λ place. length t.cells + place) o)
    ≡ option_map (λ d. d.start) (option_and_then (slice_get (attrs_of P s)) o)
new_has_defaults P t s attr None is = refl
new_has_defaults P t s attr (Some p) is =
    added_there t.cells (defaults_of P s) (length t.cells + p) p refl ∙ slice_get-map (λ (d : AttrDecl). d.start) (attrs_of P s) p

-- an old one has what it had
old_stays : (P : PlainPolicy) (t : Tables) (s side : Side) (n attr : Bytes) (o : Option ℕ) → HaveOwnCells P t → cell_of P t side n attr ≡ o
    → option_and_then (slice_get (t.cells ++ defaults_of P s)) o ≡ option_and_then (slice_get t.cells) o
old_stays P t s side n attr None h is = refl
old_stays P t s side n attr (Some c) h is = still_there t.cells (defaults_of P s) c (cell_within P t side n attr c h (parts_of_cell P t side n attr c is))

came_by : (P : PlainPolicy) (t : Tables) (s side : Side) (name n attr : Bytes) (b : Bool) → HaveOwnCells P t → (same_side side s && bytes_eq n name) ≡ b
    → option_and_then (slice_get (t.cells ++ defaults_of P s)) (option_and_then (from_first P side attr) (cond b (Some (length t.cells)) (first_cell t side n)))
    ≡ cond b (option_map (λ d. d.start) (declared_attr P.attrs side attr)) (attribute_in P t side n attr)
came_by P t s side name n attr true h is =
    let both = and_parts (same_side side s) (bytes_eq n name) is in
    let here : side ≡ s = same_sides side s both.0 in
    subst (λ (r : Side). option_and_then (slice_get (t.cells ++ defaults_of P r)) (from_first P side attr (length t.cells)) ≡ option_map (λ d. d.start) (declared_attr P.attrs side attr)) here
    (new_has_defaults P t side attr (attr_position P side attr) refl ∙ ap (option_map (λ (d : AttrDecl). d.start)) (declared_there P side attr))
came_by P t s side name n attr false h is =
    ap (option_and_then (slice_get (t.cells ++ defaults_of P s))) (sym (cell_of-first_cell P t side n attr))
    ∙ old_stays P t s side n attr (cell_of P t side n attr) h refl

pub attribute_in-with_entity : (P : PlainPolicy) (t : Tables) (s side : Side) (name n attr : Bytes) → HaveOwnCells P t → first_cell t s name ≡ None
    → attribute_in P (with_entity P t s name) side n attr
    ≡ cond (same_side side s && bytes_eq n name) (option_map (λ d. d.start) (declared_attr P.attrs side attr)) (attribute_in P t side n attr)
attribute_in-with_entity P t s side name n attr h new =
    ap (λ cells. option_and_then (slice_get cells) (cell_of P (with_entity P t s name) side n attr)) (cells-with_entity P t s name)
    ∙ ap (option_and_then (slice_get (t.cells ++ defaults_of P s)))
    (cell_of-first_cell P (with_entity P t s name) side n attr ∙ ap (option_and_then (from_first P side attr)) (first_cell-with_entity P t s side name n new))
    ∙ came_by P t s side name n attr (same_side side s && bytes_eq n name) h refl

-- ---- after a write

cell_of-with_cell : (P : PlainPolicy) (t : Tables) (cell : ℕ) (v : Value) (side : Side) (n attr : Bytes) → cell_of P (with_cell t cell v) side n attr ≡ cell_of P t side n attr
cell_of-with_cell P t cell v side n attr =
    cell_of-first_cell P (with_cell t cell v) side n attr ∙ ap (option_and_then (from_first P side attr)) (first_cell-with_cell t cell v side n) ∙ sym (cell_of-first_cell P t side n attr)

-- whether it is this attribute of this entity
abbrev pub is_that : Side → Side → Bytes → Bytes → Bytes → Bytes → Bool
is_that side s n name attr a = same_side side s && bytes_eq n name && bytes_eq attr a

pub that_one : (side s : Side) (n name attr a : Bytes) → is_that side s n name attr a ≡ true → (side ≡ s) × (n ≡ name) × (attr ≡ a)
that_one side s n name attr a is =
    let front = and_parts (same_side side s && bytes_eq n name) (bytes_eq attr a) is in
    let both = and_parts (same_side side s) (bytes_eq n name) front.0 in
    (same_sides side s both.0, same_name n name both.1, same_name attr a front.1)

same_side_own : (s : Side) → same_side s s ≡ true
same_side_own sides.Subject = refl
same_side_own sides.Object = refl

is_that-own : (s : Side) (name a : Bytes) → is_that s s name name a a ≡ true
is_that-own s name a = and_from _ _ (and_from _ _ (same_side_own s) (own_name name)) (own_name a)

written_by : (P : PlainPolicy) (t : Tables) (s side : Side) (name n a attr : Bytes) (c : ℕ) (v : Value) (b : Bool) (o : Option ℕ) → HaveOwnCells P t
    → cell_of P t s name a ≡ Some c → is_that side s n name attr a ≡ b → cell_of P t side n attr ≡ o
    → option_and_then (slice_get (slice_set t.cells c v)) o ≡ cond b (Some v) (option_and_then (slice_get t.cells) o)
written_by P t s side name n a attr c v true o h there is at =
    let same = that_one side s n name attr a is in
    let here : cell_of P t side n attr ≡ Some c =
    ap (λ (r : Side). cell_of P t r n attr) same.0 ∙ ap (λ (m : Bytes). cell_of P t s m attr) same.1 ∙ ap (cell_of P t s name) same.2 ∙ there in
    ap (option_and_then (slice_get (slice_set t.cells c v))) (sym at ∙ here) ∙ set_here t.cells c v (cell_within P t s name a c h (parts_of_cell P t s name a c there))
written_by P t s side name n a attr c v false None h there is at = refl
written_by P t s side name n a attr c v false (Some d) h there is at =
    set_elsewhere t.cells c d v (λ same.
    let whose = whose_cell P t h side s n name attr a d at (there ∙ ap (λ (k : ℕ). Some k) same) in
    both_ways (is_that side s n name attr a) is
    (ap (λ (r : Side). is_that r s n name attr a) whose.0 ∙ ap (λ (m : Bytes). is_that s s m name attr a) whose.1 ∙ ap (λ (b : Bytes). is_that s s name name b a) whose.2 ∙ is_that-own s name a))

pub attribute_in-with_cell : (P : PlainPolicy) (t : Tables) (s side : Side) (name n a attr : Bytes) (c : ℕ) (v : Value) → HaveOwnCells P t → cell_of P t s name a ≡ Some c
    → attribute_in P (with_cell t c v) side n attr ≡ cond (is_that side s n name attr a) (Some v) (attribute_in P t side n attr)
attribute_in-with_cell P t s side name n a attr c v h there =
    ap (option_and_then (slice_get (slice_set t.cells c v))) (cell_of-with_cell P t c v side n attr)
    ∙ written_by P t s side name n a attr c v (is_that side s n name attr a) (cell_of P t side n attr) h there refl refl

-- ---- one action further

-- the value of an attribute, by whether the entity is there, by what was given, and by the declaration
abbrev value_by : Bool → Option Value → Option AttrDecl → Option Value
value_by there given declared = cond (there && is_some declared) given None

made_by : (there : Bool) (given old : Option Value) (b : Bool) (o : Option AttrDecl) → old ≡ value_by there given o
    → cond b (option_map (λ d. d.start) o) old ≡ value_by (b || there) (cond b (option_map (λ d. d.start) o) given) o
made_by there given old true None same = refl
made_by there given old true (Some d) same = refl
made_by there given old false o same = same

pub new_value : (P : PlainPolicy) (T : Trace) (s : Side) (n attr : Bytes) (b : Bool) (old : Option Value) → old ≡ attribute P T s n attr
    → cond b (option_map (λ d. d.start) (declared_attr (in_force P T).attrs s attr)) old
    ≡ value_by (b || has_entity s n T) (cond b (attr_default (in_force P T) s attr) (given_attr P s n attr T)) (declared_attr (in_force P T).attrs s attr)
new_value P T s n attr b old same = made_by (has_entity s n T) (given_attr P s n attr T) old b (declared_attr (in_force P T).attrs s attr) same

pub written_value : (P : PlainPolicy) (T : Trace) (s side : Side) (name n a attr : Bytes) (v : Value) (b : Bool) (old : Option Value) (declared : Option AttrDecl)
    → is_that side s n name attr a ≡ b → has_entity s name T ≡ true → declared_attr (in_force P T).attrs s a ≡ declared → is_some declared ≡ true
    → old ≡ attribute P T side n attr
    → cond b (Some v) old ≡ value_by (has_entity side n T) (cond b (Some v) (given_attr P side n attr T)) (declared_attr (in_force P T).attrs side attr)
written_value P T s side name n a attr v true old None is there at some same = absurd cc
written_value P T s side name n a attr v true old (Some d) is there at some same =
    let that = that_one side s n name attr a is in
    let here : has_entity side n T ≡ true = ap (λ (r : Side). has_entity r n T) that.0 ∙ ap (λ (m : Bytes). has_entity s m T) that.1 ∙ there in
    let declared : declared_attr (in_force P T).attrs side attr ≡ Some d =
    ap (λ (r : Side). declared_attr (in_force P T).attrs r attr) that.0 ∙ ap (declared_attr (in_force P T).attrs s) that.2 ∙ at in
    rw (here, declared) refl
written_value P T s side name n a attr v false old declared is there at some same = same
