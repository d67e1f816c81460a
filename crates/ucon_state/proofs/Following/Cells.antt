-- The cells of entities: each entity has its own, and they hold its attributes.
use Rattle.std.proofs.Common.{◌≡◌, ◌⊎◌, inl, inr, ◌∙◌, sym, ap, subst, ℕ, ◌+◌, ◌<◌, ◌≤◌, Bool, true, false, cond, ◌&&◌, List, [], ◌∷◌, ◌++◌, length, refl, arith}
use Rattle.std.specs.Prelude.{Option, Some, None, is_some, option_map, option_and_then, slice_get, filter, find, IsSomeAnd}
use Rattle.std.specs.Map.{lookup}
use Rattle.std.specs.Str.{bytes_eq}
use Rattle.std.proofs.lemmas.Bool.{and_parts}
use Rattle.std.proofs.lemmas.List.{length-append, length-map, length-set}
use Rattle.std.proofs.lemmas.Option.{same_Some}
use Rattle.ucon_base.specs.declared.value.Side.{Side}
use Rattle.ucon_base.specs.declared.value.Side.TheVariants as sides
use Rattle.ucon_base.specs.declared.value.Value.{Value}
use Rattle.ucon_model.specs.declared.policy.AttrDecl.{AttrDecl}
use Rattle.ucon_model.specs.Plain.{Bytes, PlainPolicy}
use Rattle.ucon_model.specs.Readings.{same_side, declared_attr, attrs_of, attr_position}
use Rattle.ucon_state.specs.Tables.{Tables, entities_of, width, first_cell, cell_of}
use Rattle.ucon_state.specs.Following.{HaveOwnCells}
use Rattle.ucon_state.specs.Applied.{defaults_of, with_entity, with_cell}
use Rattle.ucon_state.proofs.Following.Places.{found_there, place_within, passes_there, both_pass, found_still, found_new, read_by_place}
use Rattle.ucon_state.proofs.Following.Names.{same_name}

-- the cell of an attribute, from an entity's first cell on
abbrev pub from_first : PlainPolicy → Side → Bytes → ℕ → Option ℕ
from_first P side attr f = option_map (λ place. f + place) (attr_position P side attr)

pub cell_of-first_cell : (P : PlainPolicy) (t : Tables) (side : Side) (name attr : Bytes)
    → cell_of P t side name attr ≡ option_and_then (from_first P side attr) (first_cell t side name)
cell_of-first_cell P t side name attr = read_by_place (bytes_eq name) (entities_of side t) (from_first P side attr)

-- ---- declarations of a side

find_by : (side : Side) (attr : Bytes) (d : AttrDecl) (b c : Bool) (found : Option AttrDecl) (ds : List AttrDecl)
    → find (λ d. bytes_eq attr d.name) ds ≡ found → bytes_eq attr d.name ≡ c
    → find (λ d. bytes_eq attr d.name) (cond b (d ∷ ds) ds) ≡ cond (b && c) (Some d) found
find_by side attr d true c found ds rest is = rw (is, rest) refl
find_by side attr d false c found ds rest is = rest

find_of_side : (ds : List AttrDecl) (side : Side) (attr : Bytes)
    → find (λ d. bytes_eq attr d.name) (filter (λ d. same_side side d.side) ds) ≡ declared_attr ds side attr
find_of_side [] side attr = refl
find_of_side (d ∷ ds) side attr =
    find_by side attr d (same_side side d.side) (bytes_eq attr d.name) (declared_attr ds side attr) (filter (λ d. same_side side d.side) ds) (find_of_side ds side attr) refl

-- what is declared at an attribute's place
pub declared_there : (P : PlainPolicy) (side : Side) (attr : Bytes)
    → option_and_then (slice_get (attrs_of P side)) (attr_position P side attr) ≡ declared_attr P.attrs side attr
declared_there P side attr = found_there (λ d. bytes_eq attr d.name) (attrs_of P side) ∙ find_of_side P.attrs side attr

-- an attribute has a place where it is declared
is_some_from : {X : Type 0} (o : Option X) (Q : X → Type 0) → IsSomeAnd o Q → true ≡ is_some o
is_some_from None Q h = absurd h
is_some_from (Some x) Q h = refl

place_by : (P : PlainPolicy) (side : Side) (attr : Bytes) (o : Option ℕ) → attr_position P side attr ≡ o
    → is_some o ≡ is_some (option_and_then (slice_get (attrs_of P side)) o)
place_by P side attr None is = refl
place_by P side attr (Some i) is =
    is_some_from (slice_get (attrs_of P side) i) (λ d. bytes_eq attr d.name ≡ true) (passes_there (λ d. bytes_eq attr d.name) (attrs_of P side) i is)

pub place_where_declared : (P : PlainPolicy) (side : Side) (attr : Bytes) → is_some (attr_position P side attr) ≡ is_some (declared_attr P.attrs side attr)
place_where_declared P side attr = place_by P side attr (attr_position P side attr) refl ∙ ap is_some (declared_there P side attr)

-- different attributes have different places
pub same_attr : (P : PlainPolicy) (side : Side) (a b : Bytes) (i : ℕ) → attr_position P side a ≡ Some i → attr_position P side b ≡ Some i → a ≡ b
same_attr P side a b i e f =
    let both = both_pass (λ d. bytes_eq a d.name) (λ d. bytes_eq b d.name) (attrs_of P side) i e f in
    same_name a both.0.name both.1 ∙ sym (same_name b both.0.name both.2)

-- ---- entities have cells of their own

-- an entity behind the others
push_by : (es : List (Bytes × ℕ)) (name n : Bytes) (f : ℕ) (b : Bool) (o : Option ℕ) → lookup (bytes_eq name) es ≡ None → bytes_eq n name ≡ b → lookup (bytes_eq n) es ≡ o
    → lookup (bytes_eq n) (es ++ (name, f) ∷ []) ≡ cond b (Some f) o
push_by es name n f true o new is found =
    let none : lookup (bytes_eq n) es ≡ None = subst (λ (m : Bytes). lookup (bytes_eq m) es ≡ None) (sym (same_name n name is)) new in
    found_new (bytes_eq n) es (name, f) none ∙ ap (λ b. cond b (Some f) None) is
push_by es name n f false None new is found = found_new (bytes_eq n) es (name, f) found ∙ ap (λ b. cond b (Some f) None) is
push_by es name n f false (Some g) new is found = found_still (bytes_eq n) es (name, f) g found

pub first_cell-with_entity : (P : PlainPolicy) (t : Tables) (s side : Side) (name n : Bytes) → first_cell t s name ≡ None
    → first_cell (with_entity P t s name) side n ≡ cond (same_side side s && bytes_eq n name) (Some (length t.cells)) (first_cell t side n)
first_cell-with_entity P t sides.Subject sides.Subject name n new = push_by t.subjects name n (length t.cells) (bytes_eq n name) (lookup (bytes_eq n) t.subjects) new refl refl
first_cell-with_entity P t sides.Object sides.Object name n new = push_by t.objects name n (length t.cells) (bytes_eq n name) (lookup (bytes_eq n) t.objects) new refl refl
first_cell-with_entity P t sides.Subject sides.Object name n new = refl
first_cell-with_entity P t sides.Object sides.Subject name n new = refl

pub cells-with_entity : (P : PlainPolicy) (t : Tables) (s : Side) (name : Bytes) → (with_entity P t s name).cells ≡ t.cells ++ defaults_of P s
cells-with_entity P t sides.Subject name = refl
cells-with_entity P t sides.Object name = refl

more_cells : (P : PlainPolicy) (t : Tables) (s : Side) (name : Bytes) → length (with_entity P t s name).cells ≡ length t.cells + width P s
more_cells P t s name = ap length (cells-with_entity P t s name) ∙ length-append t.cells (defaults_of P s) ∙ ap (λ n. length t.cells + n) (length-map (attrs_of P s) (λ d. d.start))

pub same_sides : (s t : Side) → same_side s t ≡ true → s ≡ t
same_sides sides.Subject sides.Subject e = refl
same_sides sides.Object sides.Object e = refl
same_sides sides.Subject sides.Object e = absurd cc
same_sides sides.Object sides.Subject e = absurd cc

-- who is found after an entity came
new_or_old : (P : PlainPolicy) (t : Tables) (s side : Side) (name n : Bytes) (f : ℕ) (b : Bool) → (same_side side s && bytes_eq n name) ≡ b
    → cond b (Some (length t.cells)) (first_cell t side n) ≡ Some f
    → ((side ≡ s) × (n ≡ name) × (f ≡ length t.cells)) ⊎ (first_cell t side n ≡ Some f)
new_or_old P t s side name n f true is e =
    let both = and_parts (same_side side s) (bytes_eq n name) is in
    inl (same_sides side s both.0, same_name n name both.1, sym (same_Some (length t.cells) f e))
new_or_old P t s side name n f false is e = inr e

found_after : (P : PlainPolicy) (t : Tables) (s side : Side) (name n : Bytes) (f : ℕ) → first_cell t s name ≡ None → first_cell (with_entity P t s name) side n ≡ Some f
    → ((side ≡ s) × (n ≡ name) × (f ≡ length t.cells)) ⊎ (first_cell t side n ≡ Some f)
found_after P t s side name n f new e = new_or_old P t s side name n f (same_side side s && bytes_eq n name) refl (sym (first_cell-with_entity P t s side name n new) ∙ e)

within_after : (P : PlainPolicy) (t : Tables) (s side : Side) (name n : Bytes) (f : ℕ) → HaveOwnCells P t
    → ((side ≡ s) × (n ≡ name) × (f ≡ length t.cells)) ⊎ (first_cell t side n ≡ Some f) → f + width P side ≤ length (with_entity P t s name).cells
within_after P t s side name n f h (inl new) = let same : width P side ≡ width P s = ap (width P) new.0 in omega (arith, more_cells P t s name, new.2)
within_after P t s side name n f h (inr old) = omega (arith, more_cells P t s name, h.within side n f old)

apart_after : (P : PlainPolicy) (t : Tables) (s : Side) (name : Bytes) → HaveOwnCells P t → (side side' : Side) (n n' : Bytes) (f f' : ℕ)
    → ((side ≡ s) × (n ≡ name) × (f ≡ length t.cells)) ⊎ (first_cell t side n ≡ Some f)
    → ((side' ≡ s) × (n' ≡ name) × (f' ≡ length t.cells)) ⊎ (first_cell t side' n' ≡ Some f')
    → ((side ≡ side') × (n ≡ n')) ⊎ ((f + width P side ≤ f') ⊎ (f' + width P side' ≤ f))
apart_after P t s name h side side' n n' f f' (inl a) (inl b) = inl (a.0 ∙ sym b.0, a.1 ∙ sym b.1)
apart_after P t s name h side side' n n' f f' (inl a) (inr b) = inr (inr (omega (arith, a.2, h.within side' n' f' b)))
apart_after P t s name h side side' n n' f f' (inr a) (inl b) = inr (inl (omega (arith, b.2, h.within side n f a)))
apart_after P t s name h side side' n n' f f' (inr a) (inr b) = h.apart side side' n n' f f' a b

pub own_cells-with_entity : (P : PlainPolicy) (t : Tables) (s : Side) (name : Bytes) → first_cell t s name ≡ None → HaveOwnCells P t → HaveOwnCells P (with_entity P t s name)
own_cells-with_entity P t s name new h = record {
  within = λ side n f e. within_after P t s side name n f h (found_after P t s side name n f new e);
  apart = λ side side' n n' f f' e e'. apart_after P t s name h side side' n n' f f' (found_after P t s side name n f new e) (found_after P t s side' name n' f' new e');
}

-- a write leaves whose the cells are
pub first_cell-with_cell : (t : Tables) (cell : ℕ) (v : Value) (side : Side) (name : Bytes) → first_cell (with_cell t cell v) side name ≡ first_cell t side name
first_cell-with_cell t cell v sides.Subject name = refl
first_cell-with_cell t cell v sides.Object name = refl

pub own_cells-with_cell : (P : PlainPolicy) (t : Tables) (cell : ℕ) (v : Value) → HaveOwnCells P t → HaveOwnCells P (with_cell t cell v)
own_cells-with_cell P t cell v h = record {
  within = λ side n f e. omega (arith, length-set t.cells cell v, h.within side n f (sym (first_cell-with_cell t cell v side n) ∙ e));
  apart = λ side side' n n' f f' e e'.
      h.apart side side' n n' f f' (sym (first_cell-with_cell t cell v side n) ∙ e) (sym (first_cell-with_cell t cell v side' n') ∙ e');
}

-- ---- which cell is whose

-- the entity's first cell, and the attribute's place, of a cell
pub record IsCell (P : PlainPolicy) (t : Tables) (side : Side) (name attr : Bytes) (cell : ℕ) : Type 0 where
  pub first_one : ℕ
  pub place : ℕ
  pub first_is : first_cell t side name ≡ Some first_one
  pub place_is : attr_position P side attr ≡ Some place
  pub sum : cell ≡ first_one + place
  pub narrow : place < width P side

parts_by : (P : PlainPolicy) (t : Tables) (side : Side) (name attr : Bytes) (cell : ℕ) (f p : Option ℕ) → first_cell t side name ≡ f → attr_position P side attr ≡ p
    → option_and_then (λ f. option_map (λ place. f + place) p) f ≡ Some cell → IsCell P t side name attr cell
parts_by P t side name attr cell None p f_is p_is e = absurd cc
parts_by P t side name attr cell (Some f) None f_is p_is e = absurd cc
parts_by P t side name attr cell (Some f) (Some p) f_is p_is e = record {
  first_one = f;
  place = p;
  first_is = f_is;
  place_is = p_is;
  sum = sym (same_Some (f + p) cell e);
  narrow = place_within (λ d. bytes_eq attr d.name) (attrs_of P side) p p_is;
}

pub parts_of_cell : (P : PlainPolicy) (t : Tables) (side : Side) (name attr : Bytes) (cell : ℕ) → cell_of P t side name attr ≡ Some cell → IsCell P t side name attr cell
parts_of_cell P t side name attr cell e =
    parts_by P t side name attr cell (first_cell t side name) (attr_position P side attr) refl refl (sym (cell_of-first_cell P t side name attr) ∙ e)

pub cell_within : (P : PlainPolicy) (t : Tables) (side : Side) (name attr : Bytes) (cell : ℕ) → HaveOwnCells P t → IsCell P t side name attr cell → cell < length t.cells
cell_within P t side name attr cell h c = omega (arith, h.within side name c.first_one c.first_is, c.sum, c.narrow)

whose_by : (P : PlainPolicy) (t : Tables) (side side' : Side) (name name' attr attr' : Bytes) (cell : ℕ)
    → (c : IsCell P t side name attr cell) → (d : IsCell P t side' name' attr' cell)
    → ((side ≡ side') × (name ≡ name')) ⊎ ((c.first_one + width P side ≤ d.first_one) ⊎ (d.first_one + width P side' ≤ c.first_one))
    → (side ≡ side') × (name ≡ name') × (attr ≡ attr')
whose_by P t side side' name name' attr attr' cell c d (inr (inl le)) = absurd (omega (arith, c.sum, d.sum, c.narrow, le))
whose_by P t side side' name name' attr attr' cell c d (inr (inr le)) = absurd (omega (arith, c.sum, d.sum, d.narrow, le))
whose_by P t side side' name name' attr attr' cell c d (inl same) =
    let same_first : Some c.first_one ≡ Some d.first_one =
    sym c.first_is ∙ ap (λ (s : Side). first_cell t s name) same.0 ∙ ap (first_cell t side') same.1 ∙ d.first_is in
    let firsts : c.first_one ≡ d.first_one = same_Some c.first_one d.first_one same_first in
    let places : c.place ≡ d.place = omega (arith, c.sum, d.sum, firsts) in
    let there : attr_position P side' attr ≡ Some c.place = subst (λ (s : Side). attr_position P s attr ≡ Some c.place) same.0 c.place_is in
    (same.0, same.1, same_attr P side' attr attr' d.place (there ∙ ap (λ (n : ℕ). Some n) places) d.place_is)

-- a cell is that of one attribute of one entity
pub whose_cell : (P : PlainPolicy) (t : Tables) → HaveOwnCells P t → (side side' : Side) (name name' attr attr' : Bytes) (cell : ℕ)
    → cell_of P t side name attr ≡ Some cell → cell_of P t side' name' attr' ≡ Some cell → (side ≡ side') × (name ≡ name') × (attr ≡ attr')
whose_cell P t h side side' name name' attr attr' cell e e' =
    let c = parts_of_cell P t side name attr cell e in
    let d = parts_of_cell P t side' name' attr' cell e' in
    whose_by P t side side' name name' attr attr' cell c d (h.apart side side' name name' c.first_one d.first_one c.first_is d.first_is)
