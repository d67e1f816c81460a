-- Places among declarations, and the cells at them.
use Rattle.std.proofs.Common.{◌≡◌, ◌∙◌, Contains, ◌<◌, ◌+◌, ℕ, Bool, true, false, ◌&&◌, refl, sym, ap, List, [], ◌∷◌, length, filter, find, position, slice_get, get_or, Option, Some, None, is_some, cond, option_map, option_and_then, option_copied, IfSome, IsSomeAnd, Bor, nat_lt, unwrap_or, subst, arith}
use Rattle.std.specs.List.{position_or_len}
use Rattle.std.specs.Slice.{IsItemAt}
use Rattle.std.proofs.lemmas.Bool.{ltb-true, ltb-false, lt-ltb}
use Rattle.std.proofs.lemmas.List.Folds.{find_at}
use Rattle.std.proofs.lemmas.Option.{slice_get_within, slice_get-get_or, slice_get_past, get_or_from_slice_get}
use Rattle.std.specs.Str.{bytes_eq}
use Rattle.ucon_base.specs.declared.value.Side.{Side}
use Rattle.ucon_base.specs.declared.value.Side.TheVariants as sides
use Rattle.ucon_base.specs.declared.value.Value.{Value}
use Rattle.ucon_model.specs.Plain.{Bytes, PlainPolicy}
use Rattle.ucon_model.specs.Readings.{same_side, declared_attr, attrs_of, attr_position}
use Rattle.ucon_state.specs.Tables.{TablesOf, entities_of, cell_at}
use Rattle.ucon_state.specs.Sound.{IsSound, CellsAreThere}

-- a place is that of the first item that passes, and it is within the list
pub record IsPlace {X : Type 0} (p : X → Bool) (xs : List X) (i : ℕ) : Type 0 where
  pub place : position p xs ≡ Some i
  pub within : i < length xs

pub found_place : {X : Type 0} (p : X → Bool) (xs : List X) (Q : X → Type 0) → IsSomeAnd (find p xs) Q → IsPlace p xs (position_or_len p xs)
found_place {X} p xs Q there = by (find p xs) refl there
  where
    by : (o : Option X) → find p xs ≡ o → IsSomeAnd o Q → IsPlace p xs (position_or_len p xs)
    by None e h = absurd h
    by (Some x) e h =
        let within = slice_get_within xs (position_or_len p xs) x (sym (find_at p xs) ∙ e) in
        record { place = ap (λ b. cond b (Some (position_or_len p xs)) None) (lt-ltb _ _ within); within = within }

pub position_within : {X : Type 0} (p : X → Bool) (xs : List X) (i : ℕ) → position p xs ≡ Some i → i < length xs
position_within p xs i at = by (nat_lt (position_or_len p xs) (length xs)) refl at
  where
    by : (b : Bool) → nat_lt (position_or_len p xs) (length xs) ≡ b → cond b (Some (position_or_len p xs)) None ≡ Some i → i < length xs
    by true e at = subst (λ n. n < length xs) (ap (λ o. unwrap_or o 0) at) (ltb-true _ _ e)
    by false e at = cc

-- within a list there is an item
pub item_at : {X : Type 0} (xs : List X) (i : ℕ) → i < length xs → (x : X) × (slice_get xs i ≡ Some x)
item_at [] i within = absurd (omega (arith, within))
item_at (x ∷ xs) i within = (get_or (x ∷ xs) i x, slice_get-get_or (x ∷ xs) i x within)

-- there is a place exactly where an item is found
some_place : {X : Type 0} (p : X → Bool) (xs : List X) → is_some (position p xs) ≡ is_some (find p xs)
some_place p xs = by (nat_lt (position_or_len p xs) (length xs)) refl
  where
    by : (b : Bool) → nat_lt (position_or_len p xs) (length xs) ≡ b → is_some (cond b (Some (position_or_len p xs)) None) ≡ is_some (find p xs)
    by true e = sym (ap is_some (find_at p xs ∙ (item_at xs _ (ltb-true _ _ e)).1))
    by false e = sym (ap is_some (find_at p xs ∙ slice_get_past xs _ (ltb-false _ _ e)))

-- what is found among the items of a sort
find_filter : {X : Type 0} (s p : X → Bool) (xs : List X) → find p (filter s xs) ≡ find (λ x. s x && p x) xs
find_filter s p [] = refl
find_filter s p (x ∷ xs) = by (s x) (find_filter s p xs)
  where
    by : (b : Bool) → find p (filter s xs) ≡ find (λ x. s x && p x) xs → find p (cond b (x ∷ filter s xs) (filter s xs)) ≡ cond (b && p x) (Some x) (find (λ x. s x && p x) xs)
    by true rest = ap (λ r. cond (p x) (Some x) r) rest
    by false rest = rest

-- an attribute has a place exactly where it is declared
pub place_where_declared : (P : PlainPolicy) (side : Side) (attr : Bytes) → is_some (attr_position P side attr) ≡ is_some (declared_attr P.attrs side attr)
place_where_declared P side attr =
    some_place (λ d. bytes_eq attr d.name) (attrs_of P side) ∙ ap is_some (find_filter (λ d. same_side side d.side) (λ d. bytes_eq attr d.name) P.attrs)

-- an entity that is there has a cell for each attribute that is declared for its side
pub cell_where_declared : {S : Type 0} (P : PlainPolicy) (t : TablesOf S) (side : Side) (entity : ℕ) (attr : Bytes) → entity < length (entities_of side t)
    → is_some (cell_at P t side entity attr) ≡ is_some (declared_attr P.attrs side attr)
cell_where_declared P t side entity attr within =
    let e = item_at (entities_of side t) entity within in
    ap (λ o. is_some (option_and_then (λ e. option_map (λ place. e.1 + place) (attr_position P side attr)) o)) e.1
    ∙ by e.0.1 (attr_position P side attr) ∙ place_where_declared P side attr
  where
    by : (first : ℕ) (o : Option ℕ) → is_some (option_map (λ place. first + place) o) ≡ is_some o
    by first None = refl
    by first (Some place) = refl

-- the cell of an attribute by the entity's first cell and the attribute's place
pub cell_by_parts : {S : Type 0} (P : PlainPolicy) (t : TablesOf S) (side : Side) (entity : ℕ) (attr : Bytes) (first place : Option ℕ)
    → first ≡ option_map (λ e. e.1) (slice_get (entities_of side t) entity) → place ≡ attr_position P side attr
    → cell_at P t side entity attr ≡ option_and_then (λ f. option_map (λ p. f + p) place) first
cell_by_parts P t side entity attr first place is_first is_place =
    by (slice_get (entities_of side t) entity)
    ∙ (λ j. option_and_then (λ f. option_map (λ p. f + p) (sym is_place j)) (sym is_first j))
  where
    by : (o : Option (Bytes × ℕ)) → option_and_then (λ e. option_map (λ place. e.1 + place) (attr_position P side attr)) o ≡ option_and_then (λ f. option_map (λ p. f + p) (attr_position P side attr)) (option_map (λ e. e.1) o)
    by None = refl
    by (Some e) = refl

-- what is lent at a place of a list stands there
pub read_at : {X : Type 0} (xs : List X) (i : ℕ) (r : Option (Bor X)) → IsItemAt xs i r → option_copied r ≡ slice_get xs i
read_at xs i None read = sym (slice_get_past xs i read.3)
read_at xs i (Some x) read = sym (slice_get-get_or xs i x.now read.3.0 ∙ ap Some (sym read.1))

-- a value that stands so far behind an entity's first cell is that of each attribute of this position
pub value_by_parts : {S : Type 0} (P : PlainPolicy) (t : TablesOf S) (side : Side) (entity first position cell : ℕ) (o : Option Value)
    → Some first ≡ option_map (λ e. e.1) (slice_get (entities_of side t) entity) → first + position ≡ cell → o ≡ slice_get t.cells cell
    → IfSome o (λ v. (attr : Bytes) → attr_position P side attr ≡ Some position → option_and_then (slice_get t.cells) (cell_at P t side entity attr) ≡ Some v)
value_by_parts P t side entity first position cell None is_first sum read = tt
value_by_parts P t side entity first position cell (Some v) is_first sum read = λ attr at.
    ap (option_and_then (slice_get t.cells)) (cell_by_parts P t side entity attr (Some first) (Some position) is_first (sym at))
    ∙ ap (slice_get t.cells) sum ∙ sym read

-- and it is there
pub cell_is_there : {S : Type 0} (P : PlainPolicy) (t : TablesOf S) (side : Side) (entity : ℕ) (attr : Bytes) (first place : ℕ) → IsSound P t
    → option_map (λ e. e.1) (slice_get (entities_of side t) entity) ≡ Some first → attr_position P side attr ≡ Some place → first + place < length t.cells
cell_is_there P t side entity attr first place s is_first is_place = by (slice_get (entities_of side t) entity) refl is_first
  where
    cells : (side : Side) → CellsAreThere P t side
    cells sides.Subject = s.subject_cells
    cells sides.Object = s.object_cells

    by : (o : Option (Bytes × ℕ)) → slice_get (entities_of side t) entity ≡ o → option_map (λ e. e.1) o ≡ Some first → first + place < length t.cells
    by None at is = cc
    by (Some e) at is =
        let there : Contains (entities_of side t) e = (entity, slice_get_within (entities_of side t) entity e at, get_or_from_slice_get (entities_of side t) entity e e at) in
        let same : e.1 ≡ first = ap (λ o. unwrap_or o 0) is in
        omega (arith, cells side e there, position_within (λ d. bytes_eq attr d.name) (attrs_of P side) place is_place, same)

-- the cell of an attribute is there
pub cell_in_range : {S : Type 0} (P : PlainPolicy) (t : TablesOf S) (side : Side) (entity : ℕ) (attr : Bytes) (cell : ℕ) → IsSound P t
    → cell_at P t side entity attr ≡ Some cell → cell < length t.cells
cell_in_range P t side entity attr cell s is = by (slice_get (entities_of side t) entity) refl (attr_position P side attr) refl is
  where
    by : (o : Option (Bytes × ℕ)) → slice_get (entities_of side t) entity ≡ o → (p : Option ℕ) → attr_position P side attr ≡ p
        → option_and_then (λ e. option_map (λ place. e.1 + place) p) o ≡ Some cell → cell < length t.cells
    by None at p is_place is = cc
    by (Some e) at None is_place is = cc
    by (Some e) at (Some place) is_place is =
        subst (λ n. n < length t.cells) (ap (λ o. unwrap_or o 0) is)
        (cell_is_there P t side entity attr e.1 place s (ap (option_map (λ e. e.1)) at) is_place)
