-- Entities are laid one after the other.
use Rattle.std.proofs.Common.{◌≡◌, ◌∙◌, ◌<◌, ◌≤◌, ◌+◌, ℕ, zero, suc, Bool, true, false, cond, refl, sym, ap, List, [], ◌∷◌, ◌++◌, length, map, filter, drop, position, slice_get, Option, Some, None, option_map, arith, append_assoc}
use Rattle.std.proofs.lemmas.List.{append-nil, drop_all, length-append, length-map}
use Rattle.std.proofs.lemmas.Option.{get_or_from_slice_get, slice_get_within}
use Rattle.indexmap.specs.IndexMap.{insert_entry}
use Rattle.std.specs.Str.{bytes_eq}
use Rattle.ucon_base.specs.declared.value.Side.{Side}
use Rattle.ucon_base.specs.declared.value.Value.{Value}
use Rattle.ucon_model.specs.declared.policy.AttrDecl.{AttrDecl}
use Rattle.ucon_model.specs.Plain.{Bytes, PlainPolicy}
use Rattle.ucon_model.specs.Readings.{attrs_of, same_side}
use Rattle.ucon_state.specs.Applied.{kept_value, kept_cells, all_kept_cells, laid_from}
use Rattle.ucon_state.specs.Sound.{CellsAreThere}
use Rattle.ucon_state.specs.Stored.{AreDistinct}
use Rattle.ucon_state.specs.Tables.{TablesOf, entities_of, width}
use Rattle.ucon_state.proofs.Lists.{inserted_last}
use Rattle.ucon_state.proofs.Following.Amending.{names-laid, length-laid}
use Rattle.ucon_state.proofs.Following.Places.{position-cons, place_within}

-- from a place on stand what stands there and what comes behind it
drop_next : {X : Type 0} (xs : List X) (i : ℕ) (x : X) → slice_get xs i ≡ Some x → drop i xs ≡ x ∷ drop (suc i) xs
drop_next [] i x at = absurd cc
drop_next (y ∷ ys) zero x at = let same : y ≡ x = cc in ap (λ z. z ∷ ys) same
drop_next (y ∷ ys) (suc i) x at = drop_next ys i x at

pub drop_there : {X : Type 0} (xs : List X) (i : ℕ) (x : X) → slice_get xs i ≡ Some x → drop i xs ≡ x ∷ drop (i + 1) xs
drop_there xs i x at =
    let next : suc i ≡ i + 1 = omega arith in
    drop_next xs i x at ∙ ap (λ (n : ℕ). x ∷ drop n xs) next

pub laid_step : (done whole es : List (Bytes × ℕ)) (place w i : ℕ) (e : Bytes × ℕ) → slice_get es i ≡ Some e → done ++ laid_from place w (drop i es) ≡ whole
    → (done ++ (e.0, place) ∷ []) ++ laid_from (place + w) w (drop (i + 1) es) ≡ whole
laid_step done whole es place w i e at is =
    append_assoc done ((e.0, place) ∷ []) (laid_from (place + w) w (drop (i + 1) es))
    ∙ ap (λ (rest : List (Bytes × ℕ)). done ++ laid_from place w rest) (sym (drop_there es i e at)) ∙ is

pub cells_step : (P Q : PlainPolicy) (old : List Value) (side : Side) (cells whole : List Value) (es : List (Bytes × ℕ)) (i : ℕ) (e : Bytes × ℕ) → slice_get es i ≡ Some e
    → cells ++ all_kept_cells P Q old side (drop i es) ≡ whole → (cells ++ kept_cells P Q old side e.1) ++ all_kept_cells P Q old side (drop (i + 1) es) ≡ whole
cells_step P Q old side cells whole es i e at is =
    append_assoc cells (kept_cells P Q old side e.1) (all_kept_cells P Q old side (drop (i + 1) es))
    ∙ ap (λ (rest : List (Bytes × ℕ)). cells ++ all_kept_cells P Q old side rest) (sym (drop_there es i e at)) ∙ is

-- ---- a name that isn't laid yet

still_placed : (b : Bool) (i : ℕ) (o p : Option ℕ) → ((j : ℕ) → o ≡ Some j → p ≡ Some j) → cond b (Some 0) (option_map suc o) ≡ Some i → cond b (Some 0) (option_map suc p) ≡ Some i
still_placed true i o p rest at = at
still_placed false i None p rest at = absurd cc
still_placed false i (Some j) p rest at = ap (option_map suc) (rest j refl) ∙ at

placed_in_front : (p : Bytes → Bool) (front rest : List Bytes) (i : ℕ) → position p front ≡ Some i → position p (front ++ rest) ≡ Some i
placed_in_front p [] rest i at = absurd cc
placed_in_front p (x ∷ xs) rest i at =
    position-cons p x (xs ++ rest)
    ∙ still_placed (p x) i (position p xs) (position p (xs ++ rest)) (λ j is. placed_in_front p xs rest j is) (sym (position-cons p x xs) ∙ at)

within_front : (p : Bytes → Bool) (front : List Bytes) (i : ℕ) → position p front ≡ Some i → i < length front
within_front p front i at = place_within p front i at

not_in_front : (name : Bytes) (front rest : List Bytes) (o : Option ℕ) → position (bytes_eq name) front ≡ o → position (bytes_eq name) (front ++ rest) ≡ Some (length front) → o ≡ None
not_in_front name front rest None is at = refl
not_in_front name front rest (Some j) is at =
    let there : Some j ≡ Some (length front) = sym (placed_in_front (bytes_eq name) front rest j is) ∙ at in
    let same : j ≡ length front = cc in
    absurd (omega (arith, within_front (bytes_eq name) front j is, same))

map-append : (xs ys : List (Bytes × ℕ)) → map (λ e. e.0) (xs ++ ys) ≡ map (λ e. e.0) xs ++ map (λ e. e.0) ys
map-append [] ys = refl
map-append (x ∷ xs) ys = ap (λ (names : List Bytes). x.0 ∷ names) (map-append xs ys)

there_by_place : (es : List (Bytes × ℕ)) (i : ℕ) (e : Bytes × ℕ) → slice_get es i ≡ Some e → slice_get (map (λ d. d.0) es) i ≡ Some e.0
there_by_place [] i e at = absurd cc
there_by_place (d ∷ es) zero e at = let same : d ≡ e = cc in ap (λ (x : Bytes × ℕ). Some x.0) same
there_by_place (d ∷ es) (suc i) e at = there_by_place es i e at

rest_length : {X : Type 0} (xs : List X) (i : ℕ) → i ≤ length xs → i + length (drop i xs) ≡ length xs
rest_length xs zero le = omega arith
rest_length [] (suc i) le = absurd (omega (arith, le))
rest_length (x ∷ xs) (suc i) le = omega (arith, rest_length xs i (omega (arith, le)))

-- the name of the entity that comes next isn't among those that are laid
pub not_laid : (done es : List (Bytes × ℕ)) (place w first i : ℕ) (e : Bytes × ℕ) → AreDistinct es → slice_get es i ≡ Some e → i < length es
    → done ++ laid_from place w (drop i es) ≡ laid_from first w es → position (bytes_eq e.0) (map (λ d. d.0) done) ≡ None
not_laid done es place w first i e differ at lt is =
    let front : List Bytes = map (λ d. d.0) done in
    let rest : List Bytes = map (λ d. d.0) (drop i es) in
    let whole : front ++ rest ≡ map (λ d. d.0) es =
    ap (λ (names : List Bytes). front ++ names) (sym (names-laid place w (drop i es))) ∙ sym (map-append done (laid_from place w (drop i es)))
    ∙ ap (map (λ (d : Bytes × ℕ). d.0)) is ∙ names-laid first w es in
    let many : length done + length (drop i es) ≡ length es =
    omega (arith, length-append done (laid_from place w (drop i es)), ap (λ (xs : List (Bytes × ℕ)). length xs) is, length-laid place w (drop i es), length-laid first w es) in
    let here : length front ≡ i = omega (arith, length-map done (λ (d : Bytes × ℕ). d.0), many, rest_length es i (omega (arith, lt))) in
    let stands : position (bytes_eq e.0) (front ++ rest) ≡ Some (length front) =
    ap (position (bytes_eq e.0)) whole ∙ differ e.0 i (there_by_place es i e at) ∙ ap (λ (n : ℕ). Some n) (sym here) in
    not_in_front e.0 front rest (position (bytes_eq e.0) front) refl stands

-- ---- one entity more

-- the cells of an entity are there
pub cells_of_one : {S : Type 0} (P : PlainPolicy) (t : TablesOf S) (side : Side) (i : ℕ) (e : Bytes × ℕ) → CellsAreThere P t side → slice_get (entities_of side t) i ≡ Some e
    → e.1 + width P side ≤ length t.cells
cells_of_one P t side i e all at = all e (i, slice_get_within (entities_of side t) i e at, get_or_from_slice_get (entities_of side t) i e e at)

module _ (P Q : PlainPolicy) (old : List Value) (side : Side) (es done : List (Bytes × ℕ)) (cells more : List Value) (first i : ℕ) (e : Bytes × ℕ) where
  abbrev its_cells : List Value
  its_cells = kept_cells P Q old side e.1

  abbrev w : ℕ
  w = width Q side

  grown : more ≡ cells ++ its_cells → length more ≡ length cells + w
  grown is =
      ap (λ (vs : List Value). length vs) is ∙ length-append cells its_cells
      ∙ ap (λ (n : ℕ). length cells + n) (length-map (attrs_of Q side) (kept_value P old side e.1))

  pub one_more_laid : AreDistinct es → slice_get es i ≡ Some e → more ≡ cells ++ its_cells → done ++ laid_from (length cells) w (drop i es) ≡ laid_from first w es
      → insert_entry bytes_eq done e.0 (length cells) ++ laid_from (length more) w (drop (i + 1) es) ≡ laid_from first w es
  one_more_laid differ at is laid =
      let none = not_laid done es (length cells) w first i e differ at (slice_get_within es i e at) laid in
      ap (λ (d : List (Bytes × ℕ)). d ++ laid_from (length more) w (drop (i + 1) es)) (inserted_last bytes_eq done e.0 (length cells) none)
      ∙ ap (λ (n : ℕ). (done ++ (e.0, length cells) ∷ []) ++ laid_from n w (drop (i + 1) es)) (grown is)
      ∙ laid_step done (laid_from first w es) es (length cells) w i e at laid

  pub its_cells_added : (whole : List Value) → slice_get es i ≡ Some e → more ≡ cells ++ its_cells → cells ++ all_kept_cells P Q old side (drop i es) ≡ whole
      → more ++ all_kept_cells P Q old side (drop (i + 1) es) ≡ whole
  its_cells_added whole at is kept =
      ap (λ (vs : List Value). vs ++ all_kept_cells P Q old side (drop (i + 1) es)) is ∙ cells_step P Q old side cells whole es i e at kept

pub all_laid : (es done whole : List (Bytes × ℕ)) (place w i : ℕ) → length es ≤ i → done ++ laid_from place w (drop i es) ≡ whole → done ≡ whole
all_laid es done whole place w i past is = sym (append-nil done) ∙ ap (λ (rest : List (Bytes × ℕ)). done ++ laid_from place w rest) (sym (drop_all i es past)) ∙ is

pub all_cells_added : (P Q : PlainPolicy) (old : List Value) (side : Side) (es : List (Bytes × ℕ)) (cells whole : List Value) (i : ℕ) → length es ≤ i
    → cells ++ all_kept_cells P Q old side (drop i es) ≡ whole → cells ≡ whole
all_cells_added P Q old side es cells whole i past is =
    sym (append-nil cells) ∙ ap (λ (rest : List (Bytes × ℕ)). cells ++ all_kept_cells P Q old side rest) (sym (drop_all i es past)) ∙ is

-- ---- declarations of a side

pub filter_one : (side : Side) (f : AttrDecl → Value) (d : AttrDecl) (ds : List AttrDecl)
    → map f (filter (λ d. same_side side d.side) (d ∷ [])) ++ map f (filter (λ d. same_side side d.side) ds) ≡ map f (filter (λ d. same_side side d.side) (d ∷ ds))
filter_one side f d ds = by_side (same_side side d.side)
  where
    by_side : (b : Bool) → map f (cond b (d ∷ []) []) ++ map f (filter (λ d. same_side side d.side) ds) ≡ map f (cond b (d ∷ filter (λ d. same_side side d.side) ds) (filter (λ d. same_side side d.side) ds))
    by_side true = refl
    by_side false = refl

pub of_side_step : (side : Side) (f : AttrDecl → Value) (cells whole : List Value) (ds : List AttrDecl) (i : ℕ) (d : AttrDecl) → slice_get ds i ≡ Some d
    → cells ++ map f (filter (λ d. same_side side d.side) (drop i ds)) ≡ whole
    → (cells ++ map f (filter (λ d. same_side side d.side) (d ∷ []))) ++ map f (filter (λ d. same_side side d.side) (drop (i + 1) ds)) ≡ whole
of_side_step side f cells whole ds i d at is =
    append_assoc cells (map f (filter (λ d. same_side side d.side) (d ∷ []))) (map f (filter (λ d. same_side side d.side) (drop (i + 1) ds)))
    ∙ ap (λ (rest : List Value). cells ++ rest) (filter_one side f d (drop (i + 1) ds))
    ∙ ap (λ (rest : List AttrDecl). cells ++ map f (filter (λ d. same_side side d.side) rest)) (sym (drop_there ds i d at)) ∙ is
