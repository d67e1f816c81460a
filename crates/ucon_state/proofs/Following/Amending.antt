-- The tables under a policy that replaces another: the cells of each entity are laid anew, and what it had is in them.
use Rattle.std.proofs.Common.{◌≡◌, ◌⊎◌, inl, inr, ◌∙◌, sym, ap, subst, ℕ, zero, suc, ◌+◌, ◌<◌, ◌≤◌, Bool, true, false, cond, List, [], ◌∷◌, ◌++◌, length, map, refl, arith, append_assoc}
use Rattle.std.specs.Prelude.{◌&&◌, Option, Some, None, is_some, option_map, option_and_then, unwrap_or, slice_get, position, find}
use Rattle.std.specs.Map.{lookup}
use Rattle.std.specs.Str.{bytes_eq}
use Rattle.std.proofs.lemmas.Bool.{and_parts}
use Rattle.std.proofs.lemmas.List.{length-append, length-map, append-nil}
use Rattle.std.proofs.lemmas.Option.{same_Some, slice_get-map}
use Rattle.ucon_base.specs.declared.value.Side.{Side}
use Rattle.ucon_base.specs.declared.value.Side.TheVariants as sides
use Rattle.ucon_base.specs.declared.value.Value.{Value}
use Rattle.ucon_model.specs.declared.policy.AttrDecl.{AttrDecl}
use Rattle.ucon_model.specs.declared.policy.EnvDecl.{EnvDecl}
use Rattle.ucon_model.specs.Plain.{Bytes, PlainPolicy}
use Rattle.ucon_model.specs.Action.{Trace, amend}
use Rattle.ucon_model.specs.Readings.{in_force, same_side, has_entity, declared_attr, declared_env, attribute, attrs_of, attr_position, env_position, given_attr, given_env}
use Rattle.ucon_state.specs.Tables.{Tables, entities_of, width, first_cell, attribute_in, variable_in}
use Rattle.ucon_state.specs.Applied.{kept_value, kept_cells, all_kept_cells, laid_from, kept_variable, amended}
use Rattle.ucon_state.specs.Following.{KeepsNames, HaveOwnCells, KeepsEntities, KeepsVariables}
use Rattle.ucon_state.proofs.Following.Places.{still_there, added_there, place_within, found_there, placed_where_first}
use Rattle.ucon_state.proofs.Following.Names.{same_name}
use Rattle.ucon_state.proofs.Following.Cells.{from_first, cell_of-first_cell, declared_there, place_where_declared}

-- ---- entities that are laid

pub names-laid : (first w : ℕ) (es : List (Bytes × ℕ)) → map (λ e. e.0) (laid_from first w es) ≡ map (λ e. e.0) es
names-laid first w [] = refl
names-laid first w (e ∷ es) = ap (λ (names : List Bytes). e.0 ∷ names) (names-laid (first + w) w es)

pub length-laid : (first w : ℕ) (es : List (Bytes × ℕ)) → length (laid_from first w es) ≡ length es
length-laid first w [] = refl
length-laid first w (e ∷ es) = omega (arith, length-laid (first + w) w es)

found_alike : (b : Bool) (x y : ℕ) (o p : Option ℕ) → is_some o ≡ is_some p → is_some (cond b (Some x) o) ≡ is_some (cond b (Some y) p)
found_alike true x y o p same = refl
found_alike false x y o p same = same

there-laid : (name : Bytes) (first w : ℕ) (es : List (Bytes × ℕ)) → is_some (lookup (bytes_eq name) (laid_from first w es)) ≡ is_some (lookup (bytes_eq name) es)
there-laid name first w [] = refl
there-laid name first w (e ∷ es) =
    found_alike (bytes_eq name e.0) first e.1 (lookup (bytes_eq name) (laid_from (first + w) w es)) (lookup (bytes_eq name) es) (there-laid name (first + w) w es)

abbrev StandsAt : List Bytes → Bytes → ℕ → Type 0
StandsAt names e i = slice_get names i ≡ Some e → position (bytes_eq e) names ≡ Some i

keeps_names-laid : (es : List (Bytes × ℕ)) (side : Side) (T : Trace) (first w : ℕ) → KeepsNames es side T → KeepsNames (laid_from first w es) side T
keeps_names-laid es side T first w h = record {
  names = names-laid first w es ∙ h.names;
  count = length-laid first w es ∙ h.count;
  there = λ e. there-laid e first w es ∙ h.there e;
  number = λ e i. subst (λ (names : List Bytes). StandsAt names e i) (sym (names-laid first w es)) (h.number e i);
}

-- how many cells these entities have, so many each
abbrev pub room : ℕ → List (Bytes × ℕ) → ℕ
room w [] = 0
room w (e ∷ es) = w + room w es

within_by : (b : Bool) (first w f r : ℕ) (o : Option ℕ) → (o ≡ Some f → (first + w ≤ f) × (f + w ≤ first + w + r)) → cond b (Some first) o ≡ Some f
    → (first ≤ f) × (f + w ≤ first + (w + r))
within_by true first w f r o rest is = let same : first ≡ f = same_Some first f is in (omega (arith, same), omega (arith, same))
within_by false first w f r o rest is = let later = rest is in (omega (arith, later.0), omega (arith, later.1))

within_laid : (name : Bytes) (first w f : ℕ) (es : List (Bytes × ℕ)) → lookup (bytes_eq name) (laid_from first w es) ≡ Some f → (first ≤ f) × (f + w ≤ first + room w es)
within_laid name first w f [] is = absurd cc
within_laid name first w f (e ∷ es) is =
    within_by (bytes_eq name e.0) first w f (room w es) (lookup (bytes_eq name) (laid_from (first + w) w es)) (within_laid name (first + w) w f es) is

abbrev AreApart : ℕ → Bytes → Bytes → ℕ → ℕ → Type 0
AreApart w name name' f f' = (name ≡ name') ⊎ ((f + w ≤ f') ⊎ (f' + w ≤ f))

apart_by : (name name' : Bytes) (b b' : Bool) (first w f f' : ℕ) (o o' : Option ℕ) → (b ≡ true → b' ≡ true → name ≡ name') → (o ≡ Some f → first + w ≤ f)
    → (o' ≡ Some f' → first + w ≤ f') → (o ≡ Some f → o' ≡ Some f' → AreApart w name name' f f')
    → cond b (Some first) o ≡ Some f → cond b' (Some first) o' ≡ Some f' → AreApart w name name' f f'
apart_by name name' true true first w f f' o o' both low low' rest is is' = inl (both refl refl)
apart_by name name' true false first w f f' o o' both low low' rest is is' = inr (inl (omega (arith, same_Some first f is, low' is')))
apart_by name name' false true first w f f' o o' both low low' rest is is' = inr (inr (omega (arith, same_Some first f' is', low is)))
apart_by name name' false false first w f f' o o' both low low' rest is is' = rest is is'

apart_laid : (name name' : Bytes) (first w f f' : ℕ) (es : List (Bytes × ℕ)) → lookup (bytes_eq name) (laid_from first w es) ≡ Some f
    → lookup (bytes_eq name') (laid_from first w es) ≡ Some f' → AreApart w name name' f f'
apart_laid name name' first w f f' [] is is' = absurd cc
apart_laid name name' first w f f' (e ∷ es) is is' =
    apart_by name name' (bytes_eq name e.0) (bytes_eq name' e.0) first w f f' (lookup (bytes_eq name) (laid_from (first + w) w es)) (lookup (bytes_eq name') (laid_from (first + w) w es))
    (λ here here'. same_name name e.0 here ∙ sym (same_name name' e.0 here'))
    (λ later. (within_laid name (first + w) w f es later).0) (λ later. (within_laid name' (first + w) w f' es later).0)
    (apart_laid name name' (first + w) w f f' es) is is'

-- ---- the cells that are laid

module _ (P Q : PlainPolicy) (t : Tables) where
  abbrev cells_of : Side → List (Bytes × ℕ) → List Value
  cells_of side es = all_kept_cells P Q t.cells side es

  width_kept : (side : Side) (g : ℕ) → length (kept_cells P Q t.cells side g) ≡ width Q side
  width_kept side g = length-map (attrs_of Q side) (kept_value P t.cells side g)

  pub room_kept : (side : Side) (es : List (Bytes × ℕ)) → length (cells_of side es) ≡ room (width Q side) es
  room_kept side [] = refl
  room_kept side (e ∷ es) =
      length-append (kept_cells P Q t.cells side e.1) (cells_of side es) ∙ omega (arith, width_kept side e.1, room_kept side es)

  abbrev Reads : Side → Bytes → List (Bytes × ℕ) → List Value → List Value → ℕ → ℕ → ℕ → Type 0
  Reads side name es front back f g place =
      lookup (bytes_eq name) es ≡ Some g → lookup (bytes_eq name) (laid_from (length front) (width Q side) es) ≡ Some f
      → slice_get (front ++ (cells_of side es ++ back)) (f + place) ≡ slice_get (kept_cells P Q t.cells side g) place

  value_by : (side : Side) (name : Bytes) (e : Bytes × ℕ) (es : List (Bytes × ℕ)) (front back : List Value) (f g place : ℕ) (b : Bool) → place < width Q side
      → Reads side name es (front ++ kept_cells P Q t.cells side e.1) back f g place
      → cond b (Some e.1) (lookup (bytes_eq name) es) ≡ Some g
      → cond b (Some (length front)) (lookup (bytes_eq name) (laid_from (length front + width Q side) (width Q side) es)) ≡ Some f
      → slice_get (front ++ ((kept_cells P Q t.cells side e.1 ++ cells_of side es) ++ back)) (f + place) ≡ slice_get (kept_cells P Q t.cells side g) place
  value_by side name e es front back f g place true narrow rest old new =
      let block : List Value = kept_cells P Q t.cells side e.1 in
      let here : length front ≡ f = same_Some (length front) f new in
      let its : e.1 ≡ g = same_Some e.1 g old in
      added_there front ((block ++ cells_of side es) ++ back) (f + place) place (omega (arith, here))
      ∙ ap (λ (vs : List Value). slice_get vs place) (append_assoc block (cells_of side es) back)
      ∙ still_there block (cells_of side es ++ back) place (omega (arith, narrow, width_kept side e.1))
      ∙ ap (λ (g : ℕ). slice_get (kept_cells P Q t.cells side g) place) its
  value_by side name e es front back f g place false narrow rest old new =
      let block : List Value = kept_cells P Q t.cells side e.1 in
      let longer : length front + width Q side ≡ length (front ++ block) = omega (arith, length-append front block, width_kept side e.1) in
      ap (λ (vs : List Value). slice_get (front ++ vs) (f + place)) (append_assoc block (cells_of side es) back)
      ∙ ap (λ (vs : List Value). slice_get vs (f + place)) (sym (append_assoc front block (cells_of side es ++ back)))
      ∙ rest old (subst (λ (n : ℕ). lookup (bytes_eq name) (laid_from n (width Q side) es) ≡ Some f) longer new)

  reads_laid : (side : Side) (name : Bytes) (es : List (Bytes × ℕ)) (front back : List Value) (f g place : ℕ) → place < width Q side → Reads side name es front back f g place
  reads_laid side name [] front back f g place narrow = λ old new. absurd cc
  reads_laid side name (e ∷ es) front back f g place narrow =
      value_by side name e es front back f g place (bytes_eq name e.0) narrow (reads_laid side name es (front ++ kept_cells P Q t.cells side e.1) back f g place narrow)

  reads_amended : (side : Side) (name : Bytes) (f g place : ℕ) → place < width Q side → first_cell t side name ≡ Some g → first_cell (amended P Q t) side name ≡ Some f
      → slice_get (amended P Q t).cells (f + place) ≡ slice_get (kept_cells P Q t.cells side g) place
  reads_amended sides.Subject name f g place narrow old new =
      reads_laid sides.Subject name t.subjects [] (cells_of sides.Object t.objects) f g place narrow old new
  reads_amended sides.Object name f g place narrow old new =
      ap (λ (vs : List Value). slice_get (cells_of sides.Subject t.subjects ++ vs) (f + place)) (sym (append-nil (cells_of sides.Object t.objects)))
      ∙ reads_laid sides.Object name t.objects (cells_of sides.Subject t.subjects) [] f g place narrow old new

  -- ---- each entity has cells of its own

  first_alike : (side : Side) (name : Bytes) → is_some (first_cell (amended P Q t) side name) ≡ is_some (first_cell t side name)
  first_alike sides.Subject name = there-laid name 0 (width Q sides.Subject) t.subjects
  first_alike sides.Object name = there-laid name (length (cells_of sides.Subject t.subjects)) (width Q sides.Object) t.objects

  -- the cells of subjects lie before this place, and those of objects from it on
  abbrev middle : ℕ
  middle = length (cells_of sides.Subject t.subjects)

  subject_low : (name : Bytes) (f : ℕ) → first_cell (amended P Q t) sides.Subject name ≡ Some f → f + width Q sides.Subject ≤ middle
  subject_low name f is = omega (arith, (within_laid name 0 (width Q sides.Subject) f t.subjects is).1, room_kept sides.Subject t.subjects)

  object_high : (name : Bytes) (f : ℕ) → first_cell (amended P Q t) sides.Object name ≡ Some f
      → (middle ≤ f) × (f + width Q sides.Object ≤ middle + length (cells_of sides.Object t.objects))
  object_high name f is =
      let both = within_laid name middle (width Q sides.Object) f t.objects is in
      (both.0, omega (arith, both.1, room_kept sides.Object t.objects))

  all_cells : length (amended P Q t).cells ≡ middle + length (cells_of sides.Object t.objects)
  all_cells = length-append (cells_of sides.Subject t.subjects) (cells_of sides.Object t.objects)

  same_side_apart : (side : Side) (name name' : Bytes) (f f' : ℕ) → AreApart (width Q side) name name' f f'
      → ((side ≡ side) × (name ≡ name')) ⊎ ((f + width Q side ≤ f') ⊎ (f' + width Q side ≤ f))
  same_side_apart side name name' f f' (inl same) = inl (refl, same)
  same_side_apart side name name' f f' (inr apart) = inr apart

  pub own_cells-amended : HaveOwnCells Q (amended P Q t)
  own_cells-amended = record { within = within; apart = apart }
    where
      within : (side : Side) (name : Bytes) (f : ℕ) → first_cell (amended P Q t) side name ≡ Some f → f + width Q side ≤ length (amended P Q t).cells
      within sides.Subject name f is = omega (arith, subject_low name f is, all_cells)
      within sides.Object name f is = omega (arith, (object_high name f is).1, all_cells)

      apart : (side side' : Side) (name name' : Bytes) (f f' : ℕ) → first_cell (amended P Q t) side name ≡ Some f → first_cell (amended P Q t) side' name' ≡ Some f'
          → ((side ≡ side') × (name ≡ name')) ⊎ ((f + width Q side ≤ f') ⊎ (f' + width Q side' ≤ f))
      apart sides.Subject sides.Subject name name' f f' is is' =
          same_side_apart sides.Subject name name' f f' (apart_laid name name' 0 (width Q sides.Subject) f f' t.subjects is is')
      apart sides.Object sides.Object name name' f f' is is' =
          same_side_apart sides.Object name name' f f' (apart_laid name name' middle (width Q sides.Object) f f' t.objects is is')
      apart sides.Subject sides.Object name name' f f' is is' = inr (inl (omega (arith, subject_low name f is, (object_high name' f' is').0)))
      apart sides.Object sides.Subject name name' f f' is is' = inr (inr (omega (arith, subject_low name' f' is', (object_high name f is).0)))

  -- ---- what an attribute has

  at_place : (side : Side) (name attr : Bytes) (f g : ℕ) (o : Option ℕ) → first_cell t side name ≡ Some g → first_cell (amended P Q t) side name ≡ Some f
      → attr_position Q side attr ≡ o
      → option_and_then (slice_get (amended P Q t).cells) (option_map (λ place. f + place) o) ≡ option_map (kept_value P t.cells side g) (option_and_then (slice_get (attrs_of Q side)) o)
  at_place side name attr f g None old new is = refl
  at_place side name attr f g (Some place) old new is =
      reads_amended side name f g place (place_within (λ d. bytes_eq attr d.name) (attrs_of Q side) place is) old new
      ∙ slice_get-map (kept_value P t.cells side g) (attrs_of Q side) place

  by_first : (side : Side) (name attr : Bytes) (o o' : Option ℕ) → first_cell t side name ≡ o → first_cell (amended P Q t) side name ≡ o' → is_some o' ≡ is_some o
      → option_and_then (slice_get (amended P Q t).cells) (option_and_then (from_first Q side attr) o')
      ≡ option_and_then (λ g. option_map (kept_value P t.cells side g) (declared_attr Q.attrs side attr)) o
  by_first side name attr None None old new same = refl
  by_first side name attr None (Some f) old new same = absurd cc
  by_first side name attr (Some g) None old new same = absurd cc
  by_first side name attr (Some g) (Some f) old new same =
      at_place side name attr f g (attr_position Q side attr) old new refl ∙ ap (option_map (kept_value P t.cells side g)) (declared_there Q side attr)

  attribute_in-amended : (side : Side) (name attr : Bytes)
      → attribute_in Q (amended P Q t) side name attr ≡ option_and_then (λ g. option_map (kept_value P t.cells side g) (declared_attr Q.attrs side attr)) (first_cell t side name)
  attribute_in-amended side name attr =
      ap (option_and_then (slice_get (amended P Q t).cells)) (cell_of-first_cell Q (amended P Q t) side name attr)
      ∙ by_first side name attr (first_cell t side name) (first_cell (amended P Q t) side name) refl refl (first_alike side name)

-- ---- what was there, by the trace

-- what passes is what is found
passes_by : {A : Type 0} (p : A → Bool) (b : Bool) (y x : A) (o : Option A) → p y ≡ b → (o ≡ Some x → p x ≡ true) → cond b (Some y) o ≡ Some x → p x ≡ true
passes_by p true y x o here rest is = ap p (sym (same_Some y x is)) ∙ here
passes_by p false y x o here rest is = rest is

found_passes : {A : Type 0} (p : A → Bool) (xs : List A) (x : A) → find p xs ≡ Some x → p x ≡ true
found_passes p [] x is = absurd cc
found_passes p (y ∷ ys) x is = passes_by p (p y) y x (find p ys) refl (found_passes p ys x) is

kept_or_new : (given : Option Value) (start : Value) (declared : Bool) (had : Option Value) → had ≡ cond declared given None → (declared ≡ true → is_some had ≡ true)
    → Some (unwrap_or had start) ≡ cond declared given (Some start)
kept_or_new given start true None is there = absurd (let some = there refl in cc)
kept_or_new given start true (Some v) is there = is
kept_or_new given start false None is there = refl
kept_or_new given start false (Some v) is there = absurd cc

module _ (P : PlainPolicy) (t : Tables) (T : Trace) (Q : PlainPolicy) (h : KeepsEntities P t T) where
  abbrev old : PlainPolicy
  old = in_force P T

  -- what stands at an attribute's place behind an entity's first cell
  abbrev had : Side → ℕ → Bytes → Option Value
  had side g attr = option_and_then (λ place. slice_get t.cells (g + place)) (attr_position old side attr)

  had_by : (side : Side) (g : ℕ) (o : Option ℕ) → option_and_then (λ place. slice_get t.cells (g + place)) o ≡ option_and_then (slice_get t.cells) (option_map (λ place. g + place) o)
  had_by side g None = refl
  had_by side g (Some place) = refl

  had_is : (side : Side) (name attr : Bytes) (g : ℕ) → first_cell t side name ≡ Some g → had side g attr ≡ attribute P T side name attr
  had_is side name attr g is =
      had_by side g (attr_position old side attr)
      ∙ ap (λ (o : Option ℕ). option_and_then (slice_get t.cells) (option_and_then (from_first old side attr) o)) (sym is)
      ∙ ap (option_and_then (slice_get t.cells)) (sym (cell_of-first_cell old t side name attr))
      ∙ h.values side name attr

  there_by : (side : Side) (name : Bytes) (g : ℕ) (o : Option ℕ) → first_cell t side name ≡ Some g → ((place : ℕ) → o ≡ Some place → place < width old side) → is_some o ≡ true
      → is_some (option_and_then (λ place. slice_get t.cells (g + place)) o) ≡ true
  there_by side name g None is narrow some = absurd cc
  there_by side name g (Some place) is narrow some =
      is_there_within t.cells (g + place) (omega (arith, h.own_cells.within side name g is, narrow place refl))
    where
      is_there_within : (vs : List Value) (i : ℕ) → i < length vs → is_some (slice_get vs i) ≡ true
      is_there_within [] i lt = absurd (omega (arith, lt))
      is_there_within (v ∷ vs) zero lt = refl
      is_there_within (v ∷ vs) (suc i) lt = is_there_within vs i (omega (arith, lt))

  had_there : (side : Side) (name attr : Bytes) (g : ℕ) → first_cell t side name ≡ Some g → is_some (declared_attr old.attrs side attr) ≡ true → is_some (had side g attr) ≡ true
  had_there side name attr g is declared =
      there_by side name g (attr_position old side attr) is (λ place at. place_within (λ d. bytes_eq attr d.name) (attrs_of old side) place at)
      (place_where_declared old side attr ∙ declared)

  -- what the amendment gives, by the entity and the declaration
  abbrev amended_value : Side → Bytes → Bytes → Bool → Option AttrDecl → Option Value
  amended_value side name attr there declared =
      cond (there && is_some declared) (cond (is_some (declared_attr old.attrs side attr)) (given_attr P side name attr T) (option_map (λ d. d.start) declared)) None

  by_declared : (side : Side) (name attr : Bytes) (g : ℕ) (o : Option AttrDecl) → first_cell t side name ≡ Some g → has_entity side name T ≡ true
      → ((d : AttrDecl) → o ≡ Some d → attr ≡ d.name)
      → option_map (kept_value old t.cells side g) o ≡ amended_value side name attr true o
  by_declared side name attr g None is there named = refl
  by_declared side name attr g (Some d) is there named =
      ap (λ (b : Bytes). Some (unwrap_or (had side g b) d.start)) (sym (named d refl))
      ∙ kept_or_new (given_attr P side name attr T) d.start (is_some (declared_attr old.attrs side attr)) (had side g attr)
      (had_is side name attr g is ∙ ap (λ b. cond (b && is_some (declared_attr old.attrs side attr)) (given_attr P side name attr T) None) there)
      (had_there side name attr g is)

  by_entity : (side : Side) (name attr : Bytes) (o : Option ℕ) → first_cell t side name ≡ o → has_entity side name T ≡ is_some o
      → option_and_then (λ g. option_map (kept_value old t.cells side g) (declared_attr Q.attrs side attr)) o
      ≡ amended_value side name attr (has_entity side name T) (declared_attr Q.attrs side attr)
  by_entity side name attr None is there = rw there refl
  by_entity side name attr (Some g) is there =
      rw there (by_declared side name attr g (declared_attr Q.attrs side attr) is there
      (λ d at. same_name attr d.name ((and_parts (same_side side d.side) (bytes_eq attr d.name) (found_passes _ Q.attrs d at)).1)))

  value_amended : (side : Side) (name attr : Bytes)
      → attribute_in Q (amended old Q t) side name attr ≡ amended_value side name attr (has_entity side name T) (declared_attr Q.attrs side attr)
  value_amended side name attr =
      attribute_in-amended old Q t side name attr
      ∙ by_entity side name attr (first_cell t side name) refl (sym ((h.names side).there name))

  pub by_amend : (text : Bytes) → KeepsEntities P (amended old Q t) (amend text Q ∷ T)
  by_amend text = record { names = names; own_cells = own_cells-amended old Q t; values = values }
    where
      names : (side : Side) → KeepsNames (entities_of side (amended old Q t)) side (amend text Q ∷ T)
      names sides.Subject =
          let k = keeps_names-laid t.subjects sides.Subject T 0 (width Q sides.Subject) (h.names sides.Subject) in
          record { names = k.names; count = k.count; there = k.there; number = k.number }
      names sides.Object =
          let k = keeps_names-laid t.objects sides.Object T (length (all_kept_cells old Q t.cells sides.Subject t.subjects)) (width Q sides.Object) (h.names sides.Object) in
          record { names = k.names; count = k.count; there = k.there; number = k.number }

      values : (side : Side) (name attr : Bytes) → attribute_in Q (amended old Q t) side name attr ≡ attribute P (amend text Q ∷ T) side name attr
      values sides.Subject name attr = value_amended sides.Subject name attr
      values sides.Object name attr = value_amended sides.Object name attr

-- ---- variables

module _ (P : PlainPolicy) (t : Tables) (T : Trace) (Q : PlainPolicy) (h : KeepsVariables P t.variables T) where
  abbrev old_vars : PlainPolicy
  old_vars = in_force P T

  variable_there : (name : Bytes) (o : Option ℕ) → env_position old_vars name ≡ o → is_some (declared_env old_vars.envs name) ≡ is_some o
      → is_some (declared_env old_vars.envs name) ≡ true → is_some (option_and_then (slice_get t.variables) o) ≡ true
  variable_there name None at same some = absurd (let none = sym same ∙ some in cc)
  variable_there name (Some i) at same some =
      is_there_in t.variables i (omega (arith, h.count, place_within (λ d. bytes_eq name d.name) old_vars.envs i at))
    where
      is_there_in : (vs : List Value) (i : ℕ) → i < length vs → is_some (slice_get vs i) ≡ true
      is_there_in [] i lt = absurd (omega (arith, lt))
      is_there_in (v ∷ vs) zero lt = refl
      is_there_in (v ∷ vs) (suc i) lt = is_there_in vs i (omega (arith, lt))

  by_variable : (name : Bytes) (o : Option EnvDecl) → ((d : EnvDecl) → o ≡ Some d → name ≡ d.name)
      → option_map (kept_variable old_vars t) o
      ≡ cond (is_some o) (cond (is_some (declared_env old_vars.envs name)) (given_env P name T) (option_map (λ d. d.start) o)) None
  by_variable name None named = refl
  by_variable name (Some d) named =
      ap (λ (b : Bytes). Some (unwrap_or (variable_in old_vars t b) d.start)) (sym (named d refl))
      ∙ kept_or_new (given_env P name T) d.start (is_some (declared_env old_vars.envs name)) (variable_in old_vars t name) (h.values name)
      (variable_there name (env_position old_vars name) refl (sym (placed_where_first (λ d. bytes_eq name d.name) old_vars.envs)))

  mapped_there : (ds : List EnvDecl) (o : Option ℕ) → option_and_then (slice_get (map (kept_variable old_vars t) ds)) o ≡ option_map (kept_variable old_vars t) (option_and_then (slice_get ds) o)
  mapped_there ds None = refl
  mapped_there ds (Some i) = slice_get-map (kept_variable old_vars t) ds i

  pub keeps_variables_amend : (text : Bytes) → KeepsVariables P (map (kept_variable old_vars t) Q.envs) (amend text Q ∷ T)
  keeps_variables_amend text = record {
    count = length-map Q.envs (kept_variable old_vars t);
    values = λ name.
        mapped_there Q.envs (env_position Q name)
        ∙ ap (option_map (kept_variable old_vars t)) (found_there (λ d. bytes_eq name d.name) Q.envs)
        ∙ by_variable name (declared_env Q.envs name) (λ d at. same_name name d.name (found_passes _ Q.envs d at));
  }
