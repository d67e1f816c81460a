-- The rows that have come, by what is there: blocks of rows that are whole, and one of which values are still to come.
use Rattle.std.proofs.Common.{◌≡◌, ◌∙◌, ℕ, zero, suc, Bool, true, false, cond, List, [], ◌∷◌, ◌++◌, map, take, Some, None, refl, sym, ap, ap₂, append_assoc, append-nil}
use Rattle.std.specs.Prelude.{Option, slice_get, find, filter, nat_le, if◌then◌else◌}
use Rattle.std.specs.List.{flat_map}
use Rattle.std.specs.Str.{bytes_eq}
use Rattle.std.proofs.lemmas.Bool.{false≢true}
use Rattle.std.proofs.lemmas.Grind.{flat_map-append}
use Rattle.ucon_base.specs.declared.value.Side.{Side}
use Rattle.ucon_base.specs.declared.value.Side.TheVariants as sides
use Rattle.ucon_model.specs.declared.policy.AttrDecl.{AttrDecl}
use Rattle.ucon_model.specs.Plain.{Bytes}
use Rattle.ucon_model.specs.Readings.{same_side, attrs_of}
use Rattle.ucon_state.specs.Held.{Held}
use Rattle.ucon_point.specs.declared.order.Stage.{Stage}
use Rattle.ucon_point.specs.declared.order.Stage.TheVariants.{Variables, Subjects, Objects, Acts, Sessions}
use Rattle.ucon_point.specs.declared.row.Row.{Row}
use Rattle.ucon_point.specs.declared.row.Row.TheVariants.{Entity, Attribute}
use Rattle.ucon_point.specs.HeldRows.{given, variable_rows, attribute_rows, entity_rows, act_row, session_rows_to, rows_held}
use Rattle.ucon_point.specs.Order.{attribute_place, awaited, rank, variable_place}
use Rattle.ucon_point.proofs.Coming.{reaching}
use Rattle.ucon_point.proofs.Results.{nothing}

-- ---- lists

pub each_same : {X A : Type 0} (f g : X → List A) (xs : List X) → ((x : X) → f x ≡ g x) → flat_map f xs ≡ flat_map g xs
each_same f g [] h = refl
each_same f g (x ∷ xs) h = ap₂ (λ a b. a ++ b) (h x) (each_same f g xs h)

pub take_more : {X : Type 0} (xs : List X) (i : ℕ) (x : X) → slice_get xs i ≡ Some x → take (suc i) xs ≡ take i xs ++ x ∷ []
take_more [] i x at = absurd (nothing at)
take_more {X} (y ∷ xs) zero x at = ap (λ (o : Option X). list_of o) at
  where
    list_of : Option X → List X
    list_of None = []
    list_of (Some z) = z ∷ []
take_more {X} (y ∷ xs) (suc i) x at = ap (λ (l : List X). y ∷ l) (take_more xs i x at)

-- all are taken where none is left
all_taken : {X Y : Type 0} (f : X → Y) (xs : List X) (i : ℕ) → slice_get (map f xs) i ≡ None → take i xs ≡ xs
all_taken f [] zero h = refl
all_taken f [] (suc i) h = refl
all_taken f (x ∷ xs) zero h = absurd (nothing (sym h))
all_taken {X} f (x ∷ xs) (suc i) h = ap (λ (l : List X). x ∷ l) (all_taken f xs i h)

-- ---- blocks

abbrev pub all_variables : Held → List Row
all_variables h = flat_map (variable_rows h) h.policy.envs

abbrev pub all_entities : Held → Side → List Row
all_entities h side = flat_map (entity_rows h side) (h.names side)

abbrev pub all_acts : Held → List Row
all_acts h = map (act_row h) h.acts

-- a value of an attribute of this side
abbrev pub own_rows : Held → Side → Bytes → AttrDecl → List Row
own_rows h side name d = given (λ v. Attribute d.name v) (h.attribute side name d.name)

pub of_side : (h : Held) (side : Side) (name : Bytes) (ds : List AttrDecl) → flat_map (attribute_rows h side name) ds ≡ flat_map (own_rows h side name) (filter (λ d. same_side side d.side) ds)
of_side h side name [] = refl
of_side h side name (d ∷ ds) = by (of_side h side name ds) (same_side side d.side)
  where
    by : flat_map (attribute_rows h side name) ds ≡ flat_map (own_rows h side name) (filter (λ (e : AttrDecl). same_side side e.side) ds) → (b : Bool) → (if b then own_rows h side name d else []) ++ flat_map (attribute_rows h side name) ds
        ≡ flat_map (own_rows h side name) (cond b (d ∷ filter (λ (e : AttrDecl). same_side side e.side) ds) (filter (λ (e : AttrDecl). same_side side e.side) ds))
    by rest true = ap (λ (r : List Row). own_rows h side name d ++ r) rest
    by rest false = rest

abbrev pub NoActs : Held → Type 0
NoActs h = (h.acts ≡ []) × (h.sessions ≡ 0)

-- entities of a side came behind these rows, and the last of them with so many values
pub record AtValues (h : Held) (side : Side) (pre : List Row) (i : ℕ) (rows : List Row) : Type 0 where
  pub front : List Bytes
  pub last : Bytes
  pub split : h.names side ≡ front ++ last ∷ []
  pub once : find (bytes_eq last) front ≡ None
  pub is : rows ≡ pre ++ (flat_map (entity_rows h side) front ++ Entity side last ∷ flat_map (own_rows h side last) (take i (attrs_of h.policy side)))

-- the rows that have come are those of what is there
abbrev pub Told : Stage → ℕ → Held → List Row → Type 0
Told Variables i h rows = (rows ≡ flat_map (variable_rows h) (take i h.policy.envs)) × ((h.names sides.Subject ≡ []) × ((h.names sides.Object ≡ []) × NoActs h))
Told Subjects i h rows = AtValues h sides.Subject (all_variables h) i rows × ((h.names sides.Object ≡ []) × NoActs h)
Told Objects i h rows = AtValues h sides.Object (all_variables h ++ all_entities h sides.Subject) i rows × NoActs h
Told Acts i h rows = (rows ≡ ((all_variables h ++ all_entities h sides.Subject) ++ all_entities h sides.Object) ++ all_acts h) × (h.sessions ≡ 0)
Told Sessions i h rows = rows ≡ rows_held h

-- the same where no value is to come
abbrev pub Full : Stage → Held → List Row → Type 0
Full Variables h rows = (rows ≡ all_variables h) × ((h.names sides.Subject ≡ []) × ((h.names sides.Object ≡ []) × NoActs h))
Full Subjects h rows = (rows ≡ all_variables h ++ all_entities h sides.Subject) × ((h.names sides.Object ≡ []) × NoActs h)
Full Objects h rows = (rows ≡ (all_variables h ++ all_entities h sides.Subject) ++ all_entities h sides.Object) × NoActs h
Full Acts h rows = (rows ≡ ((all_variables h ++ all_entities h sides.Subject) ++ all_entities h sides.Object) ++ all_acts h) × (h.sessions ≡ 0)
Full Sessions h rows = rows ≡ rows_held h

whole_block : (h : Held) (side : Side) (pre : List Row) (i : ℕ) (rows : List Row) → AtValues h side pre i rows → slice_get (map attribute_place (attrs_of h.policy side)) i ≡ None
    → rows ≡ pre ++ all_entities h side
whole_block h side pre i rows a none =
    let front : List Row = flat_map (entity_rows h side) a.front in
    let last : List Row = flat_map (attribute_rows h side a.last) h.policy.attrs in
    a.is
    ∙ ap (λ (ds : List AttrDecl). pre ++ (front ++ Entity side a.last ∷ flat_map (own_rows h side a.last) ds)) (all_taken attribute_place (attrs_of h.policy side) i none)
    ∙ ap (λ (r : List Row). pre ++ (front ++ Entity side a.last ∷ r)) (sym (of_side h side a.last h.policy.attrs))
    ∙ ap (λ (r : List Row). pre ++ (front ++ r)) (sym (append-nil (Entity side a.last ∷ last)))
    ∙ ap (λ (r : List Row). pre ++ r) (sym (flat_map-append (entity_rows h side) a.front (a.last ∷ [])) ∙ ap (flat_map (entity_rows h side)) (sym a.split))

pub closed : (stage : Stage) (i : ℕ) (h : Held) (rows : List Row) → Told stage i h rows → awaited h.policy (reaching stage i) ≡ None → Full stage h rows
closed Variables i h rows t none = (t.0 ∙ ap (flat_map (variable_rows h)) (all_taken variable_place h.policy.envs i none), t.1)
closed Subjects i h rows t none = (whole_block h sides.Subject (all_variables h) i rows t.0 none, t.1)
closed Objects i h rows t none = (whole_block h sides.Object (all_variables h ++ all_entities h sides.Subject) i rows t.0 none, t.1)
closed Acts i h rows t none = t
closed Sessions i h rows t none = t

-- ---- from sort to sort

nobody : (h : Held) (side : Side) (pre rows : List Row) → h.names side ≡ [] → rows ≡ pre → rows ≡ pre ++ all_entities h side
nobody h side pre rows none is = is ∙ sym (ap (λ (ns : List Bytes). pre ++ flat_map (entity_rows h side) ns) none ∙ append-nil pre)

abbrev Below : Stage → Stage → Type 0
Below stage to = nat_le (rank stage) (rank to) ≡ true

pub to_subjects : (stage : Stage) (h : Held) (rows : List Row) → Below stage Subjects → Full stage h rows → Full Subjects h rows
to_subjects Variables h rows le f = (nobody h sides.Subject (all_variables h) rows f.1.0 f.0, f.1.1)
to_subjects Subjects h rows le f = f
to_subjects Objects h rows le f = absurd (false≢true le)
to_subjects Acts h rows le f = absurd (false≢true le)
to_subjects Sessions h rows le f = absurd (false≢true le)

pub to_objects : (stage : Stage) (h : Held) (rows : List Row) → Below stage Objects → Full stage h rows → Full Objects h rows
to_objects Variables h rows le f = let g = to_subjects Variables h rows refl f in (nobody h sides.Object (all_variables h ++ all_entities h sides.Subject) rows g.1.0 g.0, g.1.1)
to_objects Subjects h rows le f = (nobody h sides.Object (all_variables h ++ all_entities h sides.Subject) rows f.1.0 f.0, f.1.1)
to_objects Objects h rows le f = f
to_objects Acts h rows le f = absurd (false≢true le)
to_objects Sessions h rows le f = absurd (false≢true le)

no_act : (h : Held) (rows : List Row) → Full Objects h rows → Full Acts h rows
no_act h rows f =
    let pre : List Row = (all_variables h ++ all_entities h sides.Subject) ++ all_entities h sides.Object in
    (f.0 ∙ sym (ap (λ (acts : List (Bytes × Bytes × Bytes)). pre ++ map (act_row h) acts) f.1.0 ∙ append-nil pre), f.1.1)

pub to_acts : (stage : Stage) (h : Held) (rows : List Row) → Below stage Acts → Full stage h rows → Full Acts h rows
to_acts Variables h rows le f = no_act h rows (to_objects Variables h rows refl f)
to_acts Subjects h rows le f = no_act h rows (to_objects Subjects h rows refl f)
to_acts Objects h rows le f = no_act h rows f
to_acts Acts h rows le f = f
to_acts Sessions h rows le f = absurd (false≢true le)

no_session : (h : Held) (rows : List Row) → Full Acts h rows → Full Sessions h rows
no_session h rows f =
    let v : List Row = all_variables h in
    let s : List Row = all_entities h sides.Subject in
    let o : List Row = all_entities h sides.Object in
    let a : List Row = all_acts h in
    f.0 ∙ append_assoc (v ++ s) o a ∙ append_assoc v s (o ++ a)
    ∙ ap (λ (r : List Row). v ++ (s ++ (o ++ r))) (sym (append-nil a) ∙ ap (λ (n : ℕ). a ++ session_rows_to h.session n) (sym f.1))

pub to_sessions : (stage : Stage) (h : Held) (rows : List Row) → Full stage h rows → rows ≡ rows_held h
to_sessions Variables h rows f = no_session h rows (to_acts Variables h rows refl f)
to_sessions Subjects h rows f = no_session h rows (to_acts Subjects h rows refl f)
to_sessions Objects h rows f = no_session h rows (to_acts Objects h rows refl f)
to_sessions Acts h rows f = no_session h rows f
to_sessions Sessions h rows f = f
