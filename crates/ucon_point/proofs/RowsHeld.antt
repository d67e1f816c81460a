-- The text of what is there is that of its rows.
use Rattle.std.proofs.Common.{◌≡◌, ℕ, zero, suc, Bool, true, false, cond, List, [], ◌∷◌, ◌++◌, map, Some, None, refl, sym, ap, ◌∙◌, append-nil}
use Rattle.std.specs.Prelude.{Option, codes}
use Rattle.std.specs.List.{flat_map}
use Rattle.std.proofs.lemmas.Grind.{flat_map-append}
use Rattle.ucon_base.specs.declared.value.Side.{Side}
use Rattle.ucon_base.specs.declared.value.Side.TheVariants as sides
use Rattle.ucon_base.specs.declared.value.Value.{Value}
use Rattle.ucon_model.specs.declared.policy.AttrDecl.{AttrDecl}
use Rattle.ucon_model.specs.declared.session.SessionRow.{SessionRow}
use Rattle.ucon_model.specs.Plain.{Bytes}
use Rattle.ucon_model.specs.Readings.{same_side}
use Rattle.ucon_state.specs.Held.{Held}
use Rattle.ucon_point.specs.declared.row.Row.{Row}
use Rattle.ucon_point.specs.declared.row.Row.TheVariants.{Variable, Entity, Attribute, Session}
use Rattle.ucon_point.specs.HeldRows.{given, variable_rows, attribute_rows, entity_rows, act_row, session_rows, session_rows_to, rows_held, point_held}
use Rattle.ucon_point.specs.PointRead.{point_spelling, row_line}
use Rattle.ucon_point.specs.Lines.{value_line}
use Rattle.ucon_point.specs.PointText.{entries_line, policy_lines, tick_line, act_line, session_lines_of, sessions_to, variable_line, attribute_line, entity_lines, point_text}

abbrev lines : List Row → Bytes
lines rows = flat_map row_line rows

nested : {X : Type 0} (g : X → List Row) (f : X → Bytes) → ((x : X) → lines (g x) ≡ f x) → (xs : List X) → lines (flat_map g xs) ≡ flat_map f xs
nested g f h [] = refl
nested g f h (x ∷ xs) = flat_map-append row_line (g x) (flat_map g xs) ∙ ap (λ (r : Bytes). r ++ lines (flat_map g xs)) (h x) ∙ ap (λ (r : Bytes). f x ++ r) (nested g f h xs)

one : (row : Row) → lines (row ∷ []) ≡ row_line row
one row = append-nil (row_line row)

variable_given : (name : Bytes) (o : Option Value) → lines (given (λ v. Variable name v) o) ≡ value_line (codes "env") name o
variable_given name None = refl
variable_given name (Some v) = one (Variable name v)

attribute_given : (name : Bytes) (o : Option Value) → lines (given (λ v. Attribute name v) o) ≡ value_line (codes "value") name o
attribute_given name None = refl
attribute_given name (Some v) = one (Attribute name v)

on_side : (b : Bool) (rows : List Row) (bytes : Bytes) → lines rows ≡ bytes → lines (cond b rows []) ≡ cond b bytes []
on_side true rows bytes h = h
on_side false rows bytes h = refl

session_given : (o : Option SessionRow) → lines (session_rows o) ≡ session_lines_of o
session_given None = refl
session_given (Some row) = one (Session row)

sessions_given : (row : ℕ → Option SessionRow) (n : ℕ) → lines (session_rows_to row n) ≡ sessions_to row n
sessions_given row zero = refl
sessions_given row (suc n) =
    flat_map-append row_line (session_rows_to row n) (session_rows (row (suc n)))
    ∙ ap (λ (r : Bytes). r ++ lines (session_rows (row (suc n)))) (sessions_given row n) ∙ ap (λ (r : Bytes). sessions_to row n ++ r) (session_given (row (suc n)))

module _ (h : Held) where
  variables_given : lines (flat_map (variable_rows h) h.policy.envs) ≡ flat_map (variable_line h) h.policy.envs
  variables_given = nested (variable_rows h) (variable_line h) (λ d. variable_given d.name (h.variable d.name)) h.policy.envs

  attributes_given : (side : Side) (name : Bytes) (ds : List AttrDecl) → lines (flat_map (attribute_rows h side name) ds) ≡ flat_map (attribute_line h side name) ds
  attributes_given side name ds =
      nested (attribute_rows h side name) (attribute_line h side name)
      (λ d. on_side (same_side side d.side) (given (λ v. Attribute d.name v) (h.attribute side name d.name)) (value_line (codes "value") d.name (h.attribute side name d.name)) (attribute_given d.name (h.attribute side name d.name)))
      ds

  entity_given : (side : Side) (name : Bytes) → lines (entity_rows h side name) ≡ entity_lines h side name
  entity_given side name = ap (λ (r : Bytes). row_line (Entity side name) ++ r) (attributes_given side name h.policy.attrs)

  entities_given : (side : Side) → lines (flat_map (entity_rows h side) (h.names side)) ≡ flat_map (entity_lines h side) (h.names side)
  entities_given side = nested (entity_rows h side) (entity_lines h side) (entity_given side) (h.names side)

  acts_given : (acts : List (Bytes × Bytes × Bytes)) → lines (map (act_row h) acts) ≡ flat_map (act_line h) acts
  acts_given [] = refl
  acts_given (a ∷ acts) = ap (λ (r : Bytes). act_line h a ++ r) (acts_given acts)

  rows_given : lines (rows_held h)
      ≡ flat_map (variable_line h) h.policy.envs
      ++ (flat_map (entity_lines h sides.Subject) (h.names sides.Subject) ++ (flat_map (entity_lines h sides.Object) (h.names sides.Object)
      ++ (flat_map (act_line h) h.acts ++ sessions_to h.session h.sessions)))
  rows_given =
      let v = flat_map (variable_rows h) h.policy.envs in
      let s = flat_map (entity_rows h sides.Subject) (h.names sides.Subject) in
      let o = flat_map (entity_rows h sides.Object) (h.names sides.Object) in
      let a = map (act_row h) h.acts in
      let n = session_rows_to h.session h.sessions in
      let v' : Bytes = flat_map (variable_line h) h.policy.envs in
      let s' : Bytes = flat_map (entity_lines h sides.Subject) (h.names sides.Subject) in
      let o' : Bytes = flat_map (entity_lines h sides.Object) (h.names sides.Object) in
      let a' : Bytes = flat_map (act_line h) h.acts in
      flat_map-append row_line v (s ++ (o ++ (a ++ n)))
      ∙ ap (λ (r : Bytes). r ++ lines (s ++ (o ++ (a ++ n)))) variables_given
      ∙ ap (λ (r : Bytes). v' ++ r) (flat_map-append row_line s (o ++ (a ++ n)) ∙ ap (λ (r : Bytes). r ++ lines (o ++ (a ++ n))) (entities_given sides.Subject)
      ∙ ap (λ (r : Bytes). s' ++ r) (flat_map-append row_line o (a ++ n) ∙ ap (λ (r : Bytes). r ++ lines (a ++ n)) (entities_given sides.Object)
      ∙ ap (λ (r : Bytes). o' ++ r) (flat_map-append row_line a n ∙ ap (λ (r : Bytes). r ++ lines n) (acts_given h.acts)
      ∙ ap (λ (r : Bytes). a' ++ r) (sessions_given h.session h.sessions))))

  pub text_given : (entries : ℕ) (text : Bytes) → point_text entries text h ≡ point_spelling (point_held entries text h)
  text_given entries text = sym (ap (λ (r : Bytes). entries_line entries ++ (policy_lines text ++ (tick_line h.tick ++ r))) rows_given)
