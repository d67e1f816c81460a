-- Each change leaves the tables sound.
use Rattle.std.proofs.Common.{◌≡◌, ◌∙◌, ◌≤◌, ◌<◌, ◌+◌, ◌*◌, ◌⊎◌, inl, inr, ℕ, ℤ, sym, ap, subst, List, [], ◌∷◌, ◌++◌, length, Contains, IsSome, zero, suc, slice_index_or, arith}
use Rattle.std.proofs.lemmas.List.{length-append, length-set, length-map}
use Rattle.std.proofs.lemmas.List.Elements.{Contains-append_cases}
use Rattle.std.specs.Map.{lookup}
use Rattle.indexmap.specs.IndexMap.{insert_entry}
use Rattle.ucon_base.specs.declared.value.Side.{Side}
use Rattle.ucon_base.specs.declared.value.Side.TheVariants as sides
use Rattle.ucon_base.specs.declared.value.Value.{Value}
use Rattle.ucon_model.specs.Plain.{Bytes, PlainPolicy}
use Rattle.ucon_state.specs.declared.act.Act.{Act}
use Rattle.ucon_model.specs.Readings.{attrs_of}
use Rattle.ucon_state.specs.Tables.{TablesOf, entities_of, same_act}
use Rattle.ucon_state.proofs.Lists.{inserted_length, kept_length}
use Rattle.ucon_state.specs.Applied.{opening_of, defaults_of, with_entity, with_cell, with_variable, with_tick, with_act, with_new_act, with_new_session}
use Rattle.ucon_state.specs.Sound.{IsSound, CellsAreThere}

-- what one item contains is that item
only : {X : Type 0} (x y : X) → Contains (x ∷ []) y → x ≡ y
only x y there = at there.0 there.1 there.2
  where
    at : (k : ℕ) → k < 1 → slice_index_or (x ∷ []) k y ≡ y → x ≡ y
    at zero within is = is
    at (suc k) within is = absurd (omega (arith, within))

module _ {S : Type 0} (P : PlainPolicy) (t : TablesOf S) (s : IsSound P t) where
  pub few_entities : (side : Side) → length (entities_of side t) ≤ 16384
  few_entities sides.Subject = s.subjects
  few_entities sides.Object = s.objects

  pub tick_sound : (now : ℤ) → IsSound P (with_tick t now)
  tick_sound now = record { subjects = s.subjects; objects = s.objects; acts = s.acts; sessions = s.sessions; cells = s.cells; variables = s.variables; subject_cells = s.subject_cells; object_cells = s.object_cells }

  pub variable_sound : (place : ℕ) (v : Value) → IsSound P (with_variable t place v)
  variable_sound place v = record { subjects = s.subjects; objects = s.objects; acts = s.acts; sessions = s.sessions; cells = s.cells; variables = length-set t.variables place v ∙ s.variables; subject_cells = s.subject_cells; object_cells = s.object_cells }

  pub sessions_sound : (sessions : List S) → length sessions ≡ length t.sessions → IsSound P (record t { sessions = sessions })
  sessions_sound sessions same = record { subjects = s.subjects; objects = s.objects; acts = s.acts; sessions = subst (λ n. n ≤ 1048576) (sym same) s.sessions; cells = s.cells; variables = s.variables; subject_cells = s.subject_cells; object_cells = s.object_cells }

  pub cell_sound : (cell : ℕ) (v : Value) → IsSound P (with_cell t cell v)
  cell_sound cell v =
      let same = sym (length-set t.cells cell v) in
      record {
        subjects = s.subjects;
        objects = s.objects;
        acts = s.acts;
        sessions = s.sessions;
        cells = subst (λ n. n ≤ 16 * (length t.subjects + length t.objects)) same s.cells;
        variables = s.variables;
        subject_cells = λ e there. subst (λ n. e.1 + length (attrs_of P sides.Subject) ≤ n) same (s.subject_cells e there);
        object_cells = λ e there. subst (λ n. e.1 + length (attrs_of P sides.Object) ≤ n) same (s.object_cells e there);
      }

  pub session_sound : (row : S) → length t.sessions < 1048576 → IsSound P (with_new_session t row)
  session_sound row room = record { subjects = s.subjects; objects = s.objects; acts = s.acts; sessions = omega (arith, room, length-append t.sessions (row ∷ [])); cells = s.cells; variables = s.variables; subject_cells = s.subject_cells; object_cells = s.object_cells }

  pub act_sound : (a : Act) → IsSome (lookup (same_act a) t.acts) ⊎ (length t.acts < 1048576) → IsSound P (with_act t a)
  act_sound a room = record { subjects = s.subjects; objects = s.objects; acts = by room; sessions = s.sessions; cells = s.cells; variables = s.variables; subject_cells = s.subject_cells; object_cells = s.object_cells }
    where
      by : IsSome (lookup (same_act a) t.acts) ⊎ (length t.acts < 1048576) → length (insert_entry same_act t.acts a t.tick) ≤ 1048576
      by (inl there) = subst (λ n. n ≤ 1048576) (sym (kept_length same_act t.acts a t.tick there)) s.acts
      by (inr few) = omega (arith, few, inserted_length same_act t.acts a t.tick)

  pub new_act_sound : (a : Act) (moment : ℤ) → length t.acts < 1048576 → IsSound P (with_new_act t a moment)
  new_act_sound a moment room = record { subjects = s.subjects; objects = s.objects; acts = omega (arith, room, length-append t.acts ((a, moment) ∷ [])); sessions = s.sessions; cells = s.cells; variables = s.variables; subject_cells = s.subject_cells; object_cells = s.object_cells }

  -- the cells of a new entity are there, and those of the others still are
  more_cells : (side : Side) (values : List Value) → CellsAreThere P t side → (e : Bytes × ℕ) → Contains (entities_of side t) e → e.1 + length (attrs_of P side) ≤ length (t.cells ++ values)
  more_cells side values all e there = omega (arith, all e there, length-append t.cells values)

  new_cells : (es : List (Bytes × ℕ)) (side : Side) (name : Bytes)
      → ((e : Bytes × ℕ) → Contains es e → e.1 + length (attrs_of P side) ≤ length t.cells)
      → (e : Bytes × ℕ) → Contains (es ++ (name, length t.cells) ∷ []) e → e.1 + length (attrs_of P side) ≤ length (t.cells ++ defaults_of P side)
  new_cells es side name all e there = by (Contains-append_cases es ((name, length t.cells) ∷ []) e there)
    where
      more : length (t.cells ++ defaults_of P side) ≡ length t.cells + length (attrs_of P side)
      more = length-append t.cells (defaults_of P side) ∙ ap (λ n. length t.cells + n) (length-map _ _)

      by : Contains es e ⊎ Contains ((name, length t.cells) ∷ []) e → e.1 + length (attrs_of P side) ≤ length (t.cells ++ defaults_of P side)
      by (inl old) = omega (arith, all e old, more)
      by (inr new) = subst (λ o. o.1 + length (attrs_of P side) ≤ length (t.cells ++ defaults_of P side)) (only (name, length t.cells) e new) (omega (arith, more))

  pub entity_sound : (side : Side) (name : Bytes) → length (entities_of side t) < 16384 → length (defaults_of P side) ≤ 16 → IsSound P (with_entity P t side name)
  entity_sound sides.Subject name few small = record {
    subjects = omega (arith, few, length-append t.subjects ((name, length t.cells) ∷ []));
    objects = s.objects;
    acts = s.acts;
    sessions = s.sessions;
    cells = omega (arith, s.cells, small, length-append t.cells (defaults_of P sides.Subject), length-append t.subjects ((name, length t.cells) ∷ []));
    variables = s.variables;
    subject_cells = new_cells t.subjects sides.Subject name s.subject_cells;
    object_cells = more_cells sides.Object (defaults_of P sides.Subject) s.object_cells;
  }
  entity_sound sides.Object name few small = record {
    subjects = s.subjects;
    objects = omega (arith, few, length-append t.objects ((name, length t.cells) ∷ []));
    acts = s.acts;
    sessions = s.sessions;
    cells = omega (arith, s.cells, small, length-append t.cells (defaults_of P sides.Object), length-append t.objects ((name, length t.cells) ∷ []));
    variables = s.variables;
    subject_cells = more_cells sides.Subject (defaults_of P sides.Object) s.subject_cells;
    object_cells = new_cells t.objects sides.Object name s.object_cells;
  }

-- before all actions
pub opening_sound : {S : Type 0} (P : PlainPolicy) → IsSound P (opening_of {S = S} P)
opening_sound P = record {
  subjects = omega arith;
  objects = omega arith;
  acts = omega arith;
  sessions = omega arith;
  cells = omega arith;
  variables = length-map _ _;
  subject_cells = λ e there. absurd (omega (arith, there.1));
  object_cells = λ e there. absurd (omega (arith, there.1));
}
