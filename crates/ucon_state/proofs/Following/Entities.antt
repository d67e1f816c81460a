-- The tables keep the entities of the trace, with their attributes.
use Rattle.std.proofs.Common.{◌≡◌, ◌⊎◌, ◌∙◌, sym, ap, subst, ℕ, ℤ, ◌+◌, ◌≤◌, Bool, true, false, cond, ◌&&◌, List, [], ◌∷◌, length, refl, arith}
use Rattle.std.specs.Prelude.{Option, Some, None, is_some, option_map, option_and_then, slice_set, IsTrue, IsSomeAnd, ⊤}
use Rattle.std.specs.Option.{option_map_or}
use Rattle.std.specs.Str.{bytes_eq}
use Rattle.std.proofs.lemmas.Bool.{and_from, and_parts}
use Rattle.ucon_base.specs.declared.value.Side.{Side}
use Rattle.ucon_base.specs.declared.value.Side.TheVariants as sides
use Rattle.ucon_base.specs.declared.value.Value.{Value}
use Rattle.ucon_base.specs.Admits.{admits}
use Rattle.ucon_model.specs.declared.policy.AttrDecl.{AttrDecl}
use Rattle.ucon_model.specs.declared.session.SessionRow.{SessionRow}
use Rattle.ucon_model.specs.declared.session.SessionState.{SessionState}
use Rattle.ucon_model.specs.declared.session.SessionState.TheVariants.{Denied, Accessing, Revoked, Ended}
use Rattle.ucon_model.specs.Plain.{Bytes, PlainPolicy}
use Rattle.ucon_model.specs.Action.{Action, Trace, subject, object, write, env, tick, act, tries, wait, permit, deny, ends, revoke, amend}
use Rattle.ucon_model.specs.Readings.{in_force, same_side, has_entity, declared_attr, attribute, attr_position, env_position, given_attr}
use Rattle.ucon_model.specs.Legal.{IsLegal}
use Rattle.ucon_model.specs.Reach.{replaces}
use Rattle.ucon_state.specs.declared.act.Act.{Act}
use Rattle.ucon_state.specs.Tables.{Tables, entities_of, width, first_cell, cell_of, attribute_in, session_in}
use Rattle.ucon_state.specs.Applied.{with_entity, with_cell, with_variable, moved_to, applied, opening_tables}
use Rattle.ucon_state.specs.Following.{KeepsNames, HaveOwnCells, KeepsEntities}
use Rattle.ucon_state.proofs.Following.Names.{same_name, keeps_names_opening, keeps_names_subject, keeps_names_object}
use Rattle.ucon_state.proofs.Following.Cells.{from_first, cell_of-first_cell, place_where_declared, first_cell-with_entity, first_cell-with_cell, same_sides, own_cells-with_entity, own_cells-with_cell}
use Rattle.ucon_state.proofs.Following.Amending.{by_amend}
use Rattle.ucon_state.proofs.Following.Attributes.{attribute_in-with_entity, attribute_in-with_cell, is_that, new_value, written_value}

-- ---- actions that leave the entities and their attributes

abbrev pub LeavesEntities : Action → Type 0
LeavesEntities (subject name) = ⊥
LeavesEntities (object name) = ⊥
LeavesEntities (write side name attr v) = ⊥
LeavesEntities (amend text Q) = ⊥
LeavesEntities a = ⊤

-- what reads the entities and the cells alone
abbrev ReadsEntities : {A : Type 0} → (Tables → A) → Type 0
ReadsEntities read = (t : Tables) (variables : List Value) (now : ℤ) (acts : List (Act × ℤ)) (rows : List SessionRow)
    → read (record t { variables = variables; tick = now; acts = acts; sessions = rows }) ≡ read t

by_variable : {A : Type 0} (read : Tables → A) (t : Tables) (v : Value) (o : Option ℕ) → ReadsEntities read → read (option_map_or (λ place. with_variable t place v) o t) ≡ read t
by_variable read t v None each = refl
by_variable read t v (Some place) each = each t (slice_set t.variables place v) t.tick t.acts t.sessions

by_row : {A : Type 0} (read : Tables → A) (t : Tables) (n : ℕ) (state : SessionState) (o : Option SessionRow) → ReadsEntities read
    → read (option_map_or (λ row. record t { sessions = slice_set t.sessions n (moved_to state t.tick row) }) o t) ≡ read t
by_row read t n state None each = refl
by_row read t n state (Some row) each = each t t.variables t.tick t.acts (slice_set t.sessions n (moved_to state t.tick row))

same_reading : {A : Type 0} (read : Tables → A) (P : PlainPolicy) (t : Tables) (a : Action) → LeavesEntities a → ReadsEntities read → read (applied P a t) ≡ read t
same_reading read P t (subject name) leaves each = absurd leaves
same_reading read P t (object name) leaves each = absurd leaves
same_reading read P t (write side name attr v) leaves each = absurd leaves
same_reading read P t (amend text Q) leaves each = absurd leaves
same_reading read P t (env name v) leaves each = by_variable read t v (env_position P name) each
same_reading read P t (tick now) leaves each = each t t.variables now t.acts t.sessions
same_reading read P t (act s a o) leaves each = each t t.variables t.tick (applied P (act s a o) t).acts t.sessions
same_reading read P t (tries n caller s r o) leaves each = each t t.variables t.tick t.acts (applied P (tries n caller s r o) t).sessions
same_reading read P t (wait n label) leaves each = refl
same_reading read P t (permit n) leaves each = by_row read t _ Accessing (session_in t n) each
same_reading read P t (deny n label) leaves each = by_row read t _ Denied (session_in t n) each
same_reading read P t (ends n) leaves each = by_row read t _ Ended (session_in t n) each
same_reading read P t (revoke n label) leaves each = by_row read t _ Revoked (session_in t n) each

pub entities_read : (side : Side) → ReadsEntities (entities_of side)
entities_read sides.Subject t variables now acts rows = refl
entities_read sides.Object t variables now acts rows = refl

pub first_read : (side : Side) (name : Bytes) → ReadsEntities (λ t. first_cell t side name)
first_read sides.Subject name t variables now acts rows = refl
first_read sides.Object name t variables now acts rows = refl

pub attribute_read : (P : PlainPolicy) (side : Side) (name attr : Bytes) → ReadsEntities (λ t. attribute_in P t side name attr)
attribute_read P sides.Subject name attr t variables now acts rows = refl
attribute_read P sides.Object name attr t variables now acts rows = refl

pub same_names : (es : List (Bytes × ℕ)) (side : Side) (T : Trace) (a : Action) → LeavesEntities a → KeepsNames es side T → KeepsNames es side (a ∷ T)
same_names es side T (subject name) leaves h = absurd leaves
same_names es side T (object name) leaves h = absurd leaves
same_names es side T (write s name attr v) leaves h = absurd leaves
same_names es side T (amend text Q) leaves h = absurd leaves
same_names es sides.Subject T a leaves h = record { names = h.names; count = h.count; there = h.there; number = h.number }
same_names es sides.Object T a leaves h = record { names = h.names; count = h.count; there = h.there; number = h.number }

pub same_attribute : (P : PlainPolicy) (T : Trace) (a : Action) → LeavesEntities a → (side : Side) (name attr : Bytes) → attribute P T side name attr ≡ attribute P (a ∷ T) side name attr
same_attribute P T (subject name) leaves side n attr = absurd leaves
same_attribute P T (object name) leaves side n attr = absurd leaves
same_attribute P T (write s name b v) leaves side n attr = absurd leaves
same_attribute P T (amend text Q) leaves side n attr = absurd leaves
same_attribute P T a leaves sides.Subject n attr = refl
same_attribute P T a leaves sides.Object n attr = refl

pub same_own_cells : (P : PlainPolicy) (t u : Tables) → ((side : Side) (name : Bytes) → first_cell u side name ≡ first_cell t side name) → length u.cells ≡ length t.cells
    → HaveOwnCells P t → HaveOwnCells P u
same_own_cells P t u firsts cells h = record {
  within = λ side n f e. omega (arith, cells, h.within side n f (sym (firsts side n) ∙ e));
  apart = λ side side' n n' f f' e e'. h.apart side side' n n' f f' (sym (firsts side n) ∙ e) (sym (firsts side' n') ∙ e');
}

pub same_policy : (P : PlainPolicy) (T : Trace) (a : Action) → LeavesEntities a → in_force P (a ∷ T) ≡ in_force P T
same_policy P T (amend text Q) leaves = absurd leaves
same_policy P T a leaves = refl

by_others : (P : PlainPolicy) (t : Tables) (T : Trace) (a : Action) → LeavesEntities a → KeepsEntities P t T → KeepsEntities P (applied (in_force P T) a t) (a ∷ T)
by_others P t T a leaves h =
    let R : PlainPolicy = in_force P T in
    record {
      names = λ side.
          subst (λ (es : List (Bytes × ℕ)). KeepsNames es side (a ∷ T)) (sym (same_reading (entities_of side) R t a leaves (entities_read side)))
          (same_names (entities_of side t) side T a leaves (h.names side));
      own_cells = subst (λ (Q : PlainPolicy). HaveOwnCells Q (applied R a t)) (sym (same_policy P T a leaves))
          (same_own_cells R t (applied R a t) (λ side name. same_reading (λ t. first_cell t side name) R t a leaves (first_read side name))
          (same_reading (λ t. length t.cells) R t a leaves (λ t variables now acts rows. refl)) h.own_cells);
      values = λ side name attr.
          ap (λ (Q : PlainPolicy). attribute_in Q (applied R a t) side name attr) (same_policy P T a leaves)
          ∙ same_reading (λ t. attribute_in R t side name attr) R t a leaves (attribute_read R side name attr) ∙ h.values side name attr ∙ same_attribute P T a leaves side name attr;
    }

-- ---- a new entity

not_there : (o : Option ℕ) → is_some o ≡ false → o ≡ None
not_there None e = refl
not_there (Some x) e = absurd cc

no_entity : (P : PlainPolicy) (t : Tables) (T : Trace) → KeepsEntities P t T → (side : Side) (name : Bytes) → has_entity side name T ≡ false → first_cell t side name ≡ None
no_entity P t T h side name new = not_there (first_cell t side name) ((h.names side).there name ∙ new)

same_others : (es : List (Bytes × ℕ)) (T : Trace) (name : Bytes) → KeepsNames es sides.Object T → KeepsNames es sides.Object (subject name ∷ T)
same_others es T name h = record { names = h.names; count = h.count; there = h.there; number = h.number }

same_subjects : (es : List (Bytes × ℕ)) (T : Trace) (name : Bytes) → KeepsNames es sides.Subject T → KeepsNames es sides.Subject (object name ∷ T)
same_subjects es T name h = record { names = h.names; count = h.count; there = h.there; number = h.number }

by_subject : (P : PlainPolicy) (t : Tables) (T : Trace) (name : Bytes) → has_entity sides.Subject name T ≡ false → KeepsEntities P t T
    → KeepsEntities P (with_entity (in_force P T) t sides.Subject name) (subject name ∷ T)
by_subject P t T name new h = record { names = names; own_cells = own_cells-with_entity (in_force P T) t sides.Subject name none h.own_cells; values = values }
  where
    none : first_cell t sides.Subject name ≡ None
    none = no_entity P t T h sides.Subject name new

    names : (side : Side) → KeepsNames (entities_of side (with_entity (in_force P T) t sides.Subject name)) side (subject name ∷ T)
    names sides.Subject = keeps_names_subject t.subjects name (length t.cells) T (h.names sides.Subject) new
    names sides.Object = same_others t.objects T name (h.names sides.Object)

    values : (side : Side) (n attr : Bytes) → attribute_in (in_force P T) (with_entity (in_force P T) t sides.Subject name) side n attr ≡ attribute P (subject name ∷ T) side n attr
    values sides.Subject n attr =
        attribute_in-with_entity (in_force P T) t sides.Subject sides.Subject name n attr h.own_cells none
        ∙ new_value P T sides.Subject n attr (bytes_eq n name) (attribute_in (in_force P T) t sides.Subject n attr) (h.values sides.Subject n attr)
    values sides.Object n attr = attribute_in-with_entity (in_force P T) t sides.Subject sides.Object name n attr h.own_cells none ∙ h.values sides.Object n attr

by_object : (P : PlainPolicy) (t : Tables) (T : Trace) (name : Bytes) → has_entity sides.Object name T ≡ false → KeepsEntities P t T
    → KeepsEntities P (with_entity (in_force P T) t sides.Object name) (object name ∷ T)
by_object P t T name new h = record { names = names; own_cells = own_cells-with_entity (in_force P T) t sides.Object name none h.own_cells; values = values }
  where
    none : first_cell t sides.Object name ≡ None
    none = no_entity P t T h sides.Object name new

    names : (side : Side) → KeepsNames (entities_of side (with_entity (in_force P T) t sides.Object name)) side (object name ∷ T)
    names sides.Subject = same_subjects t.subjects T name (h.names sides.Subject)
    names sides.Object = keeps_names_object t.objects name (length t.cells) T (h.names sides.Object) new

    values : (side : Side) (n attr : Bytes) → attribute_in (in_force P T) (with_entity (in_force P T) t sides.Object name) side n attr ≡ attribute P (object name ∷ T) side n attr
    values sides.Subject n attr = attribute_in-with_entity (in_force P T) t sides.Object sides.Subject name n attr h.own_cells none ∙ h.values sides.Subject n attr
    values sides.Object n attr =
        attribute_in-with_entity (in_force P T) t sides.Object sides.Object name n attr h.own_cells none
        ∙ new_value P T sides.Object n attr (bytes_eq n name) (attribute_in (in_force P T) t sides.Object n attr) (h.values sides.Object n attr)

-- ---- a write

-- an attribute has a cell where its entity is there and it is declared
both_there : (P : PlainPolicy) (side : Side) (attr : Bytes) (f p : Option ℕ) → attr_position P side attr ≡ p
    → is_some (option_and_then (from_first P side attr) f) ≡ (is_some f && is_some p)
both_there P side attr None p is = refl
both_there P side attr (Some f) None is = ap (λ (o : Option ℕ). is_some (option_map (λ place. f + place) o)) is
both_there P side attr (Some f) (Some p) is = ap (λ (o : Option ℕ). is_some (option_map (λ place. f + place) o)) is

pub cell_where_declared : (P : PlainPolicy) (t : Tables) (T : Trace) → KeepsEntities P t T → (side : Side) (name attr : Bytes)
    → is_some (cell_of (in_force P T) t side name attr) ≡ (has_entity side name T && is_some (declared_attr (in_force P T).attrs side attr))
cell_where_declared P t T h side name attr =
    ap is_some (cell_of-first_cell (in_force P T) t side name attr)
    ∙ both_there (in_force P T) side attr (first_cell t side name) (attr_position (in_force P T) side attr) refl
    ∙ ap (λ b. b && is_some (attr_position (in_force P T) side attr)) ((h.names side).there name)
    ∙ ap (λ b. has_entity side name T && b) (place_where_declared (in_force P T) side attr)

is_declared : (o : Option AttrDecl) (v : Value) → IsSomeAnd o (λ d. IsTrue (admits d.kind v)) → is_some o ≡ true
is_declared None v h = absurd h
is_declared (Some d) v h = refl

by_cell : (P : PlainPolicy) (t : Tables) (T : Trace) (s : Side) (name a : Bytes) (v : Value) (o : Option ℕ) → IsLegal P T (write s name a v) → KeepsEntities P t T
    → cell_of (in_force P T) t s name a ≡ o → is_some o ≡ true → KeepsEntities P (option_map_or (λ cell. with_cell t cell v) o t) (write s name a v ∷ T)
by_cell P t T s name a v None legal h is some = absurd cc
by_cell P t T s name a v (Some c) legal h is some = record { names = names; own_cells = own_cells-with_cell (in_force P T) t c v h.own_cells; values = values }
  where
    names : (side : Side) → KeepsNames (entities_of side (with_cell t c v)) side (write s name a v ∷ T)
    names sides.Subject = let k = h.names sides.Subject in record { names = k.names; count = k.count; there = k.there; number = k.number }
    names sides.Object = let k = h.names sides.Object in record { names = k.names; count = k.count; there = k.there; number = k.number }

    to_value : (side : Side) (n attr : Bytes) → attribute_in (in_force P T) (with_cell t c v) side n attr
        ≡ cond (has_entity side n T && is_some (declared_attr (in_force P T).attrs side attr)) (cond (is_that side s n name attr a) (Some v) (given_attr P side n attr T)) None
    to_value side n attr =
        attribute_in-with_cell (in_force P T) t s side name n a attr c v h.own_cells is
        ∙ written_value P T s side name n a attr v (is_that side s n name attr a) (attribute_in (in_force P T) t side n attr) (declared_attr (in_force P T).attrs s a) refl legal.0 refl
        (is_declared (declared_attr (in_force P T).attrs s a) v legal.1) (h.values side n attr)

    values : (side : Side) (n attr : Bytes) → attribute_in (in_force P T) (with_cell t c v) side n attr ≡ attribute P (write s name a v ∷ T) side n attr
    values sides.Subject n attr = to_value sides.Subject n attr
    values sides.Object n attr = to_value sides.Object n attr

by_write : (P : PlainPolicy) (t : Tables) (T : Trace) (s : Side) (name a : Bytes) (v : Value) → IsLegal P T (write s name a v) → KeepsEntities P t T
    → KeepsEntities P (applied (in_force P T) (write s name a v) t) (write s name a v ∷ T)
by_write P t T s name a v legal h =
    by_cell P t T s name a v (cell_of (in_force P T) t s name a) legal h refl
    (cell_where_declared P t T h s name a ∙ and_from (has_entity s name T) (is_some (declared_attr (in_force P T).attrs s a)) legal.0 (is_declared (declared_attr (in_force P T).attrs s a) v legal.1))

-- ---- cells of those that are there stay

still_first : (b : Bool) (new f : ℕ) (o : Option ℕ) → o ≡ Some f → (b ≡ true → o ≡ None) → cond b (Some new) o ≡ Some f
still_first true new f o is none = absurd (let gone : None ≡ Some f = sym (none refl) ∙ is in cc)
still_first false new f o is none = is

same_first : (t : Tables) (s side : Side) (name n : Bytes) → first_cell t s name ≡ None → (same_side side s && bytes_eq n name) ≡ true → first_cell t side n ≡ None
same_first t s side name n new same =
    let both = and_parts (same_side side s) (bytes_eq n name) same in
    ap (λ (r : Side). first_cell t r n) (same_sides side s both.0) ∙ ap (first_cell t s) (same_name n name both.1) ∙ new

first_after_entity : (P : PlainPolicy) (t : Tables) (s side : Side) (name n : Bytes) (f : ℕ) → first_cell t s name ≡ None → first_cell t side n ≡ Some f
    → first_cell (with_entity P t s name) side n ≡ Some f
first_after_entity P t s side name n f new is =
    first_cell-with_entity P t s side name n new
    ∙ still_first (same_side side s && bytes_eq n name) (length t.cells) f (first_cell t side n) is (same_first t s side name n new)

after_write : (t : Tables) (v : Value) (o : Option ℕ) (side : Side) (n : Bytes) → first_cell (option_map_or (λ cell. with_cell t cell v) o t) side n ≡ first_cell t side n
after_write t v None side n = refl
after_write t v (Some cell) side n = first_cell-with_cell t cell v side n

-- an entity that is there keeps its first cell while the policy stays
pub first_stays : (P : PlainPolicy) (t : Tables) (T : Trace) (a : Action) → KeepsEntities P t T → IsLegal P T a → replaces a ≡ false → (side : Side) (n : Bytes) (f : ℕ)
    → first_cell t side n ≡ Some f → first_cell (applied (in_force P T) a t) side n ≡ Some f
first_stays P t T (subject name) h legal stays side n f is = first_after_entity (in_force P T) t sides.Subject side name n f (no_entity P t T h sides.Subject name legal.0) is
first_stays P t T (object name) h legal stays side n f is = first_after_entity (in_force P T) t sides.Object side name n f (no_entity P t T h sides.Object name legal.0) is
first_stays P t T (write s name a v) h legal stays side n f is = after_write t v (cell_of (in_force P T) t s name a) side n ∙ is
first_stays P t T (amend text Q) h legal stays side n f is = absurd cc
first_stays P t T a h legal stays side n f is = same_reading (λ t. first_cell t side n) (in_force P T) t a tt (first_read side n) ∙ is

-- ---- all of it

pub keeps_entities_opening : (P : PlainPolicy) → KeepsEntities P (opening_tables P) []
keeps_entities_opening P = record { names = names; own_cells = record { within = within; apart = apart }; values = values }
  where
    names : (side : Side) → KeepsNames (entities_of side (opening_tables P)) side []
    names sides.Subject = keeps_names_opening sides.Subject
    names sides.Object = keeps_names_opening sides.Object

    nobody : (side : Side) (name : Bytes) → first_cell (opening_tables P) side name ≡ None
    nobody sides.Subject name = refl
    nobody sides.Object name = refl

    within : (side : Side) (name : Bytes) (f : ℕ) → first_cell (opening_tables P) side name ≡ Some f → f + width P side ≤ 0
    within side name f e = let none = nobody side name in absurd cc

    apart : (side side' : Side) (name name' : Bytes) (f f' : ℕ) → first_cell (opening_tables P) side name ≡ Some f → first_cell (opening_tables P) side' name' ≡ Some f'
        → ((side ≡ side') × (name ≡ name')) ⊎ ((f + width P side ≤ f') ⊎ (f' + width P side' ≤ f))
    apart side side' name name' f f' e e' = let none = nobody side name in absurd cc

    values : (side : Side) (n attr : Bytes) → attribute_in P (opening_tables P) side n attr ≡ attribute P [] side n attr
    values sides.Subject n attr = refl
    values sides.Object n attr = refl

pub keeps_entities_after : (P : PlainPolicy) (t : Tables) (T : Trace) (a : Action) → IsLegal P T a → KeepsEntities P t T
    → KeepsEntities P (applied (in_force P T) a t) (a ∷ T)
keeps_entities_after P t T (subject name) legal h = by_subject P t T name legal.0 h
keeps_entities_after P t T (object name) legal h = by_object P t T name legal.0 h
keeps_entities_after P t T (write s name a v) legal h = by_write P t T s name a v legal h
keeps_entities_after P t T (amend text Q) legal h = by_amend P t T Q h text
keeps_entities_after P t T a legal h = by_others P t T a tt h
