-- What rows make, put one after the other, is there in order.
use Rattle.std.proofs.Common.{◌≡◌, ◌∙◌, ℕ, zero, suc, ◌≤◌, ◌<◌, ◌≤ℤ◌, ℤ, pos, Bool, true, false, cond, List, [], ◌∷◌, ◌++◌, length, map, take, Some, None, is_some, refl, sym, ap, ap₂, subst, inl, inr, arith, length-append, ltb-true}
use Rattle.std.specs.Prelude.{Option, ◌⊎◌, slice_get, find, position, IsSome, IsSomeAnd, IsTrue, unwrap_or}
use Rattle.std.specs.Option.{option_map_or, option_or}
use Rattle.std.specs.Map.{lookup}
use Rattle.std.specs.Str.{bytes_eq}
use Rattle.std.proofs.lemmas.Bool.{and_parts, false≢true}
use Rattle.std.proofs.lemmas.Int.{ints}
use Rattle.std.proofs.lemmas.List.{length-map, map-append}
use Rattle.std.proofs.lemmas.List.Folds.{find-append}
use Rattle.ucon_base.specs.Elements.{Each}
use Rattle.ucon_base.specs.declared.value.Side.{Side}
use Rattle.ucon_base.specs.declared.value.Side.TheVariants as sides
use Rattle.ucon_base.specs.Admits.{admits}
use Rattle.ucon_model.specs.declared.policy.AttrDecl.{AttrDecl}
use Rattle.ucon_model.specs.declared.policy.EnvDecl.{EnvDecl}
use Rattle.ucon_model.specs.declared.session.SessionRow.{SessionRow}
use Rattle.ucon_model.specs.declared.session.SessionState.{SessionState}
use Rattle.ucon_model.specs.declared.session.SessionState.TheVariants.{Requesting, Denied, Accessing, Revoked, Ended}
use Rattle.ucon_model.specs.Action.{Trace}
use Rattle.ucon_model.specs.Plain.{Bytes, PlainPolicy}
use Rattle.ucon_model.specs.Readings.{attrs_of, env_position}
use Rattle.ucon_state.specs.declared.act.Act.{Act as Doing}
use Rattle.ucon_state.specs.declared.held.ActRow.{ActRow}
use Rattle.ucon_state.specs.Applied.{with_cell, with_entity, with_new_session, with_variable}
use Rattle.ucon_state.specs.Following.{Follows, Keeps, row_of}
use Rattle.ucon_state.specs.Held.{Held, held_after, held_in}
use Rattle.ucon_state.specs.Putting.{HasRoomIn, MayPutAct, MayPutSession, StartsAtZero, act_in, with_act_row}
use Rattle.ucon_state.specs.Tables.{Tables, entities_of, same_act, session_in}
use Rattle.ucon_point.specs.declared.order.Stage.{Stage}
use Rattle.ucon_point.specs.declared.row.Row.{Row}
use Rattle.ucon_point.specs.declared.row.Row.TheVariants.{Variable, Entity, Attribute, Act, Session}
use Rattle.ucon_point.specs.Order.{after}
use Rattle.ucon_point.specs.Orderly.{AreBothThere, HasRoomBehind, IsActInOrder, IsBy, IsOrderly, IsSessionInOrder, one_session, sessions_to}
use Rattle.ucon_point.specs.PointRead.{IsPoint, Said}
use Rattle.ucon_point.specs.Standing.{Standing, act_of, last_cell, may_put, put, put_all, side_of, start, with_next, with_put}
use Rattle.ucon_point.proofs.LegalInOrder.{IsBefore, IsLastOf, StandOnce, attribute_there, each_get, each_more, each_so, get_more, get_there, name_once, rows_once, take_before, take_whole, the_one, variable_there}
use Rattle.ucon_point.proofs.Made.{StateLaws, Stands, made_after, not_found, seen}
use Rattle.ucon_point.proofs.MayPut.{may_act, may_session}
use Rattle.ucon_point.proofs.Opening.{since, typed}
use Rattle.ucon_point.proofs.PutInOrder.{not_placed}
use Rattle.ucon_point.proofs.Results.{and_then_is, kept, nothing, same}

-- ---- names

abbrev Names : Type 0
Names = List Bytes

abbrev name_of : Bytes × ℕ → Bytes
name_of e = e.0

abbrev IsNamed : Names → Bytes → Type 0
IsNamed names e = is_some (find (bytes_eq e) names) ≡ true

more_named : (names more : Names) (e : Bytes) → IsNamed names e → IsNamed (names ++ more) e
more_named names more e h = ap is_some (find-append (bytes_eq e) names more) ∙ by (find (bytes_eq e) names) h
  where
    by : (o : Option Bytes) → is_some o ≡ true → is_some (option_or o (find (bytes_eq e) more)) ≡ true
    by None k = absurd (false≢true k)
    by (Some x) k = refl

named_if : (names : Names) (e : Bytes) → IsSome (position (bytes_eq e) names) → IsNamed names e
named_if names e h = by (find (bytes_eq e) names) refl
  where
    by : (o : Option Bytes) → find (bytes_eq e) names ≡ o → is_some o ≡ true
    by None none = absurd (false≢true (sym (ap is_some (not_placed (bytes_eq e) names none)) ∙ h))
    by (Some x) found = refl

placed_if : (names : Names) (e : Bytes) → IsNamed names e → IsSome (position (bytes_eq e) names)
placed_if names e h = by (position (bytes_eq e) names) refl
  where
    by : (o : Option ℕ) → position (bytes_eq e) names ≡ o → is_some o ≡ true
    by None none = absurd (false≢true (sym (ap is_some (not_found (bytes_eq e) names none)) ∙ h))
    by (Some k) found = refl

-- ---- so far

-- an act with its moment: its entities are there, and it was done by now
record IsActMade (subjects objects : Names) (now : ℤ) (e : Doing × ℤ) : Type 0 where
  subject_there : IsNamed subjects e.0.subject
  object_there : IsNamed objects e.0.object
  past : IsBy now e.1

record IsSessionMade (subjects objects : Names) (now : ℤ) (row : SessionRow) : Type 0 where
  subject_there : IsNamed subjects row.subject
  object_there : IsNamed objects row.object
  past : IsBy now row.start
  starts : StartsAtZero row.state row.start

abbrev HaveRoom : List SessionRow → Type 0
HaveRoom rows = (k : ℕ) (row : SessionRow) → slice_get rows k ≡ Some row → HasRoomBehind (take k rows) row.state

record AreMade (subjects objects : Names) (now : ℤ) (acts : List (Doing × ℤ)) (sessions : List SessionRow) : Type 0 where
  few_subjects : length subjects ≤ 16384
  few_objects : length objects ≤ 16384
  acts_made : Each (IsActMade subjects objects now) acts
  few_acts : length acts ≤ 1048576
  sessions_made : Each (IsSessionMade subjects objects now) sessions
  room : HaveRoom sessions
  few_sessions : length sessions ≤ 1048576

abbrev Made : Tables → Type 0
Made t = AreMade (map name_of t.subjects) (map name_of t.objects) t.tick t.acts t.sessions

-- ---- with one more

made_if : (o : Option ℕ) (t : Tables) (change : ℕ → Tables) → ((n : ℕ) → Made (change n)) → Made t → Made (option_map_or change o t)
made_if None t change changed m = m
made_if (Some n) t change changed m = changed n

with_subject : (subjects objects : Names) (now : ℤ) (acts : List (Doing × ℤ)) (sessions : List SessionRow) (name : Bytes) → length subjects < 16384
    → AreMade subjects objects now acts sessions → AreMade (subjects ++ name ∷ []) objects now acts sessions
with_subject subjects objects now acts sessions name room m = record {
  few_subjects = omega (arith, length-append subjects (name ∷ []), room);
  few_objects = m.few_objects;
  acts_made = each_so (IsActMade subjects objects now) (IsActMade (subjects ++ name ∷ []) objects now) acts
      (λ e i. record { subject_there = more_named subjects (name ∷ []) e.0.subject i.subject_there; object_there = i.object_there; past = i.past }) m.acts_made;
  few_acts = m.few_acts;
  sessions_made = each_so (IsSessionMade subjects objects now) (IsSessionMade (subjects ++ name ∷ []) objects now) sessions
      (λ row i. record { subject_there = more_named subjects (name ∷ []) row.subject i.subject_there; object_there = i.object_there; past = i.past; starts = i.starts }) m.sessions_made;
  room = m.room;
  few_sessions = m.few_sessions;
}

with_object : (subjects objects : Names) (now : ℤ) (acts : List (Doing × ℤ)) (sessions : List SessionRow) (name : Bytes) → length objects < 16384
    → AreMade subjects objects now acts sessions → AreMade subjects (objects ++ name ∷ []) now acts sessions
with_object subjects objects now acts sessions name room m = record {
  few_subjects = m.few_subjects;
  few_objects = omega (arith, length-append objects (name ∷ []), room);
  acts_made = each_so (IsActMade subjects objects now) (IsActMade subjects (objects ++ name ∷ []) now) acts
      (λ e i. record { subject_there = i.subject_there; object_there = more_named objects (name ∷ []) e.0.object i.object_there; past = i.past }) m.acts_made;
  few_acts = m.few_acts;
  sessions_made = each_so (IsSessionMade subjects objects now) (IsSessionMade subjects (objects ++ name ∷ []) now) sessions
      (λ row i. record { subject_there = i.subject_there; object_there = more_named objects (name ∷ []) row.object i.object_there; past = i.past; starts = i.starts }) m.sessions_made;
  room = m.room;
  few_sessions = m.few_sessions;
}

entity_made : (Q : PlainPolicy) (t : Tables) (side : Side) (name : Bytes) → length (entities_of side t) < 16384 → Made t → Made (with_entity Q t side name)
entity_made Q t sides.Subject name room m =
    subst (λ (ns : Names). AreMade ns (map name_of t.objects) t.tick t.acts t.sessions) (sym (map-append name_of t.subjects ((name, length t.cells) ∷ [])))
    (with_subject (map name_of t.subjects) (map name_of t.objects) t.tick t.acts t.sessions name (omega (arith, length-map t.subjects name_of, room)) m)
entity_made Q t sides.Object name room m =
    subst (λ (ns : Names). AreMade (map name_of t.subjects) ns t.tick t.acts t.sessions) (sym (map-append name_of t.objects ((name, length t.cells) ∷ [])))
    (with_object (map name_of t.subjects) (map name_of t.objects) t.tick t.acts t.sessions name (omega (arith, length-map t.objects name_of, room)) m)

act_made : (t : Tables) (a : ActRow) → MayPutAct t a → Made t → Made (with_act_row t a)
act_made t a may m =
    let e : Doing × ℤ = (act_in a, a.moment) in
    let here : IsActMade (map name_of t.subjects) (map name_of t.objects) t.tick e = record {
      subject_there = named_if (map name_of t.subjects) a.subject may.entities.subject_there;
      object_there = named_if (map name_of t.objects) a.object may.entities.object_there;
      past = record { since = may.past.since; until = may.past.until };
    } in
    record {
      few_subjects = m.few_subjects;
      few_objects = m.few_objects;
      acts_made = each_more (IsActMade (map name_of t.subjects) (map name_of t.objects) t.tick) t.acts e m.acts_made here;
      few_acts = omega (arith, length-append t.acts (e ∷ []), may.room);
      sessions_made = m.sessions_made;
      room = m.room;
      few_sessions = m.few_sessions;
    }

room_in : (t : Tables) (state : SessionState) → HasRoomIn t state → HasRoomBehind t.sessions state
room_in t Accessing room = room
room_in t Requesting room = tt
room_in t Denied room = tt
room_in t Revoked room = tt
room_in t Ended room = tt

more_room : (rows : List SessionRow) (row : SessionRow) → HaveRoom rows → HasRoomBehind rows row.state → HaveRoom (rows ++ row ∷ [])
more_room rows row rooms room k other at = by (get_more rows row k other at)
  where
    by : IsBefore rows k other ⊎ IsLastOf rows row k other → HasRoomBehind (take k (rows ++ row ∷ [])) other.state
    by (inl b) =
        let le : k ≤ length rows = omega (arith, b.within) in
        subst (λ (l : List SessionRow). HasRoomBehind l other.state) (sym (take_before rows (row ∷ []) k le)) (rooms k other b.at)
    by (inr l) =
        let all : rows ≡ take k (rows ++ row ∷ []) = sym (ap (λ (n : ℕ). take n (rows ++ row ∷ [])) l.place ∙ take_whole rows (row ∷ [])) in
        subst (λ (r : SessionRow). HasRoomBehind (take k (rows ++ row ∷ [])) r.state) l.is (subst (λ (x : List SessionRow). HasRoomBehind x row.state) all room)

session_made : (t : Tables) (row : SessionRow) → MayPutSession t row → Made t → Made (with_new_session t row)
session_made t row may m =
    let here : IsSessionMade (map name_of t.subjects) (map name_of t.objects) t.tick row = record {
      subject_there = named_if (map name_of t.subjects) row.subject may.entities.subject_there;
      object_there = named_if (map name_of t.objects) row.object may.entities.object_there;
      past = record { since = may.past.since; until = may.past.until };
      starts = may.starts;
    } in
    record {
      few_subjects = m.few_subjects;
      few_objects = m.few_objects;
      acts_made = m.acts_made;
      few_acts = m.few_acts;
      sessions_made = each_more (IsSessionMade (map name_of t.subjects) (map name_of t.objects) t.tick) t.sessions row m.sessions_made here;
      room = more_room t.sessions row m.room (room_in t row.state may.room_in_state);
      few_sessions = omega (arith, length-append t.sessions (row ∷ []), may.room);
    }

one_made : (Q : PlainPolicy) (stage : Stage) (t : Tables) (row : Row) → may_put t row ≡ true → Made t → Made (with_put Q stage t row)
one_made Q stage t (Variable name v) may m = made_if (env_position Q name) t (λ place. with_variable t place v) (λ place. m) m
one_made Q stage t (Entity side name) may m = entity_made Q t side name (ltb-true (length (entities_of side t)) 16384 (and_parts _ _ may).1) m
one_made Q stage t (Attribute attr v) may m = made_if (last_cell Q t (side_of stage) attr) t (λ cell. with_cell t cell v) (λ cell. m) m
one_made Q stage t (Act subject action object moment) may m = act_made t (act_of subject action object moment) (may_act t (act_of subject action object moment) may) m
one_made Q stage t (Session s) may m = session_made t s (may_session t s may) m

next_made : (Q : PlainPolicy) (s next : Standing) (row : Row) → put Q s row ≡ Some next → Made s.tables → Made next.tables
next_made Q s next row h m =
    let k = and_then_is (after Q s.reached row) (with_next Q s row) next h in
    let p = kept (may_put s.tables row) _ next k.1.1 in
    subst (λ (n : Standing). Made n.tables) p.1 (one_made Q s.reached.stage s.tables row p.0 m)

all_made : (Q : PlainPolicy) (rows : List Row) (s end : Standing) → put_all Q s rows ≡ Some end → Made s.tables → Made end.tables
all_made Q [] s end h m = subst (λ (n : Standing). Made n.tables) (same s end h) m
all_made Q (row ∷ rows) s end h m =
    let k = and_then_is (put Q s row) (λ n. put_all Q n rows) end h in
    all_made Q rows k.0 end k.1.1 (next_made Q s k.0 row k.1.0 m)

nothing_made : (Q : PlainPolicy) (now : ℤ) → Made (start Q now).tables
nothing_made Q now = record {
  few_subjects = omega arith;
  few_objects = omega arith;
  acts_made = tt;
  few_acts = omega arith;
  sessions_made = tt;
  room = λ k row at. absurd (nothing at);
  few_sessions = omega arith;
}

-- ---- what is there

mapped_at : {X Y : Type 0} (f : X → Y) (xs : List X) (k : ℕ) (y : Y) → slice_get (map f xs) k ≡ Some y → (x : X) × ((slice_get xs k ≡ Some x) × (f x ≡ y))
mapped_at f [] k y at = absurd (nothing at)
mapped_at f (x ∷ xs) zero y at = (x, (refl, same (f x) y at))
mapped_at f (x ∷ xs) (suc k) y at = mapped_at f xs k y at

found_past : (subjects objects : Names) (now : ℤ) (test : Doing → Bool) (acts : List (Doing × ℤ)) → pos 0 ≤ℤ now → Each (IsActMade subjects objects now) acts
    → IsBy now (unwrap_or (lookup test acts) (pos 0))
found_past subjects objects now test [] since made = record { since = omega (arith, ints); until = since }
found_past subjects objects now test (e ∷ acts) since made = by (found_past subjects objects now test acts since made.1) (test e.0)
  where
    by : IsBy now (unwrap_or (lookup test acts) (pos 0)) → (b : Bool) → IsBy now (unwrap_or (cond b (Some e.1) (lookup test acts)) (pos 0))
    by rest true = made.0.past
    by rest false = rest

sessions_taken : (t : Tables) (n : ℕ) → n ≤ length t.sessions → sessions_to (session_in t) n ≡ take n t.sessions
sessions_taken t n le = by n le
  where
    none_taken : {X : Type 0} (xs : List X) → take zero xs ≡ []
    none_taken [] = refl
    none_taken (x ∷ xs) = refl

    more : {X : Type 0} (xs : List X) (k : ℕ) (x : X) → slice_get xs k ≡ Some x → take k xs ++ x ∷ [] ≡ take (suc k) xs
    more [] k x at = absurd (nothing at)
    more {X} (y ∷ xs) zero x at = sym (ap₂ (λ (z : X) (l : List X). z ∷ l) (same y x at) (none_taken xs))
    more {X} (y ∷ xs) (suc k) x at = ap (λ (l : List X). y ∷ l) (more xs k x at)

    by : (n : ℕ) → n ≤ length t.sessions → sessions_to (session_in t) n ≡ take n t.sessions
    by zero le = sym (none_taken t.sessions)
    by (suc k) le =
        let one = the_one (slice_get t.sessions k) (get_there t.sessions k (omega (arith, le))) in
        ap₂ (λ (l : List SessionRow) (o : Option SessionRow). l ++ one_session o) (by k (omega (arith, le))) one.1 ∙ more t.sessions k one.0 one.1

module _ (laws : StateLaws) (p : Said) (end : Standing) (is : IsPoint p) (made : put_all p.policy (start p.policy p.tick) p.rows ≡ Some end) where
  abbrev Q : PlainPolicy
  Q = p.policy

  abbrev t : Tables
  t = end.tables

  abbrev h : Held
  h = held_in Q t

  abbrev subjects : Names
  subjects = map name_of t.subjects

  abbrev objects : Names
  objects = map name_of t.objects

  m : Made t
  m = all_made Q p.rows (start Q p.tick) end made (nothing_made Q p.tick)

  stands : Stands Q p.tick end p.rows
  stands = made_after laws Q (typed laws p end is made) p.tick end p.rows (since laws p end is made) made

  from_zero : pos 0 ≤ℤ t.tick
  from_zero = subst (λ (z : ℤ). pos 0 ≤ℤ z) (sym stands.tick) (since laws p end is made)

  few_names : (side : Side) → length (h.names side) ≤ 16384
  few_names sides.Subject = m.few_subjects
  few_names sides.Object = m.few_objects

  module _ (P : PlainPolicy) (T : Trace) (f : Follows (seen Q t) P T) where
    keeps : Keeps Q t P T
    keeps = laws.keeps (seen Q t) P T f

    same_held : held_after P T ≡ h
    same_held = sym (laws.holds (seen Q t) P T f)

    act_in_order : (k : ℕ) (a : Bytes × Bytes × Bytes) → slice_get h.acts k ≡ Some a → IsActInOrder h k a
    act_in_order k a at =
        let one = mapped_at row_of t.acts k a at in
        let made_so = each_get (IsActMade subjects objects t.tick) t.acts k one.0 m.acts_made one.1.0 in
        record {
          once = subst StandOnce (sym keeps.act_rows_agree) (rows_once T) k a at;
          entities = subst (λ (b : Bytes × Bytes × Bytes). AreBothThere h b.0 b.2) one.1.1
              (record { subject_there = placed_if subjects one.0.0.subject made_so.subject_there; object_there = placed_if objects one.0.0.object made_so.object_there });
          past = found_past subjects objects t.tick (same_act (record { subject = a.0; action = a.1; object = a.2 })) t.acts from_zero m.acts_made;
        }

    session_in_order : (n : ℕ) → n < h.sessions → IsSomeAnd (h.session (suc n)) (IsSessionInOrder h n)
    session_in_order n lt =
        let one = the_one (slice_get t.sessions n) (get_there t.sessions n lt) in
        let row : SessionRow = one.0 in
        let made_so = each_get (IsSessionMade subjects objects t.tick) t.sessions n row m.sessions_made one.1 in
        let in_order : IsSessionInOrder h n row = record {
          room = subst (λ (l : List SessionRow). HasRoomBehind l row.state) (sym (sessions_taken t n (omega (arith, lt)))) (m.room n row one.1);
          entities = record { subject_there = placed_if subjects row.subject made_so.subject_there; object_there = placed_if objects row.object made_so.object_there };
          past = made_so.past;
          starts = made_so.starts;
        } in
        subst (λ (o : Option SessionRow). IsSomeAnd o (IsSessionInOrder h n)) (sym one.1) in_order

    orderly : IsOrderly h
    orderly = record {
      variables = subst (λ (k : Held). (i : ℕ) (d : EnvDecl) → slice_get k.policy.envs i ≡ Some d → IsSomeAnd (k.variable d.name) (λ v. IsTrue (admits d.kind v))) same_held
          (variable_there P T f.typed f.sound Q t keeps);
      attributes = subst (λ (x : Held). (side : Side) (k : ℕ) (e : Bytes) (i : ℕ) (d : AttrDecl) → slice_get (x.names side) k ≡ Some e → slice_get (attrs_of x.policy side) i ≡ Some d
          → IsSomeAnd (x.attribute side e d.name) (λ v. IsTrue (admits d.kind v))) same_held (attribute_there P T f.typed f.sound Q t keeps);
      once = subst (λ (x : Held). (side : Side) (k : ℕ) (e : Bytes) → slice_get (x.names side) k ≡ Some e → find (bytes_eq e) (take k (x.names side)) ≡ None) same_held
          (name_once P T f.typed f.sound Q t keeps);
      few_entities = few_names;
      acts = act_in_order;
      few_acts = omega (arith, length-map t.acts row_of, m.few_acts);
      sessions = session_in_order;
      few_sessions = m.few_sessions;
    }

  pub made_in_order : IsOrderly (held_in p.policy end.tables)
  made_in_order = orderly stands.following.policy stands.following.trace stands.following.follows
