-- What is orderly can be put, row after row.
use Rattle.std.proofs.Common.{◌≡◌, ◌∙◌, ℕ, zero, suc, ◌+◌, ◌≤◌, ◌<◌, ◌≤ℤ◌, ℤ, pos, Bool, true, false, cond, List, [], ◌∷◌, ◌++◌, length, map, take, Some, None, is_some, refl, sym, ap, ap₂, subst, append_assoc, append-nil, arith, length-append, lt-ltb}
use Rattle.std.specs.Prelude.{Option, ◌&&◌, slice_get, find, position, nat_lt, nat_le, is_none, int_le, option_and_then, IsSomeAnd, IsTrue, unwrap_or}
use Rattle.std.specs.Option.{option_map_or}
use Rattle.std.specs.List.{flat_map, position_or_len}
use Rattle.std.specs.Map.{lookup}
use Rattle.std.specs.Str.{bytes_eq}
use Rattle.std.proofs.lemmas.Bool.{false≢true, ltb-true}
use Rattle.std.proofs.lemmas.Int.{ints}
use Rattle.std.proofs.lemmas.List.{length-map, map-append}
use Rattle.std.proofs.lemmas.List.Folds.{find_at, flat_map-map}
use Rattle.std.proofs.lemmas.Option.{slice_get-get_or}
use Rattle.ucon_base.specs.Elements.{Each}
use Rattle.ucon_base.specs.declared.value.Kind.{Kind}
use Rattle.ucon_base.specs.declared.value.Side.{Side}
use Rattle.ucon_base.specs.declared.value.Side.TheVariants as sides
use Rattle.ucon_base.specs.declared.value.Value.{Value}
use Rattle.ucon_base.specs.Admits.{admits}
use Rattle.ucon_model.specs.declared.session.SessionRow.{SessionRow}
use Rattle.ucon_model.specs.declared.session.SessionState.{SessionState}
use Rattle.ucon_model.specs.declared.session.SessionState.TheVariants.{Requesting, Denied, Accessing, Revoked, Ended}
use Rattle.ucon_model.specs.Plain.{Bytes, PlainPolicy}
use Rattle.ucon_model.specs.Readings.{attrs_of, env_position}
use Rattle.ucon_state.specs.declared.act.Act.{Act as Doing}
use Rattle.ucon_state.specs.declared.held.ActRow.{ActRow}
use Rattle.ucon_state.specs.Applied.{opening_tables, with_cell, with_entity, with_new_session, with_tick, with_variable}
use Rattle.ucon_state.specs.Following.{row_of}
use Rattle.ucon_state.specs.Held.{Held}
use Rattle.ucon_state.specs.Putting.{StartsAtZero, with_act_row}
use Rattle.ucon_state.specs.Tables.{Tables, accessing_among, entities_of, entity_number, same_act}
use Rattle.ucon_point.specs.declared.order.Reached.{Reached}
use Rattle.ucon_point.specs.declared.order.Stage.{Stage}
use Rattle.ucon_point.specs.declared.order.Stage.TheVariants.{Variables, Subjects, Objects, Acts, Sessions}
use Rattle.ucon_point.specs.declared.row.Row.{Row}
use Rattle.ucon_point.specs.declared.row.Row.TheVariants.{Variable, Entity, Attribute, Act, Session}
use Rattle.ucon_point.specs.HeldRows.{given, variable_rows, attribute_rows, entity_rows, act_row, session_rows, session_rows_to, rows_held}
use Rattle.ucon_point.specs.Order.{after, attribute_place, awaited, declared_in, rank, stage_of, variable_place, with_row, with_value}
use Rattle.ucon_point.specs.Orderly.{AreBothThere, HasRoomBehind, IsBy, IsOrderly, IsSessionInOrder, one_session, same_names, sessions_to}
use Rattle.ucon_point.specs.Standing.{AreWhole, Standing, has_room_in, is_past, is_zero, last_cell, may_put, put, put_all, side_of, start, starts_right, with_next, with_put}
use Rattle.ucon_point.proofs.Blocks.{of_side}
use Rattle.ucon_point.proofs.Coming.{reaching}
use Rattle.ucon_point.proofs.PointsRead.{bytes_same, some_and}
use Rattle.ucon_point.proofs.Results.{and_then_is, nothing, same}

-- ---- lists

get_mid : {X : Type 0} (done : List X) (x : X) (xs : List X) → slice_get (done ++ x ∷ xs) (length done) ≡ Some x
get_mid [] x xs = refl
get_mid (y ∷ done) x xs = get_mid done x xs

take_mid : {X : Type 0} (done xs : List X) → take (length done) (done ++ xs) ≡ done
take_mid [] [] = refl
take_mid [] (x ∷ xs) = refl
take_mid {X} (y ∷ done) xs = ap (λ (l : List X). y ∷ l) (take_mid done xs)

get_end : {X : Type 0} (xs : List X) → slice_get xs (length xs) ≡ None
get_end [] = refl
get_end (x ∷ xs) = get_end xs

-- nothing is at the place that is found nowhere
pub not_placed : {X : Type 0} (p : X → Bool) (xs : List X) → find p xs ≡ None → position p xs ≡ None
not_placed p xs none = by (nat_lt (position_or_len p xs) (length xs)) refl
  where
    by : (b : Bool) → nat_lt (position_or_len p xs) (length xs) ≡ b → cond b (Some (position_or_len p xs)) None ≡ None
    by false is = refl
    by true is = absurd (there xs (position_or_len p xs) (ltb-true (position_or_len p xs) (length xs) is) (sym (find_at p xs) ∙ none))
      where
        there : {X : Type 0} (xs : List X) (i : ℕ) → i < length xs → slice_get xs i ≡ None → ⊥
        there [] i lt h = omega (arith, lt)
        there (x ∷ xs) i lt h = nothing (sym h ∙ slice_get-get_or (x ∷ xs) i x lt)

both_so : (a b : Bool) → a ≡ true → b ≡ true → (a && b) ≡ true
both_so a b h k = rw (h, k) refl

at_most_so : (a b : ℤ) → a ≤ℤ b → int_le a b ≡ true
at_most_so a b h = grind (arith, ints)

-- ---- tables that are alike but for values

pub record AreLike (t u : Tables) : Type 0 where
  pub subjects : u.subjects ≡ t.subjects
  pub objects : u.objects ≡ t.objects
  pub tick : u.tick ≡ t.tick
  pub acts : u.acts ≡ t.acts
  pub sessions : u.sessions ≡ t.sessions

like : (t : Tables) → AreLike t t
like t = record { subjects = refl; objects = refl; tick = refl; acts = refl; sessions = refl }

like_too : (t u w : Tables) → AreLike t u → AreLike u w → AreLike t w
like_too t u w a b =
    record { subjects = b.subjects ∙ a.subjects; objects = b.objects ∙ a.objects; tick = b.tick ∙ a.tick; acts = b.acts ∙ a.acts; sessions = b.sessions ∙ a.sessions }

like_variable : (t : Tables) (v : Value) (o : Option ℕ) → AreLike t (option_map_or (λ place. with_variable t place v) o t)
like_variable t v None = like t
like_variable t v (Some place) = record { subjects = refl; objects = refl; tick = refl; acts = refl; sessions = refl }

like_cell : (t : Tables) (v : Value) (o : Option ℕ) → AreLike t (option_map_or (λ cell. with_cell t cell v) o t)
like_cell t v None = like t
like_cell t v (Some cell) = record { subjects = refl; objects = refl; tick = refl; acts = refl; sessions = refl }

abbrev at : Stage → ℕ → Tables → Standing
at stage values t = record { reached = reaching stage values; tables = t }

module _ (Q : PlainPolicy) where
  put_on : (s m e : Standing) (xs ys : List Row) → put_all Q s xs ≡ Some m → put_all Q m ys ≡ Some e → put_all Q s (xs ++ ys) ≡ Some e
  put_on s m e [] ys h k = subst (λ (n : Standing). put_all Q n ys ≡ Some e) (sym (same s m h)) k
  put_on s m e (x ∷ xs) ys h k =
      let one = and_then_is (put Q s x) (λ n. put_all Q n xs) m h in
      ap (option_and_then (λ (n : Standing). put_all Q n (xs ++ ys))) one.1.0 ∙ put_on one.0 m e xs ys one.1.1 k

  put_one : (s : Standing) (row : Row) (next : Reached) → after Q s.reached row ≡ Some next → may_put s.tables row ≡ true
      → put Q s row ≡ Some (record { reached = next; tables = with_put Q s.reached.stage s.tables row })
  put_one s row next a may =
      ap (option_and_then (with_next Q s row)) a
      ∙ ap (λ (b : Bool). cond {A = Option Standing} b (Some (record { reached = next; tables = with_put Q s.reached.stage s.tables row })) None) may

  put_first : (s e : Standing) (row : Row) (next : Reached) (rows : List Row) → after Q s.reached row ≡ Some next → may_put s.tables row ≡ true
      → put_all Q (record { reached = next; tables = with_put Q s.reached.stage s.tables row }) rows ≡ Some e → put_all Q s (row ∷ rows) ≡ Some e
  put_first s e row next rows a may rest = ap (option_and_then (λ (n : Standing). put_all Q n rows)) (put_one s row next a may) ∙ rest

  -- ---- values

  record ArePut (s : Standing) (rows : List Row) (reached : Reached) : Type 0 where
    end : Tables
    made : put_all Q s rows ≡ Some (record { reached = reached; tables = end })
    alike : AreLike s.tables end

  module _ (stage : Stage) (row : Bytes → Value → Row) (value : Bytes → Option Value)
      (comes : (i : ℕ) (n : Bytes) (v : Value) → after Q (reaching stage i) (row n v) ≡ with_value (slice_get (declared_in Q stage) i) (reaching stage i) n v)
      (may : (t : Tables) (n : Bytes) (v : Value) → may_put t (row n v) ≡ true)
      (alike : (t : Tables) (n : Bytes) (v : Value) → AreLike t (with_put Q stage t (row n v))) where
    abbrev value_rows : List (Bytes × Kind) → List Row
    value_rows ps = flat_map (λ (p : Bytes × Kind). given (row p.0) (value p.0)) ps

    values_put : (ps done : List (Bytes × Kind)) (t : Tables) → declared_in Q stage ≡ done ++ ps → Each (λ (p : Bytes × Kind). IsSomeAnd (value p.0) (λ v. IsTrue (admits p.1 v))) ps
        → ArePut (at stage (length done) t) (value_rows ps) (reaching stage (length (declared_in Q stage)))
    values_put [] done t is fit =
        let count : length done ≡ length (declared_in Q stage) = sym (ap length (is ∙ append-nil done)) in
        record { end = t; made = ap (λ (n : ℕ). Some (at stage n t)) count; alike = like t }
    values_put (p ∷ ps) done t is fit =
        let v = some_and (value p.0) (λ w. IsTrue (admits p.1 w)) fit.0 in
        let i : ℕ = length done in
        let awaiting : slice_get (declared_in Q stage) i ≡ Some p = ap (λ (l : List (Bytes × Kind)). slice_get l i) is ∙ get_mid done p ps in
        let came : after Q (reaching stage i) (row p.0 v.0) ≡ Some (reaching stage (i + 1)) =
        comes i p.0 v.0 ∙ ap (λ (o : Option (Bytes × Kind)). with_value o (reaching stage i) p.0 v.0) awaiting ∙ rw (bytes_same p.0, v.1.1) refl in
        let t1 : Tables = with_put Q stage t (row p.0 v.0) in
        let more : length (done ++ p ∷ []) ≡ i + 1 = length-append done (p ∷ []) in
        let rest = values_put ps (done ++ p ∷ []) t1 (is ∙ sym (append_assoc done (p ∷ []) ps)) fit.1 in
        let rest_made : put_all Q (at stage (i + 1) t1) (value_rows ps) ≡ Some (at stage (length (declared_in Q stage)) rest.end) =
        subst (λ (n : ℕ). put_all Q (at stage n t1) (value_rows ps) ≡ Some (at stage (length (declared_in Q stage)) rest.end)) more rest.made in
        record {
          end = rest.end;
          made = ap (λ (o : Option Value). put_all Q (at stage i t) (given (row p.0) o ++ value_rows ps)) v.1.0
              ∙ put_first (at stage i t) (at stage (length (declared_in Q stage)) rest.end) (row p.0 v.0) (reaching stage (i + 1)) (value_rows ps) came (may t p.0 v.0) rest_made;
          alike = like_too t t1 rest.end (alike t p.0 v.0) rest.alike;
        }

-- ---- entities

each_at : {X Y : Type 0} (f : X → Y) (P : Y → Type 0) (xs : List X) → ((i : ℕ) (x : X) → slice_get xs i ≡ Some x → P (f x)) → Each P (map f xs)
each_at f P [] h = tt
each_at f P (x ∷ xs) h = (h zero x refl, each_at f P xs (λ i y here. h (suc i) y here))

abbrev name_of : Bytes × ℕ → Bytes
name_of e = e.0

abbrev other : Side → Side
other sides.Subject = sides.Object
other sides.Object = sides.Subject

-- only the entities of a side are others, and values
record OthersStay (side : Side) (t u : Tables) : Type 0 where
  entities : entities_of (other side) u ≡ entities_of (other side) t
  tick : u.tick ≡ t.tick
  acts : u.acts ≡ t.acts
  sessions : u.sessions ≡ t.sessions

others_too : (side : Side) (t u w : Tables) → OthersStay side t u → OthersStay side u w → OthersStay side t w
others_too side t u w a b = record { entities = b.entities ∙ a.entities; tick = b.tick ∙ a.tick; acts = b.acts ∙ a.acts; sessions = b.sessions ∙ a.sessions }

entities_alike : (side : Side) (t u : Tables) → AreLike t u → entities_of side u ≡ entities_of side t
entities_alike sides.Subject t u a = a.subjects
entities_alike sides.Object t u a = a.objects

others_alike : (side : Side) (t u : Tables) → AreLike t u → OthersStay side t u
others_alike side t u a = record { entities = entities_alike (other side) t u a; tick = a.tick; acts = a.acts; sessions = a.sessions }

names_with : (Q : PlainPolicy) (side : Side) (t : Tables) (n : Bytes) → map name_of (entities_of side (with_entity Q t side n)) ≡ map name_of (entities_of side t) ++ n ∷ []
names_with Q sides.Subject t n = map-append name_of t.subjects ((n, length t.cells) ∷ [])
names_with Q sides.Object t n = map-append name_of t.objects ((n, length t.cells) ∷ [])

others_with : (Q : PlainPolicy) (side : Side) (t : Tables) (n : Bytes) → OthersStay side t (with_entity Q t side n)
others_with Q sides.Subject t n = record { entities = refl; tick = refl; acts = refl; sessions = refl }
others_with Q sides.Object t n = record { entities = refl; tick = refl; acts = refl; sessions = refl }

abbrev Below : Stage → Stage → Type 0
Below stage to = nat_le (rank stage) (rank to) ≡ true

row_comes : (o : Option (Bytes × Kind)) (r : Reached) (stage : Stage) → o ≡ None → Below r.stage stage → with_row o r stage ≡ Some (reaching stage 0)
row_comes o r stage none below = ap (λ (p : Option (Bytes × Kind)). with_row p r stage) none ∙ ap (λ (b : Bool). cond {A = Option Reached} b (Some (reaching stage 0)) None) below

module _ (h : Held) (o : IsOrderly h) where
  declared_of : (side : Side) → declared_in h.policy (stage_of side) ≡ map attribute_place (attrs_of h.policy side)
  declared_of sides.Subject = refl
  declared_of sides.Object = refl

  attribute_comes : (side : Side) (i : ℕ) (n : Bytes) (v : Value)
      → after h.policy (reaching (stage_of side) i) (Attribute n v) ≡ with_value (slice_get (declared_in h.policy (stage_of side)) i) (reaching (stage_of side) i) n v
  attribute_comes sides.Subject i n v = refl
  attribute_comes sides.Object i n v = refl

  below_itself : (side : Side) → Below (stage_of side) (stage_of side)
  below_itself sides.Subject = refl
  below_itself sides.Object = refl

  -- the tables with one more entity of a side, and its values
  record EntityPut (side : Side) (s : Standing) (n : Bytes) (done : List Bytes) : Type 0 where
    end : Tables
    made : put_all h.policy s (entity_rows h side n) ≡ Some (at (stage_of side) (length (declared_in h.policy (stage_of side))) end)
    names : map name_of (entities_of side end) ≡ done ++ n ∷ []
    others : OthersStay side s.tables end

  entity_put : (side : Side) (s : Standing) (n : Bytes) (done rest : List Bytes) → awaited h.policy s.reached ≡ None → Below s.reached.stage (stage_of side)
      → map name_of (entities_of side s.tables) ≡ done → h.names side ≡ done ++ n ∷ rest → EntityPut side s n done
  entity_put side s n done rest none below names is =
      let Q : PlainPolicy = h.policy in
      let stage : Stage = stage_of side in
      let t1 : Tables = with_entity Q s.tables side n in
      let k : ℕ = length done in
      let there : slice_get (h.names side) k ≡ Some n = ap (λ (l : List Bytes). slice_get l k) is ∙ get_mid done n rest in
      let once : find (bytes_eq n) done ≡ None = ap (find (bytes_eq n)) (sym (ap (take k) is ∙ take_mid done (n ∷ rest))) ∙ o.once side k n there in
      let new : is_none (entity_number s.tables side n) ≡ true = ap is_none (ap (position (bytes_eq n)) names ∙ not_placed (bytes_eq n) done once) in
      let count : length (entities_of side s.tables) ≡ k = sym (length-map (entities_of side s.tables) name_of) ∙ ap length names in
      let all : length (h.names side) ≡ length (done ++ n ∷ rest) = ap length is in
      let room : length (entities_of side s.tables) < 16384 = omega (arith, count, all, length-append done (n ∷ rest), o.few_entities side) in
      let may : may_put s.tables (Entity side n) ≡ true = both_so _ _ new (lt-ltb (length (entities_of side s.tables)) 16384 room) in
      let value : Bytes → Option Value = λ a. h.attribute side n a in
      let row : Bytes → Value → Row = λ a v. Attribute a v in
      let fit = subst (Each (λ (p : Bytes × Kind). IsSomeAnd (value p.0) (λ v. IsTrue (admits p.1 v)))) (sym (declared_of side))
      (each_at attribute_place (λ (p : Bytes × Kind). IsSomeAnd (value p.0) (λ v. IsTrue (admits p.1 v))) (attrs_of Q side) (λ i d here. o.attributes side k n i d there here)) in
      let values = values_put Q stage row value (attribute_comes side) (λ t a v. refl) (λ t a v. like_cell t v (last_cell Q t (side_of stage) a)) (declared_in Q stage) [] t1 refl fit in
      let rows : flat_map (attribute_rows h side n) Q.attrs ≡ value_rows Q stage row value (attribute_comes side) (λ t a v. refl) (λ t a v. like_cell t v (last_cell Q t (side_of stage) a)) (declared_in Q stage) =
      of_side h side n Q.attrs ∙ sym (flat_map-map (λ (p : Bytes × Kind). given (λ v. Attribute p.0 v) (value p.0)) attribute_place (attrs_of Q side))
      ∙ ap (flat_map (λ (p : Bytes × Kind). given (λ v. Attribute p.0 v) (value p.0))) (sym (declared_of side)) in
      record {
        end = values.end;
        made = put_first Q s (at stage (length (declared_in Q stage)) values.end) (Entity side n) (reaching stage 0) (flat_map (attribute_rows h side n) Q.attrs)
            (row_comes (awaited Q s.reached) s.reached stage none below) may (ap (put_all Q (at stage 0 t1)) rows ∙ values.made);
        names = ap (map name_of) (entities_alike side t1 values.end values.alike) ∙ names_with Q side s.tables n ∙ ap (λ (l : List Bytes). l ++ n ∷ []) names;
        others = others_too side s.tables t1 values.end (others_with Q side s.tables n) (others_alike side t1 values.end values.alike);
      }

  -- the tables with all entities of a side
  record SidePut (side : Side) (s : Standing) (ns : List Bytes) : Type 0 where
    end : Standing
    made : put_all h.policy s (flat_map (entity_rows h side) ns) ≡ Some end
    none : awaited h.policy end.reached ≡ None
    below : Below end.reached.stage (stage_of side)
    names : map name_of (entities_of side end.tables) ≡ h.names side
    others : OthersStay side s.tables end.tables

  side_put : (side : Side) (ns done : List Bytes) (s : Standing) → awaited h.policy s.reached ≡ None → Below s.reached.stage (stage_of side)
      → map name_of (entities_of side s.tables) ≡ done → h.names side ≡ done ++ ns → SidePut side s ns
  side_put side [] done s none below names is =
      record { end = s; made = refl; none = none; below = below; names = names ∙ sym (is ∙ append-nil done); others = record { entities = refl; tick = refl; acts = refl; sessions = refl } }
  side_put side (n ∷ ns) done s none below names is =
      let one = entity_put side s n done ns none below names is in
      let stage : Stage = stage_of side in
      let m : Standing = at stage (length (declared_in h.policy stage)) one.end in
      let rest = side_put side ns (done ++ n ∷ []) m (get_end (declared_in h.policy stage)) (below_itself side) one.names (is ∙ sym (append_assoc done (n ∷ []) ns)) in
      record {
        end = rest.end;
        made = put_on h.policy s m rest.end (entity_rows h side n) (flat_map (entity_rows h side) ns) one.made rest.made;
        none = rest.none;
        below = rest.below;
        names = rest.names;
        others = others_too side s.tables one.end rest.end.tables one.others rest.others;
      }

  -- ---- acts

  record AllThere (t : Tables) : Type 0 where
    subjects : map name_of t.subjects ≡ h.names sides.Subject
    objects : map name_of t.objects ≡ h.names sides.Object
    tick : t.tick ≡ h.tick

  entities_there : (t : Tables) (subject object : Bytes) → AllThere t → AreBothThere h subject object
      → (is_some (entity_number t sides.Subject subject) ≡ true) × (is_some (entity_number t sides.Object object) ≡ true)
  entities_there t subject object a b = (
    ap (λ (ns : List Bytes). is_some (position (bytes_eq subject) ns)) a.subjects ∙ b.subject_there,
    ap (λ (ns : List Bytes). is_some (position (bytes_eq object) ns)) a.objects ∙ b.object_there,
  )

  past_so : (t : Tables) (m : ℤ) → AllThere t → IsBy h.tick m → is_past t m ≡ true
  past_so t m a p = both_so _ _ (at_most_so (pos 0) m p.since) (ap (int_le m) a.tick ∙ at_most_so m h.tick p.until)

  never_done : (a : Bytes × Bytes × Bytes) (es : List (Doing × ℤ)) → find (same_names a) (map row_of es) ≡ None
      → lookup (same_act (record { subject = a.0; action = a.1; object = a.2 })) es ≡ None
  never_done a [] none = refl
  never_done a (e ∷ es) none = by (λ k. never_done a es k) (same_names a (row_of e)) none
    where
      by : (find (same_names a) (map row_of es) ≡ None → lookup (same_act (record { subject = a.0; action = a.1; object = a.2 })) es ≡ None)
          → (b : Bool) → cond {A = Option (Bytes × Bytes × Bytes)} b (Some (row_of e)) (find (same_names a) (map row_of es)) ≡ None
          → cond {A = Option ℤ} b (Some e.1) (lookup (same_act (record { subject = a.0; action = a.1; object = a.2 })) es) ≡ None
      by rest true k = absurd (nothing (sym k))
      by rest false k = rest k

  record ActsPut (s : Standing) (rows : List Row) : Type 0 where
    end : Standing
    made : put_all h.policy s rows ≡ Some end
    none : awaited h.policy end.reached ≡ None
    below : Below end.reached.stage Acts
    there : AllThere end.tables
    sessions : end.tables.sessions ≡ s.tables.sessions

  acts_put : (more done : List (Bytes × Bytes × Bytes)) (s : Standing) → awaited h.policy s.reached ≡ None → Below s.reached.stage Acts → AllThere s.tables
      → map row_of s.tables.acts ≡ done → h.acts ≡ done ++ more → ActsPut s (map (act_row h) more)
  acts_put [] done s none below there names is = record { end = s; made = refl; none = none; below = below; there = there; sessions = refl }
  acts_put (a ∷ more) done s none below there names is =
      let Q : PlainPolicy = h.policy in
      let k : ℕ = length done in
      let row : ActRow = record { subject = a.0; action = a.1; object = a.2; moment = unwrap_or (h.moment a.0 a.1 a.2) (pos 0) } in
      let t : Tables = s.tables in
      let in_order = o.acts k a (ap (λ (l : List (Bytes × Bytes × Bytes)). slice_get l k) is ∙ get_mid done a more) in
      let once : find (same_names a) (map row_of t.acts) ≡ None = ap (find (same_names a)) (names ∙ sym (ap (take k) is ∙ take_mid done (a ∷ more))) ∙ in_order.once in
      let all : length h.acts ≡ length (done ++ a ∷ more) = ap length is in
      let count : length t.acts ≡ k = sym (length-map t.acts row_of) ∙ ap length names in
      let room : length t.acts < 1048576 = omega (arith, count, all, length-append done (a ∷ more), o.few_acts) in
      let both = entities_there t a.0 a.2 there in_order.entities in
      let put_row : Row = Act a.0 a.1 a.2 row.moment in
      let may : may_put t put_row ≡ true =
      both_so _ _ (lt-ltb (length t.acts) 1048576 room) (both_so _ _ (both_so _ _ both.0 both.1) (both_so _ _ (past_so t row.moment there in_order.past) (ap is_none (never_done a t.acts once)))) in
      let t1 : Tables = with_act_row t row in
      let rest = acts_put more (done ++ a ∷ []) (at Acts 0 t1) refl refl (record { subjects = there.subjects; objects = there.objects; tick = there.tick })
      (map-append row_of t.acts _ ∙ ap (λ (l : List (Bytes × Bytes × Bytes)). l ++ a ∷ []) names) (is ∙ sym (append_assoc done (a ∷ []) more)) in
      record {
        end = rest.end;
        made = put_first Q s rest.end put_row (reaching Acts 0) (map (act_row h) more) (row_comes (awaited Q s.reached) s.reached Acts none below) may rest.made;
        none = rest.none;
        below = rest.below;
        there = rest.there;
        sessions = rest.sessions;
      }

  -- ---- sessions

  record SessionsPut (s : Standing) (n : ℕ) : Type 0 where
    end : Standing
    made : put_all h.policy s (session_rows_to h.session n) ≡ Some end
    none : awaited h.policy end.reached ≡ None
    there : AllThere end.tables
    sessions : end.tables.sessions ≡ sessions_to h.session n
    count : length end.tables.sessions ≡ n

  room_so : (t : Tables) (before : List SessionRow) (state : SessionState) → t.sessions ≡ before → HasRoomBehind before state → has_room_in t state ≡ true
  room_so t before Accessing is room = ap (λ (ss : List SessionRow). nat_lt (accessing_among ss) 65536) is ∙ lt-ltb (accessing_among before) 65536 room
  room_so t before Requesting is room = refl
  room_so t before Denied is room = refl
  room_so t before Revoked is room = refl
  room_so t before Ended is room = refl

  starts_so : (state : SessionState) (start : ℤ) → StartsAtZero state start → starts_right state start ≡ true
  starts_so Requesting start z = ap is_zero z
  starts_so Denied start z = ap is_zero z
  starts_so Accessing start z = refl
  starts_so Revoked start z = refl
  starts_so Ended start z = refl

  after_all_sessions : (r : Reached) (row : SessionRow) → awaited h.policy r ≡ None → after h.policy r (Session row) ≡ Some (reaching Sessions 0)
  after_all_sessions r row none = row_comes (awaited h.policy r) r Sessions none (last r.stage)
    where
      last : (stage : Stage) → Below stage Sessions
      last Variables = refl
      last Subjects = refl
      last Objects = refl
      last Acts = refl
      last Sessions = refl

  sessions_put : (n : ℕ) (s : Standing) → n ≤ h.sessions → awaited h.policy s.reached ≡ None → AllThere s.tables → s.tables.sessions ≡ [] → SessionsPut s n
  sessions_put zero s le none there empty = record { end = s; made = refl; none = none; there = there; sessions = empty; count = ap length empty }
  sessions_put (suc n) s le none there empty =
      let Q : PlainPolicy = h.policy in
      let rest = sessions_put n s (omega (arith, le)) none there empty in
      let one = some_and (h.session (suc n)) (IsSessionInOrder h n) (o.sessions n (omega (arith, le))) in
      let row : SessionRow = one.0 in
      let t : Tables = rest.end.tables in
      let both = entities_there t row.subject row.object rest.there one.1.1.entities in
      let room : length t.sessions < 1048576 = omega (arith, rest.count, le, o.few_sessions) in
      let may : may_put t (Session row) ≡ true =
      both_so _ _ (lt-ltb (length t.sessions) 1048576 room) (both_so _ _ (room_so t (sessions_to h.session n) row.state rest.sessions one.1.1.room)
      (both_so _ _ (both_so _ _ both.0 both.1) (both_so _ _ (past_so t row.start rest.there one.1.1.past) (starts_so row.state row.start one.1.1.starts)))) in
      let end : Standing = at Sessions 0 (with_new_session t row) in
      let last : put_all Q rest.end (Session row ∷ []) ≡ Some end = put_first Q rest.end end (Session row) (reaching Sessions 0) [] (after_all_sessions rest.end.reached row rest.none) may refl in
      record {
        end = end;
        made = ap (λ (p : Option SessionRow). put_all Q s (session_rows_to h.session n ++ session_rows p)) one.1.0 ∙ put_on Q s rest.end end (session_rows_to h.session n) (Session row ∷ []) rest.made last;
        none = refl;
        there = record { subjects = rest.there.subjects; objects = rest.there.objects; tick = rest.there.tick };
        sessions = ap₂ (λ (l : List SessionRow) (p : Option SessionRow). l ++ one_session p) rest.sessions (sym one.1.0);
        count = length-append t.sessions (row ∷ []) ∙ omega (arith, rest.count);
      }

  -- ---- all of it

  pub whole_in_order : AreWhole h.policy h.tick (rows_held h)
  whole_in_order =
      let Q : PlainPolicy = h.policy in
      let t0 : Tables = with_tick (opening_tables Q) h.tick in
      let row : Bytes → Value → Row = λ n v. Variable n v in
      let fit = each_at variable_place (λ (p : Bytes × Kind). IsSomeAnd (h.variable p.0) (λ v. IsTrue (admits p.1 v))) Q.envs (λ i d here. o.variables i d here) in
      let vs = values_put Q Variables row h.variable (λ i n v. refl) (λ t n v. refl) (λ t n v. like_variable t v (env_position Q n)) (declared_in Q Variables) [] t0 refl fit in
      let s1 : Standing = at Variables (length (declared_in Q Variables)) vs.end in
      let variables : put_all Q (start Q h.tick) (flat_map (variable_rows h) Q.envs) ≡ Some s1 =
      ap (put_all Q (start Q h.tick)) (sym (flat_map-map (λ (p : Bytes × Kind). given (λ v. Variable p.0 v) (h.variable p.0)) variable_place Q.envs)) ∙ vs.made in
      let subjects = side_put sides.Subject (h.names sides.Subject) [] s1 (get_end (declared_in Q Variables)) refl (ap (map name_of) vs.alike.subjects) refl in
      let none_yet : map name_of subjects.end.tables.objects ≡ [] = ap (map name_of) (subjects.others.entities ∙ vs.alike.objects) in
      let objects = side_put sides.Object (h.names sides.Object) [] subjects.end subjects.none (later subjects.end.reached.stage subjects.below) none_yet refl in
      let there : AllThere objects.end.tables = record {
        subjects = ap (map name_of) objects.others.entities ∙ subjects.names;
        objects = objects.names;
        tick = objects.others.tick ∙ subjects.others.tick ∙ vs.alike.tick;
      } in
      let no_acts : map row_of objects.end.tables.acts ≡ [] = ap (map row_of) (objects.others.acts ∙ subjects.others.acts ∙ vs.alike.acts) in
      let acts = acts_put h.acts [] objects.end objects.none (later_too objects.end.reached.stage objects.below) there no_acts refl in
      let sessions = sessions_put h.sessions acts.end (omega arith) acts.none acts.there (acts.sessions ∙ objects.others.sessions ∙ subjects.others.sessions ∙ vs.alike.sessions) in
      let made : put_all Q (start Q h.tick) (rows_held h) ≡ Some sessions.end =
      put_on Q (start Q h.tick) s1 sessions.end (flat_map (variable_rows h) Q.envs) _ variables
      (put_on Q s1 subjects.end sessions.end (flat_map (entity_rows h sides.Subject) (h.names sides.Subject)) _ subjects.made
      (put_on Q subjects.end objects.end sessions.end (flat_map (entity_rows h sides.Object) (h.names sides.Object)) _ objects.made
      (put_on Q objects.end acts.end sessions.end (map (act_row h) h.acts) _ acts.made sessions.made))) in
      subst (λ (e : Option Standing). IsSomeAnd e (λ s. awaited Q s.reached ≡ None)) (sym made) sessions.none
    where
      later : (stage : Stage) → Below stage Subjects → Below stage Objects
      later Variables le = refl
      later Subjects le = refl
      later Objects le = absurd (false≢true le)
      later Acts le = absurd (false≢true le)
      later Sessions le = absurd (false≢true le)

      later_too : (stage : Stage) → Below stage Objects → Below stage Acts
      later_too Variables le = refl
      later_too Subjects le = refl
      later_too Objects le = refl
      later_too Acts le = absurd (false≢true le)
      later_too Sessions le = absurd (false≢true le)
