-- At most 65,536 sessions are accessing in what the rows of a checkpoint make.
use Rattle.std.proofs.Common.{◌≡◌, ℕ, ◌+◌, ◌≤◌, ℤ, Bool, true, false, cond, List, [], ◌∷◌, ◌++◌, refl, sym, ap, subst, arith}
use Rattle.std.specs.Prelude.{Option, Some, None, option_and_then, unwrap_or}
use Rattle.std.specs.Option.{option_map_or}
use Rattle.std.proofs.lemmas.Bool.{and_parts, ltb-true}
use Rattle.std.proofs.lemmas.List.Sums.{fold-append}
use Rattle.ucon_base.specs.declared.value.Side.{Side}
use Rattle.ucon_base.specs.declared.value.Side.TheVariants as sides
use Rattle.ucon_model.specs.declared.session.SessionRow.{SessionRow}
use Rattle.ucon_model.specs.declared.session.SessionState.{SessionState}
use Rattle.ucon_model.specs.declared.session.SessionState.TheVariants.{Requesting, Denied, Accessing, Revoked, Ended}
use Rattle.ucon_model.specs.Plain.{Bytes, PlainPolicy}
use Rattle.ucon_model.specs.Readings.{env_position, is_accessing_state}
use Rattle.ucon_state.specs.Applied.{with_cell, with_entity, with_new_session, with_variable}
use Rattle.ucon_state.specs.Tables.{Tables, accessing_among}
use Rattle.ucon_point.specs.declared.order.Reached.{Reached}
use Rattle.ucon_point.specs.declared.order.Stage.{Stage}
use Rattle.ucon_point.specs.declared.row.Row.{Row}
use Rattle.ucon_point.specs.declared.row.Row.TheVariants.{Variable, Entity, Attribute, Act, Session}
use Rattle.ucon_point.specs.Order.{after}
use Rattle.ucon_point.specs.Standing.{Standing, start, side_of, last_cell, with_put, has_room_in, may_put, may_put_session, with_next, put, put_all}

abbrev AreFew : Tables → Type 0
AreFew t = accessing_among t.sessions ≤ 65536

few_if : (o : Option ℕ) (t : Tables) (change : ℕ → Tables) → ((n : ℕ) → AreFew (change n)) → AreFew t → AreFew (option_map_or change o t)
few_if None t change changed few = few
few_if (Some n) t change changed few = changed n

one_more : (rows : List SessionRow) (s : SessionRow) → accessing_among (rows ++ s ∷ []) ≡ accessing_among rows + cond (is_accessing_state s.state) 1 0
one_more rows s = fold-append (λ (n : ℕ) (row : SessionRow). n + cond (is_accessing_state row.state) 1 0) 0 rows (s ∷ [])

few_with_session : (t : Tables) (state : SessionState) → has_room_in t state ≡ true → AreFew t
    → accessing_among t.sessions + cond (is_accessing_state state) 1 0 ≤ 65536
few_with_session t Accessing room few = omega (arith, ltb-true (accessing_among t.sessions) 65536 room)
few_with_session t Requesting room few = omega (arith, few)
few_with_session t Denied room few = omega (arith, few)
few_with_session t Revoked room few = omega (arith, few)
few_with_session t Ended room few = omega (arith, few)

few_session : (t : Tables) (s : SessionRow) → may_put_session t s ≡ true → AreFew t → AreFew (with_new_session t s)
few_session t s may few =
    let room = (and_parts _ _ (and_parts _ _ may).1).0 in
    subst (λ (n : ℕ). n ≤ 65536) (sym (one_more t.sessions s)) (few_with_session t s.state room few)

few_entity : (Q : PlainPolicy) (t : Tables) (side : Side) (name : Bytes) → AreFew t → AreFew (with_entity Q t side name)
few_entity Q t sides.Subject name few = few
few_entity Q t sides.Object name few = few

-- each row that may be put leaves few
few_with_put : (Q : PlainPolicy) (stage : Stage) (t : Tables) (row : Row) → may_put t row ≡ true → AreFew t → AreFew (with_put Q stage t row)
few_with_put Q stage t (Variable name v) may few = few_if (env_position Q name) t (λ place. with_variable t place v) (λ place. few) few
few_with_put Q stage t (Entity side name) may few = few_entity Q t side name few
few_with_put Q stage t (Attribute attr v) may few = few_if (last_cell Q t (side_of stage) attr) t (λ cell. with_cell t cell v) (λ cell. few) few
few_with_put Q stage t (Act subject action object moment) may few = few
few_with_put Q stage t (Session s) may few = few_session t s may few

few_if_put : (Q : PlainPolicy) (s : Standing) (row : Row) (next : Reached) (end : Standing) (b : Bool) → may_put s.tables row ≡ b
    → cond b (Some (record { reached = next; tables = with_put Q s.reached.stage s.tables row })) None ≡ Some end → AreFew s.tables → AreFew end.tables
few_if_put Q s row next end true may is few =
    subst (λ (e : Standing). AreFew e.tables) (ap (λ (o : Option Standing). unwrap_or o end) is) (few_with_put Q s.reached.stage s.tables row may few)
few_if_put Q s row next end false may is few = absurd cc

few_next : (Q : PlainPolicy) (s : Standing) (row : Row) (o : Option Reached) (end : Standing) → option_and_then (with_next Q s row) o ≡ Some end
    → AreFew s.tables → AreFew end.tables
few_next Q s row None end is few = absurd cc
few_next Q s row (Some next) end is few = few_if_put Q s row next end (may_put s.tables row) refl is few

few_behind : (Q : PlainPolicy) (rows : List Row) (o : Option Standing) (end : Standing)
    → ((s : Standing) → put_all Q s rows ≡ Some end → AreFew s.tables → AreFew end.tables)
    → option_and_then (λ next. put_all Q next rows) o ≡ Some end → ((s : Standing) → o ≡ Some s → AreFew s.tables) → AreFew end.tables
few_behind Q rows None end rest is few = absurd cc
few_behind Q rows (Some s) end rest is few = rest s is (few s refl)

few_all : (Q : PlainPolicy) (rows : List Row) (s end : Standing) → put_all Q s rows ≡ Some end → AreFew s.tables → AreFew end.tables
few_all Q [] s end is few = subst (λ (e : Standing). AreFew e.tables) (ap (λ (o : Option Standing). unwrap_or o end) is) few
few_all Q (row ∷ rows) s end is few =
    few_behind Q rows (put Q s row) end (λ next. few_all Q rows next end) is (λ next put. few_next Q s row (after Q s.reached row) next put few)

pub points_few : (Q : PlainPolicy) (now : ℤ) (rows : List Row) (end : Standing) → put_all Q (start Q now) rows ≡ Some end → AreFew end.tables
points_few Q now rows end is = few_all Q rows (start Q now) end is (omega arith)
