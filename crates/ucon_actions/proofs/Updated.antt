-- Updates that run.
use Rattle.std.proofs.Common.{◌≡◌, ◌∙◌, sym, ap, subst, ℕ, zero, suc, ◌<◌, ◌≤◌, Bool, true, cond, List, [], ◌∷◌, length, map, take, get_or, refl, arith}
use Rattle.std.specs.Prelude.{Result, Ok, Err, OnOk, Option, Some, None, option_map, option_and_then, slice_get, IsSomeAnd, IsTrue}
use Rattle.std.specs.Option.{option_map_or, option_to_list}
use Rattle.std.proofs.lemmas.List.{length-map, take_all}
use Rattle.std.proofs.lemmas.Option.{slice_get-map, slice_get_read}
use Rattle.ucon_base.specs.declared.value.Side.{Side}
use Rattle.ucon_base.specs.declared.value.Side.TheVariants.{Subject, Object}
use Rattle.ucon_base.specs.declared.value.Value.{Value}
use Rattle.ucon_base.specs.Admits.{admits}
use Rattle.ucon_model.specs.declared.policy.Update.{Update}
use Rattle.ucon_model.specs.declared.policy.When.{When}
use Rattle.ucon_model.specs.declared.session.SessionRow.{SessionRow}
use Rattle.ucon_model.specs.Plain.{Bytes, PlainPolicy, PlainRight, PlainUpdate}
use Rattle.ucon_model.specs.Action.{Trace, write, extended}
use Rattle.ucon_model.specs.Readings.{in_force, has_entity, declared_attr, session}
use Rattle.ucon_model.specs.Truth.{Readings, readings}
use Rattle.ucon_model.specs.Decision.{right_named}
use Rattle.ucon_model.specs.Updates.{same_when, entity_of, result, write_of, writes, updates_of, session_writes}
use Rattle.ucon_model.specs.Fitting.{AttributeAdmits, ResultFits, UpdatesFit}
use Rattle.ucon_base.specs.Elements.{Each}
use Rattle.ucon_model.specs.Typing.{IsTyped}
use Rattle.ucon_model.specs.Views.{update_of}
use Rattle.ucon_model.specs.Sound.{IsGrounded}
use Rattle.ucon_model.specs.Asked as asked
use Rattle.ucon_state.specs.Tables.{session_in, readings_in}
use Rattle.ucon_state.specs.Shown.{Shown}
use Rattle.ucon_state.specs.Following.{Follows}
use Rattle.ucon_actions.specs.Updating.{written_out, first_written_out, update_at, updates_in}
use Rattle.ucon_engine.specs.ReadOff.{TablesKeep, readings_same, session_same}

-- ---- the update at a place

-- an update that was read stands at its place
pub picked : (raw : List Update) (us : List PlainUpdate) (at : ℕ) (u : Update) → map update_of raw ≡ us → at < length us → u ≡ get_or raw at u → slice_get us at ≡ Some (update_of u)
picked raw us at u seen lt is =
    let within : at < length raw = omega (arith, ap length seen, length-map raw update_of) in
    ap (λ (xs : List PlainUpdate). slice_get xs at) (sym seen) ∙ slice_get-map update_of raw at ∙ ap (option_map update_of) (slice_get_read raw (length raw) at u refl within is)

-- the updates of the right that a session names, if there is one
abbrev updates_by : PlainPolicy → Option SessionRow → List PlainUpdate
updates_by P o = option_map_or (λ (right : PlainRight). right.updates) (option_and_then (λ (row : SessionRow). right_named P.rights row.right) o) []

-- where there is an update, there is the session
pub with_row : {G : Type 0} (P : PlainPolicy) (o : Option SessionRow) (at : ℕ) → at < length (updates_by P o) → ((row : SessionRow) → o ≡ Some row → G) → G
with_row P None at lt told = absurd (omega (arith, lt))
with_row P (Some row) at lt told = told row refl

-- an update that was read stands at its place in the session's right
pub its_place : (s : Shown) (n at : ℕ) (raw : List Update) (u : Update) (row : SessionRow) → map update_of raw ≡ updates_in s n → at < length (updates_in s n) → u ≡ get_or raw at u
    → session_in s.tables n ≡ Some row → slice_get (updates_of s.policy row) at ≡ Some (update_of u)
its_place s n at raw u row seen lt is there =
    picked raw (updates_of s.policy row) at u (seen ∙ ap (updates_by s.policy) there) (subst (λ (o : Option SessionRow). at < length (updates_by s.policy o)) there lt) is

each_at : {A : Type 0} (Q : A → Type 0) (xs : List A) (i : ℕ) (x : A) → Each Q xs → slice_get xs i ≡ Some x → Q x
each_at Q [] i x each e = absurd cc
each_at Q (y ∷ xs) zero x each e = let same : y ≡ x = cc in subst Q same each.0
each_at Q (y ∷ xs) (suc i) x each e = each_at Q xs i x each.1 e

same_update : (o : Option PlainRight) (at : ℕ) → option_and_then (λ (right : PlainRight). slice_get right.updates at) o ≡ slice_get (option_map_or (λ (right : PlainRight). right.updates) o []) at
same_update None at = refl
same_update (Some right) at = refl

-- ---- its result

read_result : (P : PlainPolicy) (R : Readings) (n at : ℕ) (row : SessionRow) (u : PlainUpdate) (v : Value) → R.row n ≡ Some row → slice_get (updates_of P row) at ≡ Some u
    → asked.result_at P R n at ≡ Some v → v ≡ asked.result_read P R row u
read_result P R n at row u v is there given =
    let at_row : asked.result_at P R n at ≡ option_map (λ u. asked.result_read P R row u) (asked.update_at P row at) =
    ap (option_and_then (λ (row : SessionRow). option_map (λ u. asked.result_read P R row u) (asked.update_at P row at))) is in
    let at_update : asked.update_at P row at ≡ Some u = same_update (right_named P.rights row.right) at ∙ there in
    let told : asked.result_at P R n at ≡ Some (asked.result_read P R row u) = at_row ∙ ap (option_map (λ (u : PlainUpdate). asked.result_read P R row u)) at_update in
    cc

-- ---- it may be written

of_side : (side : Side) (row : SessionRow) (T : Trace) → IsGrounded T (Some row) → has_entity side (entity_of side row) T ≡ true
of_side Subject row T h = h.0
of_side Object row T h = h.1

-- the law that the results of a well typed policy's updates fit
abbrev pub TypedUpdatesFit : Type 0
TypedUpdatesFit = (P : PlainPolicy) (T : Trace) → IsTyped (in_force P T) → UpdatesFit P T

module _ (keep : TablesKeep) (s : Shown) (P : PlainPolicy) (T : Trace) (h : Follows s P T) where
  -- the result is that after the trace
  pub value_is : (n at : ℕ) (row : SessionRow) (u : PlainUpdate) (v : Value) → session_in s.tables n ≡ Some row
      → slice_get (updates_of s.policy row) at ≡ Some u → asked.result_at s.policy (readings_in s.policy s.tables) n at ≡ Some v → v ≡ result P T row u
  value_is n at row u v is there given =
      read_result s.policy (readings_in s.policy s.tables) n at row u v is there given
      ∙ ap (λ (R : Readings). asked.result_read s.policy R row u) (readings_same keep s P T h)
      ∙ ap (λ (Q : PlainPolicy). asked.result_read Q (readings P T) row u) h.policy

  grounded_row : (n : ℕ) (row : SessionRow) → session_in s.tables n ≡ Some row → IsGrounded T (Some row)
  grounded_row n row is = subst (IsGrounded T) (session_same keep s P T h n ∙ is) (h.sound.grounded n)

  -- the declaration admits the result
  pub result_admitted : TypedUpdatesFit → (n at : ℕ) (row : SessionRow) (u : PlainUpdate) (v : Value) → session_in s.tables n ≡ Some row
      → slice_get (updates_of s.policy row) at ≡ Some u → asked.result_at s.policy (readings_in s.policy s.tables) n at ≡ Some v
      → IsSomeAnd (declared_attr s.policy.attrs u.side u.attr) (λ d. IsTrue (admits d.kind v))
  result_admitted fit n at row u v is there given =
      let g = grounded_row n row is in
      let each : Each (ResultFits P T row) (updates_of (in_force P T) row) = fit P T h.typed row h.sound.fit g.0 g.1 in
      let here : slice_get (updates_of (in_force P T) row) at ≡ Some u = ap (λ (Q : PlainPolicy). slice_get (updates_of Q row) at) (sym h.policy) ∙ there in
      let fits : AttributeAdmits (in_force P T) u.side u.attr (result P T row u) = each_at (ResultFits P T row) (updates_of (in_force P T) row) at u each here in
      subst (λ (Q : PlainPolicy). AttributeAdmits Q u.side u.attr v) (sym h.policy)
      (subst (AttributeAdmits (in_force P T) u.side u.attr) (sym (value_is n at row u v is there given)) fits)

-- ---- the trace after it

written : (P : PlainPolicy) (row : SessionRow) (when : When) (u : PlainUpdate) (T : Trace) (b : Bool) → b ≡ true
    → extended T (cond b (write_of P row u T ∷ []) []) ≡ write_of P row u T ∷ T
written P row when u T b is = rw is refl

pub one_written : (P : PlainPolicy) (row : SessionRow) (when : When) (at : ℕ) (u : PlainUpdate) (T : Trace) (name : Bytes) (v : Value) → slice_get (updates_of (in_force P T) row) at ≡ Some u
    → same_when when u.when ≡ true → name ≡ entity_of u.side row → v ≡ result P T row u → write u.side name u.attr v ∷ T ≡ written_out P row when (update_at (in_force P T) row at) T
one_written P row when at u T name v there chosen named is =
    ap (λ (e : Bytes). write u.side e u.attr v ∷ T) named ∙ ap (λ (w : Value). write u.side (entity_of u.side row) u.attr w ∷ T) is
    ∙ sym (ap (λ (o : Option PlainUpdate). written_out P row when (option_to_list o) T) there ∙ written P row when u T (same_when when u.when) chosen)

-- ---- all of them

pub on_ok : {X E A B : Type 0} (r : Result X E) → (A → B) → OnOk r A → OnOk r B
on_ok (Ok x) f h = f h
on_ok (Err e) f h = h

module _ (P : PlainPolicy) (n : ℕ) (when : When) (T : Trace) where
  -- before the first update nothing is written
  pub none_written : first_written_out P n when 0 T ≡ T
  none_written = by (session T n)
    where
      by : (o : Option SessionRow) → option_map_or (λ row. written_out P row when (take 0 (updates_of (in_force P T) row)) T) o T ≡ T
      by None = refl
      by (Some row) = refl

  -- the first updates of the right of a session that is there
  pub row_written : (count : ℕ) (row : SessionRow) → session T n ≡ Some row
      → first_written_out P n when count T ≡ written_out P row when (take count (updates_of (in_force P T) row)) T
  row_written count row is = ap (λ (o : Option SessionRow). option_map_or (λ row. written_out P row when (take count (updates_of (in_force P T) row)) T) o T) is

  -- as many as there are: all
  pub all_written : (count : ℕ) → length (updates_by (in_force P T) (session T n)) ≤ count → first_written_out P n when count T ≡ extended T (session_writes P n when T)
  all_written count = by (session T n)
    where
      by : (o : Option SessionRow) → length (updates_by (in_force P T) o) ≤ count → option_map_or (λ row. written_out P row when (take count (updates_of (in_force P T) row)) T) o T
          ≡ extended T (option_map_or (λ row. writes P row when (updates_of (in_force P T) row) T) o [])
      by None le = refl
      by (Some row) le = ap (λ (us : List PlainUpdate). written_out P row when us T) (take_all count (updates_of (in_force P T) row) le)

-- where the policy and the session stay, the session's right has as many updates
pub updates_stay : (s s' : Shown) (n at : ℕ) (row : SessionRow) → s'.policy ≡ s.policy → session_in s.tables n ≡ Some row → session_in s'.tables n ≡ Some row
    → at < length (updates_in s n) → at < length (updates_in s' n)
updates_stay s s' n at row policy there still lt =
    subst (λ (us : List PlainUpdate). at < length us) (ap (updates_by s.policy) (there ∙ sym still) ∙ ap (λ (Q : PlainPolicy). updates_by Q (session_in s'.tables n)) (sym policy)) lt

-- the writes of updates leave every session
abbrev pub WritesLeaveSessions : Type 0
WritesLeaveSessions = (P : PlainPolicy) (row : SessionRow) (when : When) (us : List PlainUpdate) (n : ℕ) (T : Trace) → session (extended T (writes P row when us T)) n ≡ session T n

module _ (keep : TablesKeep) where
  -- the writes of updates leave the session whose they are
  pub row_stays_by : WritesLeaveSessions → (s s' : Shown) (P : PlainPolicy) (T : Trace) → Follows s P T → (n : ℕ) (row : SessionRow) (when : When) (us : List PlainUpdate) → session_in s.tables n ≡ Some row
      → Follows s' P (written_out P row when us T) → session_in s'.tables n ≡ Some row
  row_stays_by leave s s' P T h n row when us is h' =
      sym (session_same keep s' P (written_out P row when us T) h' n) ∙ leave P row when us n T ∙ session_same keep s P T h n ∙ is

  -- after the trace the session's right has as many, too
  pub in_trace : (s : Shown) (P : PlainPolicy) (T : Trace) → Follows s P T → (n count : ℕ) → length (updates_in s n) ≤ count → length (updates_by (in_force P T) (session T n)) ≤ count
  in_trace s P T h n count le =
      subst (λ (us : List PlainUpdate). length us ≤ count)
      (ap (λ (Q : PlainPolicy). updates_by Q (session_in s.tables n)) h.policy ∙ ap (updates_by (in_force P T)) (sym (session_same keep s P T h n))) le
