-- What stays: the policy, what undoing gives, and the cells of those that are there.
use Rattle.std.proofs.Common.{◌≡◌, ◌∙◌, ◌-◌, sym, ap, subst, ℕ}
use Rattle.std.specs.Prelude.{Result, Ok, Err, OnOk, OnErr, Option, Some, None}
use Rattle.std.specs.Option.{option_map_or}
use Rattle.ucon_base.specs.declared.value.Value.{Value}
use Rattle.ucon_model.specs.declared.session.SessionRow.{SessionRow}
use Rattle.ucon_model.specs.declared.session.SessionState.{SessionState}
use Rattle.ucon_model.specs.Plain.{Bytes}
use Rattle.ucon_model.specs.Action.{env}
use Rattle.ucon_model.specs.Readings.{env_position}
use Rattle.ucon_state.specs.Applied.{moved_to, with_row, with_state, with_variable}
use Rattle.ucon_state.specs.Shown.{Shown, changed_by, changed_to}
use Rattle.ucon_state.specs.Tables.{Tables, cell_of, session_in}
use Rattle.ucon_actions.specs.Leads.{KeepsBase, KeepsCells}

-- where nothing changed
pub same_base : (s s' : Shown) → s' ≡ s → KeepsBase s s'
same_base s s' is = record {
  policy = ap (λ (x : Shown). x.policy) is;
  opening_policy = ap (λ (x : Shown). x.opening_policy) is;
  opening = ap (λ (x : Shown). x.opening) is;
  cells = λ side name attr cell here. subst (λ (x : Shown). cell_of x.policy x.tables side name attr ≡ Some cell) (sym is) here;
}

-- where the tables changed, and left these cells
pub changed_base : (s s' : Shown) (t : Tables) → s' ≡ changed_to s t → KeepsCells s (changed_to s t) → KeepsBase s s'
changed_base s s' t is stay = record {
  policy = ap (λ (x : Shown). x.policy) is;
  opening_policy = ap (λ (x : Shown). x.opening_policy) is;
  opening = ap (λ (x : Shown). x.opening) is;
  cells = λ side name attr cell here. subst (λ (x : Shown). cell_of x.policy x.tables side name attr ≡ Some cell) (sym is) (stay side name attr cell here);
}

-- one after the other
pub base_on : (s s1 s2 : Shown) → KeepsBase s s1 → KeepsBase s1 s2 → KeepsBase s s2
base_on s s1 s2 first then = record {
  policy = then.policy ∙ first.policy;
  opening_policy = then.opening_policy ∙ first.opening_policy;
  opening = then.opening ∙ first.opening;
  cells = λ side name attr cell here. then.cells side name attr cell (first.cells side name attr cell here);
}

-- by a call that changes the tables so, or nothing
pub base_by : {X E : Type 0} (r : Result X E) (s s' : Shown) (t : Tables) → KeepsCells s (changed_to s t) → OnOk r (s' ≡ changed_to s t) → OnErr r (s' ≡ s) → KeepsBase s s'
base_by (Ok x) s s' t stay ok err = changed_base s s' t ok stay
base_by (Err e) s s' t stay ok err = same_base s s' err

-- a variable is no cell
pub cells_after_env : (s : Shown) (name : Bytes) (v : Value) → KeepsCells s (changed_by s (env name v))
cells_after_env s name v side n attr cell here = by (env_position s.policy name)
  where
    by : (o : Option ℕ) → cell_of s.policy (option_map_or (λ place. with_variable s.tables place v) o s.tables) side n attr ≡ Some cell
    by None = here
    by (Some place) = here

-- nor is a session
pub cells_after_move : (s : Shown) (n : ℕ) (state : SessionState) → KeepsCells s (changed_to s (with_state s.tables n state))
cells_after_move s n state side name attr cell here = by (session_in s.tables n)
  where
    by : (o : Option SessionRow)
        → cell_of s.policy (option_map_or (λ row. with_row s.tables (n - 1) (moved_to state s.tables.tick row)) o s.tables) side name attr ≡ Some cell
    by None = here
    by (Some row) = here
