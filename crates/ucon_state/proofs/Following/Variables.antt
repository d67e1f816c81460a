-- The tables keep the variables of the trace.
use Rattle.std.proofs.Common.{◌≡◌, ◌∙◌, sym, ap, subst, ℕ, Bool, true, false, cond, List, [], ◌∷◌, map, refl}
use Rattle.std.specs.Prelude.{Option, Some, None, option_map, option_and_then, is_some, slice_get, slice_set, IsSomeAnd}
use Rattle.std.specs.Str.{bytes_eq}
use Rattle.std.proofs.lemmas.Bool.{both_ways}
use Rattle.std.proofs.lemmas.List.{length-map, length-set}
use Rattle.std.proofs.lemmas.Option.{slice_get-map}
use Rattle.ucon_base.specs.declared.value.Value.{Value}
use Rattle.ucon_model.specs.declared.policy.EnvDecl.{EnvDecl}
use Rattle.ucon_model.specs.Plain.{Bytes, PlainPolicy}
use Rattle.ucon_model.specs.Action.{Trace, env}
use Rattle.ucon_model.specs.Readings.{in_force, declared_env, env_position, given_env}
use Rattle.ucon_state.specs.Following.{KeepsVariables}
use Rattle.ucon_state.proofs.Following.Places.{found_there, passes_there, written_gives, written_leaves}
use Rattle.ucon_state.proofs.Following.Names.{same_name, own_name}

-- ---- the defaults

start_there : (ds : List EnvDecl) (o : Option ℕ) → option_and_then (slice_get (map (λ d. d.start) ds)) o ≡ option_map (λ d. d.start) (option_and_then (slice_get ds) o)
start_there ds None = refl
start_there ds (Some i) = slice_get-map (λ (d : EnvDecl). d.start) ds i

where_declared : (o : Option EnvDecl) → option_map (λ d. d.start) o ≡ cond (is_some o) (option_map (λ d. d.start) o) None
where_declared None = refl
where_declared (Some d) = refl

pub keeps_variables_opening : (P : PlainPolicy) → KeepsVariables P (map (λ d. d.start) P.envs) []
keeps_variables_opening P = record {
  count = length-map P.envs (λ d. d.start);
  values = λ name.
      start_there P.envs (env_position P name) ∙ ap (option_map (λ (d : EnvDecl). d.start)) (found_there (λ d. bytes_eq name d.name) P.envs)
      ∙ where_declared (declared_env P.envs name);
}

-- ---- a value for a variable

-- a variable that has a place is declared
value_given : (R : PlainPolicy) (name : Bytes) (i : ℕ) (v : Value) (o : Option EnvDecl) → declared_env R.envs name ≡ o → option_and_then (slice_get R.envs) (Some i) ≡ o
    → IsSomeAnd (slice_get R.envs i) (λ d. bytes_eq name d.name ≡ true) → Some v ≡ cond (is_some o) (Some v) None
value_given R name i v None is there h = absurd (subst (λ (o : Option EnvDecl). IsSomeAnd o (λ d. bytes_eq name d.name ≡ true)) there h)
value_given R name i v (Some d) is there h = refl

given_by : (P : PlainPolicy) (variables : List Value) (T : Trace) (n name : Bytes) (v : Value) (i : ℕ) (b : Bool) → KeepsVariables P variables T
    → env_position (in_force P T) n ≡ Some i → bytes_eq name n ≡ b
    → option_and_then (slice_get (slice_set variables i v)) (env_position (in_force P T) name)
    ≡ cond (is_some (declared_env (in_force P T).envs name)) (cond b (Some v) (given_env P name T)) None
given_by P variables T n name v i true h at is =
    let R : PlainPolicy = in_force P T in
    let here : env_position R name ≡ Some i = ap (env_position R) (same_name name n is) ∙ at in
    written_gives R.envs variables h.count (λ d. bytes_eq name d.name) i v here
    ∙ value_given R name i v (declared_env R.envs name) refl
    (ap (option_and_then (slice_get R.envs)) (sym here) ∙ found_there (λ d. bytes_eq name d.name) R.envs)
    (passes_there (λ d. bytes_eq name d.name) R.envs i here)
given_by P variables T n name v i false h at is =
    written_leaves (in_force P T).envs variables h.count (λ d. bytes_eq n d.name) (λ d. bytes_eq name d.name) i v at
    (λ d one other. both_ways (bytes_eq name n) is (ap (bytes_eq name) (same_name n d.name one ∙ sym (same_name name d.name other)) ∙ own_name name))
    ∙ h.values name

pub keeps_variables_given : (P : PlainPolicy) (variables : List Value) (T : Trace) (n : Bytes) (v : Value) (i : ℕ) → KeepsVariables P variables T
    → env_position (in_force P T) n ≡ Some i → KeepsVariables P (slice_set variables i v) (env n v ∷ T)
keeps_variables_given P variables T n v i h at = record {
  count = length-set variables i v ∙ h.count;
  values = λ name. given_by P variables T n name v i (bytes_eq name n) h at refl;
}
