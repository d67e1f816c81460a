-- Traces that give the same to read still do after the same action.
use Rattle.std.proofs.Common.{◌≡◌, ◌∙◌, ℕ, zero, suc, ◌+◌, Bool, true, false, cond, List, [], ◌∷◌, ◌++◌, refl, sym, ap, subst}
use Rattle.std.specs.Prelude.{◌&&◌, ◌||◌, nat_eq, Option, Some, None, is_none, is_some, pos}
use Rattle.std.specs.Str.{bytes_eq}
use Rattle.ucon_base.specs.declared.value.Side.{Side}
use Rattle.ucon_base.specs.declared.value.Side.TheVariants.{Subject, Object}
use Rattle.ucon_base.specs.declared.value.Value.{Value}
use Rattle.ucon_model.specs.declared.formula.Ref.{Ref}
use Rattle.ucon_model.specs.declared.formula.Ref.TheVariants as refs
use Rattle.ucon_model.specs.declared.session.SessionRow.{SessionRow}
use Rattle.ucon_model.specs.declared.session.SessionState.TheVariants.{Requesting, Denied, Accessing, Revoked, Ended}
use Rattle.ucon_model.specs.Plain.{Bytes, PlainPolicy}
use Rattle.ucon_model.specs.Action.{Action, Trace, subject, object, write, env, tick, act, tries, permit, deny, ends, revoke, amend, extended}
use Rattle.ucon_model.specs.Readings.{in_force, tick_of, has_entity, entities, entity_names, with_new, same_side, declared_attr, declared_env, attr_default, env_default, given_attr, given_env, attribute, variable, moment, act_rows, acts, changed_if, session, sessions, is_accessing, accessing_up_to, accessing}
use Rattle.ucon_model.specs.Truth.{place_of, readings}

-- two traces, each from the policy that it began under, give the same to read
pub record ReadTheSame (P : PlainPolicy) (T : Trace) (Q : PlainPolicy) (U : Trace) : Type 0 where
  pub policy : in_force P T ≡ in_force Q U
  pub now : tick_of T ≡ tick_of U
  pub there : (side : Side) (e : Bytes) → has_entity side e T ≡ has_entity side e U
  pub names : (side : Side) → entity_names side T ≡ entity_names side U
  pub count : (side : Side) → entities side T ≡ entities side U
  pub values : (side : Side) (e attr : Bytes) → attribute P T side e attr ≡ attribute Q U side e attr
  pub variables : (name : Bytes) → variable P T name ≡ variable Q U name
  pub moments : (s a o : Bytes) → moment s a o T ≡ moment s a o U
  pub rows : act_rows T ≡ act_rows U
  pub acts_count : acts T ≡ acts U
  pub one : (n : ℕ) → session T n ≡ session U n
  pub sessions_count : sessions T ≡ sessions U

-- ---- how a value after an action depends on the one before it

by_making : (b there declared : Bool) (default given : Option Value)
    → cond ((b || there) && declared) (cond b default given) None ≡ cond b (cond declared default None) (cond (there && declared) given None)
by_making true there declared default given = refl
by_making false there declared default given = refl

by_write : (that held : Bool) (v given : Option Value) → cond held (cond that v given) None ≡ cond that (cond held v None) (cond held given None)
by_write true held v given = refl
by_write false held v given = refl

by_amendment : (there old new : Bool) (given default : Option Value)
    → cond (there && new) (cond old given default) None ≡ cond (there && new) (cond old (cond (there && old) given None) default) None
by_amendment true true new given default = refl
by_amendment true false new given default = refl
by_amendment false old new given default = refl

by_env_amendment : (old new : Bool) (given default : Option Value) → cond new (cond old given default) None ≡ cond new (cond old (cond old given None) default) None
by_env_amendment true new given default = refl
by_env_amendment false new given default = refl

-- ---- after one action

module _ (P : PlainPolicy) (T : Trace) (Q : PlainPolicy) (U : Trace) (h : ReadTheSame P T Q U) where
  policy_step : (a : Action) → in_force P (a ∷ T) ≡ in_force Q (a ∷ U)
  policy_step (amend text R) = refl
  policy_step a = h.policy

  now_step : (a : Action) → tick_of (a ∷ T) ≡ tick_of (a ∷ U)
  now_step (tick t) = refl
  now_step a = h.now

  there_step : (a : Action) (side : Side) (e : Bytes) → has_entity side e (a ∷ T) ≡ has_entity side e (a ∷ U)
  there_step (subject name) Subject e = ap (λ (b : Bool). bytes_eq e name || b) (h.there Subject e)
  there_step (object name) Object e = ap (λ (b : Bool). bytes_eq e name || b) (h.there Object e)
  there_step a Subject e = h.there Subject e
  there_step a Object e = h.there Object e

  names_step : (a : Action) (side : Side) → entity_names side (a ∷ T) ≡ entity_names side (a ∷ U)
  names_step (subject name) Subject = λ t. with_new (h.there Subject name t) (h.names Subject t) name
  names_step (object name) Object = λ t. with_new (h.there Object name t) (h.names Object t) name
  names_step a Subject = h.names Subject
  names_step a Object = h.names Object

  count_step : (a : Action) (side : Side) → entities side (a ∷ T) ≡ entities side (a ∷ U)
  count_step (subject name) Subject = ap (λ (n : ℕ). n + 1) (h.count Subject)
  count_step (object name) Object = ap (λ (n : ℕ). n + 1) (h.count Object)
  count_step a Subject = h.count Subject
  count_step a Object = h.count Object

  made_value : (side : Side) (name e attr : Bytes)
      → cond ((bytes_eq e name || has_entity side e T) && is_some (declared_attr (in_force P T).attrs side attr)) (cond (bytes_eq e name) (attr_default (in_force P T) side attr) (given_attr P side e attr T)) None
      ≡ cond ((bytes_eq e name || has_entity side e U) && is_some (declared_attr (in_force Q U).attrs side attr)) (cond (bytes_eq e name) (attr_default (in_force Q U) side attr) (given_attr Q side e attr U)) None
  made_value side name e attr =
      by_making (bytes_eq e name) (has_entity side e T) (is_some (declared_attr (in_force P T).attrs side attr)) (attr_default (in_force P T) side attr) (given_attr P side e attr T)
      ∙ ((λ t. cond (bytes_eq e name) (cond (is_some (declared_attr (h.policy t).attrs side attr)) (attr_default (h.policy t) side attr) None) (h.values side e attr t))
      ∙ sym (by_making (bytes_eq e name) (has_entity side e U) (is_some (declared_attr (in_force Q U).attrs side attr)) (attr_default (in_force Q U) side attr) (given_attr Q side e attr U)))

  written_value : (that : Bool) (v : Value) (side : Side) (e attr : Bytes)
      → cond (has_entity side e T && is_some (declared_attr (in_force P T).attrs side attr)) (cond that (Some v) (given_attr P side e attr T)) None
      ≡ cond (has_entity side e U && is_some (declared_attr (in_force Q U).attrs side attr)) (cond that (Some v) (given_attr Q side e attr U)) None
  written_value that v side e attr =
      by_write that (has_entity side e T && is_some (declared_attr (in_force P T).attrs side attr)) (Some v) (given_attr P side e attr T)
      ∙ ((λ t. cond that (cond (h.there side e t && is_some (declared_attr (h.policy t).attrs side attr)) (Some v) None) (h.values side e attr t))
      ∙ sym (by_write that (has_entity side e U && is_some (declared_attr (in_force Q U).attrs side attr)) (Some v) (given_attr Q side e attr U)))

  amended_value : (R : PlainPolicy) (side : Side) (e attr : Bytes)
      → cond (has_entity side e T && is_some (declared_attr R.attrs side attr)) (cond (is_some (declared_attr (in_force P T).attrs side attr)) (given_attr P side e attr T) (attr_default R side attr)) None
      ≡ cond (has_entity side e U && is_some (declared_attr R.attrs side attr)) (cond (is_some (declared_attr (in_force Q U).attrs side attr)) (given_attr Q side e attr U) (attr_default R side attr)) None
  amended_value R side e attr =
      by_amendment (has_entity side e T) (is_some (declared_attr (in_force P T).attrs side attr)) (is_some (declared_attr R.attrs side attr)) (given_attr P side e attr T) (attr_default R side attr)
      ∙ ((λ t. cond (h.there side e t && is_some (declared_attr R.attrs side attr)) (cond (is_some (declared_attr (h.policy t).attrs side attr)) (h.values side e attr t) (attr_default R side attr)) None)
      ∙ sym (by_amendment (has_entity side e U) (is_some (declared_attr (in_force Q U).attrs side attr)) (is_some (declared_attr R.attrs side attr)) (given_attr Q side e attr U) (attr_default R side attr)))

  values_step : (a : Action) (side : Side) (e attr : Bytes) → attribute P (a ∷ T) side e attr ≡ attribute Q (a ∷ U) side e attr
  values_step (subject name) Subject e attr = made_value Subject name e attr
  values_step (object name) Object e attr = made_value Object name e attr
  values_step (write s n x v) Subject e attr = written_value (same_side Subject s && bytes_eq e n && bytes_eq attr x) v Subject e attr
  values_step (write s n x v) Object e attr = written_value (same_side Object s && bytes_eq e n && bytes_eq attr x) v Object e attr
  values_step (amend text R) Subject e attr = amended_value R Subject e attr
  values_step (amend text R) Object e attr = amended_value R Object e attr
  values_step a Subject e attr = h.values Subject e attr
  values_step a Object e attr = h.values Object e attr

  variables_step : (a : Action) (name : Bytes) → variable P (a ∷ T) name ≡ variable Q (a ∷ U) name
  variables_step (env n v) name =
      by_write (bytes_eq name n) (is_some (declared_env (in_force P T).envs name)) (Some v) (given_env P name T)
      ∙ ((λ t. cond (bytes_eq name n) (cond (is_some (declared_env (h.policy t).envs name)) (Some v) None) (h.variables name t))
      ∙ sym (by_write (bytes_eq name n) (is_some (declared_env (in_force Q U).envs name)) (Some v) (given_env Q name U)))
  variables_step (amend text R) name =
      by_env_amendment (is_some (declared_env (in_force P T).envs name)) (is_some (declared_env R.envs name)) (given_env P name T) (env_default R name)
      ∙ ((λ t. cond (is_some (declared_env R.envs name)) (cond (is_some (declared_env (h.policy t).envs name)) (h.variables name t) (env_default R name)) None)
      ∙ sym (by_env_amendment (is_some (declared_env (in_force Q U).envs name)) (is_some (declared_env R.envs name)) (given_env Q name U) (env_default R name)))
  variables_step a name = h.variables name

  moments_step : (b : Action) (s a o : Bytes) → moment s a o (b ∷ T) ≡ moment s a o (b ∷ U)
  moments_step (act s' a' o') s a o = λ t. cond (bytes_eq s s' && bytes_eq a a' && bytes_eq o o') (Some (h.now t)) (h.moments s a o t)
  moments_step b s a o = h.moments s a o

  rows_step : (b : Action) → act_rows (b ∷ T) ≡ act_rows (b ∷ U)
  rows_step (act s a o) = λ t. cond (is_none (h.moments s a o t)) (h.rows t ++ (s, a, o) ∷ []) (h.rows t)
  rows_step b = h.rows

  acts_step : (b : Action) → acts (b ∷ T) ≡ acts (b ∷ U)
  acts_step (act s a o) = λ t. h.acts_count t + cond (is_none (h.moments s a o t)) 1 0
  acts_step b = h.acts_count

  one_step : (a : Action) (n : ℕ) → session (a ∷ T) n ≡ session (a ∷ U) n
  one_step (tries m c s r o) n =
      ap (λ (x : Option SessionRow). cond (nat_eq n m) (Some (record { caller = c; right = r; subject = s; object = o; state = Requesting; start = pos 0 })) x) (h.one n)
  one_step (permit m) n = λ t. changed_if (nat_eq n m) (λ row. record row { state = Accessing; start = h.now t }) (h.one n t)
  one_step (deny m l) n = ap (changed_if (nat_eq n m) (λ row. record row { state = Denied })) (h.one n)
  one_step (ends m) n = ap (changed_if (nat_eq n m) (λ row. record row { state = Ended })) (h.one n)
  one_step (revoke m l) n = ap (changed_if (nat_eq n m) (λ row. record row { state = Revoked })) (h.one n)
  one_step a n = h.one n

  sessions_step : (a : Action) → sessions (a ∷ T) ≡ sessions (a ∷ U)
  sessions_step (tries m c s r o) = ap (λ (n : ℕ). n + 1) h.sessions_count
  sessions_step a = h.sessions_count

  pub same_step : (a : Action) → ReadTheSame P (a ∷ T) Q (a ∷ U)
  same_step a = record {
    policy = policy_step a;
    now = now_step a;
    there = there_step a;
    names = names_step a;
    count = count_step a;
    values = values_step a;
    variables = variables_step a;
    moments = moments_step a;
    rows = rows_step a;
    acts_count = acts_step a;
    one = one_step a;
    sessions_count = sessions_step a;
  }

-- ---- after many actions

same_extended : (P : PlainPolicy) (T : Trace) (Q : PlainPolicy) (U : Trace) → ReadTheSame P T Q U → (actions : List Action) → ReadTheSame P (extended T actions) Q (extended U actions)
same_extended P T Q U h [] = h
same_extended P T Q U h (a ∷ actions) = same_extended P (a ∷ T) Q (a ∷ U) (same_step P T Q U h a) actions

-- after the same action on both sides
pub same_after : (P : PlainPolicy) (T : Trace) (Q : PlainPolicy) (U : Trace) → ReadTheSame P T Q U → (a b : Action) → a ≡ b → ReadTheSame P (a ∷ T) Q (b ∷ U)
same_after P T Q U h a b is = subst (λ (x : Action). ReadTheSame P (a ∷ T) Q (x ∷ U)) is (same_step P T Q U h a)

pub same_behind : (P : PlainPolicy) (T : Trace) (Q : PlainPolicy) (U : Trace) → ReadTheSame P T Q U → (one other : List Action) → one ≡ other
    → ReadTheSame P (extended T one) Q (extended U other)
same_behind P T Q U h one other is = subst (λ (x : List Action). ReadTheSame P (extended T one) Q (extended U x)) is (same_extended P T Q U h one)

-- ---- what is decided by it

module _ (P : PlainPolicy) (T : Trace) (Q : PlainPolicy) (U : Trace) (h : ReadTheSame P T Q U) where
  place_same : (row : SessionRow) (place : Ref) → place_of P T row place ≡ place_of Q U row place
  place_same row (refs.Subject attr) = h.values Subject row.subject attr
  place_same row (refs.Object attr) = h.values Object row.object attr
  place_same row (refs.Env name) = h.variables name

  pub readings_same : readings P T ≡ readings Q U
  readings_same = λ t. record {
    now = h.now t;
    row = λ n. h.one n t;
    at = λ row place. place_same row place t;
    done_at = λ s a o. h.moments s a o t;
  }

  accessing_same_to : (n : ℕ) → accessing_up_to T n ≡ accessing_up_to U n
  accessing_same_to zero = refl
  accessing_same_to (suc n) = λ t. accessing_same_to n t + cond (is_accessing (h.one (suc n) t)) 1 0

  pub accessing_same : accessing T ≡ accessing U
  accessing_same = ap (accessing_up_to T) h.sessions_count ∙ accessing_same_to (sessions U)
