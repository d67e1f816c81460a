-- What a checkpoint lists grows with each step.
use Rattle.std.proofs.Common.{◌≡◌, ℕ, ◌+◌, ◌-◌, ◌≤◌, ◌<◌, Bool, true, false, List, [], ◌∷◌, ◌++◌, length, max, length-append, refl, sym, subst, ◌∙◌, arith}
use Rattle.std.specs.Prelude.{◌&&◌, nat_le, nat_lt, is_none, if◌then◌else◌}
use Rattle.ucon_base.specs.declared.value.Side.TheVariants.{Subject, Object}
use Rattle.ucon_model.specs.Action.{Action, Trace, subject, object, write, env, tick, act, tries, wait, permit, deny, ends, revoke, amend, extended}
use Rattle.ucon_model.specs.Block.{after, block}
use Rattle.ucon_model.specs.History.{History, trace, trace_from}
use Rattle.ucon_model.specs.Plain.{Bytes, PlainPolicy}
use Rattle.ucon_model.specs.Readings.{act_rows, entity_names, has_entity, moment, sessions, with_new}
use Rattle.ucon_state.specs.Held.{held_after}
use Rattle.ucon_converse.specs.Due.{is_due, is_due_after, size_of}

-- how many entities, acts and sessions there are after a trace
abbrev size : Trace → ℕ
size T = length (entity_names Subject T) + length (entity_names Object T) + length (act_rows T) + sessions T

names_grow : (there : Bool) (names : List Bytes) (name : Bytes) → length names ≤ length (with_new there names name)
names_grow true names name = omega arith
names_grow false names name = let l = length-append names (name ∷ []) in omega arith

acts_grow : (new : Bool) (rows : List (Bytes × Bytes × Bytes)) (row : Bytes × Bytes × Bytes) → length rows ≤ length (if new then rows ++ row ∷ [] else rows)
acts_grow true rows row = let l = length-append rows (row ∷ []) in omega arith
acts_grow false rows row = omega arith

one_grows : (a : Action) (T : Trace) → size T ≤ size (a ∷ T)
one_grows (subject name) T = let n = names_grow (has_entity Subject name T) (entity_names Subject T) name in omega arith
one_grows (object name) T = let n = names_grow (has_entity Object name T) (entity_names Object T) name in omega arith
one_grows (write side name attr v) T = omega arith
one_grows (env name v) T = omega arith
one_grows (tick t) T = omega arith
one_grows (act s a o) T = let n = acts_grow (is_none (moment s a o T)) (act_rows T) (s, a, o) in omega arith
one_grows (tries n caller s r o) T = omega arith
one_grows (wait n label) T = omega arith
one_grows (permit n) T = omega arith
one_grows (deny n label) T = omega arith
one_grows (ends n) T = omega arith
one_grows (revoke n label) T = omega arith
one_grows (amend text policy) T = omega arith

all_grow : (actions : List Action) (T : Trace) → size T ≤ size (extended T actions)
all_grow [] T = omega arith
all_grow (a ∷ actions) T = let one = one_grows a T in let all = all_grow actions (a ∷ T) in omega arith

entries_grow : (P : PlainPolicy) (T : Trace) (es : History) → size T ≤ size (trace_from P T es)
entries_grow P T [] = omega arith
entries_grow P T (e ∷ es) =
    let one = all_grow (block P T e.caller e.command) T in let all = entries_grow P (after P T e.caller e.command) es in omega arith

trace_on : (P : PlainPolicy) (T : Trace) (H es : History) → trace_from P T (H ++ es) ≡ trace_from P (trace_from P T H) es
trace_on P T [] es = refl
trace_on P T (e ∷ H) es = trace_on P (after P T e.caller e.command) H es

sizes : (P : PlainPolicy) (T : Trace) → size_of (held_after P T) ≡ size T
sizes P T = refl

not_due : (since size : ℕ) → since < max 4096 (size + 1) → is_due since size ≡ false
not_due since size lt = by (nat_le 4096 since) (nat_lt size since) refl refl
  where
    by : (a b : Bool) → nat_le 4096 since ≡ a → nat_lt size since ≡ b → (a && b) ≡ false
    by false b x y = refl
    by true false x y = refl
    by true true x y = absurd (let no : ⊥ = grind arith in no)

-- where so many steps more make none due, fewer entries behind make none due
pub due_later : (P : PlainPolicy) (tried room place was : ℕ) (H es : History) → place ≡ length H → was ≡ size_of (held_after P (trace P H)) → length es < room
    → room ≤ max 4096 (was + 1) - (place - tried) → is_due_after P tried (H ++ es) ≡ false
due_later P tried room place was H es count at few within =
    let long = length-append H es in
    let grown : size (trace P H) ≤ size (trace P (H ++ es)) =
    subst (λ (T : Trace). size (trace P H) ≤ size T) (sym (trace_on P [] H es)) (entries_grow P (trace P H) es) in
    let now : was ≡ size (trace P H) = at ∙ sizes P (trace P H) in
    let later : size_of (held_after P (trace P (H ++ es))) ≡ size (trace P (H ++ es)) = sizes P (trace P (H ++ es)) in
    not_due (length (H ++ es) - tried) (size_of (held_after P (trace P (H ++ es)))) (omega arith)
