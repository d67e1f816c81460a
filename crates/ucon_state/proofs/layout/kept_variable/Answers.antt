use Rattle.std.proofs.Common.{◌≡◌, ◌∙◌, ℕ, sym, ap, subst, slice_get, option_and_then, option_copied, unwrap_or, IfOk, List, Option}
use Rattle.std.specs.Slice.{IsItemAt}
use Rattle.ucon_base.specs.declared.value.Value.{Value}
use Rattle.ucon_model.specs.Plain.{PlainPolicy}
use Rattle.ucon_model.specs.Readings.{env_position}
use Rattle.ucon_state.specs.Views.{lists_of}
use Rattle.ucon_state.proofs.Places.{read_at}
use Rattle.ucon_state.proofs.layout.kept_variable.Goals as goal

pub returns-in_default : goal.returns-in_default
returns-in_default c =
    let d = c.args.decl.now in
    let values = (lists_of c.args.tables.now).variables in
    let position = c.env_position.ensures ∙ ap (λ (P : PlainPolicy). env_position P d.name) c.policy.ensures.policy in
    let found = ap (option_and_then (λ (i : ℕ). slice_get values i)) (sym c.in_default.is ∙ position) in
    subst (λ (v : Value). IfOk c.copy.result (λ w. w ≡ v)) (ap (λ (o : Option Value). unwrap_or o d.start) found) c.copy.ensures

pub returns-in-None : goal.returns-in-None
returns-in-None c =
    let d = c.args.decl.now in
    let values = (lists_of c.args.tables.now).variables in
    let position = c.env_position.ensures ∙ ap (λ (P : PlainPolicy). env_position P d.name) c.policy.ensures.policy in
    let read = subst (λ (vs : List Value). IsItemAt vs c.in-Some.position c.get.result) c.deref.ensures.value c.get.ensures.lookup in
    let found = sym (ap option_copied c.in-None.is) ∙ read_at values c.in-Some.position c.get.result read ∙ ap (option_and_then (λ (i : ℕ). slice_get values i)) (sym c.in-Some.is ∙ position) in
    subst (λ (v : Value). IfOk c.copy-in-None.result (λ w. w ≡ v)) (ap (λ (o : Option Value). unwrap_or o d.start) found) c.copy-in-None.ensures

pub returns-in-Some-get : goal.returns-in-Some-get
returns-in-Some-get c =
    let d = c.args.decl.now in
    let values = (lists_of c.args.tables.now).variables in
    let position = c.env_position.ensures ∙ ap (λ (P : PlainPolicy). env_position P d.name) c.policy.ensures.policy in
    let read = subst (λ (vs : List Value). IsItemAt vs c.in-Some.position c.get.result) c.deref.ensures.value c.get.ensures.lookup in
    let found = sym (ap option_copied c.in-Some-get.is) ∙ read_at values c.in-Some.position c.get.result read ∙ ap (option_and_then (λ (i : ℕ). slice_get values i)) (sym c.in-Some.is ∙ position) in
    subst (λ (v : Value). IfOk c.copy-in-Some-get.result (λ w. w ≡ v)) (ap (λ (o : Option Value). unwrap_or o d.start) found) c.copy-in-Some-get.ensures
