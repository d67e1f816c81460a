use Rattle.std.proofs.Common.{◌≡◌, ◌∙◌, ◌++◌, ℕ, ap, List, length, take, arith}
use Rattle.std.proofs.Math.Seq.{take-append_seam}
use Rattle.ucon_base.specs.declared.value.Side.{Side}
use Rattle.ucon_base.specs.declared.value.Side.TheVariants as sides
use Rattle.ucon_base.specs.declared.value.Value.{Value}
use Rattle.ucon_model.specs.Plain.{Bytes}
use Rattle.ucon_state.specs.declared.change.Change.TheVariants.{Entity}
use Rattle.ucon_state.specs.Applied.{with_name, with_new_entity}
use Rattle.ucon_state.specs.Stored.{Stored}
use Rattle.ucon_state.specs.Undo.{undone}
use Rattle.ucon_state.specs.Views.{lists_of}
use Rattle.ucon_state.proofs.Entities.{entity_undone}
use Rattle.ucon_state.proofs.tables.Tables.add_entity.Goals as goal

-- a name behind the others, once its cells are there
named_new : (t : Stored) (side : Side) (name : Bytes) (first : ℕ) (values cells : List Value) → first ≡ length t.cells → cells ≡ t.cells ++ values
    → with_name (record t { cells = cells }) side name first ≡ with_new_entity t side name values
named_new t sides.Subject name first values cells begins are =
    ap (λ (vs : List Value). with_name (record t { cells = vs }) sides.Subject name first) are ∙ ap (λ (n : ℕ). with_name (record t { cells = t.cells ++ values }) sides.Subject name n) begins
named_new t sides.Object name first values cells begins are =
    ap (λ (vs : List Value). with_name (record t { cells = vs }) sides.Object name first) are ∙ ap (λ (n : ℕ). with_name (record t { cells = t.cells ++ values }) sides.Object name n) begins

pub returns-clause-ok : goal.returns-clause-ok
returns-clause-ok c =
    let begins : c.len-first.result ≡ length c.args.self.now.cells.items = omega (arith, c.len-first.ensures, c.args.self.now.cells.ok.0) in
    c.in_default.ensures.ok
    ∙ named_new (lists_of c.args.self.now) c.args.side c.args.name c.len-first.result c.args.defaults.items c.append.new.self.items begins c.in_ok-append.ensures.items

pub returns-clause-undone : goal.returns-clause-undone
returns-clause-undone c =
    let t = lists_of c.args.self.now in
    let values = c.args.defaults.items in
    let begins : c.len-first.result ≡ length t.cells = omega (arith, c.len-first.ensures, c.args.self.now.cells.ok.0) in
    let ok = c.in_default.ensures.ok ∙ named_new t c.args.side c.args.name c.len-first.result values c.append.new.self.items begins c.in_ok-append.ensures.items in
    ap (undone (Entity c.args.side c.len-first.result)) ok
    ∙ ap (λ (n : ℕ). undone (Entity c.args.side n) (with_new_entity t c.args.side c.args.name values)) begins
    ∙ entity_undone t c.args.side c.args.name values

pub returns-in-Err-clause-err : goal.returns-in-Err-clause-err
returns-in-Err-clause-err c =
    let t = lists_of c.args.self.now in
    let begins : c.len-first.result ≡ length t.cells = omega (arith, c.len-first.ensures, c.args.self.now.cells.ok.0) in
    let front = ap (λ (vs : List Value). take c.len-first.result vs) (ap (λ (u : Stored). u.cells) c.in-Err.ensures.err ∙ c.in_ok-append.ensures.items)
    ∙ ap (λ (n : ℕ). take n (t.cells ++ c.args.defaults.items)) begins ∙ take-append_seam t.cells c.args.defaults.items in
    ap (λ (u : Stored). record u { cells = c.truncate.new.self.items }) c.in-Err.ensures.err
    ∙ ap (λ (vs : List Value). record t { cells = vs }) (c.truncate.ensures.items ∙ front)
