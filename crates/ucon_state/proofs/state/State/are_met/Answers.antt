use Rattle.std.proofs.Common.{List, subst}
use Rattle.std.specs.List.{All}
use Rattle.std.proofs.lemmas.List.{take_all}
use Rattle.std.proofs.lemmas.List.Elements.{All-more}
use Rattle.ucon_model.specs.Checked.{checked_policy}
use Rattle.ucon_state.specs.declared.planned.Check.{Check}
use Rattle.ucon_state.specs.Planned.{IsMet}
use Rattle.ucon_state.specs.Shown.{right_names}
use Rattle.ucon_state.specs.Stored.{named, row_of}
use Rattle.ucon_state.specs.Tables.{readings_in}
use Rattle.ucon_state.specs.Views.{lists_of}
use Rattle.ucon_state.proofs.state.State.are_met.Goals as goal

pub loop-check-preserved : goal.loop-check-preserved
loop-check-preserved c =
    let s = c.args.self.now in
    let P = checked_policy s.planned.checked in
    let t = lists_of s.tables in
    let Met = IsMet P (readings_in P (named (right_names s) t)) (row_of (right_names s) t.subjects t.objects c.args.session.now) in
    All-more Met c.args.checks.now c.loop-check.check-index c.check-item.result c.loop-check-test.true c.loop-check.invariant
    (subst Met c.check-item.is (c.is_met.ensures c.if-not-is_met.false))

pub returns : goal.returns
returns c = λ yes.
    let s = c.args.self.now in
    let P = checked_policy s.planned.checked in
    let t = lists_of s.tables in
    let Met = IsMet P (readings_in P (named (right_names s) t)) (row_of (right_names s) t.subjects t.objects c.args.session.now) in
    subst (λ (checks : List Check). All Met checks) (take_all c.loop-check.check-index c.args.checks.now c.loop-check-test.false) c.loop-check.invariant
