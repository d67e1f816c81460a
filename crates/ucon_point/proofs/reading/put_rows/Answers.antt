use Rattle.std.proofs.Common.{◌≡◌, ◌-◌, ◌∙◌, Ok, true, false, length, refl, sym, subst, arith}
use Rattle.std.specs.Prelude.{◌==◌, ◌&&◌, is_none}
use Rattle.ucon_model.specs.Plain.{PlainPolicy}
use Rattle.ucon_model.specs.Views.{policy_of}
use Rattle.ucon_state.specs.Shown.{shown}
use Rattle.ucon_point.specs.Faults.{IsBadAt}
use Rattle.ucon_point.specs.Order.{awaited, beginning}
use Rattle.ucon_point.specs.PointRead.{row_at, rows_from}
use Rattle.ucon_point.specs.Standing.{standing}
use Rattle.ucon_point.proofs.LineWalk.{so_far_bad, so_far_end, so_far_short}
use Rattle.ucon_point.proofs.PutSoFar.{so_far_put}
use Rattle.ucon_point.proofs.reading.put_rows.Goals as goal

pub returns-in-Err-clause-rows : goal.returns-in-Err-clause-rows
returns-in-Err-clause-rows c =
    let Q = (shown c.args.state.now).policy in
    let all = rows_from c.args.total Q (standing beginning c.args.state.now) c.args.bytes.now in
    let now = standing c.loop-line.reached c.loop-line.state in
    let so = c.loop-line.invariant.2 in
    so_far_bad c.args.total Q all so.rows now c.loop-line.rest.now c.in-Some.line.now c.in-Some.behind.now c.in-Err.fault
    c.loop-line.invariant.3 c.in-Some.ensures.within c.in-Some.ensures.cut
    (subst (λ (R : PlainPolicy). IsBadAt (row_at (c.args.total - length c.loop-line.rest.now) R now c.in-Some.line.now) c.in-Err.fault) c.loop-line.invariant.0 c.in-Err.ensures.row) so.left

pub loop-line-preserved : goal.loop-line-preserved
loop-line-preserved c =
    let Q = (shown c.args.state.now).policy in
    let before = standing beginning c.args.state.now in
    let all = rows_from c.args.total Q before c.args.bytes.now in
    let now = standing c.loop-line.reached c.loop-line.state in
    let next = standing c.in-Ok.next c.put_line.new.state in
    let row = c.in-Ok.ensures.row in (
      c.in-Ok.ensures.policy ∙ c.loop-line.invariant.0,
      c.in-Ok.ensures.last,
      so_far_put c.args.total Q before all now next row.0 c.loop-line.rest.now c.in-Some.line.now c.in-Some.behind.now
          c.loop-line.invariant.3 c.in-Some.ensures.within c.in-Some.ensures.cut
          (subst (λ (R : PlainPolicy). row_at (c.args.total - length c.loop-line.rest.now) R now c.in-Some.line.now ≡ Ok (row.0, next)) c.loop-line.invariant.0 row.1)
          c.loop-line.invariant.2,
      omega (arith, c.loop-line.invariant.3, c.in-Some.ensures.within),
    )

pub returns-then-is_end-clause-rows : goal.returns-then-is_end-clause-rows
returns-then-is_end-clause-rows c =
    let Q = (shown c.args.state.now).policy in
    let all = rows_from c.args.total Q (standing beginning c.args.state.now) c.args.bytes.now in
    let now = standing c.loop-line.reached c.loop-line.state in
    let so = c.loop-line.invariant.2 in
    let same : policy_of c.policy.result.now ≡ Q = c.policy.ensures.policy ∙ c.checked.ensures ∙ c.loop-line.invariant.0 in
    let end = subst (λ (R : PlainPolicy). (length c.loop-line.rest.now == 0 && is_none (awaited R c.loop-line.reached)) ≡ true) same (sym c.is_end.ensures ∙ c.if-is_end.true) in
    record {
      rows = so.rows;
      come = so_far_end c.args.total Q all so.rows now c.loop-line.rest.now c.loop-line.invariant.3 c.in_default.ensures.cut end so.left;
      end = now;
      made = so.made;
      tables = refl;
    }

pub returns-else-is_end-clause-rows : goal.returns-else-is_end-clause-rows
returns-else-is_end-clause-rows c =
    let Q = (shown c.args.state.now).policy in
    let all = rows_from c.args.total Q (standing beginning c.args.state.now) c.args.bytes.now in
    let now = standing c.loop-line.reached c.loop-line.state in
    let so = c.loop-line.invariant.2 in
    let same : policy_of c.policy.result.now ≡ Q = c.policy.ensures.policy ∙ c.checked.ensures ∙ c.loop-line.invariant.0 in
    let short = subst (λ (R : PlainPolicy). (length c.loop-line.rest.now == 0 && is_none (awaited R c.loop-line.reached)) ≡ false) same (sym c.is_end.ensures ∙ c.if-is_end.false) in
    so_far_short c.args.total Q all so.rows now c.loop-line.rest.now c.loop-line.invariant.3 c.in_default.ensures.cut short so.left
