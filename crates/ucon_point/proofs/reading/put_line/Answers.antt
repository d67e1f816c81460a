use Rattle.std.proofs.Common.{rules, sym, subst}
use Rattle.ucon_model.specs.Plain.{PlainPolicy}
use Rattle.ucon_model.specs.Typing.{IsTyped}
use Rattle.ucon_state.specs.Shown.{Shown, shown}
use Rattle.ucon_point.specs.Standing.{HasLast}
use Rattle.ucon_point.proofs.Coming.{last_there, row_fits}
use Rattle.ucon_point.proofs.reading.put_line.Goals as goal

pub put_row-requires : goal.put_row-requires
put_row-requires c =
    let s = shown c.args.state.now in
    row_fits s.policy (subst (λ (Q : PlainPolicy). IsTyped Q) c.checked.ensures c.policy.ensures.typed) s.tables c.args.reached c.in-Some.row c.in-Some-after.next c.requires (search rules)

pub returns-then-branch-clause-last : goal.returns-then-branch-clause-last
returns-then-branch-clause-last c =
    let s = shown c.args.state.now in
    let made = c.in_ok-put_row.ensures.put c.if-branch.true in
    subst (λ (u : Shown). HasLast c.in-Some-after.next.stage u.tables) (sym made) (last_there s.policy s.tables c.args.reached c.in-Some.row c.in-Some-after.next c.requires (search rules))
