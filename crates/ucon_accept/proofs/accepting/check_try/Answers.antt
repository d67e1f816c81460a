use Rattle.std.proofs.Common.{◌≡◌, refl, subst}
use Rattle.std.specs.Prelude.{IfErr, OnOk}
use Rattle.ucon_state.specs.Shown.{shown}
use Rattle.ucon_accept.specs.Checking.{IsCause}
use Rattle.ucon_accept.specs.Explanation.{PlainExplanation, explanation_of}
use Rattle.ucon_accept.specs.Trying.{explained_with}
use Rattle.ucon_accept.proofs.Answered.{checked_same}
use Rattle.ucon_accept.proofs.Meeting.{explained_by, judged_by}
use Rattle.ucon_accept.proofs.accepting.check_try.Goals as goal

pub check-requires : goal.check-requires
check-requires c =
    let h = c.requires.following in
    let e = c.args.e.now in
    judged_by c.tables_keep_what_is_followed.ensures c.each_action_is_followed.ensures.after c.typed_tests_make_no_set.ensures.all c.typed_tests_make_no_set.ensures.one
    (shown c.args.state.now) h.policy h.trace h.follows e.subject e.right e.object c.requires.allowed
    c.tried.result c.number.result c.tried.ensures c.number.ensures

pub returns-clause-ok : goal.returns-clause-ok
returns-clause-ok c =
    let s = shown c.args.state.now in
    let e = explanation_of c.args.e.now in
    let is = explained_by s e.subject e.right e.object c.tried.result c.number.result c.tried.ensures c.number.ensures in
    checked_same c.check.result e (explained_with s e.subject e.right e.object) refl refl refl
    (subst (λ (x : PlainExplanation). OnOk c.check.result (e.whys ≡ x.whys)) is c.check.ensures.lines)
    (subst (λ (x : PlainExplanation). OnOk c.check.result (e.verdict ≡ x.verdict)) is c.check.ensures.verdict)

pub returns-clause-err : goal.returns-clause-err
returns-clause-err c =
    let s = shown c.args.state.now in
    let e = explanation_of c.args.e.now in
    subst (λ (x : PlainExplanation). IfErr c.check.result (λ w. IsCause w e.whys e.verdict x.whys x.verdict))
    (explained_by s e.subject e.right e.object c.tried.result c.number.result c.tried.ensures c.number.ensures)
    c.check.ensures.err
