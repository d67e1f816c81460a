use Rattle.std.proofs.Common.{◌≡◌, ◌∙◌, sym, rules}
use Rattle.std.specs.Prelude.{None}
use Rattle.ucon_state.specs.Shown.{shown}
use Rattle.ucon_accept.specs.Explanation.{explanation_of}
use Rattle.ucon_accept.specs.Trying.{refusal_shown}
use Rattle.ucon_accept.proofs.Answered.{accepted_right, refused_wrong, right_accepted, right_is_allowed}
use Rattle.ucon_accept.proofs.Meeting.{refusal_same}
use Rattle.ucon_accept.proofs.accepting.accept.Goals as goal

pub returns-in-Some-clause-accepted : goal.returns-in-Some-clause-accepted
returns-in-Some-clause-accepted c =
    let s = shown c.args.state.now in
    let e = explanation_of c.args.e.now in
    (λ yes. absurd (cc (yes)), λ right. absurd (cc (c.in-Some.ensures.shown, right_is_allowed c.tables_keep_what_is_followed.ensures s c.requires e right)))

pub returns-in-Some-clause-wrong : goal.returns-in-Some-clause-wrong
returns-in-Some-clause-wrong c = λ P T h.
    let e = explanation_of c.args.e.now in
    sym (refusal_same c.tables_keep_what_is_followed.ensures (shown c.args.state.now) P T h e.subject e.right e.object) ∙ sym c.in-Some.ensures.shown

pub returns-clause-accepted : goal.returns-clause-accepted
returns-clause-accepted c =
    let s = shown c.args.state.now in
    let e = explanation_of c.args.e.now in
    let none : refusal_shown s e.subject e.right e.object ≡ None = search rules in (
      accepted_right c.tables_keep_what_is_followed.ensures c.each_action_is_followed.ensures.after c.readings_that_agree_are_one.ensures s e none
          c.check_try.result c.check_try.ensures.ok,
      right_accepted c.tables_keep_what_is_followed.ensures c.each_action_is_followed.ensures.after c.readings_that_agree_are_one.ensures s c.requires e none
          c.check_try.result c.check_try.ensures.err,
    )

pub returns-clause-wrong : goal.returns-clause-wrong
returns-clause-wrong c =
    let s = shown c.args.state.now in
    let e = explanation_of c.args.e.now in
    let none : refusal_shown s e.subject e.right e.object ≡ None = search rules in
    refused_wrong c.tables_keep_what_is_followed.ensures c.each_action_is_followed.ensures.after c.readings_that_agree_are_one.ensures s e none
    c.check_try.result c.check_try.ensures.err
