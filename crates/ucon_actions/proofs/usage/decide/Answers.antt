use Rattle.std.proofs.Common.{refl, ◌∙◌, sym}
use Rattle.ucon_model.specs.declared.reply.Head.TheVariants.{Permitted, Denied, Waiting}
use Rattle.ucon_model.specs.declared.session.SessionState.TheVariants.{Requesting}
use Rattle.ucon_model.specs.declared.session.Verdict.TheVariants.{Permit, Deny, Wait}
use Rattle.ucon_state.specs.Shown.{shown}
use Rattle.ucon_actions.proofs.Typed.{no_sets_there}
use Rattle.ucon_actions.proofs.Deciding.{session_there, verdict_same, waits, makes_by_verdict}
use Rattle.ucon_actions.proofs.usage.decide.Goals as goal

pub verdict-requires-clause-there : goal.verdict-requires-clause-there
verdict-requires-clause-there c = session_there (shown c.args.state.now).tables c.args.n Requesting c.requires.requesting

pub verdict-requires-clause-no_set : goal.verdict-requires-clause-no_set
verdict-requires-clause-no_set c =
    let keep = c.tables_keep_what_is_followed.ensures in
    no_sets_there keep c.typed_tests_make_no_set.ensures.all (shown c.args.state.now) c.requires.following.policy c.requires.following.trace c.requires.following.follows c.args.n

pub returns-in-Wait-clause-made : goal.returns-in-Wait-clause-made
returns-in-Wait-clause-made c = λ P T h.
    let keep = c.tables_keep_what_is_followed.ensures in
    let followed = c.each_action_is_followed.ensures.after in
    let s = shown c.args.state.now in
    let is = sym (verdict_same keep s P T h c.args.n) ∙ sym c.verdict.ensures ∙ c.in-Wait.is in
    makes_by_verdict (Waiting c.args.n c.in-Wait.label) s P T c.args.n (Wait c.in-Wait.label) is (refl, waits keep s P T h followed c.args.n c.in-Wait.label c.requires.requesting is)

pub returns-in_ok-permit-in-Permit-clause-made : goal.returns-in_ok-permit-in-Permit-clause-made
returns-in_ok-permit-in-Permit-clause-made c = λ P T h.
    let keep = c.tables_keep_what_is_followed.ensures in
    let s = shown c.args.state.now in
    let is = sym (verdict_same keep s P T h c.args.n) ∙ sym c.verdict.ensures ∙ c.in-Permit.is in
    makes_by_verdict (Permitted c.args.n) (shown c.permit.new.state) P T c.args.n Permit is (refl, c.in_ok-permit-in-Permit.ensures.leads P T h)

pub returns-in_ok-deny-in-Deny-clause-made : goal.returns-in_ok-deny-in-Deny-clause-made
returns-in_ok-deny-in-Deny-clause-made c = λ P T h.
    let keep = c.tables_keep_what_is_followed.ensures in
    let s = shown c.args.state.now in
    let is = sym (verdict_same keep s P T h c.args.n) ∙ sym c.verdict.ensures ∙ c.in-Deny.is in
    makes_by_verdict (Denied c.args.n c.in-Deny.label) (shown c.deny.new.state) P T c.args.n (Deny c.in-Deny.label) is (refl, c.in_ok-deny-in-Deny.ensures.leads P T h)
