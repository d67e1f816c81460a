use Rattle.std.proofs.Common.{◌≡◌, ◌≤◌, ◌<◌, ◌+◌, ◌∙◌, Some, refl, sym, ap, take, length, subst, arith}
use Rattle.std.proofs.lemmas.List.{length-map}
use Rattle.ucon_model.specs.Plain.{PlainPolicy}
use Rattle.ucon_model.specs.Action.{Trace}
use Rattle.ucon_model.specs.Readings.{in_force, session}
use Rattle.ucon_model.specs.Updates.{updates_of}
use Rattle.ucon_model.specs.Views.{update_of}
use Rattle.ucon_state.specs.Following.{Follows}
use Rattle.ucon_state.specs.Shown.{shown}
use Rattle.ucon_state.specs.Tables.{session_in}
use Rattle.ucon_actions.specs.Updating.{first_written_out, update_at, updates_in, written_out}
use Rattle.ucon_engine.specs.ReadOff.{session_same}
use Rattle.ucon_actions.proofs.Writes.{written_out-more}
use Rattle.ucon_actions.proofs.Updated.{all_written, in_trace, none_written, row_stays_by, row_written, updates_stay, with_row}
use Rattle.ucon_actions.proofs.Keeping.{base_on, same_base}
use Rattle.ucon_actions.proofs.update.run_each_update.Goals as goal

pub loop-at-init : goal.loop-at-init
loop-at-init c =
    let s = shown c.args.state.now in
    record {
      leads = λ P T h. subst (λ (U : Trace). Follows s P U) (sym (none_written P c.args.n c.args.when T)) h;
      base = same_base s s refl;
    }

pub run_update-requires-clause-following : goal.run_update-requires-clause-following
run_update-requires-clause-following c =
    let P = c.requires.policy in
    record {
      policy = P;
      trace = first_written_out P c.args.n c.args.when c.loop-at.at c.requires.trace;
      follows = c.loop-at.invariant.leads P c.requires.trace c.requires.follows;
    }

pub run_update-requires-clause-at : goal.run_update-requires-clause-at
run_update-requires-clause-at c =
    let keep = c.tables_keep_what_is_followed.ensures in
    let s = shown c.args.state.now in
    let s1 = shown c.loop-at.state in
    let P = c.requires.policy in
    let T = c.requires.trace in
    let h = c.requires.follows in
    let lt : c.loop-at.at < length (updates_in s c.args.n) =
    omega (arith, ap length c.updates_in.ensures, length-map c.updates_in.result.now update_of, c.loop-at-test.true) in
    with_row s.policy (session_in s.tables c.args.n) c.loop-at.at lt (λ row is.
    let us = take c.loop-at.at (updates_of (in_force P T) row) in
    let there : session T c.args.n ≡ Some row = session_same keep s P T h c.args.n ∙ is in
    let follows = subst (λ (U : Trace). Follows s1 P U) (row_written P c.args.n c.args.when T c.loop-at.at row there) (c.loop-at.invariant.leads P T h) in
    updates_stay s s1 c.args.n c.loop-at.at row c.loop-at.invariant.base.policy is
    (row_stays_by keep c.writes_leave_sessions.ensures.sessions s s1 P T h c.args.n row c.args.when us is follows) lt)

pub loop-at-preserved : goal.loop-at-preserved
loop-at-preserved c =
    let keep = c.tables_keep_what_is_followed.ensures in
    let s = shown c.args.state.now in
    let s1 = shown c.loop-at.state in
    let n = c.args.n in
    let lt : c.loop-at.at < length (updates_in s n) =
    omega (arith, ap length c.updates_in.ensures, length-map c.updates_in.result.now update_of, c.loop-at-test.true) in
    record {
      leads = λ P T h. with_row s.policy (session_in s.tables n) c.loop-at.at lt (λ row is.
          let us = updates_of (in_force P T) row in
          let U = written_out P row c.args.when (take c.loop-at.at us) T in
          let there : session T n ≡ Some row = session_same keep s P T h n ∙ is in
          let follows = subst (λ (V : Trace). Follows s1 P V) (row_written P n c.args.when T c.loop-at.at row there) (c.loop-at.invariant.leads P T h) in
          let stays : in_force P U ≡ in_force P T = sym follows.policy ∙ c.loop-at.invariant.base.policy ∙ h.policy in
          let still = row_stays_by keep c.writes_leave_sessions.ensures.sessions s s1 P T h n row c.args.when (take c.loop-at.at us) is follows in
          subst (λ (V : Trace). Follows (shown c.run_update.new.state) P V)
          (ap (λ (Q : PlainPolicy). written_out P row c.args.when (update_at Q row c.loop-at.at) U) stays ∙ sym (written_out-more P row c.args.when us c.loop-at.at T)
          ∙ sym (row_written P n c.args.when T (c.loop-at.at + 1) row there))
          (c.in_ok-run_update.ensures.leads row still P U follows));
      base = base_on s s1 (shown c.run_update.new.state) c.loop-at.invariant.base c.in_ok-run_update.ensures.base;
    }

pub returns-clause-leads : goal.returns-clause-leads
returns-clause-leads c = λ P T h.
    let keep = c.tables_keep_what_is_followed.ensures in
    let s = shown c.args.state.now in
    let n = c.args.n in
    let all : length (updates_in s n) ≤ c.loop-at.at = omega (arith, ap length c.updates_in.ensures, length-map c.updates_in.result.now update_of, c.loop-at-test.false) in
    subst (λ (U : Trace). Follows (shown c.loop-at.state) P U)
    (all_written P n c.args.when T c.loop-at.at (in_trace keep s P T h n c.loop-at.at all))
    (c.loop-at.invariant.leads P T h)

pub returns-in_err-run_update-clause-base : goal.returns-in_err-run_update-clause-base
returns-in_err-run_update-clause-base c =
    base_on (shown c.args.state.now) (shown c.loop-at.state) (shown c.run_update.new.state) c.loop-at.invariant.base c.run_update.ensures.base
