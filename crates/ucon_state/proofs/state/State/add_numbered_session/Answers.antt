use Rattle.std.proofs.Common.{◌≡◌, subst, ℤ}
use Rattle.std.specs.Prelude.{OnOk}
use Rattle.ucon_model.specs.declared.session.SessionState.TheVariants.{Requesting}
use Rattle.ucon_state.specs.Applied.{with_new_session}
use Rattle.ucon_state.specs.Shown.{changed_to, right_names, shown}
use Rattle.ucon_state.specs.Stored.{row_of}
use Rattle.ucon_state.proofs.state.State.add_numbered_session.Goals as goal

pub returns-clause-ok : goal.returns-clause-ok
returns-clause-ok c =
    let s = shown c.args.self.now in
    subst (λ (start : ℤ). OnOk c.push_session.result (shown c.push_session.new.self ≡ changed_to s (with_new_session s.tables
    (row_of (right_names c.args.self.now) s.tables.subjects s.tables.objects
    (record { caller = c.args.caller; state = Requesting; right = c.args.right; subject = c.args.subject; object = c.args.object; start = start })))))
    c.zero.ensures c.push_session.ensures.ok
