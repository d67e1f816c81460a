use Rattle.std.proofs.Common.{◌∙◌, sym}
use Rattle.ucon_state.specs.Shown.{shown}
use Rattle.ucon_accept.proofs.Meeting.{refusal_same}
use Rattle.ucon_accept.proofs.trying.refusal.Goals as goal

pub returns-clause-refused : goal.returns-clause-refused
returns-clause-refused c = λ P T h.
    sym (refusal_same c.tables_keep_what_is_followed.ensures (shown c.args.state.now) P T h c.args.subject.now c.args.right.now c.args.object.now)
    ∙ sym c.refusal_by_tables.ensures
